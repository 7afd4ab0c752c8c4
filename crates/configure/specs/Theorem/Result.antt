-- What configuring writes: "What is written passes the check and has the tree just described; configuring it again, for setting 0, gives the same bytes; and
-- two results have equal bytes exactly when their trees are equal."
use Rattle.std.specs.Prelude.{◌≡◌, ◌↔◌, ℕ, ◌+◌, ◌-◌, ◌*◌, ◌≤◌, ◌<◌, length}
use Rattle.std.proofs.Common.{sym, ◌∙◌, arith}
use Rattle.std.proofs.Math.Path.{ap}
use Rattle.imp.specs.Routine.{Statement}
use Rattle.imp.specs.Configure.{configure}
use Rattle.imp.specs.Embed.{embed}
use Rattle.imp.specs.Valid.{Valid}
use Rattle.imp.proofs.Theorem.Configured.{configured_valid}
use Rattle.image.specs.Bytes.{Bytes}
use Rattle.image.specs.Records.{header}
use Rattle.image.specs.Tree.{routine}
use Rattle.image.specs.Term.{size, term_image}
use Rattle.image.specs.Encode.{termˢ, plain_image}
use Rattle.image.specs.Accepted.{Accepted}
use Rattle.image.proofs.Theorem.Held.{root_class}
use Rattle.image.proofs.Theorem.ReadValid.{read_valid}
use Rattle.image.proofs.Theorem.RoundTrip.{image_accepted, image_shape, reads_back, again_the_same, equal_bytes, image_length}
use Rattle.configure.specs.Inner.Term.{term_at}
use Rattle.configure.specs.Configured.{configured}
use Rattle.configure.specs.Theorem.Linked.{linked}
use Rattle.configure.specs.Theorem.Small.{size_small}

module _ (l : Bytes) (acc : Accepted l) where
  abbrev last : ℕ
  last = (header l).nodes - 1

  last_below : last < (header l).nodes
  last_below = omega (arith, acc.some_node)

  module _ (s : ℕ) where
    abbrev t : Statement ⊥
    t = configure s (routine l)

    -- the root's configured term is the configured routine's
    pub term_is : term_at l s last ≡ termˢ t
    unfolding routine
    term_is = (linked l acc s last last_below).of_statement
        (root_class l (header l).conditions last (acc.nodes_fit last last_below) (acc.nodes_classed last last_below) (omega (arith, acc.some_node)))

    pub few : size (termˢ t) ≤ 1024
    few = omega (arith, ap size term_is, size_small l acc s last last_below, acc.few_nodes)

    valid : Valid t
    unfolding routine
    valid = configured_valid s (routine l) (read_valid l (header l).conditions (header l).nodes acc.nodes_fit last last_below).statement_valid

    pub image_is : configured l s ≡ term_image (term_at l s last)
    unfolding configured plain_image
    image_is = ap term_image (sym term_is)

    pub length_is : length (configured l s) ≡ 8 + 8 * size (term_at l s last)
    unfolding configured
    length_is = image_length t valid few ∙ ap (λ x. 8 + 8 * size x) (sym term_is)

    -- "written with F = 0, C = 0"
    pub shape_is : ((header (configured l s)).options ≡ 0) × ((header (configured l s)).conditions ≡ 0) × ((header (configured l s)).nodes ≡ size (termˢ t))
    unfolding configured
    shape_is = image_shape t valid few

    -- "passes the check"
    pub passes : Accepted (configured l s)
    unfolding configured
    passes = image_accepted t valid few

    -- "has the tree just described"
    pub tree_is : routine (configured l s) ≡ embed (configure s (routine l))
    unfolding configured
    tree_is = reads_back t valid few

    -- "configuring it again, for setting 0, gives the same bytes", and for any other setting too
    pub again : (s' : ℕ) → configured (configured l s) s' ≡ configured l s
    unfolding configured
    again s' = ap plain_image (again_the_same t valid few s')

-- "two results have equal bytes exactly when their trees are equal", of one image or of two
pub equal : (l l' : Bytes) → Accepted l → Accepted l' → (s s' : ℕ) → (configured l s ≡ configured l' s') ↔ (configure s (routine l) ≡ configure s' (routine l'))
unfolding configured
equal l l' acc acc' s s' = equal_bytes (t l acc s) (t l' acc' s') (valid l acc s) (valid l' acc' s') (few l acc s) (few l' acc' s')
