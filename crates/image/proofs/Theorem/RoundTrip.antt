-- A plain routine written out (condition 2): its image passes the check, reads back as the routine, configures to the same bytes for any setting, and two
-- routines have equal bytes exactly when they are equal.
use Rattle.std.specs.Prelude.{◌≡◌, ◌↔◌, ℕ, suc, ◌+◌, ◌-◌, ◌*◌, ◌≤◌, ◌<◌, true, cond, eqb, length}
use Rattle.std.proofs.Common.{sym, ◌∙◌, eq-eqb, ne_eqb}
use Rattle.std.proofs.Math.Path.{ap}
use native.Mathlib.Omega.{arith}
use Rattle.std.proofs.Math.Decide.{ℕ_discrete}
use Rattle.imp.specs.Routine.{Statement}
use Rattle.imp.specs.Configure.{configure}
use Rattle.imp.specs.Embed.{embed}
use Rattle.imp.specs.Valid.{Valid}
use Rattle.imp.proofs.Theorem.Configured.{configure_embed}
use Rattle.image.specs.Bytes.{Bytes}
use Rattle.image.specs.Records.{header}
use Rattle.image.specs.Rows.{class, classed, names}
use Rattle.image.specs.Tree.{read, routine}
use Rattle.image.specs.Term.{size}
use Rattle.image.specs.Encode.{termˢ, plain_image}
use Rattle.image.specs.Accepted.{Accepted}
use Rattle.image.proofs.Theorem.Named.{names_all, same, here_in}
use Rattle.image.proofs.Theorem.Encoded.{size_some}
use Rattle.image.proofs.Theorem.Fine.{Passes, TermGood, term_good, Fine}
use Rattle.image.proofs.Theorem.Typed.{classˢ, fineˢ}
use Rattle.image.proofs.Theorem.Written.{header_says, nodes_are, length_is}
use Rattle.image.proofs.Theorem.Decode.{decode}

module _ (t : Statement ⊥) (v : Valid t) (room : size (termˢ t) ≤ 1024) where
  abbrev l : Bytes
  l = plain_image t

  abbrev P : ℕ
  P = size (termˢ t)

  fine : Fine (termˢ t)
  fine = fineˢ t v

  good : TermGood l 0 (termˢ t)
  unfolding plain_image
  good = term_good (termˢ t) fine l 0 (omega arith) (nodes_are (termˢ t) fine room)

  nodes_p : (header l).nodes ≡ P
  unfolding plain_image
  nodes_p = (header_says (termˢ t) fine room).3

  passes_at : (n : ℕ) → n < P → Passes l n
  passes_at n h = let e : 0 + n ≡ n = omega arith in rw e at (good.all_pass n h)

  -- the root is a statement
  root_classed : (n : ℕ) → cond (eqb (suc n) (header l).nodes) (eqb (class l n) 3) true ≡ true
  root_classed n = go (ℕ_discrete (suc n) (header l).nodes)
    where
      last : suc n ≡ (header l).nodes → class l n ≡ 3
      last e =
          let at : 0 + P - 1 ≡ n = omega (arith, nodes_p) in
          ap (class l) (sym at) ∙ good.root_class ∙ classˢ t

      go : Dec (suc n ≡ (header l).nodes) → cond (eqb (suc n) (header l).nodes) (eqb (class l n) 3) true ≡ true
      go (yes e) = rw (eq-eqb (suc n) (header l).nodes e, eq-eqb (class l n) 3 (last e))
      go (no e) = rw (ne_eqb (suc n) (header l).nodes e)

  classed_at : (n : ℕ) → n < P → classed l n ≡ true
  unfolding classed
  classed_at n h =
      let p : Passes l n = passes_at n h in
      rw (p.a_classed, p.b_classed, p.c_classed) (root_classed n)

  -- "Each node except the last is named exactly once"
  once : (k : ℕ) → suc k < P → names l P k ≡ 1
  unfolding same
  once k h =
      let apart : (0 + P - 1 ≡ k → ⊥) = λ e. omega arith in
      let e = good.each_named k in
      omega (arith, names_all l P k, rw (ne_eqb (0 + P - 1) k apart) at e, here_in 0 P k (omega arith) (omega arith))

  pub image_accepted : Accepted l
  unfolding plain_image
  image_accepted =
      let h = header_says (termˢ t) fine room in
      record {
        edition_is = h.0;
        zero_is = h.4;
        few_options = omega (arith, h.1);
        few_conditions = omega (arith, h.2);
        some_node = omega (arith, h.3, size_some (termˢ t));
        few_nodes = omega (arith, h.3);
        length_is = omega (arith, length_is (termˢ t) fine room, h.2, h.3);
        conditions_fit = λ k i. absurd (omega (arith, h.2));
        nodes_fit = λ n i. (passes_at n (omega (arith, h.3))).fits (header l).conditions;
        nodes_classed = λ n i. classed_at n (omega (arith, h.3));
        named_once = λ k i. ap (λ p. names l p k) nodes_p ∙ once k (omega (arith, h.3));
      }

  -- "written with F = 0, C = 0"
  pub image_shape : ((header l).options ≡ 0) × ((header l).conditions ≡ 0) × ((header l).nodes ≡ P)
  unfolding plain_image
  image_shape =
      let h = header_says (termˢ t) fine room in
      (h.1, h.2, h.3)

  pub reads_back : routine l ≡ embed t
  unfolding routine plain_image
  reads_back =
      let last : (header l).nodes - 1 ≡ 0 + P - 1 = omega (arith, nodes_p) in
      ap (λ n. (read l n).statement) last ∙ decode t v l 0 (omega arith) (nodes_are (termˢ t) fine room)

  -- "configuring it again, for setting 0, gives the same bytes", and for any other setting too
  pub again_the_same : (s : ℕ) → configure s (routine l) ≡ t
  again_the_same s = ap (configure s) reads_back ∙ configure_embed s t

  pub image_length : length l ≡ 8 + 8 * P
  unfolding plain_image
  image_length = length_is (termˢ t) fine room

-- "two results have equal bytes exactly when their trees are equal"
pub equal_bytes : (t u : Statement ⊥) → Valid t → Valid u → size (termˢ t) ≤ 1024 → size (termˢ u) ≤ 1024 → (plain_image t ≡ plain_image u) ↔ (t ≡ u)
equal_bytes t u v w h i =
    (λ e. sym (again_the_same t v h 0) ∙ ap (λ l. configure 0 (routine l)) e ∙ again_the_same u w i 0, λ e. ap plain_image e)
