-- What is carried out when every test is passed: the root is run from where the run starts, and what is left is what is meant.
use mathlib.Core.Path.{◌≡◌, refl, sym, ◌∙◌, ap, subst}
use mathlib.Core.Bool.{Bool, true, false, cond}
use mathlib.Core.List.{List, []}
use Prim.Native.Nat.{ℕ, ◌-◌, ◌*◌, ◌≤◌, ◌<◌}
use native.Mathlib.Omega.{arith}
use lib.Dec.{eqb}
use lib.ListN.{length, get_or}
use lib.Pow.{pow_mono}
use Rattle.std.specs.Prelude.{Ok}
use Rattle.sets.specs.declared.Set.{Set}
use Rattle.sets.specs.Member.{bit}
use Rattle.imp.specs.State.{Numbers, fresh, untouched}
use Rattle.imp.specs.Shared.{Settings, Shared, start, shared, shared_run, Below}
use Rattle.image.specs.declared.accept.Shape.{Shape}
use Rattle.image.specs.Bytes.{Bytes}
use Rattle.image.specs.Records.{header}
use Rattle.image.specs.Check.{shape_of}
use Rattle.image.specs.Rows.{answer, judge, written}
use Rattle.image.specs.Sets.{settings}
use Rattle.image.specs.Inner.SetsOf.{SetsOf}
use Rattle.image.specs.Tree.{read, routine}
use Rattle.image.proofs.Theorem.Held.{root_class}
use Rattle.shared.specs.declared.lent.Lent.{Lent}
use Rattle.shared.specs.Lent.{part}
use Rattle.shared.specs.Inner.Lent.{Measured}
use Rattle.shared.specs.Inner.Handed.{tally_in, state_in}
use Rattle.shared.specs.Inner.Prepared.{Prepared, OfClass}
use Rattle.shared.specs.Inner.Sharing.{Within, Shares}
use Rattle.shared.specs.Inner.Starting.{Sized, Starts}
use Rattle.shared.specs.SharedRun.{SharedRuns, meant, set_of}
use Rattle.shared.specs.Inner.Carried.{Carried}
use Rattle.shared.proofs.Result.{store_left, tally_left, ends_told}

-- no step is counted before the run, and no visit
no_steps : (u : Bool) (ns : Numbers) → (cond u (fresh ns) (untouched ns)).steps ≡ 0
unfolding fresh untouched
no_steps true ns = refl
no_steps false ns = refl

at_first : (N budget : ℕ) (S : Settings) (numbers : ℕ → Numbers) → Within N budget (start S numbers)
unfolding start
at_first N budget S numbers = record { steps_within = λ s h. omega (arith, no_steps (S s) (numbers s)); visits_within = omega arith }

module _ {l : Bytes} {shape : Shape} {set : Set} {budget : ℕ} {L : Lent} (h : Carried l shape set budget L) where
  conditions_are : shape.conditions ≡ (header l).conditions
  unfolding shape_of
  conditions_are = ap (λ (s : Shape). s.conditions) h.shape_is

  nodes_are : shape.nodes ≡ (header l).nodes
  unfolding shape_of
  nodes_are = ap (λ (s : Shape). s.nodes) h.shape_is

  few : settings l ≤ 64
  unfolding settings
  few = pow_mono h.accepted.few_options

  abbrev N : ℕ
  N = length L.outcomes.now

  -- ---- before the run

  pub prepared : {sets : List ℕ} → SetsOf l shape.conditions sets → Prepared l shape.conditions sets N budget
  prepared right = record {
    ready = λ s below. record {
      accepted = h.accepted;
      conditions_are = conditions_are;
      sets_right = right;
      setting_below = below;
    };
    settings_are = h.sized.outcomes_length;
    few = omega (arith, few, h.sized.outcomes_length);
    allowed = h.allowed;
  }

  pub some_node : 1 ≤ shape.nodes
  some_node = omega (arith, nodes_are, h.accepted.some_node)

  pub can_start : Sized N (tally_in L) × Below N (bit set.bits)
  can_start = subst (λ n. Sized n (tally_in L) × Below n (bit set.bits)) (sym h.sized.outcomes_length) (h.sized, h.below)

  pub root_is : OfClass l (shape.nodes - 1) 3
  root_is =
      let last : ℕ = shape.nodes - 1 in
      let below : last < (header l).nodes = omega (arith, nodes_are, some_node) in
      record {
        node_below = below;
        is_class = root_class l (header l).conditions last (h.accepted.nodes_fit last below) (h.accepted.nodes_classed last below)
            (omega (arith, nodes_are, some_node));
      }

  module _ {L₁ : Lent} (started : Starts N set L L₁) where
    pub first_lent : Measured N L₁.store.now (tally_in L₁)
    first_lent = record { store_length = ap length started.store_is ∙ h.store_length ∙ ap (λ n. n * 16) (sym h.sized.outcomes_length); tallied = started.tallied }

    pub first_within : Within N budget (state_in L₁ 0)
    first_within = subst (Within N budget) (sym started.starts) (at_first N budget (bit set.bits) (part L.store.now))

    -- ---- after it

    abbrev ran_to : Bytes → Shared
    ran_to l' = shared N budget (read l' (shape.nodes - 1)).statement (bit set.bits) (state_in L₁ 0)

    is_meant : ran_to l ≡ meant l set.bits budget L.store.now
    unfolding meant shared_run routine
    is_meant =
        ap (shared N budget (read l (shape.nodes - 1)).statement (bit set.bits)) started.starts
        ∙ ap (λ n. shared N budget (read l (n - 1)).statement (bit set.bits) (start (bit set.bits) (part L.store.now))) nodes_are
        ∙ ap (λ n. shared_run n budget (routine l) (bit set.bits) (part L.store.now)) h.sized.outcomes_length

    module _ {l' : Bytes} {visits : ℕ} {L₂ : Lent} (image_is : l' ≡ l) (ran : Shares N (ran_to l') visits L₂) where
      reached : Shares (settings l) (meant l set.bits budget L.store.now) visits L₂
      reached =
          subst (λ n. Shares n (meant l set.bits budget L.store.now) visits L₂) h.sized.outcomes_length
          (subst (λ Σ. Shares N Σ visits L₂) (ap ran_to image_is ∙ is_meant) ran)

      pub ended_as_meant : {fault out : Set} → fault.bits ≡ set_of (length L₂.outcomes.now) (λ s. eqb (get_or L₂.outcomes.now s 0) 2)
          → out.bits ≡ set_of (length L₂.outcomes.now) (λ s. eqb (get_or L₂.outcomes.now s 0) 3)
          → SharedRuns [] l set.bits budget L.store.now (tally_in L) L₂.store.now (tally_in L₂) (Ok (record { visits = visits; fault = fault; out = out }))
      unfolding judge written
      ended_as_meant e f = record { answered = ap answer (ends_told L₂ reached e f); store_is = store_left L₂ reached; tally_is = tally_left L₂ reached }
