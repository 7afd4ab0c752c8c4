-- Some of a set: what is asked for holds for them too, and the parts of a choice and of an if are run for whom the meaning says.
use mathlib.Core.Path.{◌≡◌, sym, ◌∙◌, ap₂, ap, subst}
use Prim.Native.Nat.{ℕ, ◌*◌, ◌<◌}
use mathlib.Core.Bool.{not, ◌&&◌}
use native.Mathlib.Omega.{arith}
use lib.ListN.{get_or}
use lib.Pow.{pow_pos}
use Rattle.sets.specs.declared.Set.{Set}
use Rattle.sets.specs.Member.{bit}
use Rattle.imp.specs.Shared.{Settings, Shared, Below}
use Rattle.imp.proofs.Theorem.Sets.{and_true}
use Rattle.image.specs.declared.records.Node.{Node}
use Rattle.image.specs.Records.{node}
use Rattle.image.specs.Inner.Ready.{Ready}
use Rattle.image.specs.Sets.{settings}
use Rattle.shared.specs.declared.lent.Lent.{Lent}
use Rattle.shared.specs.declared.plan.Plan.{Plan}
use Rattle.shared.specs.declared.turn.Turn.{Turn}
use Rattle.shared.specs.Inner.Lent.{Measured}
use Rattle.shared.specs.Inner.Handed.{image_in, tally_in, state_in}
use Rattle.shared.specs.Inner.Prepared.{OfClass}
use Rattle.shared.specs.Inner.Asking.{AskingFor}
use Rattle.shared.specs.Inner.Acting.{ActingFor}
use Rattle.shared.specs.Inner.Sharing.{Sharing, Chooses, sharing, choosing, deciding, tested}
use Rattle.shared.proofs.Keeping.{for_fewer}
use Rattle.shared.proofs.Statements.{At}
use Rattle.shared.proofs.Whose.{Answers, where_tested, where_rest, where_chosen, where_not_chosen}

-- every image has a setting, and what is known of it is known of the image
of_image : (plan : Plan) → Ready (image_in plan) plan.routine.conditions plan.sets.now 0
unfolding settings
of_image plan = plan.prepared.ready 0 (pow_pos _)

-- the node that is run, as it was read
pub node_of : (plan : Plan) {n : ℕ} {ν : Node} → OfClass (image_in plan) n 3 → ν ≡ node (image_in plan) n → At plan n ν
node_of plan is_statement is_node = record { accepted = (of_image plan).accepted; node_below = is_statement.node_below; is_node = is_node }

module _ (plan : Plan) (turn : Turn) (L : Lent) (h : Sharing plan turn L) where
  pub for_some_of : (on : Set) (P : Settings) → ((s : ℕ) → bit on.bits s ≡ (bit turn.on.bits s && P s)) → Sharing plan (record turn { on = on }) L
  for_some_of on P e = for_fewer plan turn L h on λ s u. (and_true (bit turn.on.bits s) (P s) (sym (e s) ∙ u)).0

  pub can_ask : {ν : Node} → ((ν.kind ≡ 22 → ⊥) → OfClass (image_in plan) ν.a 2) → AskingFor plan ν turn.on L
  can_ask test = record {
    every = record {
      test = test;
      outcomes_length = h.lent.tallied.outcomes_length ∙ plan.prepared.settings_are;
      store_length = h.lent.store_length ∙ ap (λ N. N * 16) plan.prepared.settings_are;
    };
    below = h.below;
  }

  pub can_act : {ν : Node} → ((ν.kind ≡ 22 → ⊥) → OfClass (image_in plan) ν.a 1) → ((ν.kind ≡ 21 → ⊥) → ν.variable < 16)
      → ActingFor plan ν turn.on L
  can_act expression variable = record {
    every = record { expression = expression; variable_below = variable; lent = subst (λ N. Measured N L.store.now (tally_in L)) plan.prepared.settings_are h.lent };
    below = h.below;
  }

  -- ---- a choice

  module _ {ν : Node} (chooses : Chooses plan ν) where
    pub parts_chosen : (chosen first others : Set) → chosen.bits ≡ get_or plan.sets.now ν.a 0
        → ((s : ℕ) → bit first.bits s ≡ (bit turn.on.bits s && bit chosen.bits s))
        → ((s : ℕ) → bit others.bits s ≡ (bit turn.on.bits s && not (bit chosen.bits s))) → (Σ : Shared)
        → sharing plan ν.c (bit others.bits) (sharing plan ν.b (bit first.bits) Σ) ≡ choosing plan ν (bit turn.on.bits) Σ
    parts_chosen chosen first others is e f Σ =
        let ready = of_image plan in
        let there : ν.a < plan.routine.conditions = omega (arith, chooses.condition_below, ready.conditions_are) in
        let inside : Below (settings (image_in plan)) (bit turn.on.bits) = λ s u. omega (arith, h.below s u, plan.prepared.settings_are) in
        ap₂ (λ n y. sharing plan ν.c n (sharing plan ν.b y Σ))
        (where_not_chosen ready.sets_right ν.a there (bit turn.on.bits) inside others.bits λ s. f s ∙ ap (λ x. bit turn.on.bits s && not (bit x s)) is)
        (where_chosen ready.sets_right ν.a there (bit turn.on.bits) inside first.bits λ s. e s ∙ ap (λ x. bit turn.on.bits s && bit x s) is)

  -- ---- an if

  pub parts_decided : (ν : Node) (first others : Set) → (ν.kind ≡ 22 → ⊥) → Answers plan ν (bit turn.on.bits) L first.bits
      → ((s : ℕ) → bit others.bits s ≡ (bit turn.on.bits s && not (bit first.bits s)))
      → sharing plan ν.c (bit others.bits) (sharing plan ν.b (bit first.bits) (state_in L turn.visits)) ≡ deciding plan ν (bit turn.on.bits) (state_in L turn.visits)
  parts_decided ν first others other e f =
      let yes-part = where_tested plan ν (bit turn.on.bits) L turn.visits first.bits e other in
      ap₂ (λ n y. sharing plan ν.c n (sharing plan ν.b y (state_in L turn.visits)))
      (where_rest (tested plan ν) (bit turn.on.bits) (state_in L turn.visits) first.bits others.bits yes-part f) yes-part
