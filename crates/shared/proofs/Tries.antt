-- A try, once its body has run: those whose body ended in fault have it taken, and the handler runs for exactly them.
use mathlib.Core.Path.{◌≡◌, refl, sym, ◌∙◌, ap, subst, fun_ext}
use Prim.Native.Nat.{ℕ}
use Rattle.sets.specs.declared.Set.{Set}
use Rattle.sets.specs.Member.{bit}
use Rattle.imp.specs.State.{in_fault, taken}
use Rattle.imp.specs.Shared.{Settings, Shared, for, where_true}
use Rattle.image.specs.declared.records.Node.{Node}
use Rattle.image.specs.Bytes.{Bytes}
use Rattle.shared.specs.declared.lent.Lent.{Lent}
use Rattle.shared.specs.declared.plan.Plan.{Plan}
use Rattle.shared.specs.declared.turn.Turn.{Turn}
use Rattle.shared.specs.Inner.Handed.{image_in, state_in}
use Rattle.shared.specs.Inner.Acting.{acting, ActedFor}
use Rattle.shared.specs.Inner.Sharing.{Sharing, Shares, sharing, trying}
use Rattle.shared.proofs.Keeping.{Later, later_act, goes_on}
use Rattle.shared.proofs.Statements.{acting_counts_none}
use Rattle.shared.proofs.Whose.{Answers, where_caught}

-- what is asked for goes on after an act, whoever it was for
pub after_act : (plan : Plan) (turn : Turn) (L : Lent) {L' : Lent} {whose : Set} {ν : Node} → Sharing plan turn L → ActedFor plan ν whose L L' → Sharing plan turn L'
after_act plan turn L {L'} {whose} {ν} h acted =
    goes_on plan turn L h turn.visits L' (subst (Later plan.settings plan.budget (state_in L turn.visits)) (sym (acted.acted turn.visits))
    (later_act plan.settings plan.budget (acting (image_in plan) ν) (bit whose.bits) (state_in L turn.visits) (acting_counts_none (image_in plan) ν))) acted.lent

takes : (l : Bytes) (ν : Node) → ν.kind ≡ 22 → acting l ν ≡ (λ s. taken ν.variable)
unfolding acting
takes l ν e = fun_ext λ s. fun_ext λ σ. rw e refl

module _ (plan : Plan) (ν : Node) (is_try : ν.kind ≡ 22) (S : Settings) (Σ : Shared) {v v' : ℕ} (L L' L'' : Lent) {caught : Set}
    (ran : Shares plan.settings (sharing plan ν.a S Σ) v L) (whose : Answers plan ν S L caught.bits) (acted : ActedFor plan ν caught L L')
    (handled : Shares plan.settings (sharing plan ν.b (bit caught.bits) (state_in L' v)) v' L'') where
  pub tried : Shares plan.settings (trying plan ν S Σ) v' L''
  tried =
      let Σ' : Shared = sharing plan ν.a S Σ in
      let is-caught : bit caught.bits ≡ where_true (λ s σ. in_fault σ.outcome) S Σ' =
      where_caught plan ν S L v caught.bits whose is_try ∙ ap (where_true (λ s σ. in_fault σ.outcome) S) ran.reaches in
      let was-taken : state_in L' v ≡ for (bit caught.bits) (λ s. taken ν.variable) Σ' =
      acted.acted v ∙ ap (λ f. for (bit caught.bits) f (state_in L v)) (takes (image_in plan) ν is_try)
      ∙ ap (for (bit caught.bits) (λ s. taken ν.variable)) ran.reaches in
      record {
        reaches = handled.reaches ∙ ap (sharing plan ν.b (bit caught.bits)) was-taken
            ∙ ap (λ C. sharing plan ν.b C (for C (λ s. taken ν.variable) Σ')) is-caught;
        lent = handled.lent;
      }
