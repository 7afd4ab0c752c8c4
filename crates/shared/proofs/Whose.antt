-- Whose turn it is: the sets that the code works out are those of the meaning.
use mathlib.Core.Path.{◌≡◌, refl, sym, ◌∙◌, ap, fun_ext}
use Prim.Native.Nat.{ℕ, ◌<◌}
use mathlib.Core.Bool.{Bool, true, false, not, ◌&&◌}
use mathlib.Core.List.{List}
use lib.ListN.{get_or}
use borrow.Author.Tests.{eq-eqb, ne_eqb, lt-ltb}
use Rattle.sets.specs.Member.{bit}
use Rattle.imp.specs.Condition.{holds}
use Rattle.imp.specs.State.{State, in_fault}
use Rattle.imp.specs.Shared.{Settings, Shared, where_true, where_false, Below}
use Rattle.image.specs.declared.records.Node.{Node}
use Rattle.image.specs.Bytes.{Bytes}
use Rattle.image.specs.Sets.{settings, in_condition}
use Rattle.image.specs.Inner.SetsOf.{SetsOf}
use Rattle.image.specs.Tree.{condition}
use Rattle.plain.specs.Inner.Progress.{state_of}
use Rattle.plain.proofs.Beginning.{fault_is}
use Rattle.shared.specs.declared.lent.Lent.{Lent}
use Rattle.shared.specs.declared.plan.Plan.{Plan}
use Rattle.shared.specs.Lent.{progress}
use Rattle.shared.specs.Inner.Lent.{own, as_shared}
use Rattle.shared.specs.Inner.Handed.{image_in, tally_in, state_in}
use Rattle.shared.specs.Inner.Asking.{asking, answers}
use Rattle.shared.specs.Inner.Sharing.{tested}

-- the answers of all settings of a set
abbrev pub Answers : Plan → Node → Settings → Lent → ℕ → Type 0
Answers plan ν S L found = (t : ℕ) → bit found t ≡ (S t && answers (image_in plan) ν L t)

module _ (plan : Plan) (ν : Node) (S : Settings) (L : Lent) (visits found : ℕ) (h : Answers plan ν S L found) where
  -- "the settings where the test is true"
  pub where_tested : (ν.kind ≡ 22 → ⊥) → bit found ≡ where_true (tested plan ν) S (state_in L visits)
  unfolding asking where_true as_shared own state_of
  where_tested other = fun_ext λ t. rw (ne_eqb ν.kind 22 other) at (h t)

  -- "the settings in which its own try's body ended in fault"
  pub where_caught : ν.kind ≡ 22 → bit found ≡ where_true (λ s σ. in_fault σ.outcome) S (state_in L visits)
  unfolding asking where_true as_shared own state_of progress
  where_caught e = fun_ext λ t. rw (eq-eqb ν.kind 22 e) at (h t) ∙ ap (λ u. S t && u) (sym (fault_is (progress (tally_in L) t).outcome (progress (tally_in L) t).code))

-- "the rest"
rest : (u v w : Bool) → v ≡ u && w → u && not v ≡ u && not w
rest true v w e = ap not e
rest false v w e = refl

pub where_rest : (test : ℕ → State → Bool) (S : Settings) (Σ : Shared) (found others : ℕ) → bit found ≡ where_true test S Σ → ((t : ℕ) → bit others t ≡ (S t && not (bit found t)))
    → bit others ≡ where_false test S Σ
unfolding where_true where_false
where_rest test S Σ found others h k = fun_ext λ t. k t ∙ rest (S t) (bit found t) (test t (Σ.at t)) (ap (λ f. f t) h)

-- "a choice does so by its condition"
module _ {l : Bytes} {conditions : ℕ} {sets : List ℕ} (right : SetsOf l conditions sets) (k : ℕ) (below : k < conditions) (S : Settings) (inside : Below (settings l) S) where
  within : (t : ℕ) (u : Bool) → S t ≡ u → (f : Bool → Bool) → S t && f (bit (get_or sets k 0) t) ≡ S t && f (holds (condition l k) t)
  unfolding in_condition
  within t true e f = rw (right.right k below t, lt-ltb t (settings l) (inside t e)) refl
  within t false e f = rw e refl

  pub where_chosen : (found : ℕ) → ((t : ℕ) → bit found t ≡ (S t && bit (get_or sets k 0) t)) → bit found ≡ (λ s. S s && holds (condition l k) s)
  where_chosen found h = fun_ext λ t. h t ∙ within t (S t) refl (λ u. u)

  pub where_not_chosen : (others : ℕ) → ((t : ℕ) → bit others t ≡ (S t && not (bit (get_or sets k 0) t))) → bit others ≡ (λ s. S s && not (holds (condition l k) s))
  where_not_chosen others h = fun_ext λ t. h t ∙ within t (S t) refl not
