-- A refusal is known by its number and place, so a contract that gives these leaves one answer.
use Rattle.std.specs.Prelude.{◌≡◌, refl, [], ◌∷◌, ℕ, get_or}
use Rattle.std.proofs.Common.{sym, ◌∙◌, ap₂}
use Rattle.image.specs.declared.refusals.Refusal.{Refusal}
use Rattle.image.specs.declared.refusals.Refusal.TheVariants.{
  ImageShort,
  EditionWrong,
  CountsWrong,
  LengthWrong,
  ConditionWrong,
  NodeWrong,
  ClassWrong,
  NamedWrong,
  SetBeyond,
  BudgetOver,
  SettingBeyond,
  LentWrong,
  ChoiceHeld,
  SpaceShort,
  ConditionBeyond,
  InputShort,
  TextWrong,
  TooMany,
}
use Rattle.image.specs.Refusals.{number_of, place_of}

unfoldable pub refusal_from : ℕ → ℕ → Refusal
refusal_from n p = get_or (
    ImageShort ∷ ImageShort ∷ EditionWrong ∷ CountsWrong ∷ LengthWrong ∷ ConditionWrong p ∷ NodeWrong p ∷ ClassWrong p ∷ NamedWrong p
    ∷ SetBeyond ∷ BudgetOver ∷ SettingBeyond ∷ LentWrong ∷ ChoiceHeld p ∷ SpaceShort ∷ ConditionBeyond ∷ InputShort
    ∷ TextWrong p ∷ TooMany p ∷ []) n ImageShort

pub refusal_known : (r : Refusal) → refusal_from (number_of r) (place_of r) ≡ r
unfolding refusal_from
refusal_known ImageShort = refl
refusal_known EditionWrong = refl
refusal_known CountsWrong = refl
refusal_known LengthWrong = refl
refusal_known (ConditionWrong k) = refl
refusal_known (NodeWrong n) = refl
refusal_known (ClassWrong n) = refl
refusal_known (NamedWrong n) = refl
refusal_known SetBeyond = refl
refusal_known BudgetOver = refl
refusal_known SettingBeyond = refl
refusal_known LentWrong = refl
refusal_known (ChoiceHeld n) = refl
refusal_known SpaceShort = refl
refusal_known ConditionBeyond = refl
refusal_known InputShort = refl
refusal_known (TextWrong at) = refl
refusal_known (TooMany at) = refl

pub same_refusal : (r r' : Refusal) → number_of r ≡ number_of r' → place_of r ≡ place_of r' → r ≡ r'
same_refusal r r' e f = sym (refusal_known r) ∙ ap₂ refusal_from e f ∙ refusal_known r'
