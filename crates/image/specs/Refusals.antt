-- "a definition states this paper's number and values for each enum case": a refusal's number in document 01's table and request C-11's, and its place.
use Rattle.std.specs.Prelude.{ℕ}
use Rattle.image.specs.declared.refusals.Refusal.{Refusal}
use Rattle.image.specs.declared.refusals.Refusal.TheVariants.{
  ImageShort,
  EditionWrong,
  CountsWrong,
  LengthWrong,
  ConditionWrong,
  NodeWrong,
  ClassWrong,
  NamedWrong,
  SetBeyond,
  BudgetOver,
  SettingBeyond,
  LentWrong,
  ChoiceHeld,
  SpaceShort,
  ConditionBeyond,
  InputShort,
  TextWrong,
  TooMany,
}

abbrev pub number_of : Refusal → ℕ
number_of ImageShort = 1
number_of EditionWrong = 2
number_of CountsWrong = 3
number_of LengthWrong = 4
number_of (ConditionWrong k) = 5
number_of (NodeWrong n) = 6
number_of (ClassWrong n) = 7
number_of (NamedWrong n) = 8
number_of SetBeyond = 9
number_of BudgetOver = 10
number_of SettingBeyond = 11
number_of LentWrong = 12
number_of (ChoiceHeld n) = 13
number_of SpaceShort = 14
number_of ConditionBeyond = 15
number_of InputShort = 16
number_of (TextWrong at) = 17
number_of (TooMany at) = 18

abbrev pub place_of : Refusal → ℕ
place_of ImageShort = 0
place_of EditionWrong = 0
place_of CountsWrong = 0
place_of LengthWrong = 0
place_of (ConditionWrong k) = k
place_of (NodeWrong n) = n
place_of (ClassWrong n) = n
place_of (NamedWrong n) = n
place_of SetBeyond = 0
place_of BudgetOver = 0
place_of SettingBeyond = 0
place_of LentWrong = 0
place_of (ChoiceHeld n) = n
place_of SpaceShort = 0
place_of ConditionBeyond = 0
place_of InputShort = 0
place_of (TextWrong at) = at
place_of (TooMany at) = at
