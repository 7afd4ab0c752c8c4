-- The kinds by name: document 01's number of each, and which kind a number is.
use Rattle.std.specs.Prelude.{◌≡◌, ℕ, Result, Ok, Err}
use Rattle.image.specs.declared.kinds.Kind.{Kind}
use Rattle.image.specs.declared.kinds.Kind.TheVariants as kind
use Rattle.image.specs.declared.kinds.ConditionKind.{ConditionKind}
use Rattle.image.specs.declared.kinds.ConditionKind.TheVariants as condition_kind
use Rattle.image.specs.declared.kinds.UnknownKind.{UnknownKind}
use Rattle.image.specs.Layout.{layout, condition_layout}

abbrev pub kind_number : Kind → ℕ
kind_number kind.Number = 0
kind_number kind.Variable = 1
kind_number kind.Sum = 2
kind_number kind.Pick = 3
kind_number kind.ChoiceOfArithmetic = 4
kind_number kind.False = 8
kind_number kind.True = 9
kind_number kind.Not = 10
kind_number kind.And = 11
kind_number kind.Less = 12
kind_number kind.ChoiceOfBooleans = 13
kind_number kind.Skip = 16
kind_number kind.Assign = 17
kind_number kind.Sequence = 18
kind_number kind.If = 19
kind_number kind.While = 20
kind_number kind.Throw = 21
kind_number kind.Try = 22
kind_number kind.Choice = 23

abbrev pub condition_kind_number : ConditionKind → ℕ
condition_kind_number condition_kind.False = 0
condition_kind_number condition_kind.True = 1
condition_kind_number condition_kind.Option = 2
condition_kind_number condition_kind.Not = 3
condition_kind_number condition_kind.And = 4
condition_kind_number condition_kind.Or = 5

-- what n is read as: the kind of that number; "All other kinds are refused", and have no layout
abbrev pub Decodes : ℕ → Result Kind UnknownKind → Type 0
Decodes n (Ok k) = kind_number k ≡ n
Decodes n (Err e) = (layout n ≡ 0) × (e.0 ≡ n)

abbrev pub DecodesCondition : ℕ → Result ConditionKind UnknownKind → Type 0
DecodesCondition n (Ok k) = condition_kind_number k ≡ n
DecodesCondition n (Err e) = (condition_layout n ≡ 0) × (e.0 ≡ n)
