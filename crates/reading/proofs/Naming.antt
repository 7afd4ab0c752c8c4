-- What a kind's name says of its number.
use Rattle.std.proofs.Common.{◌≡◌, refl, arith}
use Rattle.image.specs.declared.kinds.Kind.{Kind}
use Rattle.image.specs.declared.kinds.Kind.TheVariants as kind
use Rattle.image.specs.declared.kinds.ConditionKind.{ConditionKind}
use Rattle.image.specs.declared.kinds.ConditionKind.TheVariants as condition_kind
use Rattle.image.specs.Kinds.{kind_number, condition_kind_number}

pub no_try : (k : Kind) → (k ≡ kind.Try → ⊥) → kind_number k ≡ 22 → ⊥
no_try kind.Number n e = absurd (omega (arith, e))
no_try kind.Variable n e = absurd (omega (arith, e))
no_try kind.Sum n e = absurd (omega (arith, e))
no_try kind.Pick n e = absurd (omega (arith, e))
no_try kind.ChoiceOfArithmetic n e = absurd (omega (arith, e))
no_try kind.False n e = absurd (omega (arith, e))
no_try kind.True n e = absurd (omega (arith, e))
no_try kind.Not n e = absurd (omega (arith, e))
no_try kind.And n e = absurd (omega (arith, e))
no_try kind.Less n e = absurd (omega (arith, e))
no_try kind.ChoiceOfBooleans n e = absurd (omega (arith, e))
no_try kind.Skip n e = absurd (omega (arith, e))
no_try kind.Assign n e = absurd (omega (arith, e))
no_try kind.Sequence n e = absurd (omega (arith, e))
no_try kind.If n e = absurd (omega (arith, e))
no_try kind.While n e = absurd (omega (arith, e))
no_try kind.Throw n e = absurd (omega (arith, e))
no_try kind.Try n e = n refl
no_try kind.Choice n e = absurd (omega (arith, e))

pub no_operand : (k : ConditionKind) → (k ≡ condition_kind.Not → ⊥) → (k ≡ condition_kind.And → ⊥) → (condition_kind_number k ≡ 3 → ⊥) × (condition_kind_number k ≡ 4 → ⊥)
no_operand condition_kind.False m n = (λ e. absurd (omega (arith, e)), λ e. absurd (omega (arith, e)))
no_operand condition_kind.True m n = (λ e. absurd (omega (arith, e)), λ e. absurd (omega (arith, e)))
no_operand condition_kind.Option m n = (λ e. absurd (omega (arith, e)), λ e. absurd (omega (arith, e)))
no_operand condition_kind.Not m n = (λ e. m refl, λ e. absurd (omega (arith, e)))
no_operand condition_kind.And m n = (λ e. absurd (omega (arith, e)), λ e. n refl)
no_operand condition_kind.Or m n = (λ e. absurd (omega (arith, e)), λ e. absurd (omega (arith, e)))
