-- A number that is none of the 19 kinds has no layout.
use Rattle.std.proofs.Common.{◌≡◌, refl, arith}
use Rattle.image.specs.Layout.{layout}
use Rattle.image.proofs.Theorem.Kinds.{kind_cases}
use Rattle.image.proofs.kinds.KindTryFromU32.try_from.Goals as goal

pub returns-in_default : goal.returns-in_default
returns-in_default c =
    let none = kind_cases (λ k. k ≡ c.args.number → layout k ≡ 0)
    (λ e. absurd (omega arith)) (λ e. absurd (omega arith)) (λ e. absurd (omega arith)) (λ e. absurd (omega arith)) (λ e. absurd (omega arith)) (λ e. absurd (omega arith)) (λ e. absurd (omega arith)) (λ e. absurd (omega arith)) (λ e. absurd (omega arith)) (λ e. absurd (omega arith)) (λ e. absurd (omega arith)) (λ e. absurd (omega arith)) (λ e. absurd (omega arith)) (λ e. absurd (omega arith)) (λ e. absurd (omega arith)) (λ e. absurd (omega arith)) (λ e. absurd (omega arith)) (λ e. absurd (omega arith)) (λ e. absurd (omega arith))
    (λ k none e. none) c.args.number refl
    in (none, refl)
