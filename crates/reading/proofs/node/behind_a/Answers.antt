-- A mark, or for a try the three tokens between its parts, one way behind the other.
use Rattle.reading.proofs.Ways.{refused_is}
use Rattle.std.proofs.Common.{ap}
use Rattle.std.proofs.Math.Option.{none}
use Rattle.image.specs.Kinds.{kind_number}
use Rattle.reading.proofs.Naming.{no_try}
use Rattle.reading.proofs.Between.{no_mark, behind_mark, no_catch, catch_good, no_caught, caught_good, no_with, behind_catch}
use Rattle.reading.proofs.node.behind_a.Goals as goal

pub returns-in_err-mark-in_default : goal.returns-in_err-mark-in_default
returns-in_err-mark-in_default c = rw (refused_is c.from_residual-in_err-mark-in_default.result c.from_residual-in_err-mark-in_default.ensures.1) (λ o e. no_mark _ _ c.requires _ _ o _ (no_try _ c.in_default.not-Try) (c.in_err-mark-in_default.ensures o e))

pub returns-in_ok-mark-in_default : goal.returns-in_ok-mark-in_default
returns-in_ok-mark-in_default c = λ o e. behind_mark _ _ c.requires _ _ o _ (no_try _ c.in_default.not-Try) (c.in_ok-mark-in_default.ensures o e)

pub returns-in_err-d-in-Try : goal.returns-in_err-d-in-Try
returns-in_err-d-in-Try c = rw (refused_is c.from_residual.result c.from_residual.ensures.1) (λ o e. no_catch _ _ c.requires _ c.args.value o (ap kind_number c.in-Try.is) _ c.in_err-d-in-Try.ensures)

pub variable-requires : goal.variable-requires
variable-requires c = catch_good _ _ c.requires _ c.args.value none (ap kind_number c.in-Try.is) _ c.in_ok-d-in-Try.ensures

pub returns-in_err-v-in-Try : goal.returns-in_err-v-in-Try
returns-in_err-v-in-Try c = rw (refused_is c.from_residual-in_err-v-in-Try.result c.from_residual-in_err-v-in-Try.ensures.1) (λ o e. no_caught _ _ c.requires _ c.args.value o (ap kind_number c.in-Try.is) _ c.in_ok-d-in-Try.ensures _ c.in_err-v-in-Try.ensures)

pub fixed-requires-in-Try : goal.fixed-requires-in-Try
fixed-requires-in-Try c = caught_good _ _ c.requires _ c.args.value none (ap kind_number c.in-Try.is) _ c.in_ok-d-in-Try.ensures _ c.in_ok-v-in-Try.ensures

pub returns-in_err-fixed-in-Try : goal.returns-in_err-fixed-in-Try
returns-in_err-fixed-in-Try c = rw (refused_is c.from_residual-in_err-fixed-in-Try.result c.from_residual-in_err-fixed-in-Try.ensures.1) (λ o e. no_with _ _ c.requires _ c.args.value o (ap kind_number c.in-Try.is) _ c.in_ok-d-in-Try.ensures _ c.in_ok-v-in-Try.ensures _ c.in_err-fixed-in-Try.ensures)

pub returns-in_ok-fixed-in-Try : goal.returns-in_ok-fixed-in-Try
returns-in_ok-fixed-in-Try c = λ o e. behind_catch _ _ c.requires _ c.args.value o (ap kind_number c.in-Try.is) _ c.in_ok-d-in-Try.ensures _ c.in_ok-v-in-Try.ensures _ c.in_ok-fixed-in-Try.ensures
