-- `plain_run` meets its contract: the check's refusal, then row 13, then what is left to rows 10 and 12.
use mathlib.Core.Path.{◌≡◌, ◌∙◌, ap}
use mathlib.Core.List.{List}
use Prim.Native.Nat.{ℕ, ◌<◌}
use native.Mathlib.Omega.{arith}
use lib.Pow.{pow_pos}
use Rattle.image.specs.declared.accept.Shape.{Shape}
use Rattle.image.specs.Layout.{is_choice}
use Rattle.image.specs.Records.{header, node}
use Rattle.image.specs.Rows.{answer, judge, lowest, check_rows}
use Rattle.image.specs.Check.{shape_of}
use Rattle.image.specs.Sets.{settings}
use Rattle.image.proofs.Theorem.Checked.{good_accepted, good_shape}
use Rattle.plain.specs.PlainRun.{choice_row, plain_rows}
use Rattle.plain.proofs.Good.{nodes_are}
use Rattle.plain.proofs.Plainly.{refused_first, choice_held, no_choice}
use Rattle.std.proofs.lemmas.Result.{err_from_is_err_and}
use borrow.Author.Rules.{rules}
use Rattle.plain.proofs.plain_run.Goals as goal

-- what was looked for is the lowest choice of the image
is_lowest : (l : List ℕ) {shape : Shape} {choice nodes : ℕ} → answer shape ≡ judge (check_rows l) (shape_of l) → nodes ≡ shape.nodes
    → choice ≡ lowest nodes (λ n. is_choice (node l n).kind) → choice ≡ lowest (header l).nodes (λ n. is_choice (node l n).kind)
is_lowest l good counted found = found ∙ ap (λ p. lowest p (λ n. is_choice (node l n).kind)) (counted ∙ nodes_are l (good_shape l _ good))

-- there is always setting 0
setting_0 : (l : List ℕ) → 0 < settings l
unfolding settings
setting_0 l = pow_pos (header l).options

pub of-routine-requires : goal.of-routine-requires
of-routine-requires c =
    let l = c.args.image.now in
    (good_accepted l _ c.in_ok-shape.ensures, good_shape l _ c.in_ok-shape.ensures)

pub returns-then-choice-routine : goal.returns-then-choice-routine
returns-then-choice-routine c =
    let good = c.in_ok-shape.ensures in
    let l = c.args.image.now in
    let found = c.lowest-choice.ensures (λ n. is_choice (node l n).kind) (λ k r below asked. search rules) in
    choice_held l _ _ (good_accepted l _ good) (is_lowest l good c.of-routine.ensures.2 found) (omega (arith, c.of-routine.ensures.2, c.if-choice-routine.true, nodes_are l (good_shape l _ good)))

pub run_accepted-requires : goal.run_accepted-requires
run_accepted-requires c =
    let good = c.in_ok-shape.ensures in
    (good_accepted c.args.image.now _ good, good_shape c.args.image.now _ good, setting_0 c.args.image.now)

pub returns-in_err-shape : goal.returns-in_err-shape
unfolding plain_rows
returns-in_err-shape c =
    let p = err_from_is_err_and c.from_residual.result c.from_residual.ensures.1 in
    rw (p.1, p.2) (refused_first 0 _ _ _ (choice_row _) _ c.in_err-shape.ensures)

pub returns : goal.returns
returns c =
    let good = c.in_ok-shape.ensures in
    let l = c.args.image.now in
    let found = c.lowest-choice.ensures (λ n. is_choice (node l n).kind) (λ k r below asked. search rules) in
    no_choice l _ _ (good_accepted l _ good) (is_lowest l good c.of-routine.ensures.2 found) (omega (arith, c.of-routine.ensures.2, c.if-choice-routine.false, nodes_are l (good_shape l _ good))) c.run_accepted.ensures
