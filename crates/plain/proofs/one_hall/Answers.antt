-- `one_hall` meets its contract: the check's refusal, then row 11, then what is left to rows 10 and 12.
use mathlib.Core.Path.{◌≡◌, sym, ◌∙◌}
use mathlib.Core.Bool.{Bool}
use mathlib.Core.List.{List}
use Prim.Native.Nat.{ℕ, ◌^◌}
use native.Mathlib.Omega.{arith}
use lib.Dec.{ltb}
use borrow.Author.Tests.{ltb-true}
use Rattle.image.specs.declared.accept.Shape.{Shape}
use Rattle.sets.specs.Member.{bit}
use Rattle.image.specs.Rows.{answer, judge, check_rows}
use Rattle.image.specs.Check.{shape_of}
use Rattle.image.specs.Sets.{settings, setting_row}
use Rattle.image.proofs.Theorem.Checked.{good_accepted, good_shape}
use Rattle.plain.specs.PlainRun.{hall_rows}
use Rattle.plain.proofs.Good.{options_are, tested}
use Rattle.plain.proofs.Plainly.{refused_first, beyond, below}
use Rattle.std.proofs.lemmas.Result.{err_from_is_err_and}
use Rattle.plain.proofs.one_hall.Goals as goal

-- whether the setting is below N, of the image that the check accepted
below_N : (l : List ℕ) {shape : Shape} → answer shape ≡ judge (check_rows l) (shape_of l) → (setting every : ℕ) {has u : Bool}
    → has ≡ bit every setting → ((k : ℕ) → bit every k ≡ ltb k (2 ^ shape.options)) → has ≡ u → ltb setting (settings l) ≡ u
below_N l good setting every is_in is_every e = sym (tested l (good_shape l _ good) setting every is_in is_every) ∙ e

pub all_settings-requires : goal.all_settings-requires
all_settings-requires c =
    let l = c.args.image.now in
    let good = c.in_ok-shape.ensures in
    omega (arith, options_are l (good_shape l _ good), (good_accepted l _ good).few_options)

pub returns-then-not-has : goal.returns-then-not-has
returns-then-not-has c =
    let l = c.args.image.now in
    let good = c.in_ok-shape.ensures in
    beyond _ l _ _ (good_accepted l _ good) (below_N l good _ _ c.has.ensures c.all_settings.ensures c.if-not-has.true)

pub run_accepted-requires : goal.run_accepted-requires
run_accepted-requires c =
    let l = c.args.image.now in
    let good = c.in_ok-shape.ensures in
    (good_accepted l _ good, good_shape l _ good, ltb-true _ _ (below_N l good _ _ c.has.ensures c.all_settings.ensures c.if-not-has.false))

pub returns-in_err-shape : goal.returns-in_err-shape
unfolding hall_rows
returns-in_err-shape c =
    let p = err_from_is_err_and c.from_residual.result c.from_residual.ensures.1 in
    rw (p.1, p.2) (refused_first _ _ _ _ (setting_row _ _) _ c.in_err-shape.ensures)

pub returns : goal.returns
returns c =
    let l = c.args.image.now in
    let good = c.in_ok-shape.ensures in
    below _ l _ _ (good_accepted l _ good) (below_N l good _ _ c.has.ensures c.all_settings.ensures c.if-not-has.false) c.run_accepted.ensures
