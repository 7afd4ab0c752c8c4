-- `list_condition` and `put_condition_sign` meet their contracts together. The measure of condition k is 2k + 2, and that of a sign which stands for condition
-- x is 2x + 3: a condition's names are lower, so each call's is less.
use mathlib.Core.Path.{sym, ap, ◌∙◌}
use lib.ListN.{length}
use Rattle.listing.specs.Inner.Spelling.{condition_spelling}
use native.Mathlib.Omega.{arith}
use Rattle.text.proofs.Putting.{same}
use Rattle.listing.proofs.Signs.{begun, goes_on, ends}
use Rattle.imp.specs.Numbers.{signed32}
use Rattle.listing.proofs.Conditions as Conditions
use Rattle.listing.proofs.write.+list_condition_put_condition_sign.Goals as goal

-- `list_condition` meets its contract: before each turn the signs below i are put.

pub list_condition-kind-requires : goal.list_condition-kind-requires
list_condition-kind-requires t c = Conditions.kind_known c.requires c.condition-r.ensures

pub list_condition-put_condition_sign-end-requires : goal.list_condition-put_condition_sign-end-requires
list_condition-put_condition_sign-end-requires t c =
    let loop = c.loop-sign in
    let is = c.condition-r.ensures in
    let are = (c.condition_spelling-sign-items.ensures ∙ ap condition_spelling c.kind.ensures) in (
      omega (arith, Conditions.falls c.requires is are loop.sign-index c.loop-sign-test.true),
      Conditions.signing c.requires is are loop.sign-index c.loop-sign-test.true loop.auto.out loop.invariant,
    )

pub list_condition-loop-sign-init : goal.list_condition-loop-sign-init
list_condition-loop-sign-init t c = begun _ (omega (arith, c.requires.fits))

pub list_condition-loop-sign-preserved : goal.list_condition-loop-sign-preserved
list_condition-loop-sign-preserved t c =
    goes_on _ _ _ c.loop-sign-test.true c.loop-sign.invariant c.put_condition_sign-end.ensures

pub list_condition-returns : goal.list_condition-returns
list_condition-returns t c =
    let loop = c.loop-sign in
    same (Conditions.spelled c.requires c.condition-r.ensures (c.condition_spelling-sign-items.ensures ∙ ap condition_spelling c.kind.ensures))
    (ends _ _ loop.sign-index c.loop-sign-test.false loop.invariant)

-- `put_condition_sign` meets its contract: for each sign what stands for it.

pub put_condition_sign-list_condition-requires : goal.put_condition_sign-list_condition-requires
put_condition_sign-list_condition-requires t c =
    let pre = c.requires in
    let left = Conditions.left_stands pre c.in-65.is in
    (omega (arith, left.reach_is), Conditions.listing pre left)

pub put_condition_sign-list_condition-requires-in-66 : goal.put_condition_sign-list_condition-requires-in-66
put_condition_sign-list_condition-requires-in-66 t c =
    let pre = c.requires in
    let right = Conditions.right_stands pre c.in-66.is in
    (omega (arith, right.reach_is), Conditions.listing pre right)

pub put_condition_sign-put_plain-requires : goal.put_condition_sign-put_plain-requires
unfolding signed32
put_condition_sign-put_plain-requires t c =
    let a = c.args in
    let plain = Conditions.otherwise a.routine.image.now a.r a.sign (λ e. omega arith) (λ e. omega arith) in
    record { level_few = omega arith; fits = omega (arith, c.requires.fits, ap length plain) }

pub put_condition_sign-returns-in-65 : goal.put_condition_sign-returns-in-65
put_condition_sign-returns-in-65 t c =
    same (sym (Conditions.left_stands c.requires c.in-65.is).text_is) c.list_condition.ensures

pub put_condition_sign-returns-in-66 : goal.put_condition_sign-returns-in-66
put_condition_sign-returns-in-66 t c =
    same (sym (Conditions.right_stands c.requires c.in-66.is).text_is) c.list_condition-in-66.ensures

pub put_condition_sign-returns-in_default : goal.put_condition_sign-returns-in_default
unfolding signed32
put_condition_sign-returns-in_default t c =
    let a = c.args in
    same (sym (Conditions.otherwise a.routine.image.now a.r a.sign (λ e. omega arith) (λ e. omega arith))) c.put_plain.ensures
