-- `condition_set` meets its contract: the check's refusal, then row 15, then the set that was worked out.
use Rattle.std.proofs.lemmas.Result.{err_from_is_err_and}
use mathlib.Core.Path.{◌≡◌, sym, ◌∙◌, ap, fun_ext}
use mathlib.Core.List.{List}
use Prim.Native.Nat.{ℕ, ◌≤◌, ◌<◌}
use native.Mathlib.Omega.{arith}
use borrow.Author.Tests.{lt-ltb, le-ltb}
use Rattle.sets.specs.Member.{bit}
use Rattle.image.specs.declared.accept.Shape.{Shape}
use Rattle.image.specs.Records.{header}
use Rattle.image.specs.Rows.{refused, answer, judge, check_rows}
use Rattle.image.specs.Check.{shape_of}
use Rattle.image.specs.Sets.{in_condition, condition_rows}
use Rattle.image.specs.Accepted.{Accepted}
use Rattle.image.proofs.Theorem.Accepted.{accepts}
use Rattle.image.proofs.Theorem.Checked.{good_accepted, good_shape}
use Rattle.image.proofs.Theorem.Then.{judge_then, judge_stops}
use Rattle.image.proofs.conditions.condition_set.Goals as goal

-- the three answers
module _ (l : List ℕ) (k : ℕ) where
  refused_first : (n p : ℕ) → refused n p ≡ judge (check_rows l) (shape_of l) → refused n p ≡ judge (condition_rows l k) (in_condition l k)
  unfolding condition_rows
  refused_first n p e = sym (judge_stops (shape_of l) (check_rows l) _ (in_condition l k) n p (sym e))

  beyond : Accepted l → (header l).conditions ≤ k → refused 15 0 ≡ judge (condition_rows l k) (in_condition l k)
  unfolding condition_rows judge
  beyond a h = sym (judge_then k (check_rows l) _ (in_condition l k) (accepts l k a) ∙ rw (le-ltb k (header l).conditions h))

  found : Accepted l → k < (header l).conditions → (w : ℕ) → ((s : ℕ) → bit w s ≡ in_condition l k s)
      → answer (bit w) ≡ judge (condition_rows l k) (in_condition l k)
  unfolding condition_rows judge
  found a h w e = ap answer (fun_ext e) ∙ sym (judge_then k (check_rows l) _ (in_condition l k) (accepts l k a) ∙ rw (lt-ltb k (header l).conditions h))

-- where the image is good
module _ (l : List ℕ) (shape : Shape) (told : answer shape ≡ judge (check_rows l) (shape_of l)) where
  is_accepted : Accepted l
  is_accepted = good_accepted l shape told

  conditions_are : shape.conditions ≡ (header l).conditions
  unfolding shape_of
  conditions_are = ap (λ (h : Shape). h.conditions) (good_shape l shape told)

pub returns-then-shape-number : goal.returns-then-shape-number
returns-then-shape-number c =
    let l = c.args.image.now in
    let told = c.in_ok-shape.ensures in
    beyond l c.args.number (is_accepted l _ told) (omega (arith, conditions_are l _ told, c.if-shape-number.true))

pub condition_sets-sets-requires : goal.condition_sets-sets-requires
condition_sets-sets-requires c =
    let l = c.args.image.now in
    let told = c.in_ok-shape.ensures in
    (is_accepted l _ told, good_shape l _ told)

pub returns-in_err-shape : goal.returns-in_err-shape
returns-in_err-shape c =
    let p = err_from_is_err_and c.from_residual.result c.from_residual.ensures.1 in
    rw (p.1, p.2) (refused_first _ _ _ _ c.in_err-shape.ensures)

pub returns : goal.returns
returns c =
    let l = c.args.image.now in
    let told = c.in_ok-shape.ensures in
    let below : c.args.number < (header l).conditions = omega (arith, conditions_are l _ told, c.if-shape-number.false) in
    let sets = c.condition_sets-sets.ensures.sets_are in
    found l c.args.number (is_accepted l _ told) below _
    λ s. ap (λ x. bit x s) c.at.ensures ∙ sets.right c.args.number (omega (arith, below, conditions_are l _ told)) s
