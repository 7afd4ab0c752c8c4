-- `configure` meets its contract: the check's refusal, then row 11, then what is left to row 14.
use mathlib.Core.Path.{◌≡◌, sym, ◌∙◌, ap}
use mathlib.Core.Bool.{Bool, true, false}
use mathlib.Core.List.{List}
use Prim.Native.Nat.{ℕ, ◌^◌}
use native.Mathlib.Omega.{arith}
use lib.Dec.{ltb}
use lib.ListN.{length}
use borrow.Author.Tests.{ltb-true}
use Rattle.image.specs.declared.accept.Shape.{Shape}
use Rattle.sets.specs.Member.{bit}
use Rattle.image.specs.declared.refusals.Refusal.{Refusal}
use Rattle.image.specs.declared.refusals.Refusal.TheVariants.{SettingBeyond}
use Rattle.image.specs.Records.{header}
use Rattle.image.specs.Refusals.{number_of, place_of}
use Rattle.image.specs.Rows.{refused, answer, judge, written, check_rows}
use Rattle.image.specs.Check.{shape_of}
use Rattle.image.specs.Sets.{settings}
use Rattle.image.specs.Accepted.{Accepted}
use Rattle.image.proofs.Theorem.Accepted.{accepts}
use Rattle.image.proofs.Theorem.Checked.{good_accepted, good_shape}
use Rattle.image.proofs.Theorem.Then.{judge_then, judge_stops, written_then, written_stops}
use Rattle.std.specs.Prelude.{Result, Err}
use Rattle.std.proofs.lemmas.Result.{err_from_is_err_and}
use Rattle.configure.specs.Configured.{space_rows, configure_rows, Configures}
use Rattle.configure.proofs.configure.Goals as goal

-- ---- the three answers

module _ (l : List ℕ) (s : ℕ) (out : List ℕ) where
  refused_first : (r : Refusal) → refused (number_of r) (place_of r) ≡ judge (check_rows l) (shape_of l)
      → Configures (configure_rows l s (length out)) l s out out (Err r)
  unfolding configure_rows
  refused_first r e = record {
    answered = sym (judge_stops (shape_of l) (check_rows l) _ _ _ _ (sym e));
    out_is = sym (written_stops (shape_of l) (check_rows l) _ _ _ _ _ (sym e));
  }

  beyond : Accepted l → ltb s (settings l) ≡ false → Configures (configure_rows l s (length out)) l s out out (Err SettingBeyond)
  unfolding configure_rows judge written
  beyond a e = record {
    answered = sym (judge_then s (check_rows l) _ _ (accepts l s a) ∙ rw e);
    out_is = sym (written_then s (check_rows l) _ _ _ (accepts l s a) ∙ rw e);
  }

  goes_on : Accepted l → ltb s (settings l) ≡ true → {out' : List ℕ} {r : Result ℕ Refusal}
      → Configures (space_rows l s (length out)) l s out out' r → Configures (configure_rows l s (length out)) l s out out' r
  unfolding configure_rows judge written
  goes_on a e h = record {
    answered = h.answered ∙ sym (judge_then s (check_rows l) _ _ (accepts l s a) ∙ rw e);
    out_is = h.out_is ∙ sym (written_then s (check_rows l) _ _ _ (accepts l s a) ∙ rw e);
  }

-- ---- where the image is good

module _ (l : List ℕ) {shape : Shape} (told : answer shape ≡ judge (check_rows l) (shape_of l)) where
  acc : Accepted l
  acc = good_accepted l _ told

  shape_is : shape ≡ shape_of l
  shape_is = good_shape l _ told

  options_are : shape.options ≡ (header l).options
  unfolding shape_of
  options_are = ap (λ (h : Shape). h.options) shape_is

  conditions_are : shape.conditions ≡ (header l).conditions
  unfolding shape_of
  conditions_are = ap (λ (h : Shape). h.conditions) shape_is

  nodes_are : shape.nodes ≡ (header l).nodes
  unfolding shape_of
  nodes_are = ap (λ (h : Shape). h.nodes) shape_is

  -- whether the setting is below N, as it is tested
  tested : (setting every : ℕ) {has : Bool} → has ≡ bit every setting → ((k : ℕ) → bit every k ≡ ltb k (2 ^ shape.options))
      → has ≡ ltb setting (settings l)
  unfolding settings
  tested setting every is_in is_every = is_in ∙ is_every setting ∙ ap (λ f. ltb setting (2 ^ f)) options_are

pub all_settings-requires : goal.all_settings-requires
all_settings-requires c =
    let l = c.args.image.now in
    let good = c.in_ok-shape.ensures in
    omega (arith, options_are l good, (acc l good).few_options)

pub returns-then-not-has : goal.returns-then-not-has
returns-then-not-has c =
    let l = c.args.image.now in
    let good = c.in_ok-shape.ensures in
    beyond l _ _ (acc l good) (sym (tested l good _ _ c.has.ensures c.all_settings.ensures) ∙ c.if-not-has.true)

pub condition_sets-sets-requires : goal.condition_sets-sets-requires
condition_sets-sets-requires c =
    let l = c.args.image.now in
    let good = c.in_ok-shape.ensures in
    (acc l good, shape_is l good)

pub of-requires : goal.of-requires
of-requires c =
    let l = c.args.image.now in
    let good = c.in_ok-shape.ensures in
    (acc l good, shape_is l good)

pub invariant_of-ready : goal.invariant_of-ready
invariant_of-ready c =
    let l = c.args.image.now in
    let good = c.in_ok-shape.ensures in
    record {
      ready = rw c.of.ensures.0 (record {
        accepted = acc l good;
        conditions_are = c.of.ensures.1 ∙ conditions_are l good;
        sets_right = rw c.of.ensures.1 c.condition_sets-sets.ensures.sets_are;
        setting_below = ltb-true _ _ (sym (tested l good _ _ c.has.ensures c.all_settings.ensures) ∙ c.if-not-has.false);
      });
    }

pub returns-in_err-shape : goal.returns-in_err-shape
returns-in_err-shape c =
    let p = err_from_is_err_and c.from_residual.result c.from_residual.ensures.1 in
    rw (p.1, p.2) (refused_first _ _ _ _ c.in_err-shape.ensures)

pub returns : goal.returns
returns c =
    let l = c.args.image.now in
    let good = c.in_ok-shape.ensures in
    goes_on l _ _ (acc l good) (sym (tested l good _ _ c.has.ensures c.all_settings.ensures) ∙ c.if-not-has.false) (rw c.of.ensures.0 at c.configure_ready.ensures)
