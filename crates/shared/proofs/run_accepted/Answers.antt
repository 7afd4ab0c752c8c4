-- `run_accepted` meets its contract: rows 9, 10 and 12, and then the run.
use mathlib.Core.Path.{◌≡◌, sym, ◌∙◌, ap}
use mathlib.Core.Bool.{Bool}
use mathlib.Core.List.{List}
use lib.IntN.{ℤ}
use Prim.Native.Nat.{◌*◌, ◌%◌, ◌^◌, ◌≤◌}
use native.Mathlib.Omega.{arith}
use lib.Pow.{pow_mono}
use Rattle.sets.specs.declared.Set.{Set}
use Rattle.sets.proofs.Laws.{one_shl}
use Rattle.imp.specs.Shared.{beyond}
use Rattle.image.specs.declared.accept.Shape.{Shape}
use Rattle.image.specs.Accepted.{Accepted}
use Rattle.image.specs.Bytes.{Bytes}
use Rattle.image.specs.Records.{header}
use Rattle.image.specs.Check.{shape_of}
use Rattle.image.specs.Sets.{settings}
use Rattle.shared.specs.Lent.{Tally}
use Rattle.shared.specs.SharedRun.{exact}
use Rattle.shared.proofs.Entry as entry
use Rattle.shared.proofs.run_accepted.Goals as goal

module _ {l : Bytes} {shape : Shape} (known : Accepted l × (shape ≡ shape_of l)) where
  options_are : shape.options ≡ (header l).options
  unfolding shape_of
  options_are = ap (λ (h : Shape). h.options) known.1

  few_options : shape.options ≤ 6
  few_options = omega (arith, options_are, known.0.few_options)

  settings_are : 2 ^ shape.options ≡ settings l
  unfolding settings
  settings_are = ap (λ n. 2 ^ n) options_are

  shifted : (1 * 2 ^ shape.options) % 2 ^ 64 ≡ settings l
  shifted = one_shl 64 shape.options (omega (arith, few_options)) ∙ settings_are

  -- row 9
  told : (set : Set) {r : Bool} → r ≡ beyond (2 ^ shape.options) set.bits → beyond (settings l) set.bits ≡ r
  told set e = sym (e ∙ ap (λ n. beyond n set.bits) settings_are)

  -- row 12
  measured : (xs : List ℤ) (T : Tally) {r : Bool} → r ≡ exact ((1 * 2 ^ shape.options) % 2 ^ 64) xs T → exact (settings l) xs T ≡ r
  measured xs T e = sym (e ∙ ap (λ n. exact n xs T) shifted)

pub returns-then-beyond-clause-runs : goal.returns-then-beyond-clause-runs
returns-then-beyond-clause-runs c = entry.set_beyond c.args.image.now _ _ _ _ (told c.requires c.args.set c.beyond.ensures ∙ c.if-beyond.true)

pub returns-then-budget-gt-LARGEST_BUDGET-clause-runs : goal.returns-then-budget-gt-LARGEST_BUDGET-clause-runs
returns-then-budget-gt-LARGEST_BUDGET-clause-runs c =
    entry.over_budget c.args.image.now _ _ _ _ (told c.requires c.args.set c.beyond.ensures ∙ c.if-beyond.false) c.if-budget-gt-LARGEST_BUDGET.true

pub returns-then-not-exact-clause-runs : goal.returns-then-not-exact-clause-runs
returns-then-not-exact-clause-runs c =
    entry.wrong_length c.args.image.now _ _ _ _ (told c.requires c.args.set c.beyond.ensures ∙ c.if-beyond.false) c.if-budget-gt-LARGEST_BUDGET.false
    (measured c.requires _ _ c.exact.ensures ∙ c.if-not-exact.true)

pub returns-clause-runs : goal.returns-clause-runs
returns-clause-runs c =
    entry.all_passed c.args.image.now _ _ _ _ (told c.requires c.args.set c.beyond.ensures ∙ c.if-beyond.false) c.if-budget-gt-LARGEST_BUDGET.false
    (measured c.requires _ _ c.exact.ensures ∙ c.if-not-exact.false) c.run_lent.ensures.runs

pub run_lent-requires : goal.run_lent-requires
run_lent-requires c =
    entry.carried _ c.requires.0 c.requires.1 (told c.requires c.args.set c.beyond.ensures ∙ c.if-beyond.false) c.if-budget-gt-LARGEST_BUDGET.false
    (measured c.requires _ _ c.exact.ensures ∙ c.if-not-exact.false)

pub beyond-requires : goal.beyond-requires
beyond-requires c = few_options c.requires

pub overflow_shl-shape : goal.overflow_shl-shape
overflow_shl-shape c = omega (arith, few_options c.requires)

pub exact-requires : goal.exact-requires
exact-requires c =
    let few = few_options c.requires in
    omega (arith, shifted c.requires, settings_are c.requires, pow_mono few)
