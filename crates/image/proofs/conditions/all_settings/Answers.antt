-- `all_settings` meets its contract: with at most 6 options the full set is not refused.
use Rattle.std.specs.Prelude.{Option, Some, None}
use Rattle.std.specs.Option.{unwrap_or}
use mathlib.Core.Path.{◌≡◌, refl, ◌∙◌, ap}
use mathlib.Core.Bool.{false}
use Prim.Native.Nat.{ℕ}
use native.Mathlib.Omega.{arith}
use borrow.Author.Tests.{le-leb, le-ltb}
use Rattle.sets.specs.declared.Set.{Set}
use Rattle.sets.specs.Member.{refused, has, full_has, verdict_of, full_of, judged}
use Rattle.image.proofs.conditions.all_settings.Goals as goal

never : (f : ℕ) → refused 3 0 ≡ judged false f → ⊥
never f e = let z : ◌≡◌ {A = ℕ} 0 1 = cc in omega arith

-- what is not refused has the members of the set that it holds
held : (f : ℕ) (a : Option Set) (other : Set) → verdict_of a ≡ judged false f → (s : ℕ) → has (unwrap_or a other) s ≡ full_has a s
held f (Some S) other e s = refl
held f None other e s = absurd (never f e)

pub returns : goal.returns
unfolding full_of
returns c s =
    let few = c.requires in
    ap (λ a. has a s) c.unwrap_or.ensures
    ∙ held c.args.options c.full.result c.empty.result (rw (le-ltb 6 c.args.options few) at c.full.ensures.verdict) s
    ∙ c.full.ensures.members s ∙ rw (le-leb c.args.options 6 few)
