-- `put_line` meets its contract: a line end and the first of 32 spaces.
use mathlib.Core.Path.{◌≡◌, refl, ap, ◌∙◌}
use mathlib.Core.Bool.{cond}
use mathlib.Core.List.{◌∷◌}
use Prim.Native.Nat.{ℕ, zero, suc, min, ◌+◌, ◌*◌, ◌≤◌}
use native.Mathlib.Omega.{arith}
use lib.Dec.{ltb}
use lib.ListN.{length, take}
use Rattle.std.proofs.lemmas.Bool.Decides.{nat_tests}
use Rattle.text.proofs.Putting.{same}
use Rattle.written.specs.Lister.{DEEPEST, spaces, line}
use Rattle.listing.proofs.gap.put_line.Goals as goal

deep_is : (level : ℕ) → min level DEEPEST ≡ cond (ltb level DEEPEST) level DEEPEST
deep_is level = grind (arith, nat_tests)

first_spaces : (n k : ℕ) → n ≤ k → take n (spaces k) ≡ spaces n
unfolding spaces
first_spaces zero k h = refl
first_spaces (suc n) zero h = absurd (omega arith)
first_spaces (suc n) (suc k) h = ap (λ t. 32 ∷ t) (first_spaces n k (omega arith))

-- the part of the deepest line that is put
line_is : (level k : ℕ) → k ≡ min level DEEPEST → take (1 + 2 * k) (10 ∷ spaces 32) ≡ line level
unfolding line
line_is level k e =
    let one : 1 + 2 * k ≡ suc (2 * k) = omega arith in
    ap (λ j. take j (10 ∷ spaces 32)) one ∙ ap (λ t. 10 ∷ t) (first_spaces (2 * k) 32 (omega (arith, e)) ∙ ap (λ n. spaces (2 * n)) (e ∙ deep_is level))

pub put-requires : goal.put-requires
unfolding spaces
put-requires c = omega (arith, c.requires, ap length (line_is c.args.level c.min.result c.min.ensures))

pub returns : goal.returns
unfolding spaces
returns c = same (line_is c.args.level c.min.result c.min.ensures) c.put.ensures
