-- `fill` meets its contract: before turn v the first v numbers are what they start with, and no store changes the length.
use mathlib.Core.Path.{◌≡◌, refl, sym, ◌∙◌, ap}
use mathlib.Core.List.{List, [], ◌∷◌, ◌++◌}
use Prim.Native.Nat.{ℕ, suc, ◌+◌, ◌<◌}
use native.Mathlib.Omega.{arith}
use lib.IntN.{ℤ}
use lib.ListN.{length, take, set}
use lib.Seq.{take_all, take-suc-set}
use mir.Syntax.{w32}
use mir.Facts.{to_z-of_z}
use Rattle.shared.specs.SharedRun.{each}
use Rattle.acceptance.specs.Inner.Comparing.{first, starts}
use Rattle.acceptance.proofs.numbers.fill.Goals as goal

-- one number more
one_more : (at v : ℕ) (ns : List ℤ) (z : ℤ) → v < length ns → take v ns ≡ starts at v → z ≡ first (at + v)
    → take (v + 1) (set ns v z) ≡ starts at (v + 1)
unfolding starts each
one_more at v ns z h e same =
    let next : v + 1 ≡ suc v = omega arith in
    rw next (take-suc-set ns v z h ∙ (λ i. e i ++ (same i ∷ [])))

pub loop-v-init : goal.loop-v-init
unfolding starts each
loop-v-init c = refl

pub loop-v-preserved : goal.loop-v-preserved
loop-v-preserved c =
    let z = c.first in
    one_more _ c.loop-v.v c.loop-v.numbers _ (omega arith) c.loop-v.invariant (to_z-of_z {w = w32} (record { sfits = z.type_inv }) ∙ z.ensures)

pub returns : goal.returns
returns c =
    let all : c.loop-v.v ≡ length c.args.numbers.now = omega arith in
    sym (take_all c.loop-v.v c.loop-v.numbers (omega arith)) ∙ c.loop-v.invariant ∙ ap (starts _) all
