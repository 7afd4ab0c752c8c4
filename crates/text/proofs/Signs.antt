-- The two ways of a signed number, by its bits.
use mathlib.Core.Path.{◌≡◌, ap}
use mathlib.Core.List.{◌∷◌}
use Prim.Native.Nat.{◌-◌, ◌≤◌, ◌<◌}
use native.Mathlib.Omega.{arith}
use lib.IntN.{ℤ, pos, negsuc}
use mir.Syntax.{w32}
use mir.Val.{SFits}
use Rattle.imp.specs.Numbers.{low32}
use Rattle.text.specs.Decimal.{decimal, signed_decimal}

pub plain : (z : ℤ) → SFits w32 z → low32 z < 2147483648 → decimal (low32 z) ≡ signed_decimal z
unfolding signed_decimal low32
plain (pos n) f h = ap decimal (omega arith)
plain (negsuc n) f h = absurd (omega arith)

pub minus : (z : ℤ) → SFits w32 z → 2147483648 ≤ low32 z → 45 ∷ decimal (4294967296 - low32 z) ≡ signed_decimal z
unfolding signed_decimal low32
minus (pos n) f h = absurd (omega arith)
minus (negsuc n) f h = ap (λ k. 45 ∷ decimal k) (omega arith)
