-- `put_signed` meets its contract: of the bits below 2 ^ 31 their digits, of the others a minus and the digits of what is left to 2 ^ 32.
use mathlib.Core.Path.{◌≡◌, ◌∙◌, ap}
use mathlib.Core.List.{◌∷◌}
use Prim.Native.Nat.{◌-◌, ◌<◌, ◌≤◌}
use native.Mathlib.Omega.{arith}
use lib.ListN.{length, length-set}
use mir.Facts.{to_z-of_z}
use Rattle.imp.specs.Numbers.{low32}
use Rattle.text.specs.Decimal.{decimal, signed_decimal}
use Rattle.text.proofs.Putting.{then, byte, same}
use Rattle.text.proofs.Signs.{plain, minus}
use Rattle.text.proofs.decimal.put_signed.Lts as lts
use Rattle.text.proofs.decimal.put_signed.Reads as reads
use Rattle.text.proofs.decimal.put_signed.Tie as tie
use Rattle.text.proofs.decimal.put_signed.Goals as goal
use Rattle.text.proofs.decimal.put_signed.Goals.{Then-n-lt2147483648, Else-n-lt2147483648}

-- what the code's test says on either side
few : (c : lts.Then1 tie.the-claims reads.Pre reads.Post) → c.bits-n.result < 2147483648
few c = omega arith

many : (c : lts.Else1 tie.the-claims reads.Pre reads.Post) → 2147483648 ≤ c.bits-n.result
many c = omega arith

below : (c : Then-n-lt2147483648) → decimal c.bits-n.result ≡ signed_decimal c.args.z
below c =
    let bits_are : c.bits-n.result ≡ low32 c.args.z = c.bits-n.ensures ∙ ap low32 (to_z-of_z c.ranges.z) in
    ap decimal bits_are ∙ plain c.args.z c.ranges.z (omega (arith, bits_are, few c.before))

above : (c : Else-n-lt2147483648) → 45 ∷ decimal (4294967296 - c.bits-n.result) ≡ signed_decimal c.args.z
above c =
    let bits_are : c.bits-n.result ≡ low32 c.args.z = c.bits-n.ensures ∙ ap low32 (to_z-of_z c.ranges.z) in
    ap (λ n. 45 ∷ decimal (4294967296 - n)) bits_are ∙ minus c.args.z c.ranges.z (omega (arith, bits_are, many c))

pub put_decimal-requires : goal.put_decimal-requires
put_decimal-requires c =
    omega (arith, c.requires, ap length (below (goal.at.put_decimal-requires c).Then-n-lt2147483648))

pub returns-then-n-lt2147483648 : goal.returns-then-n-lt2147483648
returns-then-n-lt2147483648 c = same (below (goal.at.returns-then-n-lt2147483648 c).Then-n-lt2147483648) c.put_decimal.ensures

pub bounds-out-at : goal.bounds-out-at
bounds-out-at c = omega (arith, c.requires, ap length (above c))

pub put_decimal-requires-2 : goal.put_decimal-requires-2
put_decimal-requires-2 c =
    omega (arith, c.requires, ap length (above (goal.at.put_decimal-requires-2 c).Else-n-lt2147483648), length-set c.args.out.now c.args.at 45)

pub shape_of-out : goal.shape_of-out
shape_of-out c =
    c.put_decimal-2.auto.out ∙ length-set c.args.out.now c.args.at 45

pub returns : goal.returns
returns c =
    same (above (goal.at.returns c).Else-n-lt2147483648) (then (byte 45 c.args.at c.args.out.now (bounds-out-at (goal.at.returns c).Else-n-lt2147483648)) c.put_decimal-2.ensures)
