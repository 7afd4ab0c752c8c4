-- A number made of bytes has as many bits as they have.
use Prim.Native.Nat.{ℕ, zero, suc, ◌+◌, ◌^◌, ◌<◌}
use native.Mathlib.Nat.{pow-suc}
use native.Mathlib.Omega.{arith}
use lib.ListN.{get_or}
use Rattle.image.specs.Bytes.{Bytes, number_at}

pub number_lt : (l : Bytes) (at n : ℕ) → ((k : ℕ) → get_or l k 0 < 256) → number_at l at n < 256 ^ n
unfolding number_at
number_lt l at zero h = omega arith
number_lt l at (suc n) h = omega (arith, number_lt l at n h, h (at + n), pow-suc 256 n)
