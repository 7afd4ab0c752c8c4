-- Numbers of 32 bits: what remains of an integer, and how that is read as signed.
use Rattle.std.specs.Prelude.{ℕ, suc, ◌-◌, ◌%◌, ◌^◌, cond, ℤ, pos, negsuc, nat_lt}

-- z modulo 2 ^ 32
unfoldable pub low32 : ℤ → ℕ
low32 (pos n) = n % 2 ^ 32
low32 (negsuc n) = 2 ^ 32 - suc (n % 2 ^ 32)

-- of the integers that are n modulo 2 ^ 32, the one from -2 ^ 31 to 2 ^ 31 - 1
unfoldable pub signed32 : ℕ → ℤ
signed32 n = cond (nat_lt n (2 ^ 31)) (pos n) (negsuc (2 ^ 32 - suc n))

-- "A sum that leaves the range wraps modulo 2^32 into the signed range". The less of "less compares signed" is the library's `int_lt`
unfoldable pub wrap : ℤ → ℤ
wrap z = signed32 (low32 z)
