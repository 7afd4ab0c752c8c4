-- Numbers in decimal, as bytes: byte 48 is the digit 0, byte 45 the minus.
use Rattle.std.specs.Prelude.{ℕ, zero, suc, ◌+◌, ◌/◌, ◌%◌, cond, [], ◌∷◌, ◌++◌, ltb, ℤ, pos, negsuc}
use Rattle.image.specs.Bytes.{Bytes}

-- the last k digits of n, most significant first and none in front of n's own
unfoldable pub digits : ℕ → ℕ → Bytes
digits zero n = []
digits (suc k) n = cond (ltb n 10) ((48 + n) ∷ []) (digits k (n / 10) ++ ((48 + n % 10) ∷ []))

-- a number of 64 bits has at most twenty
unfoldable pub decimal : ℕ → Bytes
decimal n = digits 20 n

-- a negative number is its magnitude behind a minus
unfoldable pub signed_decimal : ℤ → Bytes
signed_decimal (pos n) = decimal n
signed_decimal (negsuc n) = 45 ∷ decimal (suc n)
