-- A decimal, read back digit by digit, is the number that it was made of.
use Rattle.std.specs.Prelude.{◌≡◌, refl, Bool, true, false, cond, [], ◌∷◌, ◌++◌, ℕ, zero, suc, ◌+◌, ◌-◌, ◌*◌, ◌/◌, ◌%◌, ◌^◌, ◌<◌, ltb}
use Rattle.std.proofs.Common.{◌∙◌, pow-suc, arith, lt-ltb}
use Rattle.image.specs.Bytes.{Bytes}
use Rattle.text.specs.Decimal.{digits, decimal}

-- the number read so far, and a digit more
unfoldable pub reading : ℕ → Bytes → ℕ
reading n [] = n
reading n (d ∷ u) = reading (n * 10 + (d - 48)) u

reading_app : (n : ℕ) (u v : Bytes) → reading n (u ++ v) ≡ reading (reading n u) v
unfolding reading
reading_app n [] v = refl
reading_app n (d ∷ u) v = reading_app (n * 10 + (d - 48)) u v

-- the last digit, behind those of a tenth
last : (n : ℕ) (high : Bytes) → reading 0 high ≡ n / 10 → reading 0 (high ++ ((48 + n % 10) ∷ [])) ≡ n
unfolding reading
last n high e = reading_app 0 high ((48 + n % 10) ∷ []) ∙ omega (arith, e)

read_digits : (k n : ℕ) → n < 10 ^ suc k → reading 0 (digits (suc k) n) ≡ n
unfolding digits reading
read_digits zero n h = rw (lt-ltb n 10 (omega arith)) (omega arith)
read_digits (suc k) n h = go (ltb n 10) (read_digits k (n / 10) (omega (arith, pow-suc 10 (suc k))))
  where
    go : (u : Bool) → reading 0 (digits (suc k) (n / 10)) ≡ n / 10 → reading 0 (cond u ((48 + n) ∷ []) (digits (suc k) (n / 10) ++ ((48 + n % 10) ∷ []))) ≡ n
    go true ih = omega arith
    go false ih = last n (digits (suc k) (n / 10)) ih

-- of every number of 64 bits
pub read_back : (n : ℕ) → n < 2 ^ 64 → reading 0 (decimal n) ≡ n
unfolding decimal
read_back n h = read_digits 19 n (omega arith)
