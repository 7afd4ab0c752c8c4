-- Wrapping: what comes out has 32 bits, a number of 32 bits stays, and a sum wraps as the machine's sum of the bits does.
use Rattle.std.specs.Prelude.{◌≡◌, ℕ, suc, ◌+◌, ◌-◌, ◌%◌, ◌^◌, ◌<◌, Bool, true, false, cond, ℤ, pos, negsuc, ◌+ℤ◌, FitsSigned, nat_lt, refl}
use Rattle.std.proofs.Common.{◌∙◌, ap, arith, ltb-true, ltb-false, to_z-of_z}
use Rattle.std.proofs.Math.IntN.{sub_ℕ}
use Rattle.std.specs.Int.{w32}
use mir.Val.{of_z, to_z, sel}
use Rattle.std.proofs.Math.Facts.{sfits_to_z, of_z-to_z}
use Rattle.imp.specs.Numbers.{low32, signed32, wrap}

-- the reading of 32 bits as signed is the machine's
pub signed_is : (n : ℕ) → signed32 n ≡ to_z w32 n
unfolding signed32
signed_is n = go (nat_lt n (2 ^ 31))
  where
    go : (t : Bool) → cond t (pos n) (negsuc (2 ^ 32 - suc n)) ≡ sel t (pos n) (negsuc (2 ^ 32 - suc n))
    go true = refl
    go false = refl

pub low_fits : (z : ℤ) → low32 z < 2 ^ 32
unfolding low32
low_fits (pos n) = omega arith
low_fits (negsuc n) = omega arith

-- the bits of a number of 32 bits are the machine's
pub low_is : (z : ℤ) → FitsSigned w32 z → low32 z ≡ of_z w32 z
unfolding low32
low_is (pos n) f = omega arith
low_is (negsuc n) f = omega arith

pub wrap_fits : (z : ℤ) → FitsSigned w32 (wrap z)
unfolding wrap
wrap_fits z = rw (signed_is (low32 z)) (sfits_to_z (record { fits = low_fits z }))

pub wrap_same : (z : ℤ) → FitsSigned w32 z → wrap z ≡ z
unfolding wrap
wrap_same z f = signed_is (low32 z) ∙ ap (to_z w32) (low_is z f) ∙ to_z-of_z f

-- the bits of a sum are the sum of the bits, modulo 2 ^ 32
low_sub : (a b : ℕ) → low32 (sub_ℕ a (suc b)) ≡ (a % 2 ^ 32 + (2 ^ 32 - suc (b % 2 ^ 32))) % 2 ^ 32
unfolding low32
low_sub a b = go (nat_lt a (suc b)) refl
  where
    go : (t : Bool) → nat_lt a (suc b) ≡ t
        → low32 (cond t (negsuc (suc b - suc a)) (pos (a - suc b))) ≡ (a % 2 ^ 32 + (2 ^ 32 - suc (b % 2 ^ 32))) % 2 ^ 32
    go true e = omega (arith, ltb-true a (suc b) e)
    go false e = omega (arith, ltb-false a (suc b) e)

pub low_sum : (a b : ℤ) → low32 (a +ℤ b) ≡ (low32 a + low32 b) % 2 ^ 32
unfolding low32
low_sum (pos a) (pos b) = omega arith
low_sum (pos a) (negsuc b) = low_sub a b
low_sum (negsuc a) (pos b) = low_sub b a ∙ ap (λ n. n % 2 ^ 32) (omega arith)
low_sum (negsuc a) (negsuc b) = omega arith

low_to_z : (n : ℕ) → n < 2 ^ 32 → low32 (to_z w32 n) ≡ n
low_to_z n h = low_is (to_z w32 n) (sfits_to_z (record { fits = h })) ∙ of_z-to_z {w = w32} (record { fits = h })

-- bits read as signed are the same bits
pub low_signed : (n : ℕ) → n < 2 ^ 32 → low32 (signed32 n) ≡ n
low_signed n h = ap low32 (signed_is n) ∙ low_to_z n h

-- "wrapping add with its exact signed meaning": the sum of two readings wraps to the reading of the machine's sum
pub wrap_sum : (a b : ℕ) → a < 2 ^ 32 → b < 2 ^ 32 → wrap (to_z w32 a +ℤ to_z w32 b) ≡ to_z w32 ((a + b) % 2 ^ 32)
unfolding wrap
wrap_sum a b h k = rw (low_sum (to_z w32 a) (to_z w32 b), low_to_z a h, low_to_z b k) (signed_is ((a + b) % 2 ^ 32))
