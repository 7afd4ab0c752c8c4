-- Which settings are in a number made by masks and shifts: met, joined, taken away, one setting alone, the first n settings.
-- Each law is over the width, or over every number.
use mathlib.Core.Path.{◌≡◌, refl, ap, ◌∙◌}
use mathlib.Core.Bool.{false, ◌&&◌, ◌||◌, not}
use Prim.Native.Nat.{ℕ, zero, suc, min, max, ◌+◌, ◌-◌, ◌*◌, ◌/◌, ◌%◌, ◌^◌, ◌≤◌, ◌<◌}
use native.Mathlib.Omega.{arith}
use native.Mathlib.Nat.{pow-suc, one-mul}
use native.Mathlib.Decide.{dec_lt}
use lib.Dec.{eqb, ltb, eqb-zero-suc, eqb-suc-zero, eqb-suc-suc}
use lib.Pow.{pow_pos, ones_lt, ones_split, high, shl_exact}
use lib.Bits.{bit_and, bit_or, and_step, or_step, and_shr, or_shr, and_mask}
use borrow.Author.Tests.{lt-ltb, le-ltb}
use Rattle.sets.specs.Member.{digit, bit}
use Rattle.sets.specs.Digits.{digit_lt, on_digits, digit_lowest, digit_half, digit_past}

pub bit_past : (k n s : ℕ) → n < 2 ^ k → k ≤ s → bit n s ≡ false
unfolding bit
bit_past k n s h past = rw (digit_past k n s h past)

pub bit_none : (s : ℕ) → bit 0 s ≡ false
bit_none s = bit_past 0 0 s (pow_pos 0) (omega arith)

-- ---- asked for: shifted down and masked

pub bit_asked : (n s : ℕ) → eqb (bit_and (n / 2 ^ s) 1) 1 ≡ bit n s
unfolding bit digit
bit_asked n s = ap (λ (d : ℕ). eqb d 1) (and_mask (n / 2 ^ s) 1)

-- ---- met and joined: the lesser and the greater of two digits

and_digit : (a b s : ℕ) → digit (bit_and a b) s ≡ min (digit a s) (digit b s)
unfolding digit
and_digit a b s = rw and_shr (omega (arith, and_step (a / 2 ^ s) (b / 2 ^ s)))

or_digit : (a b s : ℕ) → digit (bit_or a b) s ≡ max (digit a s) (digit b s)
unfolding digit
or_digit a b s = rw or_shr (omega (arith, or_step (a / 2 ^ s) (b / 2 ^ s)))

min_and : (x y : ℕ) → x < 2 → y < 2 → eqb (min x y) 1 ≡ (eqb x 1 && eqb y 1)
min_and = on_digits (λ x y. eqb (min x y) 1 ≡ (eqb x 1 && eqb y 1)) refl refl refl refl

max_or : (x y : ℕ) → x < 2 → y < 2 → eqb (max x y) 1 ≡ (eqb x 1 || eqb y 1)
max_or = on_digits (λ x y. eqb (max x y) 1 ≡ (eqb x 1 || eqb y 1)) refl refl refl refl

pub bit_of_and : (a b s : ℕ) → bit (bit_and a b) s ≡ (bit a s && bit b s)
unfolding bit
bit_of_and a b s = rw and_digit (min_and _ _ (digit_lt a s) (digit_lt b s))

pub bit_of_or : (a b s : ℕ) → bit (bit_or a b) s ≡ (bit a s || bit b s)
unfolding bit
bit_of_or a b s = rw or_digit (max_or _ _ (digit_lt a s) (digit_lt b s))

-- ---- taken away: a complement at width k has the other digits

not_digit : (k s b : ℕ) → s < k → b < 2 ^ k → digit ((2 ^ k - 1) - b) s ≡ 1 - digit b s
not_digit zero s b h hb = absurd (omega arith)
not_digit (suc k) zero b h hb = omega (arith, pow-suc 2 k, digit_lowest b, digit_lowest ((2 ^ suc k - 1) - b))
not_digit (suc k) (suc s) b h hb =
    let half : ((2 ^ suc k - 1) - b) / 2 ≡ (2 ^ k - 1) - b / 2 = omega (arith, pow-suc 2 k) in
    let below : b / 2 < 2 ^ k = omega (arith, pow-suc 2 k) in
    rw (digit_half ((2 ^ suc k - 1) - b) s, digit_half b s, half) (not_digit k s (b / 2) (omega arith) below)

sub_not : (x y : ℕ) → x < 2 → y < 2 → (eqb x 1 && eqb (1 - y) 1) ≡ (eqb x 1 && not (eqb y 1))
sub_not = on_digits (λ x y. (eqb x 1 && eqb (1 - y) 1) ≡ (eqb x 1 && not (eqb y 1))) refl refl refl refl

pub bit_take_away : (k a b s : ℕ) → a < 2 ^ k → b < 2 ^ k → bit (bit_and a ((2 ^ k - 1) - b)) s ≡ (bit a s && not (bit b s))
unfolding bit
bit_take_away k a b s ha hb = bit_of_and a ((2 ^ k - 1) - b) s ∙ go (dec_lt s k)
  where
    go : Dec (s < k) → (bit a s && bit ((2 ^ k - 1) - b) s) ≡ (bit a s && not (bit b s))
    go (yes h) = rw (not_digit k s b h hb) (sub_not _ _ (digit_lt a s) (digit_lt b s))
    go (no h) = rw (digit_past k a s ha (omega arith))

-- ---- one setting alone

pub bit_power : (s x : ℕ) → bit (2 ^ s) x ≡ eqb x s
unfolding bit
bit_power zero zero = rw digit_lowest
bit_power zero (suc x) = rw (eqb-suc-zero x, digit_past 1 1 (suc x) (omega arith) (omega arith))
bit_power (suc s) zero =
    let even : digit (2 ^ suc s) 0 ≡ 0 = omega (arith, digit_lowest (2 ^ suc s), pow-suc 2 s) in rw (eqb-zero-suc s, even)
bit_power (suc s) (suc x) =
    let half : 2 ^ suc s / 2 ≡ 2 ^ s = omega (arith, pow-suc 2 s) in rw (eqb-suc-suc x s, digit_half, half) (bit_power s x)

-- the shift loses nothing below the width
pub one_shl : (w s : ℕ) → s < w → (1 * 2 ^ s) % 2 ^ w ≡ 2 ^ s
one_shl w s h = shl_exact 1 s w (omega arith) (omega arith) ∙ one-mul (2 ^ s)

-- ---- the first n settings

pub digit_ones : (n s : ℕ) → s < n → digit (2 ^ n - 1) s ≡ 1
digit_ones n s h =
    let all : (2 ^ n - 1) - 0 ≡ 2 ^ n - 1 = omega arith in
    rw (← all, not_digit n s 0 h (pow_pos n), digit_past 0 0 s (pow_pos 0) (omega arith))

pub bit_ones : (n s : ℕ) → bit (2 ^ n - 1) s ≡ ltb s n
unfolding bit
bit_ones n s = go (dec_lt s n)
  where
    go : Dec (s < n) → bit (2 ^ n - 1) s ≡ ltb s n
    go (yes h) = rw (lt-ltb s n h, digit_ones n s h)
    go (no h) = rw (le-ltb s n (omega arith), digit_past n (2 ^ n - 1) s (ones_lt n) (omega arith))

-- of all j + k settings, shifted down by k, the first j are left
pub ones_shr : (j k : ℕ) → (2 ^ (j + k) - 1) / 2 ^ k ≡ 2 ^ j - 1
ones_shr j k = rw (ones_split j k) (high (2 ^ j - 1) k (ones_lt k))
