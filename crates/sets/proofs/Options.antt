-- The settings in which an option is off, by one rule: all ones divided by 2 ^ w + 1 are w ones and w zeros in turn, and option k has w = 2 ^ k.
use mathlib.Core.Path.{◌≡◌, refl, sym, ap, ◌∙◌}
use mathlib.Core.Bool.{false, ◌&&◌, not, and-false}
use Prim.Native.Nat.{ℕ, zero, suc, ◌+◌, ◌-◌, ◌*◌, ◌/◌, ◌%◌, ◌^◌, ◌≤◌, ◌<◌}
use native.Mathlib.Omega.{arith}
use native.Mathlib.Nat.{two-pow-succ, mul-div_cancel, div-eq_of_lt, div-eq-sub-div, add-mul-div_left, mul-add, add-mul, mul-one, mul_assoc, mul_comm, lt_of_lt_of_le}
use native.Mathlib.Decide.{dec_lt}
use lib.Dec.{eqb}
use lib.Pow.{pow-add, pow_pos, pow_mono, shr-shr, high, ones_lt, ones_split}
use lib.Bits.{block_half, block_odd}
use Rattle.sets.specs.Member.{digit, bit}
use Rattle.sets.specs.Digits.{digit_lt, on_digits, digit_lowest, digit_half, digit_past}
use Rattle.sets.proofs.Laws.{bit_past, digit_ones}

-- ---- a number above w digits of another

digit_below : (w above low s : ℕ) → s < w → digit (above * 2 ^ w + low) s ≡ digit low s
digit_below zero above low s h = absurd (omega arith)
digit_below (suc w) above low zero h = digit_lowest (above * 2 ^ suc w + low) ∙ block_odd above w low ∙ sym (digit_lowest low)
digit_below (suc w) above low (suc s) h =
    rw (digit_half (above * 2 ^ suc w + low) s, digit_half low s, block_half) (digit_below w above (low / 2) s (omega arith))

digit_above : (w above low s : ℕ) → low < 2 ^ w → digit (above * 2 ^ w + low) (w + s) ≡ digit above s
unfolding digit
digit_above w above low s h = rw (← shr-shr, high above w h)

-- ---- w ones and w zeros in turn, m times

unfoldable stripes : ℕ → ℕ → ℕ
stripes w zero = 0
stripes w (suc m) = stripes w m * 2 ^ (w + w) + (2 ^ w - 1)

stripes_times : (w m : ℕ) → stripes w m * (2 ^ w + 1) ≡ 2 ^ (m * (w + w)) - 1
unfolding stripes
stripes_times w zero = let none : 0 * (w + w) ≡ 0 = omega arith in rw none (omega arith)
stripes_times w (suc m) =
    let more : suc m * (w + w) ≡ m * (w + w) + (w + w) = omega arith in
    let pair : (2 ^ w - 1) * (2 ^ w + 1) ≡ 2 ^ (w + w) - 1 = rw (mul-add, mul-one, ones_split w w) in
    rw (more, ones_split (m * (w + w)) (w + w), add-mul, pair, mul_assoc, mul_comm (2 ^ (w + w)) (2 ^ w + 1), ← mul_assoc, stripes_times w m)

stripes_are : (w m : ℕ) → (2 ^ (m * (w + w)) - 1) / (2 ^ w + 1) ≡ stripes w m
stripes_are w m = rw (← stripes_times w m) (mul-div_cancel (stripes w m) (omega arith))

-- setting s is in an even stripe, or in an odd one
stripe_below : (w above s : ℕ) → 0 < w → ((t : ℕ) → s ≡ (w + w) + t → digit above t ≡ 1 - t / w % 2)
    → digit (above * 2 ^ (w + w) + (2 ^ w - 1)) s ≡ 1 - s / w % 2
stripe_below w above s some higher = go (dec_lt s w) (dec_lt s (w + w))
  where
    fits : 2 ^ w - 1 < 2 ^ (w + w)
    fits = lt_of_lt_of_le (ones_lt w) (pow_mono (omega arith))

    go : Dec (s < w) → Dec (s < w + w) → digit (above * 2 ^ (w + w) + (2 ^ w - 1)) s ≡ 1 - s / w % 2
    go (yes p) q = digit_below (w + w) above (2 ^ w - 1) s (omega arith) ∙ rw (digit_ones w s p, div-eq_of_lt p)
    go (no p) (yes q) =
        let last : s - w < w = omega arith in
        let odd : s / w ≡ 1 = div-eq-sub-div some (omega arith) ∙ rw (div-eq_of_lt last) in
        digit_below (w + w) above (2 ^ w - 1) s q ∙ rw (digit_past w (2 ^ w - 1) s (ones_lt w) (omega arith), odd)
    go (no p) (no q) =
        let t : ℕ = s - (w + w) in
        let back : s ≡ (w + w) + t = omega arith in
        let two : s / w ≡ t / w + 2 = ap (λ (n : ℕ). n / w) (back ∙ omega arith) ∙ add-mul-div_left t 2 some in
        ap (digit (above * 2 ^ (w + w) + (2 ^ w - 1))) back ∙ digit_above (w + w) above (2 ^ w - 1) t fits ∙ higher t back ∙ omega (arith, two)

digit_stripes : (w m s : ℕ) → 0 < w → s < m * (w + w) → digit (stripes w m) s ≡ 1 - s / w % 2
unfolding stripes
digit_stripes w zero s some h = absurd (omega arith)
digit_stripes w (suc m) s some h = stripe_below w (stripes w m) s some (λ t e. digit_stripes w m t some (omega (arith, e)))

-- ---- the rule of the single options, over the number n of options: 2 ^ n settings

-- of the settings below 2 ^ n, those in which option k is off
unfoldable pub off : ℕ → ℕ → ℕ
off n k = (2 ^ 2 ^ n - 1) / (2 ^ 2 ^ k + 1)

digit_off : (n k s : ℕ) → k < n → s < 2 ^ n → digit (off n k) s ≡ 1 - digit s k
unfolding digit off
digit_off n k s hk h = rw (whole, stripes_are (2 ^ k) (2 ^ j)) (digit_stripes (2 ^ k) (2 ^ j) s (pow_pos k) (rw whole at h))
  where
    j : ℕ
    j = n - suc k

    whole : 2 ^ n ≡ 2 ^ j * (2 ^ k + 2 ^ k)
    whole =
        let split : n ≡ j + suc k = omega arith in
        ap (λ (i : ℕ). 2 ^ i) split ∙ pow-add 2 j (suc k) ∙ ap (λ (i : ℕ). 2 ^ j * i) (two-pow-succ k)

on_not : (x y : ℕ) → x < 2 → y < 2 → not (eqb (1 - x) 1) ≡ eqb x 1
on_not = on_digits (λ x y. not (eqb (1 - x) 1) ≡ eqb x 1) refl refl refl refl

-- what is left of a set over n options when those settings are taken away
pub option_left : (n full k s : ℕ) → full < 2 ^ 2 ^ n → k < n → (bit full s && not (bit (off n k) s)) ≡ (bit full s && bit s k)
unfolding bit
option_left n full k s hf hk = go (dec_lt s (2 ^ n))
  where
    go : Dec (s < 2 ^ n) → (bit full s && not (bit (off n k) s)) ≡ (bit full s && bit s k)
    go (yes h) = rw (digit_off n k s hk h, on_not (digit s k) (digit s k) (digit_lt s k) (digit_lt s k))
    go (no h) = rw (digit_past (2 ^ n) full s hf (omega arith))

-- in a set over n options no setting has option n, or one above, on
pub option_none : (n full k s : ℕ) → full < 2 ^ 2 ^ n → n ≤ k → (bit full s && bit s k) ≡ false
option_none n full k s hf hk = go (dec_lt s (2 ^ n))
  where
    go : Dec (s < 2 ^ n) → (bit full s && bit s k) ≡ false
    go (yes h) = rw (bit_past n s k h hk, and-false)
    go (no h) = rw (bit_past (2 ^ n) full s hf (omega arith))
