-- Row 9 of the table: `beyond N set` says just that the set has a setting at or above N, so a set that is not refused has settings below N only.
use Rattle.std.specs.Prelude.{◌≡◌, ℕ, zero, suc, ◌+◌, ◌/◌, ◌%◌, ◌^◌, ◌<◌, ◌≤◌, true, false, ◌↔◌, ◌==◌}
use Rattle.std.proofs.Common.{sym, ◌∙◌, ap, true≢false, arith, pow-suc, div-le_self, le-div_iff_mul-le, shr-shr, pow_pos, eq-eqb, le-leb, leb-true, leb-false}
use Rattle.std.proofs.Math.Decide.{dec_lt, ℕ_discrete}
use Rattle.sets.specs.Member.{digit, bit}
use Rattle.sets.specs.Digits.{digit_lowest, digit_half}
use Rattle.sets.proofs.Laws.{bit_past}
use Rattle.imp.specs.Shared.{beyond, Below}

-- a number that is not 0 has a digit that is 1
one_digit : (k n : ℕ) → n < 2 ^ k → 0 < n → (s : ℕ) × (digit n s ≡ 1)
one_digit zero n h p = absurd (omega arith)
one_digit (suc k) n h p = go (ℕ_discrete (n % 2) 1) (one_digit k (n / 2) (omega (arith, pow-suc 2 k)))
  where
    go : Dec (n % 2 ≡ 1) → (0 < n / 2 → (s : ℕ) × (digit (n / 2) s ≡ 1)) → (s : ℕ) × (digit n s ≡ 1)
    go (yes e) ih = (0, digit_lowest n ∙ e)
    go (no e) ih = let r = ih (omega arith) in (suc r.0, digit_half n r.0 ∙ r.1)

-- the digits from N on are those of what is left above 2 ^ N
digit_above : (n N s : ℕ) → digit n (N + s) ≡ digit (n / 2 ^ N) s
unfolding digit
digit_above n N s = ap (λ m. m % 2) (sym (shr-shr n N s))

pub beyond_is : (N set : ℕ) → set < 2 ^ 64 → (beyond N set ≡ true) ↔ ((s : ℕ) × (N ≤ s) × (bit set s ≡ true))
unfolding beyond bit
beyond_is N set h = (λ e. above (leb-true (2 ^ N) set e), λ r. le-leb (2 ^ N) set (many r.0 r.1 r.2 (dec_lt set (2 ^ N))))
  where
    above : 2 ^ N ≤ set → (s : ℕ) × (N ≤ s) × (((digit set s) == 1) ≡ true)
    above p =
        let r = one_digit 64 (set / 2 ^ N) (omega (arith, div-le_self set (2 ^ N))) ((le-div_iff_mul-le (pow_pos N)).1 (omega arith)) in
        (N + r.0, omega arith, eq-eqb _ 1 (digit_above set N r.0 ∙ r.1))

    many : (s : ℕ) → N ≤ s → bit set s ≡ true → Dec (set < 2 ^ N) → 2 ^ N ≤ set
    many s p e (yes q) = absurd (true≢false (sym e ∙ bit_past N set s q p))
    many s p e (no q) = omega arith

-- so a set that passes has settings below N only
pub not_beyond : (N set : ℕ) → beyond N set ≡ false → Below N (bit set)
unfolding beyond
not_beyond N set e s i = go (dec_lt s N)
  where
    go : Dec (s < N) → s < N
    go (yes p) = p
    go (no p) = absurd (true≢false (sym i ∙ bit_past N set s (leb-false (2 ^ N) set e) (omega arith)))
