-- Laws of binary digits: a digit is 0 or 1, and the digits of n / 2 are those of n, one place down.
use Rattle.std.specs.Prelude.{◌≡◌, ℕ, zero, suc, ◌/◌, ◌%◌, ◌^◌, ◌≤◌, ◌<◌}
use Rattle.std.proofs.Common.{arith, lt_of_lt_of_le, pow_mono}
use Rattle.std.proofs.Math.Nat.{pow-succ', div-eq_of_lt, div-div-eq-div-mul}
use Rattle.sets.specs.Member.{digit}

pub digit_lt : (n s : ℕ) → digit n s < 2
unfolding digit
digit_lt n s = omega arith

-- what holds of 0 and 1 holds of every two digits: the truth tables of the operations are proved by it
pub on_digits : (P : ℕ → ℕ → Type 0) → P 0 0 → P 0 1 → P 1 0 → P 1 1 → (x y : ℕ) → x < 2 → y < 2 → P x y
on_digits P a b c d zero zero hx hy = a
on_digits P a b c d zero (suc zero) hx hy = b
on_digits P a b c d (suc zero) zero hx hy = c
on_digits P a b c d (suc zero) (suc zero) hx hy = d
on_digits P a b c d zero (suc (suc y)) hx hy = absurd (omega arith)
on_digits P a b c d (suc zero) (suc (suc y)) hx hy = absurd (omega arith)
on_digits P a b c d (suc (suc x)) y hx hy = absurd (omega arith)

pub digit_lowest : (n : ℕ) → digit n 0 ≡ n % 2
unfolding digit
digit_lowest n = omega arith

pub digit_half : (n s : ℕ) → digit n (suc s) ≡ digit (n / 2) s
unfolding digit
digit_half n s = rw (pow-succ' 2 s, ← div-div-eq-div-mul n 2 (2 ^ s))

-- a number of k digits has no digit past them
pub digit_past : (k n s : ℕ) → n < 2 ^ k → k ≤ s → digit n s ≡ 0
unfolding digit
digit_past k n s h past = rw (div-eq_of_lt (lt_of_lt_of_le h (pow_mono past)))
