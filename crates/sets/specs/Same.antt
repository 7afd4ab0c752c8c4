-- Theorem: sets with the same members are the same set. So a contract that gives the members leaves one result.
use Rattle.std.specs.Prelude.{◌≡◌, refl, ℕ, zero, suc, ◌/◌, ◌^◌, ◌<◌, eqb}
use Rattle.std.proofs.Common.{sym, ap, ◌∙◌, arith, pow-suc}
use Rattle.sets.specs.declared.Set.{Set}
use Rattle.sets.specs.Member.{digit, bit, has}
use Rattle.sets.specs.Digits.{digit_lt, on_digits, digit_lowest, digit_half}

-- numbers of k digits with equal digits are equal
pub same_digits : (k a b : ℕ) → a < 2 ^ k → b < 2 ^ k → ((s : ℕ) → s < k → digit a s ≡ digit b s) → a ≡ b
same_digits zero a b ha hb e = omega arith
same_digits (suc k) a b ha hb e =
    let lower : (s : ℕ) → s < k → digit (a / 2) s ≡ digit (b / 2) s = λ s h. sym (digit_half a s) ∙ e (suc s) (omega arith) ∙ digit_half b s in
    let half : a / 2 ≡ b / 2 = same_digits k (a / 2) (b / 2) (omega (arith, pow-suc 2 k)) (omega (arith, pow-suc 2 k)) lower in
    omega (arith, e 0 (omega arith), digit_lowest a, digit_lowest b)

-- a digit is told by whether it is one
told : (x y : ℕ) → x < 2 → y < 2 → eqb x 1 ≡ eqb y 1 → x ≡ y
told = on_digits (λ x y. eqb x 1 ≡ eqb y 1 → x ≡ y) (λ e. refl) (λ e. cc) (λ e. cc) (λ e. refl)

same_digit : (a b s : ℕ) → bit a s ≡ bit b s → digit a s ≡ digit b s
unfolding bit
same_digit a b s e = told (digit a s) (digit b s) (digit_lt a s) (digit_lt b s) e

pub same_members : (A B : Set) → A.bits < 2 ^ 64 → B.bits < 2 ^ 64 → ((s : ℕ) → has A s ≡ has B s) → A ≡ B
same_members A B hA hB e =
    let same : A.bits ≡ B.bits = same_digits 64 A.bits B.bits hA hB (λ s h. same_digit A.bits B.bits s (e s)) in
    ap (λ (n : ℕ). record { bits = n }) same
