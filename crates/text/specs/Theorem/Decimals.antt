-- Decimals: one digit more where the number is ten or above, and no more digits than it takes.
use Rattle.std.specs.Prelude.{◌≡◌, Bool, true, false, cond, [], ◌∷◌, ◌++◌, ℕ, zero, suc, ◌+◌, ◌/◌, ◌%◌, ◌^◌, ◌≤◌, ◌<◌, ltb, length}
use Rattle.std.proofs.Common.{sym, ◌∙◌, ap, pow-suc, arith, length-append, lt-ltb, le-ltb}
use Rattle.std.proofs.Math.Nat.{pow-le-pow_right}
use Rattle.text.specs.Decimal.{digits, decimal}

-- a place more is of no use to a number below 10 ^ suc k
one_more : (k n : ℕ) → n < 10 ^ suc k → digits (suc (suc k)) n ≡ digits (suc k) n
unfolding digits
one_more zero n h = rw (lt-ltb n 10 (omega arith))
one_more (suc k) n h =
    ap (λ high. cond (ltb n 10) ((48 + n) ∷ []) (high ++ ((48 + n % 10) ∷ []))) (one_more k (n / 10) (omega (arith, pow-suc 10 (suc k))))

-- nor are several
more : (j k n : ℕ) → n < 10 ^ suc k → digits (suc (j + k)) n ≡ digits (suc k) n
more zero k n h = ap (λ i. digits (suc i) n) (omega arith)
more (suc j) k n h =
    let next : suc (suc j + k) ≡ suc (suc (j + k)) = omega arith in
    let small : n < 10 ^ suc (j + k) = omega (arith, pow-le-pow_right {n = 10} (omega arith) {i = suc k} {j = suc (j + k)} (omega arith)) in
    ap (λ i. digits i n) next ∙ one_more (j + k) n small ∙ more j k n h

pub at_most : (k n : ℕ) → length (digits k n) ≤ k
unfolding digits
at_most zero n = omega arith
at_most (suc k) n = go (ltb n 10) (at_most k (n / 10))
  where
    go : (u : Bool) → length (digits k (n / 10)) ≤ k → length (cond u ((48 + n) ∷ []) (digits k (n / 10) ++ ((48 + n % 10) ∷ []))) ≤ suc k
    go true ih = omega arith
    go false ih = omega (arith, length-append (digits k (n / 10)) ((48 + n % 10) ∷ []))

-- a number of suc k digits: with 19 = j + k
pub short : (j k n : ℕ) → j + k ≡ 19 → n < 10 ^ suc k → length (decimal n) ≤ suc k
unfolding decimal
short j k n e h =
    let long : 20 ≡ suc (j + k) = omega arith in
    omega (arith, at_most (suc k) n, ap length (ap (λ i. digits i n) long ∙ more j k n h))

-- one digit, and one digit more
pub first : (n : ℕ) → n < 10 → decimal n ≡ (48 + n) ∷ []
unfolding decimal digits
first n h = rw (lt-ltb n 10 h)

pub next : (n : ℕ) → 10 ≤ n → n < 2 ^ 64 → decimal n ≡ decimal (n / 10) ++ ((48 + n % 10) ∷ [])
unfolding decimal digits
next n low high = rw (le-ltb n 10 low) (ap (λ r. r ++ ((48 + n % 10) ∷ [])) (sym (one_more 18 (n / 10) (omega arith))))

pub longer : (n : ℕ) → 10 ≤ n → n < 2 ^ 64 → length (decimal n) ≡ length (decimal (n / 10)) + 1
longer n low high = ap length (next n low high) ∙ length-append (decimal (n / 10)) ((48 + n % 10) ∷ [])
