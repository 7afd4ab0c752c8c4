-- Sums over a list and over the numbers below n. The idea: a sum over a list counts each number as often as the list holds it, so where it holds each
-- number below n once, and no other, the two sums are the same.
use Rattle.std.specs.Prelude.{◌≡◌, refl, List, [], ◌∷◌, ◌++◌, ℕ, zero, suc, ◌+◌, ◌*◌, ◌≤◌, ◌<◌, length}
use Rattle.std.proofs.Common.{sym, ◌∙◌, ap, zero-mul, one-mul, add-mul, arith, eq-eqb, ne_eqb}
use Rattle.std.proofs.Math.Decide.{dec_lt, ℕ_discrete}
use Rattle.image.specs.Listing.{times}
use Rattle.image.proofs.Theorem.Named.{same}

unfoldable pub over : (ℕ → ℕ) → List ℕ → ℕ
over f [] = 0
over f (x ∷ xs) = f x + over f xs

unfoldable pub upto : (ℕ → ℕ) → ℕ → ℕ
upto f zero = 0
upto f (suc n) = upto f n + f n

-- ---- over a list

pub over_append : (f : ℕ → ℕ) (xs ys : List ℕ) → over f (xs ++ ys) ≡ over f xs + over f ys
unfolding over
over_append f [] ys = omega arith
over_append f (x ∷ xs) ys = omega (arith, over_append f xs ys)

pub over_none : (xs : List ℕ) → over (λ x. 0) xs ≡ 0
unfolding over
over_none [] = refl
over_none (x ∷ xs) = omega (arith, over_none xs)

pub times_over : (k : ℕ) (xs : List ℕ) → times k xs ≡ over (λ x. same x k) xs
unfolding times over same
times_over k [] = refl
times_over k (x ∷ xs) = rw (times_over k xs)

pub length_over : (xs : List ℕ) → length xs ≡ over (λ x. 1) xs
unfolding over
length_over [] = refl
length_over (x ∷ xs) = omega (arith, length_over xs)

-- ---- below n

upto_same : (f g : ℕ → ℕ) (n : ℕ) → ((m : ℕ) → m < n → f m ≡ g m) → upto f n ≡ upto g n
unfolding upto
upto_same f g zero e = refl
upto_same f g (suc n) e = omega (arith, upto_same f g n (λ m h. e m (omega arith)), e n (omega arith))

pub upto_none : (f : ℕ → ℕ) (n : ℕ) → ((m : ℕ) → m < n → f m ≡ 0) → upto f n ≡ 0
unfolding upto
upto_none f zero e = refl
upto_none f (suc n) e = omega (arith, upto_none f n (λ m h. e m (omega arith)), e n (omega arith))

pub upto_ones : (n : ℕ) → upto (λ m. 1) n ≡ n
unfolding upto
upto_ones zero = refl
upto_ones (suc n) = omega (arith, upto_ones n)

upto_add : (f g h : ℕ → ℕ) (n : ℕ) → upto (λ m. (g m + h m) * f m) n ≡ upto (λ m. g m * f m) n + upto (λ m. h m * f m) n
unfolding upto
upto_add f g h zero = refl
upto_add f g h (suc n) = omega (arith, upto_add f g h n, add-mul (g n) (h n) (f n))

pub same_yes : (x m : ℕ) → x ≡ m → same x m ≡ 1
unfolding same
same_yes x m e = rw (eq-eqb x m e)

pub same_no : (x m : ℕ) → (x ≡ m → ⊥) → same x m ≡ 0
unfolding same
same_no x m e = rw (ne_eqb x m e)

-- of the numbers below n, one is x
upto_one : (f : ℕ → ℕ) (x n : ℕ) → x < n → upto (λ m. same x m * f m) n ≡ f x
unfolding upto
upto_one f x zero h = absurd (omega arith)
upto_one f x (suc n) h = go (ℕ_discrete x n) (upto_one f x n)
  where
    go : Dec (x ≡ n) → (x < n → upto (λ m. same x m * f m) n ≡ f x) → upto (λ m. same x m * f m) n + same x n * f n ≡ f x
    go (yes p) ih =
        let none = upto_none (λ m. same x m * f m) n (λ m h. rw (same_no x m (λ e. omega arith)) (zero-mul (f m))) in
        rw (same_yes x n p) (omega (arith, none, one-mul (f n), ap f p))
    go (no p) ih = rw (same_no x n p) (omega (arith, zero-mul (f n), ih (omega arith)))

-- ---- the two together

-- each number as often as the list holds it
counted : (f : ℕ → ℕ) (n : ℕ) (xs : List ℕ) → ((k : ℕ) → n ≤ k → times k xs ≡ 0) → over f xs ≡ upto (λ m. times m xs * f m) n
unfolding over times same
counted f n [] none = sym (upto_none (λ m. 0 * f m) n (λ m h. zero-mul (f m)))
counted f n (x ∷ xs) none = go (dec_lt x n) (counted f n xs (λ k h. omega (arith, none k h)))
  where
    go : Dec (x < n) → over f xs ≡ upto (λ m. times m xs * f m) n → f x + over f xs ≡ upto (λ m. (same x m + times m xs) * f m) n
    go (yes p) ih = omega (arith, ih, upto_add f (same x) (λ m. times m xs) n, upto_one f x n p)
    go (no p) ih = absurd (omega (arith, none x (omega arith), same_yes x x refl))

pub over_once : (f : ℕ → ℕ) (n : ℕ) (xs : List ℕ) → ((k : ℕ) → n ≤ k → times k xs ≡ 0) → ((m : ℕ) → m < n → times m xs * f m ≡ f m)
    → over f xs ≡ upto f n
over_once f n xs none once = counted f n xs none ∙ upto_same (λ m. times m xs * f m) f n once
