-- A comparison of the program is true exactly when both sides are the same.
use Rattle.std.specs.Prelude.{◌≡◌, refl, Bool, true, false, ◌&&◌, List, ◌↔◌, ℕ, zero, suc, ◌+◌, ◌<◌, ℤ, pos, negsuc, length}
use Rattle.std.proofs.Common.{sym, ap, subst, arith, ext_get_or, eqb-true, eq-eqb}
use Rattle.std.proofs.lemmas.Bool.{false≢true}
use Rattle.std.proofs.Math.Decide.{ℕ_discrete}
use Rattle.imp.proofs.Theorem.Sets.{and_true}
use Rattle.plain.specs.declared.progress.Progress.{Progress}
use Rattle.acceptance.specs.Inner.Comparing.{same_number, every, same_at, same_numbers, same_progress}

-- two tests that are true together
pub alike : (u v : Bool) → (u ≡ true → v ≡ true) → (v ≡ true → u ≡ true) → u ≡ v
alike true v h k = sym (h refl)
alike false true h k = k refl
alike false false h k = refl

-- ---- of every number below n

pub every_true : (n : ℕ) (f : ℕ → Bool) → ((v : ℕ) → v < n → f v ≡ true) → every n f ≡ true
unfolding every
every_true zero f h = refl
every_true (suc n) f h = rw (every_true n f (λ v i. h v (omega arith)), h n (omega arith)) refl

pub every_at : (n : ℕ) (f : ℕ → Bool) → every n f ≡ true → (v : ℕ) → v < n → f v ≡ true
unfolding every
every_at zero f e v h = absurd (omega arith)
every_at (suc n) f e v h = go (ℕ_discrete v n) (every_at n f (and_true _ _ e).0 v)
  where
    go : Dec (v ≡ n) → (v < n → f v ≡ true) → f v ≡ true
    go (yes same) below = rw same (and_true (every n f) (f n) e).1
    go (no other) below = below (omega arith)

is_false : (u : Bool) → (u ≡ true → false ≡ true) → u ≡ false
is_false true h = absurd (false≢true (h refl))
is_false false h = refl

pub every_false : (n : ℕ) (f : ℕ → Bool) (v : ℕ) → v < n → f v ≡ false → every n f ≡ false
every_false n f v h e = is_false (every n f) λ all. rw e at (every_at n f all v h)

-- one more
pub every_next : (n : ℕ) (f : ℕ → Bool) (u v : Bool) → u ≡ every n f → v ≡ f n → u && v ≡ every (n + 1) f
unfolding every
every_next n f u v e h = let next : n + 1 ≡ suc n = omega arith in rw next (λ i. e i && h i)

-- ---- numbers

pub same_number_is : (a b : ℤ) → (same_number a b ≡ true) ↔ (a ≡ b)
unfolding same_number
same_number_is a b = (same a b, back a b)
  where
    same : (a b : ℤ) → same_number a b ≡ true → a ≡ b
    same (pos m) (pos n) e = ap pos (eqb-true m n e)
    same (pos m) (negsuc n) e = absurd (false≢true e)
    same (negsuc m) (pos n) e = absurd (false≢true e)
    same (negsuc m) (negsuc n) e = ap negsuc (eqb-true m n e)

    itself : (a : ℤ) → same_number a a ≡ true
    itself (pos n) = eq-eqb n n refl
    itself (negsuc n) = eq-eqb n n refl

    back : (a b : ℤ) → a ≡ b → same_number a b ≡ true
    back a b e = subst (λ c. same_number a c ≡ true) e (itself a)

pub same_numbers_is : (xs ys : List ℤ) → (same_numbers xs ys ≡ true) ↔ (xs ≡ ys)
unfolding same_numbers
same_numbers_is xs ys = (same, λ e. subst (λ zs. same_numbers xs zs ≡ true) e itself)
  where
    same : same_numbers xs ys ≡ true → xs ≡ ys
    same e =
        let both = and_true _ _ e in
        ext_get_or (pos 0) xs ys (eqb-true _ _ both.0) λ v h. (same_number_is _ _).0 (every_at (length xs) (same_at xs ys) both.1 v h)

    itself : same_numbers xs xs ≡ true
    itself = rw (eq-eqb (length xs) (length xs) refl) (every_true (length xs) (same_at xs xs) λ v h. (same_number_is _ _).1 refl)

pub same_progress_is : (p q : Progress) → (same_progress p q ≡ true) ↔ (p ≡ q)
unfolding same_progress
same_progress_is p q = (same, λ e. subst (λ q. same_progress p q ≡ true) e itself)
  where
    same : same_progress p q ≡ true → p ≡ q
    same e =
        let both = and_true _ _ e in
        let rest = and_true _ _ both.1 in
        let outcomes = eqb-true _ _ both.0 in
        let codes = (same_number_is _ _).0 rest.0 in
        let steps = eqb-true _ _ rest.1 in
        λ i. record { outcome = outcomes i; code = codes i; steps = steps i }

    itself : same_progress p p ≡ true
    itself = rw (eq-eqb p.outcome p.outcome refl, (same_number_is p.code p.code).1 refl, eq-eqb p.steps p.steps refl) refl
