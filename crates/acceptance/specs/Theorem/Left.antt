-- What is left for a setting, read off what is left for all: its number of a list of N, and its sixteen numbers of the store.
use Rattle.std.specs.Prelude.{◌≡◌, ℤ, length, take, drop}
use Rattle.std.proofs.Math.Path.{refl}
use Rattle.std.proofs.Common.{◌∙◌, ap, arith, length-drop, length-take-le, take_all, drop_at}
use mathlib.Core.List.{List, [], ◌∷◌, ◌++◌}
use Prim.Native.Nat.{ℕ, zero, suc, ◌+◌, ◌*◌, ◌≤◌, ◌<◌}
use Rattle.std.proofs.Math.Decide.{ℕ_discrete}
use Rattle.std.proofs.Math.ListN.{get_or, length-append, get_or-append, get_or-eq_default}
use Rattle.std.proofs.lemmas.List.{take-append-le, drop-append-le, get_or_at}
use Rattle.imp.specs.Shared.{Shared, total}
use Rattle.shared.specs.Lent.{part}
use Rattle.shared.specs.SharedRun.{each, numbers_of}

-- ---- a list of N

module _ {A : Type 0} (f : ℕ → A) where
  pub each_length : (n : ℕ) → length (each n f) ≡ n
  unfolding each
  each_length zero = refl
  each_length (suc n) = omega (arith, length-append (each n f) (f n ∷ []), each_length n)

  pub each_at : (n s : ℕ) (d : A) → s < n → get_or (each n f) s d ≡ f s
  unfolding each
  each_at zero s d h = absurd (omega arith)
  each_at (suc n) s d h = go (ℕ_discrete s n) (each_at n s d)
    where
      go : Dec (s ≡ n) → (s < n → get_or (each n f) s d ≡ f s) → get_or (each n f ++ (f n ∷ [])) s d ≡ f s
      go (yes e) ih = rw e (get_or_at (each n f) (f n) [] d n (each_length n))
      go (no e) ih = get_or-append (each n f) (f n ∷ []) d s (omega (arith, each_length n)) ∙ ih (omega arith)

  pub each_past : (n s : ℕ) (d : A) → n ≤ s → get_or (each n f) s d ≡ d
  each_past n s d h = get_or-eq_default (each n f) d (omega (arith, each_length n))

-- equal numbers have equal sums
pub total_same : (n : ℕ) (f g : ℕ → ℕ) → ((s : ℕ) → s < n → f s ≡ g s) → total n f ≡ total n g
unfolding total
total_same zero f g h = refl
total_same (suc n) f g h = omega (arith, h n (omega arith), total_same n f g (λ s i. h s (omega arith)))

-- ---- the store

pub part_length : (xs : List ℤ) (N s : ℕ) → length xs ≡ N * 16 → s < N → length (part xs s) ≡ 16
unfolding part
part_length xs N s whole h = length-take-le 16 (drop (s * 16) xs) (omega (arith, length-drop (s * 16) xs))

-- the first n settings have sixteen numbers each
abbrev pub Sixteen : ℕ → Shared → Type 0
Sixteen n Σ = (s : ℕ) → s < n → length (Σ.at s).numbers ≡ 16

numbers_length : (n : ℕ) (Σ : Shared) → Sixteen n Σ → length (numbers_of n Σ) ≡ n * 16
unfolding numbers_of
numbers_length zero Σ h = refl
numbers_length (suc n) Σ h =
    omega (arith, length-append (numbers_of n Σ) (Σ.at n).numbers, numbers_length n Σ (λ s i. h s (omega arith)), h n (omega arith))

-- sixteen of a list's beginning
in-front : (xs ys : List ℤ) (m : ℕ) → m + 16 ≤ length xs → take 16 (drop m (xs ++ ys)) ≡ take 16 (drop m xs)
in-front xs ys m h =
    ap (take 16) (drop-append-le m xs ys (omega arith)) ∙ take-append-le 16 (drop m xs) ys (omega (arith, length-drop m xs))

pub numbers_at : (n : ℕ) (Σ : Shared) → Sixteen n Σ → (s : ℕ) → s < n → part (numbers_of n Σ) s ≡ (Σ.at s).numbers
unfolding numbers_of part
numbers_at zero Σ h s i = absurd (omega arith)
numbers_at (suc n) Σ h s i = go (ℕ_discrete s n) (numbers_at n Σ (λ t j. h t (omega arith)) s)
  where
    before : length (numbers_of n Σ) ≡ n * 16
    before = numbers_length n Σ λ t j. h t (omega arith)

    go : Dec (s ≡ n) → (s < n → part (numbers_of n Σ) s ≡ (Σ.at s).numbers) → part (numbers_of n Σ ++ (Σ.at n).numbers) s ≡ (Σ.at s).numbers
    go (yes e) ih =
        rw e (ap (take 16) (drop_at (numbers_of n Σ) (Σ.at n).numbers (n * 16) before)
        ∙ take_all 16 (Σ.at n).numbers (omega (arith, h n (omega arith))))
    go (no e) ih = in-front (numbers_of n Σ) (Σ.at n).numbers (s * 16) (omega (arith, before)) ∙ ih (omega arith)
