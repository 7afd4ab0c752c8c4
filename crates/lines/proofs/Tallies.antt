-- What the shared run leaves at setting s is how setting s ended.
use mathlib.Core.Path.{◌≡◌, refl, sym, ◌∙◌, ap, ap₂}
use mathlib.Core.List.{[], ◌∷◌, ◌++◌}
use Prim.Native.Nat.{ℕ, zero, suc, ◌≤◌, ◌<◌}
use native.Mathlib.Decide.{ℕ_discrete}
use native.Mathlib.Omega.{arith}
use lib.IntN.{pos}
use lib.ListN.{length, get_or, length-append, get_or-append}
use lib.Seq.{get_or_at}
use Rattle.imp.specs.Shared.{Shared}
use Rattle.imp.specs.State.{outcome_number, code}
use Rattle.plain.specs.PlainRun.{progress_of}
use Rattle.shared.specs.Lent.{progress}
use Rattle.shared.specs.SharedRun.{each, tally_of}
use Rattle.lines.specs.Inner.Telling.{tallied}
use Rattle.lines.specs.Text.{line, lines}

length_each : {A : Type 0} (n : ℕ) (f : ℕ → A) → length (each n f) ≡ n
unfolding each
length_each zero f = refl
length_each (suc n) f = length-append (each n f) (f n ∷ []) ∙ omega (arith, length_each n f)

each_at : {A : Type 0} (n s : ℕ) (f : ℕ → A) (d : A) → s < n → get_or (each n f) s d ≡ f s
unfolding each
each_at zero s f d h = absurd (omega arith)
each_at {A} (suc n) s f d h = go (ℕ_discrete s n) (each_at n s f d)
  where
    go : Dec (s ≡ n) → (s < n → get_or (each n f) s d ≡ f s) → get_or (each n f ++ (f n ∷ [])) s d ≡ f s
    go (yes e) ih = ap (λ i. get_or (each n f ++ (f n ∷ [])) i d) e ∙ get_or_at (each n f) (f n) [] d n (length_each n f) ∙ ap f (sym e)
    go (no e) ih = get_or-append (each n f) (f n ∷ []) d s (omega (arith, length_each n f)) ∙ ih (omega arith)

progress_is : (N s : ℕ) (Σ : Shared) → s < N → progress (tally_of N Σ) s ≡ progress_of (Σ.at s)
unfolding progress tally_of progress_of
progress_is N s Σ h =
    rw (
      each_at N s (λ i. outcome_number (Σ.at i).outcome) 0 h,
      each_at N s (λ i. code (Σ.at i).outcome) (pos 0) h,
      each_at N s (λ i. (Σ.at i).steps) 0 h,
    )

first_tallied : (N n : ℕ) (Σ : Shared) → n ≤ N → tallied n (tally_of N Σ) ≡ lines n Σ
unfolding tallied lines
first_tallied N zero Σ h = refl
first_tallied N (suc n) Σ h = ap₂ (λ t p. t ++ line n p) (first_tallied N n Σ (omega arith)) (progress_is N n Σ (omega arith))

pub tallied_are : (N : ℕ) (Σ : Shared) → tallied N (tally_of N Σ) ≡ lines N Σ
tallied_are N Σ = first_tallied N N Σ (omega arith)
