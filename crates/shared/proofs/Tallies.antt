-- What is read of a tally once setting s is put as far as p: p at s, and all else as it was.
use mathlib.Core.Path.{◌≡◌, refl, sym, ◌∙◌, ap, subst}
use mathlib.Core.Bool.{Bool, true, false, cond}
use mathlib.Core.List.{List}
use Prim.Native.Nat.{ℕ, ◌<◌}
use native.Mathlib.Omega.{arith}
use native.Mathlib.Decide.{ℕ_discrete}
use lib.Dec.{eqb}
use lib.IntN.{ℤ, pos}
use lib.ListN.{length-set}
use lib.Seq.{get_or-set_same, get_or-set_other}
use borrow.Author.Tests.{eq-eqb, ne_eqb}
use Rattle.plain.specs.declared.progress.Progress.{Progress}
use Rattle.plain.specs.Inner.Progress.{state_of, Proper}
use Rattle.shared.specs.Lent.{Tally, progress, part}
use Rattle.shared.specs.Inner.Lent.{Tallied, put, own}

-- three numbers of a setting
abbrev three : ℕ → ℤ → ℕ → Progress
three o c n = record { outcome = o; code = c; steps = n }

ap₃ : (o o' : ℕ) (c c' : ℤ) (n n' : ℕ) → o ≡ o' → c ≡ c' → n ≡ n' → three o c n ≡ three o' c' n'
ap₃ o o' c c' n n' e f g = rw (e, f, g) refl

module _ {N : ℕ} {T : Tally} (h : Tallied N T) {s : ℕ} (below : s < N) (p : Progress) where
  put_same : progress (put s p T) s ≡ p
  unfolding progress put
  put_same = ap₃ _ _ _ _ _ _
      (get_or-set_same T.outcomes s p.outcome 0 (omega (arith, h.outcomes_length)))
      (get_or-set_same T.codes s p.code (pos 0) (omega (arith, h.codes_length)))
      (get_or-set_same T.steps s p.steps 0 (omega (arith, h.steps_length)))

  put_other : (t : ℕ) → (t ≡ s → ⊥) → progress (put s p T) t ≡ progress T t
  unfolding progress put
  put_other t e = ap₃ _ _ _ _ _ _
      (get_or-set_other T.outcomes s t p.outcome 0 e)
      (get_or-set_other T.codes s t p.code (pos 0) e)
      (get_or-set_other T.steps s t p.steps 0 e)

  pub progress_put : (t : ℕ) → progress (put s p T) t ≡ cond (eqb t s) p (progress T t)
  progress_put t = go (ℕ_discrete t s)
    where
      go : Dec (t ≡ s) → progress (put s p T) t ≡ cond (eqb t s) p (progress T t)
      go (yes e) = rw (eq-eqb t s e) (ap (progress (put s p T)) e ∙ put_same)
      go (no e) = rw (ne_eqb t s e) (put_other t e)

  -- a proper progress keeps it a tally
  pub put_tallied : Proper p.outcome p.code → Tallied N (put s p T)
  unfolding put
  put_tallied fine =
      record {
        outcomes_length = length-set T.outcomes s p.outcome ∙ h.outcomes_length;
        codes_length = length-set T.codes s p.code ∙ h.codes_length;
        steps_length = length-set T.steps s p.steps ∙ h.steps_length;
        proper = λ t. subst (λ q. Proper q.outcome q.code) (sym (progress_put t)) (go t (eqb t s));
      }
    where
      go : (t : ℕ) (u : Bool) → Proper (cond u p (progress T t)).outcome (cond u p (progress T t)).code
      go t true = fine
      go t false = h.proper t

  -- the states: only setting s has changed
  pub own_put : (xs : List ℤ) (t : ℕ) → own xs (put s p T) t ≡ cond (eqb t s) (state_of p (part xs t)) (own xs T t)
  unfolding own
  own_put xs t = ap (λ q. state_of q (part xs t)) (progress_put t) ∙ go (eqb t s)
    where
      go : (u : Bool) → state_of (cond u p (progress T t)) (part xs t) ≡ cond u (state_of p (part xs t)) (state_of (progress T t) (part xs t))
      go true = refl
      go false = refl
