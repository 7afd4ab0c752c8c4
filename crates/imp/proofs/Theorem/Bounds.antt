-- Bounds (condition 3): visits are at least the largest step count and at most their sum; all zero for the empty set.
-- The idea: over any stretch of a shared run visits rise by at least each setting's steps, and by at most the sum of all settings' steps.
use Rattle.std.specs.Prelude.{◌≡◌, ℕ, zero, suc, ◌+◌, ◌<◌, ◌≤◌, Bool, true, false, cond, ◌&&◌}
use Rattle.std.proofs.Math.Path.{refl}
use Rattle.std.proofs.lemmas.Bool.{false≢true}
use Rattle.std.proofs.Common.{arith, le_refl}
use Rattle.imp.specs.Condition.{Condition}
use Rattle.imp.specs.Routine.{Statement, skip, assign, sequence, if, while, throw, try, choice}
use Rattle.imp.specs.State.{Numbers, State, store, thrown, taken, ready, enter, fresh, untouched}
use Rattle.imp.specs.Shared.{Settings, any, Shared, for, visited, where_true, begun, turns, shared, start, shared_run, steps_at, total}
use Rattle.imp.proofs.Theorem.Sets.{any_false}
use Rattle.imp.proofs.Theorem.Agreement.{outside}

-- from Σ to Σ' visits rise by at least each setting's steps and by at most the sum of all
pub record Bounds (N : ℕ) (Σ Σ' : Shared) : Type 0 where
  pub least : (s : ℕ) → s < N → steps_at Σ' s + Σ.visits ≤ steps_at Σ s + Σ'.visits
  pub most : Σ'.visits + total N (steps_at Σ) ≤ Σ.visits + total N (steps_at Σ')

pub record Bounded (N : ℕ) (f : Settings → Shared → Shared) : Type 0 where
  pub bounds : (S : Settings) (Σ : Shared) → Bounds N Σ (f S Σ)

-- ---- sums

total_le : (n : ℕ) (f g : ℕ → ℕ) → ((s : ℕ) → f s ≤ g s) → total n f ≤ total n g
unfolding total
total_le zero f g h = le_refl 0
total_le (suc n) f g h = omega (arith, h n, total_le n f g h)

total_lt : (n : ℕ) (f g : ℕ → ℕ) (L : Settings) → ((s : ℕ) → f s ≤ g s) → ((s : ℕ) → L s ≡ true → f s < g s) → any n L ≡ true → total n f < total n g
unfolding total any
total_lt zero f g L h k e = absurd (false≢true e)
total_lt (suc n) f g L h k e = go (L n) refl (total_lt n f g L h k)
  where
    go : (b : Bool) → L n ≡ b → (any n L ≡ true → total n f < total n g) → f n + total n f < g n + total n g
    go true p ih = omega (arith, k n p, total_le n f g h)
    go false p ih = omega (arith, h n, ih (rw p at e))

total_zero : (n : ℕ) (f : ℕ → ℕ) → ((s : ℕ) → s < n → f s ≡ 0) → total n f ≡ 0
unfolding total
total_zero zero f h = refl
total_zero (suc n) f h = omega (arith, h n (le_refl _), total_zero n f λ s k. h s (omega arith))

-- ---- the relation

bounds_refl : (N : ℕ) (Σ : Shared) → Bounds N Σ Σ
bounds_refl N Σ = record { least = λ s h. le_refl _; most = le_refl _ }

bounds_trans : {N : ℕ} {Σ₁ Σ₂ Σ₃ : Shared} → Bounds N Σ₁ Σ₂ → Bounds N Σ₂ Σ₃ → Bounds N Σ₁ Σ₃
bounds_trans b c = record { least = λ s h. omega (arith, b.least s h, c.least s h); most = omega (arith, b.most, c.most) }

-- a change that counts nothing
kept : (b : Bool) (x y : State) → x.steps ≡ y.steps → (cond b x y).steps ≡ y.steps
kept true x y e = e
kept false x y e = refl

for_bounds : (N : ℕ) (f : ℕ → State → State) → ((s : ℕ) (σ : State) → (f s σ).steps ≡ σ.steps) → Bounded N (λ S Σ. for S f Σ)
unfolding for
for_bounds N f e = record {
  bounds = λ S Σ. record {
    least = λ s h. omega (arith, kept (S s) (f s (Σ.at s)) (Σ.at s) (e s (Σ.at s)));
    most = omega (arith, total_le N (steps_at Σ) (steps_at (for S f Σ)) λ s. omega (arith, kept (S s) (f s (Σ.at s)) (Σ.at s) (e s (Σ.at s))));
  };
}

-- reaching a statement
counted_steps : (b : Bool) (budget : ℕ) (σ : State) → (cond b (enter budget σ) σ).steps ≡ cond (b && ready budget σ) (suc σ.steps) σ.steps
unfolding enter
counted_steps true budget σ = refl
counted_steps false budget σ = refl

up_to : (b : Bool) (k : ℕ) → (cond b (suc k) k ≤ suc k) × (k ≤ cond b (suc k) k)
up_to true k = omega arith
up_to false k = omega arith

module _ (N budget : ℕ) where
  entered : Settings → Shared → Shared
  entered S Σ = for S (λ s. enter budget) Σ

  left : Settings → Shared → Settings
  left S Σ = where_true (λ s. ready budget) S Σ

  reached_steps : (S : Settings) (Σ : Shared) (s : ℕ) → steps_at (entered S Σ) s ≡ cond (left S Σ s) (suc (steps_at Σ s)) (steps_at Σ s)
  unfolding entered left for where_true
  reached_steps S Σ s = counted_steps (S s) budget (Σ.at s)

  rises : (S : Settings) (Σ : Shared) (s : ℕ) → steps_at Σ s ≤ steps_at (entered S Σ) s
  rises S Σ s = omega (arith, reached_steps S Σ s, up_to (left S Σ s) (steps_at Σ s))

  begun_bounds : {f : Settings → Shared → Shared} → Bounded N f → Bounded N (begun N budget f)
  unfolding begun visited entered left for
  begun_bounds {f} a = record { bounds = λ S Σ. go S Σ (any N (left S Σ)) refl }
    where
      go : (S : Settings) (Σ : Shared) (b : Bool) → any N (left S Σ) ≡ b → Bounds N Σ (begun N budget f S Σ)
      go S Σ true e = rw (e, begun) (bounds_trans (record {
        least = λ s h. omega (arith, reached_steps S Σ s, up_to (left S Σ s) (steps_at Σ s));
        most = omega (arith, total_lt N (steps_at Σ) (steps_at (entered S Σ)) (left S Σ) (rises S Σ) (λ s p. omega (arith, rw p at (reached_steps S Σ s))) e);
      })
          (a.bounds (left S Σ) (visited (entered S Σ))))
      go S Σ false e = rw (e, begun) (record {
        least = λ s h. omega (arith, rw (any_false N (left S Σ) e s h) at (reached_steps S Σ s));
        most = omega (arith, total_le N (steps_at Σ) (steps_at (entered S Σ)) (rises S Σ));
      })

  turns_bounds : {f : Settings → Shared → Shared} → Bounded N f → (test : ℕ → State → Bool) (n : ℕ) → Bounded N (turns n N budget test f)
  unfolding turns
  turns_bounds a test zero = record { bounds = λ S Σ. bounds_refl N Σ }
  turns_bounds a test (suc n) = begun_bounds (record { bounds = λ S Σ. bounds_trans (a.bounds _ _) ((turns_bounds a test n).bounds _ _) })

  pub bounded : (t : Statement Condition) → Bounded N (shared N budget t)
  unfolding shared store thrown taken
  bounded skip = begun_bounds (record { bounds = λ S Σ. bounds_refl N Σ })
  bounded (assign v a) = begun_bounds (for_bounds N _ λ s σ. refl)
  bounded (sequence x y) = begun_bounds (record { bounds = λ S Σ. bounds_trans ((bounded x).bounds _ _) ((bounded y).bounds _ _) })
  bounded (if e x y) = begun_bounds (record { bounds = λ S Σ. bounds_trans ((bounded x).bounds _ _) ((bounded y).bounds _ _) })
  bounded (while e x) = turns_bounds (bounded x) _ (suc budget)
  bounded (throw a) = begun_bounds (for_bounds N _ λ s σ. refl)
  bounded (try x v y) = begun_bounds (record {
    bounds = λ S Σ. bounds_trans (bounds_trans ((bounded x).bounds _ _)
        ((for_bounds N _ λ s σ. refl).bounds _ _)) ((bounded y).bounds _ _);
  })
  bounded (choice c x y) = record { bounds = λ S Σ. bounds_trans ((bounded x).bounds _ _) ((bounded y).bounds _ _) }

-- ---- the theorem

zero_steps : (b : Bool) (ns : Numbers) → (cond b (fresh ns) (untouched ns)).steps ≡ 0
unfolding fresh untouched
zero_steps true ns = refl
zero_steps false ns = refl

module _ (N budget : ℕ) (t : Statement Condition) (S : Settings) (numbers : ℕ → Numbers) where
  abbrev end : Shared
  end = shared_run N budget t S numbers

  whole : Bounds N (start S numbers) end
  unfolding shared_run
  whole = (bounded N budget t).bounds S (start S numbers)

  -- no step is counted-steps before the run
  none_yet : (s : ℕ) → steps_at (start S numbers) s ≡ 0
  unfolding start
  none_yet s = zero_steps (S s) (numbers s)

  -- "visits are at least the largest step count"
  pub steps_below : (s : ℕ) → s < N → steps_at end s ≤ end.visits
  unfolding start
  steps_below s h = omega (arith, whole.least s h, none_yet s)

  -- "and at most their sum"
  pub visits_below : end.visits ≤ total N (steps_at end)
  unfolding start
  visits_below = omega (arith, whole.most)

  -- the empty set: no visit and no step
  pub empty_steps : ((s : ℕ) → s < N → S s ≡ false) → (s : ℕ) → s < N → steps_at end s ≡ 0
  unfolding untouched
  empty_steps none s h = rw (outside N budget t S numbers s h (none s h), steps_at)

  pub empty_visits : ((s : ℕ) → s < N → S s ≡ false) → end.visits ≡ 0
  empty_visits none = omega (arith, visits_below, total_zero N (steps_at end) (empty_steps none))
