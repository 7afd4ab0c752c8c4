-- Figure 5.8 (condition 2): from every start the rules derive one world, and it shows exactly what the shared run gives, visits and steps included.
-- The idea: by induction on the tree a derivation is built whose end shows the shared run's; by `VimpUnique` there is no other.
use Rattle.std.specs.Prelude.{◌≡◌, ℕ, Bool, true, false, cond, [], ◌∷◌}
use Rattle.std.proofs.Math.Path.{refl, ap, fun_ext}
use Rattle.std.proofs.Common.{◌∙◌}
use Rattle.imp.specs.Condition.{Condition}
use Rattle.imp.specs.Routine.{Statement, skip, assign, sequence, if, while, throw, try, choice}
use Rattle.imp.specs.State.{State, Numbers, idle, done, fresh, untouched}
use Rattle.imp.specs.Shared.{Settings, shared, start, shared_run, Below}
use Rattle.imp.specs.Rules.Variational.{erring, in_error, World, world, counted, nothing_yet, at_start, outcome_in, conf, seen}
use Rattle.imp.specs.Rules.Figure58.{⇓V, Vimp}
use Rattle.imp.proofs.Theorem.VimpDerived.{Derives, begins}
use Rattle.imp.proofs.Theorem.VimpRules.{acts_skip, acts_assign, acts_throw, acts_sequence, acts_if, derives_choice}
use Rattle.imp.proofs.Theorem.VimpTry.{acts_try}
use Rattle.imp.proofs.Theorem.VimpWhile.{derives_while}
use Rattle.imp.proofs.Theorem.VimpUnique.{unique}

module _ (N b : ℕ) (D : Settings) (below : Below N D) where
  derives : (t : Statement Condition) → Derives N b D below t
  unfolding shared counted
  derives skip C w S l E K = begins N b D below skip refl _ C w S l E K (acts_skip N b D below C w S l E _)
  derives (assign x a) C w S l E K = begins N b D below (assign x a) refl _ C w S l E K (acts_assign N b D below x a C w S l E _)
  derives (sequence x y) C w S l E K = begins N b D below (sequence x y) refl _ C w S l E K (acts_sequence N b D below x y (derives x) (derives y) C w S l E _)
  derives (if e x y) C w S l E K = begins N b D below (if e x y) refl _ C w S l E K (acts_if N b D below e x y (derives x) (derives y) C w S l E _)
  derives (while e x) C w S l E K = derives_while N b D below e x (derives x) C w S l E K
  derives (throw a) C w S l E K = begins N b D below (throw a) refl _ C w S l E K (acts_throw N b D below a C w S l E _)
  derives (try x v y) C w S l E K = begins N b D below (try x v y) refl _ C w S l E K (acts_try N b D below x v y (derives x) (derives y) C w S l E _)
  derives (choice c x y) C w S l E K = derives_choice N b D below c x y (derives x) (derives y) C w S l E K

-- ---- the theorems, of the run for a set D from its start

shown_start : (D : Settings) (numbers : ℕ → Numbers) → seen D (at_start numbers) ≡ start D numbers
unfolding seen conf outcome_in at_start nothing_yet start fresh untouched in_error erring
shown_start D numbers = ap (λ f. record { at = f; visits = 0 }) (fun_ext λ s. go (D s) (numbers s))
  where
    go : (d : Bool) (ns : Numbers) → ◌≡◌ {A = State} (record { numbers = ns; outcome = cond d done idle; steps = 0 }) (cond d (fresh ns) (untouched ns))
    go true ns = refl
    go false ns = refl

module _ (N b : ℕ) (D : Settings) (below : Below N D) (t : Statement Condition) (numbers : ℕ → Numbers) where
  -- there is a derivation, and its world shows the shared run
  pub shared_is_derived : (Y : World) × Vimp N b ⇓V D (at_start numbers) t Y × (seen D Y ≡ shared_run N b t D numbers)
  unfolding shared_run at_start
  shared_is_derived =
      let d = derives N b D below t D (λ s e. e) numbers [] [] nothing_yet in
      (world d.store' (d.frame' ∷ []) d.counts', d.by, d.shows ∙ ap (shared N b t D) (shown_start D numbers))

  -- and whatever is derived shows it
  pub derived_is_shared : (Y : World) → Vimp N b ⇓V D (at_start numbers) t Y → seen D Y ≡ shared_run N b t D numbers
  derived_is_shared Y d = ap (seen D) (unique d shared_is_derived.1) ∙ shared_is_derived.2
