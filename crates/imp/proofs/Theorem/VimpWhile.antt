-- The rule VS-WHILE: a while is derived by as many turns as the budget can still allow its live settings, each of which has a step behind it.
use Rattle.std.specs.Prelude.{◌≡◌, ℕ, zero, suc, ◌+◌, ◌<◌, ◌≤◌, true, ◌∷◌}
use Rattle.std.proofs.Math.Path.{refl, ap}
use Rattle.std.proofs.Common.{sym, ◌∙◌, arith}
use Rattle.imp.specs.Condition.{Condition}
use Rattle.imp.specs.Routine.{Boolean, Statement, while}
use Rattle.imp.specs.Shared.{Settings, Shared, truth_in, where_true, shared, steps_at, Below}
use Rattle.imp.specs.Rules.Variational.{Sat, ◌∩◌, Store, when_true, Frame, Stack, Counts, World, world, ctx, counted, made_out, begun, conf, seen}
use Rattle.imp.specs.Rules.Figure58.{⇓V, ⇓VS, VS-WHILE}
use Rattle.imp.proofs.Theorem.Sets.{any_true}
use Rattle.imp.proofs.Theorem.Begin.{ready_lt}
use Rattle.imp.proofs.Theorem.WhileShared.{left_in, while_again, shared_grows}
use Rattle.imp.proofs.Theorem.VimpExpressions.{truth_derives}
use Rattle.imp.proofs.Theorem.VimpWorlds.{Within, left_is}
use Rattle.imp.proofs.Theorem.VimpDerived.{Inside, part_in, Derived, Derives, showing, ctx_within, were_live, made_out_live, begins, in_turn}
use Rattle.imp.proofs.Theorem.VimpRules.{true_same, true_below}

module _ (N b : ℕ) (D : Settings) (below : Below N D) where
  -- m tests more are enough for the live settings of C
  abbrev Enough : ℕ → Settings → Stack → Counts → Type 0
  Enough m C E K = (s : ℕ) → ctx C E K s ≡ true → b ≤ m + K.steps s

  module _ (t : Statement Condition) (u : counted t ≡ true) (C : Settings) (w : Within C D) (S : Store) (E : Stack) (K : Counts) where
    -- who is begun had budget left, and has one step more
    had_budget : (s : ℕ) → ctx C E (made_out b t C E K) s ≡ true → K.steps s < b
    unfolding seen conf
    had_budget s e = ready_lt b (conf D (world S E K) s) (left_in N b C (seen D (world S E K)) s (left_is N b D C w t u S E K s ∙ e)).1

    one_step : (s : ℕ) → ctx C E (made_out b t C E K) s ≡ true → (begun t C E (made_out b t C E K)).steps s ≡ suc (K.steps s)
    unfolding begun made_out
    one_step s e = rw (e, u)

  module _ (e : Boolean Condition) (x : Statement Condition) (dx : Derives N b D below x) where
    abbrev again : Settings → Shared → Settings
    again left Σ = where_true (λ s σ. truth_in s e σ.numbers) left Σ

    abbrev turn : Settings → Shared → Shared
    turn left Σ = shared N b (while e x) (again left Σ) (shared N b x (again left Σ) Σ)

    -- the counts of a while that is begun
    abbrev begun_counts : Settings → Stack → Counts → Counts
    begun_counts C E K = begun (while e x) C E (made_out b (while e x) C E K)

    -- with no test more nobody is begun
    spent : (C : Settings) → Within C D → (S : Store) (E : Stack) (K : Counts) → Enough zero C E K → Sat N (ctx C E (begun_counts C E K)) → ⊥
    unfolding counted begun ctx
    spent C w S E K enough h =
        let r = any_true N (ctx C E (begun_counts C E K)) h in
        omega (arith, had_budget (while e x) refl C w S E K r.0 r.2, enough r.0 (made_out_live N b D below (while e x) C E K r.0 r.2))

    -- one test less is enough once it is begun, and after the body for those who are still live
    one_less : (m : ℕ) (C : Settings) → Within C D → (S : Store) (E : Stack) (K : Counts) → Enough (suc m) C E K → Enough m C E (begun_counts C E K)
    unfolding counted begun ctx
    one_less m C w S E K enough s i =
        omega (arith, one_step (while e x) refl C w S E K s i, enough s (made_out_live N b D below (while e x) C E K s i))

    still_enough : (m : ℕ) (C P : Settings) → Within C D → Inside P C → (X X' : World) → seen D X' ≡ shared N b x P (seen D X)
        → Enough m C X.errors X.counts → Enough m P X'.errors X'.counts
    unfolding seen conf
    still_enough m C P w p X X' q enough s i =
        let j : ctx C X.errors X.counts s ≡ true = were_live N b D below C P w p X X' x P q s i in
        omega (arith, enough s j, (shared_grows N b x).grows P (seen D X) s (below s (ctx_within N b D below C w X.errors X.counts s j)), ap (λ Σ. steps_at Σ s) q)

    abbrev WhileDerives : ℕ → Type 0
    WhileDerives m = (C : Settings) → Within C D → (S : Store) (l : Frame) (E : Stack) (K : Counts) → Enough m C (l ∷ E) K
        → Derived N b D below ⇓V (while e x) C S l E K (shared N b (while e x) C (seen D (world S (l ∷ E) K)))

    -- one turn, and the while again
    one_turn : (m : ℕ) → WhileDerives m → (C : Settings) → Within C D → (S : Store) (l : Frame) (E : Stack) (K : Counts) → Enough m C (l ∷ E) K → Sat N (ctx C (l ∷ E) K)
        → Derived N b D below ⇓VS (while e x) C S l E K (turn (ctx C (l ∷ E) K) (seen D (world S (l ∷ E) K)))
    one_turn m more C w S l E K enough h =
        let r = truth_derives N S (ctx C (l ∷ E) K) e h in
        let T : Settings = C ∩ when_true r.0 in
        let wT : Within T D = λ s i. w s (part_in C _ s i) in
        let d = dx T wT S l E K in
        in_turn N b D below x (while e x) C T T w (part_in C _) (part_in C _) S l E K _ _
        (true_below N b D below e C w S l E K r.0 r.2) (true_below N b D below e C w S l E K r.0 r.2)
        (true_same N b D below e C w S l E K r.0 r.2) (true_same N b D below e C w S l E K r.0 r.2)
        (λ X X' d d'. VS-WHILE r.1 d d') d
        (more T wT d.store' d.frame' E d.counts'
        (still_enough m C T w (part_in C _) (world S (l ∷ E) K) (world d.store' (d.frame' ∷ E) d.counts') d.shows enough))

    turns_derive : (m : ℕ) → WhileDerives m
    unfolding counted
    turns_derive zero C w S l E K enough = showing N b D below (sym (while_again N b e x C (seen D (world S (l ∷ E) K))))
        (begins N b D below (while e x) refl turn C w S l E K λ h. absurd (spent C w S (l ∷ E) K enough h))
    turns_derive (suc m) C w S l E K enough = showing N b D below (sym (while_again N b e x C (seen D (world S (l ∷ E) K))))
        (begins N b D below (while e x) refl turn C w S l E K
        (one_turn m (turns_derive m) C w S l E (begun_counts C (l ∷ E) K) (one_less m C w S (l ∷ E) K enough)))

  -- as many tests as the budget has steps are enough
  pub derives_while : (e : Boolean Condition) (x : Statement Condition) → Derives N b D below x → Derives N b D below (while e x)
  derives_while e x dx C w S l E K = turns_derive e x dx b C w S l E K λ s i. omega arith
