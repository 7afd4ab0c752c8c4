-- What assigning, throwing and catching do to a world, as the shared run's state. Each is a table of booleans, or two of them.
use Rattle.std.specs.Prelude.{◌≡◌, ℕ, Bool, true, false, cond, not, ◌&&◌, ◌||◌, [], ◌∷◌, ℤ, slice_set, refl}
use Rattle.std.proofs.Math.Path.{ap, fun_ext}
use Rattle.std.proofs.Common.{true≢false}
use Rattle.std.proofs.lemmas.Bool.{false≢true}
use Rattle.imp.specs.State as State
use Rattle.imp.specs.State.{Numbers, idle, done, fault, out, State, in_fault, code, thrown, taken}
use Rattle.imp.specs.Shared.{Settings, for, where_true}
use Rattle.imp.specs.Rules.Variational.{Varied, Store, update, Frame, Stack, erring, in_error, catch_ctx, extract, conf_err, Counts, world, ctx, outcome_in, conf, seen}
use Rattle.imp.proofs.Theorem.VimpWorlds.{Within, ctx_in}

module _ (D C : Settings) (w : Within C D) (S : Store) where
  -- assigning: the value n is each live setting's own
  pub assigned_is : (E : Stack) (K : Counts) (x : ℕ) (n : Varied ℤ) (g : ℕ → Numbers → ℤ) → ((s : ℕ) → ctx C E K s ≡ true → n s ≡ g s (S s))
      → seen D (world (update S (ctx C E K) x n) E K) ≡ for (ctx C E K) (λ s σ. State.store x (g s σ.numbers) σ) (seen D (world S E K))
  unfolding seen conf update for State.store
  assigned_is E K x n g same = ap (λ f. record { at = f; visits = K.visits }) (fun_ext λ s. at s (ctx C E K s) refl)
    where
      at : (s : ℕ) (u : Bool) → ctx C E K s ≡ u → ◌≡◌ {A = State}
          (record { numbers = cond (ctx C E K s) (slice_set (S s) x (n s)) (S s); outcome = outcome_in D E K s; steps = K.steps s })
          (cond (ctx C E K s) (record { numbers = slice_set (S s) x (g s (S s)); outcome = outcome_in D E K s; steps = K.steps s })
          (record { numbers = S s; outcome = outcome_in D E K s; steps = K.steps s }))
      at s true p = rw (p, same s p)
      at s false p = rw p

  -- throwing: the error is filed for the live settings
  pub thrown_is : (l : Frame) (E : Stack) (K : Counts) (n : Varied ℤ) (g : ℕ → Numbers → ℤ) → ((s : ℕ) → ctx C (l ∷ E) K s ≡ true → n s ≡ g s (S s))
      → seen D (world S ((record { within = ctx C (l ∷ E) K; codes = n } ∷ l) ∷ E) K)
      ≡ for (ctx C (l ∷ E) K) (λ s σ. thrown (g s σ.numbers) σ) (seen D (world S (l ∷ E) K))
  unfolding seen conf outcome_in in_error erring conf_err extract for thrown
  thrown_is l E K n g same = ap (λ f. record { at = f; visits = K.visits }) (fun_ext λ s. at s (ctx C (l ∷ E) K s) refl)
    where
      at : (s : ℕ) (u : Bool) → ctx C (l ∷ E) K s ≡ u
          → conf D (world S ((record { within = ctx C (l ∷ E) K; codes = n } ∷ l) ∷ E) K) s
          ≡ cond (ctx C (l ∷ E) K s) (thrown (g s (S s)) (conf D (world S (l ∷ E) K) s)) (conf D (world S (l ∷ E) K) s)
      at s true p =
          let f = ctx_in C (l ∷ E) K s p in
          rw (p, w s f.0, f.2, same s p)
      at s false p = rw p

-- catching: the frame l of a try's body, whose settings were live at its start, is taken off
caught_table : (c d r e p q : Bool) (m n : ℤ) → (c ≡ true → d ≡ true) → (r ≡ true → (c ≡ true) × (e ≡ false) × (p ≡ false))
    → (c && r) && (not e && not q) ≡ (c && (not e && not p)) && in_fault (cond d (cond q out (cond (r || e) (fault (cond r m n)) done)) idle)
unfolding in_fault
caught_table false d true e p q m n h k = absurd (false≢true (k refl).0)
caught_table false d false e p q m n h k = refl
caught_table true false r e p q m n h k = absurd (false≢true (h refl))
caught_table true true true true p q m n h k = absurd (true≢false (k refl).1)
caught_table true true true false true q m n h k = absurd (true≢false (k refl).2)
caught_table true true true false false true m n h k = refl
caught_table true true true false false false m n h k = refl
caught_table true true false true p q m n h k = refl
caught_table true true false false true q m n h k = refl
caught_table true true false false false true m n h k = refl
caught_table true true false false false false m n h k = refl

taken_table : (c d r e q : Bool) (m n : ℤ) (x k : ℕ) (ns : Numbers) → (c ≡ true → d ≡ true) → (r ≡ true → (c ≡ true) × (e ≡ false))
    → (let f : Bool = (c && r) && (not e && not q) in
    let σ : State = record { numbers = ns; outcome = cond d (cond q out (cond (r || e) (fault (cond r m n)) done)) idle; steps = k } in
    ◌≡◌ {A = State} (record { numbers = cond f (slice_set ns x m) ns; outcome = cond d (cond q out (cond e (fault n) done)) idle; steps = k })
    (cond f (taken x σ) σ))
unfolding taken code
taken_table false d true e q m n x k ns h i = absurd (false≢true (i refl).0)
taken_table false d false e q m n x k ns h i = refl
taken_table true false r e q m n x k ns h i = absurd (false≢true (h refl))
taken_table true true true true q m n x k ns h i = absurd (true≢false (i refl).1)
taken_table true true true false true m n x k ns h i = refl
taken_table true true true false false m n x k ns h i = refl
taken_table true true false e q m n x k ns h i = refl

module _ (D C : Settings) (w : Within C D) (l : Frame) (E : Stack) (K : Counts) (fresh : (s : ℕ) → erring l s ≡ true → ctx C E K s ≡ true) (S' : Store) (K' : Counts) where
  -- the settings in which the body ended in fault
  pub caught_is : (s : ℕ) → ctx (catch_ctx C l) E K' s ≡ where_true (λ s σ. in_fault σ.outcome) (ctx C E K) (seen D (world S' (l ∷ E) K')) s
  unfolding ctx catch_ctx where_true seen conf outcome_in in_error conf_err
  caught_is s = caught_table (C s) (D s) (erring l s) (in_error E s) (K.outs s) (K'.outs s) (extract l s) (conf_err E s) (w s)
      (λ r. ctx_in C E K s (fresh s r))

  -- the state once their numbers are stored and their faults cleared
  pub taken_is : (x : ℕ) → seen D (world (update S' (ctx (catch_ctx C l) E K') x (extract l)) E K')
      ≡ for (ctx (catch_ctx C l) E K') (λ s. taken x) (seen D (world S' (l ∷ E) K'))
  unfolding seen conf outcome_in in_error conf_err update for ctx catch_ctx
  taken_is x = ap (λ f. record { at = f; visits = K'.visits }) (fun_ext λ s.
      taken_table (C s) (D s) (erring l s) (in_error E s) (K'.outs s) (extract l s) (conf_err E s) x (K'.steps s) (S' s) (w s)
      (λ r. let f = ctx_in C E K s (fresh s r) in (f.0, f.1)))

-- an empty frame says nothing, and catches nobody
pub empty_frame : (D : Settings) (S : Store) (E : Stack) (K : Counts) → seen D (world S ([] ∷ E) K) ≡ seen D (world S E K)
unfolding seen conf outcome_in in_error erring conf_err
empty_frame D S E K = refl

pub empty_ctx : (C : Settings) (E : Stack) (K : Counts) → ctx C ([] ∷ E) K ≡ ctx C E K
unfolding ctx in_error erring
empty_ctx C E K = refl

pub nobody_caught : (C : Settings) (E : Stack) (K : Counts) (s : ℕ) → ctx (catch_ctx C []) E K s ≡ false
unfolding ctx catch_ctx erring
nobody_caught C E K s = go (C s)
  where
    go : (c : Bool) → (c && false) && (not (in_error E s) && not (K.outs s)) ≡ false
    go true = refl
    go false = refl
