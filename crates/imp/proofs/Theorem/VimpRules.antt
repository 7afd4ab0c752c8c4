-- Each rule of Figure 5.8 but the while's: from a live start there is a derivation by it, and its end shows what the shared run does.
use Rattle.std.specs.Prelude.{◌≡◌, ℕ, ◌<◌, Bool, true, false, not, ◌&&◌, ◌∷◌}
use Rattle.std.proofs.Math.Path.{refl, ap}
use Rattle.std.proofs.Common.{sym, ◌∙◌}
use Rattle.std.proofs.lemmas.Bool.{false≢true}
use Rattle.imp.specs.Condition.{Condition, holds}
use Rattle.imp.specs.Routine.{Arithmetic, Boolean, Statement, skip, assign, sequence, if, throw, choice}
use Rattle.imp.specs.State as State
use Rattle.imp.specs.Shared.{Settings, any, Shared, value_in, truth_in, for, where_true, where_false, shared, Below}
use Rattle.imp.specs.Rules.Variational.{Varied, ◌∩◌, negation, Store, update, when_true, when_false, Frame, Stack, erring, Counts, World, world, ctx, counted, made_out, begun, conf, seen}
use Rattle.imp.specs.Rules.Figure58.{⇓V, V-SAT, V-UNSAT, VS-SKIP, VS-ASSN, VS-SEQ, VS-IF, VS-THROW, VS-CHC}
use Rattle.imp.proofs.Theorem.Sets.{and_true}
use Rattle.imp.proofs.Theorem.Live.{alive, same_live, none_runs}
use Rattle.imp.proofs.Theorem.VimpExpressions.{value_derives, truth_derives}
use Rattle.imp.proofs.Theorem.VimpWorlds.{Within}
use Rattle.imp.proofs.Theorem.VimpActs.{assigned_is, thrown_is}
use Rattle.imp.proofs.Theorem.VimpDerived.{part_in, Derived, Derives, Acts, within_below, ctx_within, none_live, live_same, in_turn}

module _ (N b : ℕ) (D : Settings) (below : Below N D) where
  pub acts_skip : Acts N b D below skip (λ left Σ. Σ)
  acts_skip C w S l E K h = record { store' = S; frame' = l; counts' = K; by = VS-SKIP; shows = refl; new = λ s r n. r }

  pub acts_assign : (x : ℕ) (a : Arithmetic Condition) → Acts N b D below (assign x a) (λ left Σ. for left (λ s σ. State.store x (value_in s a σ.numbers) σ) Σ)
  acts_assign x a C w S l E K h =
      let r = value_derives N S (ctx C (l ∷ E) K) a h in
      record {
        store' = update S (ctx C (l ∷ E) K) x r.0;
        frame' = l;
        counts' = K;
        by = VS-ASSN r.1;
        shows = assigned_is D C w S (l ∷ E) K x r.0 (λ s. value_in s a) (λ s e. r.2 s (below s (ctx_within N b D below C w (l ∷ E) K s e)) e);
        new = λ s e n. e;
      }

  pub acts_throw : (a : Arithmetic Condition) → Acts N b D below (throw a) (λ left Σ. for left (λ s σ. State.thrown (value_in s a σ.numbers) σ) Σ)
  unfolding erring
  acts_throw a C w S l E K h =
      let r = value_derives N S (ctx C (l ∷ E) K) a h in
      record {
        store' = S;
        frame' = record { within = ctx C (l ∷ E) K; codes = r.0 } ∷ l;
        counts' = K;
        by = VS-THROW r.1;
        shows = thrown_is D C w S l E K r.0 (λ s. value_in s a) (λ s e. r.2 s (below s (ctx_within N b D below C w (l ∷ E) K s e)) e);
        new = λ s e n. rw n at e;
      }

  pub acts_sequence : (x y : Statement Condition) → Derives N b D below x → Derives N b D below y
      → Acts N b D below (sequence x y) (λ left Σ. shared N b y left (shared N b x left Σ))
  acts_sequence x y dx dy C w S l E K h =
      let L : Settings = ctx C (l ∷ E) K in
      let hL : Below N L = within_below N b D below L (ctx_within N b D below C w (l ∷ E) K) in
      let same = live_same N b D below C w (world S (l ∷ E) K) in
      in_turn N b D below x y C C C w (λ s e. e) (λ s e. e) S l E K L L hL hL same same (λ X X' d d'. VS-SEQ d d') (dx C w S l E K) (dy C w _ _ E _)

  -- ---- an if

  and_same : (c t u : Bool) → (c ≡ true → t ≡ u) → c && t ≡ c && u
  and_same true t u h = h refl
  and_same false t u h = refl

  -- the parts of C where the test is true, and where it is false, of the live settings
  module _ (e : Boolean Condition) (C : Settings) (w : Within C D) (S : Store) (l : Frame) (E : Stack) (K : Counts) (v : Varied Bool)
      (at : (s : ℕ) → s < N → ctx C (l ∷ E) K s ≡ true → v s ≡ truth_in s e (S s)) where
    abbrev Σ : Shared
    Σ = seen D (world S (l ∷ E) K)

    tested : (s : ℕ) → ctx C (l ∷ E) K s ≡ true → v s ≡ truth_in s e (S s)
    tested s h = at s (below s (ctx_within N b D below C w (l ∷ E) K s h)) h

    pub true_same : (s : ℕ) → alive Σ s ≡ true → (C ∩ when_true v) s ≡ where_true (λ s σ. truth_in s e σ.numbers) (ctx C (l ∷ E) K) Σ s
    unfolding ◌∩◌ when_true where_true seen conf
    true_same s a = rw (live_same N b D below C w (world S (l ∷ E) K) s a) (and_same (ctx C (l ∷ E) K s) (v s) (truth_in s e (S s)) (tested s))

    pub false_same : (s : ℕ) → alive Σ s ≡ true → (C ∩ when_false v) s ≡ where_false (λ s σ. truth_in s e σ.numbers) (ctx C (l ∷ E) K) Σ s
    unfolding ◌∩◌ when_true when_false negation where_false seen conf
    false_same s a = rw (live_same N b D below C w (world S (l ∷ E) K) s a)
        (and_same (ctx C (l ∷ E) K s) (not (v s)) (not (truth_in s e (S s))) λ h. ap not (tested s h))

    pub true_below : Below N (where_true (λ s σ. truth_in s e σ.numbers) (ctx C (l ∷ E) K) Σ)
    unfolding where_true
    true_below s h = below s (ctx_within N b D below C w (l ∷ E) K s (and_true (ctx C (l ∷ E) K s) _ h).0)

    pub false_below : Below N (where_false (λ s σ. truth_in s e σ.numbers) (ctx C (l ∷ E) K) Σ)
    unfolding where_false
    false_below s h = below s (ctx_within N b D below C w (l ∷ E) K s (and_true (ctx C (l ∷ E) K s) _ h).0)

  pub acts_if : (e : Boolean Condition) (x y : Statement Condition) → Derives N b D below x → Derives N b D below y → Acts N b D below (if e x y) (λ left Σ.
      shared N b y (where_false (λ s σ. truth_in s e σ.numbers) left Σ) (shared N b x (where_true (λ s σ. truth_in s e σ.numbers) left Σ) Σ))
  acts_if e x y dx dy C w S l E K h =
      let r = truth_derives N S (ctx C (l ∷ E) K) e h in
      let T : Settings = C ∩ when_true r.0 in
      let F : Settings = C ∩ when_false r.0 in
      in_turn N b D below x y C T F w (part_in C _) (part_in C _) S l E K _ _
      (true_below e C w S l E K r.0 r.2) (false_below e C w S l E K r.0 r.2)
      (true_same e C w S l E K r.0 r.2) (false_same e C w S l E K r.0 r.2)
      (λ X X' d d'. VS-IF r.1 d d') (dx T (λ s i. w s (part_in C _ s i)) S l E K) (dy F (λ s i. w s (part_in C _ s i)) _ _ E _)

  -- ---- a choice: it is not counted, and is entered if it has a live setting

  pub derives_choice : (c : Condition) (x y : Statement Condition) → Derives N b D below x → Derives N b D below y → Derives N b D below (choice c x y)
  unfolding shared made_out begun counted ◌∩◌ negation
  derives_choice c x y dx dy C w S l E K = go (any N (ctx C (l ∷ E) K)) refl
    where
      X : World
      X = world S (l ∷ E) K

      T : Settings
      T = C ∩ holds c

      F : Settings
      F = C ∩ negation (holds c)

      wT : Within T D
      wT s i = w s (part_in C (holds c) s i)

      wF : Within F D
      wF s i = w s (part_in C (negation (holds c)) s i)

      go : (u : Bool) → any N (ctx C (l ∷ E) K) ≡ u → Derived N b D below ⇓V (choice c x y) C S l E K (shared N b (choice c x y) C (seen D X))
      go true h = in_turn N b D below x y C T F w (part_in C _) (part_in C _) S l E K T F (within_below N b D below T wT) (within_below N b D below F wF)
          (λ s i. refl) (λ s i. refl) (λ X X' d d'. V-SAT h (VS-CHC d d')) (dx T wT S l E K) (dy F wF _ _ E _)
      go false h = record {
        store' = S;
        frame' = l;
        counts' = K;
        by = V-UNSAT h;
        shows = sym (same_live N b (choice c x y) C (λ s. false) (seen D X) (within_below N b D below C w) (λ s e. absurd (false≢true e))
            (λ s e. live_same N b D below C w X s e ∙ none_live N b D below C w (l ∷ E) K h s) ∙ none_runs N b (choice c x y) (seen D X));
        new = λ s r n. r;
      }
