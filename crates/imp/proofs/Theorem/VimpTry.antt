-- The rules VS-TRY and VS-CATCH: the errors of a try's body are in a frame f of their own, which is empty or is taken off for the handler.
use Rattle.std.specs.Prelude.{◌≡◌, ℕ, Bool, true, false, [], ◌∷◌}
use Rattle.std.proofs.Math.Path.{refl, sym, fun_ext}
use Rattle.std.proofs.Common.{◌∙◌, ap, ap₂, true≢false}
use Rattle.std.proofs.lemmas.Bool.{false≢true}
use Rattle.imp.specs.Condition.{Condition}
use Rattle.imp.specs.Routine.{Statement, try}
use Rattle.imp.specs.State.{in_fault, taken}
use Rattle.imp.specs.Shared.{Settings, Shared, for, where_true, shared, Below}
use Rattle.imp.specs.Rules.Variational.{Store, update, Frame, Stack, erring, catch_ctx, extract, Counts, World, world, ctx, seen}
use Rattle.imp.specs.Rules.Figure58.{⇓V, ⇓VS, Vimp, VS-TRY, VS-CATCH}
use Rattle.imp.proofs.Theorem.Sets.{and_true}
use Rattle.imp.proofs.Theorem.Live.{same_live, none_runs}
use Rattle.imp.proofs.Theorem.VimpWorlds.{Within, ctx_in}
use Rattle.imp.proofs.Theorem.VimpActs.{caught_is, taken_is, empty_frame, empty_ctx, nobody_caught}
use Rattle.imp.proofs.Theorem.VimpDerived.{Derived, Derives, Acts, within_below, ctx_within, live_same}

module _ (N b : ℕ) (D : Settings) (below : Below N D) (x y : Statement Condition) (v : ℕ)
    (C : Settings) (w : Within C D) (S : Store) (l : Frame) (E : Stack) (K : Counts) where
  abbrev L : Settings
  L = ctx C (l ∷ E) K

  -- the body's state, and the settings in which it ended in fault
  abbrev body : Shared
  body = shared N b x L (seen D (world S (l ∷ E) K))

  abbrev faulted : Settings
  faulted = where_true (λ s σ. in_fault σ.outcome) L body

  module _ (dy : Derives N b D below y) (S' : Store) (f : Frame) (K' : Counts) (q : seen D (world S' (f ∷ l ∷ E) K') ≡ body)
      (fresh : (s : ℕ) → erring f s ≡ true → L s ≡ true) where
    abbrev F : Settings
    F = ctx (catch_ctx C f) (l ∷ E) K'

    faulted_is : F ≡ faulted
    faulted_is = fun_ext λ s. caught_is D C w f (l ∷ E) K fresh S' K' s ∙ ap (λ Σ. where_true (λ s σ. in_fault σ.outcome) L Σ s) q

    caught_within : Within (catch_ctx C f) D
    unfolding catch_ctx
    caught_within s e = w s (and_true (C s) (erring f s) e).0

    -- the handler is run for those
    handler : Derived N b D below ⇓V y (catch_ctx C f) (update S' F v (extract f)) l E K' (shared N b y faulted (for faulted (λ s. taken v) body))
    handler =
        let T : Store = update S' F v (extract f) in
        let d = dy (catch_ctx C f) caught_within T l E K' in
        record {
          store' = d.store';
          frame' = d.frame';
          counts' = d.counts';
          by = d.by;
          shows = d.shows
              ∙ same_live N b y (catch_ctx C f) F _ (within_below N b D below (catch_ctx C f) caught_within)
              (within_below N b D below F (ctx_within N b D below (catch_ctx C f) caught_within (l ∷ E) K'))
              (live_same N b D below (catch_ctx C f) caught_within (world T (l ∷ E) K'))
              ∙ ap₂ (shared N b y) faulted_is (taken_is D C w f (l ∷ E) K fresh S' K' v ∙ ap₂ (λ F Σ. for F (λ s. taken v) Σ) faulted_is q);
          new = d.new;
        }

    -- whoever it is run for was live
    caught_live : (s : ℕ) → L s ≡ false → F s ≡ false
    unfolding catch_ctx
    caught_live s n = go (F s) refl
      where
        go : (u : Bool) → F s ≡ u → F s ≡ false
        go true e = absurd (true≢false (sym (fresh s (and_true (C s) (erring f s) (ctx_in (catch_ctx C f) (l ∷ E) K' s e).0).1) ∙ n))
        go false e = e

  finish : Derives N b D below y → (S' : Store) (f : Frame) (K' : Counts) → Vimp N b ⇓V C (world S ([] ∷ l ∷ E) K) x (world S' (f ∷ l ∷ E) K')
      → seen D (world S' (f ∷ l ∷ E) K') ≡ body → ((s : ℕ) → erring f s ≡ true → L s ≡ true)
      → Derived N b D below ⇓VS (try x v y) C S l E K (shared N b y faulted (for faulted (λ s. taken v) body))
  unfolding for
  finish dy S' [] K' d q fresh = record {
    store' = S';
    frame' = l;
    counts' = K';
    by = VS-TRY d;
    shows = sym (empty_frame D S' (l ∷ E) K') ∙ q ∙ sym (ap (λ F. shared N b y F (for F (λ s. taken v) body)) nobody ∙ none_runs N b y body);
    new = λ s r n. r;
  }
    where
      nobody : faulted ≡ (λ s. false)
      nobody = sym (faulted_is dy S' [] K' q fresh) ∙ fun_ext (nobody_caught C (l ∷ E) K')
  finish dy S' (e ∷ f) K' d q fresh =
      let h = handler dy S' (e ∷ f) K' q fresh in
      record {
        store' = h.store';
        frame' = h.frame';
        counts' = h.counts';
        by = VS-CATCH d h.by;
        shows = h.shows;
        new = λ s r n. h.new s r (caught_live dy S' (e ∷ f) K' q fresh s n);
      }

pub acts_try : (N b : ℕ) (D : Settings) (below : Below N D) (x : Statement Condition) (v : ℕ) (y : Statement Condition)
    → Derives N b D below x → Derives N b D below y → Acts N b D below (try x v y) (λ left Σ.
    let Σ' : Shared = shared N b x left Σ in
    let caught : Settings = where_true (λ s σ. in_fault σ.outcome) left Σ' in
    shared N b y caught (for caught (λ s. taken v) Σ'))
unfolding erring
acts_try N b D below x v y dx dy C w S l E K h =
    let d = dx C w S [] (l ∷ E) K in
    let X : World = world S (l ∷ E) K in
    finish N b D below x y v C w S l E K dy d.store' d.frame' d.counts' d.by
    (d.shows ∙ ap (shared N b x C) (empty_frame D S (l ∷ E) K)
    ∙ same_live N b x C (ctx C (l ∷ E) K) (seen D X) (within_below N b D below C w)
    (within_below N b D below _ (ctx_within N b D below C w (l ∷ E) K)) (live_same N b D below C w X))
    (fresh d.frame' d.new)
  where
    -- a frame that was empty at the body's start has live settings only
    fresh : (f : Frame) → ((s : ℕ) → erring f s ≡ true → ctx C ([] ∷ l ∷ E) K s ≡ false → erring [] s ≡ true)
        → (s : ℕ) → erring f s ≡ true → ctx C (l ∷ E) K s ≡ true
    fresh f n s r = go (ctx C (l ∷ E) K s) refl
      where
        go : (u : Bool) → ctx C (l ∷ E) K s ≡ u → ctx C (l ∷ E) K s ≡ true
        go true e = e
        go false e = absurd (false≢true (n s r (ap (λ F. F s) (empty_ctx C (l ∷ E) K) ∙ e)))
