-- Derivations whose end shows a given state of the shared run, and how they are put together: a statement is begun or passed by, and two run in turn.
use Rattle.std.specs.Prelude.{◌≡◌, ℕ, Bool, true, false, not, ◌&&◌, ◌||◌, ◌∷◌, nat_lt}
use Rattle.std.proofs.Math.Path.{refl, fun_ext}
use Rattle.std.proofs.Common.{sym, ◌∙◌, ap, ap₂, true≢false}
use Rattle.std.proofs.lemmas.Bool.{false≢true}
use Rattle.imp.specs.Condition.{Condition}
use Rattle.imp.specs.Routine.{Statement}
use Rattle.imp.specs.Shared as Shared
use Rattle.imp.specs.Shared.{Settings, any, Shared, shared, Below}
use Rattle.imp.specs.Rules.Variational.{Sat, Unsat, ◌∩◌, Store, Frame, Stack, erring, in_error, Counts, World, world, ctx, counted, made_out, begun, seen}
use Rattle.imp.specs.Rules.Figure58.{Judgement, ⇓V, ⇓VS, Vimp, V-SAT, V-UNSAT}
use Rattle.imp.proofs.Theorem.Sets.{and_true, any_false}
use Rattle.imp.proofs.Theorem.WhileShared.{left, begun_some, begun_none}
use Rattle.imp.proofs.Theorem.Live.{alive, was_alive, still, same_live}
use Rattle.imp.proofs.Theorem.VimpWorlds.{Within, ctx_alive, ctx_in, left_is, reached_is, passed_is}

-- every setting of P is in C
abbrev pub Inside : Settings → Settings → Type 0
Inside P C = (s : ℕ) → P s ≡ true → C s ≡ true

pub part_in : (C P : Settings) → Inside (C ∩ P) C
unfolding ◌∩◌
part_in C P s e = (and_true (C s) (P s) e).0

module _ (N b : ℕ) (D : Settings) (below : Below N D) where
  -- a derivation of t for C whose end shows Σ'; only the top frame l has changed, and only by settings that were live
  pub record Derived (j : Judgement) (t : Statement Condition) (C : Settings) (S : Store) (l : Frame) (E : Stack) (K : Counts) (Σ' : Shared) : Type 0 where
    pub store' : Store
    pub frame' : Frame
    pub counts' : Counts
    pub by : Vimp N b j C (world S (l ∷ E) K) t (world store' (frame' ∷ E) counts')
    pub shows : seen D (world store' (frame' ∷ E) counts') ≡ Σ'
    pub new : (s : ℕ) → erring frame' s ≡ true → ctx C (l ∷ E) K s ≡ false → erring l s ≡ true

  -- a statement that can be derived from every start
  abbrev pub Derives : Statement Condition → Type 0
  Derives t = (C : Settings) → Within C D → (S : Store) (l : Frame) (E : Stack) (K : Counts)
      → Derived ⇓V t C S l E K (shared N b t C (seen D (world S (l ∷ E) K)))

  -- and one whose own rule can be, doing `act` for the live settings
  abbrev pub Acts : Statement Condition → (Settings → Shared → Shared) → Type 0
  Acts t act = (C : Settings) → Within C D → (S : Store) (l : Frame) (E : Stack) (K : Counts) → Sat N (ctx C (l ∷ E) K)
      → Derived ⇓VS t C S l E K (act (ctx C (l ∷ E) K) (seen D (world S (l ∷ E) K)))

  pub showing : {j : Judgement} {t : Statement Condition} {C : Settings} {S : Store} {l : Frame} {E : Stack} {K : Counts} {Σ Σ' : Shared} → Σ ≡ Σ'
      → Derived j t C S l E K Σ → Derived j t C S l E K Σ'
  showing e d = record { store' = d.store'; frame' = d.frame'; counts' = d.counts'; by = d.by; shows = d.shows ∙ e; new = d.new }

  -- ---- sets, and who is live in them

  pub within_below : (C : Settings) → Within C D → Below N C
  within_below C w s e = below s (w s e)

  pub inside_within : (P C : Settings) → Inside P C → Within C D → Within P D
  inside_within P C i w s e = w s (i s e)

  pub ctx_within : (C : Settings) → Within C D → (E : Stack) (K : Counts) → Within (ctx C E K) D
  ctx_within C w E K s e = w s (ctx_in C E K s e).0

  -- no live setting below N is no live setting
  pub none_live : (C : Settings) → Within C D → (E : Stack) (K : Counts) → Unsat N (ctx C E K) → (s : ℕ) → ctx C E K s ≡ false
  none_live C w E K h s = go (ctx C E K s) refl
    where
      go : (u : Bool) → ctx C E K s ≡ u → ctx C E K s ≡ false
      go true e = absurd (true≢false (sym e ∙ any_false N (ctx C E K) h s (below s (w s (ctx_in C E K s e).0))))
      go false e = e

  -- of the live settings, those of C are the live ones of C
  pub live_same : (C : Settings) → Within C D → (X : World) (s : ℕ) → alive (seen D X) s ≡ true → C s ≡ ctx C X.errors X.counts s
  live_same C w X s e = sym (ctx_alive D C X w s ∙ rw e (right (C s)))
    where
      right : (c : Bool) → c && true ≡ c
      right true = refl
      right false = refl

  -- who is live in X', for a part P of C, was live in X for C
  pub were_live : (C P : Settings) → Within C D → Inside P C → (X X' : World) (t : Statement Condition) (B : Settings)
      → seen D X' ≡ shared N b t B (seen D X) → (s : ℕ) → ctx P X'.errors X'.counts s ≡ true → ctx C X.errors X.counts s ≡ true
  were_live C P w i X X' t B e s h =
      let p : P s ≡ true = (ctx_in P X'.errors X'.counts s h).0 in
      let l : alive (seen D X') s ≡ true = (and_true (P s) _ (sym (ctx_alive D P X' (inside_within P C i w) s) ∙ h)).1 in
      let a : alive (seen D X) s ≡ true = was_alive N b t B (seen D X) s (below s (w s (i s p))) (ap (λ Σ. alive Σ s) (sym e) ∙ l) in
      sym (live_same C w X s a) ∙ i s p

  -- ---- a statement is begun, or passed by

  -- who is not made out was live before
  pub made_out_live : (t : Statement Condition) (C : Settings) (E : Stack) (K : Counts) (s : ℕ) → ctx C E (made_out b t C E K) s ≡ true → ctx C E K s ≡ true
  unfolding ctx made_out
  made_out_live t C E K s h = go (C s) (in_error E s) (K.outs s) (counted t && (ctx C E K s && not (nat_lt (K.steps s) b))) h
    where
      go : (c e p x : Bool) → c && (not e && not (x || p)) ≡ true → c && (not e && not p) ≡ true
      go true false false x h = refl
      go true false true true h = h
      go true false true false h = h
      go true true p x h = h
      go false e p x h = h

  pub begins : (t : Statement Condition) → counted t ≡ true → (act : Settings → Shared → Shared)
      → (C : Settings) → Within C D → (S : Store) (l : Frame) (E : Stack) (K : Counts)
      → (let K₂ : Counts = begun t C (l ∷ E) (made_out b t C (l ∷ E) K) in
      Sat N (ctx C (l ∷ E) K₂) → Derived ⇓VS t C S l E K₂ (act (ctx C (l ∷ E) K₂) (seen D (world S (l ∷ E) K₂))))
      → Derived ⇓V t C S l E K (Shared.begun N b act C (seen D (world S (l ∷ E) K)))
  unfolding begun ctx
  begins t u act C w S l E K a = go (any N (ctx C (l ∷ E) K₁)) refl
    where
      K₁ : Counts
      K₁ = made_out b t C (l ∷ E) K

      K₂ : Counts
      K₂ = begun t C (l ∷ E) K₁

      Σ : Shared
      Σ = seen D (world S (l ∷ E) K)

      lefts : left N b C Σ ≡ ctx C (l ∷ E) K₁
      lefts = fun_ext (left_is N b D C w t u S (l ∷ E) K)

      go : (v : Bool) → any N (ctx C (l ∷ E) K₁) ≡ v → Derived ⇓V t C S l E K (Shared.begun N b act C Σ)
      go true e =
          let d : Derived ⇓VS t C S l E K₂ (act (ctx C (l ∷ E) K₂) (seen D (world S (l ∷ E) K₂))) = a e in
          record {
            store' = d.store';
            frame' = d.frame';
            counts' = d.counts';
            by = V-SAT e d.by;
            shows = d.shows ∙ sym (begun_some N b act C Σ (ap (any N) lefts ∙ e) ∙ ap₂ act lefts (reached_is N b D C w t u S (l ∷ E) K));
            new = λ s r n. d.new s r (was_dead s (ctx C (l ∷ E) K₁ s) refl n);
          }
        where
          was_dead : (s : ℕ) (x : Bool) → ctx C (l ∷ E) K₁ s ≡ x → ctx C (l ∷ E) K s ≡ false → ctx C (l ∷ E) K₁ s ≡ false
          was_dead s true p n = absurd (true≢false (sym (made_out_live t C (l ∷ E) K s p) ∙ n))
          was_dead s false p n = p
      go false e = record {
        store' = S;
        frame' = l;
        counts' = K₁;
        by = V-UNSAT e;
        shows = sym (begun_none N b act C Σ (ap (any N) lefts ∙ e) ∙ passed_is N b D C w t u S (l ∷ E) K (none_live C w (l ∷ E) K₁ e));
        new = λ s r n. r;
      }

  -- ---- two run in turn, for parts P and Q of C

  module _ (x y : Statement Condition) (C P Q : Settings) (w : Within C D) (p : Inside P C) (q : Inside Q C) (S : Store) (l : Frame) (E : Stack) (K : Counts) where
    abbrev Σ₀ : Shared
    Σ₀ = seen D (world S (l ∷ E) K)

    -- a setting whose error is new was live, in the one or in the other
    new_then : (X' : World) → seen D X' ≡ shared N b x P Σ₀ → (l₁ l₂ : Frame)
        → ((s : ℕ) → erring l₁ s ≡ true → ctx P (l ∷ E) K s ≡ false → erring l s ≡ true)
        → ((s : ℕ) → erring l₂ s ≡ true → ctx Q X'.errors X'.counts s ≡ false → erring l₁ s ≡ true)
        → (s : ℕ) → erring l₂ s ≡ true → ctx C (l ∷ E) K s ≡ false → erring l s ≡ true
    unfolding ctx
    new_then X' e l₁ l₂ n₁ n₂ s r d = n₁ s (n₂ s r (late (ctx Q X'.errors X'.counts s) refl)) (early (C s) (P s) (p s) d)
      where
        late : (u : Bool) → ctx Q X'.errors X'.counts s ≡ u → ctx Q X'.errors X'.counts s ≡ false
        late true i = absurd (true≢false (sym (were_live C Q w q (world S (l ∷ E) K) X' x P e s i) ∙ d))
        late false i = i

        early : (c c' : Bool) → (c' ≡ true → c ≡ true) → c && (not (in_error (l ∷ E) s) && not (K.outs s)) ≡ false
            → c' && (not (in_error (l ∷ E) s) && not (K.outs s)) ≡ false
        early c false h k = refl
        early true true h k = k
        early false true h k = absurd (false≢true (h refl))

    -- the shared run's own parts P' and Q' have the same live settings
    pub in_turn : {j : Judgement} {t : Statement Condition} (P' Q' : Settings) → Below N P' → Below N Q'
        → ((s : ℕ) → alive Σ₀ s ≡ true → P s ≡ P' s) → ((s : ℕ) → alive Σ₀ s ≡ true → Q s ≡ Q' s)
        → ((X X' : World) → Vimp N b ⇓V P (world S (l ∷ E) K) x X → Vimp N b ⇓V Q X y X' → Vimp N b j C (world S (l ∷ E) K) t X')
        → (d : Derived ⇓V x P S l E K (shared N b x P Σ₀))
        → Derived ⇓V y Q d.store' d.frame' E d.counts' (shared N b y Q (seen D (world d.store' (d.frame' ∷ E) d.counts')))
        → Derived j t C S l E K (shared N b y Q' (shared N b x P' Σ₀))
    in_turn P' Q' hP' hQ' sameP same_q rule d d' = record {
      store' = d'.store';
      frame' = d'.frame';
      counts' = d'.counts';
      by = rule _ _ d.by d'.by;
      shows = d'.shows ∙ ap (shared N b y Q) d.shows
          ∙ same_live N b y Q Q' (shared N b x P Σ₀) hQ hQ' (still N b x Q Q' P Σ₀ hQ hQ' same_q)
          ∙ ap (shared N b y Q') (same_live N b x P P' Σ₀ hP hP' sameP);
      new = new_then (world d.store' (d.frame' ∷ E) d.counts') d.shows d.frame' d'.frame' d.new d'.new;
    }
      where
        hP : Below N P
        hP = within_below P (inside_within P C p w)

        hQ : Below N Q
        hQ = within_below Q (inside_within Q C q w)
