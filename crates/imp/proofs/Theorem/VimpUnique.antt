-- What the rules of Figure 5.8 derive from a start is one world.
-- The idea: induction on one derivation; of the other the last rule is read off, and its premises are brought to the same start.
use Rattle.std.specs.Prelude.{◌≡◌, ℕ, Bool, [], ◌∷◌, ℤ, refl}
use Rattle.std.proofs.Common.{sym, ◌∙◌, ap, subst, subst₂, true≢false, arith}
use Rattle.imp.specs.Condition.{Condition, holds}
use Rattle.imp.specs.Routine.{Arithmetic, Boolean, Statement, skip, assign, sequence, if, while, throw, try, choice}
use Rattle.imp.specs.Shared.{Settings}
use Rattle.imp.specs.Rules.Variational.{Varied, Sat, Unsat, ◌∩◌, negation, Store, update, when_true, when_false, Error, Frame, Stack, catch_ctx, extract, Counts, World, world, ctx, made_out, begun}
use Rattle.imp.specs.Rules.Figure56.{VA⇓, VB⇓}
use Rattle.imp.specs.Rules.Figure58.{Judgement, ⇓V, ⇓VS, Vimp, V-SAT, V-UNSAT, VS-SKIP, VS-ASSN, VS-SEQ, VS-IF, VS-WHILE, VS-THROW, VS-TRY, VS-CATCH, VS-CHC}
use Rattle.imp.proofs.Theorem.VimpExpressions.{value_unique, truth_unique}

-- the settings that X has live of C
abbrev now : Settings → World → Settings
now C X = ctx C X.errors X.counts

-- the world of a statement that is begun, and of one that is not
abbrev out_of : ℕ → Statement Condition → Settings → World → World
out_of b s C X = world X.store X.errors (made_out b s C X.errors X.counts)

abbrev begun_in : ℕ → Statement Condition → Settings → World → World
begun_in b s C X = world X.store X.errors (begun s C X.errors (made_out b s C X.errors X.counts))

-- the world that a try's body is run in, and that of its handler
abbrev tried_in : World → World
tried_in X = world X.store ([] ∷ X.errors) X.counts

abbrev caught_in : Settings → ℕ → Frame → Stack → Store → Counts → World
caught_in C x l E S K = world (update S (ctx (catch_ctx C l) E K) x (extract l)) E K

-- ---- the last rule of a derivation

last_skip : {N b : ℕ} {C : Settings} {X Y : World} → Vimp N b ⇓VS C X skip Y → Y ≡ X
last_skip VS-SKIP = refl

last_assign : {N b : ℕ} {C : Settings} {X : World} {x : ℕ} {a : Arithmetic Condition} {Y : World} → Vimp N b ⇓VS C X (assign x a) Y
    → (n : Varied ℤ) × VA⇓ N X.store (now C X) a n × (Y ≡ world (update X.store (now C X) x n) X.errors X.counts)
last_assign (VS-ASSN {n} d) = (n, d, refl)

last_sequence : {N b : ℕ} {C : Settings} {X Y : World} {s s' : Statement Condition} → Vimp N b ⇓VS C X (sequence s s') Y → (X' : World) × Vimp N b ⇓V C X s X' × Vimp N b ⇓V C X' s' Y
last_sequence (VS-SEQ {X'} d d') = (X', d, d')

last_if : {N b : ℕ} {C : Settings} {X Y : World} {e : Boolean Condition} {s s' : Statement Condition} → Vimp N b ⇓VS C X (if e s s') Y → (v : Varied Bool) × (X' : World)
    × VB⇓ N X.store (now C X) e v × Vimp N b ⇓V (C ∩ when_true v) X s X' × Vimp N b ⇓V (C ∩ when_false v) X' s' Y
last_if (VS-IF {X'} {v} t d d') = (v, X', t, d, d')

last_while : {N b : ℕ} {C : Settings} {X Y : World} {e : Boolean Condition} {s : Statement Condition} → Vimp N b ⇓VS C X (while e s) Y → (v : Varied Bool) × (X' : World)
    × VB⇓ N X.store (now C X) e v × Vimp N b ⇓V (C ∩ when_true v) X s X' × Vimp N b ⇓V (C ∩ when_true v) X' (while e s) Y
last_while (VS-WHILE {X'} {v} t d d') = (v, X', t, d, d')

last_choice : {N b : ℕ} {C : Settings} {X Y : World} {c : Condition} {s s' : Statement Condition} → Vimp N b ⇓VS C X (choice c s s') Y
    → (X' : World) × Vimp N b ⇓V (C ∩ holds c) X s X' × Vimp N b ⇓V (C ∩ negation (holds c)) X' s' Y
last_choice (VS-CHC {X'} d d') = (X', d, d')

last_throw : {N b : ℕ} {C : Settings} {S : Store} {l : Frame} {E : Stack} {K : Counts} {Y : World} {a : Arithmetic Condition}
    → Vimp N b ⇓VS C (world S (l ∷ E) K) (throw a) Y
    → (n : Varied ℤ) × VA⇓ N S (ctx C (l ∷ E) K) a n × (Y ≡ world S ((record { within = ctx C (l ∷ E) K; codes = n } ∷ l) ∷ E) K)
last_throw (VS-THROW {n} d) = (n, d, refl)

-- a try ends by one of two rules
data Try (N b : ℕ) (C : Settings) (X : World) (x : ℕ) (s s' : Statement Condition) (Y : World) : Type 0 where
  tried : {S' : Store} {K' : Counts} → Vimp N b ⇓V C (tried_in X) s (world S' ([] ∷ X.errors) K')
      → world S' X.errors K' ≡ Y → Try N b C X x s s' Y
  caught : {S' : Store} {e : Error} {l : Frame} {K' : Counts} → Vimp N b ⇓V C (tried_in X) s (world S' ((e ∷ l) ∷ X.errors) K')
      → Vimp N b ⇓V (catch_ctx C (e ∷ l)) (caught_in C x (e ∷ l) X.errors S' K') s' Y → Try N b C X x s s' Y

last_try : {N b : ℕ} {C : Settings} {X Y : World} {x : ℕ} {s s' : Statement Condition} → Vimp N b ⇓VS C X (try s x s') Y → Try N b C X x s s' Y
last_try (VS-TRY d) = tried d refl
last_try (VS-CATCH d d') = caught d d'

-- and a statement is begun or not
data Reached (N b : ℕ) (C : Settings) (X : World) (s : Statement Condition) (Y : World) : Type 0 where
  entered : Sat N (now C (out_of b s C X)) → Vimp N b ⇓VS C (begun_in b s C X) s Y → Reached N b C X s Y
  passed : Unsat N (now C (out_of b s C X)) → out_of b s C X ≡ Y → Reached N b C X s Y

last_v : {N b : ℕ} {C : Settings} {X : World} {s : Statement Condition} {Y : World} → Vimp N b ⇓V C X s Y → Reached N b C X s Y
last_v (V-SAT h d) = entered h d
last_v (V-UNSAT h) = passed h refl

-- ---- one world

-- a frame with an error is not the empty one
never : {A : Type 0} {S S' : Store} {e : Error} {l : Frame} {E E' : Stack} {K K' : Counts} → world S ([] ∷ E) K ≡ world S' ((e ∷ l) ∷ E') K' → A
never {A} {S} {S'} {e} {l} {E} {E'} p =
    let q : [] ∷ E ≡ (e ∷ l) ∷ E' = ap (λ W. W.errors) p in
    let z : ◌≡◌ {A = ℕ} 0 1 = cc in
    absurd (omega arith)

-- the frame on top
abbrev top : Stack → Frame
top [] = []
top (l ∷ E) = l

module _ {N b : ℕ} where
  pub unique : {j : Judgement} {C : Settings} {X Y Z : World} {s : Statement Condition} → Vimp N b j C X s Y → Vimp N b j C X s Z → Y ≡ Z
  unique {Z} (V-SAT {C} {S} {E} {K} {s} {X = Y} h d) d' = go (last_v d') (λ W e. unique d e)
    where
      go : Reached N b C (world S E K) s Z → ((W : World) → Vimp N b ⇓VS C (begun_in b s C (world S E K)) s W → Y ≡ W) → Y ≡ Z
      go (entered i e) ih = ih Z e
      go (passed i e) ih = absurd (true≢false (sym h ∙ i))
  unique {Z} (V-UNSAT {C} {S} {E} {K} {s} h) d' = go (last_v d')
    where
      go : Reached N b C (world S E K) s Z → out_of b s C (world S E K) ≡ Z
      go (entered i e) = absurd (true≢false (sym i ∙ h))
      go (passed i e) = e
  unique VS-SKIP d' = sym (last_skip d')
  unique (VS-ASSN d) d' = let r = last_assign d' in rw (value_unique d r.1) (sym r.2)
  unique {Z} (VS-SEQ {C} {s'} d e) d' =
      let r = last_sequence d' in
      unique e (subst (λ W. Vimp N b ⇓V C W s' Z) (sym (unique d r.1)) r.2)
  unique {Z} (VS-IF {C} {S} {E} {K} {s} {s'} {v} t d e) d' =
      let r = last_if d' in
      let p : v ≡ r.0 = truth_unique t r.2 in
      let q = unique d (subst (λ w. Vimp N b ⇓V (C ∩ when_true w) (world S E K) s r.1) (sym p) r.3) in
      unique e (subst₂ (λ w W. Vimp N b ⇓V (C ∩ when_false w) W s' Z) (sym p) (sym q) r.4)
  unique {Z} (VS-WHILE {C} {S} {E} {K} {e = c} {s} {v} t d e) d' =
      let r = last_while d' in
      let p : v ≡ r.0 = truth_unique t r.2 in
      let q = unique d (subst (λ w. Vimp N b ⇓V (C ∩ when_true w) (world S E K) s r.1) (sym p) r.3) in
      unique e (subst₂ (λ w W. Vimp N b ⇓V (C ∩ when_true w) W (while c s) Z) (sym p) (sym q) r.4)
  unique (VS-THROW d) d' = let r = last_throw d' in rw (value_unique d r.1) (sym r.2)
  unique {Z} (VS-TRY {C} {S} {S'} {E} {K} {K'} {x} {s} {s'} d) d' = go (last_try d') (λ W e. unique d e)
    where
      go : Try N b C (world S E K) x s s' Z → ((W : World) → Vimp N b ⇓V C (world S ([] ∷ E) K) s W → world S' ([] ∷ E) K' ≡ W) → world S' E K' ≡ Z
      go (tried e q) ih = ap (λ W. world W.store E W.counts) (ih _ e) ∙ q
      go (caught e e') ih = never (ih _ e)
  unique {Z} (VS-CATCH {C} {S} {S'} {e = f} {l} {E} {K} {K'} {X = Y} {x} {s} {s'} d e) d' = go (last_try d') (λ W i. unique d i) (λ W i. unique e i)
    where
      go : Try N b C (world S E K) x s s' Z → ((W : World) → Vimp N b ⇓V C (world S ([] ∷ E) K) s W → world S' ((f ∷ l) ∷ E) K' ≡ W)
          → ((W : World) → Vimp N b ⇓V (catch_ctx C (f ∷ l)) (caught_in C x (f ∷ l) E S' K') s' W → Y ≡ W) → Y ≡ Z
      go (tried i q) ih ih' = never (sym (ih _ i))
      go (caught i i') ih ih' = ih' Z (subst (λ W. Vimp N b ⇓V (catch_ctx C (top W.errors)) (caught_in C x (top W.errors) E W.store W.counts) s' Z) (sym (ih _ i)) i')
  unique {Z} (VS-CHC {C} {c} {s'} d e) d' =
      let r = last_choice d' in
      unique e (subst (λ W. Vimp N b ⇓V (C ∩ negation (holds c)) W s' Z) (sym (unique d r.1)) r.2)
