-- Figure 4.3 (condition 2): the plain run ends done, or in fault n, with k steps exactly when the rules derive that with k within the budget; it ends
-- out exactly when they derive nothing within the budget, and then leaves what the rules of a cut derive; what the rules derive is unique.
-- The idea: from a live start a run ends by a rule or is cut off, by induction on the tree.
use Rattle.std.specs.Prelude.{◌≡◌, ℕ, zero, suc, ◌+◌, ◌<◌, ◌≤◌, Bool, true, false, ◌↔◌, ◌≢◌, slice_set}
use Rattle.std.proofs.Math.Path.{refl, sym, ap}
use Rattle.std.proofs.Common.{◌∙◌}
use native.Mathlib.Omega.{arith}
use Rattle.std.proofs.Math.Decide.{dec_lt}
use Rattle.imp.specs.Routine.{Boolean, Statement, skip, assign, sequence, if, while, throw, try, choice}
use Rattle.imp.specs.State.{branch, Numbers, done, fault, out, State, store, thrown, taken, code, in_fault, live, fresh, state}
use Rattle.imp.specs.Plain.{truth, begun, turns, handled, run, plain_run}
use Rattle.imp.specs.Rules.Figure42.{B⇓}
use Rattle.imp.specs.Rules.Figure43.{Context, •, error, outcome_of, begins, S⇓, S-ERR, S-SKIP, S-ASSN, S-SEQ, S-IFT, S-IFB, S-WHILET, S-WHILEF, S-THROW, S-TRY, S-CATCH}
use Rattle.imp.specs.Rules.CutOff.{C⇓, C-SPENT, C-SEQ1, C-SEQ2, C-IFT, C-IFB, C-WHILE1, C-WHILE2, C-TRY, C-CATCH}
use Rattle.imp.proofs.Theorem.Begin as Begin
use Rattle.imp.proofs.Theorem.Begin.{runs_out}
use Rattle.imp.proofs.Theorem.ImpExpressions.{derives_value, truth_is_derived}
use Rattle.imp.proofs.Theorem.ImpRun.{passes, turns_pass, derived, cut}

-- ---- what is run is derived, or cut off

-- s, begun from S after n steps, ends by the rules within the budget b, or is cut off
pub data Ended (b : ℕ) (s : Statement ⊥) (S : Numbers) (n : ℕ) : State → Type 0 where
  by_rule : (E : Context) (m : ℕ) {S' : Numbers} {k : ℕ} → S⇓ • S s E S' k → n + k ≡ m → m ≤ b → Ended b s S n (state S' (outcome_of E) m)
  cut_off : {S' : Numbers} {r : ℕ} → C⇓ S s S' r → n + r ≡ b → Ended b s S n (state S' out b)

-- f, from any live start, ends as s does
abbrev Ends : ℕ → Statement ⊥ → (State → State) → Type 0
Ends b s f = (S : Numbers) (n : ℕ) → n ≤ b → Ended b s S n (f (state S done n))

at_begin : (b : ℕ) (s : Statement ⊥) (f : State → State) (S : Numbers) (n : ℕ) → n ≤ b
    → (n < b → Ended b s S n (f (state S done (suc n)))) → Ended b s S n (begun b f (state S done n))
at_begin b s f S n h k = go (dec_lt n b)
  where
    spent : n ≡ b → Ended b s S n (state S out n)
    spent e = rw e (cut_off C-SPENT (omega arith))

    go : Dec (n < b) → Ended b s S n (begun b f (state S done n))
    go (yes p) = rw (Begin.begins b f S n p) (k p)
    go (no p) = rw (runs_out b f S n (omega arith)) (spent (omega arith))

module _ (b : ℕ) where
  -- a part that runs as the whole does, one step later
  if_ended : (e : Boolean ⊥) (x y : Statement ⊥) (S : Numbers) (n : ℕ) → suc n ≤ b → Ends b x (run b x) → Ends b y (run b y)
      → (u : Bool) → B⇓ S e u → Ended b (if e x y) S n (branch u (run b x) (run b y) (state S done (suc n)))
  if_ended e x y S n h c d true t = go (c S (suc n) h)
    where
      go : {σ : State} → Ended b x S (suc n) σ → Ended b (if e x y) S n σ
      go (by_rule E m r q p) = by_rule E m (S-IFT t r) (omega arith) p
      go (cut_off r q) = cut_off (C-IFT t r) (omega arith)
  if_ended e x y S n h c d false t = go (d S (suc n) h)
    where
      go : {σ : State} → Ended b y S (suc n) σ → Ended b (if e x y) S n σ
      go (by_rule E m r q p) = by_rule E m (S-IFB t r) (omega arith) p
      go (cut_off r q) = cut_off (C-IFB t r) (omega arith)

  -- the second part of a sequence, from what the first has left
  second_ended : (x y : Statement ⊥) (S : Numbers) (n : ℕ) → Ends b y (run b y) → (E : Context) {S' : Numbers} {k m : ℕ}
      → S⇓ • S x E S' k → suc n + k ≡ m → m ≤ b → Ended b (sequence x y) S n (run b y (state S' (outcome_of E) m))
  unfolding outcome_of live begins
  second_ended x y S n c • {S'} {k} {m} r q h = go (c S' m h)
    where
      go : {σ : State} → Ended b y S' m σ → Ended b (sequence x y) S n σ
      go (by_rule E' m' r' q' h') = by_rule E' m' (S-SEQ r r') (omega arith) h'
      go (cut_off r' q') = cut_off (C-SEQ2 r r') (omega arith)
  second_ended x y S n c (error f) {S'} {k} {m} r q h = rw (passes b y S' (fault f) m refl) (by_rule (error f) m (S-SEQ r S-ERR) (omega arith) h)

  seq_ended : (x y : Statement ⊥) (S : Numbers) (n : ℕ) {σ : State} → Ends b y (run b y) → Ended b x S (suc n) σ → Ended b (sequence x y) S n (run b y σ)
  unfolding live
  seq_ended x y S n c (by_rule E m r q h) = second_ended x y S n c E r q h
  seq_ended x y S n c (cut_off {S'} r q) = rw (passes b y S' out b refl) (cut_off (C-SEQ1 r) (omega arith))

  -- the handler, from what the body has left
  handler_ended : (x : Statement ⊥) (v : ℕ) (y : Statement ⊥) (S : Numbers) (n : ℕ) → Ends b y (run b y) → (E : Context) {S' : Numbers} {k m : ℕ}
      → S⇓ • S x E S' k → suc n + k ≡ m → m ≤ b → Ended b (try x v y) S n (handled v (run b y) (state S' (outcome_of E) m))
  unfolding handled taken code in_fault outcome_of
  handler_ended x v y S n c • {m} r q h = by_rule • m (S-TRY r) (omega arith) h
  handler_ended x v y S n c (error f) {S'} {k} {m} r q h = go (c (slice_set S' v f) m h)
    where
      go : {σ : State} → Ended b y (slice_set S' v f) m σ → Ended b (try x v y) S n σ
      go (by_rule E' m' r' q' h') = by_rule E' m' (S-CATCH r r') (omega arith) h'
      go (cut_off r' q') = cut_off (C-CATCH r r') (omega arith)

  try_ended : (x : Statement ⊥) (v : ℕ) (y : Statement ⊥) (S : Numbers) (n : ℕ) {σ : State} → Ends b y (run b y) → Ended b x S (suc n) σ
      → Ended b (try x v y) S n (handled v (run b y) σ)
  unfolding handled in_fault
  try_ended x v y S n c (by_rule E m r q h) = handler_ended x v y S n c E r q h
  try_ended x v y S n c (cut_off r q) = cut_off (C-TRY r) (omega arith)

  -- the tests of a while, each with more budget behind it
  module _ (e : Boolean ⊥) (x : Statement ⊥) (c : Ends b x (run b x)) where
    test : State → Bool
    test σ = truth e σ.numbers

    abbrev Later : ℕ → ℕ → Type 0
    Later j n = (S : Numbers) (m : ℕ) → m ≤ b → n < m → Ended b (while e x) S m (turns j b test (run b x) (state S done m))

    next_ended : (j : ℕ) (S : Numbers) (n : ℕ) → B⇓ S e true → Later j n → (E : Context) {S' : Numbers} {k m : ℕ}
        → S⇓ • S x E S' k → suc n + k ≡ m → m ≤ b → Ended b (while e x) S n (turns j b test (run b x) (state S' (outcome_of E) m))
    unfolding outcome_of live
    next_ended j S n t d • {S'} {k} {m} r q h = go (d S' m h (omega arith))
      where
        go : {σ : State} → Ended b (while e x) S' m σ → Ended b (while e x) S n σ
        go (by_rule E' m' r' q' h') = by_rule E' m' (S-WHILET t r r') (omega arith) h'
        go (cut_off r' q') = cut_off (C-WHILE2 t r r') (omega arith)
    next_ended j S n t d (error f) {S'} {k} {m} r q h = rw (turns_pass j b test (run b x) S' (fault f) m refl) (by_rule (error f) m (S-WHILET t r S-ERR) (omega arith) h)

    turn_ended : (j : ℕ) (S : Numbers) (n : ℕ) {σ : State} → B⇓ S e true → Later j n → Ended b x S (suc n) σ
        → Ended b (while e x) S n (turns j b test (run b x) σ)
    unfolding live
    turn_ended j S n t d (by_rule E m r q h) = next_ended j S n t d E r q h
    turn_ended j S n t d (cut_off {S'} r q) = rw (turns_pass j b test (run b x) S' out b refl) (cut_off (C-WHILE1 t r) (omega arith))

    turns_ended : (j : ℕ) (S : Numbers) (n : ℕ) → n ≤ b → b ≤ j + n → Ended b (while e x) S n (turns (suc j) b test (run b x) (state S done n))
    unfolding turns test begins outcome_of
    turns_ended zero S n h k = at_begin b _ _ S n h λ p. let z : ⊥ = omega arith in absurd z
    turns_ended (suc j) S n h k = at_begin b _ _ S n h λ p. go p (truth e S) ((truth_is_derived e S _).0 refl) (λ S₁ m i l. turns_ended j S₁ m i (omega arith))
      where
        go : n < b → (u : Bool) → B⇓ S e u → Later (suc j) n
            → Ended b (while e x) S n (branch u (λ σ. turns (suc j) b test (run b x) (run b x σ)) (λ σ. σ) (state S done (suc n)))
        go p true t d = turn_ended (suc j) S n t d (c S (suc n) p)
        go p false t d = by_rule • (suc n) (S-WHILEF t) (omega arith) p

pub complete : (b : ℕ) (s : Statement ⊥) → Ends b s (run b s)
unfolding run store thrown test begins outcome_of
complete b skip S n h = at_begin b _ _ S n h λ p. by_rule • (suc n) S-SKIP (omega arith) p
complete b (assign v a) S n h = at_begin b _ _ S n h λ p. by_rule • (suc n) (S-ASSN (derives_value a S)) (omega arith) p
complete b (sequence x y) S n h = at_begin b _ _ S n h λ p. seq_ended b x y S n (complete b y) (complete b x S (suc n) p)
complete b (if e x y) S n h = at_begin b _ _ S n h λ p. if_ended b e x y S n p (complete b x) (complete b y) (truth e S) ((truth_is_derived e S _).0 refl)
complete b (while e x) S n h = turns_ended b e x (complete b x) b S n h (omega arith)
complete b (throw a) S n h = at_begin b _ _ S n h λ p. by_rule (error _) (suc n) (S-THROW (derives_value a S)) (omega arith) p
complete b (try x v y) S n h = at_begin b _ _ S n h λ p. try_ended b x v y S n (complete b y) (complete b x S (suc n) p)
complete b (choice c x y) S n h = absurd c

-- ---- the theorems, of a run from its start

pub not_out : (E : Context) → outcome_of E ≢ out
unfolding outcome_of
not_out • e = let z : ◌≡◌ {A = ℕ} 0 1 = cc in omega arith
not_out (error n) e = let z : ◌≡◌ {A = ℕ} 0 1 = cc in omega arith

outcome_inj : (E E' : Context) → outcome_of E ≡ outcome_of E' → E ≡ E'
unfolding outcome_of
outcome_inj • • e = refl
outcome_inj • (error n) e = let z : ◌≡◌ {A = ℕ} 0 1 = cc in absurd (omega arith)
outcome_inj (error n) • e = let z : ◌≡◌ {A = ℕ} 0 1 = cc in absurd (omega arith)
outcome_inj (error n) (error m) e = cc

module _ (b : ℕ) (s : Statement ⊥) (S : Numbers) where
  -- it ends in E' with S' and k steps exactly when the rules derive that, with k within the budget
  pub run_is_derived : (E' : Context) (S' : Numbers) (k : ℕ)
      → (plain_run b s S ≡ state S' (outcome_of E') k) ↔ (S⇓ • S s E' S' k × (k ≤ b))
  unfolding plain_run fresh outcome_of
  run_is_derived E' S' k = (λ e. go _ e (complete b s S 0 (omega arith)), λ p. derived p.0 b 0 k (omega arith) p.1)
    where
      go : (σ : State) → σ ≡ state S' (outcome_of E') k → Ended b s S 0 σ → S⇓ • S s E' S' k × (k ≤ b)
      go σ e (by_rule E m {S' = T} {k = j} r q h) =
          let e₁ : E ≡ E' = outcome_inj E E' (ap (λ σ. σ.outcome) e) in
          let e₂ : T ≡ S' = ap (λ σ. σ.numbers) e in
          let e₃ : m ≡ k = ap (λ σ. σ.steps) e in
          let e₄ : j ≡ k = omega arith in
          (rw (e₁, e₂, e₄) at r, omega arith)
      go σ e (cut_off r q) = absurd (not_out E' (sym (ap (λ σ. σ.outcome) e)))

  -- it ends out with S' and k steps exactly when the rules of a cut derive S' for that budget, and k is all of it
  pub run_is_cut : (S' : Numbers) (k : ℕ) → (plain_run b s S ≡ state S' out k) ↔ (C⇓ S s S' b × (k ≡ b))
  unfolding plain_run fresh
  run_is_cut S' k = (λ e. go _ e (complete b s S 0 (omega arith)), λ p. cut p.0 b 0 (omega arith) ∙ ap (state S' out) (sym p.1))
    where
      go : (σ : State) → σ ≡ state S' out k → Ended b s S 0 σ → C⇓ S s S' b × (k ≡ b)
      go σ e (by_rule E m r q h) = absurd (not_out E (ap (λ σ. σ.outcome) e))
      go σ e (cut_off {S' = T} {r = j} r q) =
          let e₁ : T ≡ S' = ap (λ σ. σ.numbers) e in
          let e₂ : j ≡ b = omega arith in
          (rw (e₁, e₂) at r, sym (ap (λ σ. σ.steps) e))

  -- it ends out exactly when the rules derive nothing within the budget
  pub out_is_underivable : ((plain_run b s S).outcome ≡ out) ↔ ((E' : Context) (S' : Numbers) (k : ℕ) → S⇓ • S s E' S' k → k ≤ b → ⊥)
  unfolding plain_run fresh
  out_is_underivable = (λ e E' S' k d h. not_out E' (sym (ap (λ σ. σ.outcome) ((run_is_derived E' S' k).1 (d, h))) ∙ e), λ none. go _ none (complete b s S 0 (omega arith)))
    where
      go : (σ : State) → ((E' : Context) (S' : Numbers) (k : ℕ) → S⇓ • S s E' S' k → k ≤ b → ⊥) → Ended b s S 0 σ → σ.outcome ≡ out
      go σ none (by_rule E m {S'} {k} r q h) = absurd (none E S' k r (omega arith))
      go σ none (cut_off r q) = refl

-- what the rules derive from a start is one thing
pub derived_unique : {E E' E'' : Context} {S S' S'' : Numbers} {s : Statement ⊥} {k k' : ℕ} → S⇓ E S s E' S' k → S⇓ E S s E'' S'' k'
    → (E' ≡ E'') × (S' ≡ S'') × (k ≡ k')
derived_unique {E} {E'} {E''} {S} {S'} {S''} {s} {k} {k'} d d' =
    let same : state S' (outcome_of E') k ≡ state S'' (outcome_of E'') k' =
    sym (derived d (k + k') 0 k (omega arith) (omega arith)) ∙ derived d' (k + k') 0 k' (omega arith) (omega arith) in
    (outcome_inj E' E'' (ap (λ σ. σ.outcome) same), ap (λ σ. σ.numbers) same, ap (λ σ. σ.steps) same)
