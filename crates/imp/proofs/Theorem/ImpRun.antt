-- What the rules of Figure 4.3 and of the cut derive is run, by induction on the derivation. The converse is `ImpStatements`.
use Rattle.std.specs.Prelude.{◌≡◌, ℕ, zero, suc, ◌+◌, ◌≤◌, Bool, false, slice_set, refl}
use Rattle.std.proofs.Common.{sym, ◌∙◌, ap, arith}
use Rattle.imp.specs.Routine.{Boolean, Statement, skip, assign, sequence, if, while, throw, try, choice}
use Rattle.imp.specs.State.{Numbers, Outcome, done, fault, out, State, store, thrown, taken, code, in_fault, live, state}
use Rattle.imp.specs.Plain.{truth, turns, handled, run}
use Rattle.imp.specs.Rules.Figure43.{Context, •, error, outcome_of, begins, S⇓, S-ERR, S-SKIP, S-ASSN, S-SEQ, S-IFT, S-IFB, S-WHILET, S-WHILEF, S-THROW, S-TRY, S-CATCH}
use Rattle.imp.specs.Rules.CutOff.{C⇓, C-SPENT, C-SEQ1, C-SEQ2, C-IFT, C-IFB, C-WHILE1, C-WHILE2, C-TRY, C-CATCH}
use Rattle.imp.proofs.Theorem.Begin as Begin
use Rattle.imp.proofs.Theorem.Begin.{runs_out, begun_dead}
use Rattle.imp.proofs.Theorem.WhilePlain.{while_again}
use Rattle.imp.proofs.Theorem.ImpExpressions.{value_derived, truth_derived}

-- ---- what is not live passes a statement by

pub passes : (b : ℕ) (s : Statement ⊥) (S : Numbers) (E : Outcome) (k : ℕ) → live E ≡ false → run b s (state S E k) ≡ state S E k
unfolding run turns
passes b skip S E k e = begun_dead b _ S E k e
passes b (assign v a) S E k e = begun_dead b _ S E k e
passes b (sequence x y) S E k e = begun_dead b _ S E k e
passes b (if t x y) S E k e = begun_dead b _ S E k e
passes b (while t x) S E k e = begun_dead b _ S E k e
passes b (throw a) S E k e = begun_dead b _ S E k e
passes b (try x v y) S E k e = begun_dead b _ S E k e
passes b (choice c x y) S E k e = absurd c

pub turns_pass : (m b : ℕ) (t : State → Bool) (g : State → State) (S : Numbers) (E : Outcome) (k : ℕ) → live E ≡ false → turns m b t g (state S E k) ≡ state S E k
unfolding turns
turns_pass zero b t g S E k e = refl
turns_pass (suc m) b t g S E k e = begun_dead b _ S E k e

-- ---- what is live with its budget spent is out at any statement

pub spent_out : (b : ℕ) (s : Statement ⊥) (S : Numbers) (k : ℕ) → b ≤ k → run b s (state S done k) ≡ state S out k
unfolding run turns
spent_out b skip S k h = runs_out b _ S k h
spent_out b (assign v a) S k h = runs_out b _ S k h
spent_out b (sequence x y) S k h = runs_out b _ S k h
spent_out b (if t x y) S k h = runs_out b _ S k h
spent_out b (while t x) S k h = runs_out b _ S k h
spent_out b (throw a) S k h = runs_out b _ S k h
spent_out b (try x v y) S k h = runs_out b _ S k h
spent_out b (choice c x y) S k h = absurd c

-- ---- what the rules derive is run

-- the rules that the thesis states for any error context E: begun in none, passed by in an error
skip_run : (E : Context) (S : Numbers) (b n m : ℕ) → n + begins E ≡ m → m ≤ b → run b skip (state S (outcome_of E) n) ≡ state S (outcome_of E) m
unfolding run begins outcome_of live
skip_run • S b n m q h = Begin.begins b _ S n (omega arith) ∙ ap (state S done) (omega arith)
skip_run (error f) S b n m q h = passes b skip S (fault f) n refl ∙ ap (state S (fault f)) (omega arith)

seq_run : (E : Context) (S : Numbers) (s s' : Statement ⊥) (b n j : ℕ) (σ σ' : State) → n + begins E ≡ j → j ≤ b
    → run b s (state S (outcome_of E) j) ≡ σ → run b s' σ ≡ σ' → run b (sequence s s') (state S (outcome_of E) n) ≡ σ'
unfolding run begins outcome_of live
seq_run • S s s' b n j σ σ' q h d d' =
    Begin.begins b _ S n (omega arith) ∙ ap (run b s') (ap (λ i. run b s (state S done i)) (omega arith) ∙ d) ∙ d'
seq_run (error f) S s s' b n j σ σ' q h d d' =
    passes b (sequence s s') S (fault f) n refl ∙ ap (state S (fault f)) (omega arith)
    ∙ sym (passes b s' S (fault f) j refl) ∙ ap (run b s') (sym (passes b s S (fault f) j refl) ∙ d) ∙ d'

whilef_run : (E : Context) (S : Numbers) (e : Boolean ⊥) (s : Statement ⊥) (b n m : ℕ) → truth e S ≡ false → n + begins E ≡ m → m ≤ b
    → run b (while e s) (state S (outcome_of E) n) ≡ state S (outcome_of E) m
unfolding begins outcome_of live
whilef_run • S e s b n m t q h = while_again b e s _ ∙ Begin.begins b _ S n (omega arith) ∙ rw t (ap (state S done) (omega arith))
whilef_run (error f) S e s b n m t q h = passes b (while e s) S (fault f) n refl ∙ ap (state S (fault f)) (omega arith)

pub derived : {E E' : Context} {S S' : Numbers} {s : Statement ⊥} {k : ℕ} → S⇓ E S s E' S' k → (b n m : ℕ) → n + k ≡ m → m ≤ b
    → run b s (state S (outcome_of E) n) ≡ state S' (outcome_of E') m
unfolding run store thrown handled taken code in_fault outcome_of live
derived (S-ERR {n = f} {S} {s}) b n m q h = passes b s S (fault f) n refl ∙ ap (state S (fault f)) (omega arith)
derived (S-SKIP {E} {S}) b n m q h = skip_run E S b n m q h
derived (S-ASSN {S} {x} {n = f} d) b n m q h = Begin.begins b _ S n (omega arith) ∙ rw (value_derived d) (ap (state (slice_set S x f) done) (omega arith))
derived (S-SEQ {E} {S} {s} {s'} {k} d d') b n m q h = seq_run E S s s' b n (n + begins E) _ _ refl (omega arith)
    (derived d b (n + begins E) (n + begins E + k) refl (omega arith)) (derived d' b (n + begins E + k) m (omega arith) h)
derived (S-IFT {S} e d) b n m q h = Begin.begins b _ S n (omega arith) ∙ rw (truth_derived e) (derived d b (suc n) m (omega arith) h)
derived (S-IFB {S} e d) b n m q h = Begin.begins b _ S n (omega arith) ∙ rw (truth_derived e) (derived d b (suc n) m (omega arith) h)
derived (S-WHILET {S} {e = t} {s} {k} e d d') b n m q h = while_again b t s _ ∙ Begin.begins b _ S n (omega arith)
    ∙ rw (truth_derived e) (ap (run b (while t s)) (derived d b (suc n) (suc n + k) refl (omega arith)) ∙ derived d' b (suc n + k) m (omega arith) h)
derived (S-WHILEF {E} {S} {e = t} {s} e) b n m q h = whilef_run E S t s b n m (truth_derived e) q h
derived (S-THROW {S} {n = f} d) b n m q h = Begin.begins b _ S n (omega arith) ∙ rw (value_derived d) (ap (state S (fault f)) (omega arith))
derived (S-TRY {S} {s'} {x} d) b n m q h = Begin.begins b _ S n (omega arith) ∙ ap (handled x (run b s')) (derived d b (suc n) m (omega arith) h)
derived (S-CATCH {S} {s'} {x} {k} d d') b n m q h = Begin.begins b _ S n (omega arith)
    ∙ ap (handled x (run b s')) (derived d b (suc n) (suc n + k) refl (omega arith)) ∙ derived d' b (suc n + k) m (omega arith) h

-- what the rules of a cut derive is out, with the whole budget used
pub cut : {S S' : Numbers} {s : Statement ⊥} {r : ℕ} → C⇓ S s S' r → (b n : ℕ) → n + r ≡ b → run b s (state S done n) ≡ state S' out b
unfolding run handled taken code in_fault outcome_of live
cut (C-SPENT {S} {s}) b n q = spent_out b s S n (omega arith) ∙ ap (state S out) (omega arith)
cut (C-SEQ1 {S} {S'} {s'} c) b n q = Begin.begins b _ S n (omega arith) ∙ ap (run b s') (cut c b (suc n) (omega arith)) ∙ passes b s' S' out b refl
cut (C-SEQ2 {S} {s'} {k} d c) b n q = Begin.begins b _ S n (omega arith)
    ∙ ap (run b s') (derived d b (suc n) (suc n + k) refl (omega arith)) ∙ cut c b (suc n + k) (omega arith)
cut (C-IFT {S} e c) b n q = Begin.begins b _ S n (omega arith) ∙ rw (truth_derived e) (cut c b (suc n) (omega arith))
cut (C-IFB {S} e c) b n q = Begin.begins b _ S n (omega arith) ∙ rw (truth_derived e) (cut c b (suc n) (omega arith))
cut (C-WHILE1 {S} {S'} {e = t} {s} e c) b n q = while_again b t s _ ∙ Begin.begins b _ S n (omega arith)
    ∙ rw (truth_derived e) (ap (run b (while t s)) (cut c b (suc n) (omega arith)) ∙ passes b (while t s) S' out b refl)
cut (C-WHILE2 {S} {e = t} {s} {k} e d c) b n q = while_again b t s _ ∙ Begin.begins b _ S n (omega arith)
    ∙ rw (truth_derived e) (ap (run b (while t s)) (derived d b (suc n) (suc n + k) refl (omega arith)) ∙ cut c b (suc n + k) (omega arith))
cut (C-TRY {S} {s'} {x} c) b n q = Begin.begins b _ S n (omega arith) ∙ ap (handled x (run b s')) (cut c b (suc n) (omega arith))
cut (C-CATCH {S} {s'} {x} {k} d c) b n q = Begin.begins b _ S n (omega arith)
    ∙ ap (handled x (run b s')) (derived d b (suc n) (suc n + k) refl (omega arith)) ∙ cut c b (suc n + k) (omega arith)
