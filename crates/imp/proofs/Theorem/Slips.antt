-- "Slips we have seen", each ruled out for every routine, set and start; and a spent setting that is not made out.
-- The idea: a setting's end is its own (`Agreement`), so each slip would break a law of the plain run.
use Rattle.std.specs.Prelude.{◌≡◌, ℕ, suc, ◌<◌, ◌≤◌, Bool, true, false, cond, not, ◌&&◌, ℤ, pos, ◌≢◌, slice_set, refl}
use Rattle.std.proofs.Math.Path.{sym, ap, ap₂, fun_ext}
use Rattle.std.proofs.Common.{◌∙◌, arith}
use Rattle.imp.specs.Condition.{Condition, holds}
use Rattle.imp.specs.Routine.{Arithmetic, Boolean, Statement, while, throw, try, choice}
use Rattle.imp.specs.Configure.{configure}
use Rattle.imp.specs.State.{branch, Numbers, Outcome, idle, done, fault, out, outcome_number, code, State, in_fault, thrown, taken, ready, enter, state}
use Rattle.imp.specs.Plain as Plain
use Rattle.imp.specs.Plain.{handled, run}
use Rattle.imp.specs.Shared.{value_in, truth_in, Settings, Shared, for, visited, where_true, shared}
use Rattle.imp.proofs.Theorem.Sets.{same_cond}
use Rattle.imp.proofs.Theorem.Begin.{begun_yes, begun_no, begins, live_entered}
use Rattle.imp.proofs.Theorem.Agreement.{value_agrees, truth_agrees, agrees}
use Rattle.imp.proofs.Theorem.WhilePlain.{while_again}
use Rattle.imp.proofs.Theorem.WhileShared.{left, reached}
use Rattle.imp.proofs.Theorem.ImpRun.{passes, spent_out}
use Rattle.imp.proofs.Theorem.Live.{none_runs}

-- ---- what a handler does, by how the body has ended

not_fault : (E : Outcome) → ((n : ℤ) → E ≢ fault n) → in_fault E ≡ false
unfolding in_fault
not_fault idle none = refl
not_fault done none = refl
not_fault (fault n) none = absurd (none n refl)
not_fault out none = refl

not_handled : (v : ℕ) (g : State → State) (σ : State) → ((n : ℤ) → σ.outcome ≢ fault n) → handled v g σ ≡ σ
unfolding handled
not_handled v g σ none = rw (not_fault σ.outcome none, handled)

handled_from : (v : ℕ) (g : State → State) (σ : State) (n : ℤ) → σ.outcome ≡ fault n → handled v g σ ≡ g (state (slice_set σ.numbers v n) done σ.steps)
unfolding handled in_fault taken code
handled_from v g σ n e = rw (e, handled)

out_no_fault : (E : Outcome) → E ≡ out → (n : ℤ) → E ≢ fault n
out_no_fault E e n f = let z : ◌≡◌ {A = ℕ} 0 1 = cc in omega arith

-- what is done for a setting in two parts, once it is begun
in_turn : {A : Type 0} (c r : Bool) (f g : A → A) (e x : A)
    → (let y : A = cond (c && r) (f (cond c e x)) (cond c e x) in
    cond c (branch r (λ z. g (f z)) (λ z. z) e) x ≡ cond (c && r) (g y) y)
in_turn true true f g e x = refl
in_turn true false f g e x = refl
in_turn false r f g e x = refl

-- "A try that catches out-of-steps.": where the body ends out, that is the try's end
pub out_is_not_caught : (b : ℕ) (x : Statement ⊥) (v : ℕ) (y : Statement ⊥) (σ : State) → (run b x (enter b σ)).outcome ≡ out
    → run b (try x v y) σ ≡ run b x (enter b σ)
unfolding run
out_is_not_caught b x v y σ e = go (ready b σ) refl
  where
    go : (r : Bool) → ready b σ ≡ r → run b (try x v y) σ ≡ run b x (enter b σ)
    go true p = begun_yes b _ σ p ∙ not_handled v (run b y) _ (out_no_fault _ e)
    go false p = begun_no b _ σ p ∙ sym (passes b x _ _ _ (live_entered b σ ∙ p))

-- ---- a try, in a setting s

module _ (N b s : ℕ) (h : s < N) (S : Settings) (Σ : Shared) (x : Statement Condition) (v : ℕ) (y : Statement Condition) where
  -- the end of the body, run for the settings that begin the try, and the end of the try
  abbrev body_end : State
  body_end = (shared N b x (left N b S Σ) (reached N b S Σ)).at s

  abbrev try_end : State
  try_end = (shared N b (try x v y) S Σ).at s

  tried : try_end ≡ cond (left N b S Σ s) (handled v (run b (configure s y)) body_end) body_end
  unfolding run configure Plain.begun left where_true reached visited for
  tried = (agrees N b s h (try x v y)).agree S Σ ∙ rw ((agrees N b s h x).agree (left N b S Σ) (reached N b S Σ))
      (in_turn (S s) (ready b (Σ.at s)) (run b (configure s x)) (handled v (run b (configure s y))) (enter b (Σ.at s)) (Σ.at s))

  -- "A handler run for all live settings of its try, not just those that faulted.": where the body did not end in fault its end is the try's
  pub handler_only_for_faults : ((n : ℤ) → body_end.outcome ≢ fault n) → try_end ≡ body_end
  handler_only_for_faults none = tried ∙ rw (not_handled v (run b (configure s y)) body_end none) (sym (same_cond (left N b S Σ s) body_end))

  -- and one that began the try and whose body ended in fault n runs the handler, with n stored and the fault cleared
  pub handler_for_each_fault : left N b S Σ s ≡ true → (n : ℤ) → body_end.outcome ≡ fault n
      → try_end ≡ run b (configure s y) (state (slice_set body_end.numbers v n) done body_end.steps)
  handler_for_each_fault l n e = tried ∙ rw l (handled_from v (run b (configure s y)) body_end n e)

  -- "A try that catches out-of-steps."
  pub out_is_not_caught_in_setting : body_end.outcome ≡ out → try_end ≡ body_end
  out_is_not_caught_in_setting e = handler_only_for_faults (out_no_fault _ e)

-- ---- a choice

meets_all : (a b : Bool) → (a ≡ true → b ≡ true) → a && b ≡ a
meets_all true b h = h refl
meets_all false b h = refl

meets_none : (a b : Bool) → (a ≡ true → b ≡ false) → a && b ≡ false
meets_none true b h = h refl
meets_none false b h = refl

module _ (N b : ℕ) (c : Condition) (x y : Statement Condition) (S : Settings) (Σ : Shared) where
  -- "A choice charged a step, so that plain and shared counts part.": each setting ends as in the part that its condition chooses
  pub choice_is_free_in_setting : (s : ℕ) → s < N → (shared N b (choice c x y) S Σ).at s ≡ (shared N b (cond (holds c s) x y) S Σ).at s
  unfolding configure
  choice_is_free_in_setting s h = (agrees N b s h (choice c x y)).agree S Σ ∙ go (holds c s)
    where
      go : (u : Bool) → cond (S s) (run b (cond u (configure s x) (configure s y)) (Σ.at s)) (Σ.at s) ≡ (shared N b (cond u x y) S Σ).at s
      go true = sym ((agrees N b s h x).agree S Σ)
      go false = sym ((agrees N b s h y).agree S Σ)

  -- and a choice whose condition every setting of the set satisfies is its first part, step for step and visit for visit
  pub choice_is_free : ((s : ℕ) → S s ≡ true → holds c s ≡ true) → shared N b (choice c x y) S Σ ≡ shared N b x S Σ
  unfolding shared
  choice_is_free all = ap₂ (λ P Q. shared N b y Q (shared N b x P Σ))
      (fun_ext λ s. meets_all (S s) (holds c s) (all s)) (fun_ext λ s. meets_none (S s) (not (holds c s)) λ e. ap not (all s e))
      ∙ none_runs N b y _

  -- with none that satisfies it, its second
  pub choice_is_free_else : ((s : ℕ) → S s ≡ true → holds c s ≡ false) → shared N b (choice c x y) S Σ ≡ shared N b y S Σ
  unfolding shared
  choice_is_free_else none = ap₂ (λ P Q. shared N b y Q (shared N b x P Σ))
      (fun_ext λ s. meets_none (S s) (holds c s) (none s)) (fun_ext λ s. meets_all (S s) (not (holds c s)) λ e. ap not (none s e))
      ∙ ap (shared N b y S) (none_runs N b x Σ)

-- ---- one setting beside others

-- "One fault flag for all settings": a setting ends the same from every start in which it is the same, whatever the others are and do
pub one_flag_a_setting : (N b s : ℕ) → s < N → (t : Statement Condition) (S S' : Settings) (Σ Σ' : Shared) → S s ≡ S' s → Σ.at s ≡ Σ'.at s
    → (shared N b t S Σ).at s ≡ (shared N b t S' Σ').at s
one_flag_a_setting N b s h t S S' Σ Σ' p q = (agrees N b s h t).agree S Σ ∙ rw (p, q) (sym ((agrees N b s h t).agree S' Σ'))

-- a live setting of the set, with its numbers and its steps
module _ (N b s : ℕ) (h : s < N) (S : Settings) (Σ : Shared) (i : S s ≡ true) (ns : Numbers) (k : ℕ) (stands : Σ.at s ≡ state ns done k) where
  abbrev end : Statement Condition → State
  end t = (shared N b t S Σ).at s

  own : (t : Statement Condition) → end t ≡ run b (configure s t) (state ns done k)
  own t = (agrees N b s h t).agree S Σ ∙ rw (i, stands)

  -- "fault 0 read as no fault": a throw of 0 ends in outcome 2, fault, with code 0
  pub fault_zero_is_a_fault : (a : Arithmetic Condition) → k < b → value_in s a ns ≡ pos 0
      → (outcome_number (end (throw a)).outcome ≡ 2) × (code (end (throw a)).outcome ≡ pos 0)
  unfolding run configure thrown outcome_number code
  fault_zero_is_a_fault a l e = rw (own (throw a) ∙ begins b _ ns k l, sym (value_agrees s a ns) ∙ e) (refl, refl)

  -- and a try around it runs its handler, with 0 stored
  pub fault_zero_is_caught : (a : Arithmetic Condition) (v : ℕ) (y : Statement Condition) → suc k < b → value_in s a ns ≡ pos 0
      → end (try (throw a) v y) ≡ run b (configure s y) (state (slice_set ns v (pos 0)) done (suc (suc k)))
  unfolding run configure thrown
  fault_zero_is_caught a v y l e = own (try (throw a) v y) ∙ begins b _ ns k (omega arith)
      ∙ ap (handled v (run b (configure s y))) (begins b _ ns (suc k) l)
      ∙ handled_from v (run b (configure s y)) _ (pos 0) (ap fault (sym (value_agrees s a ns) ∙ e))

  -- "A setting that left a loop taken in again at the next test.": the test that is false is a setting's last, however long the others stay
  pub left_stays_left : (e : Boolean Condition) (x : Statement Condition) → k < b → truth_in s e ns ≡ false → end (while e x) ≡ state ns done (suc k)
  unfolding configure
  left_stays_left e x l f = own (while e x) ∙ while_again b _ _ _ ∙ begins b _ ns k l ∙ rw (sym (truth_agrees s e ns) ∙ f)

  -- a spent setting not made out: at any statement it ends out, with its numbers and steps as they stood
  pub spent_is_out : (t : Statement Condition) → b ≤ k → end t ≡ state ns out k
  spent_is_out t l = own t ∙ spent_out b (configure s t) ns k l
