-- A statement's beginning, in numbers: what `begin` returns is the state after `enter`, and its outcome says whether the statement is run.
use mathlib.Core.Path.{◌≡◌, refl, sym, ◌∙◌, ap}
use mathlib.Core.Bool.{true, false}
use Prim.Native.Nat.{ℕ, zero, suc, ◌+◌, ◌≤◌, ◌<◌}
use native.Mathlib.Omega.{arith}
use lib.Dec.{eqb}
use lib.IntN.{ℤ, pos}
use borrow.Author.Tests.{eq-eqb, ne_eqb, lt-ltb, le-ltb}
use Rattle.imp.specs.Routine.{Statement, skip, assign, sequence, if, while, throw, try, choice}
use Rattle.imp.specs.State.{Numbers, State, outcome_number, code, live, in_fault, ready, spent, enter}
use Rattle.imp.specs.Plain.{begun, turns, run}
use Rattle.imp.proofs.Theorem.Begin.{begun_yes, begun_no, live_entered, enter_dead, enter_steps, ready_lt}
use Rattle.plain.specs.declared.progress.Progress.{Progress}
use Rattle.plain.specs.Inner.Progress.{outcome_from, state_of, Proper}
use Rattle.plain.specs.Inner.Running.{Began}

-- the outcome's number tells what is live, and what is in fault
pub live_is : (o : ℕ) (c : ℤ) → live (outcome_from o c) ≡ eqb o 1
unfolding live outcome_from
live_is zero c = refl
live_is (suc zero) c = refl
live_is (suc (suc zero)) c = refl
live_is (suc (suc (suc zero))) c = refl
live_is (suc (suc (suc (suc n)))) c = sym (ne_eqb (suc (suc (suc (suc n)))) 1 (λ e. omega arith))

pub fault_is : (o : ℕ) (c : ℤ) → in_fault (outcome_from o c) ≡ eqb o 2
unfolding in_fault outcome_from
fault_is zero c = refl
fault_is (suc zero) c = refl
fault_is (suc (suc zero)) c = refl
fault_is (suc (suc (suc zero))) c = refl
fault_is (suc (suc (suc (suc n)))) c = sym (ne_eqb (suc (suc (suc (suc n)))) 2 (λ e. omega arith))

-- done, in fault and out are proper
pub proper_done : Proper 1 (pos 0)
unfolding outcome_from outcome_number code
proper_done = record { outcome_is = refl; code_is = refl }

pub proper_fault : (c : ℤ) → Proper 2 c
unfolding outcome_from outcome_number code
proper_fault c = record { outcome_is = refl; code_is = refl }

proper_out : Proper 3 (pos 0)
unfolding outcome_from outcome_number code
proper_out = record { outcome_is = refl; code_is = refl }

-- ---- what `begin` returns

pub passes : (b : ℕ) (p : Progress) → Proper p.outcome p.code → (p.outcome ≡ 1 → ⊥) → Began b p p
unfolding state_of
passes b p h dead =
    record { entered = λ ns. sym (enter_dead b (state_of p ns) (live_is p.outcome p.code ∙ ne_eqb p.outcome 1 dead)); proper = h }

-- a live setting has no code
no_code : {o : ℕ} {c : ℤ} → o ≡ 1 → Proper o c → c ≡ pos 0
unfolding outcome_from code
no_code {c = c} e h = sym h.code_is ∙ ap (λ o. code (outcome_from o c)) e

pub steps_on : (b : ℕ) (p : Progress) {x : ℤ} → Proper p.outcome p.code → p.outcome ≡ 1 → p.steps < b → x ≡ p.code
    → Began b p (record { outcome = p.outcome; code = x; steps = p.steps + 1 })
unfolding state_of enter ready spent live outcome_from
steps_on b p h e lt same =
    let more : p.steps + 1 ≡ suc p.steps = omega arith in
    record { entered = λ ns. rw (e, lt-ltb p.steps b lt, more) refl; proper = rw same h }

pub runs_out : (b : ℕ) (p : Progress) {x : ℤ} → Proper p.outcome p.code → p.outcome ≡ 1 → b ≤ p.steps → x ≡ p.code
    → Began b p (record { outcome = 3; code = x; steps = p.steps })
unfolding state_of enter ready spent live outcome_from
runs_out b p h e le same =
    record { entered = λ ns. rw (e, le-ltb p.steps b le) refl; proper = rw (same, no_code e h) proper_out }

-- ---- what follows

module _ {b : ℕ} {p q : Progress} (h : Began b p q) (ns : Numbers) where
  pub ready_is : ready b (state_of p ns) ≡ eqb q.outcome 1
  unfolding state_of
  ready_is =
      sym (live_entered b (state_of p ns)) ∙ ap (λ σ. live σ.outcome) (sym (h.entered ns)) ∙ live_is q.outcome q.code

  -- live after its beginning, a statement does its act
  pub acts : q.outcome ≡ 1 → (f : State → State) → begun b f (state_of p ns) ≡ f (state_of q ns)
  acts e f = begun_yes b f (state_of p ns) (ready_is ∙ eq-eqb q.outcome 1 e) ∙ ap f (sym (h.entered ns))

  -- it has one step more, within the budget
  pub charged : eqb q.outcome 1 ≡ true → (q.steps ≡ suc p.steps) × (q.steps ≤ b)
  unfolding state_of
  charged e =
      let more : q.steps ≡ suc p.steps = ap (λ σ. σ.steps) (h.entered ns) ∙ enter_steps b (state_of p ns) (ready_is ∙ e) in
      (more, omega (arith, ready_lt b (state_of p ns) (ready_is ∙ e)))

-- whatever is not begun does nothing
unbegun : (b : ℕ) (t : Statement ⊥) (σ : State) → ready b σ ≡ false → run b t σ ≡ enter b σ
unfolding run turns
unbegun b skip σ e = begun_no b _ σ e
unbegun b (assign v a) σ e = begun_no b _ σ e
unbegun b (sequence x y) σ e = begun_no b _ σ e
unbegun b (if t x y) σ e = begun_no b _ σ e
unbegun b (while t x) σ e = begun_no b _ σ e
unbegun b (throw a) σ e = begun_no b _ σ e
unbegun b (try x v y) σ e = begun_no b _ σ e
unbegun b (choice c x y) σ e = absurd c

pub stays : {b : ℕ} {p q : Progress} → Began b p q → (q.outcome ≡ 1 → ⊥) → (t : Statement ⊥) (ns : Numbers) → run b t (state_of p ns) ≡ state_of q ns
stays {b} {p} {q} h dead t ns = unbegun b t (state_of p ns) (ready_is h ns ∙ ne_eqb q.outcome 1 dead) ∙ sym (h.entered ns)
