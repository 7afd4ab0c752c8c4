-- What a run asks for holds all along it: steps never fall and stay within the budget, and visits stay within the steps.
use mathlib.Core.Path.{◌≡◌, refl, sym, ◌∙◌, ap, subst, fun_ext}
use Prim.Native.Nat.{ℕ, zero, suc, ◌*◌, ◌≤◌, ◌<◌}
use mathlib.Core.Bool.{Bool, true, false, cond}
use native.Mathlib.Omega.{arith}
use native.Mathlib.Nat.{le_refl, le_trans, mul-le-mul, suc-mul}
use lib.ListN.{length}
use Rattle.sets.specs.declared.Set.{Set}
use Rattle.sets.specs.Member.{bit}
use Rattle.imp.specs.Condition.{Condition}
use Rattle.imp.specs.Routine.{Statement, skip}
use Rattle.imp.specs.Configure.{configure}
use Rattle.imp.specs.State.{State, ready, enter}
use Rattle.imp.specs.Plain.{run}
use Rattle.imp.specs.Shared.{Settings, any, Shared, for, where_true, shared, total, steps_at}
use Rattle.imp.proofs.Theorem.Sets.{and_true, any_has}
use Rattle.imp.proofs.Theorem.Agreement.{agrees}
use Rattle.imp.proofs.Theorem.Begin.{enter_steps}
use Rattle.imp.proofs.Theorem.Bounds.{bounded}
use Rattle.imp.proofs.Theorem.Range.{run_steps}
use Rattle.imp.proofs.Theorem.WhileShared.{shared_grows}
use Rattle.plain.specs.Inner.Progress.{state_of}
use Rattle.shared.specs.declared.lent.Lent.{Lent}
use Rattle.shared.specs.declared.plan.Plan.{Plan}
use Rattle.shared.specs.declared.turn.Turn.{Turn}
use Rattle.shared.specs.Lent.{progress}
use Rattle.shared.specs.Inner.Lent.{Measured, own, as_shared}
use Rattle.shared.specs.Inner.Handed.{tally_in, state_in}
use Rattle.shared.specs.Inner.Beginning.{BeginningFor, BegunFor}
use Rattle.shared.specs.Inner.Sharing.{Within, Sharing, Shares}
use Rattle.shared.proofs.Begun.{begun_at}

-- ---- a later state

pub record Later (N b : ℕ) (Σ Σ' : Shared) : Type 0 where
  pub no_fewer : (s : ℕ) → s < N → steps_at Σ s ≤ steps_at Σ' s
  pub keeps : Within N b Σ → Within N b Σ'

ran_steps : (b s : ℕ) (t : Statement Condition) (u : Bool) (σ : State) → σ.steps ≤ b → (cond u (run b (configure s t) σ) σ).steps ≤ b
ran_steps b s t true σ h = run_steps b (configure s t) σ h
ran_steps b s t false σ h = h

pub later_run : (N b : ℕ) (t : Statement Condition) (S : Settings) (Σ : Shared) → Later N b Σ (shared N b t S Σ)
later_run N b t S Σ = record {
  no_fewer = (shared_grows N b t).grows S Σ;
  keeps = λ w. record {
    steps_within = λ s h. rw ((agrees N b s h t).agree S Σ, steps_at) (ran_steps b s t (S s) (Σ.at s) (w.steps_within s h));
    visits_within = omega (arith, ((bounded N b t).bounds S Σ).most, w.visits_within);
  };
}

-- a change that counts nothing
same_steps : (u : Bool) (x y : State) → x.steps ≡ y.steps → (cond u x y).steps ≡ y.steps
same_steps true x y e = e
same_steps false x y e = refl

pub later_act : (N b : ℕ) (f : ℕ → State → State) (S : Settings) (Σ : Shared) → ((s : ℕ) (σ : State) → (f s σ).steps ≡ σ.steps) → Later N b Σ (for S f Σ)
unfolding for
later_act N b f S Σ e =
    let same : (s : ℕ) → steps_at (for S f Σ) s ≡ steps_at Σ s = λ s. same_steps (S s) (f s (Σ.at s)) (Σ.at s) (e s (Σ.at s)) in
    record {
      no_fewer = λ s h. omega (arith, same s);
      keeps = λ w. record {
        steps_within = λ s h. omega (arith, same s, w.steps_within s h);
        visits_within = subst (λ f. Σ.visits ≤ total N f) (sym (fun_ext same)) w.visits_within;
      };
    }

-- ---- a sum of numbers that are at most b

total_most : (n : ℕ) (f : ℕ → ℕ) (b : ℕ) → ((s : ℕ) → s < n → f s ≤ b) → total n f ≤ n * b
unfolding total
total_most zero f b h = omega arith
total_most (suc n) f b h = omega (arith, h n (le_refl _), total_most n f b (λ s k. h s (omega arith)), suc-mul n b)

-- one less, or the same
at_most : {n : ℕ} (u : Bool) (k : ℕ) → cond u (suc k) k ≡ n → k ≤ n
at_most true k e = omega (arith, e)
at_most false k e = omega (arith, e)

-- the same run, its state said otherwise
pub reaching : {N v : ℕ} {L : Lent} {Σ Σ' : Shared} → Σ ≡ Σ' → Shares N Σ v L → Shares N Σ' v L
reaching e h = record { reaches = h.reaches ∙ e; lent = h.lent }

-- ---- what is asked for goes on

module _ (plan : Plan) (turn : Turn) (L : Lent) (h : Sharing plan turn L) where
  abbrev here : Shared
  here = state_in L turn.visits

  pub goes_on : (visits : ℕ) (L' : Lent) → Later plan.settings plan.budget here (state_in L' visits)
      → Measured plan.settings L'.store.now (tally_in L') → Sharing plan (record turn { visits = visits }) L'
  unfolding as_shared own state_of
  goes_on visits L' later lent = record {
    below = h.below;
    remaining = λ s e. omega (arith, h.remaining s e, later.no_fewer s (h.below s e));
    lent = lent;
    within = later.keeps h.within;
  }

  -- for fewer settings
  pub for_fewer : (on : Set) → ((s : ℕ) → bit on.bits s ≡ true → bit turn.on.bits s ≡ true) → Sharing plan (record turn { on = on }) L
  for_fewer on fewer = record {
    below = λ s e. h.below s (fewer s e);
    remaining = λ s e. h.remaining s (fewer s e);
    lent = h.lent;
    within = h.within;
  }

  -- after a run, whoever it was for
  pub after_run : (t : Statement Condition) (S : Settings) (visits : ℕ) (L' : Lent)
      → Shares plan.settings (shared plan.settings plan.budget t S here) visits L' → Sharing plan (record turn { visits = visits }) L'
  after_run t S visits L' r =
      goes_on visits L' (subst (Later plan.settings plan.budget here) (sym r.reaches) (later_run plan.settings plan.budget t S here)) r.lent

  -- a beginning can be made: the visits so far are few
  pub can_begin : BeginningFor plan turn L
  unfolding as_shared own state_of
  can_begin = record {
    below = h.below;
    remaining = h.remaining;
    visits_few = le_trans h.within.visits_within
        (le_trans (total_most plan.settings (steps_at here) plan.budget h.within.steps_within) (mul-le-mul plan.prepared.few plan.prepared.allowed));
    tallied = h.lent.tallied;
  }

  -- and who is left has one less of its budget to go
  module _ {L' : Lent} {r : Turn} (begun : BegunFor plan turn L L' r) where
    was : (s : ℕ) → bit r.on.bits s ≡ true → (bit turn.on.bits s ≡ true) × (ready plan.budget (own L.store.now (tally_in L) s) ≡ true)
    unfolding as_shared where_true
    was s e = and_true (bit turn.on.bits s) (ready plan.budget (own L.store.now (tally_in L) s)) (sym (ap (λ f. f s) begun.left_is) ∙ e)

    one_more : (s : ℕ) → bit r.on.bits s ≡ true → (progress (tally_in L') s).steps ≡ suc (progress (tally_in L) s).steps
    unfolding as_shared own state_of
    one_more s e =
        let entered : (shared plan.settings plan.budget skip (bit turn.on.bits) here).at s ≡ enter plan.budget (own L.store.now (tally_in L) s) =
        rw (was s e).0 at (begun_at plan.settings plan.budget (bit turn.on.bits) here s) in
        ap (λ Σ. (Σ.at s).steps) begun.reaches ∙ ap (λ σ. σ.steps) entered ∙ enter_steps plan.budget (own L.store.now (tally_in L) s) (was s e).1

    pub one_less : (s : ℕ) → bit r.on.bits s ≡ true → suc r.rem ≡ turn.rem
    one_less s e = sym (rw (any_has plan.settings (bit r.on.bits) s (h.below s (was s e).0) e) refl) ∙ begun.rem_is

    pub begun_on : Sharing plan r L'
    begun_on = record {
      below = λ s e. h.below s (was s e).0;
      remaining = λ s e. omega (arith, h.remaining s (was s e).0, one_more s e, one_less s e);
      lent = record { store_length = ap length begun.store_is ∙ h.lent.store_length; tallied = begun.tallied };
      within = rw begun.reaches ((later_run plan.settings plan.budget skip (bit turn.on.bits) here).keeps h.within);
    }

    pub no_more : r.rem ≤ turn.rem
    no_more = at_most (any plan.settings (bit r.on.bits)) r.rem begun.rem_is
