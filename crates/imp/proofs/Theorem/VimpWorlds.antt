-- What a world says of its settings, as the shared run's state: who is live, and what beginning a statement does. Each is a table of booleans.
use Rattle.std.specs.Prelude.{◌≡◌, ℕ, suc, Bool, true, false, cond, not, ◌&&◌, ◌||◌, ℤ, nat_lt, refl}
use Rattle.std.proofs.Math.Path.{sym, ap, ap₂, fun_ext}
use Rattle.std.proofs.Common.{◌∙◌}
use Rattle.std.proofs.lemmas.Bool.{false≢true}
use Rattle.imp.specs.Condition.{Condition}
use Rattle.imp.specs.Routine.{Statement}
use Rattle.imp.specs.State as State
use Rattle.imp.specs.State.{Numbers, idle, done, fault, out, State, live, ready, spent, enter}
use Rattle.imp.specs.Shared.{Settings, for, visited, where_true}
use Rattle.imp.specs.Rules.Variational.{Store, Stack, in_error, conf_err, Counts, World, world, ctx, counted, made_out, begun, outcome_in, conf, seen}
use Rattle.imp.proofs.Theorem.Live.{alive}
use Rattle.imp.proofs.Theorem.WhileShared.{left, reached}

-- every setting of C is in D
abbrev pub Within : Settings → Settings → Type 0
Within C D = (s : ℕ) → C s ≡ true → D s ≡ true

-- ---- who is live

live_table : (d p e : Bool) (n : ℤ) → live (cond d (cond p out (cond e (fault n) done)) idle) ≡ d && (not e && not p)
unfolding live
live_table true true true n = refl
live_table true true false n = refl
live_table true false true n = refl
live_table true false false n = refl
live_table false p e n = refl

meet_table : (c d x : Bool) → (c ≡ true → d ≡ true) → c && x ≡ c && (d && x)
meet_table true true x h = refl
meet_table true false x h = absurd (false≢true (h refl))
meet_table false d x h = refl

-- the live settings of C are those of C that are live
pub ctx_alive : (D C : Settings) (X : World) → Within C D → (s : ℕ) → ctx C X.errors X.counts s ≡ C s && alive (seen D X) s
unfolding ctx seen conf outcome_in
ctx_alive D C X w s =
    meet_table (C s) (D s) (not (in_error X.errors s) && not (X.counts.outs s)) (w s)
    ∙ ap (λ u. C s && u) (sym (live_table (D s) (X.counts.outs s) (in_error X.errors s) (conf_err X.errors s)))

-- a setting that is live is in the set, not out and not in error
live_facts : (c e p : Bool) → c && (not e && not p) ≡ true → (c ≡ true) × (e ≡ false) × (p ≡ false)
live_facts true false false h = (refl, refl, refl)
live_facts true true p h = absurd (false≢true h)
live_facts true false true h = absurd (false≢true h)
live_facts false e p h = absurd (false≢true h)

pub ctx_in : (C : Settings) (E : Stack) (K : Counts) (s : ℕ) → ctx C E K s ≡ true → (C s ≡ true) × (in_error E s ≡ false) × (K.outs s ≡ false)
unfolding ctx
ctx_in C E K s h = live_facts (C s) (in_error E s) (K.outs s) h

-- ---- beginning a statement

-- reaching a statement, with `ltb` of the steps and the budget as a boolean of its own
abbrev entering : Bool → State → State
entering l σ = record {
  numbers = σ.numbers;
  outcome = cond (live σ.outcome && not l) out σ.outcome;
  steps = cond (live σ.outcome && l) (suc σ.steps) σ.steps;
}

-- the settings that run on: a setting that was live and had budget left
left_table : (c d e p l : Bool) (n : ℤ) → (c ≡ true → d ≡ true)
    → c && (live (cond d (cond p out (cond e (fault n) done)) idle) && l) ≡ c && (not e && not (((c && (not e && not p)) && not l) || p))
unfolding live
left_table false d e p l n h = refl
left_table true false e p l n h = absurd (false≢true (h refl))
left_table true true true true l n h = refl
left_table true true true false l n h = refl
left_table true true false true l n h = refl
left_table true true false false true n h = refl
left_table true true false false false n h = refl

enter_table : (c d e p l : Bool) (n : ℤ) (ns : Numbers) (k : ℕ) → (c ≡ true → d ≡ true)
    → (let p' : Bool = ((c && (not e && not p)) && not l) || p in
    let σ : State = record { numbers = ns; outcome = cond d (cond p out (cond e (fault n) done)) idle; steps = k } in
    ◌≡◌ {A = State} (record {
      numbers = ns;
      outcome = cond d (cond p' out (cond e (fault n) done)) idle;
      steps = cond (c && (not e && not p')) (suc k) k;
    }) (cond c (entering l σ) σ))
unfolding live
enter_table false d e p l n ns k h = refl
enter_table true false e p l n ns k h = absurd (false≢true (h refl))
enter_table true true true true l n ns k h = refl
enter_table true true true false l n ns k h = refl
enter_table true true false true true n ns k h = refl
enter_table true true false true false n ns k h = refl
enter_table true true false false true n ns k h = refl
enter_table true true false false false n ns k h = refl

module _ (N b : ℕ) (D : Settings) (C : Settings) (w : Within C D) (t : Statement Condition) (u : counted t ≡ true) (S : Store) (E : Stack) (K : Counts) where
  -- the settings that are left
  pub left_is : (s : ℕ) → left N b C (seen D (world S E K)) s ≡ ctx C E (made_out b t C E K) s
  unfolding left where_true seen conf outcome_in ready ctx made_out
  left_is s = rw u (left_table (C s) (D s) (in_error E s) (K.outs s) (nat_lt (K.steps s) b) (conf_err E s) (w s))

  -- a setting once the statement is begun
  begun_at : (s : ℕ) → conf D (world S E (begun t C E (made_out b t C E K))) s ≡ cond (C s) (enter b (conf D (world S E K) s)) (conf D (world S E K) s)
  unfolding conf outcome_in enter State.spent ready ctx made_out begun
  begun_at s = rw u (enter_table (C s) (D s) (in_error E s) (K.outs s) (nat_lt (K.steps s) b) (conf_err E s) (S s) (K.steps s) (w s))

  one_more : (begun t C E (made_out b t C E K)).visits ≡ suc K.visits
  unfolding begun made_out
  one_more = rw u

  -- the state once the statement is begun
  pub reached_is : reached N b C (seen D (world S E K)) ≡ seen D (world S E (begun t C E (made_out b t C E K)))
  unfolding reached visited for seen
  reached_is = ap₂ (λ f n. record { at = f; visits = n }) (fun_ext λ s. sym (begun_at s)) (sym one_more)

  -- a setting of a statement that is begun for none
  passed_at : (s : ℕ) → ctx C E (made_out b t C E K) s ≡ false → conf D (world S E (made_out b t C E K)) s ≡ conf D (world S E (begun t C E (made_out b t C E K))) s
  unfolding conf outcome_in begun
  passed_at s none = rw (none, u)

  -- the state if it is begun for none
  pub passed_is : ((s : ℕ) → ctx C E (made_out b t C E K) s ≡ false)
      → for C (λ s. enter b) (seen D (world S E K)) ≡ seen D (world S E (made_out b t C E K))
  unfolding for seen made_out
  passed_is none = ap (λ f. record { at = f; visits = K.visits }) (fun_ext λ s. sym (passed_at s (none s) ∙ begun_at s))
