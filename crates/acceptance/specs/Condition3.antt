-- Condition 3: "For each setting in the set, the shared run leaves the same numbers, outcome, code and steps as the plain run of the routine configured for it;
-- outside the set nothing changes and the outcome is idle; visits are at least the largest step count and at most their sum." Of the calls, for every input and
-- whatever keeps the call's promise.
use Rattle.std.specs.Prelude.{◌≡◌, true, false, List, ℕ, ◌≤◌, ◌<◌, eqb, ℤ, pos, length, get_or, take, Result, Ok}
use Rattle.sets.specs.Member.{bit, has}
use Rattle.imp.specs.Shared.{total}
use Rattle.image.specs.declared.refusals.Refusal.{Refusal}
use Rattle.image.specs.Bytes.{Bytes}
use Rattle.image.specs.Sets.{settings}
use Rattle.configure.specs.Configured.{configure_rows, Configures}
use Rattle.plain.specs.declared.progress.Progress.{Progress}
use Rattle.plain.specs.PlainRun.{plain_rows, hall_rows, RunsIn, Runs}
use Rattle.shared.specs.declared.Ends.{Ends}
use Rattle.shared.specs.Lent.{Tally, progress, part}
use Rattle.shared.specs.SharedRun.{shared_rows, SharedRuns}
use Rattle.acceptance.specs.Theorem.InTurn.{as_run}
use Rattle.acceptance.specs.Theorem.Agree.{carried_out, in_the_set, outside_the_set}
use Rattle.acceptance.specs.Theorem.Answer.{least, most, in_fault, is_out, no_visit, no_step, no_fault, no_out}

-- a setting that was not run: "idle, 0, 0"
abbrev pub idle : Progress
idle = record { outcome = 0; code = pos 0; steps = 0 }

-- a set, a budget and a store xs were lent, and the run answered e and left the store xs' and the tally T'
pub record Condition3 (l : Bytes) (set budget : ℕ) (xs xs' : List ℤ) (T' : Tally) (e : Ends) : Type 0 where
  -- "For each setting in the set, the shared run leaves the same numbers, outcome, code and steps as the plain run of the routine configured for it": the run of
  -- one hall, from the setting's part of the store, is carried out
  pub inside : (s : ℕ) → bit set s ≡ true → (ns' : List ℤ) (r : Result Progress Refusal)
      → RunsIn s (hall_rows l s budget (length (part xs s))) l budget (part xs s) ns' r → (r ≡ Ok (progress T' s)) × (ns' ≡ part xs' s)
  -- the same by the two calls that one hall's joins: configuring for a setting in the set is carried out, with space for the longest image
  pub written : (s : ℕ) → bit set s ≡ true → (out out' : Bytes) (r : Result ℕ Refusal) → 8200 ≤ length out
      → Configures (configure_rows l s (length out)) l s out out' r → (n : ℕ) × (r ≡ Ok n)
  -- and so is a plain run of the image that configuring wrote
  pub written_inside : (s : ℕ) → bit set s ≡ true
      → (out out' : Bytes) (n : ℕ) → Configures (configure_rows l s (length out)) l s out out' (Ok n)
      → (ns' : List ℤ) (r : Result Progress Refusal) → Runs (plain_rows (take n out') budget (length (part xs s))) (take n out') budget (part xs s) ns' r
      → (r ≡ Ok (progress T' s)) × (ns' ≡ part xs' s)
  -- "outside the set nothing changes and the outcome is idle"
  pub outside : (s : ℕ) → s < settings l → bit set s ≡ false → (progress T' s ≡ idle) × (part xs' s ≡ part xs s)
  -- "visits are at least the largest step count and at most their sum"
  pub least : (s : ℕ) → s < settings l → get_or T'.steps s 0 ≤ e.visits
  pub most : e.visits ≤ total (settings l) (λ s. get_or T'.steps s 0)
  -- the empty set: no visit, no step, nobody in fault or out
  pub empty : set ≡ 0 → (e.visits ≡ 0) × ((s : ℕ) → s < settings l → get_or T'.steps s 0 ≡ 0) × (e.fault.bits ≡ 0) × (e.out.bits ≡ 0)
  -- "the set in fault and the set out", by the outcomes
  pub in_fault : (s : ℕ) → has e.fault s ≡ eqb (get_or T'.outcomes s 0) 2
  pub is_out : (s : ℕ) → has e.out s ≡ eqb (get_or T'.outcomes s 0) 3

pub condition_3 : (l : Bytes) (set budget : ℕ) (xs xs' : List ℤ) (T T' : Tally) (e : Ends)
    → SharedRuns (shared_rows l set budget xs T) l set budget xs T xs' T' (Ok e) → Condition3 l set budget xs xs' T' e
condition_3 l set budget xs xs' T T' e ran = record {
  inside = in_the_set ran;
  written = carried_out ran;
  written_inside = λ s i out out' n wrote ns' r runs. in_the_set ran s i ns' r (as_run l s budget (part xs s) out out' n wrote runs);
  outside = outside_the_set ran;
  least = least ran;
  most = most ran;
  empty = λ z. (no_visit ran z, no_step ran z, no_fault ran z, no_out ran z);
  in_fault = in_fault ran;
  is_out = is_out ran;
}
