-- What the run of a statement for the settings of a set asks for and leaves.
use Rattle.std.specs.Prelude.{◌≡◌, ℕ, ◌+◌, ◌≤◌, ◌<◌, Bool, true, not, ◌&&◌}
use Rattle.sets.specs.Member.{bit}
use Rattle.imp.specs.Routine.{while}
use Rattle.imp.specs.Condition.{holds}
use Rattle.imp.specs.State.{State, in_fault, taken}
use Rattle.imp.specs.Shared.{truth_in, Settings, Shared, for, where_true, where_false, shared, total, steps_at, Below}
use Rattle.image.specs.declared.records.Node.{Node}
use Rattle.image.specs.Records.{header}
use Rattle.image.specs.Tree.{condition, read}
use Rattle.shared.specs.declared.lent.Lent.{Lent}
use Rattle.shared.specs.declared.plan.Plan.{Plan}
use Rattle.shared.specs.declared.turn.Turn.{Turn}
use Rattle.shared.specs.Lent.{progress}
use Rattle.shared.specs.Inner.Lent.{Measured}
use Rattle.shared.specs.Inner.Prepared.{OfClass}
use Rattle.shared.specs.Inner.Handed.{image_in, tally_in, state_in}

-- no more steps than the budget, no more visits than steps: the visits can be counted
pub record Within (N budget : ℕ) (Σ : Shared) : Type 0 where
  pub steps_within : (s : ℕ) → s < N → steps_at Σ s ≤ budget
  pub visits_within : Σ.visits ≤ total N (steps_at Σ)

-- run for the settings of the turn; its rem bounds what remains of the budget of each of them
pub record Sharing (plan : Plan) (turn : Turn) (L : Lent) : Type 0 where
  pub below : Below plan.settings (bit turn.on.bits)
  pub remaining : (s : ℕ) → bit turn.on.bits s ≡ true → plan.budget ≤ (progress (tally_in L) s).steps + turn.rem
  pub lent : Measured plan.settings L.store.now (tally_in L)
  pub within : Within plan.settings plan.budget (state_in L turn.visits)

-- ---- the kinds that run other statements, with their children

pub record Chooses (plan : Plan) (ν : Node) : Type 0 where
  pub condition_below : ν.a < (header (image_in plan)).conditions
  pub yes : OfClass (image_in plan) ν.b 3
  pub no : OfClass (image_in plan) ν.c 3

pub record Follows (plan : Plan) (ν : Node) : Type 0 where
  pub first : OfClass (image_in plan) ν.a 3
  pub second : OfClass (image_in plan) ν.b 3

pub record Decides (plan : Plan) (ν : Node) : Type 0 where
  pub is_if : ν.kind ≡ 19
  pub test : OfClass (image_in plan) ν.a 2
  pub yes : OfClass (image_in plan) ν.b 3
  pub no : OfClass (image_in plan) ν.c 3

pub record Repeats (plan : Plan) (ν : Node) : Type 0 where
  pub is_while : ν.kind ≡ 20
  pub test : OfClass (image_in plan) ν.a 2
  pub body : OfClass (image_in plan) ν.b 3

pub record Attempts (plan : Plan) (ν : Node) : Type 0 where
  pub is_try : ν.kind ≡ 22
  pub body : OfClass (image_in plan) ν.a 3
  pub handler : OfClass (image_in plan) ν.b 3
  pub variable_below : ν.variable < 16

-- ---- the meaning of a node, and of a statement once it is begun for the settings of S

abbrev pub sharing : Plan → ℕ → Settings → Shared → Shared
sharing plan n = shared plan.settings plan.budget (read (image_in plan) n).statement

abbrev pub tested : Plan → Node → ℕ → State → Bool
tested plan ν s σ = truth_in s (read (image_in plan) ν.a).boolean σ.numbers

-- "a choice does so by its condition"
abbrev pub choosing : Plan → Node → Settings → Shared → Shared
choosing plan ν S Σ =
    sharing plan ν.c (λ s. S s && not (holds (condition (image_in plan) ν.a) s)) (sharing plan ν.b (λ s. S s && holds (condition (image_in plan) ν.a) s) Σ)

abbrev pub following : Plan → Node → Settings → Shared → Shared
following plan ν S Σ = sharing plan ν.b S (sharing plan ν.a S Σ)

-- "An if runs its then part for the settings where the test is true, then its else part for the rest"
abbrev pub deciding : Plan → Node → Settings → Shared → Shared
deciding plan ν S Σ = sharing plan ν.c (where_false (tested plan ν) S Σ) (sharing plan ν.b (where_true (tested plan ν) S Σ) Σ)

-- a while: its body, and the while again, for the settings where the test is true
abbrev pub turning : Plan → Node → Settings → Shared → Shared
turning plan ν S Σ =
    let again : Settings = where_true (tested plan ν) S Σ in
    shared plan.settings plan.budget (while (read (image_in plan) ν.a).boolean (read (image_in plan) ν.b).statement) again (sharing plan ν.b again Σ)

-- "A handler runs for exactly the settings in which its own try's body ended in fault."
abbrev pub trying : Plan → Node → Settings → Shared → Shared
trying plan ν S Σ =
    let Σ' : Shared = sharing plan ν.a S Σ in
    let caught : Settings = where_true (λ s σ. in_fault σ.outcome) S Σ' in
    sharing plan ν.b caught (for caught (λ s. taken ν.variable) Σ')

-- a run has reached a state of all settings
pub record Shares (N : ℕ) (reached : Shared) (visits : ℕ) (L : Lent) : Type 0 where
  pub reaches : state_in L visits ≡ reached
  pub lent : Measured N L.store.now (tally_in L)
