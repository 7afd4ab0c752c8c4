-- What the run of a statement in one setting asks for and leaves.
use Rattle.std.specs.Prelude.{◌≡◌, ℕ, ◌≤◌, ◌<◌, List, ℤ, length}
use Rattle.image.specs.declared.records.Node.{Node}
use Rattle.image.specs.Bytes.{Bytes}
use Rattle.image.specs.Tree.{read}
use Rattle.imp.specs.Configure.{configure, configureᵇ}
use Rattle.imp.specs.Plain.{truth, handled, run}
use Rattle.imp.specs.Routine.{while}
use Rattle.imp.specs.State.{Numbers, State, branch, enter}
use Rattle.plain.specs.declared.progress.Progress.{Progress}
use Rattle.plain.specs.Inner.Evaluating.{Evaluating}
use Rattle.plain.specs.Inner.Progress.{Proper, state_of}

-- a statement is run: node n, from where the setting is
pub record Running (l : Bytes) (n : ℕ) (p : Progress) (numbers : List ℤ) : Type 0 where
  pub evaluating : Evaluating l n 3 numbers
  pub proper : Proper p.outcome p.code

-- a while goes on from its test: live, within the budget
pub record Repeating (l : Bytes) (test body budget : ℕ) (p : Progress) (numbers : List ℤ) : Type 0 where
  pub evaluating : Evaluating l test 2 numbers
  pub running : Running l body p numbers
  pub is_live : p.outcome ≡ 1
  pub within : p.steps ≤ budget

-- a try's body is run, and then perhaps its handler
pub record Trying (l : Bytes) (body v handler : ℕ) (p : Progress) (numbers : List ℤ) : Type 0 where
  pub running : Running l body p numbers
  pub evaluating : Evaluating l handler 3 numbers
  pub variable_below : v < 16

-- a try takes a fault
pub record Takes (ν : Node) (p : Progress) (ns : List ℤ) : Type 0 where
  pub variable_below : ν.variable < 16
  pub proper : Proper p.outcome p.code
  pub sixteen : length ns ≡ 16

-- what a while does once it is begun
abbrev pub turning : ℕ → ℕ → Bytes → ℕ → ℕ → State → State
turning budget s l test body σ =
    let e = configureᵇ s (read l test).boolean in
    let x = configure s (read l body).statement in
    branch (truth e σ.numbers) (λ σ'. run budget (while e x) (run budget x σ')) (λ σ'. σ') σ

-- what a try does once it is begun
abbrev pub trying : ℕ → ℕ → Bytes → ℕ → ℕ → ℕ → State → State
trying budget s l body v handler σ =
    handled v (run budget (configure s (read l handler).statement)) (run budget (configure s (read l body).statement) σ)

-- a statement was begun
pub record Began (budget : ℕ) (p r : Progress) : Type 0 where
  pub entered : (ns : Numbers) → state_of r ns ≡ enter budget (state_of p ns)
  pub proper : Proper r.outcome r.code

-- a run has reached a state
pub record Ran (reached : State) (r : Progress) (numbers : Numbers) : Type 0 where
  pub reaches : state_of r numbers ≡ reached
  pub proper : Proper r.outcome r.code
  pub sixteen : length numbers ≡ 16
