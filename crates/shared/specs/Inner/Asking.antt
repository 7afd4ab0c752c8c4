-- What a statement asks of each setting it is run for: "the settings where the test is true", "the settings in which its own try's body ended in fault".
use Rattle.std.specs.Prelude.{◌≡◌, ℕ, ◌*◌, Bool, cond, List, eqb, ℤ, length, get_or}
use Rattle.sets.specs.declared.Set.{Set}
use Rattle.sets.specs.Member.{bit}
use Rattle.imp.specs.State.{Numbers}
use Rattle.imp.specs.Shared.{truth_in, Settings, Below}
use Rattle.image.specs.declared.records.Node.{Node}
use Rattle.image.specs.Bytes.{Bytes}
use Rattle.image.specs.Sets.{settings}
use Rattle.image.specs.Tree.{read}
use Rattle.plain.specs.Inner.Evaluating.{Evaluating}
use Rattle.shared.specs.declared.lent.Lent.{Lent}
use Rattle.shared.specs.declared.plan.Plan.{Plan}
use Rattle.shared.specs.Lent.{part}
use Rattle.shared.specs.Inner.Prepared.{OfClass}
use Rattle.shared.specs.Inner.Handed.{image_in}

-- the answer in setting s, by its outcome's number and its numbers: of a try whether its body ended in fault, else the test
unfoldable pub asking : Bytes → Node → ℕ → ℕ → Numbers → Bool
asking l ν s outcome ns = cond (eqb ν.kind 22) (eqb outcome 2) (truth_in s (read l ν.a).boolean ns)

-- the settings' own answers, by what is lent
abbrev pub answers : Bytes → Node → Lent → Settings
answers l ν L s = asking l ν s (get_or L.outcomes.now s 0) (part L.store.now s)

pub record Asks (l : Bytes) (ν : Node) (ns : List ℤ) : Type 0 where
  pub test : (ν.kind ≡ 22 → ⊥) → Evaluating l ν.a 2 ns

-- what is asked of every setting
pub record Asking (l : Bytes) (ν : Node) (L : Lent) : Type 0 where
  pub test : (ν.kind ≡ 22 → ⊥) → OfClass l ν.a 2
  pub outcomes_length : length L.outcomes.now ≡ settings l
  pub store_length : length L.store.now ≡ settings l * 16

pub record AskingFor (plan : Plan) (ν : Node) (on : Set) (L : Lent) : Type 0 where
  pub every : Asking (image_in plan) ν L
  pub below : Below plan.settings (bit on.bits)
