-- Those who are left once a statement is begun: there are some just where the code says so, and what it does for them is the whole of it.
use mathlib.Core.Path.{◌≡◌, sym, ◌∙◌, ap}
use mathlib.Core.Bool.{Bool, false, not}
use Prim.Native.Nat.{ℕ}
use lib.Dec.{eqb}
use Rattle.sets.specs.Member.{bit, members}
use Rattle.imp.specs.Shared.{Settings, any, Shared, begun}
use Rattle.shared.specs.declared.lent.Lent.{Lent}
use Rattle.shared.specs.declared.plan.Plan.{Plan}
use Rattle.shared.specs.declared.turn.Turn.{Turn}
use Rattle.shared.specs.Inner.Handed.{state_in}
use Rattle.shared.specs.Inner.Beginning.{BegunFor}
use Rattle.shared.specs.Inner.Sharing.{Sharing, sharing}
use Rattle.shared.proofs.Begun.{does}
use Rattle.shared.proofs.Keeping.{begun_on}
use Rattle.shared.proofs.Members.{any_members}

module _ (plan : Plan) (turn : Turn) (L : Lent) {L' : Lent} {left : Turn} (h : Sharing plan turn L) (is_begun : BegunFor plan turn L L' left)
    {r : Bool} (told : r ≡ eqb (members left.on.bits 64) 0) where
  pub any_left : any plan.settings (bit left.on.bits) ≡ not r
  any_left = any_members plan.settings left.on.bits plan.prepared.few (begun_on plan turn L h is_begun).below ∙ ap not (sym told)

  pub does_all : (n : ℕ) (act : Settings → Shared → Shared) → r ≡ false
      → ((S : Settings) (Σ : Shared) → sharing plan n S Σ ≡ begun plan.settings plan.budget act S Σ)
      → act (bit left.on.bits) (state_in L' left.visits) ≡ sharing plan n (bit turn.on.bits) (state_in L turn.visits)
  does_all n act some means =
      does plan.settings plan.budget act _ (bit turn.on.bits) (bit left.on.bits) _ _ means is_begun.left_is is_begun.reaches (any_left ∙ ap not some)
