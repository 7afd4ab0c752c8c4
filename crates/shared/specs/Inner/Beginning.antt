-- A statement is begun for the settings of a set: "those whose budget is spent first become out. If any are left, that is one visit".
use Rattle.std.specs.Prelude.{◌≡◌, ℕ, suc, ◌+◌, ◌≤◌, ◌<◌, true, ◌&&◌, ◌||◌, cond, List, [], eqb, ℤ}
use Rattle.sets.specs.declared.Set.{Set}
use Rattle.sets.specs.Member.{bit}
use Rattle.imp.specs.Routine.{skip}
use Rattle.imp.specs.State.{ready, enter}
use Rattle.imp.specs.Shared.{any, where_true, shared, Below}
use Rattle.shared.specs.declared.lent.Lent.{Lent}
use Rattle.shared.specs.declared.plan.Plan.{Plan}
use Rattle.shared.specs.declared.turn.Turn.{Turn}
use Rattle.shared.specs.Lent.{Tally, progress}
use Rattle.shared.specs.Inner.Lent.{Tallied, own}
use Rattle.shared.specs.Inner.Handed.{tally_in, state_in}
use Rattle.shared.specs.Inner.Each.{Only}

-- ---- one setting

pub record BeginningAt (N s : ℕ) (T : Tally) : Type 0 where
  pub setting_below : s < N
  pub tallied : Tallied N T

-- whatever the numbers: a beginning does not see them
pub record BeganAt (N budget : ℕ) (on : Set) (s : ℕ) (before : Set) (T T' : Tally) (left : Set) : Type 0 where
  pub entered : (xs : List ℤ) → Only s (bit on.bits) (λ t. enter budget) (own xs T) (own xs T')
  pub left_is : (t : ℕ) → bit left.bits t ≡ (bit before.bits t || ((bit on.bits t && eqb t s) && ready budget (own [] T t)))
  pub tallied : Tallied N T'

-- ---- the settings of a set

-- rem bounds what remains of the budget of each of them
pub record BeginningFor (plan : Plan) (turn : Turn) (L : Lent) : Type 0 where
  pub below : Below plan.settings (bit turn.on.bits)
  pub remaining : (s : ℕ) → bit turn.on.bits s ≡ true → plan.budget ≤ (progress (tally_in L) s).steps + turn.rem
  pub visits_few : turn.visits ≤ 6400000
  pub tallied : Tallied plan.settings (tally_in L)

-- a beginning alone is what a skip does
pub record BegunFor (plan : Plan) (turn : Turn) (L L' : Lent) (r : Turn) : Type 0 where
  pub reaches : state_in L' r.visits ≡ shared plan.settings plan.budget skip (bit turn.on.bits) (state_in L turn.visits)
  pub left_is : bit r.on.bits ≡ where_true (λ s. ready plan.budget) (bit turn.on.bits) (state_in L turn.visits)
  pub rem_is : cond (any plan.settings (bit r.on.bits)) (suc r.rem) r.rem ≡ turn.rem
  pub store_is : L'.store.now ≡ L.store.now
  pub tallied : Tallied plan.settings (tally_in L')
