-- What is handed from call to call, as the definitions speak of it: the image, and what stands in the slices that are lent.
use Rattle.std.specs.Prelude.{◌≡◌, ℕ}
use Rattle.imp.specs.Shared.{Shared}
use Rattle.image.specs.Bytes.{Bytes}
use Rattle.shared.specs.declared.lent.Lent.{Lent}
use Rattle.shared.specs.declared.plan.Plan.{Plan}
use Rattle.shared.specs.Lent.{Tally, tally}
use Rattle.shared.specs.Inner.Lent.{as_shared}

abbrev pub image_in : Plan → Bytes
image_in plan = plan.routine.image.now

abbrev pub tally_in : Lent → Tally
tally_in L = tally L.outcomes.now L.codes.now L.steps.now

-- the states of all settings, with the visits so far
abbrev pub state_in : Lent → ℕ → Shared
state_in L visits = as_shared L.store.now (tally_in L) visits

-- they stay the same slices: a caller knows what its own hold while they are the ones that it lent
pub record Same (L L' : Lent) : Type 0 where
  pub store : L'.store.ghost_name ≡ L.store.ghost_name
  pub outcomes : L'.outcomes.ghost_name ≡ L.outcomes.ghost_name
  pub codes : L'.codes.ghost_name ≡ L.codes.ghost_name
  pub steps : L'.steps.ghost_name ≡ L.steps.ghost_name
