-- What the functions inside the bench ask for: an image that was accepted, with its conditions' sets, and a setting of it.
use Rattle.std.specs.Prelude.{◌≡◌, ℕ, ◌<◌, List}
use Rattle.image.specs.Bytes.{Bytes}
use Rattle.image.specs.Records.{header}
use Rattle.image.specs.Sets.{settings}
use Rattle.image.specs.Inner.SetsOf.{SetsOf}
use Rattle.image.specs.Accepted.{Accepted}

pub record Ready (l : Bytes) (conditions : ℕ) (condition_sets : List ℕ) (s : ℕ) : Type 0 where
  pub accepted : Accepted l
  pub conditions_are : conditions ≡ (header l).conditions
  pub sets_right : SetsOf l conditions condition_sets
  pub setting_below : s < settings l
