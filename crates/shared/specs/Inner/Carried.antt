-- What is known when every test of a shared run is passed.
use Rattle.std.specs.Prelude.{◌≡◌, ℕ, ◌*◌, ◌≤◌, length}
use Rattle.sets.specs.declared.Set.{Set}
use Rattle.sets.specs.Member.{bit}
use Rattle.imp.specs.Shared.{Below}
use Rattle.image.specs.declared.accept.Shape.{Shape}
use Rattle.image.specs.Accepted.{Accepted}
use Rattle.image.specs.Bytes.{Bytes}
use Rattle.image.specs.Check.{shape_of}
use Rattle.image.specs.Sets.{settings}
use Rattle.shared.specs.declared.lent.Lent.{Lent}
use Rattle.shared.specs.Inner.Handed.{tally_in}
use Rattle.shared.specs.Inner.Starting.{Sized}

pub record Carried (l : Bytes) (shape : Shape) (set : Set) (budget : ℕ) (L : Lent) : Type 0 where
  pub accepted : Accepted l
  pub shape_is : shape ≡ shape_of l
  pub below : Below (settings l) (bit set.bits)
  pub allowed : budget ≤ 100000
  pub store_length : length L.store.now ≡ settings l * 16
  pub sized : Sized (settings l) (tally_in L)
