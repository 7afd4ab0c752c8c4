-- What the writing of a whole listing asks for: an image that was accepted, with its shape, and space for its listing.
use Rattle.std.specs.Prelude.{◌≡◌, ℕ, ◌≤◌, length}
use Rattle.image.specs.declared.accept.Shape.{Shape}
use Rattle.image.specs.Bytes.{Bytes}
use Rattle.image.specs.Check.{shape_of}
use Rattle.image.specs.Accepted.{Accepted}
use Rattle.listing.specs.Lists.{listing_of}

pub record Shaped (l : Bytes) (shape : Shape) : Type 0 where
  pub accepted : Accepted l
  pub shape_is : shape ≡ shape_of l

pub record Fitting (l : Bytes) (shape : Shape) (space : ℕ) : Type 0 where
  pub shaped : Shaped l shape
  pub fits : length (listing_of l) ≤ space
