-- What a caller of `check` learns: of an image that is good, that it is accepted and what its shape is.
use Rattle.std.specs.Prelude.{◌≡◌}
use Rattle.std.proofs.Common.{sym, ◌∙◌}
use Rattle.image.specs.declared.accept.Shape.{Shape}
use Rattle.image.specs.Bytes.{Bytes}
use Rattle.image.specs.Rows.{answer, judge, check_rows}
use Rattle.image.specs.Check.{shape_of}
use Rattle.image.specs.Accepted.{Accepted}
use Rattle.image.proofs.Theorem.Accepted.{accepted, accepts}

pub good_accepted : (l : Bytes) (shape : Shape) → answer shape ≡ judge (check_rows l) (shape_of l) → Accepted l
good_accepted l shape e = accepted l (shape_of l) shape (sym e)

pub good_shape : (l : Bytes) (shape : Shape) → answer shape ≡ judge (check_rows l) (shape_of l) → shape ≡ shape_of l
good_shape l shape e =
    let same : answer shape ≡ answer (shape_of l) = e ∙ accepts l (shape_of l) (good_accepted l shape e) in
    cc
