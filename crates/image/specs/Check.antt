-- What a call answers, in document 01's terms: what it was called for, or a refusal's number and place. "The check answers F, C and P"
use Rattle.std.specs.Prelude.{Result, Ok, Err}
use Rattle.image.specs.declared.accept.Shape.{Shape}
use Rattle.image.specs.declared.refusals.Refusal.{Refusal}
use Rattle.image.specs.Bytes.{Bytes}
use Rattle.image.specs.Records.{header}
use Rattle.image.specs.Refusals.{number_of, place_of}
use Rattle.image.specs.Rows.{Answer, refused, answer}

abbrev pub answer_of : {A : Type 0} → Result A Refusal → Answer A
answer_of (Ok x) = answer x
answer_of (Err r) = refused (number_of r) (place_of r)

unfoldable pub shape_of : Bytes → Shape
shape_of l = record { options = (header l).options; conditions = (header l).conditions; nodes = (header l).nodes }
