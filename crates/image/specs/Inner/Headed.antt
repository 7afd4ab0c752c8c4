-- What tests 1 to 4 leave known: the shape is the header's, the counts are in range, and the image is as long as they say.
use Rattle.std.specs.Prelude.{◌≡◌, ◌≤◌, ◌<◌}
use Rattle.image.specs.declared.accept.Shape.{Shape}
use Rattle.image.specs.Bytes.{Bytes}
use Rattle.image.specs.Check.{shape_of}
use Rattle.image.specs.Inner.Whole.{Whole}

pub record Headed (l : Bytes) (shape : Shape) : Type 0 where
  pub shape_is : shape ≡ shape_of l
  pub whole : Whole l shape.conditions shape.nodes
  pub some_node : 0 < shape.nodes
  pub few_nodes : shape.nodes ≤ 1024
