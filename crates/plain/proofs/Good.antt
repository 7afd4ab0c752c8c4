-- An image that the check accepts: its shape is its header's, and a setting is tested against its number of settings.
use mathlib.Core.Path.{◌≡◌, ◌∙◌, ap}
use mathlib.Core.List.{List}
use Prim.Native.Nat.{ℕ, ◌^◌}
use mathlib.Core.Bool.{Bool}
use lib.Dec.{ltb}
use Rattle.sets.specs.Member.{bit}
use Rattle.image.specs.declared.accept.Shape.{Shape}
use Rattle.image.specs.Records.{header}
use Rattle.image.specs.Check.{shape_of}
use Rattle.image.specs.Sets.{settings}

module _ (l : List ℕ) {shape : Shape} (is_shape : shape ≡ shape_of l) where
  pub options_are : shape.options ≡ (header l).options
  unfolding shape_of
  options_are = ap (λ (h : Shape). h.options) is_shape

  pub nodes_are : shape.nodes ≡ (header l).nodes
  unfolding shape_of
  nodes_are = ap (λ (h : Shape). h.nodes) is_shape

  -- whether the setting is below N, as it is tested
  pub tested : (setting every : ℕ) {has : Bool} → has ≡ bit every setting → ((k : ℕ) → bit every k ≡ ltb k (2 ^ shape.options))
      → has ≡ ltb setting (settings l)
  unfolding settings
  tested setting every is_in is_every = is_in ∙ is_every setting ∙ ap (λ f. ltb setting (2 ^ f)) options_are
