-- `all_short` meets its contract: its three fields one after the other.
use mathlib.Core.Path.{◌≡◌, refl, ◌∙◌}
use mathlib.Core.Bool.{true}
use mathlib.Core.List.{List}
use Prim.Native.Nat.{ℕ, ◌<◌}
use native.Mathlib.Omega.{arith}
use Rattle.image.specs.declared.records.Node.{Node}
use Rattle.image.specs.Records.{header}
use Rattle.image.specs.Layout.{layout, a_digit, b_digit, c_digit, names_node}
use Rattle.image.specs.Accepted.{Accepted}
use Rattle.image.proofs.Theorem.Held.{Child}
use Rattle.listing.specs.Inner.Listing.{AskingField, AskingAll}
use Rattle.listing.proofs.Theorem.Image.{in_a, in_b, in_c}
use Rattle.listing.proofs.short.all_short.Goals as goal

asking : {l : List ℕ} {n slot value : ℕ} → Accepted l → n < (header l).nodes → (names_node slot ≡ true → Child l n slot value)
    → AskingField l slot value
unfolding names_node
asking {l} {n} {slot} {value} accepted below child =
    let named : slot ≡ 3 → names_node slot ≡ true = λ e. rw e refl in
    record {
      accepted = accepted;
      node_below = λ e. omega (arith, (child (named e)).is_lower, below);
      is_class = λ e. (child (named e)).is_class ∙ e;
    }

-- the fields of a node as it was read
module _ {l : List ℕ} {digits : ℕ} (ν : Node) (e : digits ≡ layout ν.kind) (pre : AskingAll l ν) where
  field_a : AskingField l (a_digit digits) ν.a
  field_a = rw (e, pre.is_node) (asking pre.accepted pre.node_below (in_a l pre.accepted pre.n pre.node_below))

  field_b : AskingField l (b_digit digits) ν.b
  field_b = rw (e, pre.is_node) (asking pre.accepted pre.node_below (in_b l pre.accepted pre.n pre.node_below))

  field_c : AskingField l (c_digit digits) ν.c
  field_c = rw (e, pre.is_node) (asking pre.accepted pre.node_below (in_c l pre.accepted pre.n pre.node_below))

pub still_short-a-requires : goal.still_short-a-requires
still_short-a-requires c = field_a c.args.node c.layout-digits.ensures c.requires

pub still_short-b-requires : goal.still_short-b-requires
still_short-b-requires c = field_b c.args.node c.layout-digits.ensures c.requires

pub still_short-requires : goal.still_short-requires
still_short-requires c = field_c c.args.node c.layout-digits.ensures c.requires
