-- Counting names: a field names a node at most once, a node another at most three times, and a counter goes up where a field names its node.
use mathlib.Core.Path.{◌≡◌, refl, sym, ◌∙◌}
use mathlib.Core.Bool.{Bool, true, false, ◌&&◌, cond}
use mathlib.Core.List.{List}
use Prim.Native.Nat.{ℕ, zero, suc, ◌+◌, ◌*◌, ◌≤◌, ◌<◌}
use native.Mathlib.Omega.{arith}
use lib.Dec.{eqb}
use lib.ListN.{length, get_or, set, replicate}
use lib.Seq.{get_or-set_same, get_or-set_other}
use borrow.Author.Tests.{eqb-true, eqb-false}
use Rattle.image.specs.declared.records.Node.{Node}
use Rattle.image.specs.Bytes.{Bytes}
use Rattle.image.specs.Records.{node}
use Rattle.image.specs.Layout.{layout, a_digit, b_digit, c_digit, names_node}
use Rattle.image.specs.Rows.{slot_names, node_names, names}

at_most_one : (b : Bool) → cond b 1 0 ≤ 1
at_most_one true = omega arith
at_most_one false = omega arith

pub slot_names_le : (slot value k : ℕ) → slot_names slot value k ≤ 1
unfolding slot_names
slot_names_le slot value k = at_most_one (names_node slot && eqb value k)

pub node_names_le : (ν : Node) (k : ℕ) → node_names ν k ≤ 3
unfolding node_names
node_names_le ν k =
    let digits : ℕ = layout ν.kind in
    omega (arith, slot_names_le (a_digit digits) ν.a k, slot_names_le (b_digit digits) ν.b k, slot_names_le (c_digit digits) ν.c k)

pub names_le : (l : Bytes) (n k : ℕ) → names l n k ≤ 3 * n
unfolding names
names_le l zero k = omega arith
names_le l (suc n) k = omega (arith, names_le l n k, node_names_le (node l n) k)

pub slot_names_none : (slot value k : ℕ) → names_node slot ≡ false → slot_names slot value k ≡ 0
unfolding slot_names
slot_names_none slot value k none = rw none

pub counted : (counts : List ℕ) (slot value k : ℕ) → names_node slot ≡ true → value < length counts
    → get_or (set counts value (get_or counts value 0 + 1)) k 0 ≡ get_or counts k 0 + slot_names slot value k
unfolding slot_names
counted counts slot value k named inside = go (eqb value k) refl
  where
    go : (b : Bool) → eqb value k ≡ b → get_or (set counts value (get_or counts value 0 + 1)) k 0 ≡ get_or counts k 0 + slot_names slot value k
    go true e = rw (named, e, ← eqb-true value k e) (get_or-set_same counts value _ 0 inside)
    go false e =
        rw (named, e) (get_or-set_other counts value k _ 0 (λ q. eqb-false value k e (sym q)) ∙ omega arith)

-- no counter has begun
pub none_yet : (n k : ℕ) → ◌≡◌ {A = ℕ} (get_or (replicate n 0) k 0) 0
none_yet zero k = refl
none_yet (suc n) zero = refl
none_yet (suc n) (suc k) = none_yet n k
