-- Sums over a tree's nodes. The idea: a node's list is made of its children's, so a sum over it follows from what each node adds to its children's sums.
use Rattle.std.specs.Prelude.{◌≡◌, refl, Bool, true, false, cond, List, []}
use mathlib.Core.WellFounded.{fix}
use Prim.Native.Nat.{ℕ, zero, suc, ◌+◌, ◌<◌}
use Rattle.std.proofs.Common.{not-suc-le-zero, eq-eqb, ne_eqb}
use Rattle.std.proofs.Math.Decide.{ℕ_discrete}
use native.Mathlib.Omega.{arith}
use lib.WfN.{lt-wf_rel}
use Rattle.image.specs.declared.records.Node.{Node}
use Rattle.image.specs.Records.{node}
use Rattle.image.specs.Layout.{layout, a_digit, b_digit, c_digit, names_node}
use Rattle.image.specs.Rows.{node_fits}
use Rattle.image.specs.Listing.{slot_listing, node_listing, listing_below, listing}
use Rattle.image.specs.Inner.Lower.{Lower}
use Rattle.image.proofs.Theorem.Lower.{lower}
use Rattle.image.proofs.Theorem.Sums.{over, over_append}

-- ---- the listing of a node, from those of its children

pub listing_same : (l : List ℕ) (n k : ℕ) → k < n → listing_below l n k ≡ listing l k
unfolding listing_below listing
listing_same l zero k h = absurd (not-suc-le-zero h)
listing_same l (suc n) k h = go (ℕ_discrete k n) (listing_same l n k)
  where
    go : Dec (k ≡ n) → (k < n → listing_below l n k ≡ listing l k) → listing_below l (suc n) k ≡ listing l k
    go (yes p) ih = rw (eq-eqb k n p, p)
    go (no p) ih = rw (ne_eqb k n p) (ih (omega arith))

-- by whether a test holds
pub by_test : (b : Bool) (Q : Bool → Type 0) → (b ≡ true → Q true) → (b ≡ false → Q false) → Q b
by_test true Q t f = t refl
by_test false Q t f = f refl

-- the nodes of a field's tree
abbrev pub child_listing : List ℕ → ℕ → ℕ → List ℕ
child_listing l slot value = slot_listing (listing l) slot value

child_same : (l : List ℕ) (n slot value : ℕ) → (names_node slot ≡ true → value < n) → slot_listing (listing_below l n) slot value ≡ child_listing l slot value
unfolding slot_listing
child_same l n slot value is_lower =
    by_test (names_node slot) (λ u. cond u (listing_below l n value) [] ≡ cond u (listing l value) []) (λ e. listing_same l n value (is_lower e)) (λ e. refl)

-- a sum over a node's tree is made of those over its children's, and its own
pub over_at : (l : List ℕ) (n : ℕ) → Lower n (node l n) → (f : ℕ → ℕ) → (let digits : ℕ = layout (node l n).kind in
    over f (listing l n) ≡ over f (child_listing l (a_digit digits) (node l n).a)
    + (over f (child_listing l (b_digit digits) (node l n).b) + (over f (child_listing l (c_digit digits) (node l n).c) + f n)))
unfolding listing node_listing over
over_at l n low f =
    let digits : ℕ = layout (node l n).kind in
    rw (
      child_same l n (a_digit digits) (node l n).a low.a_lower,
      child_same l n (b_digit digits) (node l n).b low.b_lower,
      child_same l n (c_digit digits) (node l n).c low.c_lower,
    ) (simp over_append (omega arith))

-- ---- a sum over a tree, from what each node adds

-- what a field's child adds, and a node's children
unfoldable pub slot_sum : (ℕ → ℕ) → ℕ → ℕ → ℕ
slot_sum φ slot value = cond (names_node slot) (φ value) 0

unfoldable pub children_sum : (ℕ → ℕ) → Node → ℕ
children_sum φ ν =
    let digits : ℕ = layout ν.kind in
    slot_sum φ (a_digit digits) ν.a + (slot_sum φ (b_digit digits) ν.b + slot_sum φ (c_digit digits) ν.c)

slot_none : (φ : ℕ → ℕ) (n slot value : ℕ) → (names_node slot ≡ true → value < n) → ((v : ℕ) → v < n → φ v ≡ 0) → slot_sum φ slot value ≡ 0
unfolding slot_sum
slot_none φ n slot value is_lower zeros = by_test (names_node slot) (λ u. cond u (φ value) 0 ≡ 0) (λ e. zeros value (is_lower e)) (λ e. refl)

pub children_none : (φ : ℕ → ℕ) (n : ℕ) (ν : Node) → Lower n ν → ((v : ℕ) → v < n → φ v ≡ 0) → children_sum φ ν ≡ 0
unfolding children_sum
children_none φ n ν low zeros =
    let digits : ℕ = layout ν.kind in
    omega (
      arith,
      slot_none φ n (a_digit digits) ν.a low.a_lower zeros,
      slot_none φ n (b_digit digits) ν.b low.b_lower zeros,
      slot_none φ n (c_digit digits) ν.c low.c_lower zeros,
    )

child_sum : (l : List ℕ) (φ f g : ℕ → ℕ) (slot value : ℕ) → (names_node slot ≡ true → over f (listing l value) ≡ φ value + over g (listing l value))
    → over f (child_listing l slot value) ≡ slot_sum φ slot value + over g (child_listing l slot value)
unfolding slot_listing slot_sum over
child_sum l φ f g slot value e =
    by_test (names_node slot) (λ u. over f (cond u (listing l value) []) ≡ cond u (φ value) 0 + over g (cond u (listing l value) [])) e (λ e. refl)

module _ (l : List ℕ) (C P : ℕ) (fits : (n : ℕ) → n < P → node_fits C n (node l n) ≡ true) where
  low : (n : ℕ) → n < P → Lower n (node l n)
  low n h = lower C n (node l n) (fits n h)

  pub over_tree : (φ f g : ℕ → ℕ) → ((n : ℕ) → n < P → children_sum φ (node l n) + f n ≡ φ n + g n)
      → (n : ℕ) → n < P → over f (listing l n) ≡ φ n + over g (listing l n)
  unfolding children_sum
  over_tree φ f g step = fix {C = λ n. n < P → over f (listing l n) ≡ φ n + over g (listing l n)} lt-wf_rel.wf (λ n ih h.
      let ν : Node = node l n in
      let digits : ℕ = layout ν.kind in
      omega (
        arith,
        over_at l n (low n h) f,
        over_at l n (low n h) g,
        child_sum l φ f g (a_digit digits) ν.a (λ e. ih ν.a ((low n h).a_lower e) (omega (arith, (low n h).a_lower e))),
        child_sum l φ f g (b_digit digits) ν.b (λ e. ih ν.b ((low n h).b_lower e) (omega (arith, (low n h).b_lower e))),
        child_sum l φ f g (c_digit digits) ν.c (λ e. ih ν.c ((low n h).c_lower e) (omega (arith, (low n h).c_lower e))),
        step n h,
      ))
