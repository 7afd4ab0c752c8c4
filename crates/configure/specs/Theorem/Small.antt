-- A configured term is no larger than the tree that it comes from, so it has at most P nodes.
use Rattle.std.specs.Prelude.{◌≡◌, Bool, true, false, cond, List, []}
use Rattle.std.proofs.Math.Path.{refl}
use Rattle.std.proofs.Common.{ap}
use mathlib.Core.WellFounded.{fix}
use Prim.Native.Nat.{ℕ, ◌≤◌, ◌<◌}
use native.Mathlib.Omega.{arith}
use lib.WfN.{lt-wf_rel}
use Rattle.imp.specs.Condition.{holds}
use Rattle.image.specs.declared.records.Node.{Node}
use Rattle.image.specs.Records.{header, node}
use Rattle.image.specs.Layout.{layout, a_digit, b_digit, c_digit, names_node, is_choice}
use Rattle.image.specs.Listing.{slot_listing, listing}
use Rattle.image.specs.Tree.{condition}
use Rattle.image.specs.Term.{size, branch_size}
use Rattle.image.specs.Accepted.{Accepted}
use Rattle.image.specs.Inner.Lower.{Lower}
use Rattle.image.proofs.Theorem.Lower.{lower}
use Rattle.image.proofs.Theorem.Choosing.{choice_parts}
use Rattle.image.proofs.Theorem.Sums.{over, length_over}
use Rattle.image.proofs.Theorem.Listed.{by_test, child_listing, over_at}
use Rattle.image.proofs.Theorem.Inside.{tree_small}
use Rattle.configure.specs.Inner.Term.{hang, term_at}
use Rattle.configure.specs.Theorem.Terms.{choice_term, node_term}

module _ (l : List ℕ) (acc : Accepted l) (s : ℕ) where
  -- the term of n is no larger than the tree
  abbrev Fits : ℕ → Type 0
  Fits n = size (term_at l s n) ≤ over (λ x. 1) (listing l n)

  child_fits : (n slot value : ℕ) → (names_node slot ≡ true → value < n) → ((v : ℕ) → v < n → Fits v)
      → branch_size (hang (names_node slot) (term_at l s) value) ≤ over (λ x. 1) (child_listing l slot value)
  unfolding slot_listing over hang branch_size
  child_fits n slot value low ih = by_test (names_node slot) (λ u. branch_size (hang u (term_at l s) value) ≤ over (λ x. 1) (cond u (listing l value) []))
      (λ e. ih value (low e)) (λ e. omega arith)

  listed : (slot value : ℕ) → names_node slot ≡ true → over (λ x. 1) (child_listing l slot value) ≡ over (λ x. 1) (listing l value)
  unfolding slot_listing
  listed slot value e = rw e

  part_fits : (n b c : ℕ) (u : Bool) → Fits b → Fits c → size (term_at l s n) ≡ size (term_at l s (cond u b c))
      → over (λ x. 1) (listing l b) ≤ over (λ x. 1) (listing l n) → over (λ x. 1) (listing l c) ≤ over (λ x. 1) (listing l n) → Fits n
  part_fits n b c true fb fc e hb hc = omega arith
  part_fits n b c false fb fc e hb hc = omega arith

  fits : (n : ℕ) → n < (header l).nodes → Fits n
  unfolding size
  fits = fix {C = λ n. n < (header l).nodes → Fits n} lt-wf_rel.wf λ n ih h.
      let ν : Node = node l n in
      let digits : ℕ = layout ν.kind in
      let low : Lower n ν = lower (header l).conditions n ν (acc.nodes_fit n h) in
      let below : (v : ℕ) → v < n → Fits v = λ v i. ih v i (omega arith) in
      let all = over_at l n low (λ x. 1) in
      by_test (is_choice ν.kind) (λ u. is_choice ν.kind ≡ u → Fits n)
      (λ c e.
      let parts = choice_parts ν.kind c in
      part_fits n ν.b ν.c (holds (condition l ν.a) s) (below ν.b (low.b_lower parts.0)) (below ν.c (low.c_lower parts.1))
      (ap size (choice_term l s n c (low.b_lower parts.0) (low.c_lower parts.1)))
      (omega (arith, all, listed (b_digit digits) ν.b parts.0)) (omega (arith, all, listed (c_digit digits) ν.c parts.1)))
      (λ c e. rw (node_term l s n e low.a_lower low.b_lower low.c_lower) (omega (
        arith,
        all,
        child_fits n (a_digit digits) ν.a low.a_lower below,
        child_fits n (b_digit digits) ν.b low.b_lower below,
        child_fits n (c_digit digits) ν.c low.c_lower below,
      )))
      refl

  pub size_small : (n : ℕ) → n < (header l).nodes → size (term_at l s n) ≤ (header l).nodes
  size_small n h = omega (arith, fits n h, length_over (listing l n), tree_small l acc n h)
