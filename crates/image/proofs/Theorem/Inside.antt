-- A tree that stands inside another is no larger; so in an accepted image, where every node stands in the root's tree, no tree has more than P nodes.
use Rattle.std.specs.Prelude.{◌≡◌, true, cond, List, [], ℕ, zero, suc, ◌+◌, ◌-◌, ◌≤◌, ◌<◌, length}
use Rattle.std.proofs.Common.{sym, ◌∙◌, le_refl, arith, ne_eqb}
use mathlib.Core.WellFounded.{fix}
use Rattle.std.proofs.Math.Decide.{ℕ_discrete}
use lib.WfN.{lt-wf_rel}
use Rattle.image.specs.declared.records.Node.{Node}
use Rattle.image.specs.Records.{header, node}
use Rattle.image.specs.Layout.{layout, a_digit, b_digit, c_digit, names_node}
use Rattle.image.specs.Listing.{slot_listing, listing}
use Rattle.image.specs.Accepted.{Accepted}
use Rattle.image.specs.Inner.Lower.{Lower}
use Rattle.image.proofs.Theorem.Lower.{lower}
use Rattle.image.proofs.Theorem.Named.{same}
use Rattle.image.proofs.Theorem.Sums.{over, times_over, length_over}
use Rattle.image.proofs.Theorem.Listed.{by_test, child_listing, over_at}
use Rattle.image.proofs.Theorem.Once.{each_once}

not_same : (r k : ℕ) → (r ≡ k → ⊥) → same r k ≡ 0
unfolding same
not_same r k e = rw (ne_eqb r k e)

module _ (l : List ℕ) (acc : Accepted l) where
  -- k stands in a tree no smaller than its own
  abbrev Holds : ℕ → List ℕ → Type 0
  Holds k xs = 0 < over (λ x. same x k) xs → over (λ x. 1) (listing l k) ≤ over (λ x. 1) xs

  in-child : (k n slot value : ℕ) → (names_node slot ≡ true → value < n) → ((v : ℕ) → v < n → Holds k (listing l v)) → Holds k (child_listing l slot value)
  unfolding slot_listing over
  in-child k n slot value low ih = by_test (names_node slot) (λ u. Holds k (cond u (listing l value) [])) (λ e. ih value (low e)) (λ e h. absurd (omega arith))

  inside : (k r : ℕ) → r < (header l).nodes → Holds k (listing l r)
  inside k = fix {C = λ r. r < (header l).nodes → Holds k (listing l r)} lt-wf_rel.wf λ r ih h some.
      let ν : Node = node l r in
      let digits : ℕ = layout ν.kind in
      let low : Lower r ν = lower (header l).conditions r ν (acc.nodes_fit r h) in
      let below : (v : ℕ) → v < r → Holds k (listing l v) = λ v i. ih v i (omega arith) in
      go r (ℕ_discrete r k)
      (over (λ x. same x k) (child_listing l (a_digit digits) ν.a)) (over (λ x. same x k) (child_listing l (b_digit digits) ν.b))
      (over (λ x. same x k) (child_listing l (c_digit digits) ν.c))
      (in-child k r (a_digit digits) ν.a low.a_lower below) (in-child k r (b_digit digits) ν.b low.b_lower below)
      (in-child k r (c_digit digits) ν.c low.c_lower below) (over_at l r low (λ x. same x k)) (over_at l r low (λ x. 1)) some
    where
      go : (r : ℕ) → Dec (r ≡ k) → (a b c : ℕ) {la lb lc : ℕ} → (0 < a → over (λ x. 1) (listing l k) ≤ la) → (0 < b → over (λ x. 1) (listing l k) ≤ lb)
          → (0 < c → over (λ x. 1) (listing l k) ≤ lc) → over (λ x. same x k) (listing l r) ≡ a + (b + (c + same r k))
          → over (λ x. 1) (listing l r) ≡ la + (lb + (lc + 1)) → 0 < over (λ x. same x k) (listing l r) → over (λ x. 1) (listing l k) ≤ over (λ x. 1) (listing l r)
      go r (yes e) a b c ha hb hc count size some = rw e (le_refl _)
      go r (no e) zero zero zero ha hb hc count size some = absurd (omega (arith, not_same r k e))
      go r (no e) (suc a) b c ha hb hc count size some = omega (arith, ha (omega arith))
      go r (no e) zero (suc b) c ha hb hc count size some = omega (arith, hb (omega arith))
      go r (no e) zero zero (suc c) ha hb hc count size some = omega (arith, hc (omega arith))

  pub tree_small : (n : ℕ) → n < (header l).nodes → length (listing l n) ≤ (header l).nodes
  tree_small n h =
      let whole = each_once l (header l).conditions (header l).nodes acc.nodes_fit acc.some_node acc.named_once in
      let some : over (λ x. same x n) (listing l ((header l).nodes - 1)) ≡ 1 = sym (times_over n (listing l ((header l).nodes - 1))) ∙ whole.once n h in
      omega (
        arith,
        inside n ((header l).nodes - 1) (omega (arith, acc.some_node)) (omega arith),
        length_over (listing l n),
        length_over (listing l ((header l).nodes - 1)),
        whole.as_many,
      )
