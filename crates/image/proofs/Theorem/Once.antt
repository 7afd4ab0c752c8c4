-- "Each node except the last is named exactly once; the last is the root": so every node is in the root's tree exactly once. The idea: a node is in a
-- tree as often as the tree's nodes name it, and once more if it is the root; downwards from the root, each node's namer is there once, so the node is.
use Rattle.std.specs.Prelude.{◌≡◌, refl, true, ◌&&◌, cond, List, ℕ, zero, suc, ◌+◌, ◌-◌, ◌*◌, ◌≤◌, ◌<◌, eqb, length}
use Rattle.std.proofs.Common.{◌∙◌, mul-zero, one-mul, arith}
use Rattle.std.proofs.Math.Decide.{dec_lt}
use Rattle.image.specs.declared.records.Node.{Node}
use Rattle.image.specs.Records.{node}
use Rattle.image.specs.Layout.{names_node}
use Rattle.image.specs.Rows.{node_fits, slot_names, node_names, names}
use Rattle.image.specs.Listing.{listing, times}
use Rattle.image.proofs.Theorem.Lower.{lower}
use Rattle.image.proofs.Theorem.Named.{same}
use Rattle.image.proofs.Theorem.Sums.{over, upto, over_none, times_over, length_over, upto_none, upto_ones, same_yes, same_no, over_once}
use Rattle.image.proofs.Theorem.Listed.{by_test, slot_sum, children_sum, children_none, over_tree}

-- ---- who names a node

-- how often node m names k
abbrev namers : List ℕ → ℕ → ℕ → ℕ
namers l k m = node_names (node l m) k

names_upto : (l : List ℕ) (n k : ℕ) → upto (namers l k) n ≡ names l n k
unfolding upto names
names_upto l zero k = refl
names_upto l (suc n) k = rw (names_upto l n k)

slot_named : (slot value k : ℕ) → slot_names slot value k ≡ slot_sum (λ v. same v k) slot value
unfolding slot_names slot_sum same
slot_named slot value k = by_test (names_node slot) (λ u. ◌≡◌ {A = ℕ} (cond (u && eqb value k) 1 0) (cond u (cond (eqb value k) 1 0) 0)) (λ e. refl) (λ e. refl)

-- a node names its children
node_named : (ν : Node) (k : ℕ) → node_names ν k ≡ children_sum (λ v. same v k) ν
unfolding node_names children_sum
node_named ν k = simp slot_named

-- ---- each node once

-- a list of all the numbers below P, each once
pub record Once (P : ℕ) (xs : List ℕ) : Type 0 where
  pub once : (k : ℕ) → k < P → times k xs ≡ 1
  pub no_other : (k : ℕ) → P ≤ k → times k xs ≡ 0
  pub as_many : length xs ≡ P

module _ (l : List ℕ) (C P : ℕ) (fits : (n : ℕ) → n < P → node_fits C n (node l n) ≡ true) where
  -- a node names only lower ones
  not_named : (n k : ℕ) → n < P → n ≤ k → namers l k n ≡ 0
  not_named n k h above =
      node_named (node l n) k ∙ children_none (λ v. same v k) n (node l n) (lower C n (node l n) (fits n h)) (λ v i. same_no v k (λ e. omega arith))

  -- k is in a tree as often as the tree's nodes name it, which is f for each, and once more if it is the root
  in_tree : (k : ℕ) (f : ℕ → ℕ) → ((m : ℕ) → m < P → namers l k m ≡ f m) → (n : ℕ) → n < P → times k (listing l n) ≡ same n k + over f (listing l n)
  in_tree k f e n h =
      times_over k (listing l n)
      ∙ over_tree l C P fits (λ v. same v k) (λ x. same x k) f (λ m i. omega (arith, node_named (node l m) k, e m i)) n h

  -- no number from P on is in a tree
  none_above : (n : ℕ) → n < P → (k : ℕ) → P ≤ k → times k (listing l n) ≡ 0
  none_above n h k above =
      omega (arith, in_tree k (λ m. 0) (λ m i. not_named m k i (omega arith)) n h, over_none (listing l n), same_no n k (λ e. omega arith))

  module _ (some : 0 < P) (named : (k : ℕ) → suc k < P → names l P k ≡ 1) where
    -- the root is named never, each other node once
    or_root : (k : ℕ) → k < P → same (P - 1) k + names l P k ≡ 1
    or_root k h = go (dec_lt (suc k) P)
      where
        go : Dec (suc k < P) → same (P - 1) k + names l P k ≡ 1
        go (yes p) = omega (arith, same_no (P - 1) k (λ e. omega arith), named k p)
        go (no p) = omega (
          arith,
          same_yes (P - 1) k (omega arith),
          names_upto l P k,
          upto_none (namers l k) P (λ m i. not_named m k i (omega arith)),
        )

    -- downwards: the nodes above k are in the tree once
    from_root : (d k : ℕ) → P ≤ k + d → k < P → times k (listing l (P - 1)) ≡ 1
    from_root zero k far h = absurd (omega arith)
    from_root (suc d) k far h =
        let weighed : (m : ℕ) → m < P → times m (listing l (P - 1)) * namers l k m ≡ namers l k m = λ m i. go m i (dec_lt k m) (from_root d m) in
        omega (
          arith,
          in_tree k (namers l k) (λ m i. refl) (P - 1) (omega arith),
          over_once (namers l k) P (listing l (P - 1)) (none_above (P - 1) (omega arith)) weighed,
          names_upto l P k,
          or_root k h,
        )
      where
        go : (m : ℕ) → m < P → Dec (k < m) → (P ≤ m + d → m < P → times m (listing l (P - 1)) ≡ 1) → times m (listing l (P - 1)) * namers l k m ≡ namers l k m
        go m i (yes p) ih = rw (ih (omega arith) i) (one-mul (namers l k m))
        go m i (no p) ih = rw (not_named m k i (omega arith)) (mul-zero (times m (listing l (P - 1))))

    pub each_once : Once P (listing l (P - 1))
    each_once =
        let one : (k : ℕ) → k < P → times k (listing l (P - 1)) ≡ 1 = λ k h. from_root P k (omega arith) h in
        record {
          once = one;
          no_other = none_above (P - 1) (omega arith);
          as_many = omega (
            arith,
            length_over (listing l (P - 1)),
            over_once (λ m. 1) P (listing l (P - 1)) (none_above (P - 1) (omega arith)) (λ m h. rw (one m h)),
            upto_ones P,
          );
        }
