-- An image's nodes, tree by tree: where a tree's words stand its nodes pass tests 6 to 8, and a choice's field a is the number of its condition.
use Rattle.std.proofs.Math.Path.{refl, subst}
use Rattle.std.specs.Prelude.{ℕ, ◌+◌, ◌-◌, ◌≤◌, List}
use Rattle.std.proofs.Common.{arith, lt-ltb}
use Rattle.imp.specs.Numbers.{low32}
use Rattle.imp.specs.Condition.{Condition}
use Rattle.imp.specs.Routine.{Arithmetic, number, variable, sum, pick, choiceᵃ, Boolean, falseᵇ, trueᵇ, notᵇ, andᵇ, less, choiceᵇ, Statement, skip, assign, sequence, if, while, throw, try, choice}
use Rattle.imp.specs.Valid.{Validᵃ, Validᵇ, Valid}
use Rattle.imp.proofs.Theorem.Wrap.{low_fits}
use Rattle.image.specs.Layout.{kinds, layout, names_node, field_fits}
use Rattle.image.specs.Listing.{sizeᵃ, sizeᵇ, sizeˢ}
use Rattle.written.specs.Count.{sizeᶜ, recordsᵃ, recordsᵇ, recordsˢ}
use Rattle.written.specs.Image.{nodesᵃ, nodesᵇ, nodesˢ}
use Rattle.written.proofs.Theorem.Back.{Nodes, someᶜ}
use Rattle.written.proofs.Theorem.Stretch.{Tree, number_tree}
use Rattle.written.proofs.Theorem.Shapes.{no_child, one_child, two_children, three_children, chosen}

module _ (l : List ℕ) (C : ℕ) (few : C ≤ 4096) where
  mutual
    unfolding nodesᵃ sizeᵃ recordsᵃ Validᵃ layout kinds names_node field_fits

    treeᵃ : (t : Arithmetic Condition) → Validᵃ t → (n k : ℕ) (r : List ℕ) → n + sizeᵃ t ≤ 4096 → k + recordsᵃ t ≤ C → Nodes l n (nodesᵃ t n k r)
        → Tree l C n (sizeᵃ t) 1 × Nodes l (n + sizeᵃ t) r
    treeᵃ (number z) v n k r m mk h = (number_tree l C n (low32 z) (low_fits z) m h.0, subst (λ i. Nodes l i r) (omega arith) h.1)
    treeᵃ (variable j) v n k r m mk h =
        (no_child l C 1 j refl (lt-ltb j 16 v) n refl refl refl m h.0, subst (λ i. Nodes l i r) (omega arith) h.1)
    treeᵃ (sum a b) v n k r m mk h =
        let pa = treeᵃ a v.0 n k _ (omega arith) (omega arith) h in
        let pb = treeᵃ b v.1 (n + sizeᵃ a) (k + recordsᵃ a) _ (omega arith) (omega arith) pa.1 in
        (two_children l C 2 0 refl refl refl refl refl pa.0 pb.0 m pb.1.0, subst (λ i. Nodes l i r) (omega arith) pb.1.1)
    treeᵃ (pick e a b) v n k r m mk h =
        let pe = treeᵇ e v.0 n k _ (omega arith) (omega arith) h in
        let pa = treeᵃ a v.1 (n + sizeᵇ e) (k + recordsᵇ e) _ (omega arith) (omega arith) pe.1 in
        let pb = treeᵃ b v.2 (n + sizeᵇ e + sizeᵃ a) (k + recordsᵇ e + recordsᵃ a) _ (omega arith) (omega arith) pa.1 in
        (three_children l C 3 0 refl refl refl refl refl pe.0 pa.0 pb.0 m pb.1.0, subst (λ i. Nodes l i r) (omega arith) pb.1.1)
    treeᵃ (choiceᵃ c a b) v n k r m mk h =
        let pa = treeᵃ a v.0 n (k + sizeᶜ c) _ (omega arith) (omega arith) h in
        let pb = treeᵃ b v.1 (n + sizeᵃ a) (k + sizeᶜ c + recordsᵃ a) _ (omega arith) (omega arith) pa.1 in
        (chosen l C 4 0 refl refl (k + sizeᶜ c - 1) refl refl refl (omega (arith, someᶜ c)) few pa.0 pb.0 m pb.1.0, subst (λ i. Nodes l i r) (omega arith) pb.1.1)

    treeᵇ : (t : Boolean Condition) → Validᵇ t → (n k : ℕ) (r : List ℕ) → n + sizeᵇ t ≤ 4096 → k + recordsᵇ t ≤ C → Nodes l n (nodesᵇ t n k r)
        → Tree l C n (sizeᵇ t) 2 × Nodes l (n + sizeᵇ t) r
    treeᵇ falseᵇ v n k r m mk h =
        (no_child l C 8 0 refl refl n refl refl refl m h.0, subst (λ i. Nodes l i r) (omega arith) h.1)
    treeᵇ trueᵇ v n k r m mk h =
        (no_child l C 9 0 refl refl n refl refl refl m h.0, subst (λ i. Nodes l i r) (omega arith) h.1)
    treeᵇ (notᵇ e) v n k r m mk h =
        let pe = treeᵇ e v n k _ (omega arith) (omega arith) h in
        (one_child l C 10 0 refl refl refl refl refl pe.0 m pe.1.0, subst (λ i. Nodes l i r) (omega arith) pe.1.1)
    treeᵇ (andᵇ e f) v n k r m mk h =
        let pe = treeᵇ e v.0 n k _ (omega arith) (omega arith) h in
        let pf = treeᵇ f v.1 (n + sizeᵇ e) (k + recordsᵇ e) _ (omega arith) (omega arith) pe.1 in
        (two_children l C 11 0 refl refl refl refl refl pe.0 pf.0 m pf.1.0, subst (λ i. Nodes l i r) (omega arith) pf.1.1)
    treeᵇ (less a b) v n k r m mk h =
        let pa = treeᵃ a v.0 n k _ (omega arith) (omega arith) h in
        let pb = treeᵃ b v.1 (n + sizeᵃ a) (k + recordsᵃ a) _ (omega arith) (omega arith) pa.1 in
        (two_children l C 12 0 refl refl refl refl refl pa.0 pb.0 m pb.1.0, subst (λ i. Nodes l i r) (omega arith) pb.1.1)
    treeᵇ (choiceᵇ c e f) v n k r m mk h =
        let pe = treeᵇ e v.0 n (k + sizeᶜ c) _ (omega arith) (omega arith) h in
        let pf = treeᵇ f v.1 (n + sizeᵇ e) (k + sizeᶜ c + recordsᵇ e) _ (omega arith) (omega arith) pe.1 in
        (chosen l C 13 0 refl refl (k + sizeᶜ c - 1) refl refl refl (omega (arith, someᶜ c)) few pe.0 pf.0 m pf.1.0, subst (λ i. Nodes l i r) (omega arith) pf.1.1)

  pub treeˢ : (t : Statement Condition) → Valid t → (n k : ℕ) (r : List ℕ) → n + sizeˢ t ≤ 4096 → k + recordsˢ t ≤ C → Nodes l n (nodesˢ t n k r)
      → Tree l C n (sizeˢ t) 3 × Nodes l (n + sizeˢ t) r
  unfolding nodesˢ sizeˢ recordsˢ Valid layout kinds names_node field_fits
  treeˢ skip v n k r m mk h =
      (no_child l C 16 0 refl refl n refl refl refl m h.0, subst (λ i. Nodes l i r) (omega arith) h.1)
  treeˢ (assign j a) v n k r m mk h =
      let pa = treeᵃ a v.1 n k _ (omega arith) (omega arith) h in
      (one_child l C 17 j refl (lt-ltb j 16 v.0) refl refl refl pa.0 m pa.1.0, subst (λ i. Nodes l i r) (omega arith) pa.1.1)
  treeˢ (sequence x y) v n k r m mk h =
      let px = treeˢ x v.0 n k _ (omega arith) (omega arith) h in
      let py = treeˢ y v.1 (n + sizeˢ x) (k + recordsˢ x) _ (omega arith) (omega arith) px.1 in
      (two_children l C 18 0 refl refl refl refl refl px.0 py.0 m py.1.0, subst (λ i. Nodes l i r) (omega arith) py.1.1)
  treeˢ (if e x y) v n k r m mk h =
      let pe = treeᵇ e v.0 n k _ (omega arith) (omega arith) h in
      let px = treeˢ x v.1 (n + sizeᵇ e) (k + recordsᵇ e) _ (omega arith) (omega arith) pe.1 in
      let py = treeˢ y v.2 (n + sizeᵇ e + sizeˢ x) (k + recordsᵇ e + recordsˢ x) _ (omega arith) (omega arith) px.1 in
      (three_children l C 19 0 refl refl refl refl refl pe.0 px.0 py.0 m py.1.0, subst (λ i. Nodes l i r) (omega arith) py.1.1)
  treeˢ (while e x) v n k r m mk h =
      let pe = treeᵇ e v.0 n k _ (omega arith) (omega arith) h in
      let px = treeˢ x v.1 (n + sizeᵇ e) (k + recordsᵇ e) _ (omega arith) (omega arith) pe.1 in
      (two_children l C 20 0 refl refl refl refl refl pe.0 px.0 m px.1.0, subst (λ i. Nodes l i r) (omega arith) px.1.1)
  treeˢ (throw a) v n k r m mk h =
      let pa = treeᵃ a v n k _ (omega arith) (omega arith) h in
      (one_child l C 21 0 refl refl refl refl refl pa.0 m pa.1.0, subst (λ i. Nodes l i r) (omega arith) pa.1.1)
  treeˢ (try x j y) v n k r m mk h =
      let px = treeˢ x v.0 n k _ (omega arith) (omega arith) h in
      let py = treeˢ y v.2 (n + sizeˢ x) (k + recordsˢ x) _ (omega arith) (omega arith) px.1 in
      (two_children l C 22 j refl (lt-ltb j 16 v.1) refl refl refl px.0 py.0 m py.1.0, subst (λ i. Nodes l i r) (omega arith) py.1.1)
  treeˢ (choice c x y) v n k r m mk h =
      let px = treeˢ x v.0 n (k + sizeᶜ c) _ (omega arith) (omega arith) h in
      let py = treeˢ y v.1 (n + sizeˢ x) (k + sizeᶜ c + recordsˢ x) _ (omega arith) (omega arith) px.1 in
      (chosen l C 23 0 refl refl (k + sizeᶜ c - 1) refl refl refl (omega (arith, someᶜ c)) few px.0 py.0 m py.1.0, subst (λ i. Nodes l i r) (omega arith) py.1.1)
