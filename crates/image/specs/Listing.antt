-- Which nodes a tree is made of: their numbers in the order of a walk, the children in a, b and c before the node itself. Each list is made from
-- those of the nodes before it, so the definition is total, as that of the tree is.
use Rattle.std.specs.Prelude.{ℕ, zero, suc, ◌+◌, cond, List, [], ◌∷◌, ◌++◌, eqb}
use Rattle.imp.specs.State.{branch}
use Rattle.imp.specs.Routine.{Arithmetic, number, variable, sum, pick, choiceᵃ, Boolean, falseᵇ, trueᵇ, notᵇ, andᵇ, less, choiceᵇ, Statement, skip, assign, sequence, if, while, throw, try, choice}
use Rattle.image.specs.declared.records.Node.{Node}
use Rattle.image.specs.Bytes.{Bytes}
use Rattle.image.specs.Records.{node}
use Rattle.image.specs.Layout.{layout, a_digit, b_digit, c_digit, names_node}

-- ---- the nodes of a tree

-- those of a field, where `at` gives the nodes of each node's tree: none if it names no node
unfoldable pub slot_listing : (ℕ → List ℕ) → ℕ → ℕ → List ℕ
slot_listing at slot value = cond (names_node slot) (at value) []

unfoldable pub node_listing : (ℕ → List ℕ) → ℕ → Node → List ℕ
node_listing at n ν =
    let digits : ℕ = layout ν.kind in
    slot_listing at (a_digit digits) ν.a ++ (slot_listing at (b_digit digits) ν.b ++ (slot_listing at (c_digit digits) ν.c ++ (n ∷ [])))

-- the nodes of node k's tree, from those below n
unfoldable pub listing_below : Bytes → ℕ → ℕ → List ℕ
listing_below l zero k = []
listing_below l (suc n) k = branch (eqb k n) (λ _. node_listing (listing_below l n) n (node l n)) (λ _. listing_below l n k) []

unfoldable pub listing : Bytes → ℕ → List ℕ
listing l n = node_listing (listing_below l n) n (node l n)

-- how often k is in a list
unfoldable pub times : ℕ → List ℕ → ℕ
times k [] = 0
times k (x ∷ xs) = cond (eqb x k) 1 0 + times k xs

-- ---- how many nodes a tree has, choices counted too

unfoldable mutual
  pub sizeᵃ : {C : Type 0} → Arithmetic C → ℕ
  sizeᵃ (number n) = 1
  sizeᵃ (variable v) = 1
  sizeᵃ (sum a b) = suc (sizeᵃ a + sizeᵃ b)
  sizeᵃ (pick e a b) = suc (sizeᵇ e + sizeᵃ a + sizeᵃ b)
  sizeᵃ (choiceᵃ c a b) = suc (sizeᵃ a + sizeᵃ b)

  pub sizeᵇ : {C : Type 0} → Boolean C → ℕ
  sizeᵇ falseᵇ = 1
  sizeᵇ trueᵇ = 1
  sizeᵇ (notᵇ e) = suc (sizeᵇ e)
  sizeᵇ (andᵇ e f) = suc (sizeᵇ e + sizeᵇ f)
  sizeᵇ (less a b) = suc (sizeᵃ a + sizeᵃ b)
  sizeᵇ (choiceᵇ c e f) = suc (sizeᵇ e + sizeᵇ f)

unfoldable pub sizeˢ : {C : Type 0} → Statement C → ℕ
sizeˢ skip = 1
sizeˢ (assign v a) = suc (sizeᵃ a)
sizeˢ (sequence x y) = suc (sizeˢ x + sizeˢ y)
sizeˢ (if e x y) = suc (sizeᵇ e + sizeˢ x + sizeˢ y)
sizeˢ (while e x) = suc (sizeᵇ e + sizeˢ x)
sizeˢ (throw a) = suc (sizeᵃ a)
sizeˢ (try x v y) = suc (sizeˢ x + sizeˢ y)
sizeˢ (choice c x y) = suc (sizeˢ x + sizeˢ y)
