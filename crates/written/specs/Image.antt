-- The image that reading gives: "nodes in configuring's order and one condition record for each written occurrence, choice by choice in text order, operands first".
use Rattle.std.specs.Prelude.{ℕ, ◌+◌, ◌-◌, List, [], ◌∷◌, ◌++◌}
use Rattle.imp.specs.Numbers.{low32}
use Rattle.imp.specs.Condition.{Condition, falseᶜ, trueᶜ, option, notᶜ, andᶜ, orᶜ}
use Rattle.imp.specs.Routine.{Arithmetic, number, variable, sum, pick, choiceᵃ, Boolean, falseᵇ, trueᵇ, notᵇ, andᵇ, less, choiceᵇ, Statement, skip, assign, sequence, if, while, throw, try, choice}
use Rattle.image.specs.Bytes.{Bytes}
use Rattle.image.specs.Listing.{sizeᵃ, sizeᵇ, sizeˢ}
use Rattle.image.specs.Term.{head_word, condition_word, node_word, bytes_of, all_bytes}
use Rattle.written.specs.Count.{sizeᶜ, recordsᵃ, recordsᵇ, recordsˢ}

-- ---- conditions: the records of a condition from number k on, before those of the rest r

unfoldable pub wordsᶜ : Condition → ℕ → List ℕ → List ℕ
wordsᶜ falseᶜ k r = condition_word 0 0 0 0 ∷ r
wordsᶜ trueᶜ k r = condition_word 1 0 0 0 ∷ r
wordsᶜ (option i) k r = condition_word 2 i 0 0 ∷ r
wordsᶜ (notᶜ c) k r = wordsᶜ c k (condition_word 3 0 (k + sizeᶜ c - 1) 0 ∷ r)
wordsᶜ (andᶜ c d) k r = wordsᶜ c k (wordsᶜ d (k + sizeᶜ c) (condition_word 4 0 (k + sizeᶜ c - 1) (k + sizeᶜ c + sizeᶜ d - 1) ∷ r))
wordsᶜ (orᶜ c d) k r = wordsᶜ c k (wordsᶜ d (k + sizeᶜ c) (condition_word 5 0 (k + sizeᶜ c - 1) (k + sizeᶜ c + sizeᶜ d - 1) ∷ r))

-- ---- a tree's conditions, choice by choice in text order

unfoldable mutual
  pub choicesᵃ : Arithmetic Condition → ℕ → List ℕ → List ℕ
  choicesᵃ (number z) k r = r
  choicesᵃ (variable v) k r = r
  choicesᵃ (sum a b) k r = choicesᵃ a k (choicesᵃ b (k + recordsᵃ a) r)
  choicesᵃ (pick e a b) k r = choicesᵇ e k (choicesᵃ a (k + recordsᵇ e) (choicesᵃ b (k + recordsᵇ e + recordsᵃ a) r))
  choicesᵃ (choiceᵃ c a b) k r = wordsᶜ c k (choicesᵃ a (k + sizeᶜ c) (choicesᵃ b (k + sizeᶜ c + recordsᵃ a) r))

  pub choicesᵇ : Boolean Condition → ℕ → List ℕ → List ℕ
  choicesᵇ trueᵇ k r = r
  choicesᵇ falseᵇ k r = r
  choicesᵇ (notᵇ e) k r = choicesᵇ e k r
  choicesᵇ (andᵇ e f) k r = choicesᵇ e k (choicesᵇ f (k + recordsᵇ e) r)
  choicesᵇ (less a b) k r = choicesᵃ a k (choicesᵃ b (k + recordsᵃ a) r)
  choicesᵇ (choiceᵇ c e f) k r = wordsᶜ c k (choicesᵇ e (k + sizeᶜ c) (choicesᵇ f (k + sizeᶜ c + recordsᵇ e) r))

unfoldable pub choicesˢ : Statement Condition → ℕ → List ℕ → List ℕ
choicesˢ skip k r = r
choicesˢ (assign v a) k r = choicesᵃ a k r
choicesˢ (sequence x y) k r = choicesˢ x k (choicesˢ y (k + recordsˢ x) r)
choicesˢ (if e x y) k r = choicesᵇ e k (choicesˢ x (k + recordsᵇ e) (choicesˢ y (k + recordsᵇ e + recordsˢ x) r))
choicesˢ (while e x) k r = choicesᵇ e k (choicesˢ x (k + recordsᵇ e) r)
choicesˢ (throw a) k r = choicesᵃ a k r
choicesˢ (try x v y) k r = choicesˢ x k (choicesˢ y (k + recordsˢ x) r)
choicesˢ (choice c x y) k r = wordsᶜ c k (choicesˢ x (k + sizeᶜ c) (choicesˢ y (k + sizeᶜ c + recordsˢ x) r))

-- ---- a tree's nodes from number n on, with its conditions from k on: "a node follows all of its subtree, children in the order a, b, c"

unfoldable mutual
  pub nodesᵃ : Arithmetic Condition → ℕ → ℕ → List ℕ → List ℕ
  nodesᵃ (number z) n k r = node_word 0 0 (low32 z) 0 0 0 ∷ r
  nodesᵃ (variable v) n k r = node_word 1 v 0 0 0 0 ∷ r
  nodesᵃ (sum a b) n k r = nodesᵃ a n k (nodesᵃ b (n + sizeᵃ a) (k + recordsᵃ a) (node_word 2 0 0 (n + sizeᵃ a - 1) (n + sizeᵃ a + sizeᵃ b - 1) 0 ∷ r))
  nodesᵃ (pick e a b) n k r =
      nodesᵇ e n k (nodesᵃ a (n + sizeᵇ e) (k + recordsᵇ e) (nodesᵃ b (n + sizeᵇ e + sizeᵃ a) (k + recordsᵇ e + recordsᵃ a)
      (node_word 3 0 0 (n + sizeᵇ e - 1) (n + sizeᵇ e + sizeᵃ a - 1) (n + sizeᵇ e + sizeᵃ a + sizeᵃ b - 1) ∷ r)))
  nodesᵃ (choiceᵃ c a b) n k r =
      nodesᵃ a n (k + sizeᶜ c) (nodesᵃ b (n + sizeᵃ a) (k + sizeᶜ c + recordsᵃ a)
      (node_word 4 0 0 (k + sizeᶜ c - 1) (n + sizeᵃ a - 1) (n + sizeᵃ a + sizeᵃ b - 1) ∷ r))

  pub nodesᵇ : Boolean Condition → ℕ → ℕ → List ℕ → List ℕ
  nodesᵇ falseᵇ n k r = node_word 8 0 0 0 0 0 ∷ r
  nodesᵇ trueᵇ n k r = node_word 9 0 0 0 0 0 ∷ r
  nodesᵇ (notᵇ e) n k r = nodesᵇ e n k (node_word 10 0 0 (n + sizeᵇ e - 1) 0 0 ∷ r)
  nodesᵇ (andᵇ e f) n k r = nodesᵇ e n k (nodesᵇ f (n + sizeᵇ e) (k + recordsᵇ e) (node_word 11 0 0 (n + sizeᵇ e - 1) (n + sizeᵇ e + sizeᵇ f - 1) 0 ∷ r))
  nodesᵇ (less a b) n k r = nodesᵃ a n k (nodesᵃ b (n + sizeᵃ a) (k + recordsᵃ a) (node_word 12 0 0 (n + sizeᵃ a - 1) (n + sizeᵃ a + sizeᵃ b - 1) 0 ∷ r))
  nodesᵇ (choiceᵇ c e f) n k r =
      nodesᵇ e n (k + sizeᶜ c) (nodesᵇ f (n + sizeᵇ e) (k + sizeᶜ c + recordsᵇ e)
      (node_word 13 0 0 (k + sizeᶜ c - 1) (n + sizeᵇ e - 1) (n + sizeᵇ e + sizeᵇ f - 1) ∷ r))

unfoldable pub nodesˢ : Statement Condition → ℕ → ℕ → List ℕ → List ℕ
nodesˢ skip n k r = node_word 16 0 0 0 0 0 ∷ r
nodesˢ (assign v a) n k r = nodesᵃ a n k (node_word 17 v 0 (n + sizeᵃ a - 1) 0 0 ∷ r)
nodesˢ (sequence x y) n k r = nodesˢ x n k (nodesˢ y (n + sizeˢ x) (k + recordsˢ x) (node_word 18 0 0 (n + sizeˢ x - 1) (n + sizeˢ x + sizeˢ y - 1) 0 ∷ r))
nodesˢ (if e x y) n k r =
    nodesᵇ e n k (nodesˢ x (n + sizeᵇ e) (k + recordsᵇ e) (nodesˢ y (n + sizeᵇ e + sizeˢ x) (k + recordsᵇ e + recordsˢ x)
    (node_word 19 0 0 (n + sizeᵇ e - 1) (n + sizeᵇ e + sizeˢ x - 1) (n + sizeᵇ e + sizeˢ x + sizeˢ y - 1) ∷ r)))
nodesˢ (while e x) n k r = nodesᵇ e n k (nodesˢ x (n + sizeᵇ e) (k + recordsᵇ e) (node_word 20 0 0 (n + sizeᵇ e - 1) (n + sizeᵇ e + sizeˢ x - 1) 0 ∷ r))
nodesˢ (throw a) n k r = nodesᵃ a n k (node_word 21 0 0 (n + sizeᵃ a - 1) 0 0 ∷ r)
nodesˢ (try x v y) n k r = nodesˢ x n k (nodesˢ y (n + sizeˢ x) (k + recordsˢ x) (node_word 22 v 0 (n + sizeˢ x - 1) (n + sizeˢ x + sizeˢ y - 1) 0 ∷ r))
nodesˢ (choice c x y) n k r =
    nodesˢ x n (k + sizeᶜ c) (nodesˢ y (n + sizeˢ x) (k + sizeᶜ c + recordsˢ x)
    (node_word 23 0 0 (k + sizeᶜ c - 1) (n + sizeˢ x - 1) (n + sizeˢ x + sizeˢ y - 1) ∷ r))

-- ---- the image

unfoldable pub record_bytes : List ℕ → Bytes
record_bytes [] = []
record_bytes (w ∷ ws) = bytes_of 4 w ++ record_bytes ws

unfoldable pub written_image : ℕ → Statement Condition → Bytes
written_image F t = bytes_of 8 (head_word F (recordsˢ t) (sizeˢ t)) ++ (record_bytes (choicesˢ t 0 []) ++ all_bytes (nodesˢ t 0 0 []))
