-- How long an image is: as many nodes as the tree has, and so 8 bytes, 4 for each condition and 8 for each node.
use Rattle.std.specs.Prelude.{◌≡◌, refl, ℕ, suc, ◌+◌, ◌*◌, List, [], ◌++◌, length}
use Rattle.std.proofs.Common.{ap, arith, length-append}
use Rattle.imp.specs.Condition.{Condition}
use Rattle.imp.specs.Routine.{Arithmetic, number, variable, sum, pick, choiceᵃ, Boolean, falseᵇ, trueᵇ, notᵇ, andᵇ, less, choiceᵇ, Statement, skip, assign, sequence, if, while, throw, try, choice}
use Rattle.image.specs.Listing.{sizeᵃ, sizeᵇ, sizeˢ}
use Rattle.image.specs.Term.{head_word, bytes_of, all_bytes}
use Rattle.image.proofs.Theorem.Words.{length_bytes, length_all}
use Rattle.written.specs.Count.{sizeᶜ, recordsᵃ, recordsᵇ, recordsˢ}
use Rattle.written.specs.Image.{choicesˢ, nodesᵃ, nodesᵇ, nodesˢ, record_bytes, written_image}
use Rattle.written.proofs.Theorem.ImageRead.{longˢ as records-long, length_records}

mutual
  unfolding nodesᵃ sizeᵃ

  longᵃ : (t : Arithmetic Condition) (n k : ℕ) (r : List ℕ) (m p : ℕ) → length r ≡ m → sizeᵃ t + m ≡ p → length (nodesᵃ t n k r) ≡ p
  longᵃ (number z) n k r m p d q = omega arith
  longᵃ (variable j) n k r m p d q = omega arith
  longᵃ (sum a b) n k r m p d q = longᵃ a n k _ (sizeᵃ b + (suc m)) p (longᵃ b (n + sizeᵃ a) (k + recordsᵃ a) _ (suc m) (sizeᵃ b + (suc m)) (ap suc d) refl) (omega arith)
  longᵃ (pick e a b) n k r m p d q = longᵇ e n k _ (sizeᵃ a + (sizeᵃ b + (suc m))) p (longᵃ a (n + sizeᵇ e) (k + recordsᵇ e) _ (sizeᵃ b + (suc m)) (sizeᵃ a + (sizeᵃ b + (suc m))) (longᵃ b (n + sizeᵇ e + sizeᵃ a) (k + recordsᵇ e + recordsᵃ a) _ (suc m) (sizeᵃ b + (suc m)) (ap suc d) refl) refl) (omega arith)
  longᵃ (choiceᵃ c a b) n k r m p d q = longᵃ a n (k + sizeᶜ c) _ (sizeᵃ b + (suc m)) p (longᵃ b (n + sizeᵃ a) (k + sizeᶜ c + recordsᵃ a) _ (suc m) (sizeᵃ b + (suc m)) (ap suc d) refl) (omega arith)

  longᵇ : (t : Boolean Condition) (n k : ℕ) (r : List ℕ) (m p : ℕ) → length r ≡ m → sizeᵇ t + m ≡ p → length (nodesᵇ t n k r) ≡ p
  longᵇ falseᵇ n k r m p d q = omega arith
  longᵇ trueᵇ n k r m p d q = omega arith
  longᵇ (notᵇ e) n k r m p d q = longᵇ e n k _ (suc m) p (ap suc d) (omega arith)
  longᵇ (andᵇ x y) n k r m p d q = longᵇ x n k _ (sizeᵇ y + (suc m)) p (longᵇ y (n + sizeᵇ x) (k + recordsᵇ x) _ (suc m) (sizeᵇ y + (suc m)) (ap suc d) refl) (omega arith)
  longᵇ (less a b) n k r m p d q = longᵃ a n k _ (sizeᵃ b + (suc m)) p (longᵃ b (n + sizeᵃ a) (k + recordsᵃ a) _ (suc m) (sizeᵃ b + (suc m)) (ap suc d) refl) (omega arith)
  longᵇ (choiceᵇ c x y) n k r m p d q = longᵇ x n (k + sizeᶜ c) _ (sizeᵇ y + (suc m)) p (longᵇ y (n + sizeᵇ x) (k + sizeᶜ c + recordsᵇ x) _ (suc m) (sizeᵇ y + (suc m)) (ap suc d) refl) (omega arith)

longˢ : (t : Statement Condition) (n k : ℕ) (r : List ℕ) (m p : ℕ) → length r ≡ m → sizeˢ t + m ≡ p → length (nodesˢ t n k r) ≡ p
unfolding nodesˢ sizeˢ
longˢ skip n k r m p d q = omega arith
longˢ (assign j a) n k r m p d q = longᵃ a n k _ (suc m) p (ap suc d) (omega arith)
longˢ (sequence x y) n k r m p d q = longˢ x n k _ (sizeˢ y + (suc m)) p (longˢ y (n + sizeˢ x) (k + recordsˢ x) _ (suc m) (sizeˢ y + (suc m)) (ap suc d) refl) (omega arith)
longˢ (if e x y) n k r m p d q = longᵇ e n k _ (sizeˢ x + (sizeˢ y + (suc m))) p (longˢ x (n + sizeᵇ e) (k + recordsᵇ e) _ (sizeˢ y + (suc m)) (sizeˢ x + (sizeˢ y + (suc m))) (longˢ y (n + sizeᵇ e + sizeˢ x) (k + recordsᵇ e + recordsˢ x) _ (suc m) (sizeˢ y + (suc m)) (ap suc d) refl) refl) (omega arith)
longˢ (while e x) n k r m p d q = longᵇ e n k _ (sizeˢ x + (suc m)) p (longˢ x (n + sizeᵇ e) (k + recordsᵇ e) _ (suc m) (sizeˢ x + (suc m)) (ap suc d) refl) (omega arith)
longˢ (throw a) n k r m p d q = longᵃ a n k _ (suc m) p (ap suc d) (omega arith)
longˢ (try x j y) n k r m p d q = longˢ x n k _ (sizeˢ y + (suc m)) p (longˢ y (n + sizeˢ x) (k + recordsˢ x) _ (suc m) (sizeˢ y + (suc m)) (ap suc d) refl) (omega arith)
longˢ (choice c x y) n k r m p d q = longˢ x n (k + sizeᶜ c) _ (sizeˢ y + (suc m)) p (longˢ y (n + sizeˢ x) (k + sizeᶜ c + recordsˢ x) _ (suc m) (sizeˢ y + (suc m)) (ap suc d) refl) (omega arith)

pub nodes_long : (t : Statement Condition) → length (nodesˢ t 0 0 []) ≡ sizeˢ t
nodes_long t = longˢ t 0 0 [] 0 (sizeˢ t) refl (omega arith)

-- "length 8 + 4C + 8P"
pub image_length : (F : ℕ) (t : Statement Condition) → length (written_image F t) ≡ 8 + 4 * recordsˢ t + 8 * sizeˢ t
unfolding written_image
image_length F t =
    let head : List ℕ = bytes_of 8 (head_word F (recordsˢ t) (sizeˢ t)) in
    let records : List ℕ = record_bytes (choicesˢ t 0 []) in
    let nodes : List ℕ = all_bytes (nodesˢ t 0 0 []) in
    omega (
      arith,
      length-append head (records ++ nodes),
      length-append records nodes,
      length_bytes 8 (head_word F (recordsˢ t) (sizeˢ t)),
      length_records (choicesˢ t 0 []),
      records-long t 0 [],
      length_all (nodesˢ t 0 0 []),
      nodes_long t,
    )
