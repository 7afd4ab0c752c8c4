-- A term's image: its header says F = 0, C = 0 and its size, its nodes are its words, and its length is 8 bytes for each and 8 for the header.
use Rattle.std.specs.Prelude.{◌≡◌, length}
use Rattle.std.proofs.Common.{◌∙◌}
use Rattle.std.proofs.Math.Path.{ap}
use Prim.Native.Nat.{ℕ, suc, ◌+◌, ◌*◌, ◌^◌, ◌≤◌, ◌<◌}
use mathlib.Core.List.{List, [], ◌∷◌, ◌++◌}
use native.Mathlib.Omega.{arith}
use Rattle.image.specs.declared.records.Header.{Header}
use Rattle.image.specs.Bytes.{number_at}
use Rattle.image.specs.Records.{header_fields, header, nodes_from, node, node_fields}
use Rattle.image.specs.Layout.{layout, a_digit, b_digit, c_digit}
use Rattle.image.specs.Term.{Term, term, Branch, none, some, size, branch_size, name, head_word, node_word, words, branch_words, term_image}
use Rattle.image.proofs.Theorem.Words.{AllWords, word_at, length_all}
use Rattle.image.proofs.Theorem.Encoded.{name_small, Encoded, length_words}
use Rattle.image.proofs.Theorem.Fine.{Own, own_number, own_kind, Fine, FineBranch, variable_small}

-- ---- every word has 64 bits

all_append : (xs ys : List ℕ) → AllWords xs → AllWords ys → AllWords (xs ++ ys)
all_append [] ys f g = g
all_append (x ∷ xs) ys f g = (f.0, all_append xs ys f.1 g)

own_word : {k v value : ℕ} → Own k v value → (a b c : ℕ) → a < 4096 → b < 4096 → c < 4096 → node_word k v value a b c < 2 ^ 64
unfolding node_word
own_word (own_number h) a b c ha hb hc = omega arith
own_word (own_kind {v} hk nk known vf) a b c ha hb hc = omega (arith, variable_small _ v vf)

mutual
  unfolding Fine size words

  term_words : (t : Term) → Fine t → (at : ℕ) → at + size t ≤ 4096 → AllWords (words t at)
  term_words (term k v value a b c) fine at room =
      let at_b : ℕ = at + branch_size a in
      let at_c : ℕ = at_b + branch_size b in
      let own : ℕ = at_c + branch_size c in
      let last : AllWords (node_word k v value (name a at_b) (name b at_c) (name c own) ∷ []) =
      (own_word fine.0 (name a at_b) (name b at_c) (name c own) (name_small a at_b (omega arith)) (name_small b at_c (omega arith)) (name_small c own (omega arith)), tt) in
      all_append (branch_words a at) _ (words_of a (a_digit (layout k)) fine.1 at (omega arith))
      (all_append (branch_words b at_b) _ (words_of b (b_digit (layout k)) fine.2 at_b (omega arith))
      (all_append (branch_words c at_c) _ (words_of c (c_digit (layout k)) fine.3 at_c (omega arith)) last))

  words_of : (b : Branch) (slot : ℕ) → FineBranch slot b → (at : ℕ) → at + branch_size b ≤ 4096 → AllWords (branch_words b at)
  words_of none slot f at room = tt
  words_of (some t) slot f at room = term_words t f.2 at room

-- ---- the image

module _ (t : Term) (fine : Fine t) (room : size t ≤ 1024) where
  all_words : AllWords (head_word 0 0 (size t) ∷ words t 0)
  unfolding head_word
  all_words = (omega arith, term_words t fine 0 (omega arith))

  pub header_is : header (term_image t) ≡ header_fields (head_word 0 0 (size t))
  unfolding header term_image
  header_is = ap header_fields (word_at [] (head_word 0 0 (size t) ∷ words t 0) 0 (omega arith) all_words)

  pub header_says : (let h : Header = header (term_image t) in
      (h.edition ≡ 1) × (h.options ≡ 0) × (h.conditions ≡ 0) × (h.nodes ≡ size t) × (h.zero ≡ 0))
  unfolding head_word
  header_says = rw header_is (omega arith, omega arith, omega arith, omega arith, omega arith)

  pub nodes_are : Encoded (term_image t) 0 (words t 0)
  unfolding node nodes_from term_image
  nodes_are i h =
      let at : 8 + 4 * (header (term_image t)).conditions + 8 * (0 + i) ≡ 0 + 8 * suc i = omega (arith, header_says.2) in
      ap (λ n. node_fields (number_at (term_image t) n 8)) at
      ∙ ap node_fields (word_at [] (head_word 0 0 (size t) ∷ words t 0) (suc i) (omega (arith, length_words t 0)) all_words)

  pub length_is : length (term_image t) ≡ 8 + 8 * size t
  unfolding term_image
  length_is = length_all (head_word 0 0 (size t) ∷ words t 0) ∙ omega (arith, length_words t 0)
