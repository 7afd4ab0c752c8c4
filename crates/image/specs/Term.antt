-- Terms, trees of nodes whatever their class, and the words and bytes of an image: "nodes numbered so that a node follows all of its subtree,
-- children in the order a, b, c" (document 01, "Configuring").
use Rattle.std.specs.Prelude.{ℕ, zero, suc, ◌+◌, ◌-◌, ◌*◌, ◌/◌, ◌%◌, ◌^◌, List, [], ◌∷◌, ◌++◌}
use Rattle.image.specs.Bytes.{Bytes}

mutual
  -- a node's kind, variable and value, and what hangs on a, b and c
  pub data Term : Type 0 where
    term : ℕ → ℕ → ℕ → Branch → Branch → Branch → Term

  pub data Branch : Type 0 where
    none : Branch
    some : Term → Branch

-- ---- numbering

unfoldable mutual
  -- how many nodes a term has
  pub size : Term → ℕ
  size (term kind v value a b c) = suc (branch_size a + branch_size b + branch_size c)

  pub branch_size : Branch → ℕ
  branch_size none = 0
  branch_size (some t) = size t

-- the name of a child that ends where the next node is numbered `next`; no child, no name
unfoldable pub name : Branch → ℕ → ℕ
name none next = 0
name (some t) next = next - 1

-- ---- words

-- edition 1, F, C, P
unfoldable pub head_word : ℕ → ℕ → ℕ → ℕ
head_word F conditions nodes = 2 ^ 56 + F * 2 ^ 52 + conditions * 2 ^ 40 + nodes * 2 ^ 28

-- "32 bits each: kind 4, option 4, left 12, right 12"
unfoldable pub condition_word : ℕ → ℕ → ℕ → ℕ → ℕ
condition_word kind i left right = kind * 2 ^ 28 + i * 2 ^ 24 + left * 2 ^ 12 + right

-- a node's 64 bits
unfoldable pub node_word : ℕ → ℕ → ℕ → ℕ → ℕ → ℕ → ℕ
node_word kind v value a b c = kind * 2 ^ 58 + v * 2 ^ 52 + a * 2 ^ 40 + b * 2 ^ 28 + c * 2 ^ 16 + value

unfoldable mutual
  -- the nodes of a term whose first is numbered `at`
  pub words : Term → ℕ → List ℕ
  words (term kind v value a b c) at =
      let at_b : ℕ = at + branch_size a in
      let at_c : ℕ = at_b + branch_size b in
      let own : ℕ = at_c + branch_size c in
      branch_words a at ++ (branch_words b at_b ++ (branch_words c at_c ++ (node_word kind v value (name a at_b) (name b at_c) (name c own) ∷ [])))

  pub branch_words : Branch → ℕ → List ℕ
  branch_words none at = []
  branch_words (some t) at = words t at

-- ---- bytes

-- the lowest n bytes of w, most significant first
unfoldable pub bytes_of : ℕ → ℕ → Bytes
bytes_of zero w = []
bytes_of (suc n) w = bytes_of n (w / 256) ++ (w % 256 ∷ [])

unfoldable pub all_bytes : List ℕ → Bytes
all_bytes [] = []
all_bytes (w ∷ ws) = bytes_of 8 w ++ all_bytes ws

-- F = 0, C = 0
unfoldable pub term_image : Term → Bytes
term_image t = all_bytes (head_word 0 0 (size t) ∷ words t 0)
