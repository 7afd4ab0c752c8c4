-- Where a term's words stand in an image, each subterm's words stand in a stretch of their own, followed by its node.
use Rattle.std.specs.Prelude.{◌≡◌, refl, ℕ, suc, ◌+◌, ◌-◌, ◌≤◌, ◌<◌, List, [], ◌∷◌, ◌++◌, length, get_or}
use Rattle.std.proofs.Common.{◌∙◌, ap, arith, length-append, get_or-append-add}
use Rattle.std.proofs.Math.Decide.{dec_lt}
use Rattle.std.proofs.Math.ListN.{get_or-append}
use Rattle.image.specs.Records.{node, node_fields}
use Rattle.image.specs.Term.{Term, term, Branch, none, some, size, branch_size, name, node_word, words, branch_words}

-- ---- lengths

mutual
  unfolding size words

  pub length_words : (t : Term) (at : ℕ) → length (words t at) ≡ size t
  length_words (term k v value a b c) at =
      let at_b : ℕ = at + branch_size a in
      let at_c : ℕ = at_b + branch_size b in
      let own : List ℕ = node_word k v value (name a at_b) (name b at_c) (name c (at_c + branch_size c)) ∷ [] in
      omega (
        arith,
        length-append (branch_words a at) (branch_words b at_b ++ (branch_words c at_c ++ own)),
        length-append (branch_words b at_b) (branch_words c at_c ++ own),
        length-append (branch_words c at_c) own,
        length_branch a at,
        length_branch b at_b,
        length_branch c at_c,
      )

  pub length_branch : (b : Branch) (at : ℕ) → length (branch_words b at) ≡ branch_size b
  length_branch none at = refl
  length_branch (some t) at = length_words t at

pub size_some : (t : Term) → 0 < size t
unfolding size
size_some (term k v value a b c) = omega arith

-- a name has 12 bits where the numbers of the nodes do
pub name_small : (b : Branch) (n : ℕ) → n ≤ 4096 → name b n < 4096
unfolding name
name_small none n h = omega arith
name_small (some t) n h = omega arith

-- ---- words in an image

-- the nodes of l from `at` are those words
abbrev pub Encoded : List ℕ → ℕ → List ℕ → Type 0
Encoded l at ws = (i : ℕ) → i < length ws → node l (at + i) ≡ node_fields (get_or ws i 0)

encoded_left : (l : List ℕ) (at : ℕ) (xs ys : List ℕ) → Encoded l at (xs ++ ys) → Encoded l at xs
encoded_left l at xs ys e i h =
    e i (omega (arith, length-append xs ys)) ∙ ap node_fields (get_or-append xs ys 0 i h)

encoded_right : (l : List ℕ) (at : ℕ) (xs ys : List ℕ) → Encoded l at (xs ++ ys) → (n : ℕ) → length xs ≡ n → Encoded l (at + n) ys
encoded_right l at xs ys e n q i h =
    ap (node l) (omega arith) ∙ e (length xs + i) (omega (arith, length-append xs ys)) ∙ ap node_fields (get_or-append-add xs ys i 0)

-- a term's branches, and its own node after them
pub record Parts (l : List ℕ) (at k v value : ℕ) (a b c : Branch) : Type 0 where
  pub in_a : Encoded l at (branch_words a at)
  pub in_b : Encoded l (at + branch_size a) (branch_words b (at + branch_size a))
  pub in_c : Encoded l (at + branch_size a + branch_size b) (branch_words c (at + branch_size a + branch_size b))
  pub own : node l (at + branch_size a + branch_size b + branch_size c)
      ≡ node_fields (node_word k v value (name a (at + branch_size a)) (name b (at + branch_size a + branch_size b)) (name c (at + branch_size a + branch_size b + branch_size c)))

pub parts : (l : List ℕ) (at k v value : ℕ) (a b c : Branch) → Encoded l at (words (term k v value a b c) at) → Parts l at k v value a b c
unfolding words
parts l at k v value a b c e =
    let at_b : ℕ = at + branch_size a in
    let at_c : ℕ = at_b + branch_size b in
    let own : List ℕ = node_word k v value (name a at_b) (name b at_c) (name c (at_c + branch_size c)) ∷ [] in
    let e₁ : Encoded l at_b (branch_words b at_b ++ (branch_words c at_c ++ own)) =
    encoded_right l at (branch_words a at) (branch_words b at_b ++ (branch_words c at_c ++ own)) e (branch_size a) (length_branch a at) in
    let e₂ : Encoded l at_c (branch_words c at_c ++ own) =
    encoded_right l at_b (branch_words b at_b) (branch_words c at_c ++ own) e₁ (branch_size b) (length_branch b at_b) in
    let e₃ : Encoded l (at_c + branch_size c) own =
    encoded_right l at_c (branch_words c at_c) own e₂ (branch_size c) (length_branch c at_c) in
    record {
      in_a = encoded_left l at (branch_words a at) (branch_words b at_b ++ (branch_words c at_c ++ own)) e;
      in_b = encoded_left l at_b (branch_words b at_b) (branch_words c at_c ++ own) e₁;
      in_c = encoded_left l at_c (branch_words c at_c) own e₂;
      own = ap (node l) (omega arith) ∙ e₃ 0 (omega arith);
    }

-- what holds of the nodes of each branch and of the own node holds of all of a term's nodes
pub all_nodes : (P : ℕ → Type 0) (at na nb nc : ℕ) → ((i : ℕ) → i < na → P (at + i)) → ((i : ℕ) → i < nb → P (at + na + i))
    → ((i : ℕ) → i < nc → P (at + na + nb + i)) → P (at + na + nb + nc) → (i : ℕ) → i < suc (na + nb + nc) → P (at + i)
all_nodes P at na nb nc pa pb pc own i h = go (dec_lt i na) (dec_lt i (na + nb)) (dec_lt i (na + nb + nc))
  where
    move : (j : ℕ) → P j → j ≡ at + i → P (at + i)
    move j p e = rw e at p

    go : Dec (i < na) → Dec (i < na + nb) → Dec (i < na + nb + nc) → P (at + i)
    go (yes p) q r = pa i p
    go (no p) (yes q) r = move _ (pb (i - na) (omega arith)) (omega arith)
    go (no p) (no q) (yes r) = move _ (pc (i - (na + nb)) (omega arith)) (omega arith)
    go (no p) (no q) (no r) = move _ own (omega arith)
