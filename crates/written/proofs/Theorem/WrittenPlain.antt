-- A routine without choices has one image: what reading writes of it is what configuring writes, byte for byte.
use Rattle.std.specs.Prelude.{◌≡◌, refl, ℕ, ◌+◌, ◌-◌, List, [], ◌∷◌, ◌++◌}
use Rattle.std.proofs.Common.{sym, ◌∙◌, ap, ap₂, append_assoc, append-nil, arith}
use Rattle.imp.specs.Routine.{Arithmetic, number, variable, sum, pick, choiceᵃ, Boolean, falseᵇ, trueᵇ, notᵇ, andᵇ, less, choiceᵇ, Statement, skip, assign, sequence, if, while, throw, try, choice}
use Rattle.imp.specs.Embed.{embedᵃ, embedᵇ, embed}
use Rattle.image.specs.Listing.{sizeᵃ, sizeᵇ, sizeˢ}
use Rattle.image.specs.Term.{Term, size, name, head_word, node_word, words, bytes_of, all_bytes, term_image}
use Rattle.image.specs.Encode.{on_one, on_two, on_three, termᵃ, termᵇ, termˢ, plain_image}
use Rattle.written.specs.Count.{recordsᵃ, recordsᵇ, recordsˢ}
use Rattle.written.specs.Image.{choicesᵃ, choicesᵇ, choicesˢ, nodesᵃ, nodesᵇ, nodesˢ, record_bytes, written_image}

-- ---- it has no conditions

mutual
  unfolding recordsᵃ embedᵃ

  no_recordsᵃ : (a : Arithmetic ⊥) → recordsᵃ (embedᵃ a) ≡ 0
  no_recordsᵃ (number z) = refl
  no_recordsᵃ (variable v) = refl
  no_recordsᵃ (sum a b) = omega (arith, no_recordsᵃ a, no_recordsᵃ b)
  no_recordsᵃ (pick e a b) = omega (arith, no_recordsᵇ e, no_recordsᵃ a, no_recordsᵃ b)
  no_recordsᵃ (choiceᵃ c a b) = absurd c

  no_recordsᵇ : (e : Boolean ⊥) → recordsᵇ (embedᵇ e) ≡ 0
  no_recordsᵇ falseᵇ = refl
  no_recordsᵇ trueᵇ = refl
  no_recordsᵇ (notᵇ e) = no_recordsᵇ e
  no_recordsᵇ (andᵇ e f) = omega (arith, no_recordsᵇ e, no_recordsᵇ f)
  no_recordsᵇ (less a b) = omega (arith, no_recordsᵃ a, no_recordsᵃ b)
  no_recordsᵇ (choiceᵇ c e f) = absurd c

pub no_recordsˢ : (t : Statement ⊥) → recordsˢ (embed t) ≡ 0
unfolding recordsˢ embed
no_recordsˢ skip = refl
no_recordsˢ (assign v a) = no_recordsᵃ a
no_recordsˢ (sequence x y) = omega (arith, no_recordsˢ x, no_recordsˢ y)
no_recordsˢ (if e x y) = omega (arith, no_recordsᵇ e, no_recordsˢ x, no_recordsˢ y)
no_recordsˢ (while e x) = omega (arith, no_recordsᵇ e, no_recordsˢ x)
no_recordsˢ (throw a) = no_recordsᵃ a
no_recordsˢ (try x v y) = omega (arith, no_recordsˢ x, no_recordsˢ y)
no_recordsˢ (choice c x y) = absurd c

mutual
  unfolding choicesᵃ embedᵃ

  no_choicesᵃ : (a : Arithmetic ⊥) (k : ℕ) (r : List ℕ) → choicesᵃ (embedᵃ a) k r ≡ r
  no_choicesᵃ (number z) k r = refl
  no_choicesᵃ (variable v) k r = refl
  no_choicesᵃ (sum a b) k r = no_choicesᵃ a _ _ ∙ no_choicesᵃ b _ _
  no_choicesᵃ (pick e a b) k r = no_choicesᵇ e _ _ ∙ no_choicesᵃ a _ _ ∙ no_choicesᵃ b _ _
  no_choicesᵃ (choiceᵃ c a b) k r = absurd c

  no_choicesᵇ : (e : Boolean ⊥) (k : ℕ) (r : List ℕ) → choicesᵇ (embedᵇ e) k r ≡ r
  no_choicesᵇ falseᵇ k r = refl
  no_choicesᵇ trueᵇ k r = refl
  no_choicesᵇ (notᵇ e) k r = no_choicesᵇ e _ _
  no_choicesᵇ (andᵇ e f) k r = no_choicesᵇ e _ _ ∙ no_choicesᵇ f _ _
  no_choicesᵇ (less a b) k r = no_choicesᵃ a _ _ ∙ no_choicesᵃ b _ _
  no_choicesᵇ (choiceᵇ c e f) k r = absurd c

no_choicesˢ : (t : Statement ⊥) (k : ℕ) (r : List ℕ) → choicesˢ (embed t) k r ≡ r
unfolding choicesˢ embed
no_choicesˢ skip k r = refl
no_choicesˢ (assign v a) k r = no_choicesᵃ a _ _
no_choicesˢ (sequence x y) k r = no_choicesˢ x _ _ ∙ no_choicesˢ y _ _
no_choicesˢ (if e x y) k r = no_choicesᵇ e _ _ ∙ no_choicesˢ x _ _ ∙ no_choicesˢ y _ _
no_choicesˢ (while e x) k r = no_choicesᵇ e _ _ ∙ no_choicesˢ x _ _
no_choicesˢ (throw a) k r = no_choicesᵃ a _ _
no_choicesˢ (try x v y) k r = no_choicesˢ x _ _ ∙ no_choicesˢ y _ _
no_choicesˢ (choice c x y) k r = absurd c

-- ---- as many nodes

mutual
  unfolding sizeᵃ embedᵃ termᵃ size

  sizesᵃ : (a : Arithmetic ⊥) → sizeᵃ (embedᵃ a) ≡ size (termᵃ a)
  sizesᵃ (number z) = refl
  sizesᵃ (variable v) = refl
  sizesᵃ (sum a b) = omega (arith, sizesᵃ a, sizesᵃ b)
  sizesᵃ (pick e a b) = omega (arith, sizesᵇ e, sizesᵃ a, sizesᵃ b)
  sizesᵃ (choiceᵃ c a b) = absurd c

  sizesᵇ : (e : Boolean ⊥) → sizeᵇ (embedᵇ e) ≡ size (termᵇ e)
  sizesᵇ falseᵇ = refl
  sizesᵇ trueᵇ = refl
  sizesᵇ (notᵇ e) = omega (arith, sizesᵇ e)
  sizesᵇ (andᵇ e f) = omega (arith, sizesᵇ e, sizesᵇ f)
  sizesᵇ (less a b) = omega (arith, sizesᵃ a, sizesᵃ b)
  sizesᵇ (choiceᵇ c e f) = absurd c

pub sizesˢ : (t : Statement ⊥) → sizeˢ (embed t) ≡ size (termˢ t)
unfolding sizeˢ embed termˢ size
sizesˢ skip = refl
sizesˢ (assign v a) = omega (arith, sizesᵃ a)
sizesˢ (sequence x y) = omega (arith, sizesˢ x, sizesˢ y)
sizesˢ (if e x y) = omega (arith, sizesᵇ e, sizesˢ x, sizesˢ y)
sizesˢ (while e x) = omega (arith, sizesᵇ e, sizesˢ x)
sizesˢ (throw a) = omega (arith, sizesᵃ a)
sizesˢ (try x v y) = omega (arith, sizesˢ x, sizesˢ y)
sizesˢ (choice c x y) = absurd c

-- ---- the same nodes

-- a node behind the words of its children, where i, j and k are their sizes
one_words : {i : ℕ} {xs : List ℕ} (kind v : ℕ) (x : Term) (n : ℕ) (r : List ℕ) → i ≡ size x → xs ≡ words x n ++ (node_word kind v 0 (n + i - 1) 0 0 ∷ r)
    → xs ≡ words (on_one kind v x) n ++ r
unfolding words name size
one_words kind v x n r e p =
    p ∙ (ap (λ i. words x n ++ (node_word kind v 0 (n + i - 1) 0 0 ∷ r)) e ∙ sym (append_assoc (words x n) (node_word kind v 0 (n + size x - 1) 0 0 ∷ []) r))

two_words : {i j : ℕ} {xs ys : List ℕ} (kind v : ℕ) (x y : Term) (n : ℕ) (r : List ℕ) → i ≡ size x → j ≡ size y → xs ≡ words x n ++ ys
    → ys ≡ words y (n + i) ++ (node_word kind v 0 (n + i - 1) (n + i + j - 1) 0 ∷ r) → xs ≡ words (on_two kind v x y) n ++ r
unfolding words name size
two_words kind v x y n r e d p q =
    let w : ℕ = node_word kind v 0 (n + size x - 1) (n + size x + size y - 1) 0 in
    let ws : List ℕ = words y (n + size x) in
    let q' = q ∙ ap₂ (λ i j. words y (n + i) ++ (node_word kind v 0 (n + i - 1) (n + i + j - 1) 0 ∷ r)) e d ∙ sym (append_assoc ws (w ∷ []) r) in
    p ∙ (ap (λ s. words x n ++ s) q' ∙ sym (append_assoc (words x n) (ws ++ (w ∷ [])) r))

three_words : {i j k : ℕ} {xs ys zs : List ℕ} (kind : ℕ) (x y z : Term) (n : ℕ) (r : List ℕ) → i ≡ size x → j ≡ size y → k ≡ size z → xs ≡ words x n ++ ys
    → ys ≡ words y (n + i) ++ zs → zs ≡ words z (n + i + j) ++ (node_word kind 0 0 (n + i - 1) (n + i + j - 1) (n + i + j + k - 1) ∷ r)
    → xs ≡ words (on_three kind x y z) n ++ r
unfolding words name size
three_words {zs = zs} kind x y z n r e d f p q s =
    let w : ℕ = node_word kind 0 0 (n + size x - 1) (n + size x + size y - 1) (n + size x + size y + size z - 1) in
    let ws : List ℕ = words z (n + size x + size y) in
    let us : List ℕ = words y (n + size x) in
    let s' : zs ≡ ws ++ (w ∷ []) ++ r =
    s ∙ ((λ t. words z (n + e t + d t) ++ (node_word kind 0 0 (n + e t - 1) (n + e t + d t - 1) (n + e t + d t + f t - 1) ∷ r)) ∙ sym (append_assoc ws (w ∷ []) r)) in
    let q' = q ∙ (ap₂ (λ i m. words y (n + i) ++ m) e s' ∙ sym (append_assoc us (ws ++ (w ∷ [])) r)) in
    p ∙ (ap (λ m. words x n ++ m) q' ∙ sym (append_assoc (words x n) (us ++ (ws ++ (w ∷ []))) r))

mutual
  unfolding nodesᵃ embedᵃ termᵃ words name size

  plainᵃ : (a : Arithmetic ⊥) (n k : ℕ) (r : List ℕ) → nodesᵃ (embedᵃ a) n k r ≡ words (termᵃ a) n ++ r
  plainᵃ (number z) n k r = refl
  plainᵃ (variable v) n k r = refl
  plainᵃ (sum a b) n k r = two_words 2 0 (termᵃ a) (termᵃ b) n r (sizesᵃ a) (sizesᵃ b) (plainᵃ a _ _ _) (plainᵃ b _ _ _)
  plainᵃ (pick e a b) n k r = three_words 3 (termᵇ e) (termᵃ a) (termᵃ b) n r (sizesᵇ e) (sizesᵃ a) (sizesᵃ b) (plainᵇ e _ _ _) (plainᵃ a _ _ _) (plainᵃ b _ _ _)
  plainᵃ (choiceᵃ c a b) n k r = absurd c

  plainᵇ : (e : Boolean ⊥) (n k : ℕ) (r : List ℕ) → nodesᵇ (embedᵇ e) n k r ≡ words (termᵇ e) n ++ r
  plainᵇ falseᵇ n k r = refl
  plainᵇ trueᵇ n k r = refl
  plainᵇ (notᵇ e) n k r = one_words 10 0 (termᵇ e) n r (sizesᵇ e) (plainᵇ e _ _ _)
  plainᵇ (andᵇ e f) n k r = two_words 11 0 (termᵇ e) (termᵇ f) n r (sizesᵇ e) (sizesᵇ f) (plainᵇ e _ _ _) (plainᵇ f _ _ _)
  plainᵇ (less a b) n k r = two_words 12 0 (termᵃ a) (termᵃ b) n r (sizesᵃ a) (sizesᵃ b) (plainᵃ a _ _ _) (plainᵃ b _ _ _)
  plainᵇ (choiceᵇ c e f) n k r = absurd c

plainˢ : (t : Statement ⊥) (n k : ℕ) (r : List ℕ) → nodesˢ (embed t) n k r ≡ words (termˢ t) n ++ r
unfolding nodesˢ embed termˢ words name size
plainˢ skip n k r = refl
plainˢ (assign v a) n k r = one_words 17 v (termᵃ a) n r (sizesᵃ a) (plainᵃ a _ _ _)
plainˢ (sequence x y) n k r = two_words 18 0 (termˢ x) (termˢ y) n r (sizesˢ x) (sizesˢ y) (plainˢ x _ _ _) (plainˢ y _ _ _)
plainˢ (if e x y) n k r = three_words 19 (termᵇ e) (termˢ x) (termˢ y) n r (sizesᵇ e) (sizesˢ x) (sizesˢ y) (plainᵇ e _ _ _) (plainˢ x _ _ _) (plainˢ y _ _ _)
plainˢ (while e x) n k r = two_words 20 0 (termᵇ e) (termˢ x) n r (sizesᵇ e) (sizesˢ x) (plainᵇ e _ _ _) (plainˢ x _ _ _)
plainˢ (throw a) n k r = one_words 21 0 (termᵃ a) n r (sizesᵃ a) (plainᵃ a _ _ _)
plainˢ (try x v y) n k r = two_words 22 v (termˢ x) (termˢ y) n r (sizesˢ x) (sizesˢ y) (plainˢ x _ _ _) (plainˢ y _ _ _)
plainˢ (choice c x y) n k r = absurd c

-- ---- the same bytes

pub written_plain : (t : Statement ⊥) → written_image 0 (embed t) ≡ plain_image t
unfolding written_image plain_image term_image all_bytes record_bytes
written_plain t =
    let nodes : nodesˢ (embed t) 0 0 [] ≡ words (termˢ t) 0 = plainˢ t 0 0 [] ∙ append-nil (words (termˢ t) 0) in
    let conditions : choicesˢ (embed t) 0 [] ≡ [] = no_choicesˢ t 0 [] in
    λ i. bytes_of 8 (head_word 0 (no_recordsˢ t i) (sizesˢ t i)) ++ (record_bytes (conditions i) ++ all_bytes (nodes i))
