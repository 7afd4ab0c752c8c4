-- (f) An image of a tree reads back as the tree: each condition record and node stands where the tree's order puts it.
use Rattle.std.specs.Prelude.{◌≡◌, ℕ, suc, ◌+◌, ◌-◌, ◌≤◌, ◌<◌, List, [], ◌∷◌, ℤ}
use Rattle.std.proofs.Common.{◌∙◌, ap, ap₂, subst, arith, SFits}
use Rattle.std.specs.Int.{w32}
use Rattle.imp.specs.Numbers.{low32, signed32, wrap}
use Rattle.imp.specs.Condition.{Condition, falseᶜ, trueᶜ, option, notᶜ, andᶜ, orᶜ}
use Rattle.imp.specs.Routine.{Arithmetic, number, variable, sum, pick, choiceᵃ, Boolean, falseᵇ, trueᵇ, notᵇ, andᵇ, less, choiceᵇ, Statement, skip, assign, sequence, if, while, throw, try, choice}
use Rattle.imp.specs.Valid.{Validᵃ, Validᵇ, Valid}
use Rattle.imp.proofs.Theorem.Wrap.{low_fits, wrap_same}
use Rattle.image.specs.Records.{condition_record, condition_fields, node, node_fields}
use Rattle.image.specs.Tree.{condition, read}
use Rattle.image.specs.Listing.{sizeᵃ, sizeᵇ, sizeˢ}
use Rattle.image.specs.Term.{condition_word}
use Rattle.image.proofs.Theorem.Reading as At
use Rattle.image.proofs.Theorem.Words.{number_back}
use Rattle.image.proofs.Theorem.Fine.{stands}
use Rattle.written.specs.Under.{Underᶜ, Underᵃ, Underᵇ, Under}
use Rattle.written.specs.Count.{sizeᶜ, recordsᵃ, recordsᵇ, recordsˢ}
use Rattle.written.specs.Image.{wordsᶜ, choicesᵃ, choicesᵇ, choicesˢ, nodesᵃ, nodesᵇ, nodesˢ}

-- ---- where records stand

-- the nodes of l from n on are those words, and so the condition records
abbrev pub Nodes : List ℕ → ℕ → List ℕ → Type 0
Nodes l n [] = Unit {0}
Nodes l n (w ∷ ws) = (node l n ≡ node_fields w) × Nodes l (suc n) ws

abbrev pub Records : List ℕ → ℕ → List ℕ → Type 0
Records l k [] = Unit {0}
Records l k (w ∷ ws) = (condition_record l k ≡ condition_fields w) × Records l (suc k) ws

-- ---- every node and record has a size

pub someᶜ : (c : Condition) → 0 < sizeᶜ c
unfolding sizeᶜ
someᶜ falseᶜ = omega arith
someᶜ trueᶜ = omega arith
someᶜ (option k) = omega arith
someᶜ (notᶜ c) = omega arith
someᶜ (andᶜ c d) = omega arith
someᶜ (orᶜ c d) = omega arith

pub someᵃ : (a : Arithmetic Condition) → 0 < sizeᵃ a
unfolding sizeᵃ
someᵃ (number z) = omega arith
someᵃ (variable v) = omega arith
someᵃ (sum a b) = omega arith
someᵃ (pick e a b) = omega arith
someᵃ (choiceᵃ c a b) = omega arith

pub someᵇ : (e : Boolean Condition) → 0 < sizeᵇ e
unfolding sizeᵇ
someᵇ falseᵇ = omega arith
someᵇ trueᵇ = omega arith
someᵇ (notᵇ e) = omega arith
someᵇ (andᵇ e f) = omega arith
someᵇ (less a b) = omega arith
someᵇ (choiceᵇ c e f) = omega arith

pub someˢ : (t : Statement Condition) → 0 < sizeˢ t
unfolding sizeˢ
someˢ skip = omega arith
someˢ (assign v a) = omega arith
someˢ (sequence x y) = omega arith
someˢ (if e x y) = omega arith
someˢ (while e x) = omega arith
someˢ (throw a) = omega arith
someˢ (try x v y) = omega arith
someˢ (choice c x y) = omega arith

-- ---- conditions

record Reads (l : List ℕ) (n kind i left right : ℕ) : Type 0 where
  its_kind : (condition_record l n).kind ≡ kind
  its_option : (condition_record l n).option ≡ i
  its_left : (condition_record l n).left ≡ left
  its_right : (condition_record l n).right ≡ right

condition_reads : (l : List ℕ) (n kind i left right : ℕ) → kind < 16 → i < 16 → left < 4096 → right < 4096
    → condition_record l n ≡ condition_fields (condition_word kind i left right) → Reads l n kind i left right
unfolding condition_word
condition_reads l n kind i left right hk hi hl hr e =
    record {
      its_kind = ap (λ ρ. ρ.kind) e ∙ omega arith;
      its_option = ap (λ ρ. ρ.option) e ∙ omega arith;
      its_left = ap (λ ρ. ρ.left) e ∙ omega arith;
      its_right = ap (λ ρ. ρ.right) e ∙ omega arith;
    }

-- the number of a root, by its tree's size
at_root : {A : Type 0} (of : ℕ → A) (x : A) (n m : ℕ) → n ≡ m → of m ≡ x → of n ≡ x
at_root of x n m e h = ap of e ∙ h

abbrev Backᶜ : List ℕ → Condition → ℕ → List ℕ → Type 0
Backᶜ l c k r = (condition l (k + sizeᶜ c - 1) ≡ c) × Records l (k + sizeᶜ c) r

backᶜ : (l : List ℕ) (F : ℕ) → F ≤ 6 → (c : Condition) → Underᶜ F c → (k : ℕ) (r : List ℕ) → k + sizeᶜ c ≤ 4096 → Records l k (wordsᶜ c k r) → Backᶜ l c k r
unfolding wordsᶜ sizeᶜ Underᶜ
backᶜ l F f falseᶜ u k r m h =
    let s = condition_reads l k 0 0 0 0 (omega arith) (omega arith) (omega arith) (omega arith) h.0 in
    (at_root (condition l) falseᶜ (k + 1 - 1) k (omega arith) (At.false_at l k s.its_kind), subst (λ i. Records l i r) (omega arith) h.1)
backᶜ l F f trueᶜ u k r m h =
    let s = condition_reads l k 1 0 0 0 (omega arith) (omega arith) (omega arith) (omega arith) h.0 in
    (at_root (condition l) trueᶜ (k + 1 - 1) k (omega arith) (At.true_at l k s.its_kind), subst (λ i. Records l i r) (omega arith) h.1)
backᶜ l F f (option i) u k r m h =
    let s = condition_reads l k 2 i 0 0 (omega arith) (omega arith) (omega arith) (omega arith) h.0 in
    (at_root (condition l) (option i) (k + 1 - 1) k (omega arith) (At.option_at l k s.its_kind ∙ ap option s.its_option), subst (λ i. Records l i r) (omega arith) h.1)
backᶜ l F f (notᶜ c) u k r m h =
    let z = someᶜ c in
    let p = backᶜ l F f c u k (condition_word 3 0 (k + sizeᶜ c - 1) 0 ∷ r) (omega arith) h in
    let n = k + sizeᶜ c in
    let s = condition_reads l n 3 0 (k + sizeᶜ c - 1) 0 (omega arith) (omega arith) (omega arith) (omega arith) p.1.0 in (
      at_root (condition l) (notᶜ c) (k + suc (sizeᶜ c) - 1) n (omega arith)
          (At.not_at l n s.its_kind (omega (arith, s.its_left)) ∙ ap notᶜ (ap (condition l) s.its_left ∙ p.0)),
      subst (λ i. Records l i r) (omega arith) p.1.1,
    )
backᶜ l F f (andᶜ c d) u k r m h =
    let z = someᶜ c in
    let y = someᶜ d in
    let w = condition_word 4 0 (k + sizeᶜ c - 1) (k + sizeᶜ c + sizeᶜ d - 1) ∷ r in
    let p = backᶜ l F f c u.0 k (wordsᶜ d (k + sizeᶜ c) w) (omega arith) h in
    let q = backᶜ l F f d u.1 (k + sizeᶜ c) w (omega arith) p.1 in
    let n = k + sizeᶜ c + sizeᶜ d in
    let s = condition_reads l n 4 0 (k + sizeᶜ c - 1) (k + sizeᶜ c + sizeᶜ d - 1) (omega arith) (omega arith) (omega arith) (omega arith) q.1.0 in (
      at_root (condition l) (andᶜ c d) (k + suc (sizeᶜ c + sizeᶜ d) - 1) n (omega arith)
          (At.and_at l n s.its_kind (omega (arith, s.its_left)) (omega (arith, s.its_right))
          ∙ ap₂ andᶜ (ap (condition l) s.its_left ∙ p.0) (ap (condition l) s.its_right ∙ q.0)),
      subst (λ i. Records l i r) (omega arith) q.1.1,
    )
backᶜ l F f (orᶜ c d) u k r m h =
    let z = someᶜ c in
    let y = someᶜ d in
    let w = condition_word 5 0 (k + sizeᶜ c - 1) (k + sizeᶜ c + sizeᶜ d - 1) ∷ r in
    let p = backᶜ l F f c u.0 k (wordsᶜ d (k + sizeᶜ c) w) (omega arith) h in
    let q = backᶜ l F f d u.1 (k + sizeᶜ c) w (omega arith) p.1 in
    let n = k + sizeᶜ c + sizeᶜ d in
    let s = condition_reads l n 5 0 (k + sizeᶜ c - 1) (k + sizeᶜ c + sizeᶜ d - 1) (omega arith) (omega arith) (omega arith) (omega arith) q.1.0 in (
      at_root (condition l) (orᶜ c d) (k + suc (sizeᶜ c + sizeᶜ d) - 1) n (omega arith)
          (At.or_at l n s.its_kind (omega (arith, s.its_left)) (omega (arith, s.its_right))
          ∙ ap₂ orᶜ (ap (condition l) s.its_left ∙ p.0) (ap (condition l) s.its_right ∙ q.0)),
      subst (λ i. Records l i r) (omega arith) q.1.1,
    )

-- ---- nodes

module _ (l : List ℕ) where
  readᵃ : {n m : ℕ} → n ≡ m → (read l n).arithmetic ≡ (read l m).arithmetic
  readᵃ e = ap (λ i. (read l i).arithmetic) e

  readᵇ : {n m : ℕ} → n ≡ m → (read l n).boolean ≡ (read l m).boolean
  readᵇ e = ap (λ i. (read l i).boolean) e

  readˢ : {n m : ℕ} → n ≡ m → (read l n).statement ≡ (read l m).statement
  readˢ e = ap (λ i. (read l i).statement) e

pick_same : {e e' : Boolean Condition} {a a' b b' : Arithmetic Condition} → e ≡ e' → a ≡ a' → b ≡ b' → pick e a b ≡ pick e' a' b'
pick_same p q r = λ i. pick (p i) (q i) (r i)

choiceᵃ_same : {c c' : Condition} {a a' b b' : Arithmetic Condition} → c ≡ c' → a ≡ a' → b ≡ b' → choiceᵃ c a b ≡ choiceᵃ c' a' b'
choiceᵃ_same p q r = λ i. choiceᵃ (p i) (q i) (r i)

choiceᵇ_same : {c c' : Condition} {a a' b b' : Boolean Condition} → c ≡ c' → a ≡ a' → b ≡ b' → choiceᵇ c a b ≡ choiceᵇ c' a' b'
choiceᵇ_same p q r = λ i. choiceᵇ (p i) (q i) (r i)

choice_same : {c c' : Condition} {x x' y y' : Statement Condition} → c ≡ c' → x ≡ x' → y ≡ y' → choice c x y ≡ choice c' x' y'
choice_same p q r = λ i. choice (p i) (q i) (r i)

if_same : {e e' : Boolean Condition} {x x' y y' : Statement Condition} → e ≡ e' → x ≡ x' → y ≡ y' → if e x y ≡ if e' x' y'
if_same p q r = λ i. if (p i) (q i) (r i)

try_same : {x x' y y' : Statement Condition} {v v' : ℕ} → x ≡ x' → v ≡ v' → y ≡ y' → try x v y ≡ try x' v' y'
try_same p q r = λ i. try (p i) (q i) (r i)

number_same : (z : ℤ) → SFits w32 z → signed32 (low32 z) ≡ z
unfolding wrap
number_same z h = wrap_same z h

mutual
  unfolding nodesᵃ choicesᵃ sizeᵃ recordsᵃ Validᵃ Underᵃ

  backᵃ : (l : List ℕ) (F : ℕ) → F ≤ 6 → (t : Arithmetic Condition) → Validᵃ t → Underᵃ F t → (n k : ℕ) (r rk : List ℕ) → n + sizeᵃ t ≤ 4096 → k + recordsᵃ t ≤ 4096
      → Nodes l n (nodesᵃ t n k r) → Records l k (choicesᵃ t k rk) → ((read l (n + sizeᵃ t - 1)).arithmetic ≡ t) × Nodes l (n + sizeᵃ t) r × Records l (k + recordsᵃ t) rk
  backᵃ l F f (number z) v u n k r rk m mk h hk =
      let s = number_back (low32 z) (low_fits z) in (
        at_root (λ i. (read l i).arithmetic) (number z) (n + 1 - 1) n (omega arith)
            (At.number_at l n (ap (λ ν. ν.kind) h.0 ∙ s.0) ∙ ap number (ap signed32 (ap (λ ν. ν.value) h.0 ∙ s.2) ∙ number_same z v)),
        subst (λ i. Nodes l i r) (omega arith) h.1,
        subst (λ i. Records l i rk) (omega arith) hk,
      )
  backᵃ l F f (variable x) v u n k r rk m mk h hk =
      let s = stands l n 1 x 0 0 0 (omega arith) (omega (arith, v)) (omega arith) (omega arith) (omega arith) h.0 in (
        at_root (λ i. (read l i).arithmetic) (variable x) (n + 1 - 1) n (omega arith) (At.variable_at l n s.its_kind ∙ ap variable s.its_variable),
        subst (λ i. Nodes l i r) (omega arith) h.1,
        subst (λ i. Records l i rk) (omega arith) hk,
      )
  backᵃ l F f (sum a b) v u n k r rk m mk h hk =
      let za = someᵃ a in
      let pa = backᵃ l F f a v.0 u.0 (n) (k) _ _ (omega arith) (omega arith) h hk in
      let zb = someᵃ b in
      let pb = backᵃ l F f b v.1 u.1 (n + sizeᵃ a) (k + recordsᵃ a) _ _ (omega arith) (omega arith) pa.1 pa.2 in
      let N = n + sizeᵃ a + sizeᵃ b in
      let s = stands l N 2 0 (n + sizeᵃ a - 1) (n + sizeᵃ a + sizeᵃ b - 1) 0 (omega arith) (omega arith) (omega arith) (omega arith) (omega arith) pb.1.0 in (
        at_root (λ i. (read l i).arithmetic) (sum a b) (n + suc (sizeᵃ a + sizeᵃ b) - 1) N (omega arith) (At.sum_at l N s.its_kind (omega (arith, s.its_a)) (omega (arith, s.its_b)) ∙ ap₂ sum (readᵃ l s.its_a ∙ pa.0) (readᵃ l s.its_b ∙ pb.0)),
        subst (λ i. Nodes l i r) (omega arith) pb.1.1,
        subst (λ i. Records l i rk) (omega arith) pb.2,
      )
  backᵃ l F f (pick e a b) v u n k r rk m mk h hk =
      let ze = someᵇ e in
      let pe = backᵇ l F f e v.0 u.0 (n) (k) _ _ (omega arith) (omega arith) h hk in
      let za = someᵃ a in
      let pa = backᵃ l F f a v.1 u.1 (n + sizeᵇ e) (k + recordsᵇ e) _ _ (omega arith) (omega arith) pe.1 pe.2 in
      let zb = someᵃ b in
      let pb = backᵃ l F f b v.2 u.2 (n + sizeᵇ e + sizeᵃ a) (k + recordsᵇ e + recordsᵃ a) _ _ (omega arith) (omega arith) pa.1 pa.2 in
      let N = n + sizeᵇ e + sizeᵃ a + sizeᵃ b in
      let s = stands l N 3 0 (n + sizeᵇ e - 1) (n + sizeᵇ e + sizeᵃ a - 1) (n + sizeᵇ e + sizeᵃ a + sizeᵃ b - 1) (omega arith) (omega arith) (omega arith) (omega arith) (omega arith) pb.1.0 in (
        at_root (λ i. (read l i).arithmetic) (pick e a b) (n + suc (sizeᵇ e + sizeᵃ a + sizeᵃ b) - 1) N (omega arith) (At.pick_at l N s.its_kind (omega (arith, s.its_a)) (omega (arith, s.its_b)) (omega (arith, s.its_c)) ∙ pick_same (readᵇ l s.its_a ∙ pe.0) (readᵃ l s.its_b ∙ pa.0) (readᵃ l s.its_c ∙ pb.0)),
        subst (λ i. Nodes l i r) (omega arith) pb.1.1,
        subst (λ i. Records l i rk) (omega arith) pb.2,
      )
  backᵃ l F f (choiceᵃ c a b) v u n k r rk m mk h hk =
      let zc = someᶜ c in
      let pc = backᶜ l F f c u.0 k _ (omega arith) hk in
      let za = someᵃ a in
      let pa = backᵃ l F f a v.0 u.1 (n) (k + sizeᶜ c) _ _ (omega arith) (omega arith) h pc.1 in
      let zb = someᵃ b in
      let pb = backᵃ l F f b v.1 u.2 (n + sizeᵃ a) (k + sizeᶜ c + recordsᵃ a) _ _ (omega arith) (omega arith) pa.1 pa.2 in
      let N = n + sizeᵃ a + sizeᵃ b in
      let s = stands l N 4 0 (k + sizeᶜ c - 1) (n + sizeᵃ a - 1) (n + sizeᵃ a + sizeᵃ b - 1) (omega arith) (omega arith) (omega arith) (omega arith) (omega arith) pb.1.0 in (
        at_root (λ i. (read l i).arithmetic) (choiceᵃ c a b) (n + suc (sizeᵃ a + sizeᵃ b) - 1) N (omega arith) (At.choiceᵃ_at l N s.its_kind (omega (arith, s.its_b)) (omega (arith, s.its_c)) ∙ choiceᵃ_same (ap (condition l) s.its_a ∙ pc.0) (readᵃ l s.its_b ∙ pa.0) (readᵃ l s.its_c ∙ pb.0)),
        subst (λ i. Nodes l i r) (omega arith) pb.1.1,
        subst (λ i. Records l i rk) (omega arith) pb.2,
      )

  backᵇ : (l : List ℕ) (F : ℕ) → F ≤ 6 → (t : Boolean Condition) → Validᵇ t → Underᵇ F t → (n k : ℕ) (r rk : List ℕ) → n + sizeᵇ t ≤ 4096 → k + recordsᵇ t ≤ 4096
      → Nodes l n (nodesᵇ t n k r) → Records l k (choicesᵇ t k rk) → ((read l (n + sizeᵇ t - 1)).boolean ≡ t) × Nodes l (n + sizeᵇ t) r × Records l (k + recordsᵇ t) rk
  backᵇ l F f falseᵇ v u n k r rk m mk h hk =
      let N = n in
      let s = stands l N 8 0 0 0 0 (omega arith) (omega arith) (omega arith) (omega arith) (omega arith) h.0 in (
        at_root (λ i. (read l i).boolean) falseᵇ (n + 1 - 1) N (omega arith) (At.falseᵇ_at l N s.its_kind),
        subst (λ i. Nodes l i r) (omega arith) h.1,
        subst (λ i. Records l i rk) (omega arith) hk,
      )
  backᵇ l F f trueᵇ v u n k r rk m mk h hk =
      let N = n in
      let s = stands l N 9 0 0 0 0 (omega arith) (omega arith) (omega arith) (omega arith) (omega arith) h.0 in (
        at_root (λ i. (read l i).boolean) trueᵇ (n + 1 - 1) N (omega arith) (At.trueᵇ_at l N s.its_kind),
        subst (λ i. Nodes l i r) (omega arith) h.1,
        subst (λ i. Records l i rk) (omega arith) hk,
      )
  backᵇ l F f (notᵇ e) v u n k r rk m mk h hk =
      let ze = someᵇ e in
      let pe = backᵇ l F f e (v) (u) (n) (k) _ _ (omega arith) (omega arith) h hk in
      let N = n + sizeᵇ e in
      let s = stands l N 10 0 (n + sizeᵇ e - 1) 0 0 (omega arith) (omega arith) (omega arith) (omega arith) (omega arith) pe.1.0 in (
        at_root (λ i. (read l i).boolean) (notᵇ e) (n + suc (sizeᵇ e) - 1) N (omega arith) (At.notᵇ_at l N s.its_kind (omega (arith, s.its_a)) ∙ ap notᵇ (readᵇ l s.its_a ∙ pe.0)),
        subst (λ i. Nodes l i r) (omega arith) pe.1.1,
        subst (λ i. Records l i rk) (omega arith) pe.2,
      )
  backᵇ l F f (andᵇ x y) v u n k r rk m mk h hk =
      let zx = someᵇ x in
      let px = backᵇ l F f x v.0 u.0 (n) (k) _ _ (omega arith) (omega arith) h hk in
      let zy = someᵇ y in
      let py = backᵇ l F f y v.1 u.1 (n + sizeᵇ x) (k + recordsᵇ x) _ _ (omega arith) (omega arith) px.1 px.2 in
      let N = n + sizeᵇ x + sizeᵇ y in
      let s = stands l N 11 0 (n + sizeᵇ x - 1) (n + sizeᵇ x + sizeᵇ y - 1) 0 (omega arith) (omega arith) (omega arith) (omega arith) (omega arith) py.1.0 in (
        at_root (λ i. (read l i).boolean) (andᵇ x y) (n + suc (sizeᵇ x + sizeᵇ y) - 1) N (omega arith) (At.andᵇ_at l N s.its_kind (omega (arith, s.its_a)) (omega (arith, s.its_b)) ∙ ap₂ andᵇ (readᵇ l s.its_a ∙ px.0) (readᵇ l s.its_b ∙ py.0)),
        subst (λ i. Nodes l i r) (omega arith) py.1.1,
        subst (λ i. Records l i rk) (omega arith) py.2,
      )
  backᵇ l F f (less a b) v u n k r rk m mk h hk =
      let za = someᵃ a in
      let pa = backᵃ l F f a v.0 u.0 (n) (k) _ _ (omega arith) (omega arith) h hk in
      let zb = someᵃ b in
      let pb = backᵃ l F f b v.1 u.1 (n + sizeᵃ a) (k + recordsᵃ a) _ _ (omega arith) (omega arith) pa.1 pa.2 in
      let N = n + sizeᵃ a + sizeᵃ b in
      let s = stands l N 12 0 (n + sizeᵃ a - 1) (n + sizeᵃ a + sizeᵃ b - 1) 0 (omega arith) (omega arith) (omega arith) (omega arith) (omega arith) pb.1.0 in (
        at_root (λ i. (read l i).boolean) (less a b) (n + suc (sizeᵃ a + sizeᵃ b) - 1) N (omega arith) (At.less_at l N s.its_kind (omega (arith, s.its_a)) (omega (arith, s.its_b)) ∙ ap₂ less (readᵃ l s.its_a ∙ pa.0) (readᵃ l s.its_b ∙ pb.0)),
        subst (λ i. Nodes l i r) (omega arith) pb.1.1,
        subst (λ i. Records l i rk) (omega arith) pb.2,
      )
  backᵇ l F f (choiceᵇ c x y) v u n k r rk m mk h hk =
      let zc = someᶜ c in
      let pc = backᶜ l F f c u.0 k _ (omega arith) hk in
      let zx = someᵇ x in
      let px = backᵇ l F f x v.0 u.1 (n) (k + sizeᶜ c) _ _ (omega arith) (omega arith) h pc.1 in
      let zy = someᵇ y in
      let py = backᵇ l F f y v.1 u.2 (n + sizeᵇ x) (k + sizeᶜ c + recordsᵇ x) _ _ (omega arith) (omega arith) px.1 px.2 in
      let N = n + sizeᵇ x + sizeᵇ y in
      let s = stands l N 13 0 (k + sizeᶜ c - 1) (n + sizeᵇ x - 1) (n + sizeᵇ x + sizeᵇ y - 1) (omega arith) (omega arith) (omega arith) (omega arith) (omega arith) py.1.0 in (
        at_root (λ i. (read l i).boolean) (choiceᵇ c x y) (n + suc (sizeᵇ x + sizeᵇ y) - 1) N (omega arith) (At.choiceᵇ_at l N s.its_kind (omega (arith, s.its_b)) (omega (arith, s.its_c)) ∙ choiceᵇ_same (ap (condition l) s.its_a ∙ pc.0) (readᵇ l s.its_b ∙ px.0) (readᵇ l s.its_c ∙ py.0)),
        subst (λ i. Nodes l i r) (omega arith) py.1.1,
        subst (λ i. Records l i rk) (omega arith) py.2,
      )

pub backˢ : (l : List ℕ) (F : ℕ) → F ≤ 6 → (t : Statement Condition) → Valid t → Under F t → (n k : ℕ) (r rk : List ℕ) → n + sizeˢ t ≤ 4096 → k + recordsˢ t ≤ 4096
    → Nodes l n (nodesˢ t n k r) → Records l k (choicesˢ t k rk) → ((read l (n + sizeˢ t - 1)).statement ≡ t) × Nodes l (n + sizeˢ t) r × Records l (k + recordsˢ t) rk
unfolding nodesˢ choicesˢ sizeˢ recordsˢ Valid Under
backˢ l F f skip v u n k r rk m mk h hk =
    let N = n in
    let s = stands l N 16 0 0 0 0 (omega arith) (omega arith) (omega arith) (omega arith) (omega arith) h.0 in (
      at_root (λ i. (read l i).statement) skip (n + 1 - 1) N (omega arith) (At.skip_at l N s.its_kind),
      subst (λ i. Nodes l i r) (omega arith) h.1,
      subst (λ i. Records l i rk) (omega arith) hk,
    )
backˢ l F f (assign j a) v u n k r rk m mk h hk =
    let za = someᵃ a in
    let pa = backᵃ l F f a v.1 (u) (n) (k) _ _ (omega arith) (omega arith) h hk in
    let N = n + sizeᵃ a in
    let s = stands l N 17 j (n + sizeᵃ a - 1) 0 0 (omega arith) (omega (arith, v.0)) (omega arith) (omega arith) (omega arith) pa.1.0 in (
      at_root (λ i. (read l i).statement) (assign j a) (n + suc (sizeᵃ a) - 1) N (omega arith) (At.assign_at l N s.its_kind (omega (arith, s.its_a)) ∙ ap₂ assign s.its_variable (readᵃ l s.its_a ∙ pa.0)),
      subst (λ i. Nodes l i r) (omega arith) pa.1.1,
      subst (λ i. Records l i rk) (omega arith) pa.2,
    )
backˢ l F f (sequence x y) v u n k r rk m mk h hk =
    let zx = someˢ x in
    let px = backˢ l F f x v.0 u.0 (n) (k) _ _ (omega arith) (omega arith) h hk in
    let zy = someˢ y in
    let py = backˢ l F f y v.1 u.1 (n + sizeˢ x) (k + recordsˢ x) _ _ (omega arith) (omega arith) px.1 px.2 in
    let N = n + sizeˢ x + sizeˢ y in
    let s = stands l N 18 0 (n + sizeˢ x - 1) (n + sizeˢ x + sizeˢ y - 1) 0 (omega arith) (omega arith) (omega arith) (omega arith) (omega arith) py.1.0 in (
      at_root (λ i. (read l i).statement) (sequence x y) (n + suc (sizeˢ x + sizeˢ y) - 1) N (omega arith) (At.sequence_at l N s.its_kind (omega (arith, s.its_a)) (omega (arith, s.its_b)) ∙ ap₂ sequence (readˢ l s.its_a ∙ px.0) (readˢ l s.its_b ∙ py.0)),
      subst (λ i. Nodes l i r) (omega arith) py.1.1,
      subst (λ i. Records l i rk) (omega arith) py.2,
    )
backˢ l F f (if e x y) v u n k r rk m mk h hk =
    let ze = someᵇ e in
    let pe = backᵇ l F f e v.0 u.0 (n) (k) _ _ (omega arith) (omega arith) h hk in
    let zx = someˢ x in
    let px = backˢ l F f x v.1 u.1 (n + sizeᵇ e) (k + recordsᵇ e) _ _ (omega arith) (omega arith) pe.1 pe.2 in
    let zy = someˢ y in
    let py = backˢ l F f y v.2 u.2 (n + sizeᵇ e + sizeˢ x) (k + recordsᵇ e + recordsˢ x) _ _ (omega arith) (omega arith) px.1 px.2 in
    let N = n + sizeᵇ e + sizeˢ x + sizeˢ y in
    let s = stands l N 19 0 (n + sizeᵇ e - 1) (n + sizeᵇ e + sizeˢ x - 1) (n + sizeᵇ e + sizeˢ x + sizeˢ y - 1) (omega arith) (omega arith) (omega arith) (omega arith) (omega arith) py.1.0 in (
      at_root (λ i. (read l i).statement) (if e x y) (n + suc (sizeᵇ e + sizeˢ x + sizeˢ y) - 1) N (omega arith) (At.if_at l N s.its_kind (omega (arith, s.its_a)) (omega (arith, s.its_b)) (omega (arith, s.its_c)) ∙ if_same (readᵇ l s.its_a ∙ pe.0) (readˢ l s.its_b ∙ px.0) (readˢ l s.its_c ∙ py.0)),
      subst (λ i. Nodes l i r) (omega arith) py.1.1,
      subst (λ i. Records l i rk) (omega arith) py.2,
    )
backˢ l F f (while e x) v u n k r rk m mk h hk =
    let ze = someᵇ e in
    let pe = backᵇ l F f e v.0 u.0 (n) (k) _ _ (omega arith) (omega arith) h hk in
    let zx = someˢ x in
    let px = backˢ l F f x v.1 u.1 (n + sizeᵇ e) (k + recordsᵇ e) _ _ (omega arith) (omega arith) pe.1 pe.2 in
    let N = n + sizeᵇ e + sizeˢ x in
    let s = stands l N 20 0 (n + sizeᵇ e - 1) (n + sizeᵇ e + sizeˢ x - 1) 0 (omega arith) (omega arith) (omega arith) (omega arith) (omega arith) px.1.0 in (
      at_root (λ i. (read l i).statement) (while e x) (n + suc (sizeᵇ e + sizeˢ x) - 1) N (omega arith) (At.while_at l N s.its_kind (omega (arith, s.its_a)) (omega (arith, s.its_b)) ∙ ap₂ while (readᵇ l s.its_a ∙ pe.0) (readˢ l s.its_b ∙ px.0)),
      subst (λ i. Nodes l i r) (omega arith) px.1.1,
      subst (λ i. Records l i rk) (omega arith) px.2,
    )
backˢ l F f (throw a) v u n k r rk m mk h hk =
    let za = someᵃ a in
    let pa = backᵃ l F f a (v) (u) (n) (k) _ _ (omega arith) (omega arith) h hk in
    let N = n + sizeᵃ a in
    let s = stands l N 21 0 (n + sizeᵃ a - 1) 0 0 (omega arith) (omega arith) (omega arith) (omega arith) (omega arith) pa.1.0 in (
      at_root (λ i. (read l i).statement) (throw a) (n + suc (sizeᵃ a) - 1) N (omega arith) (At.throw_at l N s.its_kind (omega (arith, s.its_a)) ∙ ap throw (readᵃ l s.its_a ∙ pa.0)),
      subst (λ i. Nodes l i r) (omega arith) pa.1.1,
      subst (λ i. Records l i rk) (omega arith) pa.2,
    )
backˢ l F f (try x j y) v u n k r rk m mk h hk =
    let zx = someˢ x in
    let px = backˢ l F f x v.0 u.0 (n) (k) _ _ (omega arith) (omega arith) h hk in
    let zy = someˢ y in
    let py = backˢ l F f y v.2 u.1 (n + sizeˢ x) (k + recordsˢ x) _ _ (omega arith) (omega arith) px.1 px.2 in
    let N = n + sizeˢ x + sizeˢ y in
    let s = stands l N 22 j (n + sizeˢ x - 1) (n + sizeˢ x + sizeˢ y - 1) 0 (omega arith) (omega (arith, v.1)) (omega arith) (omega arith) (omega arith) py.1.0 in (
      at_root (λ i. (read l i).statement) (try x j y) (n + suc (sizeˢ x + sizeˢ y) - 1) N (omega arith) (At.try_at l N s.its_kind (omega (arith, s.its_a)) (omega (arith, s.its_b)) ∙ try_same (readˢ l s.its_a ∙ px.0) s.its_variable (readˢ l s.its_b ∙ py.0)),
      subst (λ i. Nodes l i r) (omega arith) py.1.1,
      subst (λ i. Records l i rk) (omega arith) py.2,
    )
backˢ l F f (choice c x y) v u n k r rk m mk h hk =
    let zc = someᶜ c in
    let pc = backᶜ l F f c u.0 k _ (omega arith) hk in
    let zx = someˢ x in
    let px = backˢ l F f x v.0 u.1 (n) (k + sizeᶜ c) _ _ (omega arith) (omega arith) h pc.1 in
    let zy = someˢ y in
    let py = backˢ l F f y v.1 u.2 (n + sizeˢ x) (k + sizeᶜ c + recordsˢ x) _ _ (omega arith) (omega arith) px.1 px.2 in
    let N = n + sizeˢ x + sizeˢ y in
    let s = stands l N 23 0 (k + sizeᶜ c - 1) (n + sizeˢ x - 1) (n + sizeˢ x + sizeˢ y - 1) (omega arith) (omega arith) (omega arith) (omega arith) (omega arith) py.1.0 in (
      at_root (λ i. (read l i).statement) (choice c x y) (n + suc (sizeˢ x + sizeˢ y) - 1) N (omega arith) (At.choice_at l N s.its_kind (omega (arith, s.its_b)) (omega (arith, s.its_c)) ∙ choice_same (ap (condition l) s.its_a ∙ pc.0) (readˢ l s.its_b ∙ px.0) (readˢ l s.its_c ∙ py.0)),
      subst (λ i. Nodes l i r) (omega arith) py.1.1,
      subst (λ i. Records l i rk) (omega arith) py.2,
    )
