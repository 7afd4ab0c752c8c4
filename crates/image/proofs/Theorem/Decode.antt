-- Decoding an encoded routine gives the routine: where its words stand, its tree is read back. Induction on the tree.
use Rattle.std.specs.Prelude.{◌≡◌, ℕ, suc, ◌+◌, ◌-◌, ◌≤◌, ◌<◌, List, ℤ}
use Rattle.std.proofs.Common.{◌∙◌, ap, ap₂, arith, SFits}
use Rattle.std.specs.Int.{w32}
use Rattle.imp.specs.Numbers.{low32, signed32, wrap}
use Rattle.imp.specs.Condition.{Condition}
use Rattle.imp.specs.Routine.{Arithmetic, number, variable, sum, pick, choiceᵃ, Boolean, falseᵇ, trueᵇ, notᵇ, andᵇ, less, choiceᵇ, Statement, skip, assign, sequence, if, while, throw, try, choice}
use Rattle.imp.specs.Embed.{embedᵃ, embedᵇ, embed}
use Rattle.imp.specs.Valid.{Validᵃ, Validᵇ, Valid}
use Rattle.imp.proofs.Theorem.Wrap.{low_fits, wrap_same}
use Rattle.image.specs.Records.{node, node_fields}
use Rattle.image.specs.Tree.{read}
use Rattle.image.specs.Term.{Term, term, Branch, none, some, size, branch_size, name, node_word, words, branch_words}
use Rattle.image.specs.Encode.{termᵃ, termᵇ, termˢ}
use Rattle.image.proofs.Theorem.Reading as At
use Rattle.image.proofs.Theorem.Words.{number_back}
use Rattle.image.proofs.Theorem.Encoded.{name_small, Encoded, Parts, parts, size_some}
use Rattle.image.proofs.Theorem.Fine.{Stands, stands}

-- the root of an encoded term, by its fields
module _ (l : List ℕ) (at k v : ℕ) (a b c : Branch) (hk : k < 64) (hv : v < 64) (room : at + size (term k v 0 a b c) ≤ 4096)
    (e : Encoded l at (words (term k v 0 a b c) at)) where
  abbrev own : ℕ
  own = at + branch_size a + branch_size b + branch_size c

  in_parts : Parts l at k v 0 a b c
  in_parts = parts l at k v 0 a b c e

  root : Stands l own k v (name a (at + branch_size a)) (name b (at + branch_size a + branch_size b)) (name c own)
  unfolding size
  root = stands l own k v _ _ _ hk hv (name_small a _ (omega arith)) (name_small b _ (omega arith)) (name_small c _ (omega arith)) in_parts.own

-- a number node, by its value
number_root : (l : List ℕ) (at n : ℕ) → n < 4294967296 → Encoded l at (words (term 0 0 n none none none) at) → ((node l at).kind ≡ 0) × ((node l at).value ≡ n)
unfolding branch_size name
number_root l at n h e =
    let p : Parts l at 0 0 n none none none = parts l at 0 0 n none none none e in
    let here : at + 0 + 0 + 0 ≡ at = omega arith in
    let own : node l at ≡ node_fields (node_word 0 0 n 0 0 0) = rw here at p.own in
    let f = number_back n h in
    (ap (λ ν. ν.kind) own ∙ f.0, ap (λ ν. ν.value) own ∙ f.2)

-- the root of a term is its last node, and its children end where their names say
record Rooted (l : List ℕ) (at k v : ℕ) (a b c : Branch) : Type 0 where
  stood : Stands l (at + size (term k v 0 a b c) - 1) k v (name a (at + branch_size a)) (name b (at + branch_size a + branch_size b))
      (name c (at + branch_size a + branch_size b + branch_size c))
  part_a : Encoded l at (branch_words a at)
  part_b : Encoded l (at + branch_size a) (branch_words b (at + branch_size a))
  part_c : Encoded l (at + branch_size a + branch_size b) (branch_words c (at + branch_size a + branch_size b))

rooted : (l : List ℕ) (at k v : ℕ) (a b c : Branch) → k < 64 → v < 64 → at + size (term k v 0 a b c) ≤ 4096 → Encoded l at (words (term k v 0 a b c) at)
    → Rooted l at k v a b c
unfolding size
rooted l at k v a b c hk hv room e =
    let p : Parts l at k v 0 a b c = in_parts l at k v a b c hk hv room e in
    let last : at + suc (branch_size a + branch_size b + branch_size c) - 1 ≡ at + branch_size a + branch_size b + branch_size c = omega arith in
    record { stood = rw last (root l at k v a b c hk hv room e); part_a = p.in_a; part_b = p.in_b; part_c = p.in_c }

-- what is read of a child, by its name
module _ (l : List ℕ) (n m : ℕ) (e : n ≡ m) where
  readᵃ : (read l n).arithmetic ≡ (read l m).arithmetic
  readᵃ = ap (λ i. (read l i).arithmetic) e

  readᵇ : (read l n).boolean ≡ (read l m).boolean
  readᵇ = ap (λ i. (read l i).boolean) e

  readˢ : (read l n).statement ≡ (read l m).statement
  readˢ = ap (λ i. (read l i).statement) e

-- nodes with one, two and three children: where those end, below their parent
record One (l : List ℕ) (at k v : ℕ) (x : Term) : Type 0 where
  stood₁ : Stands l (at + size (term k v 0 (some x) none none) - 1) k v (at + size x - 1) 0 0
  lower₁ : (node l (at + size (term k v 0 (some x) none none) - 1)).a < at + size (term k v 0 (some x) none none) - 1
  room₁ : at + size x ≤ 4096
  in₁ : Encoded l at (words x at)

one : (l : List ℕ) (at k v : ℕ) (x : Term) → k < 64 → v < 64 → at + size (term k v 0 (some x) none none) ≤ 4096
    → Encoded l at (words (term k v 0 (some x) none none) at) → One l at k v x
unfolding size name branch_words
one l at k v x hk hv room e =
    let r = rooted l at k v (some x) none none hk hv room e in
    record { stood₁ = r.stood; lower₁ = omega (arith, r.stood.its_a, size_some x); room₁ = omega arith; in₁ = r.part_a }

record Two (l : List ℕ) (at k v : ℕ) (x y : Term) : Type 0 where
  stood₂ : Stands l (at + size (term k v 0 (some x) (some y) none) - 1) k v (at + size x - 1) (at + size x + size y - 1) 0
  lower₂ : ((node l (at + size (term k v 0 (some x) (some y) none) - 1)).a < at + size (term k v 0 (some x) (some y) none) - 1)
      × ((node l (at + size (term k v 0 (some x) (some y) none) - 1)).b < at + size (term k v 0 (some x) (some y) none) - 1)
  room₂ : (at + size x ≤ 4096) × (at + size x + size y ≤ 4096)
  in₂ : Encoded l at (words x at) × Encoded l (at + size x) (words y (at + size x))

two : (l : List ℕ) (at k v : ℕ) (x y : Term) → k < 64 → v < 64 → at + size (term k v 0 (some x) (some y) none) ≤ 4096
    → Encoded l at (words (term k v 0 (some x) (some y) none) at) → Two l at k v x y
unfolding size name branch_words
two l at k v x y hk hv room e =
    let r = rooted l at k v (some x) (some y) none hk hv room e in
    record {
      stood₂ = r.stood;
      lower₂ = (omega (arith, r.stood.its_a, size_some x), omega (arith, r.stood.its_b, size_some x));
      room₂ = (omega arith, omega arith);
      in₂ = (r.part_a, r.part_b);
    }

record Three (l : List ℕ) (at k : ℕ) (x y z : Term) : Type 0 where
  stood₃ : Stands l (at + size (term k 0 0 (some x) (some y) (some z)) - 1) k 0 (at + size x - 1) (at + size x + size y - 1) (at + size x + size y + size z - 1)
  lower₃ : ((node l (at + size (term k 0 0 (some x) (some y) (some z)) - 1)).a < at + size (term k 0 0 (some x) (some y) (some z)) - 1)
      × ((node l (at + size (term k 0 0 (some x) (some y) (some z)) - 1)).b < at + size (term k 0 0 (some x) (some y) (some z)) - 1)
      × ((node l (at + size (term k 0 0 (some x) (some y) (some z)) - 1)).c < at + size (term k 0 0 (some x) (some y) (some z)) - 1)
  room₃ : (at + size x ≤ 4096) × (at + size x + size y ≤ 4096) × (at + size x + size y + size z ≤ 4096)
  in₃ : Encoded l at (words x at) × Encoded l (at + size x) (words y (at + size x)) × Encoded l (at + size x + size y) (words z (at + size x + size y))

three : (l : List ℕ) (at k : ℕ) (x y z : Term) → k < 64 → at + size (term k 0 0 (some x) (some y) (some z)) ≤ 4096
    → Encoded l at (words (term k 0 0 (some x) (some y) (some z)) at) → Three l at k x y z
unfolding size name branch_words
three l at k x y z hk room e =
    let r = rooted l at k 0 (some x) (some y) (some z) hk (omega arith) room e in
    record {
      stood₃ = r.stood;
      lower₃ = (omega (arith, r.stood.its_a, size_some x), omega (arith, r.stood.its_b, size_some x), omega (arith, r.stood.its_c, size_some x));
      room₃ = (omega arith, omega arith, omega arith);
      in₃ = (r.part_a, r.part_b, r.part_c);
    }

-- ---- each kind

number_back_again : (n : ℤ) → SFits w32 n → signed32 (low32 n) ≡ n
unfolding wrap
number_back_again n h = wrap_same n h

pick_same : {e e' : Boolean Condition} {a a' b b' : Arithmetic Condition} → e ≡ e' → a ≡ a' → b ≡ b' → pick e a b ≡ pick e' a' b'
pick_same p q r = λ i. pick (p i) (q i) (r i)

if_same : {e e' : Boolean Condition} {x x' y y' : Statement Condition} → e ≡ e' → x ≡ x' → y ≡ y' → if e x y ≡ if e' x' y'
if_same p q r = λ i. if (p i) (q i) (r i)

try_same : {x x' y y' : Statement Condition} {v v' : ℕ} → x ≡ x' → v ≡ v' → y ≡ y' → try x v y ≡ try x' v' y'
try_same p q r = λ i. try (p i) (q i) (r i)

number_decoded : (n : ℤ) → SFits w32 n → (l : List ℕ) (at : ℕ) → Encoded l at (words (term 0 0 (low32 n) none none none) at)
    → (read l (at + size (term 0 0 (low32 n) none none none) - 1)).arithmetic ≡ number n
unfolding size
number_decoded n h l at e =
    let r = number_root l at (low32 n) (low_fits n) e in
    let here : at + suc (0 + 0 + 0) - 1 ≡ at = omega arith in
    rw here (At.number_at l at r.0 ∙ ap number (ap signed32 r.1 ∙ number_back_again n h))

abbrev Reads : {A : Type 0} → List ℕ → Term → (ℕ → A) → A → Type 0
Reads l t of x = (at : ℕ) → at + size t ≤ 4096 → Encoded l at (words t at) → of (at + size t - 1) ≡ x

mutual
  unfolding Validᵃ termᵃ embedᵃ

  decodeᵃ : (a : Arithmetic ⊥) → Validᵃ a → (l : List ℕ) → Reads l (termᵃ a) (λ n. (read l n).arithmetic) (embedᵃ a)
  decodeᵃ (number n) h l at room e = number_decoded n h l at e
  decodeᵃ (variable v) h l at room e =
      let r = rooted l at 1 v none none none (omega arith) (omega arith) room e in
      At.variable_at l _ r.stood.its_kind ∙ ap variable r.stood.its_variable
  decodeᵃ (sum a b) h l at room e =
      let r = two l at 2 0 (termᵃ a) (termᵃ b) (omega arith) (omega arith) room e in
      At.sum_at l _ r.stood₂.its_kind r.lower₂.0 r.lower₂.1
      ∙ ap₂ sum (readᵃ l _ _ r.stood₂.its_a ∙ decodeᵃ a h.0 l at r.room₂.0 r.in₂.0)
      (readᵃ l _ _ r.stood₂.its_b ∙ decodeᵃ b h.1 l _ r.room₂.1 r.in₂.1)
  decodeᵃ (pick t a b) h l at room e =
      let r = three l at 3 (termᵇ t) (termᵃ a) (termᵃ b) (omega arith) room e in
      At.pick_at l _ r.stood₃.its_kind r.lower₃.0 r.lower₃.1 r.lower₃.2
      ∙ pick_same (readᵇ l _ _ r.stood₃.its_a ∙ decodeᵇ t h.0 l at r.room₃.0 r.in₃.0)
      (readᵃ l _ _ r.stood₃.its_b ∙ decodeᵃ a h.1 l _ r.room₃.1 r.in₃.1)
      (readᵃ l _ _ r.stood₃.its_c ∙ decodeᵃ b h.2 l _ r.room₃.2 r.in₃.2)
  decodeᵃ (choiceᵃ c a b) h l at room e = absurd c

  decodeᵇ : (t : Boolean ⊥) → Validᵇ t → (l : List ℕ) → Reads l (termᵇ t) (λ n. (read l n).boolean) (embedᵇ t)
  decodeᵇ falseᵇ h l at room e = At.falseᵇ_at l _ (rooted l at 8 0 none none none (omega arith) (omega arith) room e).stood.its_kind
  decodeᵇ trueᵇ h l at room e = At.trueᵇ_at l _ (rooted l at 9 0 none none none (omega arith) (omega arith) room e).stood.its_kind
  decodeᵇ (notᵇ t) h l at room e =
      let r = one l at 10 0 (termᵇ t) (omega arith) (omega arith) room e in
      At.notᵇ_at l _ r.stood₁.its_kind r.lower₁ ∙ ap notᵇ (readᵇ l _ _ r.stood₁.its_a ∙ decodeᵇ t h l at r.room₁ r.in₁)
  decodeᵇ (andᵇ t u) h l at room e =
      let r = two l at 11 0 (termᵇ t) (termᵇ u) (omega arith) (omega arith) room e in
      At.andᵇ_at l _ r.stood₂.its_kind r.lower₂.0 r.lower₂.1
      ∙ ap₂ andᵇ (readᵇ l _ _ r.stood₂.its_a ∙ decodeᵇ t h.0 l at r.room₂.0 r.in₂.0)
      (readᵇ l _ _ r.stood₂.its_b ∙ decodeᵇ u h.1 l _ r.room₂.1 r.in₂.1)
  decodeᵇ (less a b) h l at room e =
      let r = two l at 12 0 (termᵃ a) (termᵃ b) (omega arith) (omega arith) room e in
      At.less_at l _ r.stood₂.its_kind r.lower₂.0 r.lower₂.1
      ∙ ap₂ less (readᵃ l _ _ r.stood₂.its_a ∙ decodeᵃ a h.0 l at r.room₂.0 r.in₂.0)
      (readᵃ l _ _ r.stood₂.its_b ∙ decodeᵃ b h.1 l _ r.room₂.1 r.in₂.1)
  decodeᵇ (choiceᵇ c t u) h l at room e = absurd c

pub decode : (t : Statement ⊥) → Valid t → (l : List ℕ) → Reads l (termˢ t) (λ n. (read l n).statement) (embed t)
unfolding Valid termˢ embed
decode skip h l at room e = At.skip_at l _ (rooted l at 16 0 none none none (omega arith) (omega arith) room e).stood.its_kind
decode (assign v a) h l at room e =
    let r = one l at 17 v (termᵃ a) (omega arith) (omega arith) room e in
    At.assign_at l _ r.stood₁.its_kind r.lower₁
    ∙ ap₂ assign r.stood₁.its_variable (readᵃ l _ _ r.stood₁.its_a ∙ decodeᵃ a h.1 l at r.room₁ r.in₁)
decode (sequence x y) h l at room e =
    let r = two l at 18 0 (termˢ x) (termˢ y) (omega arith) (omega arith) room e in
    At.sequence_at l _ r.stood₂.its_kind r.lower₂.0 r.lower₂.1
    ∙ ap₂ sequence (readˢ l _ _ r.stood₂.its_a ∙ decode x h.0 l at r.room₂.0 r.in₂.0)
    (readˢ l _ _ r.stood₂.its_b ∙ decode y h.1 l _ r.room₂.1 r.in₂.1)
decode (if t x y) h l at room e =
    let r = three l at 19 (termᵇ t) (termˢ x) (termˢ y) (omega arith) room e in
    At.if_at l _ r.stood₃.its_kind r.lower₃.0 r.lower₃.1 r.lower₃.2
    ∙ if_same (readᵇ l _ _ r.stood₃.its_a ∙ decodeᵇ t h.0 l at r.room₃.0 r.in₃.0)
    (readˢ l _ _ r.stood₃.its_b ∙ decode x h.1 l _ r.room₃.1 r.in₃.1)
    (readˢ l _ _ r.stood₃.its_c ∙ decode y h.2 l _ r.room₃.2 r.in₃.2)
decode (while t x) h l at room e =
    let r = two l at 20 0 (termᵇ t) (termˢ x) (omega arith) (omega arith) room e in
    At.while_at l _ r.stood₂.its_kind r.lower₂.0 r.lower₂.1
    ∙ ap₂ while (readᵇ l _ _ r.stood₂.its_a ∙ decodeᵇ t h.0 l at r.room₂.0 r.in₂.0)
    (readˢ l _ _ r.stood₂.its_b ∙ decode x h.1 l _ r.room₂.1 r.in₂.1)
decode (throw a) h l at room e =
    let r = one l at 21 0 (termᵃ a) (omega arith) (omega arith) room e in
    At.throw_at l _ r.stood₁.its_kind r.lower₁ ∙ ap throw (readᵃ l _ _ r.stood₁.its_a ∙ decodeᵃ a h l at r.room₁ r.in₁)
decode (try x v y) h l at room e =
    let r = two l at 22 v (termˢ x) (termˢ y) (omega arith) (omega arith) room e in
    At.try_at l _ r.stood₂.its_kind r.lower₂.0 r.lower₂.1
    ∙ try_same (readˢ l _ _ r.stood₂.its_a ∙ decode x h.0 l at r.room₂.0 r.in₂.0) r.stood₂.its_variable
    (readˢ l _ _ r.stood₂.its_b ∙ decode y h.2 l _ r.room₂.1 r.in₂.1)
decode (choice c x y) h l at room e = absurd c
