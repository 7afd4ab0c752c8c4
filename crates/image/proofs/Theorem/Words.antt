-- What was written as bytes reads back: a number from its bytes, the n-th word of a list from theirs, and the fields of a node from its word.
use Rattle.std.specs.Prelude.{◌≡◌, refl, ℕ, zero, suc, ◌+◌, ◌*◌, ◌/◌, ◌%◌, ◌^◌, ◌<◌, List, [], ◌∷◌, ◌++◌, length, get_or}
use Rattle.std.proofs.Common.{sym, ◌∙◌, ap, ap₂, append_assoc, arith, pow-suc, length-append, get_or-append-add}
use Rattle.std.proofs.lemmas.List.{get_or_at}
use Rattle.image.specs.declared.records.Node.{Node}
use Rattle.image.specs.Bytes.{number_at}
use Rattle.image.specs.Records.{node_fields}
use Rattle.image.specs.Term.{node_word, bytes_of, all_bytes}

-- ---- bytes

pub length_bytes : (n w : ℕ) → length (bytes_of n w) ≡ n
unfolding bytes_of
length_bytes zero w = refl
length_bytes (suc n) w = length-append (bytes_of n (w / 256)) (w % 256 ∷ []) ∙ omega (arith, length_bytes n (w / 256))

pub number_bytes : (n w : ℕ) (before after : List ℕ) → w < 256 ^ n → number_at (before ++ (bytes_of n w ++ after)) (length before) n ≡ w
unfolding number_at bytes_of
number_bytes zero w before after h = omega arith
number_bytes (suc n) w before after h =
    let rest : List ℕ = bytes_of n (w / 256) ++ (w % 256 ∷ after) in
    let same : bytes_of n (w / 256) ++ (w % 256 ∷ []) ++ after ≡ rest = append_assoc (bytes_of n (w / 256)) (w % 256 ∷ []) after in
    let high : number_at (before ++ rest) (length before) n ≡ w / 256 = number_bytes n (w / 256) before (w % 256 ∷ after) (omega (arith, pow-suc 256 n)) in
    let low : get_or (before ++ rest) (length before + n) 0 ≡ w % 256 =
    get_or-append-add before rest n 0 ∙ get_or_at (bytes_of n (w / 256)) (w % 256) after 0 n (length_bytes n (w / 256)) in
    let whole : number_at (before ++ rest) (length before) n * 256 + get_or (before ++ rest) (length before + n) 0 ≡ w = rw (high, low) (omega arith) in
    ap (λ l. number_at (before ++ l) (length before) (suc n)) same ∙ whole

-- each word is of 64 bits
abbrev pub AllWords : List ℕ → Type 0
AllWords [] = Unit {0}
AllWords (w ∷ ws) = (w < 2 ^ 64) × AllWords ws

pub word_at : (before : List ℕ) (ws : List ℕ) (n : ℕ) → n < length ws → AllWords ws → number_at (before ++ all_bytes ws) (length before + 8 * n) 8 ≡ get_or ws n 0
unfolding all_bytes
word_at before [] n h f = absurd (omega arith)
word_at before (w ∷ ws) zero h f = ap (λ i. number_at (before ++ (bytes_of 8 w ++ all_bytes ws)) i 8) (omega arith) ∙ number_bytes 8 w before (all_bytes ws) f.0
word_at before (w ∷ ws) (suc n) h f =
    let more : length (before ++ bytes_of 8 w) ≡ length before + 8 = length-append before (bytes_of 8 w) ∙ omega (arith, length_bytes 8 w) in
    ap₂ (λ l i. number_at l i 8) (sym (append_assoc before (bytes_of 8 w) (all_bytes ws))) (omega arith)
    ∙ word_at (before ++ bytes_of 8 w) ws n (omega arith) f.1

pub length_all : (ws : List ℕ) → length (all_bytes ws) ≡ 8 * length ws
unfolding all_bytes
length_all [] = refl
length_all (w ∷ ws) = length-append (bytes_of 8 w) (all_bytes ws) ∙ omega (arith, length_bytes 8 w, length_all ws)

-- ---- a node's fields

-- of a node that is no number
pub fields_back : (k v a b c : ℕ) → k < 64 → v < 64 → a < 4096 → b < 4096 → c < 4096
    → (let ν : Node = node_fields (node_word k v 0 a b c) in
    (ν.kind ≡ k) × (ν.variable ≡ v) × (ν.a ≡ a) × (ν.b ≡ b) × (ν.c ≡ c) × (ν.zero ≡ 0))
unfolding node_word
fields_back k v a b c hk hv ha hb hc = (omega arith, omega arith, omega arith, omega arith, omega arith, omega arith)

-- of a number node
pub number_back : (n : ℕ) → n < 2 ^ 32 → (let ν : Node = node_fields (node_word 0 0 n 0 0 0) in (ν.kind ≡ 0) × (ν.high ≡ 0) × (ν.value ≡ n))
unfolding node_word
number_back n h = (omega arith, omega arith, omega arith)
