-- Words are stored one behind another, whatever their width: one word more goes behind the bytes of those before it. Header, records and nodes so make the image.
use mathlib.Core.Path.{◌≡◌, refl, sym, ◌∙◌, ap, ap₂}
use Prim.Native.Nat.{ℕ, suc, ◌+◌, ◌*◌, ◌≤◌, ◌<◌}
use mathlib.Core.List.{List, [], ◌∷◌, ◌++◌, append_assoc, append-nil}
use native.Mathlib.Omega.{arith}
use lib.ListN.{length, get_or, take, length-append}
use Rattle.std.specs.List.{flat_map}
use lib.Seq.{sets, length-take-le, take-suc}
use Rattle.image.specs.declared.refusals.Refusal.TheVariants.{SpaceShort}
use Rattle.image.specs.Bytes.{Bytes, over}
use Rattle.image.specs.Term.{head_word, bytes_of, all_bytes}
use Rattle.image.proofs.Theorem.Words.{length_bytes, length_all}
use Rattle.image.proofs.Stores.{sets_app, over_is}
use Rattle.written.specs.Image.{record_bytes}
use Rattle.written.proofs.Theorem.ImageRead.{length_records}
use Rattle.std.specs.Prelude.{Ok, Err}
use Rattle.reading.specs.Inner.Writing.{image_of, Writing, Writes}

-- ---- words of a width, as a loop stores them

-- records and nodes have their bytes one word behind another
pub records_one_by_one : (ws : List ℕ) → flat_map (bytes_of 4) ws ≡ record_bytes ws
unfolding record_bytes
records_one_by_one [] = refl
records_one_by_one (w ∷ ws) = ap (λ r. bytes_of 4 w ++ r) (records_one_by_one ws)

pub nodes_one_by_one : (ws : List ℕ) → flat_map (bytes_of 8) ws ≡ all_bytes ws
unfolding all_bytes
nodes_one_by_one [] = refl
nodes_one_by_one (w ∷ ws) = ap (λ r. bytes_of 8 w ++ r) (nodes_one_by_one ws)

module _ {T : Type 0} (k : ℕ) (f : T → Bytes) (wide : (w : T) → length (f w) ≡ k) where
  one_behind : (u : List T) (w : T) → flat_map f (u ++ (w ∷ [])) ≡ flat_map f u ++ f w
  one_behind [] w = append-nil (f w)
  one_behind (x ∷ u) w = ap (λ r. f x ++ r) (one_behind u w) ∙ sym (append_assoc (f x) (flat_map f u) (f w))

  long_all : (ws : List T) → length (flat_map f ws) ≡ k * length ws
  long_all [] = omega arith
  long_all (w ∷ ws) = length-append (f w) (flat_map f ws) ∙ omega (arith, wide w, long_all ws)

module _ {T : Type 0} (k : ℕ) (value : T → ℕ) where
  abbrev bytes : T → Bytes
  bytes w = bytes_of k (value w)

  -- one word more goes behind those that are stored
  pub one_more : (out₀ out out' : Bytes) (at i n : ℕ) (words : List T) (x : T) → i < length words → x ≡ get_or words i x → n ≡ value x
      → out ≡ sets out₀ at (flat_map bytes (take i words)) → out' ≡ sets out (at + k * i) (bytes_of k n) → out' ≡ sets out₀ at (flat_map bytes (take (i + 1) words))
  one_more out₀ out out' at i n words x l e f h p =
      let next : suc i ≡ i + 1 = omega arith in
      let u : Bytes = flat_map bytes (take i words) in
      let all : flat_map bytes (take (suc i) words) ≡ u ++ bytes x =
      ap (flat_map bytes) (take-suc words i x l) ∙ one_behind k bytes (λ w. length_bytes k (value w)) (take i words) (get_or words i x) ∙ ap (λ y. u ++ bytes y) (sym e) in
      let long : length u ≡ k * i = long_all k bytes (λ w. length_bytes k (value w)) (take i words) ∙ ap (λ m. k * m) (length-take-le i words (omega (arith, l))) in
      p ∙ ap (λ m. sets out (at + k * i) (bytes_of k m)) f
      ∙ ap₂ (λ o j. sets o (at + j) (bytes x)) h (sym long)
      ∙ sym (sets_app u (bytes x) out₀ at)
      ∙ ap (sets out₀ at) (sym all ∙ ap (λ j. flat_map bytes (take j words)) next)

-- ---- the whole image

module _ (F conditions count : ℕ) (records nodes : List ℕ) (h : Writing F conditions count records nodes) where
  abbrev image : Bytes
  image = image_of F (take conditions records) (take count nodes)

  abbrev head : Bytes
  head = bytes_of 8 (head_word F conditions count)

  abbrev middle : Bytes
  middle = record_bytes (take conditions records)

  abbrev last : Bytes
  last = all_bytes (take count nodes)

  image_here : image ≡ head ++ (middle ++ last)
  unfolding image_of
  image_here =
      ap₂ (λ m n. bytes_of 8 (head_word F m n) ++ (middle ++ last)) (length-take-le conditions records h.records_there) (length-take-le count nodes h.nodes_there)

  long_middle : length middle ≡ 4 * conditions
  long_middle = length_records (take conditions records) ∙ ap (λ n. 4 * n) (length-take-le conditions records h.records_there)

  long_last : length last ≡ 8 * count
  long_last = length_all (take count nodes) ∙ ap (λ n. 8 * n) (length-take-le count nodes h.nodes_there)

  long : length image ≡ 8 + 4 * conditions + 8 * count
  long =
      ap length image_here
      ∙ omega (arith, length-append head (middle ++ last), length-append middle last, length_bytes 8 (head_word F conditions count), long_middle, long_last)

  pub short : (out : Bytes) → length out < 8 + 4 * conditions + 8 * count → Writes F conditions count records nodes out out (Err SpaceShort)
  short out l = record { no_space = λ e. (refl, refl); written = λ e. absurd (omega (arith, long, l, e)) }

  stored : (out : Bytes) → 8 + 4 * conditions + 8 * count ≤ length out → sets (sets (sets out 0 head) 8 middle) (8 + 4 * conditions) last ≡ over image out
  stored out l =
      let from : 8 ≡ 0 + length head = omega (arith, length_bytes 8 (head_word F conditions count)) in
      let behind : 8 + 4 * conditions ≡ 8 + length middle = omega (arith, long_middle) in
      ap (λ j. sets (sets (sets out 0 head) 8 middle) j last) behind
      ∙ sym (sets_app middle last (sets out 0 head) 8)
      ∙ ap (λ j. sets (sets out 0 head) j (middle ++ last)) from
      ∙ sym (sets_app head (middle ++ last) out 0)
      ∙ ap (sets out 0) (sym image_here)
      ∙ over_is image out (omega (arith, long))

  pub all_written : (out out₁ out₂ out₃ : Bytes) (word : ℕ) → 8 + 4 * conditions + 8 * count ≤ length out → word ≡ head_word F conditions count
      → out₁ ≡ sets out 0 (bytes_of 8 word) → out₂ ≡ sets out₁ 8 (flat_map (bytes_of 4) (take conditions records)) → out₃ ≡ sets out₂ (8 + 4 * conditions) (flat_map (bytes_of 8) (take count nodes))
      → Writes F conditions count records nodes out out₃ (Ok (8 + 4 * conditions + 8 * count))
  all_written out out₁ out₂ out₃ word l w e₁ e₂ e₃ =
      let first : out₁ ≡ sets out 0 head = e₁ ∙ ap (λ w. sets out 0 (bytes_of 8 w)) w in
      let second : out₂ ≡ sets (sets out 0 head) 8 middle = e₂ ∙ ap₂ (λ o m. sets o 8 m) first (records_one_by_one (take conditions records)) in
      record {
        no_space = λ e. absurd (omega (arith, long, l, e));
        written = λ e. (ap Ok (sym long), e₃ ∙ ap₂ (λ o m. sets o (8 + 4 * conditions) m) second (nodes_one_by_one (take count nodes)) ∙ stored out l);
      }
