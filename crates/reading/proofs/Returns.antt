-- What each return of a token's functions gives is what the definition says.
use mathlib.Core.Path.{◌≡◌, sym, ◌∙◌, ap, ap₂}
use Prim.Native.Nat.{ℕ, ◌+◌, ◌-◌, ◌≤◌, ◌<◌}
use mathlib.Core.Bool.{Bool, true, false, cond, ◌&&◌}
use native.Mathlib.Omega.{arith}
use lib.Dec.{eqb, leb, ltb}
use lib.ListN.{length, take, drop, get_or, length-drop}
use Rattle.std.proofs.lemmas.List.{take_all}
use borrow.Author.Tests.{eq-eqb, ne_eqb, lt-ltb, le-ltb}
use Rattle.std.specs.Prelude.{Result, Ok, Err}
use Rattle.image.specs.declared.refusals.Refusal.{Refusal}
use Rattle.image.specs.declared.refusals.Refusal.TheVariants.{TextWrong, TooMany}
use Rattle.image.specs.Bytes.{Bytes}
use Rattle.written.specs.Byte.{is_run, is_wordy}
use Rattle.written.specs.Token.{Opens}
use Rattle.written.specs.Limits.{NODES, RECORDS}
use Rattle.reading.specs.declared.cursor.Cursor.{Cursor}
use Rattle.reading.specs.Inner.Way.{node_of, record_in}
use Rattle.reading.specs.Inner.Spelling.{agree}
use Rattle.reading.specs.Inner.Token.{moved_to, spaces_in, passed, met, counted_to, word_to}

-- a test that is known decides
pub on : {A : Type 0} (u : Bool) (x y : A) → u ≡ true → x ≡ cond u x y
on u x y e = sym (ap (λ v. cond v x y) e)

pub off : {A : Type 0} (u : Bool) (x y : A) → u ≡ false → y ≡ cond u x y
off u x y e = sym (ap (λ v. cond v x y) e)

-- a slice from a place on holds the rest of the text
pub rest_is : (text : Bytes) (at : ℕ) → take (length text - at) (drop at text) ≡ drop at text
rest_is text at = take_all (length text - at) (drop at text) (omega (arith, length-drop at text))

module _ (text : Bytes) (c : Cursor) where
  pub pass : (n : ℕ) → n ≡ spaces_in (take (length text - c.at) (drop c.at text)) → moved_to c (c.at + n) (c.tight && eqb (c.at + n) c.at) ≡ passed text c
  unfolding passed
  pass n e = ap (λ i. moved_to c (c.at + i) (c.tight && eqb (c.at + i) c.at)) (e ∙ ap spaces_in (rest_is text c.at))

  -- ---- the first byte of a token, behind the spaces

  module _ (d : Cursor) (e : d ≡ passed text c) where
    abbrev met_from : Cursor → Result Cursor Refusal
    met_from d = cond (eqb d.at (length text)) (Err (TextWrong d.at)) (cond (d.tight && is_wordy (get_or text d.at 0)) (Err (TextWrong d.at)) (Ok d))

    met_is : met_from d ≡ met text c
    unfolding met
    met_is = ap met_from e

    pub meet_end : d.at ≡ length text → Err (TextWrong d.at) ≡ met text c
    meet_end h = on (eqb d.at (length text)) _ _ (eq-eqb d.at (length text) h) ∙ met_is

    module _ (b : ℕ) (u : Bool) (n : d.at ≡ length text → ⊥) (k : b ≡ get_or text d.at 0) (j : u ≡ is_wordy b) where
      meet_byte : (v : Bool) → (d.tight && u) ≡ v → cond v (Err (TextWrong d.at)) (Ok d) ≡ met text c
      meet_byte v t =
          ap (λ v. cond v (Err (TextWrong d.at)) (Ok d)) (sym (ap (λ v. d.tight && v) (sym (j ∙ ap is_wordy k)) ∙ t))
          ∙ off (eqb d.at (length text)) (Err (TextWrong d.at)) _ (ne_eqb d.at (length text) n)
          ∙ met_is

      pub meet_word : (d.tight && u) ≡ true → Err (TextWrong d.at) ≡ met text c
      meet_word t = meet_byte true t

      pub meet_token : (d.tight && u) ≡ false → Ok d ≡ met text c
      meet_token t = meet_byte false t

  -- ---- the end of a token

  module _ (end : ℕ) (tight : Bool) (o : Opens) (n r : ℕ) (count-n : n ≡ node_of o) (count-r : r ≡ record_in o) where
    abbrev result : ℕ → ℕ → Result Cursor Refusal
    result nodes records =
        cond (leb nodes NODES && leb records RECORDS)
        (Ok (record { at = end; tight = tight; nodes = nodes; records = records; node = c.node; condition = c.condition }))
        (cond (tight && is_run (get_or text end 0)) (Err (TextWrong end)) (Err (TooMany c.at)))

    result_is : result (c.nodes + n) (c.records + r) ≡ counted_to text c end tight o
    unfolding counted_to
    result_is = ap₂ (λ i j. result (c.nodes + i) (c.records + j)) count-n count-r

    pub count_on : (leb (c.nodes + n) NODES && leb (c.records + r) RECORDS) ≡ true
        → Ok (record { at = end; tight = tight; nodes = c.nodes + n; records = c.records + r; node = c.node; condition = c.condition }) ≡ counted_to text c end tight o
    count_on t = on (leb (c.nodes + n) NODES && leb (c.records + r) RECORDS) _ _ t ∙ result_is

    module _ (b : ℕ) (u : Bool) (t : (leb (c.nodes + n) NODES && leb (c.records + r) RECORDS) ≡ false) (e : b ≡ get_or text end 0) (f : u ≡ is_run b) where
      over : (v : Bool) → (tight && u) ≡ v → cond v (Err (TextWrong end)) (Err (TooMany c.at)) ≡ counted_to text c end tight o
      over v h =
          ap (λ v. cond v (Err (TextWrong end)) (Err (TooMany c.at))) (sym (ap (λ v. tight && v) (sym (f ∙ ap is_run e)) ∙ h))
          ∙ off (leb (c.nodes + n) NODES && leb (c.records + r) RECORDS) _ _ t ∙ result_is

      pub count_17 : (tight && u) ≡ true → Err (TextWrong end) ≡ counted_to text c end tight o
      count_17 h = over true h

      pub count_18 : (tight && u) ≡ false → Err (TooMany c.at) ≡ counted_to text c end tight o
      count_18 h = over false h

  -- ---- a word

  module _ (x : Bytes) (o : Opens) (n : ℕ) (count : n ≡ agree x (take (length text - c.at) (drop c.at text))) where
    pub agrees : n ≡ agree x (drop c.at text)
    agrees = count ∙ ap (agree x) (rest_is text c.at)

    word_is : cond (ltb n (length x)) (Err (TextWrong (c.at + n))) (counted_to text c (c.at + n) (is_wordy (get_or x 0 0)) o) ≡ word_to text c x o
    unfolding word_to
    word_is = ap (λ n. cond (ltb n (length x)) (Err (TextWrong (c.at + n))) (counted_to text c (c.at + n) (is_wordy (get_or x 0 0)) o)) agrees

    pub word_wrong : n < length x → Err (TextWrong (c.at + n)) ≡ word_to text c x o
    word_wrong h = on (ltb n (length x)) _ _ (lt-ltb n (length x) h) ∙ word_is

    pub word_whole : (b : ℕ) (u : Bool) (r : Result Cursor Refusal) → length x ≤ n → b ≡ get_or x 0 0 → u ≡ is_wordy b → r ≡ counted_to text c (c.at + n) u o → r ≡ word_to text c x o
    word_whole b u r h e f k =
        k ∙ ap (λ v. counted_to text c (c.at + n) v o) (f ∙ ap is_wordy e) ∙ off (ltb n (length x)) (Err (TextWrong (c.at + n))) _ (le-ltb n (length x) h) ∙ word_is
