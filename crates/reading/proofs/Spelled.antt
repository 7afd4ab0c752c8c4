-- The ways behind a word or mark, and behind a number.
use mathlib.Core.Path.{◌≡◌, refl, sym, ◌∙◌, ap, ap₂, subst}
use Prim.Native.Nat.{ℕ, suc, ◌+◌, ◌-◌, ◌≤◌, ◌<◌}
use mathlib.Core.Bool.{Bool, true, false, cond, ◌&&◌, true≢false}
use mathlib.Core.List.{[], ◌∷◌, reverse}
use mathlib.Core.Logic.{◌⊎◌, inl, inr}
use mathlib.Core.Option.{none, some}
use native.Mathlib.Omega.{arith}
use lib.Dec.{eqb, ltb}
use lib.ListN.{length, drop, get_or, get_or-eq_default}
use lib.Seq.{drop-cons}
use borrow.Author.Tests.{ltb-true, ltb-false, lt-leb, lt-ltb, eqb-true}
use Rattle.std.specs.Prelude.{Result, Ok, Err}
use Rattle.image.specs.declared.refusals.Refusal.{Refusal}
use Rattle.image.specs.declared.refusals.Refusal.TheVariants.{TextWrong}
use Rattle.image.specs.Bytes.{Bytes}
use Rattle.written.specs.Byte.{is_run, is_wordy}
use Rattle.written.specs.Token.{Lexeme, Opens, Spot}
use Rattle.written.specs.Machine.{Stack, Log, noted, lexed, begin, plain, first, digits, low, first_fits, final}
use Rattle.written.specs.Limits.{NODES, RECORDS, first_too_many, whole_in}
use Rattle.written.specs.Answer.{so_far, limited, Answer, refused_17, from}
use Rattle.reading.specs.declared.cursor.Cursor.{Cursor}
use Rattle.reading.specs.declared.number.Number.{Number}
use Rattle.reading.specs.Inner.Way.{nodes_in, records_in, Logged, Good, Refuses}
use Rattle.reading.specs.Inner.Between.{Faces}
use Rattle.reading.specs.Inner.Spelling.{agree, more_digits}
use Rattle.reading.specs.Inner.Token.{counted_to, word_to, value_at, end_at, with_value, number_to}
use Rattle.reading.proofs.Counts.{within_limits, it_or_none, none_limits, not_yet}
use Rattle.reading.proofs.Tokens.{at_end_or_byte, stuck, steps, enters, WordRead, reads_word}
use Rattle.reading.proofs.Digits.{begun_at, DigitsRead, reads_digits, run_on, number_ends, first_digit, no_first}
use Rattle.reading.proofs.Opening.{OneToken, Leads, run_inside, counts}

-- what a number leads to, by its value
abbrev pub NumberLeads : Bytes → Cursor → Stack → (ℕ → Stack) → Opens → Result Number Refusal → Type 0
NumberLeads text c A f o (Ok n) = OneToken text c A (f n.value) o n.cursor
NumberLeads text c A f o (Err e) = Refuses text c A e

module _ (text : Bytes) (c : Cursor) (g : Good text c) (A : Stack) where
  few_nodes : (w : Log) → Logged c w → nodes_in w.spots ≤ NODES
  few_nodes w k = omega (arith, k.nodes_are, g.few_nodes)

  few_records : (w : Log) → Logged c w → records_in w.spots ≤ RECORDS
  few_records w k = omega (arith, k.records_are, g.few_records)

  abbrev start : Log → Answer
  start w = from text (drop c.at text) (plain w [] c.tight A) c.at

  counted : (end : ℕ) (tight : Bool) (o : Opens) (S : Stack) → c.at < end → end ≤ length text
      → ((w : Log) → Logged c w → start w ≡ from text (drop end text) (plain (noted w o tight end) [] tight S) end) → Leads text c A S o (counted_to text c end tight o)
  counted end tight o S f h e = counts text c g end tight o A S f h e

  -- ---- a word or mark

  -- what a first byte leads to
  pub by_first : (f : Faces text c) (x : Lexeme) (o : Opens) (S : Stack) → ((w : Log) → begin w A x.head ≡ some (lexed w o x S)) → (w : Log) → Logged c w → get_or text c.at 0 ≡ x.head
      → start w ≡ from text (drop (suc c.at) text) (plain (noted w o (is_wordy x.head) (w.at + suc (length x.rest))) x.rest (is_wordy x.head) S) (suc c.at)
  by_first f x o S hit w k e =
      steps text (plain w [] c.tight A) (lexed w o x S) c.at (f.before_end)
      (enters text w c.tight A (get_or text c.at 0) (f.no_space) (f.apart) ∙ ap (begin w A) e ∙ hit w)

  module _ (f : Faces text c) (x : Lexeme) (o : Opens) (S : Stack)
      (entered : (w : Log) → Logged c w → get_or text c.at 0 ≡ x.head
      → start w ≡ from text (drop (suc c.at) text) (plain (noted w o (is_wordy x.head) (w.at + suc (length x.rest))) x.rest (is_wordy x.head) S) (suc c.at))
      (miss : (w : Log) → eqb (get_or text c.at 0) x.head ≡ false → begin w A (get_or text c.at 0) ≡ none) where
    -- the first byte is another
    other : eqb (get_or text c.at 0) x.head ≡ false → Leads text c A S o (Err (TextWrong (c.at + 0)))
    unfolding final so_far
    other e = record {
      forth = omega arith;
      inside = omega (arith, g.inside);
      says = λ w k.
          stuck text (plain w [] c.tight A) c.at (record {
            inside = g.inside;
            no_step = λ i. enters text w c.tight A (get_or text c.at 0) (f.no_space) (f.apart) ∙ miss w e;
            no_end = λ i. absurd (omega (arith, i, f.before_end));
            no_limit = none_limits text (c.at + 0) (refused_17 c.at) (first_too_many (reverse w.spots)) (within_limits w.spots (few_nodes w k) (few_records w k));
          })
          ∙ ap refused_17 (omega arith);
    }

    abbrev wordy : Bool
    wordy = is_wordy x.head

    abbrev end : Log → ℕ
    end w = w.at + suc (length x.rest)

    abbrev own : Log → Spot
    own w = record { does = o; is_word = wordy; from = w.at; upto = end w }

    spelled : (w : Log) (j : ℕ) → get_or text c.at 0 ≡ x.head → WordRead text x.rest (noted w o wordy (end w)) wordy S (suc c.at) j
        → ((j < length x.rest) → Logged c w → start w ≡ refused_17 (c.at + suc j))
        × (j ≡ length x.rest → Logged c w → start w ≡ from text (drop (c.at + suc j) text) (plain (noted w o wordy (c.at + suc j)) [] wordy S) (c.at + suc j))
    spelled w j e r =
        let q : suc c.at + j ≡ c.at + suc j = omega arith in (
          (λ h k. entered w k e ∙ r.short h (λ p i. unended w k p (omega (arith, i, k.at_is))) ∙ ap refused_17 q),
          (λ h k.
              let u : end w ≡ c.at + suc j = omega (arith, h, k.at_is) in
              entered w k e ∙ r.whole h ∙ ap₂ (λ i n. from text (drop i text) (plain (noted w o wordy n) [] wordy S) i) q u),
        )
      where
        unended : (w : Log) → Logged c w → (p : ℕ) → p < end w → limited (first_too_many (reverse (own w ∷ w.spots))) text (p + 0) (refused_17 p) ≡ refused_17 p
        unended w k p h =
            not_yet text (p + 0) (refused_17 p) (own w) (first_too_many (reverse (own w ∷ w.spots))) (it_or_none w.spots (few_nodes w k) (few_records w k) (own w))
            (ap (λ u. u && whole_in (own w) text) (lt-leb (end w) (p + 0) (omega (arith, h))))

    -- behind the first byte
    behind_first : (j : ℕ) → get_or text c.at 0 ≡ x.head → ((w : Log) → WordRead text x.rest (noted w o wordy (end w)) wordy S (suc c.at) j)
        → Leads text c A S o (cond (ltb (suc j) (suc (length x.rest))) (Err (TextWrong (c.at + suc j))) (counted_to text c (c.at + suc j) wordy o))
    behind_first j e r = by (ltb (suc j) (suc (length x.rest))) refl
      where
        none_yet : Log
        none_yet = record { at = 0; spots = [] }

        inside : c.at + suc j ≤ length text
        inside = omega (arith, (r none_yet).inside)

        by : (u : Bool) → ltb (suc j) (suc (length x.rest)) ≡ u → Leads text c A S o (cond u (Err (TextWrong (c.at + suc j))) (counted_to text c (c.at + suc j) wordy o))
        by true t =
            let h = ltb-true (suc j) (suc (length x.rest)) t in
            record { forth = omega arith; inside = inside; says = λ w k. (spelled w j e (r w)).0 (omega (arith, h)) k }
        by false t =
            let h = ltb-false (suc j) (suc (length x.rest)) t in
            counted (c.at + suc j) wordy o S (omega arith) inside (λ w k. (spelled w j e (r w)).1 (omega (arith, h, (r w).most)) k)

    -- behind all of it, or refused at the first byte that is another
    pub word_leads : Leads text c A S o (word_to text c (x.head ∷ x.rest) o)
    unfolding word_to
    word_leads =
        subst (λ i. Leads text c A S o (cond (ltb (agree (x.head ∷ x.rest) i) (suc (length x.rest))) (Err (TextWrong (c.at + agree (x.head ∷ x.rest) i)))
        (counted_to text c (c.at + agree (x.head ∷ x.rest) i) wordy o)))
        (sym (drop-cons text c.at 0 (f.before_end)))
        (subst (λ n. Leads text c A S o (cond (ltb (cond (eqb (get_or text c.at 0) x.head) n 0) (suc (length x.rest))) (Err (TextWrong (c.at + cond (eqb (get_or text c.at 0) x.head) n 0)))
        (counted_to text c (c.at + cond (eqb (get_or text c.at 0) x.head) n 0) wordy o))) one (by (eqb (get_or text c.at 0) x.head) refl))
      where
        one : suc (agree x.rest (drop (suc c.at) text)) ≡ 1 + agree x.rest (drop (suc c.at) text)
        one = omega arith

        by : (u : Bool) → eqb (get_or text c.at 0) x.head ≡ u
            → let j : ℕ = cond u (suc (agree x.rest (drop (suc c.at) text))) 0 in
            Leads text c A S o (cond (ltb j (suc (length x.rest))) (Err (TextWrong (c.at + j))) (counted_to text c (c.at + j) wordy o))
        by true e =
            behind_first (agree x.rest (drop (suc c.at) text)) (eqb-true (get_or text c.at 0) x.head e)
            (λ w. reads_word text (noted w o wordy (end w)) wordy S x.rest (suc c.at) (omega (arith, f.before_end)))
        by false e =
            subst (λ u. Leads text c A S o (cond u (Err (TextWrong (c.at + 0))) (counted_to text c (c.at + 0) wordy o))) (sym (lt-ltb 0 (suc (length x.rest)) (omega arith))) (other e)

  -- ---- a number from `a` on

  module _ (a : ℕ) (p : Bool) (hi : ℕ) (o : Opens) (f : ℕ → Stack) (forth : c.at ≤ a) (inside : a ≤ length text)
      (begins : (w : Log) → Logged c w → start w ≡ from text (drop a text) (first (begun_at w o a) p hi f) a) where
    abbrev digit : ℕ
    digit = get_or text a 0 - 48

    -- a digit stands in the text
    in-text : first_fits p hi (get_or text a 0) ≡ true → a < length text
    in-text e = by (at_end_or_byte text a inside)
      where
        by : (length text ≤ a) ⊎ (a < length text) → a < length text
        by (inl h) = absurd (true≢false (sym e ∙ ap (first_fits p hi) (get_or-eq_default text 0 h)))
        by (inr h) = h

    digits_read : (w : Log) → a < length text → DigitsRead text w o (low p + hi) f digit (suc a) (more_digits (low p + hi) digit (drop (suc a) text)) (value_at text a p hi)
    unfolding value_at
    digits_read w h = reads_digits text w o (low p + hi) f (drop (suc a) text) digit (suc a) refl (omega arith)

    to_last : (w : Log) → Logged c w → first_fits p hi (get_or text a 0) ≡ true
        → start w ≡ from text (drop (end_at text a p hi) text) (digits (begun_at w o (end_at text a p hi)) (value_at text a p hi) (low p + hi) f) (end_at text a p hi)
    unfolding end_at
    to_last w k e = begins w k ∙ first_digit text w o p hi f a (in-text e) e ∙ (digits_read w (in-text e)).on

    none_yet : Log
    none_yet = record { at = 0; spots = [] }

    -- behind a cursor, with the value
    valued : (r : Result Cursor Refusal) (v : ℕ) → Leads text c A (f v) o r → NumberLeads text c A f o (with_value r v)
    valued (Ok d) v h = h
    valued (Err e) v h = h

    pub number_leads : NumberLeads text c A f o (number_to text c a p hi o)
    unfolding number_to end_at
    number_leads = by (first_fits p hi (get_or text a 0)) refl
      where
        by_end : first_fits p hi (get_or text a 0) ≡ true → (u : Bool) → is_run (get_or text (end_at text a p hi) 0) ≡ u
            → NumberLeads text c A f o (cond u (Err (TextWrong (end_at text a p hi))) (with_value (counted_to text c (end_at text a p hi) true o) (value_at text a p hi)))
        by_end t true r =
            let d = digits_read none_yet (in-text t) in
            record {
              forth = omega arith;
              inside = d.inside;
              says = λ w k. to_last w k t ∙ run_on text w o (low p + hi) f (few_nodes w k) (few_records w k) (value_at text a p hi) (end_at text a p hi) (run_inside text (end_at text a p hi) d.inside r)
                  (d.stops (run_inside text (end_at text a p hi) d.inside r)) r;
            }
        by_end t false r =
            let d = digits_read none_yet (in-text t) in
            valued (counted_to text c (end_at text a p hi) true o) (value_at text a p hi)
            (counted (end_at text a p hi) true o (f (value_at text a p hi)) (omega arith) d.inside
            (λ w k. to_last w k t ∙ number_ends text w o (low p + hi) f (few_nodes w k) (few_records w k) (value_at text a p hi) (end_at text a p hi) d.inside r))

        by : (u : Bool) → first_fits p hi (get_or text a 0) ≡ u
            → NumberLeads text c A f o (cond u (cond (is_run (get_or text (end_at text a p hi) 0)) (Err (TextWrong (end_at text a p hi))) (with_value (counted_to text c (end_at text a p hi) true o) (value_at text a p hi))) (Err (TextWrong a)))
        by true t = by_end t (is_run (get_or text (end_at text a p hi) 0)) refl
        by false t = record { forth = forth; inside = inside; says = λ w k. begins w k ∙ no_first text w o p hi f a (few_nodes w k) (few_records w k) inside (λ i. t) }
