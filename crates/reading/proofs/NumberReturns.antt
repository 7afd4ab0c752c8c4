-- What each return of a number's function gives is what the definition says.
use mathlib.Core.Path.{◌≡◌, refl, sym, ◌∙◌, ap, ap₂, subst}
use Prim.Native.Nat.{ℕ, suc, ◌+◌, ◌-◌, ◌*◌, ◌≤◌, ◌<◌}
use mathlib.Core.Bool.{Bool, true, false, not, cond, ◌&&◌, ◌||◌, true≢false}
use Rattle.std.proofs.Math.Bool.{and-false}
use native.Mathlib.Omega.{arith}
use lib.Dec.{leb, ltb}
use lib.ListN.{length, take, drop, get_or, get_or-eq_default}
use borrow.Author.Tests.{not-true, not-false, ltb-true, ltb-false, le-leb, lt-leb}
use Rattle.std.specs.Prelude.{Result, Ok, Err}
use Rattle.image.specs.declared.refusals.Refusal.{Refusal}
use Rattle.image.specs.declared.refusals.Refusal.TheVariants.{TextWrong}
use Rattle.image.specs.Bytes.{Bytes}
use Rattle.written.specs.Byte.{is_digit, is_run}
use Rattle.written.specs.Token.{Opens}
use mathlib.Core.List.{[], ◌∷◌}
use mathlib.Core.Logic.{◌⊎◌, inl, inr}
use Rattle.written.specs.Machine.{done, low, first_fits}
use Rattle.reading.specs.declared.cursor.Cursor.{Cursor}
use Rattle.reading.specs.declared.number.Digits.{Digits}
use Rattle.reading.specs.Inner.Spelling.{goes_on, more_digits, made}
use Rattle.reading.specs.Inner.Token.{counted_to, with_value, value_at, end_at, number_to}
use Rattle.reading.specs.Inner.Number.{DigitsFrom, NumberFrom}
use Rattle.reading.proofs.Tokens.{nothing_read, at_end_or_byte}
use Rattle.reading.proofs.Digits.{reads_digits}
use Rattle.reading.proofs.Returns.{on, off, rest_is}

-- ---- truth tables

range_off : (d lo most : ℕ) → (ltb d lo || ltb most d) ≡ true → (leb lo d && leb d most) ≡ false
range_off d lo most e = by (ltb d lo) refl e
  where
    by : (u : Bool) → ltb d lo ≡ u → (u || ltb most d) ≡ true → (leb lo d && leb d most) ≡ false
    by true f g = ap (λ v. v && leb d most) (lt-leb lo d (ltb-true d lo f))
    by false f g = ap (λ v. leb lo d && v) (lt-leb d most (ltb-true most d g)) ∙ and-false (leb lo d)

range_on : (d lo most : ℕ) → (ltb d lo || ltb most d) ≡ false → (leb lo d && leb d most) ≡ true
range_on d lo most e = by (ltb d lo) refl e
  where
    by : (u : Bool) → ltb d lo ≡ u → (u || ltb most d) ≡ false → (leb lo d && leb d most) ≡ true
    by true f g = absurd (true≢false g)
    by false f g = ap₂ ◌&&◌ (le-leb lo d (ltb-false d lo f)) (le-leb d most (ltb-false most d g))

pub range_small : (d lo most : ℕ) → (ltb d lo || ltb most d) ≡ false → d ≤ most
range_small d lo most e = by (ltb d lo) e
  where
    by : (u : Bool) → (u || ltb most d) ≡ false → d ≤ most
    by true g = absurd (true≢false g)
    by false g = ltb-false most d g

range_least : (d lo most : ℕ) → (ltb d lo || ltb most d) ≡ false → lo ≤ d
range_least d lo most e = by (ltb d lo) refl e
  where
    by : (u : Bool) → ltb d lo ≡ u → (u || ltb most d) ≡ false → lo ≤ d
    by true f g = absurd (true≢false g)
    by false f g = ltb-false d lo f

-- digits make a number no smaller
made_grows : (hi n : ℕ) (l : Bytes) → n ≤ made hi n l
unfolding made
made_grows hi n [] = omega arith
made_grows hi n (b ∷ l) = by (goes_on hi n b) (made_grows hi (n * 10 + (b - 48)) l)
  where
    by : (u : Bool) → n * 10 + (b - 48) ≤ made hi (n * 10 + (b - 48)) l → n ≤ cond u (made hi (n * 10 + (b - 48)) l) n
    by true h = omega (arith, h)
    by false h = omega arith

module _ (text : Bytes) (c : Cursor) (at : ℕ) (p : Bool) (hi : ℕ) (o : Opens) where
  -- no number: refused at a place
  none_from : (q : ℕ) → Err (TextWrong q) ≡ number_to text c at p hi o → NumberFrom text c at p hi o (Err (TextWrong q))
  none_from q e = record { is_so = e; within = tt }

  unfit : first_fits p hi (get_or text at 0) ≡ false → Err (TextWrong at) ≡ number_to text c at p hi o
  unfolding number_to
  unfit e = off (first_fits p hi (get_or text at 0)) _ (Err (TextWrong at)) e

  pub no_digit : (b : ℕ) (u : Bool) → b ≡ get_or text at 0 → u ≡ is_digit b → not u ≡ true → NumberFrom text c at p hi o (Err (TextWrong at))
  no_digit b u e f n =
      none_from at (unfit (ap (λ v. v && (leb (low p) (get_or text at 0 - 48) && leb (get_or text at 0 - 48) (low p + hi))) (ap is_digit (sym e) ∙ sym f ∙ not-true u n)))

  pub out_of_range : (lo b n : ℕ) → lo ≡ low p → b ≡ get_or text at 0 → n ≡ b - 48 → (ltb n lo || ltb (lo + hi) n) ≡ true → NumberFrom text c at p hi o (Err (TextWrong at))
  out_of_range lo b n l e q t =
      none_from at (unfit (ap (first_fits p hi) (sym e) ∙ ap (λ v. is_digit b && v) (ap (λ i. leb i (b - 48) && leb (b - 48) (i + hi)) (sym l)
      ∙ range_off (b - 48) lo (lo + hi) (subst (λ n. (ltb n lo || ltb (lo + hi) n) ≡ true) q t)) ∙ and-false (is_digit b)))

  -- a first digit that fits, and the others
  module _ (lo b m : ℕ) (u : Bool) (d : Digits) (l : lo ≡ low p) (e : b ≡ get_or text at 0) (f : u ≡ is_digit b) (n : not u ≡ false) (q : m ≡ b - 48)
      (t' : (ltb m lo || ltb (lo + hi) m) ≡ false) (r' : DigitsFrom (take (length text - (at + 1)) (drop (at + 1) text)) m (lo + hi) d) where
    t : (ltb (b - 48) lo || ltb (lo + hi) (b - 48)) ≡ false
    t = subst (λ n. (ltb n lo || ltb (lo + hi) n) ≡ false) q t'

    r : DigitsFrom (take (length text - (at + 1)) (drop (at + 1) text)) (b - 48) (lo + hi) d
    r = subst (λ n. DigitsFrom (take (length text - (at + 1)) (drop (at + 1) text)) n (lo + hi) d) q r'

    fits : first_fits p hi (get_or text at 0) ≡ true
    fits = ap (first_fits p hi) (sym e) ∙ ap₂ ◌&&◌ (sym f ∙ not-false u n) (ap (λ i. leb i (b - 48) && leb (b - 48) (i + hi)) (sym l) ∙ range_on (b - 48) lo (lo + hi) t)

    -- the digits are read behind the first
    behind_it : take (length text - (at + 1)) (drop (at + 1) text) ≡ drop (suc at) text
    behind_it = let k : at + 1 ≡ suc at = omega arith in rest_is text (at + 1) ∙ ap (λ i. drop i text) k

    end_is : at + 1 + d.count ≡ end_at text at p hi
    unfolding end_at
    end_is =
        let k : at + 1 ≡ suc at = omega arith in
        ap₂ (λ i n. i + n) k (r.count_is ∙ ap (more_digits (lo + hi) (b - 48)) behind_it)
        ∙ ap₂ (λ i c. suc at + more_digits (i + hi) (c - 48) (drop (suc at) text)) l e

    value : d.value ≡ value_at text at p hi
    unfolding value_at
    value =
        r.value_is ∙ ap (made (lo + hi) (b - 48)) behind_it ∙ ap₂ (λ i c. made (i + hi) (c - 48) (drop (suc at) text)) l e

    to_end : (v : Bool) → is_run (get_or text (end_at text at p hi) 0) ≡ v
        → cond v (Err (TextWrong (end_at text at p hi))) (with_value (counted_to text c (end_at text at p hi) true o) (value_at text at p hi)) ≡ number_to text c at p hi o
    unfolding number_to
    to_end v h = ap (λ v. cond v (Err (TextWrong (end_at text at p hi))) (with_value (counted_to text c (end_at text at p hi) true o) (value_at text at p hi))) (sym h)
        ∙ on (first_fits p hi (get_or text at 0)) _ (Err (TextWrong at)) fits

    -- the number ends in the text
    pub end_inside : at < length text → at + 1 + d.count ≤ length text
    unfolding end_at
    end_inside i =
        let x = reads_digits text (record { at = 0; spots = [] }) o (low p + hi) (λ m. done nothing_read) (drop (suc at) text) (get_or text at 0 - 48) (suc at) refl (omega arith) in
        subst (λ j. j ≤ length text) (sym end_is) x.inside

    module _ (b₂ : ℕ) (v : Bool) (g : b₂ ≡ get_or text (at + 1 + d.count) 0) (h : v ≡ is_run b₂) where
      run_is : is_run (get_or text (end_at text at p hi) 0) ≡ v
      run_is = ap (λ i. is_run (get_or text i 0)) (sym end_is) ∙ ap is_run (sym g) ∙ sym h

      pub goes_on_behind : v ≡ true → NumberFrom text c at p hi o (Err (TextWrong (at + 1 + d.count)))
      goes_on_behind k = none_from (at + 1 + d.count) (ap (λ i. Err (TextWrong i)) end_is ∙ to_end true (run_is ∙ k))

      counted_is : (x : Result Cursor Refusal) → v ≡ false → x ≡ counted_to text c (at + 1 + d.count) true o → with_value x d.value ≡ number_to text c at p hi o
      counted_is x k w = ap₂ with_value (w ∙ ap (λ i. counted_to text c i true o) end_is) value ∙ to_end false (run_is ∙ k)

      -- what it opens is refused
      pub number_refused : (e : Refusal) → v ≡ false → Err e ≡ counted_to text c (at + 1 + d.count) true o → NumberFrom text c at p hi o (Err e)
      number_refused e k w = record { is_so = counted_is (Err e) k w; within = tt }

      pub is_number : (x : Cursor) → v ≡ false → Ok x ≡ counted_to text c (at + 1 + d.count) true o → at < length text → NumberFrom text c at p hi o (Ok (record { cursor = x; value = d.value }))
      unfolding value_at
      is_number x k w i = record {
        is_so = counted_is (Ok x) k w;
        within = (subst (λ m. low p ≤ m) (sym value) (large_here (range_least (b - 48) lo (lo + hi) t)), small);
      }
        where
          small : d.value ≤ low p + hi
          small =
              let q = reads_digits text (record { at = 0; spots = [] }) o (low p + hi) (λ m. done nothing_read) (drop (suc at) text) (get_or text at 0 - 48) (suc at) refl (omega arith) in
              subst (λ m. m ≤ low p + hi) (sym value) (q.small (subst (λ m. get_or text at 0 - 48 ≤ m + hi) l (subst (λ c. c - 48 ≤ lo + hi) e (range_small (b - 48) lo (lo + hi) t))))

          large_here : lo ≤ b - 48 → low p ≤ made (low p + hi) (get_or text at 0 - 48) (drop (suc at) text)
          large_here h = omega (arith, h, l, ap (λ c. c - 48) e, made_grows (low p + hi) (get_or text at 0 - 48) (drop (suc at) text))

-- a digit stands in the text
pub digit_inside : (text : Bytes) (at b : ℕ) (u : Bool) → at ≤ length text → b ≡ get_or text at 0 → u ≡ is_digit b → not u ≡ false → at < length text
digit_inside text at b u h e f n = by (at_end_or_byte text at h)
  where
    by : (length text ≤ at) ⊎ (at < length text) → at < length text
    by (inl i) = absurd (true≢false (sym (not-false u n) ∙ f ∙ ap is_digit (e ∙ get_or-eq_default text 0 i)))
    by (inr i) = i
