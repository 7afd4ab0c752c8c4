-- What one turn of the loop over digits adds to a number.
use mathlib.Core.Path.{◌≡◌, refl, sym, ◌∙◌, ap, ap₂, subst}
use Prim.Native.Nat.{ℕ, suc, ◌+◌, ◌-◌, ◌*◌, ◌≤◌, ◌<◌}
use mathlib.Core.Bool.{Bool, true, false, not, cond, ◌&&◌, ◌||◌, true≢false}
use Rattle.std.proofs.Math.Bool.{and-false}
use native.Mathlib.Omega.{arith}
use lib.Dec.{eqb, leb, ltb}
use lib.ListN.{length, drop, get_or, drop_of_length-le}
use lib.Seq.{drop-cons}
use borrow.Author.Tests.{not-true, not-false, eqb-true, eqb-false, ltb-true, ltb-false, lt-ltb, le-ltb, le-leb, lt-leb}
use Rattle.image.specs.Bytes.{Bytes}
use Rattle.written.specs.Byte.{is_digit}
use Rattle.reading.specs.Inner.Spelling.{goes_on, more_digits, made}
use Rattle.reading.specs.Inner.Number.{DigitsFrom}

module _ (text : Bytes) where
  -- ---- digits

  pub digit_more : (hi n i : ℕ) (u : Bool) → i < length text → goes_on hi n (get_or text i 0) ≡ u
      → more_digits hi n (drop i text) ≡ cond u (suc (more_digits hi (n * 10 + (get_or text i 0 - 48)) (drop (suc i) text))) 0
  unfolding more_digits
  digit_more hi n i u h e = ap (more_digits hi n) (drop-cons text i 0 h) ∙ ap (λ u. cond u (suc (more_digits hi (n * 10 + (get_or text i 0 - 48)) (drop (suc i) text))) 0) e

  pub digit_made : (hi n i : ℕ) (u : Bool) → i < length text → goes_on hi n (get_or text i 0) ≡ u
      → made hi n (drop i text) ≡ cond u (made hi (n * 10 + (get_or text i 0 - 48)) (drop (suc i) text)) n
  unfolding made
  digit_made hi n i u h e = ap (made hi n) (drop-cons text i 0 h) ∙ ap (λ u. cond u (made hi (n * 10 + (get_or text i 0 - 48)) (drop (suc i) text)) n) e

  pub digits_over : (hi n i : ℕ) → length text ≤ i → (more_digits hi n (drop i text) ≡ 0) × (made hi n (drop i text) ≡ n)
  unfolding more_digits made
  digits_over hi n i h = (ap (more_digits hi n) (drop_of_length-le text h), ap (made hi n) (drop_of_length-le text h))

-- ---- the loops

pub record DigitsSoFar (text : Bytes) (n most at value : ℕ) : Type 0 where
  pub inside : at ≤ length text
  pub small : value ≤ most
  pub all : more_digits most n text ≡ at + more_digits most value (drop at text)
  pub makes : made most n text ≡ made most value (drop at text)

digits_done : (text : Bytes) (n most at value : ℕ) → DigitsSoFar text n most at value → more_digits most value (drop at text) ≡ 0 → made most value (drop at text) ≡ value
    → DigitsFrom text n most (record { count = at; value = value })
digits_done text n most at value r e f = record { count_is = omega (arith, r.all, e); value_is = sym (r.makes ∙ f) }

pub digits_end : (text : Bytes) (n most at value : ℕ) → DigitsSoFar text n most at value → length text ≤ at → DigitsFrom text n most (record { count = at; value = value })
digits_end text n most at value r h =
    let o = digits_over text most value at h in
    digits_done text n most at value r o.0 o.1

digits_halt : (text : Bytes) (n most at value : ℕ) → DigitsSoFar text n most at value → at < length text → goes_on most value (get_or text at 0) ≡ false
    → DigitsFrom text n most (record { count = at; value = value })
digits_halt text n most at value r h e =
    digits_done text n most at value r (digit_more text most value at false h e) (digit_made text most value at false h e)

pub digits_no_digit : (text : Bytes) (n most at value b : ℕ) (u : Bool) → DigitsSoFar text n most at value → at < length text → b ≡ get_or text at 0 → u ≡ is_digit b → not u ≡ true
    → DigitsFrom text n most (record { count = at; value = value })
digits_no_digit text n most at value b u r h e f k =
    digits_halt text n most at value r h
    (ap (λ v. v && (ltb 0 value && leb (value * 10 + (get_or text at 0 - 48)) most)) (ap is_digit (sym e) ∙ sym f ∙ not-true u k))

over_off : (value next most : ℕ) → (eqb value 0 || ltb most next) ≡ true → (ltb 0 value && leb next most) ≡ false
over_off value next most e = by (eqb value 0) refl e
  where
    by : (u : Bool) → eqb value 0 ≡ u → (u || ltb most next) ≡ true → (ltb 0 value && leb next most) ≡ false
    by true f g = ap (λ v. v && leb next most) (le-ltb 0 value (omega (arith, eqb-true value 0 f)))
    by false f g = ap (λ v. ltb 0 value && v) (lt-leb next most (ltb-true most next g)) ∙ and-false (ltb 0 value)

on_next : (value next most : ℕ) → (eqb value 0 || ltb most next) ≡ false → (0 < value) × (next ≤ most)
on_next value next most e = by (eqb value 0) refl e
  where
    by : (u : Bool) → eqb value 0 ≡ u → (u || ltb most next) ≡ false → (0 < value) × (next ≤ most)
    by true f g = absurd (true≢false g)
    by false f g = (omega (arith, eqb-false value 0 f), ltb-false most next g)

pub digits_over_most : (text : Bytes) (n most at value b : ℕ) → DigitsSoFar text n most at value → at < length text → b ≡ get_or text at 0
    → (eqb value 0 || ltb most (value * 10 + (b - 48))) ≡ true → DigitsFrom text n most (record { count = at; value = value })
digits_over_most text n most at value b r h e k =
    digits_halt text n most at value r h
    (ap (λ c. is_digit c && (ltb 0 value && leb (value * 10 + (c - 48)) most)) (sym e)
    ∙ ap (λ v. is_digit b && v) (over_off value (value * 10 + (b - 48)) most k) ∙ and-false (is_digit b))

one_more : (text : Bytes) (n most at value b : ℕ) (u : Bool) → DigitsSoFar text n most at value → at < length text → b ≡ get_or text at 0 → u ≡ is_digit b → not u ≡ false
    → (eqb value 0 || ltb most (value * 10 + (b - 48))) ≡ false → DigitsSoFar text n most (at + 1) (value * 10 + (b - 48))
one_more text n most at value b u r h e f d k =
    let o = on_next value (value * 10 + (b - 48)) most k in
    let p : at + 1 ≡ suc at = omega arith in
    let g : goes_on most value b ≡ true =
    ap₂ ◌&&◌ (sym f ∙ not-false u d) (ap₂ ◌&&◌ (lt-ltb 0 value o.0) (le-leb (value * 10 + (b - 48)) most o.1)) in
    let g' : goes_on most value (get_or text at 0) ≡ true = ap (goes_on most value) (sym e) ∙ g in
    let q = digit_more text most value at true h g' in
    let m = digit_made text most value at true h g' in
    record {
      inside = omega arith;
      small = o.1;
      all = omega (arith, r.all, q, ap (λ c. more_digits most (value * 10 + (c - 48)) (drop (suc at) text)) e, ap (λ i. more_digits most (value * 10 + (b - 48)) (drop i text)) p);
      makes = r.makes ∙ m ∙ ap (λ c. made most (value * 10 + (c - 48)) (drop (suc at) text)) (sym e) ∙ ap (λ i. made most (value * 10 + (b - 48)) (drop i text)) (sym p);
    }

pub digits_one_more : (text : Bytes) (n most at value b d : ℕ) (u : Bool) → d ≡ b - 48 → DigitsSoFar text n most at value → at < length text → b ≡ get_or text at 0 → u ≡ is_digit b
    → not u ≡ false → (eqb value 0 || ltb most (value * 10 + d)) ≡ false → DigitsSoFar text n most (at + 1) (value * 10 + d)
digits_one_more text n most at value b d u q r h e f i k =
    subst (λ d. DigitsSoFar text n most (at + 1) (value * 10 + d)) (sym q)
    (one_more text n most at value b u r h e f i (subst (λ d. (eqb value 0 || ltb most (value * 10 + d)) ≡ false) q k))
