-- What the digits of a number do to the answer, from its first digit to the byte behind it.
use mathlib.Core.Path.{◌≡◌, refl, sym, ◌∙◌, ap, ap₂, subst}
use Prim.Native.Nat.{ℕ, suc, ◌+◌, ◌-◌, ◌*◌, ◌≤◌, ◌<◌}
use mathlib.Core.Bool.{Bool, true, false, not, cond, ◌&&◌, ◌||◌, true≢false}
use mathlib.Core.List.{[], ◌∷◌, reverse}
use mathlib.Core.Logic.{◌⊎◌, inl, inr}
use mathlib.Core.Option.{none}
use native.Mathlib.Omega.{arith}
use lib.Dec.{T, leb, ltb, eqb, leb→le, eqb→eq}
use lib.ListN.{length, drop, get_or, drop_of_length-le, length-drop}
use lib.Seq.{drop-cons}
use Rattle.image.specs.Bytes.{Bytes}
use Rattle.image.proofs.Theorem.Lower.{both}
use Rattle.written.specs.Byte.{is_space, is_digit, is_run}
use Rattle.written.specs.Token.{Opens, Spot}
use Rattle.written.specs.Machine.{Stack, Log, Begun, behind, plain, first, digits, when, between_by, between, digits_by, first_fits, first_step, low, step, final}
use Rattle.written.specs.Limits.{NODES, RECORDS, first_too_many, runs_on}
use Rattle.written.specs.Answer.{so_far, refused_17, from}
use Rattle.written.proofs.Theorem.From.{from_number}
use Rattle.written.proofs.Theorem.Spacing.{head_is, tail_is}
use Rattle.reading.specs.Inner.Way.{nodes_in, records_in}
use Rattle.reading.specs.Inner.Spelling.{goes_on, more_digits, made}
use Rattle.reading.proofs.Counts.{within_limits, it_or_none, none_limits, not_yet}
use Rattle.reading.proofs.Tokens.{at_end_or_byte, steps, stuck}

abbrev pub begun_at : Log → Opens → ℕ → Begun
begun_at w o now = record { log = w; does = o; now = now }

-- ---- truth tables

-- a digit that does not go on
no_more : (d u : Bool) → (d && u) ≡ false → d ≡ true → u ≡ false
no_more true u e f = e
no_more false u e f = absurd (true≢false (sym f))

either : (u v : Bool) → (u || v) ≡ true → (u ≡ true) ⊎ (v ≡ true)
either true v e = inl refl
either false v e = inr e

-- no space is a letter or digit
pub space_no_run : (b : ℕ) → is_run b ≡ true → is_space b ≡ false
space_no_run b h = by (is_space b) refl
  where
    is : (x : ℕ) → is_run x ≡ false → eqb b x ≡ true → ⊥
    is x n e = true≢false (sym h ∙ ap is_run (eqb→eq b x (subst T (sym e) tt)) ∙ n)

    one : (eqb b 32 ≡ true) ⊎ (eqb b 10 ≡ true) → ⊥
    one (inl e) = is 32 refl e
    one (inr e) = is 10 refl e

    by : (u : Bool) → is_space b ≡ u → u ≡ false
    by true e = absurd (one (either (eqb b 32) (eqb b 10) e))
    by false e = refl

module _ (text : Bytes) (w : Log) (o : Opens) (hi : ℕ) (f : ℕ → Stack) where
  -- j digits more make v of n
  pub record DigitsRead (n at j v : ℕ) : Type 0 where
    pub inside : at + j ≤ length text
    pub small : n ≤ hi → v ≤ hi
    pub on : from text (drop at text) (digits (begun_at w o at) n hi f) at ≡ from text (drop (at + j) text) (digits (begun_at w o (at + j)) v hi f) (at + j)
    pub stops : at + j < length text → goes_on hi v (get_or text (at + j) 0) ≡ false

  moved : (n i j : ℕ) → i ≡ j → from text (drop i text) (digits (begun_at w o i) n hi f) i ≡ from text (drop j text) (digits (begun_at w o j) n hi f) j
  moved n i j e = ap (λ i. from text (drop i text) (digits (begun_at w o i) n hi f) i) e

  none_more : (n at : ℕ) → at ≤ length text → (at < length text → goes_on hi n (get_or text at 0) ≡ false) → DigitsRead n at 0 n
  none_more n at h e = record {
    inside = omega arith;
    small = λ k. k;
    on = moved n at (at + 0) (omega arith);
    stops = λ k. ap (λ i. goes_on hi n (get_or text i 0)) (omega arith) ∙ e (omega (arith, k));
  }

  one_more : (n at j v : ℕ) → at < length text → goes_on hi n (get_or text at 0) ≡ true → DigitsRead (n * 10 + (get_or text at 0 - 48)) (suc at) j v → DigitsRead n at (suc j) v
  unfolding step
  one_more n at j v h e r =
      let b : ℕ = get_or text at 0 in
      let u : Bool = ltb 0 n && leb (n * 10 + (b - 48)) hi in
      let e₁ : u ≡ true = (both (is_digit b) u e).1 in
      record {
        inside = omega (arith, r.inside);
        small = λ k. r.small (leb→le (n * 10 + (b - 48)) hi (subst T (sym ((both (ltb 0 n) (leb (n * 10 + (b - 48)) hi) e₁).1)) tt));
        on =
            steps text (digits (begun_at w o at) n hi f) (digits (begun_at w o (suc at)) (n * 10 + (b - 48)) hi f) at h
            (ap (λ u. digits_by (begun_at w o at) u n hi f b) ((both (is_digit b) u e).0) ∙ ap (λ u. when u (digits (begun_at w o (suc at)) (n * 10 + (b - 48)) hi f)) e₁)
            ∙ r.on
            ∙ moved v (suc at + j) (at + suc j) (omega arith);
        stops = λ k. ap (λ i. goes_on hi v (get_or text i 0)) (omega arith) ∙ r.stops (omega (arith, k));
      }

  -- the byte that a rest of the text begins with
  record Begins (at b : ℕ) (l : Bytes) : Type 0 where
    before_end : at < length text
    here : get_or text at 0 ≡ b
    behind_it : drop (suc at) text ≡ l

  begins : (at b : ℕ) (l : Bytes) → drop at text ≡ b ∷ l → Begins at b l
  begins at b l e =
      let k : at < length text = omega (arith, length-drop at text, ap length e) in
      let c : get_or text at 0 ∷ drop (suc at) text ≡ b ∷ l = sym (drop-cons text at 0 k) ∙ e in
      record { before_end = k; here = head_is c; behind_it = tail_is c }

  pub reads_digits : (l : Bytes) (n at : ℕ) → drop at text ≡ l → at ≤ length text → DigitsRead n at (more_digits hi n l) (made hi n l)
  unfolding more_digits made
  reads_digits [] n at e h = none_more n at h (λ k. absurd (omega (arith, length-drop at text, ap length e)))
  reads_digits (b ∷ l) n at e h = by (goes_on hi n b) refl (begins at b l e) (λ k i. reads_digits l (n * 10 + (b - 48)) (suc at) k i)
    where
      by : (u : Bool) → goes_on hi n b ≡ u → Begins at b l
          → (drop (suc at) text ≡ l → suc at ≤ length text → DigitsRead (n * 10 + (b - 48)) (suc at) (more_digits hi (n * 10 + (b - 48)) l) (made hi (n * 10 + (b - 48)) l))
          → DigitsRead n at (cond u (suc (more_digits hi (n * 10 + (b - 48)) l)) 0) (cond u (made hi (n * 10 + (b - 48)) l) n)
      by true g B r =
          one_more n at (more_digits hi (n * 10 + (b - 48)) l) (made hi (n * 10 + (b - 48)) l) B.before_end (ap (goes_on hi n) B.here ∙ g)
          (subst (λ c. DigitsRead (n * 10 + (c - 48)) (suc at) (more_digits hi (n * 10 + (b - 48)) l) (made hi (n * 10 + (b - 48)) l)) (sym B.here) (r B.behind_it (omega (arith, B.before_end))))
      by false g B r = none_more n at h (λ k. ap (goes_on hi n) B.here ∙ g)

  -- ---- behind the last digit

  module _ (few_nodes : nodes_in w.spots ≤ NODES) (few_records : records_in w.spots ≤ RECORDS) where
    -- a letter or digit behind it: Refusal 17
    pub run_on : (v at : ℕ) → at < length text → goes_on hi v (get_or text at 0) ≡ false → is_run (get_or text at 0) ≡ true
        → from text (drop at text) (digits (begun_at w o at) v hi f) at ≡ refused_17 at
    unfolding step final so_far between
    run_on v at h g r =
        let B : Begun = begun_at w o at in
        let m : Spot = record { does = o; is_word = true; from = w.at; upto = at + 0 } in
        stuck text (digits B v hi f) at (record {
          inside = omega arith;
          no_step = λ k. by (is_digit (get_or text at 0)) refl;
          no_end = λ k. absurd (omega arith);
          no_limit = not_yet text (at + 0) (refused_17 at) m (first_too_many (reverse (m ∷ w.spots))) (it_or_none w.spots few_nodes few_records m) (not_whole (leb (at + 0) (at + 0)));
        })
      where
        by : (u : Bool) → is_digit (get_or text at 0) ≡ u → digits_by (begun_at w o at) u v hi f (get_or text at 0) ≡ none
        by true e = ap (λ u. when u (digits (begun_at w o (suc at)) (v * 10 + (get_or text at 0 - 48)) hi f)) (no_more (is_digit (get_or text at 0)) (ltb 0 v && leb (v * 10 + (get_or text at 0 - 48)) hi) g e)
        by false e = ap₂ (λ u t. between_by (behind (begun_at w o at) (at + 0)) u t (f v) (get_or text at 0)) (space_no_run (get_or text at 0) r) (ap (λ u. u || eqb (get_or text at 0) 45) r)

        runs : runs_on (drop (at + 0) text) ≡ true
        runs = let e : at + 0 ≡ at = omega arith in ap (λ i. runs_on (drop i text)) e ∙ ap runs_on (drop-cons text at 0 h) ∙ r

        not_whole : (u : Bool) → (u && not (true && runs_on (drop (at + 0) text))) ≡ false
        not_whole true = ap (λ t. not t) runs
        not_whole false = refl

    -- none: the number has ended
    pub number_ends : (v at : ℕ) → at ≤ length text → is_run (get_or text at 0) ≡ false
        → from text (drop at text) (digits (begun_at w o at) v hi f) at ≡ from text (drop at text) (plain (behind (begun_at w o at) at) [] true (f v)) at
    number_ends v at h r =
        from_number text (drop at text) (begun_at w o at) v hi f at (by (at_end_or_byte text at h))
        ∙ ap (λ i. from text (drop at text) (plain (behind (begun_at w o at) i) [] true (f v)) at) (omega arith)
      where
        by : (length text ≤ at) ⊎ (at < length text) → T (not (runs_on (drop at text)))
        by (inl e) = subst (λ l. T (not (runs_on l))) (sym (drop_of_length-le text e)) tt
        by (inr e) = subst (λ l. T (not (runs_on l))) (sym (drop-cons text at 0 e)) (subst (λ u. T (not u)) (sym r) tt)

-- ---- the first digit, of a number from 0 or from 1 on

module _ (text : Bytes) (w : Log) (o : Opens) (p : Bool) (hi : ℕ) (f : ℕ → Stack) where
  pub first_digit : (at : ℕ) → at < length text → first_fits p hi (get_or text at 0) ≡ true
      → from text (drop at text) (first (begun_at w o at) p hi f) at
      ≡ from text (drop (suc at) text) (digits (begun_at w o (suc at)) (get_or text at 0 - 48) (low p + hi) f) (suc at)
  unfolding step first_step
  first_digit at h e =
      steps text (first (begun_at w o at) p hi f) (digits (begun_at w o (suc at)) (get_or text at 0 - 48) (low p + hi) f) at h
      (ap (λ u. when u (digits (begun_at w o (suc at)) (get_or text at 0 - 48) (low p + hi) f)) e)

  pub no_first : (at : ℕ) → nodes_in w.spots ≤ NODES → records_in w.spots ≤ RECORDS → at ≤ length text
      → (at < length text → first_fits p hi (get_or text at 0) ≡ false) → from text (drop at text) (first (begun_at w o at) p hi f) at ≡ refused_17 at
  unfolding step first_step final so_far
  no_first at n r h e =
      stuck text (first (begun_at w o at) p hi f) at (record {
        inside = h;
        no_step = λ k. ap (λ u. when u (digits (begun_at w o (suc at)) (get_or text at 0 - 48) (low p + hi) f)) (e k);
        no_end = λ k. refl;
        no_limit = none_limits text (at + 0) (refused_17 at) (first_too_many (reverse w.spots)) (within_limits w.spots n r);
      })
