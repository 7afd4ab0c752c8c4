-- What the bytes of a token do to the answer: a word or number that is there is read, and the first byte that does not fit is the place of Refusal 17.
use mathlib.Core.Path.{◌≡◌, refl, sym, ◌∙◌, ap, ap₂, subst}
use Prim.Native.Nat.{ℕ, suc, ◌+◌, ◌≤◌, ◌<◌}
use mathlib.Core.Bool.{Bool, true, false, cond, ◌&&◌}
use mathlib.Core.List.{[], ◌∷◌, reverse}
use mathlib.Core.Logic.{◌⊎◌, inl, inr}
use mathlib.Core.Option.{none, some}
use native.Mathlib.Omega.{arith}
use lib.Dec.{ltb, eqb}
use lib.ListN.{length, drop, get_or, drop_of_length-le}
use lib.Seq.{drop-cons}
use borrow.Author.Tests.{ltb-true, ltb-false}
use Rattle.image.specs.Bytes.{Bytes}
use Rattle.written.specs.Byte.{is_space, is_wordy}
use Rattle.imp.specs.Routine.{skip}
use Rattle.written.specs.Machine.{Reading, Stack, done, Log, State, plain, when, begin, between_by, between, step, final, at_end, go}
use Rattle.written.specs.Limits.{first_too_many}
use Rattle.written.specs.Answer.{so_far, limited, within, refused_17, last, reach, from}
use Rattle.written.proofs.Theorem.From.{from_step, from_stop}
use Rattle.reading.specs.Inner.Spelling.{agree}

-- any reading, where none matters
pub nothing_read : Reading
nothing_read = record { options = 0; tree = skip }

module _ (text : Bytes) where
  -- a state that nothing fits, with no limit to decide otherwise
  pub record Stuck (q : State) (at : ℕ) : Type 0 where
    pub inside : at ≤ length text
    pub no_step : at < length text → step q (get_or text at 0) ≡ none
    pub no_end : length text ≤ at → final q ≡ none
    pub no_limit : limited (first_too_many (reverse (so_far q))) text (at + 0) (refused_17 at) ≡ refused_17 at

  -- at the end of the text, or at a byte
  pub at_end_or_byte : (at : ℕ) → at ≤ length text → (length text ≤ at) ⊎ (at < length text)
  at_end_or_byte at h = by (ltb at (length text)) refl
    where
      by : (u : Bool) → ltb at (length text) ≡ u → (length text ≤ at) ⊎ (at < length text)
      by true e = inr (ltb-true at (length text) e)
      by false e = inl (ltb-false at (length text) e)

  pub stuck : (q : State) (at : ℕ) → Stuck q at → from text (drop at text) q at ≡ refused_17 at
  unfolding from last reach go
  stuck q at h = by (at_end_or_byte at h.inside)
    where
      by : (length text ≤ at) ⊎ (at < length text) → from text (drop at text) q at ≡ refused_17 at
      by (inl e) =
          ap (λ l. from text l q at) (drop_of_length-le text e)
          ∙ ap (λ o. limited (first_too_many (reverse (so_far q))) text (at + 0) (within (at_end o at))) (h.no_end e)
          ∙ h.no_limit
      by (inr e) =
          ap (λ l. from text l q at) (drop-cons text at 0 e)
          ∙ from_stop text (get_or text at 0) (drop (suc at) text) q at (h.no_step e)
          ∙ h.no_limit

  -- one byte
  pub steps : (q q' : State) (at : ℕ) → at < length text → step q (get_or text at 0) ≡ some q' → from text (drop at text) q at ≡ from text (drop (suc at) text) q' (suc at)
  steps q q' at h e = ap (λ l. from text l q at) (drop-cons text at 0 h) ∙ from_step text (get_or text at 0) (drop (suc at) text) q q' at e

  -- the first byte of a token
  pub enters : (w : Log) (g : Bool) (s : Stack) (b : ℕ) → is_space b ≡ false → (g && is_wordy b) ≡ false → step (plain w [] g s) b ≡ begin w s b
  unfolding step between
  enters w g s b e f = ap₂ (λ u v. between_by w u v s b) e f

  -- ---- words

  -- a word x of which j bytes stand in the text: whole, or refused behind them
  pub record WordRead (x : Bytes) (w : Log) (g : Bool) (s : Stack) (at j : ℕ) : Type 0 where
    pub inside : at + j ≤ length text
    pub most : j ≤ length x
    pub whole : j ≡ length x → from text (drop at text) (plain w x g s) at ≡ from text (drop (at + j) text) (plain w [] g s) (at + j)
    pub short : j < length x → ((p : ℕ) → p < at + length x → limited (first_too_many (reverse w.spots)) text (p + 0) (refused_17 p) ≡ refused_17 p)
        → from text (drop at text) (plain w x g s) at ≡ refused_17 (at + j)

  moved : (q : State) (i j : ℕ) → i ≡ j → from text (drop i text) q i ≡ from text (drop j text) q j
  moved q i j e = ap (λ i. from text (drop i text) q i) e

  module _ (w : Log) (g : Bool) (s : Stack) where
    -- a byte that does not fit
    unfit : (c : ℕ) (x : Bytes) (at : ℕ) → at ≤ length text → (at < length text → eqb (get_or text at 0) c ≡ false) → WordRead (c ∷ x) w g s at 0
    unfolding step final so_far
    unfit c x at h e = record {
      inside = omega arith;
      most = omega arith;
      whole = λ k. absurd (omega (arith, k));
      short = λ k lim.
          stuck (plain w (c ∷ x) g s) at (record {
            inside = h;
            no_step = λ i. ap (λ u. when u (plain w x g s)) (e i);
            no_end = λ i. refl;
            no_limit = lim at (omega arith);
          })
          ∙ ap refused_17 (omega arith);
    }

    -- a byte that does, and what is read behind it
    fit : (c : ℕ) (x : Bytes) (at j : ℕ) → at < length text → eqb (get_or text at 0) c ≡ true → WordRead x w g s (suc at) j → WordRead (c ∷ x) w g s at (suc j)
    unfolding step
    fit c x at j h e r =
        let on : from text (drop at text) (plain w (c ∷ x) g s) at ≡ from text (drop (suc at) text) (plain w x g s) (suc at) =
        steps (plain w (c ∷ x) g s) (plain w x g s) at h (ap (λ u. when u (plain w x g s)) e) in
        record {
          inside = omega (arith, r.inside);
          most = omega (arith, r.most);
          whole = λ k. on ∙ r.whole (omega (arith, k)) ∙ moved (plain w [] g s) (suc at + j) (at + suc j) (omega arith);
          short = λ k lim. on ∙ r.short (omega (arith, k)) (λ p i. lim p (omega arith)) ∙ ap refused_17 (omega arith);
        }

    pub reads_word : (x : Bytes) (at : ℕ) → at ≤ length text → WordRead x w g s at (agree x (drop at text))
    reads_word [] at h = record {
      inside = omega arith;
      most = omega arith;
      whole = λ k. moved (plain w [] g s) at (at + 0) (omega arith);
      short = λ k lim. absurd (omega (arith, k));
    }
    reads_word (c ∷ x) at h = by (at_end_or_byte at h) (λ k. reads_word x (suc at) k)
      where
        on : (u : Bool) → eqb (get_or text at 0) c ≡ u → at < length text → (suc at ≤ length text → WordRead x w g s (suc at) (agree x (drop (suc at) text)))
            → WordRead (c ∷ x) w g s at (cond u (suc (agree x (drop (suc at) text))) 0)
        on true e k r = fit c x at (agree x (drop (suc at) text)) k e (r (omega arith))
        on false e k r = unfit c x at (omega arith) (λ i. e)

        by : (length text ≤ at) ⊎ (at < length text) → (suc at ≤ length text → WordRead x w g s (suc at) (agree x (drop (suc at) text)))
            → WordRead (c ∷ x) w g s at (agree (c ∷ x) (drop at text))
        by (inl e) r = subst (λ l. WordRead (c ∷ x) w g s at (agree (c ∷ x) l)) (sym (drop_of_length-le text e)) (unfit c x at h (λ i. absurd (omega arith)))
        by (inr e) r =
            let one : suc (agree x (drop (suc at) text)) ≡ 1 + agree x (drop (suc at) text) = omega arith in
            subst (λ l. WordRead (c ∷ x) w g s at (agree (c ∷ x) l)) (sym (drop-cons text at 0 e))
            (subst (λ n. WordRead (c ∷ x) w g s at (cond (eqb (get_or text at 0) c) n 0)) one (on (eqb (get_or text at 0) c) refl e r))

-- what a text agrees with stands in it
pub agree_inside : (text x : Bytes) (at : ℕ) → at ≤ length text → at + agree x (drop at text) ≤ length text
agree_inside text x at h = (reads_word text (record { at = 0; spots = [] }) false (done nothing_read) x at h).inside
