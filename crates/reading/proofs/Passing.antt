-- Spaces are passed, and the first byte of a token is met.
use mathlib.Core.Path.{◌≡◌, refl, sym, ◌∙◌, ap, ap₂, subst}
use Prim.Native.Nat.{ℕ, zero, suc, ◌+◌, ◌-◌, ◌≤◌, ◌<◌}
use mathlib.Core.Bool.{Bool, true, false, cond, ◌&&◌}
use mathlib.Core.List.{List, [], ◌∷◌, reverse}
use mathlib.Core.Option.{none}
use native.Mathlib.Omega.{arith}
use lib.Dec.{T, eqb}
use lib.ListN.{length, take, drop, get_or, length-drop}
use lib.Seq.{drop-cons}
use borrow.Author.Tests.{eq-eqb, ne_eqb, eqb-true, eqb-false}
use Rattle.std.specs.Prelude.{Result, Ok, Err}
use Rattle.image.specs.declared.refusals.Refusal.{Refusal}
use Rattle.image.specs.declared.refusals.Refusal.TheVariants.{TextWrong}
use Rattle.image.specs.Bytes.{Bytes}
use Rattle.written.specs.Byte.{is_space, is_wordy}
use Rattle.written.specs.Token.{nothing, Spot}
use Rattle.written.specs.Machine.{Stack, done, mark, want, Log, plain, between_by, between, step, ended, final}
use Rattle.written.specs.Limits.{first_too_many}
use Rattle.written.specs.Answer.{so_far, refused_17, from}
use Rattle.written.proofs.Theorem.From.{from_space}
use Rattle.written.proofs.Theorem.Spacing.{head_is, tail_is}
use Rattle.reading.specs.declared.cursor.Cursor.{Cursor}
use Rattle.reading.specs.Inner.Way.{Good, Refuses, Opened}
use Rattle.reading.specs.Inner.Between.{Passes, Unmet, ToToken}
use Rattle.reading.specs.Inner.Token.{spaces_in, passed, met}
use Rattle.reading.proofs.Counts.{within_limits, none_limits}
use Rattle.reading.proofs.Tokens.{nothing_read, stuck}
use Rattle.reading.proofs.Returns.{rest_is}
use Rattle.reading.proofs.Ways.{then_refused}

abbrev log : ℕ → List Spot → Log
log at marks = record { at = at; spots = marks }

-- ---- the machine

module _ (text : Bytes) (ms : List Spot) (s : Stack) where
  record SpacesRead (g : Bool) (at n : ℕ) : Type 0 where
    inside : at + n ≤ length text
    on : from text (drop at text) (plain (log at ms) [] g s) at ≡ from text (drop (at + n) text) (plain (log (at + n) ms) [] (g && eqb n 0) s) (at + n)
    stops : at + n < length text → is_space (get_or text (at + n) 0) ≡ false

  no_spaces : (g : Bool) (at : ℕ) → at ≤ length text → (at < length text → is_space (get_or text at 0) ≡ false) → SpacesRead g at 0
  no_spaces g at h e =
      let k : at ≡ at + 0 = omega arith in
      record {
        inside = omega arith;
        on = ap₂ (λ i u. from text (drop i text) (plain (log i ms) [] u s) i) k (by g);
        stops = λ i. ap (λ i. is_space (get_or text i 0)) (sym k) ∙ e (omega (arith, i));
      }
    where
      by : (u : Bool) → u ≡ (u && eqb 0 0)
      by true = refl
      by false = refl

  one_space : (g : Bool) (at n : ℕ) → at < length text → is_space (get_or text at 0) ≡ true → SpacesRead false (suc at) n → SpacesRead g at (suc n)
  one_space g at n h e r =
      let k : suc at + n ≡ at + suc n = omega arith in
      record {
        inside = omega (arith, r.inside);
        on =
            ap (λ l. from text l (plain (log at ms) [] g s) at) (drop-cons text at 0 h)
            ∙ from_space text (get_or text at 0) (drop (suc at) text) (log at ms) g s at (subst T (sym e) tt)
            ∙ r.on
            ∙ ap₂ (λ i u. from text (drop i text) (plain (log i ms) [] u s) i) k (by g);
        stops = λ i. ap (λ i. is_space (get_or text i 0)) (sym k) ∙ r.stops (omega (arith, i));
      }
    where
      by : (u : Bool) → false ≡ (u && eqb (suc n) 0)
      by true = sym (ne_eqb (suc n) 0 (λ e. omega (arith, e)))
      by false = refl

  reads_spaces : (l : Bytes) (g : Bool) (at : ℕ) → drop at text ≡ l → at ≤ length text → SpacesRead g at (spaces_in l)
  reads_spaces [] g at e h = no_spaces g at h (λ k. absurd (omega (arith, length-drop at text, ap length e)))
  reads_spaces (b ∷ l) g at e h =
      let k : at < length text = omega (arith, length-drop at text, ap length e) in
      let c : get_or text at 0 ∷ drop (suc at) text ≡ b ∷ l = sym (drop-cons text at 0 k) ∙ e in
      let one : suc (spaces_in l) ≡ 1 + spaces_in l = omega arith in
      subst (λ n. SpacesRead g at (cond (is_space b) n 0)) one (by (is_space b) (ap is_space (head_is c)) k (reads_spaces l false (suc at) (tail_is c) (omega arith)))
    where
      by : (u : Bool) → is_space (get_or text at 0) ≡ u → at < length text → SpacesRead false (suc at) (spaces_in l) → SpacesRead g at (cond u (suc (spaces_in l)) 0)
      by true e k r = one_space g at (spaces_in l) k e r
      by false e k r = no_spaces g at h (λ i. e)

-- spaces end in the text
pub spaces_inside : (text : Bytes) (at n : ℕ) → at ≤ length text → n ≡ spaces_in (take (length text - at) (drop at text)) → at + n ≤ length text
spaces_inside text at n h e =
    let r = reads_spaces text [] (done nothing_read) (drop at text) false at refl h in
    omega (arith, r.inside, e, ap spaces_in (rest_is text at))

-- ---- cursors

module _ (text : Bytes) where
  pub keeps : (c : Cursor) → Opened c c nothing
  keeps c = record { kept = record { node_kept = refl; condition_kept = refl }; nodes_opened = omega arith; records_opened = omega arith }

  same_place : (i n : ℕ) → eqb n 0 ≡ eqb (i + n) i
  same_place i zero = sym (eq-eqb (i + 0) i (omega arith))
  same_place i (suc n) = ne_eqb (suc n) 0 (λ e. omega (arith, e)) ∙ sym (ne_eqb (i + suc n) i (λ e. omega (arith, e)))

  module _ (c : Cursor) (g : Good text c) where
    abbrev count : ℕ
    count = spaces_in (drop c.at text)

    spaced : (w : Log) (s : Stack) → SpacesRead text w.spots s c.tight c.at count
    spaced w s = reads_spaces text w.spots s (drop c.at text) c.tight c.at refl g.inside

    pub passes : Passes text c (passed text c)
    unfolding passed
    passes =
        let none_yet : Log = log 0 [] in
        let in-text : c.at + count ≤ length text = (spaced none_yet (done nothing_read)).inside in
        record {
          way = λ s. record {
            forth = omega arith;
            good = record { inside = in-text; few_nodes = g.few_nodes; few_records = g.few_records };
            goes = λ w k. (
              log (c.at + count) w.spots,
              record { at_is = refl; nodes_are = k.nodes_are; records_are = k.records_are },
              ap (λ i. from text (drop c.at text) (plain (log i w.spots) [] c.tight s) c.at) k.at_is
                  ∙ (spaced w s).on
                  ∙ ap (λ u. from text (drop (c.at + count) text) (plain (log (c.at + count) w.spots) [] (c.tight && u) s) (c.at + count)) (same_place c.at count),
            );
          };
          opened = record { kept = record { node_kept = refl; condition_kept = refl }; nodes_opened = omega arith; records_opened = omega arith };
          stops = (spaced none_yet (done nothing_read)).stops;
        }

  -- at the end of the text, or at a word right behind a word
  refused_here : (d : Cursor) (A : Stack) → Good text d → ((w : Log) → ended w A ≡ none)
      → (d.at < length text → is_space (get_or text d.at 0) ≡ false) → (d.at < length text → (d.tight && is_wordy (get_or text d.at 0)) ≡ true)
      → Refuses text d A (TextWrong d.at)
  unfolding step between final so_far
  refused_here d A g e n t = record {
    forth = omega arith;
    inside = g.inside;
    says = λ w k.
        stuck text (plain w [] d.tight A) d.at (record {
          inside = g.inside;
          no_step = λ i. ap₂ (λ u v. between_by w u v A (get_or text d.at 0)) (n i) (t i);
          no_end = λ i. e w;
          no_limit = none_limits text (d.at + 0) (refused_17 d.at) (first_too_many (reverse w.spots))
              (within_limits w.spots (omega (arith, k.nodes_are, g.few_nodes)) (omega (arith, k.records_are, g.few_records)));
        });
  }

  module _ (c : Cursor) (g : Good text c) where
    -- the same of each way, where something is still to come
    unmet : (e : Refusal) → ((A : Stack) → ((w : Log) → ended w A ≡ none) → Refuses text c A e) → Unmet text c e
    unmet e f = record { no_mark = λ x s. f (mark x s) (λ w. refl); no_part = λ F k h. f (want F k h) (λ w. refl) }

    met_at : (d : Cursor) → Passes text c d
        → ToToken text c (cond (eqb d.at (length text)) (Err (TextWrong d.at)) (cond (d.tight && is_wordy (get_or text d.at 0)) (Err (TextWrong d.at)) (Ok d)))
    met_at d p = end (eqb d.at (length text)) refl
      where
        good : Good text d
        good = (p.way (done nothing_read)).good

        refused : (d.at < length text → is_space (get_or text d.at 0) ≡ false) → (d.at < length text → (d.tight && is_wordy (get_or text d.at 0)) ≡ true) → Unmet text c (TextWrong d.at)
        refused n t = unmet (TextWrong d.at) (λ A i. then_refused (TextWrong d.at) (p.way A) (refused_here d A good i n t))

        word : (u : Bool) → (d.tight && is_wordy (get_or text d.at 0)) ≡ u → d.at < length text → ToToken text c (cond u (Err (TextWrong d.at)) (Ok d))
        word true e k = refused p.stops (λ i. e)
        word false e k = record {
          a_mark = λ x s. p.way (mark x s);
          a_part = λ F k h. p.way (want F k h);
          opened = p.opened;
          is_met = record { good = good; faces = record { before_end = k; no_space = p.stops k; apart = e } };
        }

        end : (u : Bool) → eqb d.at (length text) ≡ u → ToToken text c (cond u (Err (TextWrong d.at)) (cond (d.tight && is_wordy (get_or text d.at 0)) (Err (TextWrong d.at)) (Ok d)))
        end true e =
            let k : d.at ≡ length text = eqb-true d.at (length text) e in
            refused (λ i. absurd (omega (arith, i, k))) (λ i. absurd (omega (arith, i, k)))
        end false e = word (d.tight && is_wordy (get_or text d.at 0)) refl (below (eqb-false d.at (length text) e))
          where
            below : (d.at ≡ length text → ⊥) → d.at < length text
            below n = omega (arith, n, good.inside)

    pub meets : ToToken text c (met text c)
    unfolding met
    meets = met_at (passed text c) (passes c g)

-- what `to_token` returns
pub token_met : {text : Bytes} {c : Cursor} (r : Result Cursor Refusal) → Good text c → r ≡ met text c → ToToken text c r
token_met {text} {c} r g e = subst (ToToken text c) (sym e) (meets text c g)
