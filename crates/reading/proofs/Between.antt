-- What stands behind a node's first part: a mark, or the variable of a try.
use mathlib.Core.Path.{◌≡◌, refl, sym, ◌∙◌, ap, subst}
use Prim.Native.Nat.{ℕ, suc, ◌+◌, ◌≤◌}
use mathlib.Core.Bool.{false}
use mathlib.Core.List.{[], ◌∷◌, reverse}
use mathlib.Core.Option.{Option, none}
use native.Mathlib.Omega.{arith}
use lib.ListN.{drop, get_or}
use borrow.Author.Tests.{eq-eqb, ne_eqb}
use Rattle.std.specs.Prelude.{Result, Ok, Err, IfOk}
use Rattle.image.specs.declared.refusals.Refusal.{Refusal}
use Rattle.image.specs.declared.refusals.Refusal.TheVariants.{TextWrong}
use Rattle.image.specs.Bytes.{Bytes}
use Rattle.written.specs.Token.{Lexeme, nothing}
use Rattle.written.specs.Word.{CATCH, WITH}
use Rattle.written.specs.Machine.{variables, Stack, done, mark, want, Log, led, begin, plain, first, look, leads, counted, final}
use Rattle.written.specs.Limits.{first_too_many}
use Rattle.written.specs.Answer.{so_far, refused_17, from}
use Rattle.reading.specs.declared.cursor.Cursor.{Cursor}
use Rattle.reading.specs.declared.number.Number.{Number}
use Rattle.reading.specs.Inner.Way.{Logged, Good, Way, Refuses}
use Rattle.reading.specs.Inner.Between.{Meets}
use Rattle.reading.specs.Inner.Token.{fixed_to}
use Rattle.reading.specs.Inner.Number.{NumberFrom}
use Rattle.reading.specs.Inner.Parts.{behind_a}
use Rattle.reading.specs.Inner.Marks.{Marks}
use Rattle.reading.specs.Inner.Node.{VariableWay, BehindA}
use Rattle.reading.proofs.Counts.{within_limits, none_limits}
use Rattle.reading.proofs.Tokens.{nothing_read, stuck, steps, enters}
use Rattle.reading.proofs.Digits.{begun_at}
use Rattle.reading.proofs.Spelled.{NumberLeads, number_leads}
use Rattle.reading.proofs.Ways.{then, then_refused}
use Rattle.reading.proofs.Leading.{opened_then}
use Rattle.reading.proofs.Classes.{none_begins}
use Rattle.reading.proofs.Marking.{Fixed, fixed_way}

-- ---- a variable that opens nothing

module _ (text : Bytes) (c d : Cursor) (M : Meets text c d) where
  abbrev byte : ℕ
  byte = get_or text d.at 0

  abbrev g : Good text d
  g = M.is_met.good

  pub no_variable : (b : ℕ) → b ≡ byte → (b ≡ 118 → ⊥) → VariableWay text c (Err (TextWrong d.at))
  unfolding final so_far leads look counted
  no_variable b e n = λ F h.
      then_refused (TextWrong d.at) (M.a_part F variables h)
      (record {
        forth = omega arith;
        inside = g.inside;
        says = λ w k.
            stuck text (plain w [] d.tight (want F variables h)) d.at (record {
              inside = g.inside;
              no_step = λ i. enters text w d.tight (want F variables h) byte M.is_met.faces.no_space M.is_met.faces.apart
                  ∙ subst (λ b. begin w (want F variables h) b ≡ none) e (none_begins w F variables h b (λ j. refl) (ne_eqb b 118 n, tt));
              no_end = λ i. absurd (omega (arith, i, M.is_met.faces.before_end));
              no_limit = none_limits text (d.at + 0) (refused_17 d.at) (first_too_many (reverse w.spots))
                  (within_limits w.spots (omega (arith, k.nodes_are, g.few_nodes)) (omega (arith, k.records_are, g.few_records)));
            });
      })

  entered : (F : ℕ) (h : ℕ → Stack) → byte ≡ 118 → (w : Log) → Logged d w
      → from text (drop d.at text) (plain w [] d.tight (want F variables h)) d.at ≡ from text (drop (suc d.at) text) (first (begun_at w nothing (suc d.at)) false 15 h) (suc d.at)
  unfolding leads look
  entered F h e w k =
      let q : w.at + 1 ≡ suc d.at = omega (arith, k.at_is) in
      steps text (plain w [] d.tight (want F variables h)) (first (led w nothing) false 15 h) d.at M.is_met.faces.before_end
      (enters text w d.tight (want F variables h) byte M.is_met.faces.no_space M.is_met.faces.apart ∙ ap (begin w (want F variables h)) e)
      ∙ ap (λ i. from text (drop (suc d.at) text) (first (begun_at w nothing i) false 15 h) (suc d.at)) q

  by_number : (r : Result Number Refusal) → ((F : ℕ) (h : ℕ → Stack) → NumberLeads text d (want F variables h) h nothing r) → IfOk r (λ n. n.value ≤ 15) → VariableWay text c r
  by_number (Ok n) L s = record {
    way = λ F h. then (M.a_part F variables h) (L F h).way;
    opened = opened_then M.opened (L 0 (λ j. done nothing_read)).opened;
    small = s;
  }
  by_number (Err e) L s = λ F h. then_refused e (M.a_part F variables h) (L F h)

  few : (r : Result Number Refusal) → IfOk r (λ n. (0 ≤ n.value) × (n.value ≤ 0 + 15)) → IfOk r (λ n. n.value ≤ 15)
  few (Ok n) h = omega (arith, h.1)
  few (Err e) h = tt

  pub a_variable : (b : ℕ) (r : Result Number Refusal) → b ≡ byte → b ≡ 118 → NumberFrom text d (d.at + 1) false 15 nothing r → VariableWay text c r
  a_variable b r e i f =
      let k : d.at + 1 ≡ suc d.at = omega arith in
      let f' : NumberFrom text d (suc d.at) false 15 nothing r = subst (λ j. NumberFrom text d j false 15 nothing r) k f in
      by_number r
      (λ F h. subst (NumberLeads text d (want F variables h) h nothing) (sym f'.is_so)
      (number_leads text d g (want F variables h) (suc d.at) false 15 nothing h (omega arith) (omega (arith, M.is_met.faces.before_end)) (entered F h (sym e ∙ i))))
      (few r f'.within)

-- ---- behind a

module _ (text : Bytes) (c : Cursor) (g : Good text c) (kind value : ℕ) (o : Option Lexeme) where
  pub no_mark : (e : Refusal) → (kind ≡ 22 → ⊥) → Marks text c o (Err e) → BehindA text c kind o value (Err e)
  no_mark e n m = λ F h. subst (λ u. Refuses text c (behind_a u F o value h) e) (sym (ne_eqb kind 22 n)) (m (h value))

  pub behind_mark : (d : Cursor) → (kind ≡ 22 → ⊥) → Marks text c o (Ok d) → BehindA text c kind o value (Ok (record { cursor = d; value = value }))
  behind_mark d n m = record {
    way = λ F h. subst (λ u. Way text c d (behind_a u F o value h) (h value)) (sym (ne_eqb kind 22 n)) (m.way (h value));
    opened = m.opened;
    same_value = λ i. refl;
    variable_small = λ i. absurd (n i);
  }

  module _ (k : kind ≡ 22) where
    -- of a try
    of_try : (e : Refusal) → ((F : ℕ) (h : ℕ → Stack) → Refuses text c (mark CATCH (want F variables λ i. mark WITH (h i))) e) → BehindA text c kind o value (Err e)
    of_try e r = λ F h. subst (λ u. Refuses text c (behind_a u F o value h) e) (sym (eq-eqb kind 22 k)) (r F h)

    pub no_catch : (e : Refusal) → Err e ≡ fixed_to text c (CATCH.head ∷ CATCH.rest) → BehindA text c kind o value (Err e)
    no_catch e h = of_try e (λ F f. fixed_way text c g CATCH (Err e) h (want F variables λ i. mark WITH (f i)))

    module _ (d : Cursor) (h : Ok d ≡ fixed_to text c (CATCH.head ∷ CATCH.rest)) where
      C : Fixed text c CATCH d
      C = fixed_way text c g CATCH (Ok d) h

      pub catch_good : Good text d
      catch_good = (C.way (done nothing_read)).good

      pub no_caught : (e : Refusal) → VariableWay text d (Err e) → BehindA text c kind o value (Err e)
      no_caught e v = of_try e (λ F f. then_refused e (C.way (want F variables λ i. mark WITH (f i))) (v F (λ i. mark WITH (f i))))

      module _ (v : Number) (V : VariableWay text d (Ok v)) where
        pub caught_good : Good text v.cursor
        caught_good = (V.way 0 (λ i. done nothing_read)).good

        pub no_with : (e : Refusal) → Err e ≡ fixed_to text v.cursor (WITH.head ∷ WITH.rest) → BehindA text c kind o value (Err e)
        no_with e f = of_try e (λ F f'.
            then_refused e (C.way (want F variables λ i. mark WITH (f' i)))
            (then_refused e (V.way F (λ i. mark WITH (f' i))) (fixed_way text v.cursor caught_good WITH (Err e) f (f' v.value))))

        pub behind_catch : (r : Cursor) → Ok r ≡ fixed_to text v.cursor (WITH.head ∷ WITH.rest) → BehindA text c kind o value (Ok (record { cursor = r; value = v.value }))
        behind_catch r f =
            let W : Fixed text v.cursor WITH r = fixed_way text v.cursor caught_good WITH (Ok r) f in
            record {
              way = λ F h. subst (λ u. Way text c r (behind_a u F o value h) (h v.value)) (sym (eq-eqb kind 22 k))
                  (then (C.way (want F variables λ i. mark WITH (h i))) (then (V.way F (λ i. mark WITH (h i))) (W.way (h v.value))));
              opened = opened_then (opened_then C.opened V.opened) W.opened;
              same_value = λ n. absurd (n k);
              variable_small = λ i. V.small;
            }
