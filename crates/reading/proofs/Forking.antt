-- throw and try share their first byte: the second one decides.
use mathlib.Core.Path.{◌≡◌, refl, sym, ◌∙◌, ap, ap₂}
use Prim.Native.Nat.{ℕ, suc, ◌+◌, ◌≤◌, ◌<◌}
use mathlib.Core.Bool.{Bool, true, false, ◌&&◌}
use mathlib.Core.List.{[], ◌∷◌, reverse}
use mathlib.Core.Logic.{◌⊎◌, inl, inr}
use mathlib.Core.Option.{none, some}
use native.Mathlib.Omega.{arith}
use lib.Dec.{eqb}
use lib.ListN.{length, drop, get_or, get_or-eq_default}
use borrow.Author.Tests.{ne_eqb, eqb-true, lt-leb}
use Rattle.imp.specs.Condition.{Condition}
use Rattle.imp.specs.Routine.{Statement, throw, try}
use Rattle.image.specs.Bytes.{Bytes}
use Rattle.written.specs.Token.{node, Spot}
use Rattle.written.specs.Word.{THROW, TRY, CATCH, WITH}
use Rattle.written.specs.Machine.{statements, arithmetics, variables, Stack, mark, want, Log, noted, begin, State, plain, fork, when, found, look, leads, forks, step, final}
use Rattle.written.specs.Limits.{NODES, RECORDS, first_too_many, whole_in}
use Rattle.written.specs.Answer.{so_far, refused_17, from}
use Rattle.reading.specs.declared.cursor.Cursor.{Cursor}
use Rattle.reading.specs.Inner.Way.{nodes_in, records_in, Logged, Good}
use Rattle.reading.specs.Inner.Between.{Faces}
use Rattle.reading.proofs.Counts.{within_limits, it_or_none, none_limits, not_yet}
use Rattle.reading.proofs.Tokens.{at_end_or_byte, stuck, steps, enters}

module _ (text : Bytes) (c : Cursor) (g : Good text c) (faces : Faces text c) (F : ℕ) (f : Statement Condition → Stack) (e : get_or text c.at 0 ≡ 116) where
  abbrev second : ℕ
  second = get_or text (suc c.at) 0

  abbrev wanted : Stack
  wanted = want F statements f

  abbrev thrown : Stack
  thrown = want F arithmetics λ a. f (throw a)

  abbrev tried : Stack
  tried = want F statements λ x. mark CATCH (want F variables λ v. mark WITH (want F statements λ y. f (try x v y)))

  -- behind the t
  at_fork : (w : Log) → from text (drop c.at text) (plain w [] c.tight wanted) c.at ≡ from text (drop (suc c.at) text) (fork w F f) (suc c.at)
  unfolding look leads
  at_fork w =
      steps text (plain w [] c.tight wanted) (fork w F f) c.at (faces.before_end)
      (enters text w c.tight wanted (get_or text c.at 0) (faces.no_space) (faces.apart) ∙ ap (begin w wanted) e)

  -- a byte that is not 0 stands in the text
  second_inside : (b : ℕ) → (b ≡ 0 → ⊥) → second ≡ b → suc c.at < length text
  second_inside b n h = by (at_end_or_byte text (suc c.at) (omega (arith, faces.before_end)))
    where
      by : (length text ≤ suc c.at) ⊎ (suc c.at < length text) → suc c.at < length text
      by (inl i) = absurd (n (sym h ∙ get_or-eq_default text 0 i))
      by (inr i) = i

  -- both states step alike on the second byte
  alike : (q q' p : State) (b : ℕ) → (b ≡ 0 → ⊥) → second ≡ b → step q b ≡ some p → step q' b ≡ some p
      → from text (drop (suc c.at) text) q (suc c.at) ≡ from text (drop (suc c.at) text) q' (suc c.at)
  alike q q' p b n h s t =
      let i = second_inside b n h in
      steps text q p (suc c.at) i (ap (step q) h ∙ s) ∙ sym (steps text q' p (suc c.at) i (ap (step q') h ∙ t))

  pub throw_entered : second ≡ 104 → (w : Log) → Logged c w → get_or text c.at 0 ≡ 116
      → from text (drop c.at text) (plain w [] c.tight wanted) c.at ≡ from text (drop (suc c.at) text) (plain (noted w node true (w.at + 5)) THROW.rest true thrown) (suc c.at)
  unfolding step look forks
  throw_entered h w k _ =
      at_fork w ∙ alike (fork w F f) (plain (noted w node true (w.at + 5)) THROW.rest true thrown) (plain (noted w node true (w.at + 5)) (114 ∷ 111 ∷ 119 ∷ []) true thrown) 104 (λ i. omega (arith, i)) h refl refl

  module _ (other : second ≡ 104 → ⊥) where
    abbrev tried_state : Log → State
    tried_state w = plain (noted w node true (w.at + 3)) TRY.rest true tried

    -- neither: both are refused here
    neither : (w : Log) → Logged c w → eqb second 114 ≡ false → from text (drop (suc c.at) text) (fork w F f) (suc c.at) ≡ from text (drop (suc c.at) text) (tried_state w) (suc c.at)
    unfolding step look forks final so_far
    neither w k n =
        let at : ℕ = suc c.at in
        let few : nodes_in w.spots ≤ NODES = omega (arith, k.nodes_are, g.few_nodes) in
        let rare : records_in w.spots ≤ RECORDS = omega (arith, k.records_are, g.few_records) in
        let m : Spot = record { does = node; is_word = true; from = w.at; upto = w.at + 3 } in
        stuck text (fork w F f) at (record {
          inside = omega (arith, faces.before_end);
          no_step = λ i. ap₂ (λ u v. found u (plain (noted w node true (w.at + 5)) (114 ∷ 111 ∷ 119 ∷ []) true (want F arithmetics λ a. f (throw a)))
              (found v (plain (noted w node true (w.at + 3)) (121 ∷ []) true (want F statements λ x. mark CATCH (want F variables λ v. mark WITH (want F statements λ y. f (try x v y))))) none))
              (ne_eqb second 104 other) n;
          no_end = λ i. refl;
          no_limit = none_limits text (at + 0) (refused_17 at) (first_too_many (reverse w.spots)) (within_limits w.spots few rare);
        })
        ∙ sym (stuck text (tried_state w) at (record {
          inside = omega (arith, faces.before_end);
          no_step = λ i. ap (λ u. when u (plain (noted w node true (w.at + 3)) (121 ∷ []) true tried)) n;
          no_end = λ i. refl;
          no_limit = not_yet text (at + 0) (refused_17 at) m (first_too_many (reverse (m ∷ w.spots))) (it_or_none w.spots few rare m)
              (ap (λ u. u && whole_in m text) (lt-leb (w.at + 3) (at + 0) (omega (arith, k.at_is))));
        }))

    pub try_entered : (w : Log) → Logged c w → get_or text c.at 0 ≡ 116
        → from text (drop c.at text) (plain w [] c.tight wanted) c.at ≡ from text (drop (suc c.at) text) (tried_state w) (suc c.at)
    unfolding step look forks
    try_entered w k _ = at_fork w ∙ by (eqb second 114) refl
      where
        by : (u : Bool) → eqb second 114 ≡ u → from text (drop (suc c.at) text) (fork w F f) (suc c.at) ≡ from text (drop (suc c.at) text) (tried_state w) (suc c.at)
        by true n = alike (fork w F f) (tried_state w) (plain (noted w node true (w.at + 3)) (121 ∷ []) true tried) 114 (λ i. omega (arith, i)) (eqb-true second 114 n) refl refl
        by false n = neither w k n
