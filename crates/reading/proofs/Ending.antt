-- Nothing but spaces stands behind the statement.
use mathlib.Core.Path.{◌≡◌, refl, sym, ◌∙◌, ap, subst}
use Prim.Native.Nat.{◌+◌, ◌≤◌, ◌<◌}
use mathlib.Core.Bool.{Bool, true, false, ◌&&◌}
use mathlib.Core.List.{[], reverse}
use mathlib.Core.Option.{none}
use native.Mathlib.Omega.{arith}
use lib.ListN.{length, get_or, drop_of_length-le}
use Rattle.std.specs.Prelude.{Ok, Err}
use Rattle.image.specs.declared.refusals.Refusal.TheVariants.{TextWrong}
use Rattle.image.specs.Bytes.{Bytes}
use Rattle.written.specs.Byte.{is_wordy}
use Rattle.written.specs.Machine.{Reading, done, Log, plain, between_by, between, step, final, go}
use Rattle.written.specs.Limits.{NODES, RECORDS, first_too_many}
use Rattle.written.specs.Answer.{so_far, last, reach, gives, refused_17, from}
use Rattle.reading.specs.declared.cursor.Cursor.{Cursor}
use Rattle.reading.specs.Inner.Way.{nodes_in, records_in, Logged, here, Good, Way, Refuses}
use Rattle.reading.specs.Inner.Between.{Passes}
use Rattle.reading.specs.Inner.Token.{passed}
use Rattle.reading.specs.Inner.Whole.{EndWay}
use Rattle.reading.proofs.Counts.{within_limits, none_limits}
use Rattle.reading.proofs.Tokens.{nothing_read, stuck}
use Rattle.reading.proofs.Passing.{passes}
use Rattle.reading.proofs.Ways.{then_refused}

module _ (text : Bytes) (c d : Cursor) (g : Good text c) (e : d ≡ passed text c) where
  P : Passes text c d
  P = subst (Passes text c) (sym e) (passes text c g)

  way : (R : Reading) → Way text c d (done R) (done R)
  way R = P.way (done R)

  good : Good text d
  good = (way nothing_read).good

  few : (w : Log) → Logged d w → (nodes_in w.spots ≤ NODES) × (records_in w.spots ≤ RECORDS)
  few w k = (omega (arith, k.nodes_are, good.few_nodes), omega (arith, k.records_are, good.few_records))

  -- the text ends
  at_end : (w : Log) (R : Reading) → Logged d w → d.at ≡ length text → here text d w (done R) ≡ gives (record { reading = R; placed = reverse w.spots })
  unfolding from last reach go final so_far
  at_end w R k h =
      let all : length text ≤ d.at = omega (arith, h) in
      ap (λ m. from text m (plain w [] d.tight (done R)) d.at) (drop_of_length-le text all)
      ∙ none_limits text (d.at + 0) (gives (record { reading = R; placed = reverse w.spots })) (first_too_many (reverse w.spots)) (within_limits w.spots (few w k).0 (few w k).1)

  pub end_here : d.at ≡ length text → (u : Unit {0}) → EndWay text c (Ok u)
  end_here h u = λ w R k. let x = (way R).goes w k in (reverse x.0.spots, x.2 ∙ at_end x.0 R x.1 h)

  -- more stands here
  no_more : (R : Reading) → (d.at ≡ length text → ⊥) → Refuses text d (done R) (TextWrong d.at)
  unfolding step between final so_far
  no_more R n = record {
    forth = omega arith;
    inside = good.inside;
    says = λ w k.
        let i : d.at < length text = omega (arith, n, good.inside) in
        stuck text (plain w [] d.tight (done R)) d.at (record {
          inside = good.inside;
          no_step = λ j. ap (λ u. between_by w u (d.tight && is_wordy (get_or text d.at 0)) (done R) (get_or text d.at 0)) (P.stops i) ∙ shut w R (d.tight && is_wordy (get_or text d.at 0));
          no_end = λ j. absurd (omega (arith, i, j));
          no_limit = none_limits text (d.at + 0) (refused_17 d.at) (first_too_many (reverse w.spots)) (within_limits w.spots (few w k).0 (few w k).1);
        });
  }
    where
      shut : (w : Log) (R : Reading) (v : Bool) → between_by w false v (done R) (get_or text d.at 0) ≡ none
      shut w R true = refl
      shut w R false = refl

  pub end_more : (d.at ≡ length text → ⊥) → EndWay text c (Err (TextWrong d.at))
  end_more n = λ R. then_refused (TextWrong d.at) (way R) (no_more R n)
