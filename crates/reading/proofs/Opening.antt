-- A token is read from its first byte on, and what it opens is counted: the ways behind it.
use mathlib.Core.Path.{◌≡◌, refl, sym, ◌∙◌, ap, ap₂, subst}
use Prim.Native.Nat.{ℕ, ◌+◌, ◌≤◌, ◌<◌}
use mathlib.Core.Bool.{Bool, true, false, not, cond, ◌&&◌, ◌||◌, true≢false}
use mathlib.Core.List.{[], ◌∷◌, reverse}
use mathlib.Core.Logic.{◌⊎◌, inl, inr}
use native.Mathlib.Omega.{arith}
use lib.Dec.{T, eqb, leb}
use lib.ListN.{length, drop, get_or, drop_of_length-le, get_or-eq_default}
use lib.Seq.{drop-cons}
use borrow.Author.Tests.{leb-true, le-leb}
use Rattle.std.specs.Prelude.{Result, Ok, Err}
use Rattle.image.specs.declared.refusals.Refusal.{Refusal}
use Rattle.image.specs.declared.refusals.Refusal.TheVariants.{TextWrong, TooMany}
use Rattle.image.specs.Bytes.{Bytes}
use Rattle.image.proofs.Theorem.Lower.{both}
use Rattle.written.specs.Byte.{is_run}
use Rattle.written.specs.Token.{Opens, Spot}
use Rattle.written.specs.Machine.{Stack, Log, noted, plain, between_by, between, step, final}
use Rattle.written.specs.Limits.{NODES, RECORDS, first_too_many, runs_on}
use Rattle.written.specs.Answer.{so_far, refused_17, refused_18, from}
use Rattle.written.proofs.Theorem.From.{from_over}
use Rattle.written.proofs.Theorem.Now.{Now}
use Rattle.reading.specs.declared.cursor.Cursor.{Cursor}
use Rattle.reading.specs.Inner.Way.{node_of, record_in, nodes_in, records_in, Logged, Good, Way, Refuses, Opened}
use Rattle.reading.specs.Inner.Token.{counted_to}
use Rattle.reading.proofs.Counts.{it_or_none, breaks, not_yet}
use Rattle.reading.proofs.Tokens.{at_end_or_byte, stuck}
use Rattle.reading.proofs.Digits.{space_no_run}

-- what stands at a place, as a byte and as a rest
pub runs_at : (text : Bytes) (at : ℕ) → at ≤ length text → runs_on (drop at text) ≡ is_run (get_or text at 0)
runs_at text at h = by (at_end_or_byte text at h)
  where
    by : (length text ≤ at) ⊎ (at < length text) → runs_on (drop at text) ≡ is_run (get_or text at 0)
    by (inl e) = ap runs_on (drop_of_length-le text e) ∙ sym (ap is_run (get_or-eq_default text 0 e))
    by (inr e) = ap runs_on (drop-cons text at 0 e)

-- a letter or digit stands in the text
pub run_inside : (text : Bytes) (at : ℕ) → at ≤ length text → is_run (get_or text at 0) ≡ true → at < length text
run_inside text at h r = by (at_end_or_byte text at h)
  where
    by : (length text ≤ at) ⊎ (at < length text) → at < length text
    by (inl e) = absurd (true≢false (sym r ∙ ap is_run (get_or-eq_default text 0 e)))
    by (inr e) = e

-- ---- truth tables

off : (u : Bool) → u ≡ false → T (not u)
off u e = subst (λ v. T (not v)) (sym e) tt

off_and : (u v : Bool) → v ≡ true → (u && not v) ≡ false
off_and true v e = ap not e
off_and false v e = refl

-- ---- what a token leads to

-- a way, and what the token opens
pub record OneToken (text : Bytes) (c : Cursor) (A S : Stack) (o : Opens) (c' : Cursor) : Type 0 where
  pub way : Way text c c' A S
  pub opened : Opened c c' o
  pub further : c.at < c'.at

abbrev pub Leads : Bytes → Cursor → Stack → Stack → Opens → Result Cursor Refusal → Type 0
Leads text c A S o (Ok c') = OneToken text c A S o c'
Leads text c A S o (Err e) = Refuses text c A e

-- ---- the end of a token

module _ (text : Bytes) (c : Cursor) (g : Good text c) (end : ℕ) (tight : Bool) (o : Opens) (A S : Stack)
    (forth : c.at < end) (inside : end ≤ length text)
    (read : (w : Log) → Logged c w → from text (drop c.at text) (plain w [] c.tight A) c.at ≡ from text (drop end text) (plain (noted w o tight end) [] tight S) end) where
  few : (w : Log) → Logged c w → (nodes_in w.spots ≤ NODES) × (records_in w.spots ≤ RECORDS)
  few w k = (omega (arith, k.nodes_are, g.few_nodes), omega (arith, k.records_are, g.few_records))

  abbrev own : Log → Spot
  own w = record { does = o; is_word = tight; from = w.at; upto = end }

  -- it goes on: Refusal 17 at the letter or digit behind it
  goes_on : (w : Log) → Logged c w → (tight && is_run (get_or text end 0)) ≡ true → from text (drop end text) (plain (noted w o tight end) [] tight S) end ≡ refused_17 end
  unfolding step between final so_far
  goes_on w k e =
      let t = both tight (is_run (get_or text end 0)) e in
      let n = few w k in
      let r : runs_on (drop end text) ≡ true = runs_at text end inside ∙ t.1 in
      stuck text (plain (noted w o tight end) [] tight S) end (record {
        inside = inside;
        no_step = λ i. ap₂ (λ u v. between_by (noted w o tight end) u v S (get_or text end 0)) (space_no_run (get_or text end 0) t.1)
            (ap₂ ◌&&◌ t.0 (ap (λ u. u || eqb (get_or text end 0) 45) t.1));
        no_end = λ i. absurd (omega (arith, i, run_inside text end inside t.1));
        no_limit = not_yet text (end + 0) (refused_17 end) (own w) (first_too_many (reverse (own w ∷ w.spots))) (it_or_none w.spots n.0 n.1 (own w))
            (off_and (leb end (end + 0)) (tight && runs_on (drop end text)) (ap₂ ◌&&◌ t.0 r));
      })

  -- it is whole, and over a limit: Refusal 18 at its first byte
  is_over : (w : Log) → Logged c w → (tight && is_run (get_or text end 0)) ≡ false → (leb (c.nodes + node_of o) NODES && leb (c.records + record_in o) RECORDS) ≡ false
      → from text (drop end text) (plain (noted w o tight end) [] tight S) end ≡ refused_18 c.at
  unfolding Now so_far nodes_in records_in
  is_over w k e f =
      let n = few w k in
      let whole : T (not (tight && runs_on (drop end text))) = off (tight && runs_on (drop end text)) (ap (λ u. tight && u) (runs_at text end inside) ∙ e) in
      from_over text (drop end text) (plain (noted w o tight end) [] tight S) end (own w) (omega arith) (omega arith) whole whole
      (breaks w.spots n.0 n.1 (own w) (λ i j. broken (leb (c.nodes + node_of o) NODES) (leb (c.records + record_in o) RECORDS) f
      (le-leb (c.nodes + node_of o) NODES (omega (arith, i, k.nodes_are))) (le-leb (c.records + record_in o) RECORDS (omega (arith, j, k.records_are)))))
      ∙ ap refused_18 k.at_is
    where
      broken : (u v : Bool) → (u && v) ≡ false → u ≡ true → v ≡ true → ⊥
      broken true v e f h = true≢false (sym h ∙ e)
      broken false v e f h = true≢false (sym f)

  pub counts : Leads text c A S o (counted_to text c end tight o)
  unfolding counted_to nodes_in records_in
  counts = by (leb (c.nodes + node_of o) NODES && leb (c.records + record_in o) RECORDS) refl
    where
      first_over : (u : Bool) → (tight && is_run (get_or text end 0)) ≡ u → (leb (c.nodes + node_of o) NODES && leb (c.records + record_in o) RECORDS) ≡ false
          → Leads text c A S o (cond u (Err (TextWrong end)) (Err (TooMany c.at)))
      first_over true e f = record { forth = omega arith; inside = inside; says = λ w k. read w k ∙ goes_on w k e }
      first_over false e f = record { forth = omega arith; inside = g.inside; says = λ w k. read w k ∙ is_over w k e f }

      by : (u : Bool) → (leb (c.nodes + node_of o) NODES && leb (c.records + record_in o) RECORDS) ≡ u
          → Leads text c A S o (cond u (Ok (record { at = end; tight = tight; nodes = c.nodes + node_of o; records = c.records + record_in o; node = c.node; condition = c.condition }))
          (cond (tight && is_run (get_or text end 0)) (Err (TextWrong end)) (Err (TooMany c.at))))
      by true e =
          let b = both (leb (c.nodes + node_of o) NODES) (leb (c.records + record_in o) RECORDS) e in
          record {
            way = record {
              forth = omega arith;
              good = record { inside = inside; few_nodes = leb-true (c.nodes + node_of o) NODES b.0; few_records = leb-true (c.records + record_in o) RECORDS b.1 };
              goes = λ w k. (noted w o tight end, record { at_is = refl; nodes_are = omega (arith, k.nodes_are); records_are = omega (arith, k.records_are) }, read w k);
            };
            opened = record { kept = record { node_kept = refl; condition_kept = refl }; nodes_opened = refl; records_opened = refl };
            further = omega arith;
          }
      by false e = first_over (tight && is_run (get_or text end 0)) refl e
