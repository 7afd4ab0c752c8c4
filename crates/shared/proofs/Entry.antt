-- The answers of the shared run, free of the code: each row's refusal leaves all as it was lent, and a run that ended is the one meant.
use mathlib.Core.Path.{◌≡◌, refl, sym, ◌∙◌}
use mathlib.Core.Bool.{Bool, true, false, not, ◌&&◌, true≢false}
use mathlib.Core.List.{List, []}
use Prim.Native.Nat.{ℕ, ◌*◌, ◌^◌, ◌≤◌, ◌<◌}
use native.Mathlib.Omega.{arith}
use native.Mathlib.Decide.{dec_lt}
use lib.Dec.{eqb, ltb}
use lib.IntN.{ℤ}
use lib.ListN.{length}
use borrow.Author.Tests.{not-true, eqb-true, ltb-false, lt-ltb, le-ltb}
use Rattle.std.specs.Prelude.{Result, Err}
use Rattle.sets.specs.declared.Set.{Set}
use Rattle.sets.specs.Member.{bit, members}
use Rattle.sets.proofs.Laws.{bit_past}
use Rattle.imp.specs.Shared.{any, beyond, Below}
use Rattle.imp.proofs.Theorem.Sets.{and_true, any_true, any_has}
use Rattle.imp.proofs.Theorem.Beyond.{beyond_is, not_beyond}
use Rattle.image.specs.declared.accept.Shape.{Shape}
use Rattle.image.specs.declared.refusals.Refusal.{Refusal}
use Rattle.image.specs.declared.refusals.Refusal.TheVariants.{SetBeyond, BudgetOver, LentWrong}
use Rattle.image.specs.Bytes.{Bytes}
use Rattle.image.specs.Check.{shape_of}
use Rattle.image.specs.Refusals.{number_of, place_of}
use Rattle.image.specs.Rows.{Row, refused, judge, written, check_rows}
use Rattle.image.specs.Sets.{settings}
use Rattle.image.specs.Accepted.{Accepted}
use Rattle.image.proofs.Theorem.Accepted.{accepts}
use Rattle.image.proofs.Theorem.Then.{judge_then, judge_stops, written_then, written_stops}
use Rattle.shared.specs.declared.Ends.{Ends}
use Rattle.shared.specs.declared.lent.Lent.{Lent}
use Rattle.shared.specs.Lent.{Tally}
use Rattle.shared.specs.Inner.Handed.{tally_in}
use Rattle.shared.specs.Inner.Starting.{Sized}
use Rattle.shared.specs.SharedRun.{SharedRuns, exact, set_rows, shared_rows}
use Rattle.shared.specs.Inner.Carried.{Carried}
use Rattle.shared.proofs.Members.{any_members}

-- ---- row 9: what is left of the set when the settings below N are taken away has a member just when the set has one beyond

module _ (N set left : ℕ) (wide : set < 2 ^ 64) (fits : left < 2 ^ 64) (taken : (s : ℕ) → bit left s ≡ (bit set s && not (ltb s N))) where
  all_below : Below 64 (bit left)
  all_below s e = go (dec_lt s 64)
    where
      go : Dec (s < 64) → s < 64
      go (yes h) = h
      go (no h) = absurd (true≢false (sym e ∙ bit_past 64 left s fits (omega arith)))

  same : any 64 (bit left) ≡ beyond N set
  same = go (any 64 (bit left)) (beyond N set) refl refl
    where
      go : (u v : Bool) → any 64 (bit left) ≡ u → beyond N set ≡ v → any 64 (bit left) ≡ beyond N set
      go true true e f = e ∙ sym f
      go false false e f = e ∙ sym f
      go true false e f =
          let r : (s : ℕ) × (s < 64) × (bit left s ≡ true) = any_true 64 (bit left) e in
          let p = and_true (bit set r.0) (not (ltb r.0 N)) (sym (taken r.0) ∙ r.2) in
          absurd (true≢false (sym ((beyond_is N set wide).1 (r.0, ltb-false r.0 N (not-true _ p.1), p.0)) ∙ f))
      go false true e f =
          let r = (beyond_is N set wide).0 f in
          let here : bit left r.0 ≡ true = taken r.0 ∙ rw (r.2, le-ltb r.0 N r.1) in
          absurd (true≢false (sym (any_has 64 (bit left) r.0 (all_below r.0 here) here) ∙ e))

  pub beyond_left : not (eqb (members left 64) 0) ≡ beyond N set
  beyond_left = sym (any_members 64 left (omega arith) all_below) ∙ same

-- ---- row 12: the lengths

module _ (N : ℕ) (xs : List ℤ) (T : Tally) (e : exact N xs T ≡ true) where
  lengths : (length xs ≡ N * 16) × Sized N T
  unfolding exact
  lengths =
      let p = and_true (eqb (length xs) (N * 16)) (eqb (length T.outcomes) N && (eqb (length T.codes) N && eqb (length T.steps) N)) e in
      let q = and_true (eqb (length T.outcomes) N) (eqb (length T.codes) N && eqb (length T.steps) N) p.1 in
      let r = and_true (eqb (length T.codes) N) (eqb (length T.steps) N) q.1 in
      (eqb-true _ _ p.0, record { outcomes_length = eqb-true _ _ q.0; codes_length = eqb-true _ _ r.0; steps_length = eqb-true _ _ r.1 })

-- what is known when every test is passed
pub carried : {l : Bytes} {shape : Shape} {set : Set} {budget : ℕ} (L : Lent) → Accepted l → shape ≡ shape_of l
    → beyond (settings l) set.bits ≡ false → budget ≤ 100000 → exact (settings l) L.store.now (tally_in L) ≡ true → Carried l shape set budget L
carried {l} {set = set} L acc shape_is e h g = record {
  accepted = acc;
  shape_is = shape_is;
  below = not_beyond (settings l) set.bits e;
  allowed = h;
  store_length = (lengths (settings l) L.store.now (tally_in L) g).0;
  sized = (lengths (settings l) L.store.now (tally_in L) g).1;
}

-- ---- tests 9, 10 and 12

module _ (l : Bytes) (set budget : ℕ) (xs : List ℤ) (T : Tally) where
  abbrev later : List Row
  later = set_rows l set budget xs T

  pub set_beyond : beyond (settings l) set ≡ true → SharedRuns later l set budget xs T xs T (Err SetBeyond)
  unfolding set_rows judge written
  set_beyond e = record { answered = rw e; store_is = rw e; tally_is = rw e }

  module _ (e : beyond (settings l) set ≡ false) where
    pub over_budget : 100000 < budget → SharedRuns later l set budget xs T xs T (Err BudgetOver)
    unfolding set_rows judge written
    over_budget h =
        let f = lt-ltb 100000 budget h in
        record { answered = rw (e, f); store_is = rw (e, f); tally_is = rw (e, f) }

    module _ (h : budget ≤ 100000) where
      pub wrong_length : exact (settings l) xs T ≡ false → SharedRuns later l set budget xs T xs T (Err LentWrong)
      unfolding set_rows judge written
      wrong_length g =
          let f = le-ltb 100000 budget h in
          record { answered = rw (e, f, g); store_is = rw (e, f, g); tally_is = rw (e, f, g) }

      pub all_passed : exact (settings l) xs T ≡ true → {xs' : List ℤ} {T' : Tally} {r : Result Ends Refusal}
          → SharedRuns [] l set budget xs T xs' T' r → SharedRuns later l set budget xs T xs' T' r
      unfolding set_rows judge written
      all_passed g runs =
          let f = le-ltb 100000 budget h in
          record {
            answered = runs.answered ∙ rw (e, f, g);
            store_is = runs.store_is ∙ rw (e, f, g);
            tally_is = runs.tally_is ∙ rw (e, f, g);
          }

  -- ---- tests 1 to 8 before them

  pub refused_first : (r : Refusal) → refused (number_of r) (place_of r) ≡ judge (check_rows l) (shape_of l)
      → SharedRuns (shared_rows l set budget xs T) l set budget xs T xs T (Err r)
  unfolding shared_rows
  refused_first r e = record {
    answered = sym (judge_stops (shape_of l) (check_rows l) _ _ _ _ (sym e));
    store_is = sym (written_stops (shape_of l) (check_rows l) _ _ _ _ _ (sym e));
    tally_is = sym (written_stops (shape_of l) (check_rows l) _ _ _ _ _ (sym e));
  }

  pub goes_on : Accepted l → {xs' : List ℤ} {T' : Tally} {r : Result Ends Refusal}
      → SharedRuns later l set budget xs T xs' T' r → SharedRuns (shared_rows l set budget xs T) l set budget xs T xs' T' r
  unfolding shared_rows
  goes_on acc runs = record {
    answered = runs.answered ∙ sym (judge_then budget (check_rows l) _ _ (accepts l budget acc));
    store_is = runs.store_is ∙ sym (written_then budget (check_rows l) _ _ _ (accepts l budget acc));
    tally_is = runs.tally_is ∙ sym (written_then budget (check_rows l) _ _ _ (accepts l budget acc));
  }
