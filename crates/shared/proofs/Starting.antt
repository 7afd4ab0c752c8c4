-- Where a shared run starts: with the first outcomes, and with zeros for codes and steps, every setting is where the meaning starts.
use mathlib.Core.Path.{◌≡◌, refl, sym, ◌∙◌, ap, subst, fun_ext}
use mathlib.Core.Bool.{Bool, true, false, cond}
use Prim.Native.Nat.{ℕ, ◌<◌}
use native.Mathlib.Omega.{arith}
use native.Mathlib.Decide.{dec_lt}
use lib.IntN.{pos}
use lib.ListN.{length, get_or, replicate, length-replicate, get_or-eq_default}
use Rattle.std.proofs.lemmas.List.{get_or-replicate}
use Rattle.sets.specs.declared.Set.{Set}
use Rattle.sets.specs.Member.{bit}
use Rattle.imp.specs.State.{Numbers, outcome_number, code, fresh, untouched}
use Rattle.imp.specs.Shared.{start, Below}
use Rattle.plain.specs.declared.progress.Progress.{Progress}
use Rattle.plain.specs.Inner.Progress.{outcome_from, state_of, Proper}
use Rattle.shared.specs.declared.lent.Lent.{Lent}
use Rattle.shared.specs.Lent.{progress, part}
use Rattle.shared.specs.Inner.Lent.{own, as_shared}
use Rattle.shared.specs.Inner.Handed.{tally_in}
use Rattle.shared.specs.Inner.Starting.{Starts}

-- a first progress, of a setting of the set or of another
abbrev first : Bool → Progress
first u = record { outcome = cond u 1 0; code = pos 0; steps = 0 }

-- it is a fresh setting's or an untouched one's
first_proper : (u : Bool) → Proper (first u).outcome (first u).code
unfolding outcome_from outcome_number code
first_proper true = record { outcome_is = refl; code_is = refl }
first_proper false = record { outcome_is = refl; code_is = refl }

first_state : (u : Bool) (ns : Numbers) → state_of (first u) ns ≡ cond u (fresh ns) (untouched ns)
unfolding state_of outcome_from fresh untouched
first_state true ns = refl
first_state false ns = refl

-- of a list of one number that number is read, also past its end
only : {A : Type 0} (n t : ℕ) (a : A) → get_or (replicate n a) t a ≡ a
only n t a = go (dec_lt t n)
  where
    go : Dec (t < n) → get_or (replicate n a) t a ≡ a
    go (yes h) = get_or-replicate n t a a h
    go (no h) = get_or-eq_default (replicate n a) a {n = t} (omega (arith, h, length-replicate n a))

module _ {N : ℕ} (set : Set) (L L' : Lent) (store_is : L'.store.now ≡ L.store.now) (places : length L'.outcomes.now ≡ N)
    (codes_are : L'.codes.now ≡ replicate N (pos 0)) (steps_are : L'.steps.now ≡ replicate N 0)
    (below : Below N (bit set.bits)) (each : (t : ℕ) → t < N → get_or L'.outcomes.now t 0 ≡ cond (bit set.bits t) 1 0) where
  -- past the end there is no outcome, and no setting of the set
  outcome_at : (t : ℕ) → get_or L'.outcomes.now t 0 ≡ cond (bit set.bits t) 1 0
  outcome_at t = go (dec_lt t N) (bit set.bits t) refl
    where
      go : Dec (t < N) → (u : Bool) → bit set.bits t ≡ u → get_or L'.outcomes.now t 0 ≡ cond (bit set.bits t) 1 0
      go (yes h) u e = each t h
      go (no h) true e = absurd (h (below t e))
      go (no h) false e = get_or-eq_default L'.outcomes.now 0 {n = t} (omega (arith, h, places)) ∙ rw e refl

  begins : (t : ℕ) → progress (tally_in L') t ≡ first (bit set.bits t)
  unfolding progress
  begins t =
      let o = outcome_at t in
      let c = ap (λ xs. get_or xs t (pos 0)) codes_are ∙ only N t (pos 0) in
      let n = ap (λ xs. get_or xs t 0) steps_are ∙ only N t 0 in
      λ i. record { outcome = o i; code = c i; steps = n i }

  pub all_started : Starts N set L L'
  unfolding as_shared own start
  all_started = record {
    starts =
        ap (λ xs. as_shared xs (tally_in L') 0) store_is
        ∙ ap (λ f. record { at = f; visits = 0 })
        (fun_ext λ s. ap (λ p. state_of p (part L.store.now s)) (begins s) ∙ first_state (bit set.bits s) (part L.store.now s));
    store_is = store_is;
    tallied = record {
      outcomes_length = places;
      codes_length = ap length codes_are ∙ length-replicate N (pos 0);
      steps_length = ap length steps_are ∙ length-replicate N 0;
      proper = λ s. subst (λ p. Proper p.outcome p.code) (sym (begins s)) (first_proper (bit set.bits s));
    };
  }
