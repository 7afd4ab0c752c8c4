-- What a run leaves in all that is lent is what the meaning says: the store is its parts in order, the tally each setting's numbers in order.
use mathlib.Core.Path.{◌≡◌, refl, sym, ◌∙◌, ap, ap₂, fun_ext}
use mathlib.Core.List.{List, ◌∷◌, [], ◌++◌}
use Prim.Native.Nat.{ℕ, zero, suc, ◌+◌, ◌*◌, ◌≤◌}
use native.Mathlib.Omega.{arith}
use lib.Dec.{eqb}
use lib.IntN.{ℤ, pos}
use lib.ListN.{length, get_or, take, drop}
use lib.Seq.{take_all, take-suc, take-add}
use Rattle.sets.specs.declared.Set.{Set}
use Rattle.imp.specs.State.{outcome_number, code}
use Rattle.imp.specs.Shared.{Shared}
use Rattle.plain.specs.Inner.Progress.{state_of}
use Rattle.shared.specs.declared.lent.Lent.{Lent}
use Rattle.shared.specs.Lent.{Tally, tally, progress, part}
use Rattle.shared.specs.Inner.Lent.{Measured, own, as_shared}
use Rattle.shared.specs.Inner.Handed.{tally_in}
use Rattle.shared.specs.Inner.Sharing.{Shares}
use Rattle.shared.specs.SharedRun.{each, numbers_of, tally_of, set_of, ends_of}

-- a list is what is read of it at each place
each_take : {A : Type 0} (l : List A) (d : A) (f : ℕ → A) → ((s : ℕ) → f s ≡ get_or l s d) → (n : ℕ) → n ≤ length l → each n f ≡ take n l
unfolding each
each_take l d f e zero h = refl
each_take l d f e (suc n) h =
    ap₂ (λ xs x. xs ++ (x ∷ [])) (each_take l d f e n (omega arith)) (e n) ∙ sym (take-suc l n d (omega arith))

each_is : {A : Type 0} {N : ℕ} (l : List A) (d : A) (f : ℕ → A) → length l ≡ N → ((s : ℕ) → f s ≡ get_or l s d) → l ≡ each N f
each_is {N = N} l d f h e = sym (each_take l d f e N (omega (arith, h)) ∙ take_all N l (omega (arith, h)))

module _ (N : ℕ) (xs : List ℤ) (T : Tally) (visits : ℕ) (h : Measured N xs T) where
  abbrev here : Shared
  here = as_shared xs T visits

  parts : (n : ℕ) → numbers_of n here ≡ take (n * 16) xs
  unfolding numbers_of as_shared own state_of part
  parts zero = refl
  parts (suc n) =
      let sum : n * 16 + 16 ≡ suc n * 16 = omega arith in
      ap (λ ys. ys ++ take 16 (drop (n * 16) xs)) (parts n) ∙ sym (take-add (n * 16) 16 xs) ∙ ap (λ m. take m xs) sum

  numbers_are : xs ≡ numbers_of N here
  numbers_are = sym (parts N ∙ take_all (N * 16) xs (omega (arith, h.store_length)))

  outcome_at : (s : ℕ) → outcome_number (here.at s).outcome ≡ get_or T.outcomes s 0
  unfolding as_shared own state_of progress
  outcome_at s = (h.tallied.proper s).outcome_is

  code_at : (s : ℕ) → code (here.at s).outcome ≡ get_or T.codes s (pos 0)
  unfolding as_shared own state_of progress
  code_at s = (h.tallied.proper s).code_is

  steps_at : (s : ℕ) → (here.at s).steps ≡ get_or T.steps s 0
  unfolding as_shared own state_of progress
  steps_at s = refl

  tally_are : T ≡ tally_of N here
  unfolding tally_of
  tally_are =
      let os = each_is T.outcomes 0 (λ s. outcome_number (here.at s).outcome) h.tallied.outcomes_length outcome_at in
      let cs = each_is T.codes (pos 0) (λ s. code (here.at s).outcome) h.tallied.codes_length code_at in
      let ts = each_is T.steps 0 (λ s. (here.at s).steps) h.tallied.steps_length steps_at in
      λ i. tally (os i) (cs i) (ts i)

  -- the settings that ended with an outcome
  ended_so : (o : ℕ) → set_of (length T.outcomes) (λ s. eqb (get_or T.outcomes s 0) o) ≡ set_of N (λ s. eqb (outcome_number (here.at s).outcome) o)
  ended_so o = ap₂ set_of h.tallied.outcomes_length (fun_ext λ s. ap (λ n. eqb n o) (sym (outcome_at s)))

  ends_are : (fault out : Set) → fault.bits ≡ set_of (length T.outcomes) (λ s. eqb (get_or T.outcomes s 0) 2)
      → out.bits ≡ set_of (length T.outcomes) (λ s. eqb (get_or T.outcomes s 0) 3)
      → record { visits = visits; fault = fault; out = out } ≡ ends_of N here
  unfolding ends_of as_shared
  ends_are fault out e f =
      let p = e ∙ ended_so 2 in
      let q = f ∙ ended_so 3 in
      λ i. record { visits = visits; fault = record { bits = p i }; out = record { bits = q i } }

-- the state that is reached
module _ {N : ℕ} {reached : Shared} {visits : ℕ} (L : Lent) (h : Shares N reached visits L) where
  pub store_left : L.store.now ≡ numbers_of N reached
  store_left = numbers_are N L.store.now (tally_in L) visits h.lent ∙ ap (numbers_of N) h.reaches

  pub tally_left : tally_in L ≡ tally_of N reached
  tally_left = tally_are N L.store.now (tally_in L) visits h.lent ∙ ap (tally_of N) h.reaches

  pub ends_told : {fault out : Set} → fault.bits ≡ set_of (length L.outcomes.now) (λ s. eqb (get_or L.outcomes.now s 0) 2)
      → out.bits ≡ set_of (length L.outcomes.now) (λ s. eqb (get_or L.outcomes.now s 0) 3)
      → record { visits = visits; fault = fault; out = out } ≡ ends_of N reached
  ends_told {fault} {out} e f = ends_are N L.store.now (tally_in L) visits h.lent fault out e f ∙ ap (ends_of N) h.reaches
