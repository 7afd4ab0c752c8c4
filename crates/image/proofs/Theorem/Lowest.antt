-- The lowest bad number below n: none below it is bad, it is bad itself if it is below n, and it is n where none is bad.
use Rattle.std.specs.Prelude.{◌≡◌, refl, Bool, true, false, not, cond, ℕ, zero, suc, ◌+◌, ◌≤◌, ◌<◌}
use Rattle.std.proofs.Common.{sym, ap, ◌∙◌, true≢false, ⊎_elim, arith, eq-or-lt_of_le}
use Rattle.std.proofs.Math.Decide.{dec_lt}
use Rattle.std.proofs.lemmas.Bool.{not-false}
use Rattle.image.specs.Rows.{lowest_from, lowest}

-- what the search of the n numbers from k on finds
record Found (n k : ℕ) (bad : ℕ → Bool) (r : ℕ) : Type 0 where
  from : k ≤ r
  most : r ≤ k + n
  good : (j : ℕ) → k ≤ j → j < r → bad j ≡ false
  here : r < k + n → bad r ≡ true

found_here : (n k : ℕ) (bad : ℕ → Bool) → bad k ≡ true → Found (suc n) k bad k
found_here n k bad e = record { from = omega arith; most = omega arith; good = λ j lo hi. absurd (omega arith); here = λ h. e }

found_next : (n k r : ℕ) (bad : ℕ → Bool) → bad k ≡ false → Found n (suc k) bad r → Found (suc n) k bad r
found_next n k r bad e f =
    record {
      from = omega (arith, f.from);
      most = omega (arith, f.most);
      good = λ j lo hi. ⊎_elim (λ (q : k ≡ j). ap bad (sym q) ∙ e) (λ (l : k < j). f.good j l hi) (eq-or-lt_of_le lo);
      here = λ h. f.here (omega arith);
    }

found : (n k : ℕ) (bad : ℕ → Bool) → Found n k bad (lowest_from n k bad)
unfolding lowest_from
found zero k bad = record { from = omega arith; most = omega arith; good = λ j lo hi. absurd (omega arith); here = λ h. absurd (omega arith) }
found (suc n) k bad = go (bad k) refl (found n (suc k) bad)
  where
    go : (b : Bool) → bad k ≡ b → Found n (suc k) bad (lowest_from n (suc k) bad) → Found (suc n) k bad (cond b k (lowest_from n (suc k) bad))
    go true e f = found_here n k bad e
    go false e f = found_next n k _ bad e f

module _ (n : ℕ) (bad : ℕ → Bool) where
  pub lowest_le : lowest n bad ≤ n
  unfolding lowest
  lowest_le = omega (arith, (found n 0 bad).most)

  pub lowest_good : (k : ℕ) → k < lowest n bad → bad k ≡ false
  unfolding lowest
  lowest_good k h = (found n 0 bad).good k (omega arith) h

  pub lowest_bad : lowest n bad < n → bad (lowest n bad) ≡ true
  unfolding lowest
  lowest_bad h = (found n 0 bad).here (omega arith)

  -- a bad number with none before it is the lowest
  pub lowest_found : (k : ℕ) → k < n → ((j : ℕ) → j < k → bad j ≡ false) → bad k ≡ true → k ≡ lowest n bad
  lowest_found k h before e = go (dec_lt (lowest n bad) k) (dec_lt k (lowest n bad))
    where
      go : Dec (lowest n bad < k) → Dec (k < lowest n bad) → k ≡ lowest n bad
      go (yes l) d = absurd (true≢false (sym (lowest_bad (omega arith)) ∙ before (lowest n bad) l))
      go (no l) (yes g) = absurd (true≢false (sym e ∙ lowest_good k g))
      go (no l) (no g) = omega arith

  pub lowest_none : ((k : ℕ) → k < n → bad k ≡ false) → n ≡ lowest n bad
  lowest_none good = go (dec_lt (lowest n bad) n)
    where
      go : Dec (lowest n bad < n) → n ≡ lowest n bad
      go (yes l) = absurd (true≢false (sym (lowest_bad l) ∙ good (lowest n bad) l))
      go (no l) = omega (arith, lowest_le)

-- a test that no number below n is found to fail holds of each of them, and the other way round
module _ (n : ℕ) (test : ℕ → Bool) where
  abbrev pub failing : ℕ → Bool
  failing k = not (test k)

  pub all_pass : n ≤ lowest n failing → (k : ℕ) → k < n → test k ≡ true
  all_pass none k h = not-false (test k) (lowest_good n failing k (omega arith))

  pub none_fails : ((k : ℕ) → k < n → test k ≡ true) → n ≤ lowest n failing
  none_fails pass = omega (arith, lowest_none n failing (λ k h. rw (pass k h)))

-- tests that agree below n have the same lowest bad number
pub lowest_same : (n : ℕ) (bad bad' : ℕ → Bool) → ((k : ℕ) → k < n → bad k ≡ bad' k) → lowest n bad ≡ lowest n bad'
lowest_same n bad bad' same = go (dec_lt (lowest n bad) n)
  where
    good : (k : ℕ) → k < lowest n bad → bad' k ≡ false
    good k h = sym (same k (omega (arith, lowest_le n bad))) ∙ lowest_good n bad k h

    go : Dec (lowest n bad < n) → lowest n bad ≡ lowest n bad'
    go (yes l) = lowest_found n bad' (lowest n bad) l good (sym (same (lowest n bad) l) ∙ lowest_bad n bad l)
    go (no l) =
        let none : lowest n bad ≡ n = omega (arith, lowest_le n bad) in
        none ∙ lowest_none n bad' (λ k h. good k (omega arith))
