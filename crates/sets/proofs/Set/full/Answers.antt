-- `Set::full` meets its contract. The mask is all 64 settings shifted down to the first 2 ^ f, a number whose members are known.
use mathlib.Core.Path.{◌≡◌, ap, ◌∙◌}
use Prim.Native.Nat.{ℕ, ◌+◌, ◌-◌, ◌*◌, ◌/◌, ◌%◌, ◌^◌, ◌≤◌, ◌<◌}
use native.Mathlib.Omega.{arith}
use lib.Pow.{pow_pos, pow_mono}
use borrow.Author.Tests.{lt-ltb, le-ltb, le-leb, lt-leb}
use Rattle.sets.specs.Member.{bit, full_set, full_of}
use Rattle.sets.proofs.Laws.{one_shl, ones_shr, bit_ones}
use Rattle.sets.proofs.Set.full.Lts as lts
use Rattle.sets.proofs.Set.full.Reads as reads
use Rattle.sets.proofs.Set.full.Tie as tie
use Rattle.sets.proofs.Set.full.Goals as goal

abbrev Then-f-gt6 : Type 0
Then-f-gt6 = lts.Then1 reads.Pre reads.Post tie.handed_clauses

abbrev Else-f-gt6 : Type 0
Else-f-gt6 = lts.Else1 reads.Pre reads.Post tie.handed_clauses

module _ (f : ℕ) (h : f ≤ 6) where
  settings : (1 * 2 ^ f) % 2 ^ 64 ≡ 2 ^ f
  settings = one_shl 64 f (omega arith)

  at_most : 2 ^ f ≤ 64
  at_most = pow_mono h

  mask : (2 ^ 64 - 1) / 2 ^ (64 - (1 * 2 ^ f) % 2 ^ 64) ≡ 2 ^ 2 ^ f - 1
  mask =
      let whole : 64 ≡ 2 ^ f + (64 - 2 ^ f) = omega (arith, at_most) in
      rw settings (ap (λ (w : ℕ). (2 ^ w - 1) / 2 ^ (64 - 2 ^ f)) whole ∙ ones_shr (2 ^ f) (64 - 2 ^ f))

-- what the code's test says on either side
many : (c : Then-f-gt6) → 6 < c.args.f
many c = omega arith

few : (c : Else-f-gt6) → c.args.f ≤ 6
few c = omega arith

pub returns-then-f-gt6 : goal.returns-then-f-gt6
unfolding full_of
returns-then-f-gt6 c = record { verdict = rw (lt-ltb _ _ (many c)); members = λ s. rw (lt-leb _ _ (many c)) }

pub overflow_sub-result : goal.overflow_sub-result
overflow_sub-result c = omega (arith, settings c.args.f (few c), at_most c.args.f (few c))

pub overflow_shr-result : goal.overflow_shr-result
overflow_shr-result c = omega (arith, settings c.args.f (few c), pow_pos c.args.f)

pub returns : goal.returns
unfolding full_of
returns c =
    let f = c.args.f in
    let h = few c in
    record {
      verdict = rw (le-ltb 6 f h) (ap full_set (mask f h));
      members = λ s. rw (le-leb f 6 h) (ap (λ (n : ℕ). bit n s) (mask f h) ∙ bit_ones (2 ^ f) s);
    }
