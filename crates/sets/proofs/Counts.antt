-- Counting members: the ones of a number are its members, and only 0 has none. Each law is over the width k.
use mathlib.Core.Path.{◌≡◌}
use Prim.Native.Nat.{ℕ, zero, suc, ◌+◌, ◌/◌, ◌^◌, ◌≤◌, ◌<◌}
use native.Mathlib.Omega.{arith}
use native.Mathlib.Nat.{pow-suc}
use native.Mathlib.Decide.{dec_lt}
use lib.Dec.{eqb}
use lib.Count.{ones, ones_in, ones_step}
use borrow.Author.Tests.{eq-eqb, ne_eqb}
use Rattle.sets.specs.Member.{digit, members}
use Rattle.sets.specs.Digits.{digit_lowest, digit_half}

-- `members` counts from the highest setting down; here the lowest is split off
members_low : (n k : ℕ) → members n (suc k) ≡ digit n 0 + members (n / 2) k
unfolding members
members_low n zero = omega arith
members_low n (suc k) = rw digit_half (omega (arith, members_low n k))

pub ones_members : (k n : ℕ) → n < 2 ^ k → ones n ≡ members n k
unfolding members ones ones_in
ones_members zero n h = let e : n ≡ 0 = omega arith in rw e
ones_members (suc k) n h =
    omega (arith, ones_step n, members_low n k, digit_lowest n, ones_members k (n / 2) (omega (arith, pow-suc 2 k)))

members_le : (k n : ℕ) → members n k ≤ n
unfolding members
members_le zero n = omega arith
members_le (suc k) n = omega (arith, members_low n k, digit_lowest n, members_le k (n / 2))

members_some : (k n : ℕ) → n < 2 ^ k → 0 < n → 0 < members n k
members_some zero n h some = absurd (omega arith)
members_some (suc k) n h some = go (dec_lt 0 (n / 2)) (members_some k (n / 2) (omega (arith, pow-suc 2 k)))
  where
    go : Dec (0 < n / 2) → (0 < n / 2 → 0 < members (n / 2) k) → 0 < members n (suc k)
    go (yes p) more = omega (arith, more p, members_low n k)
    go (no p) more = omega (arith, members_low n k, digit_lowest n)

pub none_counted : (k n : ℕ) → n < 2 ^ k → eqb n 0 ≡ eqb (members n k) 0
none_counted k n h = go (dec_lt 0 n)
  where
    go : Dec (0 < n) → eqb n 0 ≡ eqb (members n k) 0
    go (yes p) = rw (ne_eqb n 0 (λ e. omega arith), ne_eqb (members n k) 0 (λ e. omega (arith, members_some k n h p)))
    go (no p) = rw (eq-eqb n 0 (omega arith), eq-eqb (members n k) 0 (omega (arith, members_le k n)))
