-- A set of settings below N has one exactly when its members are not 0.
use mathlib.Core.Path.{◌≡◌, refl}
use mathlib.Core.Bool.{Bool, true, false, not}
use Prim.Native.Nat.{ℕ, zero, suc, ◌≤◌, ◌<◌}
use native.Mathlib.Omega.{arith}
use native.Mathlib.Decide.{ℕ_discrete}
use lib.Dec.{eqb}
use borrow.Author.Tests.{eqb-true, eqb-false, eq-eqb, ne_eqb}
use Rattle.sets.specs.Member.{digit, bit, members}
use Rattle.sets.specs.Digits.{digit_lt}
use Rattle.imp.specs.Shared.{any, Below}
use Rattle.imp.proofs.Theorem.Sets.{any_true, any_false}

-- a setting of the first k is counted, and where none is, none is counted
counts : (n k s : ℕ) → s < k → bit n s ≡ true → 0 < members n k
unfolding members bit
counts n zero s h e = absurd (omega arith)
counts n (suc k) s h e = go (ℕ_discrete s k) (counts n k s)
  where
    go : Dec (s ≡ k) → (s < k → bit n s ≡ true → 0 < members n k) → 0 < members n (suc k)
    go (yes p) more = omega (arith, eqb-true (digit n k) 1 (rw p at e))
    go (no p) more = omega (arith, more (omega arith) e)

none : (n k : ℕ) → ((s : ℕ) → bit n s ≡ false) → members n k ≡ 0
unfolding members bit
none n zero h = refl
none n (suc k) h = omega (arith, none n k h, digit_lt n k, eqb-false (digit n k) 1 (h k))

pub any_members : (N n : ℕ) → N ≤ 64 → Below N (bit n) → any N (bit n) ≡ not (eqb (members n 64) 0)
any_members N n few below = go (any N (bit n)) refl
  where
    nowhere : any N (bit n) ≡ false → (s : ℕ) (u : Bool) → bit n s ≡ u → bit n s ≡ false
    nowhere e s true p = any_false N (bit n) e s (below s p)
    nowhere e s false p = p

    go : (u : Bool) → any N (bit n) ≡ u → any N (bit n) ≡ not (eqb (members n 64) 0)
    go true e =
        let r : (s : ℕ) × (s < N) × (bit n s ≡ true) = any_true N (bit n) e in
        rw (e, ne_eqb (members n 64) 0 (λ z. omega (arith, counts n 64 r.0 (omega (arith, r.1)) r.2)))
    go false e = rw (e, eq-eqb (members n 64) 0 (none n 64 (λ s. nowhere e s (bit n s) refl)))
