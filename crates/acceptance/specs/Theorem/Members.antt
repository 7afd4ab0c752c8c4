-- The members of `set_of`: of the first n settings those in which P holds, and no other.
use Rattle.std.specs.Prelude.{◌≡◌, refl, Bool, true, false, cond, ℕ, zero, suc, ◌+◌, ◌/◌, ◌^◌, ◌≤◌, ◌<◌}
use Rattle.std.proofs.Common.{sym, ◌∙◌, ap, arith, add-zero, pow-suc, eq-eqb}
use Rattle.std.proofs.Math.Decide.{ℕ_discrete}
use Rattle.sets.specs.Member.{digit, bit}
use Rattle.sets.specs.Digits.{digit_lowest, digit_half}
use Rattle.sets.proofs.Laws.{bit_past}
use Rattle.imp.specs.Shared.{Settings}
use Rattle.shared.specs.SharedRun.{set_of}

-- one more digit on top: below it the digits are as they were
half : (n x : ℕ) → (x + 2 ^ suc n) / 2 ≡ x / 2 + 2 ^ n
half n x = omega (arith, pow-suc 2 n)

on_top : (n x : ℕ) → x < 2 ^ n → digit (x + 2 ^ n) n ≡ 1
on_top zero x h = digit_lowest (x + 1) ∙ omega arith
on_top (suc n) x h = digit_half (x + 2 ^ suc n) n ∙ ap (λ y. digit y n) (half n x) ∙ on_top n (x / 2) (omega (arith, pow-suc 2 n))

under : (n s x : ℕ) → s < n → digit (x + 2 ^ n) s ≡ digit x s
under zero s x h = absurd (omega arith)
under (suc n) zero x h = digit_lowest (x + 2 ^ suc n) ∙ omega (arith, pow-suc 2 n) ∙ sym (digit_lowest x)
under (suc n) (suc s) x h =
    digit_half (x + 2 ^ suc n) s ∙ ap (λ y. digit y s) (half n x) ∙ under n s (x / 2) (omega arith) ∙ sym (digit_half x s)

-- the set of the first n settings is of n digits
room : (n : ℕ) (P : Settings) → set_of n P < 2 ^ n
unfolding set_of
room zero P = omega arith
room (suc n) P = go (P n) (room n P)
  where
    go : (u : Bool) → set_of n P < 2 ^ n → set_of n P + cond u (2 ^ n) 0 < 2 ^ suc n
    go true h = omega (arith, pow-suc 2 n)
    go false h = omega (arith, pow-suc 2 n)

pub member : (n : ℕ) (P : Settings) (s : ℕ) → s < n → bit (set_of n P) s ≡ P s
unfolding set_of bit
member zero P s h = absurd (omega arith)
member (suc n) P s h = go (ℕ_discrete s n) (P n) refl (member n P s)
  where
    go : Dec (s ≡ n) → (u : Bool) → P n ≡ u → (s < n → bit (set_of n P) s ≡ P s) → bit (set_of n P + cond (P n) (2 ^ n) 0) s ≡ P s
    go (yes e) true p ih = rw (e, p) (eq-eqb _ 1 (on_top n (set_of n P) (room n P)))
    go (yes e) false p ih = rw (e, p, add-zero (set_of n P)) (bit_past n (set_of n P) n (room n P) (omega arith))
    go (no e) true p ih = rw (p, under n s (set_of n P) (omega arith)) (ih (omega arith))
    go (no e) false p ih = rw (p, add-zero (set_of n P)) (ih (omega arith))

pub no_member : (n : ℕ) (P : Settings) (s : ℕ) → n ≤ s → bit (set_of n P) s ≡ false
no_member n P s h = bit_past n (set_of n P) s (room n P) h

pub no_members : (n : ℕ) (P : Settings) → ((s : ℕ) → s < n → P s ≡ false) → set_of n P ≡ 0
unfolding set_of
no_members zero P h = refl
no_members (suc n) P h = rw (h n (omega arith)) (omega (arith, no_members n P (λ s i. h s (omega arith))))
