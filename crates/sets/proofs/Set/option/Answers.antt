-- `Set::option` meets its contract: by the rule of the single options below 6, and there is no option from 6 on.
use mathlib.Core.Path.{◌≡◌, sym, ap, ◌∙◌}
use mathlib.Core.Bool.{◌&&◌, not}
use Prim.Native.Nat.{ℕ, ◌+◌, ◌*◌, ◌/◌, ◌-◌, ◌%◌, ◌^◌, ◌≤◌, ◌<◌}
use native.Mathlib.Omega.{arith}
use lib.Pow.{pow_mono}
use Rattle.sets.specs.Member.{bit}
use Rattle.sets.proofs.Laws.{bit_none, one_shl}
use Rattle.sets.proofs.Options.{off, option_left, option_none}
use Rattle.sets.proofs.Set.option.Goals as goal

-- below option 6 the two shifts lose nothing, and what is divided gives the settings in which option k is off
module _ (k : ℕ) (h : k < 6) where
  width : (1 * 2 ^ k) % 2 ^ 64 ≡ 2 ^ k
  width = one_shl 64 k (omega arith)

  at_most : 2 ^ k ≤ 32
  at_most = pow_mono {i = k} {j = 5} (omega arith)

  shifted : (1 * 2 ^ ((1 * 2 ^ k) % 2 ^ 64)) % 2 ^ 64 ≡ 2 ^ 2 ^ k
  shifted = rw width (one_shl 64 (2 ^ k) (omega (arith, at_most)))

  divided : (2 ^ 64 - 1) / ((1 * 2 ^ ((1 * 2 ^ k) % 2 ^ 64)) % 2 ^ 64 + 1) ≡ off 6 k
  unfolding off
  divided = rw shifted

-- where just those are taken away, option k is on in what is left
left : (full k away s : ℕ) → full < 2 ^ 64 → k < 6 → away ≡ off 6 k → (bit full s && not (bit away s)) ≡ (bit full s && bit s k)
left full k away s hf hk e = rw e (option_left 6 full k s hf hk)

pub returns-then-k-ge6 : goal.returns-then-k-ge6
returns-then-k-ge6 c s = ap (λ (n : ℕ). bit n s) c.empty.ensures ∙ bit_none s ∙ sym (option_none 6 _ _ s (omega arith) c.if-k-ge6.true)

pub returns : goal.returns
returns c s =
    let k = c.args.k in
    let h : k < 6 = omega arith in
    c.take_away.ensures s ∙ left _ k _ s (omega arith) h (omega (arith, divided k h))

pub overflow_shl-stripe-2 : goal.overflow_shl-stripe-2
overflow_shl-stripe-2 c = omega (arith, width c.args.k (omega arith), at_most c.args.k (omega arith))

pub overflow_add-stripe : goal.overflow_add-stripe
overflow_add-stripe c =
    let k = c.args.k in
    record { fits = omega (arith, shifted k (omega arith), pow_mono {i = 2 ^ k} {j = 32} (at_most k (omega arith))) }
