-- `number_at` meets its contract: after i bytes `v` is the number that they make, and fewer than eight bytes leave room for one more.
use Rattle.std.proofs.Common.{◌≡◌, ℕ, ◌+◌, ◌-◌, ◌<◌, ◌≤◌, ◌^◌, List, get_or, take, drop, length, refl, ◌∙◌, arith, length-take}
use Rattle.std.proofs.lemmas.List.{get_or-take, get_or-drop}
use native.Mathlib.Numerals.{add-one}
use native.Mathlib.Nat.{pow-le-pow_right}
use Rattle.image.specs.Bytes.{number_at}
use Rattle.image.proofs.Numbers.{number_lt}
use Rattle.image.proofs.records.number_at.Goals as goal

module _ (l : List ℕ) (at n i : ℕ) where
  -- the n bytes from `at`
  abbrev those : List ℕ
  those = take (at + n - at) (drop at l)

  inside : i < length those → i < n
  inside h = omega (arith, length-take (at + n - at) (drop at l))

  byte_is : i < length those → get_or those i 0 ≡ get_or l (at + i) 0
  byte_is h = get_or-take (at + n - at) (drop at l) i 0 (omega (arith, inside h)) ∙ get_or-drop at l i 0

  -- fewer than eight bytes make a number of at most 56 bits
  below : {v : ℕ} → ((k : ℕ) → get_or l k 0 < 256) → n ≤ 8 → i < length those → v ≡ number_at l at i → v < 2 ^ 56
  below bytes few h is =
      omega (arith, is, inside h, number_lt l at i bytes, pow-le-pow_right {n = 256} (omega arith) {i = i} {j = 7} (omega (arith, inside h)))

pub loop-byte-init : goal.loop-byte-init
unfolding number_at
loop-byte-init c = refl

pub overflow_mul-v : goal.overflow_mul-v
overflow_mul-v c =
    let a = c.args in
    record { fits = omega (arith, below a.image.now a.at a.n _ (λ k. (c.type_inv.image k).fits) c.requires.0 c.loop-byte-test.true c.loop-byte.invariant) }

pub overflow_add-v : goal.overflow_add-v
overflow_add-v c =
    let a = c.args in
    let small = below a.image.now a.at a.n _ (λ k. (c.type_inv.image k).fits) c.requires.0 c.loop-byte-test.true c.loop-byte.invariant in
    let byte = (c.type_inv.image (a.at + c.loop-byte.byte-index)).fits in
    record { fits = omega (arith, small, c.from.ensures, byte_is a.image.now a.at a.n _ c.loop-byte-test.true, byte) }

pub loop-byte-preserved : goal.loop-byte-preserved
unfolding number_at
loop-byte-preserved c =
    let a = c.args in
    rw (add-one, ← c.loop-byte.invariant) (omega (arith, c.from.ensures, byte_is a.image.now a.at a.n _ c.loop-byte-test.true))
