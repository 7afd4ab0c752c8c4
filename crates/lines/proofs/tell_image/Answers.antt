-- `tell_image` meets its contract: the first n of zeros are n zeros.
use mathlib.Core.Path.{◌≡◌, refl, ◌∙◌, ap}
use mathlib.Core.List.{◌∷◌}
use Prim.Native.Nat.{ℕ, zero, suc, ◌-◌, ◌*◌, ◌≤◌}
use native.Mathlib.Omega.{arith}
use lib.IntN.{pos}
use lib.ListN.{take, replicate}
use Rattle.image.specs.Sets.{settings}
use Rattle.shared.specs.Lent.{tally}
use Rattle.lines.specs.Text.{zeros, blank}
use Rattle.lines.proofs.tell_image.Goals as goal

first_of : {A : Type 0} (x : A) (m k : ℕ) → m ≤ k → take (m - 0) (replicate k x) ≡ replicate m x
first_of x m k h =
    let all : m - 0 ≡ m = omega arith in
    ap (λ i. take i (replicate k x)) all ∙ go m k h
  where
    go : (m k : ℕ) → m ≤ k → take m (replicate k x) ≡ replicate m x
    go zero k h = refl
    go (suc m) zero h = absurd (omega arith)
    go (suc m) (suc k) h = ap (λ r. x ∷ r) (go m k (omega arith))

zeros_of : (n : ℕ) → n ≤ 64 → take (n * 16 - 0) (replicate 1024 (pos 0)) ≡ zeros n
unfolding zeros
zeros_of n h = first_of (pos 0) (n * 16) 1024 (omega arith)

blank_of : (n : ℕ) → n ≤ 64 → tally (take (n - 0) (replicate 64 0)) (take (n - 0) (replicate 64 (pos 0))) (take (n - 0) (replicate 64 0)) ≡ blank n
unfolding blank
blank_of n h = rw (first_of {A = ℕ} 0 n 64 h, first_of (pos 0) n 64 h)

pub tell_run-requires : goal.tell_run-requires
tell_run-requires c =
    let n : ℕ = c.args.n in
    let e : n ≡ settings c.args.image.now = c.requires.settings_are in
    record {
      few = omega (arith, e, c.requires.few);
      store_is = zeros_of n c.requires.few ∙ ap zeros e;
      tally_is = blank_of n c.requires.few ∙ ap blank e;
      fits = c.requires.fits;
    }
