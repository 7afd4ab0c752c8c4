-- Bytes stored one after another: a longer run of stores is a shorter one and the rest.
use mathlib.Core.Path.{◌≡◌, refl, sym, ◌∙◌, ap}
use Prim.Native.Nat.{ℕ, suc, ◌+◌, ◌/◌, ◌%◌, ◌≤◌}
use mathlib.Core.List.{List, [], ◌∷◌, ◌++◌, append_assoc}
use native.Mathlib.Nat.{add-zero}
use native.Mathlib.Omega.{arith}
use lib.ListN.{length, set, drop}
use lib.Seq.{sets, sets-eq, set_comm}
use Rattle.image.specs.Bytes.{over}
use Rattle.image.specs.Term.{bytes_of, all_bytes}
use Rattle.image.proofs.Theorem.Words.{length_bytes}

pub sets_app : (u v l : List ℕ) (i : ℕ) → sets l i (u ++ v) ≡ sets (sets l i u) (i + length u) v
sets_app [] v l i = ap (λ k. sets l k v) (sym (add-zero i))
sets_app (x ∷ u) v l i = sets_app u v _ (suc i) ∙ ap (λ k. sets (sets l i (x ∷ u)) k v) (omega arith)

-- bytes stored from the start lie over what was there
pub over_is : (u out : List ℕ) → length u ≤ length out → sets out 0 u ≡ over u out
unfolding over
over_is u out h =
    let from : 0 + length u ≡ length u = omega arith in
    sets-eq u out 0 (omega arith) ∙ ap (λ k. u ++ drop k out) from

-- a store behind them may come first
store_first : (u l : List ℕ) (i j x : ℕ) → i + length u ≤ j → sets (set l j x) i u ≡ set (sets l i u) j x
store_first [] l i j x h = refl
store_first (y ∷ u) l i j x h = ap (λ m. sets m (suc i) u) (set_comm l j i x y (λ e. omega arith)) ∙ store_first u _ (suc i) j x (omega arith)

-- the last byte first, and then those before it
pub last_first : (l : List ℕ) (at n w : ℕ) → sets (set l (at + n) (w % 256)) at (bytes_of n (w / 256)) ≡ sets l at (bytes_of (suc n) w)
unfolding bytes_of
last_first l at n w =
    let high : List ℕ = bytes_of n (w / 256) in
    let long : length high ≡ n = length_bytes n (w / 256) in
    store_first high l at (at + n) (w % 256) (omega arith)
    ∙ sym (sets_app high (w % 256 ∷ []) l at ∙ ap (λ k. set (sets l at high) (at + k) (w % 256)) long)

pub bytes_app : (u v : List ℕ) → all_bytes (u ++ v) ≡ all_bytes u ++ all_bytes v
unfolding all_bytes
bytes_app [] v = refl
bytes_app (w ∷ u) v = ap (λ r. bytes_of 8 w ++ r) (bytes_app u v) ∙ sym (append_assoc (bytes_of 8 w) (all_bytes u) (all_bytes v))
