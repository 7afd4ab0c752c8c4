-- Laws of booleans and of sets of settings that the theorems share.
use Rattle.std.specs.Prelude.{◌≡◌, ℕ, zero, suc, ◌<◌, Bool, true, false, cond, ◌&&◌, ◌||◌, refl}
use Rattle.std.proofs.Common.{ap₂, true≢false, not-suc-le-zero, arith}
use Rattle.std.proofs.lemmas.Bool.{false≢true}
use Rattle.std.proofs.Math.Decide.{ℕ_discrete}
use Rattle.imp.specs.Shared.{Settings, any}

pub and_true : (a b : Bool) → a && b ≡ true → (a ≡ true) × (b ≡ true)
and_true true b e = (refl, e)
and_true false b e = absurd (false≢true e)

pub or_false : (a b : Bool) → a || b ≡ false → (a ≡ false) × (b ≡ false)
or_false true b h = absurd (true≢false h)
or_false false b h = (refl, h)

pub same_cond : {A : Type 0} (b : Bool) (x : A) → x ≡ cond b x x
same_cond true x = refl
same_cond false x = refl

-- no setting of a set in which there is none
pub any_false : (N : ℕ) (S : Settings) → any N S ≡ false → (s : ℕ) → s < N → S s ≡ false
unfolding any
any_false zero S e s h = absurd (not-suc-le-zero h)
any_false (suc N) S e s h = go (ℕ_discrete s N) (any_false N S (or_false (S N) (any N S) e).1 s)
  where
    go : Dec (s ≡ N) → (s < N → S s ≡ false) → S s ≡ false
    go (yes p) ih = rw p (or_false (S N) (any N S) e).0
    go (no p) ih = ih (omega arith)

-- a setting of a set in which there is one
pub any_true : (N : ℕ) (S : Settings) → any N S ≡ true → (s : ℕ) × (s < N) × (S s ≡ true)
unfolding any
any_true zero S e = absurd (false≢true e)
any_true (suc N) S e = go (S N) refl (any_true N S)
  where
    go : (b : Bool) → S N ≡ b → (any N S ≡ true → (s : ℕ) × (s < N) × (S s ≡ true)) → (s : ℕ) × (s < suc N) × (S s ≡ true)
    go true p ih = (N, omega arith, p)
    go false p ih = let r : (s : ℕ) × (s < N) × (S s ≡ true) = ih (rw p at e) in (r.0, omega (arith, r.1), r.2)

-- a set with a setting has one
pub any_has : (N : ℕ) (S : Settings) (s : ℕ) → s < N → S s ≡ true → any N S ≡ true
any_has N S s h e = go (any N S) refl
  where
    go : (b : Bool) → any N S ≡ b → any N S ≡ true
    go true p = p
    go false p = absurd (true≢false (rw e at (any_false N S p s h)))

-- sets with the same settings below N
pub any_same : (N : ℕ) (S T : Settings) → ((s : ℕ) → s < N → S s ≡ T s) → any N S ≡ any N T
unfolding any
any_same zero S T h = refl
any_same (suc N) S T h = ap₂ ◌||◌ (h N (omega arith)) (any_same N S T λ s k. h s (omega arith))
