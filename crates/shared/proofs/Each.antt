-- A loop over the settings: before turn k those below k are changed, and the turn changes setting k. In the end all of the set are.
use mathlib.Core.Path.{◌≡◌, refl, sym, ◌∙◌, ap, fun_ext}
use mathlib.Core.Bool.{Bool, true, false, ◌&&◌, cond}
use Prim.Native.Nat.{ℕ, suc, ◌<◌}
use native.Mathlib.Omega.{arith}
use native.Mathlib.Decide.{dec_lt, ℕ_discrete}
use lib.Dec.{eqb, ltb}
use borrow.Author.Tests.{eq-eqb, ne_eqb, lt-ltb, le-ltb}
use Rattle.imp.specs.State.{State}
use Rattle.imp.specs.Shared.{Settings, Below}
use Rattle.shared.specs.Inner.Each.{Only}

-- the settings of S below k are changed
pub record Upto (k : ℕ) (S : Settings) (f : ℕ → State → State) (at at' : ℕ → State) : Type 0 where
  pub changed : (t : ℕ) → at' t ≡ cond (S t && ltb t k) (f t (at t)) (at t)

-- what is outside is not changed
outside : {A : Type 0} (u : Bool) (x y : A) → cond (u && false) x y ≡ y
outside true x y = refl
outside false x y = refl

pub upto_none : {S : Settings} {f : ℕ → State → State} {at : ℕ → State} → Upto 0 S f at at
upto_none {S} {f} {at} = record { changed = λ t. rw (le-ltb t 0 (omega arith)) (sym (outside (S t) (f t (at t)) (at t))) }

module _ {k : ℕ} {S : Settings} {f : ℕ → State → State} {at at' : ℕ → State} (h : Upto k S f at at') where
  pub upto_here : at' k ≡ at k
  upto_here = h.changed k ∙ rw (le-ltb k k (omega arith)) (outside (S k) (f k (at k)) (at k))

  pub upto_next : {at'' : ℕ → State} → Only k S f at' at'' → Upto (suc k) S f at at''
  upto_next {at''} o = record { changed = λ t. o.changed t ∙ go t (ℕ_discrete t k) (dec_lt t k) }
    where
      go : (t : ℕ) → Dec (t ≡ k) → Dec (t < k) → cond (S t && eqb t k) (f t (at' t)) (at' t) ≡ cond (S t && ltb t (suc k)) (f t (at t)) (at t)
      go t (yes e) d = rw (eq-eqb t k e, lt-ltb t (suc k) (omega arith)) (ap (λ σ. cond (S t && true) (f t σ) σ) (ap at' e ∙ upto_here ∙ ap at (sym e)))
      go t (no e) (yes l) =
          rw (ne_eqb t k e, lt-ltb t (suc k) (omega arith)) (outside (S t) (f t (at' t)) (at' t) ∙ h.changed t ∙ rw (lt-ltb t k l) refl)
      go t (no e) (no l) =
          rw (ne_eqb t k e, le-ltb t (suc k) (omega arith)) (outside (S t) (f t (at' t)) (at' t) ∙ h.changed t ∙ rw (le-ltb t k (omega arith)) refl)

-- a set below N has no setting from N on
within : (u l : Bool) → (u ≡ true → l ≡ true) → u && l ≡ u
within true l h = h refl
within false l h = refl

pub upto_all : {N : ℕ} {S : Settings} {f : ℕ → State → State} {at at' : ℕ → State} → Below N S → Upto N S f at at'
    → at' ≡ (λ t. cond (S t) (f t (at t)) (at t))
upto_all {N} {S} {f} {at} below h =
    fun_ext λ t. h.changed t ∙ ap (λ u. cond u (f t (at t)) (at t)) (within (S t) (ltb t N) (λ e. lt-ltb t N (below t e)))
