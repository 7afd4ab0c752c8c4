-- What a statement does by itself, kind by kind, in one setting; and what all settings' states are after it.
use mathlib.Core.Path.{◌≡◌, refl, sym, ◌∙◌, ap, ap₂, subst}
use mathlib.Core.Bool.{Bool, true, false, ◌&&◌, cond}
use Prim.Native.Nat.{ℕ, ◌+◌, ◌-◌, ◌*◌, ◌<◌}
use native.Mathlib.Decide.{ℕ_discrete}
use lib.Dec.{eqb}
use lib.IntN.{ℤ}
use lib.ListN.{length}
use borrow.Author.Tests.{eq-eqb, ne_eqb}
use borrow.Rule.Slice.PartMut.{put_mid}
use Rattle.sets.specs.declared.Set.{Set}
use Rattle.sets.specs.Member.{bit}
use Rattle.imp.specs.State.{Numbers, State, store, thrown, taken}
use Rattle.imp.specs.Shared.{value_in, Settings, for, Below}
use Rattle.image.specs.declared.records.Node.{Node}
use Rattle.image.specs.Bytes.{Bytes}
use Rattle.image.specs.Sets.{settings}
use Rattle.image.specs.Tree.{read}
use Rattle.plain.specs.declared.progress.Progress.{Progress}
use Rattle.plain.specs.Inner.Progress.{state_of}
use Rattle.plain.specs.Inner.Running.{Ran}
use Rattle.shared.specs.declared.lent.Lent.{Lent}
use Rattle.shared.specs.declared.plan.Plan.{Plan}
use Rattle.shared.specs.Lent.{progress, part}
use Rattle.shared.specs.Inner.Lent.{Tallied, Measured, put, own, as_shared}
use Rattle.shared.specs.Inner.Handed.{image_in, tally_in}
use Rattle.shared.specs.Inner.Each.{Only}
use Rattle.shared.specs.Inner.Acting.{acting, ActedAt, ActedFor}
use Rattle.shared.proofs.Each.{Upto, upto_all}
use Rattle.shared.proofs.Parts.{back_length, back_here, back_other}
use Rattle.shared.proofs.Tallies.{progress_put, put_tallied}

-- ---- in one setting

module _ (l : Bytes) (ν : Node) (s : ℕ) (p : Progress) (ns : Numbers) where
  abbrev value : ℤ
  value = value_in s (read l ν.a).arithmetic ns

  pub assign_acts : ν.kind ≡ 17 → store ν.variable value (state_of p ns) ≡ acting l ν s (state_of p ns)
  unfolding acting state_of
  assign_acts e = rw e refl

  pub throw_acts : ν.kind ≡ 21 → thrown value (state_of p ns) ≡ acting l ν s (state_of p ns)
  unfolding acting state_of
  throw_acts e = rw e refl

  pub take_acts : (ν.kind ≡ 17 → ⊥) → (ν.kind ≡ 21 → ⊥) → taken ν.variable (state_of p ns) ≡ acting l ν s (state_of p ns)
  unfolding acting
  take_acts e f = rw (ne_eqb ν.kind 17 e, ne_eqb ν.kind 21 f) refl

-- ---- of all settings

elsewhere : (u : Bool) (x y : State) → y ≡ cond (u && false) x y
elsewhere true x y = refl
elsewhere false x y = refl

-- setting s is changed, or it is not of the set
module _ {s : ℕ} {S : Settings} {f : ℕ → State → State} {at : ℕ → State} where
  changed_here : {at' : ℕ → State} → S s ≡ true → at' s ≡ f s (at s) → ((t : ℕ) → (t ≡ s → ⊥) → at' t ≡ at t) → Only s S f at at'
  changed_here {at'} on here other = record { changed = λ t. go t (ℕ_discrete t s) }
    where
      go : (t : ℕ) → Dec (t ≡ s) → at' t ≡ cond (S t && eqb t s) (f t (at t)) (at t)
      go t (yes e) = rw (e, on, eq-eqb s s refl) here
      go t (no e) = rw (ne_eqb t s e) (other t e ∙ elsewhere (S t) (f t (at t)) (at t))

module _ (l : Bytes) (ν : Node) (on : Set) (s : ℕ) (L : Lent) (lent : Measured (settings l) L.store.now (tally_in L)) where
  -- its part comes back as ys, and its progress is q
  pub acted : {q : Progress} {ys : Numbers} {L' : Lent} → s < settings l → bit on.bits s ≡ true
      → L'.store.now ≡ put_mid (s * 16) ((s * 16 + 16) - s * 16) L.store.now ys → tally_in L' ≡ put s q (tally_in L)
      → Ran (acting l ν s (state_of (progress (tally_in L) s) (part L.store.now s))) q ys → ActedAt l ν on s L L'
  unfolding own
  acted {q} {ys} {L'} below here back is-put ran = record {
    acted = changed_here here
        (ap₂ state_of (ap (λ T. progress T s) is-put ∙ progress_put lent.tallied below q s ∙ ap (λ u. cond u q (progress (tally_in L) s)) (eq-eqb s s refl))
        (ap (λ zs. part zs s) back ∙ back_here L.store.now (settings l) s lent.store_length below ys ran.sixteen)
        ∙ ran.reaches)
        (λ t other. ap₂ state_of
        (ap (λ T. progress T t) is-put ∙ progress_put lent.tallied below q t ∙ ap (λ u. cond u q (progress (tally_in L) t)) (ne_eqb t s other))
        (ap (λ zs. part zs t) back ∙ back_other L.store.now (settings l) s lent.store_length below ys ran.sixteen t other));
    lent = record {
      store_length = ap length back ∙ back_length L.store.now (settings l) s lent.store_length below ys ran.sixteen;
      tallied = subst (λ T. Tallied (settings l) T) (sym is-put) (put_tallied lent.tallied below q ran.proper);
    };
  }

-- every setting of the set has had its turn
pub acted_for : (plan : Plan) (ν : Node) (on : Set) (L L' : Lent) → Below plan.settings (bit on.bits) → Measured (settings (image_in plan)) L'.store.now (tally_in L')
    → Upto plan.settings (bit on.bits) (acting (image_in plan) ν) (own L.store.now (tally_in L)) (own L'.store.now (tally_in L')) → ActedFor plan ν on L L'
unfolding as_shared for
acted_for plan ν on L L' below lent all = record { acted = λ visits. ap (λ at. record { at = at; visits = visits }) (upto_all below all); lent = subst (λ N. Measured N L'.store.now (tally_in L')) (sym plan.prepared.settings_are) lent }
