-- `sets_full` meets its contract: the bits of a full set, or 0 for a refusal, which no full set is.
use Rattle.std.specs.Prelude.{Option, None, Some}
use mathlib.Core.Path.{◌≡◌, refl, ap, subst, ◌∙◌}
use mathlib.Core.Bool.{Bool, true, false, ◌&&◌}
use Prim.Native.Nat.{ℕ, ◌-◌, ◌^◌}
use native.Mathlib.Omega.{arith}
use lib.Dec.{eqb, leb, ltb}
use lib.Pow.{pow_pos, pow-lt}
use borrow.Author.Tests.{ne_eqb}
use Rattle.sets.specs.declared.Set.{Set}
use Rattle.sets.specs.Member.{bit, verdict_of, judged, full_of, full_has, bits_of}
use Rattle.sets.proofs.Laws.{bit_none}
use Rattle.sets_c.proofs.sets_full.Goals as goal

-- the contract of the result that stands for the answer a
abbrev Told : ℕ → Option Set → Type 0
Told f a =
    (bits_of (verdict_of a) ≡ bits_of (full_of f)) ×
    ((eqb (bits_of (verdict_of a)) 0 ≡ ltb 6 f) × ((s : ℕ) → bit (bits_of (verdict_of a)) s ≡ (leb f 6 && ltb s (2 ^ f))))

empty_refused : (b : Bool) (f : ℕ) → eqb (bits_of (judged b f)) 0 ≡ b
empty_refused true f = refl
empty_refused false f = ne_eqb (2 ^ 2 ^ f - 1) 0 (λ e. omega (arith, pow-lt {i = 0} {j = 2 ^ f} (pow_pos f)))

bits_has : (a : Option Set) (s : ℕ) → bit (bits_of (verdict_of a)) s ≡ full_has a s
bits_has (Some S) s = refl
bits_has None s = bit_none s

told : (f : ℕ) (a : Option Set) → verdict_of a ≡ full_of f → ((s : ℕ) → full_has a s ≡ (leb f 6 && ltb s (2 ^ f))) → Told f a
unfolding full_of
told f a verdict members =
    let same = ap bits_of verdict in
    (same, (ap (λ (n : ℕ). eqb n 0) same ∙ empty_refused (ltb 6 f) f, λ s. bits_has a s ∙ members s))

pub returns-in-Some : goal.returns-in-Some
returns-in-Some c =
    let call = c.full in
    let t = subst (Told c.args.f) c.in-Some.is (told _ call.result call.ensures.verdict call.ensures.members) in
    record { bits = t.0; refused = t.1.0; members = t.1.1 }

pub returns-in-None : goal.returns-in-None
returns-in-None c =
    let call = c.full in
    let t = subst (Told c.args.f) c.in-None.is (told _ call.result call.ensures.verdict call.ensures.members) in
    record { bits = t.0; refused = t.1.0; members = t.1.1 }
