-- An answer is known by what a promise says of it: a refusal by its number and place, a set by its members, anything else by itself.
use Rattle.std.specs.Prelude.{◌≡◌, refl, Bool, false, ℕ, ◌^◌, ◌<◌, Result, Ok, Err, Option, Some, None}
use Rattle.std.proofs.Common.{sym, ◌∙◌, ap, arith}
use Rattle.sets.specs.declared.Set.{Set}
use Rattle.sets.specs.Member.{has, Verdict, full_set, refused as over-six, verdict_of}
use Rattle.sets.specs.Same.{same_members}
use Rattle.image.specs.declared.refusals.Refusal.{Refusal}
use Rattle.image.specs.Check.{answer_of}
use Rattle.image.specs.Refusals.{number_of, place_of}
use Rattle.image.specs.Rows.{Answer, refused, answer}
use Rattle.image.specs.Sets.{set_answer}
use Rattle.image.proofs.Theorem.One.{refusal_from, refusal_known, same_refusal}

-- the result that answers so
abbrev from : {A : Type 0} → Answer A → Result A Refusal
from (answer x) = Ok x
from (refused n p) = Err (refusal_from n p)

known : {A : Type 0} (r : Result A Refusal) → from (answer_of r) ≡ r
known (Ok x) = refl
known (Err q) = ap Err (refusal_known q)

-- of every call that answers a value or a refusal
pub one_result : {A : Type 0} {a : Answer A} (r r' : Result A Refusal) → answer_of r ≡ a → answer_of r' ≡ a → r ≡ r'
one_result r r' e e' = sym (known r) ∙ ap from (e ∙ sym e') ∙ known r'

-- an answer that is no refusal
pub no_refusal : {A : Type 0} (r : Result A Refusal) (x : A) → answer_of r ≡ answer x → r ≡ Ok x
no_refusal r x e = one_result r (Ok x) e refl

-- ---- sets

pub one_set : (P : ℕ → Bool) (S S' : Set) → S.bits < 2 ^ 64 → S'.bits < 2 ^ 64 → ((s : ℕ) → has S s ≡ P s) → ((s : ℕ) → has S' s ≡ P s) → S ≡ S'
one_set P S S' h h' e e' = same_members S S' h h' λ s. e s ∙ sym (e' s)

-- a set that is answered is of 64 bits
abbrev Fits64 : Result Set Refusal → Type 0
Fits64 r = (S : Set) → r ≡ Ok S → S.bits < 2 ^ 64

abbrev member : ℕ → Answer (ℕ → Bool) → Bool
member s (answer P) = P s
member s (refused n p) = false

pub one_condition_set : {a : Answer (ℕ → Bool)} (r r' : Result Set Refusal) → Fits64 r → Fits64 r' → set_answer r ≡ a → set_answer r' ≡ a → r ≡ r'
one_condition_set r r' h h' e e' = go r r' h h' (e ∙ sym e')
  where
    go : (r r' : Result Set Refusal) → Fits64 r → Fits64 r' → set_answer r ≡ set_answer r' → r ≡ r'
    go (Ok S) (Ok S') h h' e = ap Ok (same_members S S' (h S refl) (h' S' refl) λ s. ap (member s) e)
    go (Err q) (Err q') h h' e =
        let number_same : number_of q ≡ number_of q' = cc in
        let place_same : place_of q ≡ place_of q' = cc in
        ap Err (same_refusal q q' number_same place_same)
    go (Ok S) (Err q') h h' e = let z : ◌≡◌ {A = ℕ} 0 1 = cc in absurd (omega arith)
    go (Err q) (Ok S') h h' e = let z : ◌≡◌ {A = ℕ} 0 1 = cc in absurd (omega arith)

abbrev full_from : Verdict → Option Set
full_from (full_set bits) = Some (record { bits = bits })
full_from (over-six n p) = None

full_known : (r : Option Set) → full_from (verdict_of r) ≡ r
full_known (Some S) = refl
full_known None = refl

pub one_full : {v : Verdict} (r r' : Option Set) → verdict_of r ≡ v → verdict_of r' ≡ v → r ≡ r'
one_full r r' e e' = sym (full_known r) ∙ ap full_from (e ∙ sym e') ∙ full_known r'
