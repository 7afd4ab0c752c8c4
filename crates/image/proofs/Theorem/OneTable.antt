-- The table of the sets of conditions is one: below C by the members of each set, and from C on it is empty.
use Rattle.std.specs.Prelude.{◌≡◌, refl, List, [], ◌∷◌, ℕ, suc, ◌^◌, ◌<◌, length, get_or}
use Rattle.std.proofs.Common.{sym, ◌∙◌, ap, ap₂, arith}
use Rattle.std.proofs.Math.Decide.{dec_lt}
use Rattle.sets.specs.declared.Set.{Set}
use Rattle.sets.specs.Same.{same_members}
use Rattle.image.specs.Bytes.{Bytes}
use Rattle.image.specs.Inner.SetsOf.{TableOf}

-- numbers of 64 bits
abbrev pub AllSmall : List ℕ → Type 0
AllSmall table = (k : ℕ) → get_or table k 0 < 2 ^ 64

-- lists of one length with the same at each place are the same
same_list : (xs ys : List ℕ) → length xs ≡ length ys → ((k : ℕ) → get_or xs k 0 ≡ get_or ys k 0) → xs ≡ ys
same_list [] [] e h = refl
same_list [] (y ∷ ys) e h = absurd (omega (arith, e))
same_list (x ∷ xs) [] e h = absurd (omega (arith, e))
same_list (x ∷ xs) (y ∷ ys) e h = ap₂ ◌∷◌ (h 0) (same_list xs ys (omega (arith, e)) λ k. h (suc k))

pub one_table : {l : Bytes} {n : ℕ} {A B : List ℕ} → AllSmall A → AllSmall B → TableOf l n A → TableOf l n B → A ≡ B
one_table {l} {n} {A} {B} ha hb a b = same_list A B (a.length_is ∙ sym b.length_is) λ k. go k (dec_lt k n)
  where
    go : (k : ℕ) → Dec (k < n) → get_or A k 0 ≡ get_or B k 0
    go k (yes i) =
        let left : Set = record { bits = get_or A k 0 } in
        let right : Set = record { bits = get_or B k 0 } in
        ap (λ (S : Set). S.bits) (same_members left right (ha k) (hb k) λ s. a.sets_are.right k i s ∙ sym (b.sets_are.right k i s))
    go k (no i) = a.empty_beyond k (omega arith) ∙ sym (b.empty_beyond k (omega arith))
