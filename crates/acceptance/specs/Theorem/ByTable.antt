-- A call by its table: which refusal it answers, exactly when, and what it then leaves. Stated once, of any table.
use Rattle.std.specs.Prelude.{◌≡◌, refl, List, ◌↔◌, ◌⊎◌, ℕ}
use Rattle.std.proofs.Common.{sym, ◌∙◌, ap, inl, inr}
use Rattle.image.specs.Rows.{Row, Answer, refused, answer, judge, written, NoneFails, Given}
use Rattle.image.proofs.Theorem.Given.{refused_given, answered, by_answer, written_as_judged}
use Rattle.image.proofs.Theorem.Given as Table

module _ {A : Type 0} (rows : List Row) (x : A) {a : Answer A} (judged : a ≡ judge rows x) where
  pub refusal_is : (n p : ℕ) → (a ≡ refused n p) ↔ Given rows n p
  refusal_is n p = let r = refused_given x rows n p in (λ e. r.0 (sym judged ∙ e), λ g. judged ∙ r.1 g)

  pub carried_is : ((y : A) × (a ≡ answer y)) ↔ NoneFails rows
  carried_is = (λ e. answered x rows e.0 (sym judged ∙ e.1), λ none. (x, judged ∙ (Table.carried_out x rows).1 none))

-- every input is refused or carried out
pub decided : (rows : List Row) → ((n : ℕ) × (p : ℕ) × Given rows n p) ⊎ NoneFails rows
decided rows = go (judge {A = ℕ} rows 0) refl
  where
    go : (a : Answer ℕ) → judge {A = ℕ} rows 0 ≡ a → ((n : ℕ) × (p : ℕ) × Given rows n p) ⊎ NoneFails rows
    go (refused n p) e = inl (n, p, (refused_given {A = ℕ} 0 rows n p).0 e)
    go (answer y) e = inr (answered {A = ℕ} 0 rows y e)

-- what is refused is left as it was lent
pub as_lent : {M : Type 0} (rows : List Row) (new lent : M) {left : M} → left ≡ written rows new lent → (n p : ℕ) → Given rows n p → left ≡ lent
as_lent rows new lent e n p given = e ∙ written_as_judged {A = ℕ} rows 0 new lent ∙ ap (λ a. by_answer a new lent) ((refused_given {A = ℕ} 0 rows n p).1 given)
