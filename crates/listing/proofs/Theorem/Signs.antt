-- Laws of signs: a text sign by sign, and that a part's sign stands only where the kind has that part.
use Rattle.std.specs.Prelude.{◌≡◌, Bool, true, eqb, length, get_or, take}
use Rattle.std.specs.List.{list_all}
use Rattle.std.proofs.Math.Path.{refl, sym, ap}
use Rattle.std.proofs.Common.{◌∙◌, take_all, eqb-true}
use Prim.Native.Nat.{ℕ, zero, suc, ◌+◌, ◌≤◌, ◌<◌}
use mathlib.Core.List.{List, [], ◌∷◌, ◌++◌, append-nil, append_assoc}
use native.Mathlib.Omega.{arith}
use Rattle.std.proofs.lemmas.List.{get_or_default}
use Rattle.std.proofs.lemmas.List.Elements.{All-get_or}
use Rattle.std.proofs.lemmas.List.Sums.{AllPass-from_list_all}
use Rattle.std.proofs.Math.ListN.{length-append, get_or-eq_default}
use Rattle.image.specs.Bytes.{Bytes}
use Rattle.image.specs.Layout.{kinds, layout, names_node, is_choice, condition_kinds, condition_layout}
use Rattle.image.proofs.Theorem.Kinds.{kind_cases}
use Rattle.image.proofs.Theorem.Lower.{both}
use Rattle.listing.specs.Inner.Spelling.{spellings, spelling, condition_spellings, condition_spelling, DOT, Parts, plainly, stands, spell}
use Rattle.listing.specs.Inner.Listing.{asks, condition_asks}

-- ---- one sign more

module _ (p : Parts) where
  next : (signs : Bytes) (i : ℕ) → spell p (take (suc i) signs) ≡ spell p (take i signs) ++ stands p (get_or signs i DOT)
  unfolding spell stands plainly
  next [] zero = refl
  next [] (suc i) = refl
  next (s ∷ signs) zero = append-nil (stands p s)
  next (s ∷ signs) (suc i) = ap (λ t. stands p s ++ t) (next signs i) ∙ sym (append_assoc (stands p s) (spell p (take i signs)) (stands p (get_or signs i DOT)))

  pub one_more : (signs : Bytes) (i : ℕ) → spell p (take (i + 1) signs) ≡ spell p (take i signs) ++ stands p (get_or signs i DOT)
  one_more signs i =
      let e : i + 1 ≡ suc i = omega arith in
      ap (λ j. spell p (take j signs)) e ∙ next signs i

  pub within : (signs : Bytes) (i : ℕ) → length (spell p (take i signs)) ≤ length (spell p signs)
  unfolding spell
  within [] zero = omega arith
  within [] (suc i) = omega arith
  within (s ∷ signs) zero = omega arith
  within (s ∷ signs) (suc i) = omega (arith, within signs i, length-append (stands p s) (spell p (take i signs)), length-append (stands p s) (spell p signs))

-- ---- what each sign of a spelling asks for

all_at : (f : ℕ → Bool) → f DOT ≡ true → (signs : Bytes) → list_all f signs ≡ true → (i : ℕ) → f (get_or signs i DOT) ≡ true
all_at f d [] h i = d
all_at f d (s ∷ signs) h zero = (both (f s) (list_all f signs) h).0
all_at f d (s ∷ signs) h (suc i) = all_at f d signs (both (f s) (list_all f signs) h).1 i

abbrev Claim : ℕ → Type 0
Claim κ = (layout κ ≡ 0 → ⊥) → list_all (asks κ) (spelling κ) ≡ true

table : (κ : ℕ) → Claim κ
unfolding asks layout kinds names_node is_choice spelling spellings
table = kind_cases Claim (λ k. refl) (λ k. refl) (λ k. refl) (λ k. refl) (λ k. refl) (λ k. refl) (λ k. refl) (λ k. refl) (λ k. refl) (λ k. refl)
    (λ k. refl) (λ k. refl) (λ k. refl) (λ k. refl) (λ k. refl) (λ k. refl) (λ k. refl) (λ k. refl) (λ k. refl) (λ κ z k. absurd (k z))

pub asked : (κ : ℕ) → (layout κ ≡ 0 → ⊥) → (i : ℕ) → asks κ (get_or (spelling κ) i DOT) ≡ true
unfolding asks
asked κ known i = all_at (asks κ) refl (spelling κ) (table κ known) i

condition_table : (κ : ℕ) → κ < 6 → list_all (condition_asks κ) (condition_spelling κ) ≡ true
unfolding condition_asks condition_layout condition_kinds condition_spelling condition_spellings
condition_table zero h = refl
condition_table (suc zero) h = refl
condition_table (suc (suc zero)) h = refl
condition_table (suc (suc (suc zero))) h = refl
condition_table (suc (suc (suc (suc zero)))) h = refl
condition_table (suc (suc (suc (suc (suc zero))))) h = refl
condition_table (suc (suc (suc (suc (suc (suc κ)))))) h = absurd (omega arith)

pub condition_asked : (κ : ℕ) → κ < 6 → (i : ℕ) → condition_asks κ (get_or (condition_spelling κ) i DOT) ≡ true
unfolding condition_asks
condition_asked κ known i = all_at (condition_asks κ) refl (condition_spelling κ) (condition_table κ known) i

-- ---- a spelling is as long as its row

abbrev long : ℕ → Bytes → Bool
long w signs = eqb (length signs) w

row_long : (w : ℕ) (rows : List Bytes) → list_all (long w) rows ≡ true → (k : ℕ) → k < length rows → length (get_or rows k []) ≡ w
row_long w rows h k low =
    eqb-true (length (get_or rows k [])) w (All-get_or (λ signs. long w signs ≡ true) rows k [] low (AllPass-from_list_all (long w) rows h))

row_whole : (w : ℕ) (rows : List Bytes) → list_all (long w) rows ≡ true → (k : ℕ) → take w (get_or rows k []) ≡ get_or rows k []
row_whole zero [] h k = refl
row_whole (suc w) [] h k = refl
row_whole w (signs ∷ rest) h zero = take_all w signs (omega (arith, row_long w (signs ∷ rest) h 0 (omega arith)))
row_whole w (signs ∷ rest) h (suc k) = row_whole w rest (both (long w signs) (list_all (long w) rest) h).1 k

pub whole : (κ : ℕ) → take 21 (spelling κ) ≡ spelling κ
unfolding spelling spellings
whole κ = row_whole 21 spellings refl κ

pub condition_whole : (κ : ℕ) → take 9 (condition_spelling κ) ≡ condition_spelling κ
unfolding condition_spelling condition_spellings
condition_whole κ = row_whole 9 condition_spellings refl κ

-- a sign within its row, read with any default
pub in_row : (κ i : ℕ) → κ < 24 → i < 21 → get_or (get_or spellings κ []) i 0 ≡ get_or (spelling κ) i DOT
unfolding spelling spellings
in_row κ i h low = get_or_default (get_or spellings κ []) i 0 DOT (omega (arith, row_long 21 spellings refl κ h))

pub condition_in_row : (κ i : ℕ) → κ < 6 → i < 9 → get_or (get_or condition_spellings κ []) i 0 ≡ get_or (condition_spelling κ) i DOT
unfolding condition_spelling condition_spellings
condition_in_row κ i h low = get_or_default (get_or condition_spellings κ []) i 0 DOT (omega (arith, row_long 9 condition_spellings refl κ h))

pub no_row : (κ i : ℕ) → 24 ≤ κ → get_or (spelling κ) i DOT ≡ DOT
unfolding spelling spellings
no_row κ i h = ap (λ row. get_or row i DOT) (get_or-eq_default spellings [] h)

pub no_condition_row : (κ i : ℕ) → 6 ≤ κ → get_or (condition_spelling κ) i DOT ≡ DOT
unfolding condition_spelling condition_spellings
no_condition_row κ i h = ap (λ row. get_or row i DOT) (get_or-eq_default condition_spellings [] h)
