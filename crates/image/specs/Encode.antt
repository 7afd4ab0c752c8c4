-- From tree to bytes: a plain routine as a term, and its image, "written with F = 0, C = 0" (document 01, "Configuring").
use Rattle.std.specs.Prelude.{ℕ}
use Rattle.imp.specs.Numbers.{low32}
use Rattle.imp.specs.Routine.{Arithmetic, number, variable, sum, pick, choiceᵃ, Boolean, falseᵇ, trueᵇ, notᵇ, andᵇ, less, choiceᵇ, Statement, skip, assign, sequence, if, while, throw, try, choice}
use Rattle.image.specs.Bytes.{Bytes}
use Rattle.image.specs.Term.{Term, term, none, some, term_image}

-- a node of a kind with none, one, two or three children
abbrev pub leaf : ℕ → ℕ → ℕ → Term
leaf kind v value = term kind v value none none none

abbrev pub on_one : ℕ → ℕ → Term → Term
on_one kind v x = term kind v 0 (some x) none none

abbrev pub on_two : ℕ → ℕ → Term → Term → Term
on_two kind v x y = term kind v 0 (some x) (some y) none

abbrev pub on_three : ℕ → Term → Term → Term → Term
on_three kind x y z = term kind 0 0 (some x) (some y) (some z)

unfoldable mutual
  pub termᵃ : Arithmetic ⊥ → Term
  termᵃ (number n) = leaf 0 0 (low32 n)
  termᵃ (variable v) = leaf 1 v 0
  termᵃ (sum a b) = on_two 2 0 (termᵃ a) (termᵃ b)
  termᵃ (pick e a b) = on_three 3 (termᵇ e) (termᵃ a) (termᵃ b)
  termᵃ (choiceᵃ c a b) = absurd c

  pub termᵇ : Boolean ⊥ → Term
  termᵇ falseᵇ = leaf 8 0 0
  termᵇ trueᵇ = leaf 9 0 0
  termᵇ (notᵇ e) = on_one 10 0 (termᵇ e)
  termᵇ (andᵇ e f) = on_two 11 0 (termᵇ e) (termᵇ f)
  termᵇ (less a b) = on_two 12 0 (termᵃ a) (termᵃ b)
  termᵇ (choiceᵇ c e f) = absurd c

unfoldable pub termˢ : Statement ⊥ → Term
termˢ skip = leaf 16 0 0
termˢ (assign v a) = on_one 17 v (termᵃ a)
termˢ (sequence x y) = on_two 18 0 (termˢ x) (termˢ y)
termˢ (if e x y) = on_three 19 (termᵇ e) (termˢ x) (termˢ y)
termˢ (while e x) = on_two 20 0 (termᵇ e) (termˢ x)
termˢ (throw a) = on_one 21 0 (termᵃ a)
termˢ (try x v y) = on_two 22 v (termˢ x) (termˢ y)
termˢ (choice c x y) = absurd c

-- the image of a plain routine
unfoldable pub plain_image : Statement ⊥ → Bytes
plain_image t = term_image (termˢ t)
