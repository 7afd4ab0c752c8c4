-- A row at the lowest bad record, as the code finds it: where one is found the row fails at it, and else the later rows decide.
use mathlib.Core.Path.{◌≡◌, sym, ap, ◌∙◌}
use mathlib.Core.Bool.{Bool}
use mathlib.Core.List.{List, ◌∷◌}
use Prim.Native.Nat.{ℕ, ◌≤◌, ◌<◌}
use borrow.Author.Tests.{lt-ltb, le-ltb}
use Rattle.image.specs.Rows.{Row, refused, judge, lowest, lowest_row}
use Rattle.image.proofs.Theorem.Given.{judge_fails, judge_passes}

module _ {A : Type 0} (number n : ℕ) (bad : ℕ → Bool) (rows : List Row) (x : A) {k : ℕ} (is : k ≡ lowest n bad) where
  pub found : k < n → refused number k ≡ judge (lowest_row number n bad ∷ rows) x
  found h = ap (λ (p : ℕ). refused number p) is ∙ sym (judge_fails (lowest_row number n bad) rows x (lt-ltb _ _ (rw is at h)))

  pub not_found : n ≤ k → judge (lowest_row number n bad ∷ rows) x ≡ judge rows x
  not_found h = judge_passes (lowest_row number n bad) rows x (le-ltb _ _ (rw is at h))
