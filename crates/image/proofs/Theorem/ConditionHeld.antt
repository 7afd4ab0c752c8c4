-- What a condition record that passes test 5 holds, once its kind is known: its names are lower, its option below F, its kind one of the six.
use Rattle.std.specs.Prelude.{◌≡◌, Bool, true, not, ◌&&◌, ℕ, zero, suc, ◌/◌, ◌%◌, ◌<◌, eqb}
use Rattle.std.proofs.Common.{◌∙◌, ap, sym, arith, ltb-true}
use Rattle.std.proofs.lemmas.Bool.{false≢true}
use Rattle.image.specs.declared.records.ConditionRecord.{ConditionRecord}
use Rattle.image.specs.Layout.{condition_kinds, condition_layout, field_fits}
use Rattle.image.specs.Rows.{condition_fits}
use Rattle.image.proofs.Theorem.Lower.{both}

-- a kind that is known is below 6
known_below : (k : ℕ) → not (eqb (condition_layout k) 0) ≡ true → k < 6
unfolding condition_layout condition_kinds
known_below zero h = omega arith
known_below (suc zero) h = omega arith
known_below (suc (suc zero)) h = omega arith
known_below (suc (suc (suc zero))) h = omega arith
known_below (suc (suc (suc (suc zero)))) h = omega arith
known_below (suc (suc (suc (suc (suc zero))))) h = omega arith
known_below (suc (suc (suc (suc (suc (suc k)))))) h = absurd (false≢true h)

-- a field that is used is below its bound
used_below : (digit value bound : ℕ) → digit ≡ 1 → field_fits digit value bound ≡ true → value < bound
unfolding field_fits
used_below digit value bound e h = ltb-true value bound (rw e at h)

module _ (F k : ℕ) (r : ConditionRecord) (fits : condition_fits F k r ≡ true) where
  abbrev digits : ℕ
  digits = condition_layout r.kind

  abbrev option_good : Bool
  option_good = field_fits (digits / 64 % 8) r.option F

  abbrev left_good : Bool
  left_good = field_fits (digits / 8 % 8) r.left k

  abbrev right_good : Bool
  right_good = field_fits (digits % 8) r.right k

  parts : (not (eqb digits 0) ≡ true) × (option_good ≡ true) × (left_good ≡ true) × (right_good ≡ true)
  unfolding condition_fits
  parts =
      let all = both (not (eqb digits 0)) (option_good && (left_good && right_good)) fits in
      let later = both option_good (left_good && right_good) all.1 in
      let last = both left_good right_good later.1 in
      (all.0, later.0, last.0, last.1)

  pub known : condition_layout r.kind ≡ 0 → ⊥
  known none = false≢true (ap (λ (n : ℕ). not (eqb n 0)) (sym none) ∙ parts.0)

  pub kind_below : r.kind < 6
  kind_below = known_below r.kind parts.0

  pub left_below : (κ : ℕ) → r.kind ≡ κ → condition_layout κ / 8 % 8 ≡ 1 → r.left < k
  left_below κ e d = used_below _ r.left k (ap (λ κ. condition_layout κ / 8 % 8) e ∙ d) parts.2

  pub right_below : (κ : ℕ) → r.kind ≡ κ → condition_layout κ % 8 ≡ 1 → r.right < k
  right_below κ e d = used_below _ r.right k (ap (λ κ. condition_layout κ % 8) e ∙ d) parts.3

  pub option_below : (κ : ℕ) → r.kind ≡ κ → condition_layout κ / 64 % 8 ≡ 1 → r.option < F
  option_below κ e d = used_below _ r.option F (ap (λ κ. condition_layout κ / 64 % 8) e ∙ d) parts.1
