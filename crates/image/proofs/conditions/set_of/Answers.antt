-- `set_of` meets its contract: each arm is the equation of membership of its kind, and what it looks up is lower, so it is known.
use Rattle.std.proofs.Common.{◌≡◌, ℕ, not, ◌&&◌, ◌||◌, ◌/◌, ◌%◌, ◌<◌, List, get_or, sym, refl, ap, ◌∙◌}
use mathlib.Core.Path.{ap₂}
use Rattle.sets.specs.Member.{bit}
use Rattle.sets.proofs.Laws.{bit_none}
use Rattle.image.specs.declared.records.ConditionRecord.{ConditionRecord}
use Rattle.image.specs.Records.{header, condition_record}
use Rattle.image.specs.Layout.{condition_kinds, condition_layout}
use Rattle.image.specs.Sets.{in_condition}
use Rattle.image.specs.Inner.SetsOf.{Turn}
use Rattle.image.proofs.Theorem.ConditionHeld.{known, left_below, right_below}
use Rattle.image.proofs.Theorem.ConditionSets.{false_set, true_set, option_set, not_set, and_set, or_set}
use Rattle.image.proofs.conditions.set_of.Goals as goal

-- the record that was read, r, is that of condition k
module _ (l sets : List ℕ) (k full : ℕ) (turn : Turn l k full sets) (r : ConditionRecord) (r_is : r ≡ condition_record l k) where
  is_kind : {κ : ℕ} → κ ≡ r.kind → (condition_record l k).kind ≡ κ
  is_kind e = sym (e ∙ ap (λ x. x.kind) r_is)

  -- the set that is looked up, x, is that of a name of the record, which is below k
  left_set : (κ : ℕ) → κ ≡ r.kind → condition_layout κ / 8 % 8 ≡ 1 → (x s : ℕ) → x ≡ get_or sets r.left 0
      → ((condition_record l k).left < k) × (bit x s ≡ in_condition l (condition_record l k).left s)
  left_set κ e d x s x_is =
      let lower = left_below (header l).options k (condition_record l k) turn.fits κ (is_kind e) d in
      (lower, ap (λ y. bit y s) (x_is ∙ ap (λ x. get_or sets x.left 0) r_is) ∙ turn.before.right _ lower s)

  right_set : (κ : ℕ) → κ ≡ r.kind → condition_layout κ % 8 ≡ 1 → (x s : ℕ) → x ≡ get_or sets r.right 0
      → ((condition_record l k).right < k) × (bit x s ≡ in_condition l (condition_record l k).right s)
  right_set κ e d x s x_is =
      let lower = right_below (header l).options k (condition_record l k) turn.fits κ (is_kind e) d in
      (lower, ap (λ y. bit y s) (x_is ∙ ap (λ x. get_or sets x.right 0) r_is) ∙ turn.before.right _ lower s)

pub kind-requires : goal.kind-requires
kind-requires c none =
    known (header c.args.image.now).options c.args.k (condition_record c.args.image.now c.args.k) c.requires.fits (ap (λ r. condition_layout r.kind) (sym c.condition_at-r.ensures) ∙ none)

pub returns-in-False : goal.returns-in-False
returns-in-False c s =
    let a = c.args in
    let kind = is_kind a.image.now a.sets.now a.k _ c.requires _ c.condition_at-r.ensures c.in-False.ensures in
    ap (λ x. bit x s) c.empty.ensures ∙ bit_none s ∙ sym (false_set a.image.now a.k s kind)

pub returns-in-True : goal.returns-in-True
returns-in-True c s =
    let a = c.args in
    let kind = is_kind a.image.now a.sets.now a.k _ c.requires _ c.condition_at-r.ensures c.in-True.ensures in
    c.requires.full_is s ∙ sym (true_set a.image.now a.k s kind)

pub returns-in-Option : goal.returns-in-Option
returns-in-Option c s =
    let a = c.args in
    let kind = is_kind a.image.now a.sets.now a.k _ c.requires _ c.condition_at-r.ensures c.in-Option.ensures in
    c.option.ensures s
    ∙ ap₂ (λ a o. a && bit s o) (c.requires.full_is s) (ap (λ r. r.option) c.condition_at-r.ensures)
    ∙ sym (option_set a.image.now a.k s kind)

pub returns-in-Not : goal.returns-in-Not
unfolding condition_layout condition_kinds
returns-in-Not c s =
    let a = c.args in
    let e = c.in-Not.ensures in
    let kind = is_kind a.image.now a.sets.now a.k _ c.requires _ c.condition_at-r.ensures e in
    let x = left_set a.image.now a.sets.now a.k _ c.requires _ c.condition_at-r.ensures 3 e refl _ s c.at-left.ensures in
    c.take_away.ensures s
    ∙ ap₂ (λ a x. a && not x) (c.requires.full_is s) x.1
    ∙ sym (not_set a.image.now a.k s kind x.0)

pub returns-in-And : goal.returns-in-And
unfolding condition_layout condition_kinds
returns-in-And c s =
    let a = c.args in
    let e = c.in-And.ensures in
    let kind = is_kind a.image.now a.sets.now a.k _ c.requires _ c.condition_at-r.ensures e in
    let x = left_set a.image.now a.sets.now a.k _ c.requires _ c.condition_at-r.ensures 4 e refl _ s c.at-left.ensures in
    let y = right_set a.image.now a.sets.now a.k _ c.requires _ c.condition_at-r.ensures 4 e refl _ s c.at-right.ensures in
    c.meet.ensures s ∙ ap₂ ◌&&◌ x.1 y.1 ∙ sym (and_set a.image.now a.k s kind x.0 y.0)

pub returns-in-Or : goal.returns-in-Or
unfolding condition_layout condition_kinds
returns-in-Or c s =
    let a = c.args in
    let e = c.in-Or.ensures in
    let kind = is_kind a.image.now a.sets.now a.k _ c.requires _ c.condition_at-r.ensures e in
    let x = left_set a.image.now a.sets.now a.k _ c.requires _ c.condition_at-r.ensures 5 e refl _ s c.at-left.ensures in
    let y = right_set a.image.now a.sets.now a.k _ c.requires _ c.condition_at-r.ensures 5 e refl _ s c.at-right.ensures in
    c.join.ensures s ∙ ap₂ ◌||◌ x.1 y.1 ∙ sym (or_set a.image.now a.k s kind x.0 y.0)
