-- The signs of a kind spell the text of its trees: one case for each kind.
use Rattle.std.specs.Prelude.{◌≡◌}
use Rattle.std.proofs.Math.Path.{refl, sym, ap}
use Prim.Native.Nat.{ℕ, zero, suc, ◌<◌}
use mathlib.Core.List.{◌∷◌, ◌++◌, append-nil}
use Rattle.std.proofs.Common.{arith}
use Rattle.imp.specs.Numbers.{signed32}
use Rattle.imp.specs.Condition.{Condition}
use Rattle.image.specs.declared.records.ConditionRecord.{ConditionRecord}
use Rattle.image.specs.declared.records.Node.{Node}
use Rattle.image.specs.Layout.{kinds, layout, class_digit, names_node, condition_kinds, condition_layout}
use Rattle.image.specs.Tree.{condition_kind, condition_reading, kind_of, Read, reading}
use Rattle.image.proofs.Theorem.Kinds.{kind_cases}
use Rattle.text.specs.Decimal.{decimal, signed_decimal}
use Rattle.written.specs.Lister.{listedᶜ, listedᵃ, listedᵇ, listedˢ}
use Rattle.listing.specs.Inner.Spelling.{spellings, spelling, condition_spellings, condition_spelling, plainly, stands, spell}
use Rattle.listing.specs.Inner.Texts.{text_of, still_short, all_short, field_text, node_parts, named, condition_parts}

opened : Unit {0}
unfolding layout kinds names_node kind_of reading spelling spellings spell stands plainly text_of still_short all_short field_text node_parts listedᶜ listedᵃ listedˢ
opened = tt

module _ (of : ℕ → Condition) (at : ℕ → Read) (level variable value a b c zero_bits high : ℕ) where
  abbrev ν : ℕ → Node
  ν kind = record { kind = kind; variable = variable; a = a; b = b; c = c; zero = zero_bits; high = high; value = value }

  abbrev Claim : ℕ → Type 0
  Claim κ = (layout κ ≡ 0 → ⊥)
      → text_of (class_digit (layout κ)) level (reading (kind_of κ) of at (ν κ))
      ≡ spell (node_parts (λ level slot x. text_of slot level (at x)) of (all_short at (ν κ)) level (ν κ)) (spelling κ)

  claims : (κ : ℕ) → Claim κ
  unfolding opened
  claims = kind_cases Claim
      (λ k. sym (append-nil (signed_decimal (signed32 value))))
      (λ k. ap (λ t. 118 ∷ t) (sym (append-nil (decimal variable))))
      (λ k. refl)
      (λ k. refl)
      (λ k. refl)
      (λ k. refl)
      (λ k. refl)
      (λ k. ap (λ t. 110 ∷ 111 ∷ 116 ∷ 32 ∷ t) (sym (append-nil (listedᵇ (at a).boolean))))
      (λ k. refl)
      (λ k. refl)
      (λ k. refl)
      (λ k. refl)
      (λ k. ap (λ t. 118 ∷ (decimal variable ++ (32 ∷ 58 ∷ 61 ∷ 32 ∷ t))) (sym (append-nil (listedᵃ (at a).arithmetic))))
      (λ k. refl)
      (λ k. simp append-nil refl)
      (λ k. simp append-nil refl)
      (λ k. ap (λ t. 116 ∷ 104 ∷ 114 ∷ 111 ∷ 119 ∷ 32 ∷ t) (sym (append-nil (listedᵃ (at a).arithmetic))))
      (λ k. simp append-nil refl)
      (λ k. refl)
      (λ κ z k. absurd (k z))

-- of a node as it was read
pub spelled : (of : ℕ → Condition) (at : ℕ → Read) (level : ℕ) (ν : Node) → (layout ν.kind ≡ 0 → ⊥)
    → text_of (class_digit (layout ν.kind)) level (reading (kind_of ν.kind) of at ν)
    ≡ spell (node_parts (λ level slot x. text_of slot level (at x)) of (all_short at ν) level ν) (spelling ν.kind)
spelled of at level ν k = claims of at level ν.variable ν.value ν.a ν.b ν.c ν.zero ν.high ν.kind k

-- of a condition as it was read
module _ (at : ℕ → Condition) (option left right : ℕ) where
  abbrev r : ℕ → ConditionRecord
  r kind = record { kind = kind; option = option; left = left; right = right }

  conditions : (κ : ℕ) → κ < 6 → listedᶜ (condition_reading (condition_kind κ) at (r κ)) ≡ spell (condition_parts at (r κ)) (condition_spelling κ)
  unfolding opened condition_kind condition_reading condition_spelling condition_spellings condition_layout condition_kinds condition_parts named
  conditions zero h = refl
  conditions (suc zero) h = refl
  conditions (suc (suc zero)) h = ap (λ t. 111 ∷ t) (sym (append-nil (decimal option)))
  conditions (suc (suc (suc zero))) h = ap (λ t. 110 ∷ 111 ∷ 116 ∷ 32 ∷ t) (sym (append-nil (listedᶜ (at left))))
  conditions (suc (suc (suc (suc zero)))) h = refl
  conditions (suc (suc (suc (suc (suc zero))))) h = refl
  conditions (suc (suc (suc (suc (suc (suc κ)))))) h = absurd (omega arith)

pub condition_spelled : (at : ℕ → Condition) (r : ConditionRecord) → r.kind < 6
    → listedᶜ (condition_reading (condition_kind r.kind) at r) ≡ spell (condition_parts at r) (condition_spelling r.kind)
condition_spelled at r h = conditions at r.option r.left r.right r.kind h
