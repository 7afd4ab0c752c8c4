-- Whether a statement is short, by its kind and that of the node in its field a.
use Rattle.std.specs.Prelude.{◌≡◌, ◌⊎◌, ℕ, ◌<◌, true, false, ltb}
use Rattle.std.proofs.Math.Path.{refl, ap}
use Rattle.std.proofs.Common.{arith, inl, inr}
use Rattle.image.specs.Bytes.{Bytes}
use Rattle.image.specs.Records.{header, node}
use Rattle.image.specs.Layout.{kinds, layout, class_digit, names_node}
use Rattle.image.specs.Rows.{class}
use Rattle.image.specs.Accepted.{Accepted}
use Rattle.image.specs.Tree.{condition, kind_of, reading, read_below, read}
use Rattle.image.proofs.Theorem.Kinds.{kind_cases}
use Rattle.image.proofs.Theorem.Held.{Child, child_a}
use Rattle.image.proofs.Theorem.Reading.{skip_at, assign_at, throw_at}
use Rattle.written.specs.Lister.{shortᵃ, short}

-- a number or a variable is of a kind below 2
module _ (l : Bytes) (n : ℕ) where
  abbrev Part : ℕ → Type 0
  Part κ = class_digit (layout κ) ≡ 1 → shortᵃ (reading (kind_of κ) (condition l) (read_below l n) (node l n)).arithmetic ≡ ltb κ 2

  part : (κ : ℕ) → Part κ
  unfolding layout kinds kind_of reading shortᵃ
  part = kind_cases Part (λ c. refl) (λ c. refl) (λ c. refl) (λ c. refl) (λ c. refl) (λ c. absurd (omega arith)) (λ c. absurd (omega arith))
      (λ c. absurd (omega arith)) (λ c. absurd (omega arith)) (λ c. absurd (omega arith)) (λ c. absurd (omega arith)) (λ c. absurd (omega arith))
      (λ c. absurd (omega arith)) (λ c. absurd (omega arith)) (λ c. absurd (omega arith)) (λ c. absurd (omega arith)) (λ c. absurd (omega arith))
      (λ c. absurd (omega arith)) (λ c. absurd (omega arith)) (λ κ z c. absurd (omega (arith, z)))

  pub short_part : class l n ≡ 1 → shortᵃ (read l n).arithmetic ≡ ltb (node l n).kind 2
  unfolding class read
  short_part c = part (node l n).kind c

  -- of the other statements none is short
  abbrev Other : ℕ → Type 0
  Other κ = class_digit (layout κ) ≡ 3 → (κ ≡ 16 → ⊥) → (κ ≡ 17 → ⊥) → (κ ≡ 21 → ⊥)
      → short (reading (kind_of κ) (condition l) (read_below l n) (node l n)).statement ≡ false

  other : (κ : ℕ) → Other κ
  unfolding layout kinds kind_of reading short
  other = kind_cases Other
      (λ c s a t. absurd (omega arith)) (λ c s a t. absurd (omega arith)) (λ c s a t. absurd (omega arith)) (λ c s a t. absurd (omega arith))
      (λ c s a t. absurd (omega arith)) (λ c s a t. absurd (omega arith)) (λ c s a t. absurd (omega arith)) (λ c s a t. absurd (omega arith))
      (λ c s a t. absurd (omega arith)) (λ c s a t. absurd (omega arith)) (λ c s a t. absurd (omega arith))
      (λ c s a t. absurd (s refl)) (λ c s a t. absurd (a refl)) (λ c s a t. refl) (λ c s a t. refl) (λ c s a t. refl)
      (λ c s a t. absurd (t refl)) (λ c s a t. refl) (λ c s a t. refl) (λ κ z c s a t. absurd (omega (arith, z)))

  pub long : class l n ≡ 3 → ((node l n).kind ≡ 16 → ⊥) → ((node l n).kind ≡ 17 → ⊥) → ((node l n).kind ≡ 21 → ⊥) → short (read l n).statement ≡ false
  unfolding class read
  long c s a t = other (node l n).kind c s a t

  pub skip_short : (node l n).kind ≡ 16 → short (read l n).statement ≡ true
  unfolding short
  skip_short e = ap short (skip_at l n e)

module _ (l : Bytes) (acc : Accepted l) (n : ℕ) (h : n < (header l).nodes) where
  abbrev a : ℕ
  a = (node l n).a

  -- an assignment and a throw are as short as what they hold
  pub assign_child : (node l n).kind ≡ 17 → Child l n 1 a
  unfolding layout kinds names_node
  assign_child e = child_a l (header l).conditions n (acc.nodes_fit n h) (acc.nodes_classed n h) 17 e refl

  pub throw_child : (node l n).kind ≡ 21 → Child l n 1 a
  unfolding layout kinds names_node
  throw_child e = child_a l (header l).conditions n (acc.nodes_fit n h) (acc.nodes_classed n h) 21 e refl

  pub held : ((node l n).kind ≡ 17) ⊎ ((node l n).kind ≡ 21) → Child l n 1 a
  held (inl e) = assign_child e
  held (inr e) = throw_child e

  pub assign_short : (node l n).kind ≡ 17 → short (read l n).statement ≡ shortᵃ (read l a).arithmetic
  unfolding short
  assign_short e = ap short (assign_at l n e (assign_child e).is_lower)

  pub throw_short : (node l n).kind ≡ 21 → short (read l n).statement ≡ shortᵃ (read l a).arithmetic
  unfolding short
  throw_short e = ap short (throw_at l n e (throw_child e).is_lower)

  pub held_short : ((node l n).kind ≡ 17) ⊎ ((node l n).kind ≡ 21) → short (read l n).statement ≡ shortᵃ (read l a).arithmetic
  held_short (inl e) = assign_short e
  held_short (inr e) = throw_short e
