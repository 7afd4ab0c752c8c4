-- A node's records are those of its parts, and its own word behind them: kind by kind.
use mathlib.Core.Path.{◌≡◌, refl, sym, ap}
use Prim.Native.Nat.{ℕ, suc, ◌+◌, ◌-◌, ◌^◌, ◌<◌}
use mathlib.Core.List.{List, ◌∷◌}
use native.Mathlib.Omega.{arith}
use Rattle.imp.proofs.Theorem.Wrap.{low_signed}
use Rattle.image.specs.Layout.{kinds, layout, class_digit}
use Rattle.image.specs.Listing.{sizeᵃ, sizeᵇ, sizeˢ}
use Rattle.image.specs.Term.{node_word}
use Rattle.image.specs.Tree.{kind_of}
use Rattle.image.proofs.Theorem.Kinds.{kind_cases}
use Rattle.written.specs.Count.{sizeᶜ, recordsᵃ, recordsᵇ, recordsˢ}
use Rattle.written.specs.Image.{wordsᶜ, choicesᵃ, choicesᵇ, choicesˢ, nodesᵃ, nodesᵇ, nodesˢ}
use Rattle.reading.specs.Inner.Parts.{Part, slot_of, a_slot, b_slot, c_slot, own_slot, made_of}
use Rattle.reading.specs.Inner.Node.{size_of, records_of, nodes_of, choices_of, name_at, own_word}

-- ---- one, two and three parts, and a choice

abbrev Adds : Type 0
Adds = ℕ → ℕ → List ℕ → List ℕ

module _ (n k : ℕ) (r : List ℕ) where
  one : (fa : Adds) (w : ℕ → ℕ) (sa n₁ : ℕ) → n₁ ≡ n + sa → fa n k (w (n + sa - 1) ∷ r) ≡ fa n k (w (n₁ - 1) ∷ r)
  one fa w sa n₁ e = ap (λ i. fa n k (w (i - 1) ∷ r)) (sym e)

  two : (fa fb : Adds) (w : ℕ → ℕ → ℕ) (sa ra sb n₁ k₁ n₂ : ℕ) → n₁ ≡ n + sa → k₁ ≡ k + ra → n₂ ≡ n₁ + sb
      → fa n k (fb (n + sa) (k + ra) (w (n + sa - 1) (n + sa + sb - 1) ∷ r)) ≡ fa n k (fb n₁ k₁ (w (n₁ - 1) (n₂ - 1) ∷ r))
  two fa fb w sa ra sb n₁ k₁ n₂ e f g =
      let p : n + sa ≡ n₁ = sym e in
      let q : k + ra ≡ k₁ = sym f in
      let s : n + sa + sb ≡ n₂ = omega (arith, e, g) in
      λ i. fa n k (fb (p i) (q i) (w (p i - 1) (s i - 1) ∷ r))

  three : (fa fb fc : Adds) (w : ℕ → ℕ → ℕ → ℕ) (sa ra sb rb sc n₁ k₁ n₂ k₂ n₃ : ℕ) → n₁ ≡ n + sa → k₁ ≡ k + ra → n₂ ≡ n₁ + sb → k₂ ≡ k₁ + rb → n₃ ≡ n₂ + sc
      → fa n k (fb (n + sa) (k + ra) (fc (n + sa + sb) (k + ra + rb) (w (n + sa - 1) (n + sa + sb - 1) (n + sa + sb + sc - 1) ∷ r)))
      ≡ fa n k (fb n₁ k₁ (fc n₂ k₂ (w (n₁ - 1) (n₂ - 1) (n₃ - 1) ∷ r)))
  three fa fb fc w sa ra sb rb sc n₁ k₁ n₂ k₂ n₃ e f g h j =
      let p : n + sa ≡ n₁ = sym e in
      let q : k + ra ≡ k₁ = sym f in
      let s : n + sa + sb ≡ n₂ = omega (arith, e, g) in
      let t : k + ra + rb ≡ k₂ = omega (arith, f, h) in
      let u : n + sa + sb + sc ≡ n₃ = omega (arith, e, g, j) in
      λ i. fa n k (fb (p i) (q i) (fc (s i) (t i) (w (p i - 1) (s i - 1) (u i - 1) ∷ r)))

  chosen : (fb fc : Adds) (w : ℕ → ℕ → ℕ → ℕ) (ra sb rb sc n₁ k₁ n₂ k₂ n₃ : ℕ) → n₁ ≡ n + 0 → k₁ ≡ k + ra → n₂ ≡ n₁ + sb → k₂ ≡ k₁ + rb → n₃ ≡ n₂ + sc
      → fb n (k + ra) (fc (n + sb) (k + ra + rb) (w (k + ra - 1) (n + sb - 1) (n + sb + sc - 1) ∷ r)) ≡ fb n₁ k₁ (fc n₂ k₂ (w (k₁ - 1) (n₂ - 1) (n₃ - 1) ∷ r))
  chosen fb fc w ra sb rb sc n₁ k₁ n₂ k₂ n₃ e f g h j =
      let p : n ≡ n₁ = omega (arith, e) in
      let q : k + ra ≡ k₁ = sym f in
      let s : n + sb ≡ n₂ = omega (arith, e, g) in
      let t : k + ra + rb ≡ k₂ = omega (arith, f, h) in
      let u : n + sb + sc ≡ n₃ = omega (arith, e, g, j) in
      λ i. fb (p i) (q i) (fc (s i) (t i) (w (q i - 1) (s i - 1) (u i - 1) ∷ r))

-- the conditions of two and of three parts
both : (fa fb : ℕ → List ℕ → List ℕ) (k ra k₁ : ℕ) (r : List ℕ) → k₁ ≡ k + ra → fa k (fb (k + ra) r) ≡ fa k (fb k₁ r)
both fa fb k ra k₁ r e = ap (λ i. fa k (fb i r)) (sym e)

all_three : (fa fb fc : ℕ → List ℕ → List ℕ) (k ra rb k₁ k₂ : ℕ) (r : List ℕ) → k₁ ≡ k + ra → k₂ ≡ k₁ + rb → fa k (fb (k + ra) (fc (k + ra + rb) r)) ≡ fa k (fb k₁ (fc k₂ r))
all_three fa fb fc k ra rb k₁ k₂ r e f =
    let p : k + ra ≡ k₁ = sym e in
    let q : k + ra + rb ≡ k₂ = omega (arith, e, f) in
    λ i. fa k (fb (p i) (fc (q i) r))

-- ---- kinds

pub record Builds (kind v : ℕ) (a b c : Part) : Type 0 where
  pub size_is : size_of (own_slot kind) (made_of (kind_of kind) v a b c) ≡ suc (size_of (a_slot kind) a + size_of (b_slot kind) b + size_of (c_slot kind) c)
  pub records_are : records_of (own_slot kind) (made_of (kind_of kind) v a b c) ≡ records_of (a_slot kind) a + records_of (b_slot kind) b + records_of (c_slot kind) c
  pub nodes_are : (n k n₁ k₁ n₂ k₂ n₃ k₃ : ℕ) (r : List ℕ) → n₁ ≡ n + size_of (a_slot kind) a → k₁ ≡ k + records_of (a_slot kind) a → n₂ ≡ n₁ + size_of (b_slot kind) b
      → k₂ ≡ k₁ + records_of (b_slot kind) b → n₃ ≡ n₂ + size_of (c_slot kind) c
      → nodes_of (own_slot kind) (made_of (kind_of kind) v a b c) n k r
      ≡ nodes_of (a_slot kind) a n k (nodes_of (b_slot kind) b n₁ k₁ (nodes_of (c_slot kind) c n₂ k₂
      (own_word kind v (name_at (a_slot kind) n₁ k₁) (name_at (b_slot kind) n₂ k₂) (name_at (c_slot kind) n₃ k₃) ∷ r)))
  pub choices_are : (k k₁ k₂ : ℕ) (r : List ℕ) → k₁ ≡ k + records_of (a_slot kind) a → k₂ ≡ k₁ + records_of (b_slot kind) b
      → choices_of (own_slot kind) (made_of (kind_of kind) v a b c) k r ≡ choices_of (a_slot kind) a k (choices_of (b_slot kind) b k₁ (choices_of (c_slot kind) c k₂ r))

abbrev BuildsAll : ℕ → Type 0
BuildsAll kind = 0 < class_digit (layout kind) → (v : ℕ) (a b c : Part) → v < 2 ^ 32 → Builds kind v a b c

pub builds : (kind : ℕ) → BuildsAll kind
unfolding layout kinds kind_of made_of slot_of own_word sizeᵃ sizeˢ recordsᵃ recordsˢ choicesᵃ choicesˢ nodesᵃ nodesˢ
builds =
    kind_cases BuildsAll
    (λ o v a b c x. record { size_is = refl; records_are = refl; nodes_are = λ n k n₁ k₁ n₂ k₂ n₃ k₃ r e f g h j. ap (λ x. node_word 0 0 x 0 0 0 ∷ r) (low_signed v x); choices_are = λ k k₁ k₂ r e f. refl })
    (λ o v a b c x. record { size_is = refl; records_are = refl; nodes_are = λ n k n₁ k₁ n₂ k₂ n₃ k₃ r e f g h j. refl; choices_are = λ k k₁ k₂ r e f. refl })
    (λ o v a b c x. record { size_is = omega arith; records_are = omega arith; nodes_are = λ n k n₁ k₁ n₂ k₂ n₃ k₃ r e f g h j. two n k r (nodesᵃ a.arithmetic) (nodesᵃ b.arithmetic) (λ i l. node_word 2 0 0 i l 0) (sizeᵃ a.arithmetic) (recordsᵃ a.arithmetic) (sizeᵃ b.arithmetic) n₁ k₁ n₂ e f g; choices_are = λ k k₁ k₂ r e f. both (choicesᵃ a.arithmetic) (choicesᵃ b.arithmetic) k (recordsᵃ a.arithmetic) k₁ r e })
    (λ o v a b c x. record { size_is = omega arith; records_are = omega arith; nodes_are = λ n k n₁ k₁ n₂ k₂ n₃ k₃ r e f g h j. three n k r (nodesᵇ a.boolean) (nodesᵃ b.arithmetic) (nodesᵃ c.arithmetic) (λ i l m. node_word 3 0 0 i l m) (sizeᵇ a.boolean) (recordsᵇ a.boolean) (sizeᵃ b.arithmetic) (recordsᵃ b.arithmetic) (sizeᵃ c.arithmetic) n₁ k₁ n₂ k₂ n₃ e f g h j; choices_are = λ k k₁ k₂ r e f. all_three (choicesᵇ a.boolean) (choicesᵃ b.arithmetic) (choicesᵃ c.arithmetic) k (recordsᵇ a.boolean) (recordsᵃ b.arithmetic) k₁ k₂ r e f })
    (λ o v a b c x. record { size_is = omega arith; records_are = omega arith; nodes_are = λ n k n₁ k₁ n₂ k₂ n₃ k₃ r e f g h j. chosen n k r (nodesᵃ b.arithmetic) (nodesᵃ c.arithmetic) (λ i l m. node_word 4 0 0 i l m) (sizeᶜ a.condition) (sizeᵃ b.arithmetic) (recordsᵃ b.arithmetic) (sizeᵃ c.arithmetic) n₁ k₁ n₂ k₂ n₃ e f g h j; choices_are = λ k k₁ k₂ r e f. all_three (wordsᶜ a.condition) (choicesᵃ b.arithmetic) (choicesᵃ c.arithmetic) k (sizeᶜ a.condition) (recordsᵃ b.arithmetic) k₁ k₂ r e f })
    (λ o v a b c x. record { size_is = refl; records_are = refl; nodes_are = λ n k n₁ k₁ n₂ k₂ n₃ k₃ r e f g h j. refl; choices_are = λ k k₁ k₂ r e f. refl })
    (λ o v a b c x. record { size_is = refl; records_are = refl; nodes_are = λ n k n₁ k₁ n₂ k₂ n₃ k₃ r e f g h j. refl; choices_are = λ k k₁ k₂ r e f. refl })
    (λ o v a b c x. record { size_is = omega arith; records_are = omega arith; nodes_are = λ n k n₁ k₁ n₂ k₂ n₃ k₃ r e f g h j. one n k r (nodesᵇ a.boolean) (λ i. node_word 10 0 0 i 0 0) (sizeᵇ a.boolean) n₁ e; choices_are = λ k k₁ k₂ r e f. refl })
    (λ o v a b c x. record { size_is = omega arith; records_are = omega arith; nodes_are = λ n k n₁ k₁ n₂ k₂ n₃ k₃ r e f g h j. two n k r (nodesᵇ a.boolean) (nodesᵇ b.boolean) (λ i l. node_word 11 0 0 i l 0) (sizeᵇ a.boolean) (recordsᵇ a.boolean) (sizeᵇ b.boolean) n₁ k₁ n₂ e f g; choices_are = λ k k₁ k₂ r e f. both (choicesᵇ a.boolean) (choicesᵇ b.boolean) k (recordsᵇ a.boolean) k₁ r e })
    (λ o v a b c x. record { size_is = omega arith; records_are = omega arith; nodes_are = λ n k n₁ k₁ n₂ k₂ n₃ k₃ r e f g h j. two n k r (nodesᵃ a.arithmetic) (nodesᵃ b.arithmetic) (λ i l. node_word 12 0 0 i l 0) (sizeᵃ a.arithmetic) (recordsᵃ a.arithmetic) (sizeᵃ b.arithmetic) n₁ k₁ n₂ e f g; choices_are = λ k k₁ k₂ r e f. both (choicesᵃ a.arithmetic) (choicesᵃ b.arithmetic) k (recordsᵃ a.arithmetic) k₁ r e })
    (λ o v a b c x. record { size_is = omega arith; records_are = omega arith; nodes_are = λ n k n₁ k₁ n₂ k₂ n₃ k₃ r e f g h j. chosen n k r (nodesᵇ b.boolean) (nodesᵇ c.boolean) (λ i l m. node_word 13 0 0 i l m) (sizeᶜ a.condition) (sizeᵇ b.boolean) (recordsᵇ b.boolean) (sizeᵇ c.boolean) n₁ k₁ n₂ k₂ n₃ e f g h j; choices_are = λ k k₁ k₂ r e f. all_three (wordsᶜ a.condition) (choicesᵇ b.boolean) (choicesᵇ c.boolean) k (sizeᶜ a.condition) (recordsᵇ b.boolean) k₁ k₂ r e f })
    (λ o v a b c x. record { size_is = refl; records_are = refl; nodes_are = λ n k n₁ k₁ n₂ k₂ n₃ k₃ r e f g h j. refl; choices_are = λ k k₁ k₂ r e f. refl })
    (λ o v a b c x. record { size_is = omega arith; records_are = omega arith; nodes_are = λ n k n₁ k₁ n₂ k₂ n₃ k₃ r e f g h j. one n k r (nodesᵃ a.arithmetic) (λ i. node_word 17 v 0 i 0 0) (sizeᵃ a.arithmetic) n₁ e; choices_are = λ k k₁ k₂ r e f. refl })
    (λ o v a b c x. record { size_is = omega arith; records_are = omega arith; nodes_are = λ n k n₁ k₁ n₂ k₂ n₃ k₃ r e f g h j. two n k r (nodesˢ a.statement) (nodesˢ b.statement) (λ i l. node_word 18 0 0 i l 0) (sizeˢ a.statement) (recordsˢ a.statement) (sizeˢ b.statement) n₁ k₁ n₂ e f g; choices_are = λ k k₁ k₂ r e f. both (choicesˢ a.statement) (choicesˢ b.statement) k (recordsˢ a.statement) k₁ r e })
    (λ o v a b c x. record { size_is = omega arith; records_are = omega arith; nodes_are = λ n k n₁ k₁ n₂ k₂ n₃ k₃ r e f g h j. three n k r (nodesᵇ a.boolean) (nodesˢ b.statement) (nodesˢ c.statement) (λ i l m. node_word 19 0 0 i l m) (sizeᵇ a.boolean) (recordsᵇ a.boolean) (sizeˢ b.statement) (recordsˢ b.statement) (sizeˢ c.statement) n₁ k₁ n₂ k₂ n₃ e f g h j; choices_are = λ k k₁ k₂ r e f. all_three (choicesᵇ a.boolean) (choicesˢ b.statement) (choicesˢ c.statement) k (recordsᵇ a.boolean) (recordsˢ b.statement) k₁ k₂ r e f })
    (λ o v a b c x. record { size_is = omega arith; records_are = omega arith; nodes_are = λ n k n₁ k₁ n₂ k₂ n₃ k₃ r e f g h j. two n k r (nodesᵇ a.boolean) (nodesˢ b.statement) (λ i l. node_word 20 0 0 i l 0) (sizeᵇ a.boolean) (recordsᵇ a.boolean) (sizeˢ b.statement) n₁ k₁ n₂ e f g; choices_are = λ k k₁ k₂ r e f. both (choicesᵇ a.boolean) (choicesˢ b.statement) k (recordsᵇ a.boolean) k₁ r e })
    (λ o v a b c x. record { size_is = omega arith; records_are = omega arith; nodes_are = λ n k n₁ k₁ n₂ k₂ n₃ k₃ r e f g h j. one n k r (nodesᵃ a.arithmetic) (λ i. node_word 21 0 0 i 0 0) (sizeᵃ a.arithmetic) n₁ e; choices_are = λ k k₁ k₂ r e f. refl })
    (λ o v a b c x. record { size_is = omega arith; records_are = omega arith; nodes_are = λ n k n₁ k₁ n₂ k₂ n₃ k₃ r e f g h j. two n k r (nodesˢ a.statement) (nodesˢ b.statement) (λ i l. node_word 22 v 0 i l 0) (sizeˢ a.statement) (recordsˢ a.statement) (sizeˢ b.statement) n₁ k₁ n₂ e f g; choices_are = λ k k₁ k₂ r e f. both (choicesˢ a.statement) (choicesˢ b.statement) k (recordsˢ a.statement) k₁ r e })
    (λ o v a b c x. record { size_is = omega arith; records_are = omega arith; nodes_are = λ n k n₁ k₁ n₂ k₂ n₃ k₃ r e f g h j. chosen n k r (nodesˢ b.statement) (nodesˢ c.statement) (λ i l m. node_word 23 0 0 i l m) (sizeᶜ a.condition) (sizeˢ b.statement) (recordsˢ b.statement) (sizeˢ c.statement) n₁ k₁ n₂ k₂ n₃ e f g h j; choices_are = λ k k₁ k₂ r e f. all_three (wordsᶜ a.condition) (choicesˢ b.statement) (choicesˢ c.statement) k (sizeᶜ a.condition) (recordsˢ b.statement) k₁ k₂ r e f })
    (λ k e o. absurd (omega (arith, o, ap class_digit e)))
