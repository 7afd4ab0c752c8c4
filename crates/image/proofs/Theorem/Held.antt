-- What a node that passes tests 6 and 7 holds, once its kind is known: each child is lower and of its field's class, each condition below C, each
-- variable below 16.
use Rattle.std.specs.Prelude.{◌≡◌, Bool, true, false, ◌&&◌, cond, ℕ, suc, ◌<◌, List, eqb}
use Rattle.std.proofs.Common.{◌∙◌, ap}
use borrow.Author.Tests.{ltb-true, eqb-true, eq-eqb}
use Rattle.image.specs.Records.{header, node}
use Rattle.image.specs.Layout.{layout, variable_digit, a_digit, b_digit, c_digit, names_node, field_fits}
use Rattle.image.specs.Rows.{node_fits, slot_fits, class, slot_classed, classed}
use Rattle.image.proofs.Theorem.Lower.{both, Fitted, fitted, lower}
use Rattle.image.specs.Inner.Lower.{Lower}

-- a child: lower than its parent, and of the class that the field has
pub record Child (l : List ℕ) (n slot value : ℕ) : Type 0 where
  pub is_lower : value < n
  pub is_class : class l value ≡ slot

slot_class : (l : List ℕ) (slot value : ℕ) → slot_classed l slot value ≡ true → names_node slot ≡ true → class l value ≡ slot
unfolding slot_classed
slot_class l slot value h names = eqb-true (class l value) slot (rw names at h)

module _ (l : List ℕ) (C n : ℕ) (fits : node_fits C n (node l n) ≡ true) (cls : classed l n ≡ true) where
  abbrev digits : ℕ
  digits = layout (node l n).kind

  abbrev a_good : Bool
  a_good = slot_classed l (a_digit digits) (node l n).a

  abbrev b_good : Bool
  b_good = slot_classed l (b_digit digits) (node l n).b

  abbrev c_good : Bool
  c_good = slot_classed l (c_digit digits) (node l n).c

  abbrev root_good : Bool
  root_good = cond (eqb (suc n) (header l).nodes) (eqb (class l n) 3) true

  passed : (a_good && (b_good && c_good) ≡ true) × (root_good ≡ true)
  unfolding classed
  passed = both (a_good && (b_good && c_good)) root_good cls

  pub root_class : suc n ≡ (header l).nodes → class l n ≡ 3
  root_class e = eqb-true (class l n) 3 (rw (eq-eqb (suc n) (header l).nodes e) at passed.1)

  children : (a_good ≡ true) × (b_good ≡ true) × (c_good ≡ true)
  children =
      let later = both a_good (b_good && c_good) passed.0 in
      let last = both b_good c_good later.1 in
      (later.0, last.0, last.1)

  low : Lower n (node l n)
  low = lower C n (node l n) fits

  pub child_a : (k : ℕ) → (node l n).kind ≡ k → names_node (a_digit (layout k)) ≡ true → Child l n (a_digit (layout k)) (node l n).a
  child_a k e names =
      let names' : names_node (a_digit digits) ≡ true = rw e names in
      record { is_lower = low.a_lower names'; is_class = rw e at (slot_class l (a_digit digits) (node l n).a children.0 names') }

  pub child_b : (k : ℕ) → (node l n).kind ≡ k → names_node (b_digit (layout k)) ≡ true → Child l n (b_digit (layout k)) (node l n).b
  child_b k e names =
      let names' : names_node (b_digit digits) ≡ true = rw e names in
      record { is_lower = low.b_lower names'; is_class = rw e at (slot_class l (b_digit digits) (node l n).b children.1 names') }

  pub child_c : (k : ℕ) → (node l n).kind ≡ k → names_node (c_digit (layout k)) ≡ true → Child l n (c_digit (layout k)) (node l n).c
  child_c k e names =
      let names' : names_node (c_digit digits) ≡ true = rw e names in
      record { is_lower = low.c_lower names'; is_class = rw e at (slot_class l (c_digit digits) (node l n).c children.2 names') }

  -- a choice's condition
  pub condition_a : (k : ℕ) → (node l n).kind ≡ k → eqb k 0 ≡ false → a_digit (layout k) ≡ 4 → (node l n).a < C
  unfolding slot_fits field_fits names_node
  condition_a k e nk slot =
      let f : Fitted C n (node l n) = fitted C n (node l n) fits (rw e nk) in
      ltb-true (node l n).a C (rw (ap (λ k. a_digit (layout k)) e ∙ slot) at f.a_fits)

  -- a variable
  pub variable_below : (k : ℕ) → (node l n).kind ≡ k → eqb k 0 ≡ false → variable_digit (layout k) ≡ 1 → (node l n).variable < 16
  unfolding field_fits
  variable_below k e nk digit =
      let f : Fitted C n (node l n) = fitted C n (node l n) fits (rw e nk) in
      ltb-true (node l n).variable 16 (rw (ap (λ k. variable_digit (layout k)) e ∙ digit) at f.variable_fits)
