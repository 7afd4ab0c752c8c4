-- A choice of an accepted image: its condition is there, its parts are lower nodes, and the condition's set says which part is chosen.
use Rattle.std.specs.Prelude.{◌≡◌, Bool, true, false, cond, List, ℕ, ◌<◌, eqb, get_or}
use Rattle.std.proofs.Math.Path.{refl}
use Rattle.std.proofs.Common.{sym, ◌∙◌, ap, arith, eqb-true, lt-ltb}
use Rattle.std.proofs.lemmas.Bool.{false≢true}
use Rattle.sets.specs.Member.{bit}
use Rattle.imp.specs.Condition.{holds}
use Rattle.image.specs.Records.{header, node}
use Rattle.image.specs.Layout.{kinds, layout, a_digit, b_digit, c_digit, names_node, is_choice}
use Rattle.image.specs.Tree.{condition}
use Rattle.image.specs.Sets.{settings, in_condition}
use Rattle.image.specs.Accepted.{Accepted}
use Rattle.image.proofs.Theorem.Lower.{lower}
use Rattle.image.proofs.Theorem.Held.{condition_a}
use Rattle.image.specs.Inner.Ready.{Ready}
use Rattle.image.proofs.Theorem.Kinds.{kind_cases}

-- the parts of a choice are nodes
pub choice_parts : (k : ℕ) → is_choice k ≡ true → (names_node (b_digit (layout k)) ≡ true) × (names_node (c_digit (layout k)) ≡ true)
unfolding is_choice layout kinds names_node
choice_parts = kind_cases (λ k. is_choice k ≡ true → (names_node (b_digit (layout k)) ≡ true) × (names_node (c_digit (layout k)) ≡ true))
    (λ h. absurd (false≢true h)) (λ h. absurd (false≢true h)) (λ h. absurd (false≢true h)) (λ h. absurd (false≢true h)) (λ h. (refl, refl))
    (λ h. absurd (false≢true h)) (λ h. absurd (false≢true h)) (λ h. absurd (false≢true h)) (λ h. absurd (false≢true h)) (λ h. absurd (false≢true h)) (λ h. (refl, refl))
    (λ h. absurd (false≢true h)) (λ h. absurd (false≢true h)) (λ h. absurd (false≢true h)) (λ h. absurd (false≢true h)) (λ h. absurd (false≢true h))
    (λ h. absurd (false≢true h)) (λ h. absurd (false≢true h)) (λ h. (refl, refl)) (λ k z h. absurd (false≢true (rw z at h)))

-- a number node is no choice
no_number : (k : ℕ) → is_choice k ≡ true → eqb k 0 ≡ false
unfolding is_choice layout kinds
no_number k c = go (eqb k 0) refl
  where
    go : (u : Bool) → eqb k 0 ≡ u → eqb k 0 ≡ false
    go true e = absurd (false≢true (ap (λ k. eqb (a_digit (layout k)) 4) (sym (eqb-true k 0 e)) ∙ c))
    go false e = e

module _ (l : List ℕ) (acc : Accepted l) (n : ℕ) (h : n < (header l).nodes) (c : is_choice (node l n).kind ≡ true) where
  pub choice_condition : (node l n).a < (header l).conditions
  unfolding is_choice
  choice_condition = condition_a l (header l).conditions n (acc.nodes_fit n h) (acc.nodes_classed n h) (node l n).kind refl
      (no_number (node l n).kind c) (eqb-true (a_digit (layout (node l n).kind)) 4 c)

  pub choice_b : (node l n).b < n
  choice_b = (lower (header l).conditions n (node l n) (acc.nodes_fit n h)).b_lower (choice_parts (node l n).kind c).0

  pub choice_c : (node l n).c < n
  choice_c = (lower (header l).conditions n (node l n) (acc.nodes_fit n h)).c_lower (choice_parts (node l n).kind c).1

-- in a setting of the image a condition's set says whether it holds
pub chosen_is : (l : List ℕ) (conditions : ℕ) (sets : List ℕ) (s a : ℕ) → Ready l conditions sets s → a < (header l).conditions
    → bit (get_or sets a 0) s ≡ holds (condition l a) s
unfolding in_condition
chosen_is l conditions sets s a r h = r.sets_right.right a (omega (arith, r.conditions_are)) s ∙ rw (lt-ltb s (settings l) r.setting_below)

-- the side that a choice takes in a setting is lower, and is the one that its condition says
pub chosen_lower : (u : Bool) (b c n : ℕ) → b < n → c < n → cond u b c < n
chosen_lower true b c n hb hc = hb
chosen_lower false b c n hb hc = hc
