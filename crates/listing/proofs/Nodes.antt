-- A sign of a node: what it stands for.
use mathlib.Core.Path.{◌≡◌, refl, sym, ap, subst, ◌∙◌}
use mathlib.Core.Bool.{Bool, true, cond}
use mathlib.Core.List.{[]}
use Prim.Native.Nat.{ℕ, suc, ◌+◌, ◌*◌, ◌≤◌, ◌<◌}
use native.Mathlib.Omega.{arith}
use lib.Dec.{eqb}
use lib.ListN.{length, get_or, take}
use Rattle.std.proofs.lemmas.List.{get_or_default}
use borrow.Author.Tests.{eqb-true, ne_eqb}
use Rattle.imp.specs.Numbers.{signed32}
use Rattle.image.specs.declared.records.Node.{Node}
use Rattle.image.specs.Bytes.{Bytes}
use Rattle.image.specs.Records.{header, node}
use Rattle.image.specs.Layout.{layout, a_digit, b_digit, c_digit, names_node, is_choice}
use Rattle.image.specs.Tree.{read}
use Rattle.image.specs.Inner.Lower.{Lower}
use Rattle.image.proofs.Theorem.Lower.{lower}
use Rattle.image.proofs.Theorem.Choosing.{choice_condition}
use Rattle.image.proofs.Theorem.Listed.{by_test}
use Rattle.text.specs.Inner.Puts.{Puts}
use Rattle.listing.specs.Inner.Spelling.{spelling, DOT, plainly, stands, spell}
use Rattle.listing.specs.Inner.Texts.{node_text, all_short, field_text, node_parts, parts_at, condition_text}
use Rattle.listing.specs.Inner.Listing.{asks, reach, Listing, Signing, ConditionListing}
use Rattle.listing.proofs.Signs.{room}
use Rattle.listing.proofs.Theorem.Signs.{asked}
use Rattle.listing.proofs.Theorem.Image.{known, node_spelled}

-- ---- the nodes that a sign asks for

module _ (n : ℕ) (ν : Node) (low : Lower n ν) (sign : ℕ) (asks-it : asks ν.kind sign ≡ true) where
  asks_at : {key : ℕ} → sign ≡ key → asks ν.kind key ≡ true
  asks_at e = subst (λ s. asks ν.kind s ≡ true) e asks-it

  a_lower : sign ≡ 65 → ν.a < n
  unfolding asks
  a_lower e = low.a_lower (asks_at e)

  b_lower : sign ≡ 66 → ν.b < n
  unfolding asks
  b_lower e = low.b_lower (asks_at e)

  c_lower : sign ≡ 67 → ν.c < n
  unfolding asks
  c_lower e = low.c_lower (asks_at e)

  x_lower : sign ≡ 88 → ν.a < n
  unfolding asks
  x_lower e = low.a_lower (asks_at e)

  y_lower : sign ≡ 89 → ν.b < n
  unfolding asks
  y_lower e = low.b_lower (asks_at e)

  -- one test after the other
  tested : (key x : ℕ) {other : ℕ} → (sign ≡ key → x < n) → other < 2 * n + 2 → cond (eqb sign key) (2 * x + 3) other < 2 * n + 2
  tested key x {other} h rest = by_test (eqb sign key) (λ u. cond u (2 * x + 3) other < 2 * n + 2) (λ t. omega (arith, h (eqb-true sign key t))) (λ f. rest)

  reach_low : reach ν sign < 2 * n + 2
  unfolding reach
  reach_low = tested 65 ν.a a_lower (tested 66 ν.b b_lower (tested 67 ν.c c_lower (tested 88 ν.a x_lower (tested 89 ν.b y_lower (omega arith)))))

-- ---- a sign that stands for node x at a level

pub record Stands (l : Bytes) (ν : Node) (level n sign x level' : ℕ) : Type 0 where
  pub text_is : stands (parts_at l level ν) sign ≡ node_text l level' x
  pub is_lower : x < n
  pub reach_is : reach ν sign ≡ 2 * x + 3

module _ {l : Bytes} {ν : Node} {flat : Bool} {level sign at space : ℕ} (pre : Signing l ν flat level sign at space) where
  low : Lower pre.n ν
  low = subst (Lower pre.n) (sym pre.is_node) (lower (header l).conditions pre.n (node l pre.n) (pre.accepted.nodes_fit pre.n pre.node_below))

  asks_here : {key : ℕ} → sign ≡ key → asks ν.kind key ≡ true
  asks_here = asks_at pre.n ν low sign pre.asked

  -- the text in a field that names a node
  in_field : (level' level'' slot value : ℕ) → level'' ≡ level' → names_node slot ≡ true → field_text (λ slot. node_text l level') slot value ≡ node_text l level'' value
  unfolding field_text
  in_field level' level'' slot value e names = ap (λ u. cond u (node_text l level' value) []) names ∙ ap (λ d. node_text l d value) (sym e)

  pub a_stands : sign ≡ 65 → Stands l ν level pre.n sign ν.a (level + 1)
  unfolding stands parts_at node_parts reach asks
  a_stands e = record {
    text_is = ap (stands (parts_at l level ν)) e ∙ in_field (suc level) (level + 1) (a_digit (layout ν.kind)) ν.a (omega arith) (asks_here e);
    is_lower = low.a_lower (asks_here e);
    reach_is = ap (reach ν) e;
  }

  pub b_stands : sign ≡ 66 → Stands l ν level pre.n sign ν.b (level + 1)
  unfolding stands parts_at node_parts reach asks
  b_stands e = record {
    text_is = ap (stands (parts_at l level ν)) e ∙ in_field (suc level) (level + 1) (b_digit (layout ν.kind)) ν.b (omega arith) (asks_here e);
    is_lower = low.b_lower (asks_here e);
    reach_is = ap (reach ν) e;
  }

  pub c_stands : sign ≡ 67 → Stands l ν level pre.n sign ν.c (level + 1)
  unfolding stands parts_at node_parts reach asks
  c_stands e = record {
    text_is = ap (stands (parts_at l level ν)) e ∙ in_field (suc level) (level + 1) (c_digit (layout ν.kind)) ν.c (omega arith) (asks_here e);
    is_lower = low.c_lower (asks_here e);
    reach_is = ap (reach ν) e;
  }

  pub x_stands : sign ≡ 88 → Stands l ν level pre.n sign ν.a level
  unfolding stands parts_at node_parts reach asks
  x_stands e = record {
    text_is = ap (stands (parts_at l level ν)) e ∙ in_field level level (a_digit (layout ν.kind)) ν.a refl (asks_here e);
    is_lower = low.a_lower (asks_here e);
    reach_is = ap (reach ν) e;
  }

  pub y_stands : sign ≡ 89 → Stands l ν level pre.n sign ν.b level
  unfolding stands parts_at node_parts reach asks
  y_stands e = record {
    text_is = ap (stands (parts_at l level ν)) e ∙ in_field level level (b_digit (layout ν.kind)) ν.b refl (asks_here e);
    is_lower = low.b_lower (asks_here e);
    reach_is = ap (reach ν) e;
  }

  -- that node may be listed in its place
  pub listing : {x level' : ℕ} → level' ≤ level + 1 → Stands l ν level pre.n sign x level' → Listing l x level' at space
  listing h s = record {
    accepted = pre.accepted;
    node_below = omega (arith, s.is_lower, pre.node_below);
    level_few = omega (arith, s.is_lower, pre.level_few);
    fits = omega (arith, pre.fits, ap length s.text_is);
  }

  -- the sign of a choice's condition
  pub k_text : sign ≡ 75 → stands (parts_at l level ν) sign ≡ condition_text l ν.a
  unfolding stands parts_at node_parts condition_text
  k_text e = ap (stands (parts_at l level ν)) e

  pub k_listing : sign ≡ 75 → ConditionListing l ν.a at space
  unfolding asks
  k_listing e =
      let chooses : is_choice (node l pre.n).kind ≡ true = subst (λ (μ : Node). is_choice μ.kind ≡ true) pre.is_node (asks_here e) in
      record {
        accepted = pre.accepted;
        condition_below = subst (λ (μ : Node). μ.a < (header l).conditions) (sym pre.is_node) (choice_condition l pre.accepted pre.n pre.node_below chooses);
        fits = omega (arith, pre.fits, ap length (k_text e));
      }

  -- any other sign
  pub otherwise : (sign ≡ 65 → ⊥) → (sign ≡ 66 → ⊥) → (sign ≡ 67 → ⊥) → (sign ≡ 88 → ⊥) → (sign ≡ 89 → ⊥) → (sign ≡ 75 → ⊥)
      → stands (parts_at l level ν) sign ≡ plainly ν.variable (signed32 ν.value) flat level sign
  unfolding stands parts_at node_parts
  otherwise a b c x y k =
      rw (ne_eqb sign 65 a, ne_eqb sign 66 b, ne_eqb sign 67 c, ne_eqb sign 88 x, ne_eqb sign 89 y, ne_eqb sign 75 k)
      (ap (λ u. plainly ν.variable (signed32 ν.value) u level sign) (sym pre.flat_is))

-- ---- a node as it was read

module _ {l signs : Bytes} {n level at space : ℕ} {ν : Node} (pre : Listing l n level at space)
    (is : ν ≡ node l n) (are : signs ≡ spelling ν.kind) where
  pub spelled : spell (parts_at l level ν) signs ≡ node_text l level n
  spelled = rw (are, is) (sym (node_spelled l pre.accepted n pre.node_below level))

  asked_here : (i : ℕ) → i < length signs → asks ν.kind (get_or signs i 0) ≡ true
  asked_here i h =
      ap (asks ν.kind) (sym (get_or_default signs i DOT 0 h))
      ∙ rw (are, is) (asked (node l n).kind (known (header l).conditions n (node l n) (pre.accepted.nodes_fit n pre.node_below)) i)

  pub falls : (i : ℕ) → i < length signs → reach ν (get_or signs i 0) < 2 * n + 2
  falls i h =
      reach_low n ν (subst (Lower n) (sym is) (lower (header l).conditions n (node l n) (pre.accepted.nodes_fit n pre.node_below))) (get_or signs i 0) (asked_here i h)

  -- the sign that comes next may be put
  pub signing : (i : ℕ) {flat : Bool} {end : ℕ} {out out' : Bytes} → i < length signs → flat ≡ all_short (read l) ν → length out' ≡ space
      → Puts (spell (parts_at l level ν) (take i signs)) at out out' end → Signing l ν flat level (get_or signs i 0) end (length out')
  signing i h f long put = record {
    accepted = pre.accepted;
    n = n;
    is_node = is;
    node_below = pre.node_below;
    flat_is = f;
    level_few = pre.level_few;
    asked = asked_here i h;
    fits = room (parts_at l level ν) signs i h put (omega (arith, pre.fits, long, ap length spelled));
  }
