-- What a node that test 6 passes holds; above all, "a node [names] only nodes with lower numbers".
use Rattle.std.specs.Prelude.{◌≡◌, refl, Bool, true, false, ◌&&◌, not, ℕ, ◌≤◌, ◌<◌, eqb}
use Rattle.std.proofs.lemmas.Bool.{false≢true}
use Rattle.std.proofs.Common.{arith, ltb-true, eqb-true, ne_eqb}
use Rattle.image.specs.declared.records.Node.{Node}
use Rattle.image.specs.Layout.{kinds, layout, variable_digit, a_digit, b_digit, c_digit, names_node, field_fits}
use Rattle.image.specs.Rows.{slot_fits, node_fits}
use Rattle.image.specs.Inner.Lower.{Lower}

-- both halves of a test that holds
pub both : (a b : Bool) → (a && b) ≡ true → (a ≡ true) × (b ≡ true)
both true b e = (refl, e)
both false b e = absurd (false≢true e)

-- a field that is used is below its bound
pub field_below : (digit value bound : ℕ) → field_fits digit value bound ≡ true → 0 < digit → value < bound
unfolding field_fits
field_below digit value bound fits used = ltb-true value bound (rw (ne_eqb digit 0 (λ e. omega arith)) at fits)

named_used : (slot : ℕ) → names_node slot ≡ true → 0 < slot
unfolding names_node
named_used slot names = ltb-true 0 slot (both _ _ names).0

slot_lower : (conditions n slot value : ℕ) → slot_fits conditions n slot value ≡ true → names_node slot ≡ true → value < n
unfolding slot_fits
slot_lower conditions n slot value fits names = field_below slot value n (rw names at fits) (named_used slot names)

-- what test 6 asks of a node that is no number
pub record Fitted (conditions n : ℕ) (ν : Node) : Type 0 where
  pub known : not (eqb (layout ν.kind) 0) ≡ true
  pub no_rest : eqb ν.zero 0 ≡ true
  pub variable_fits : field_fits (variable_digit (layout ν.kind)) ν.variable 16 ≡ true
  pub a_fits : slot_fits conditions n (a_digit (layout ν.kind)) ν.a ≡ true
  pub b_fits : slot_fits conditions n (b_digit (layout ν.kind)) ν.b ≡ true
  pub c_fits : slot_fits conditions n (c_digit (layout ν.kind)) ν.c ≡ true

pub fitted : (conditions n : ℕ) (ν : Node) → node_fits conditions n ν ≡ true → eqb ν.kind 0 ≡ false → Fitted conditions n ν
unfolding node_fits
fitted conditions n ν fits other =
    let digits : ℕ = layout ν.kind in
    let c : Bool = slot_fits conditions n (c_digit digits) ν.c in
    let b : Bool = slot_fits conditions n (b_digit digits) ν.b in
    let a : Bool = slot_fits conditions n (a_digit digits) ν.a in
    let variable : Bool = field_fits (variable_digit digits) ν.variable 16 in
    let all = both (not (eqb digits 0)) (eqb ν.zero 0 && (variable && (a && (b && c)))) (rw other at fits) in
    let fields = both (eqb ν.zero 0) (variable && (a && (b && c))) all.1 in
    let slots = both variable (a && (b && c)) fields.1 in
    let later = both a (b && c) slots.1 in
    let last = both b c later.1 in
    record { known = all.0; no_rest = fields.0; variable_fits = slots.0; a_fits = later.0; b_fits = last.0; c_fits = last.1 }

pub lower_more : {m n : ℕ} {ν : Node} → m ≤ n → Lower m ν → Lower n ν
lower_more h low =
    record {
      a_lower = λ names. omega (arith, low.a_lower names);
      b_lower = λ names. omega (arith, low.b_lower names);
      c_lower = λ names. omega (arith, low.c_lower names);
    }

pub lower : (conditions n : ℕ) (ν : Node) → node_fits conditions n ν ≡ true → Lower n ν
unfolding layout kinds names_node
lower conditions n ν fits = go (eqb ν.kind 0) refl
  where
    go : (b : Bool) → eqb ν.kind 0 ≡ b → Lower n ν
    -- a number node names none
    go true number =
        let zero : ν.kind ≡ 0 = eqb-true ν.kind 0 number in
        record {
          a_lower = λ names. absurd (false≢true (rw zero at names));
          b_lower = λ names. absurd (false≢true (rw zero at names));
          c_lower = λ names. absurd (false≢true (rw zero at names));
        }
    go false other =
        let fit : Fitted conditions n ν = fitted conditions n ν fits other in
        let digits : ℕ = layout ν.kind in
        record {
          a_lower = slot_lower conditions n (a_digit digits) ν.a fit.a_fits;
          b_lower = slot_lower conditions n (b_digit digits) ν.b fit.b_fits;
          c_lower = slot_lower conditions n (c_digit digits) ν.c fit.c_fits;
        }
