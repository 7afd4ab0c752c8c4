-- The routine that an image holds is valid: its numbers are of 32 bits, its variables below 16. What stands in for a node of another class is valid too.
use Rattle.std.specs.Prelude.{◌≡◌, refl, Bool, cond, List, eqb, ltb, pos}
use Prim.Native.Nat.{ℕ, zero, suc, ◌+◌, ◌*◌, ◌^◌, ◌≤◌, ◌<◌}
use Rattle.std.proofs.Math.Bool.{true, false}
use Rattle.std.proofs.Common.{arith, ltb-true, eqb-true, SFits}
use Rattle.std.specs.Int.{w32}
use Rattle.std.proofs.Math.Facts.{sfits_to_z}
use Rattle.imp.specs.State.{branch}
use Rattle.imp.specs.Condition.{Condition}
use Rattle.imp.specs.Numbers.{signed32}
use Rattle.imp.specs.Routine.{Arithmetic, Boolean, Statement, skip}
use Rattle.imp.specs.Valid.{Validᵃ, Validᵇ, Valid}
use Rattle.imp.proofs.Theorem.Wrap.{signed_is}
use Rattle.image.specs.declared.records.Node.{Node}
use Rattle.image.specs.Bytes.{number_at}
use Rattle.image.specs.Records.{header, nodes_from, node, node_fields}
use Rattle.image.specs.Layout.{layout, variable_digit, field_fits}
use Rattle.image.specs.Rows.{node_fits}
use Rattle.image.specs.Tree.{Kind, k_number, k_variable, k_sum, k_pick, k_choiceᵃ, k_falseᵇ, k_trueᵇ, k_notᵇ, k_andᵇ, k_less, k_choiceᵇ, k_skip, k_assign, k_sequence, k_if, k_while, k_throw, k_try, k_choice, k_other, kind_of, condition, Read, an_arithmetic, a_boolean, a_statement, reading, read_below, read}
use Rattle.image.proofs.Theorem.Lower.{Fitted, fitted}

pub record ValidRead (r : Read) : Type 0 where
  pub arithmetic_valid : Validᵃ r.arithmetic
  pub boolean_valid : Validᵇ r.boolean
  pub statement_valid : Valid r.statement

signed_fits : (n : ℕ) → n < 2 ^ 32 → SFits w32 (signed32 n)
signed_fits n h = rw (signed_is n) (sfits_to_z (record { fits = h }))

zero_fits : SFits w32 (pos 0)
zero_fits = record { sfits = omega arith }

an_arithmetic_valid : {a : Arithmetic Condition} → Validᵃ a → ValidRead (an_arithmetic a)
unfolding Validᵃ Valid
an_arithmetic_valid h = record { arithmetic_valid = h; boolean_valid = tt; statement_valid = tt }

a_boolean_valid : {e : Boolean Condition} → Validᵇ e → ValidRead (a_boolean e)
unfolding Validᵃ Valid
a_boolean_valid h = record { arithmetic_valid = zero_fits; boolean_valid = h; statement_valid = tt }

a_statement_valid : {s : Statement Condition} → Valid s → ValidRead (a_statement s)
unfolding Validᵃ Valid
a_statement_valid h = record { arithmetic_valid = zero_fits; boolean_valid = tt; statement_valid = h }

-- the variable of a node that passes test 6 is below 16, used or not
below_16 : (digit v : ℕ) → field_fits digit v 16 ≡ true → v < 16
unfolding field_fits
below_16 digit v h = by (eqb digit 0) h
  where
    by : (u : Bool) → cond u (eqb v 0) (ltb v 16) ≡ true → v < 16
    by true e = omega (arith, eqb-true v 0 e)
    by false e = ltb-true v 16 e

variable_fits : (w C n : ℕ) → node_fits C n (node_fields w) ≡ true → (node_fields w).variable < 16
unfolding node_fits
variable_fits w C n h = go (eqb (node_fields w).kind 0) refl
  where
    go : (u : Bool) → eqb (node_fields w).kind 0 ≡ u → (node_fields w).variable < 16
    go true e = let z : (node_fields w).high ≡ 0 = eqb-true (node_fields w).high 0 (rw e at h) in omega arith
    go false e =
        let f : Fitted C n (node_fields w) = fitted C n (node_fields w) h e in
        below_16 (variable_digit (layout (node_fields w).kind)) (node_fields w).variable f.variable_fits

-- what is made of valid parts is valid
reading_valid : (κ : Kind) (of : ℕ → Condition) (at : ℕ → Read) (ν : Node) → ν.value < 2 ^ 32 → ν.variable < 16 → ((k : ℕ) → ValidRead (at k))
    → ValidRead (reading κ of at ν)
unfolding reading Validᵃ Valid
reading_valid k_number of at ν hv hx v = an_arithmetic_valid (signed_fits ν.value hv)
reading_valid k_variable of at ν hv hx v = an_arithmetic_valid hx
reading_valid k_sum of at ν hv hx v = an_arithmetic_valid ((v ν.a).arithmetic_valid, (v ν.b).arithmetic_valid)
reading_valid k_pick of at ν hv hx v = an_arithmetic_valid ((v ν.a).boolean_valid, (v ν.b).arithmetic_valid, (v ν.c).arithmetic_valid)
reading_valid k_choiceᵃ of at ν hv hx v = an_arithmetic_valid ((v ν.b).arithmetic_valid, (v ν.c).arithmetic_valid)
reading_valid k_falseᵇ of at ν hv hx v = a_boolean_valid tt
reading_valid k_trueᵇ of at ν hv hx v = a_boolean_valid tt
reading_valid k_notᵇ of at ν hv hx v = a_boolean_valid (v ν.a).boolean_valid
reading_valid k_andᵇ of at ν hv hx v = a_boolean_valid ((v ν.a).boolean_valid, (v ν.b).boolean_valid)
reading_valid k_less of at ν hv hx v = a_boolean_valid ((v ν.a).arithmetic_valid, (v ν.b).arithmetic_valid)
reading_valid k_choiceᵇ of at ν hv hx v = a_boolean_valid ((v ν.b).boolean_valid, (v ν.c).boolean_valid)
reading_valid k_skip of at ν hv hx v = a_statement_valid tt
reading_valid k_assign of at ν hv hx v = a_statement_valid (hx, (v ν.a).arithmetic_valid)
reading_valid k_sequence of at ν hv hx v = a_statement_valid ((v ν.a).statement_valid, (v ν.b).statement_valid)
reading_valid k_if of at ν hv hx v = a_statement_valid ((v ν.a).boolean_valid, (v ν.b).statement_valid, (v ν.c).statement_valid)
reading_valid k_while of at ν hv hx v = a_statement_valid ((v ν.a).boolean_valid, (v ν.b).statement_valid)
reading_valid k_throw of at ν hv hx v = a_statement_valid (v ν.a).arithmetic_valid
reading_valid k_try of at ν hv hx v = a_statement_valid ((v ν.a).statement_valid, hx, (v ν.b).statement_valid)
reading_valid k_choice of at ν hv hx v = a_statement_valid ((v ν.b).statement_valid, (v ν.c).statement_valid)
reading_valid k_other of at ν hv hx v = a_statement_valid tt

module _ (l : List ℕ) (C P : ℕ) (fits : (n : ℕ) → n < P → node_fits C n (node l n) ≡ true) where
  node_valid : (n : ℕ) → n < P → (at : ℕ → Read) → ((k : ℕ) → ValidRead (at k)) → ValidRead (reading (kind_of (node l n).kind) (condition l) at (node l n))
  unfolding node
  node_valid n h at v = reading_valid (kind_of (node l n).kind) (condition l) at (node l n) (omega arith)
      (variable_fits (number_at l (nodes_from (header l).conditions + 8 * n) 8) C n (fits n h)) v

  below_valid : (n : ℕ) → n ≤ P → (k : ℕ) → ValidRead (read_below l n k)
  unfolding read_below Validᵃ Valid
  below_valid zero h k = a_statement_valid tt
  below_valid (suc n) h k = go (eqb k n) (below_valid n (omega arith))
    where
      go : (u : Bool) → ((k : ℕ) → ValidRead (read_below l n k))
          → ValidRead (branch u (λ _. reading (kind_of (node l n).kind) (condition l) (read_below l n) (node l n)) (λ _. read_below l n k) (a_statement skip))
      go true ih = node_valid n h (read_below l n) ih
      go false ih = ih k

  pub read_valid : (n : ℕ) → n < P → ValidRead (read l n)
  unfolding read
  read_valid n h = node_valid n h (read_below l n) (below_valid n (omega arith))
