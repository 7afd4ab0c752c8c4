-- A node that is to be written: what may be written for its chosen part or for its children, and what is left once they are written.
use mathlib.Core.Path.{◌≡◌, sym, ◌∙◌, ap}
use mathlib.Core.Bool.{true, false, cond, false≢true}
use Prim.Native.Nat.{ℕ, suc, ◌+◌, ◌*◌, ◌≤◌, ◌<◌}
use mathlib.Core.List.{List}
use native.Mathlib.Omega.{arith}
use native.Mathlib.Decide.{dec_lt}
use lib.Dec.{eqb}
use lib.ListN.{get_or, get_or-eq_default}
use lib.Seq.{sets}
use borrow.Author.Tests.{ne_eqb}
use Rattle.sets.specs.Member.{bit}
use Rattle.image.specs.declared.records.Node.{Node}
use Rattle.image.specs.Bytes.{Bytes}
use Rattle.image.specs.Records.{header, node}
use Rattle.image.specs.Layout.{kinds, layout, a_digit, b_digit, c_digit, names_node, is_choice}
use Rattle.image.specs.Rows.{node_fits}
use Rattle.image.specs.Term.{term, Branch, size, branch_size, name, node_word, bytes_of}
use Rattle.image.proofs.Theorem.Lower.{fitted, lower}
use Rattle.image.specs.Inner.Lower.{Lower}
use Rattle.image.specs.Inner.Ready.{Ready}
use Rattle.image.proofs.Theorem.Choosing.{choice_condition, choice_b, choice_c, chosen_is, chosen_lower}
use Rattle.image.proofs.Theorem.Listed.{by_test}
use Rattle.configure.specs.Inner.Term.{term_at}
use Rattle.configure.specs.Inner.Writing.{Writing, Wrote, hung, SlotWriting, SlotWrote, own_word, Ended}
use Rattle.configure.specs.Theorem.Terms.{choice_term, node_term}
use Rattle.configure.proofs.Branches.{node_bytes, node_next, hung_name, hung_some}

-- "All other kinds are refused"
known : (C n : ℕ) (ν : Node) → node_fits C n ν ≡ true → ν.kind < 24
unfolding layout kinds
known C n ν fits = go (dec_lt ν.kind 24)
  where
    go : Dec (ν.kind < 24) → ν.kind < 24
    go (yes p) = p
    go (no p) =
        let high : 24 ≤ ν.kind = omega arith in
        let none : layout ν.kind ≡ 0 = get_or-eq_default kinds 0 high in
        absurd (false≢true (rw none at (fitted C n ν fits (ne_eqb ν.kind 0 (λ e. omega arith))).known))

-- the measure of a field falls from that of its node, 2n + 2; a field that names no node may hold any number
pub slot_falls : {n value : ℕ} (slot : ℕ) → (names_node slot ≡ true → value < n) → cond (names_node slot) (2 * value + 3) 0 < 2 * n + 2
slot_falls {n} {value} slot lower =
    by_test (names_node slot) (λ u. cond u (2 * value + 3) 0 < 2 * n + 2) (λ names. omega (arith, lower names)) (λ none. omega arith)

-- a node that is to be written, as it was read
pub record Read (l : Bytes) (conditions : ℕ) (condition_sets : List ℕ) (s n at space : ℕ) (ν : Node) : Type 0 where
  pub ready : Ready l conditions condition_sets s
  pub writing : Writing l s n at space
  pub is_node : ν ≡ node l n

-- one that is no choice, and its digits
pub record Other (ν : Node) (digits : ℕ) : Type 0 where
  pub is_layout : digits ≡ layout ν.kind
  pub no_choice : is_choice ν.kind ≡ false

-- a part that is chosen: node x is lower than n, and has its term
pub record Chosen (l : Bytes) (s n x : ℕ) : Type 0 where
  pub is_lower : x < n
  pub same : term_at l s n ≡ term_at l s x

-- of any other node the children are lower, and their terms are parts of its own
pub record Slots (l : Bytes) (s n : ℕ) (ν : Node) (digits : ℕ) : Type 0 where
  pub a_lower : names_node (a_digit digits) ≡ true → ν.a < n
  pub b_lower : names_node (b_digit digits) ≡ true → ν.b < n
  pub c_lower : names_node (c_digit digits) ≡ true → ν.c < n
  pub size_is : size (term_at l s n)
      ≡ suc (branch_size (hung l s (a_digit digits) ν.a) + branch_size (hung l s (b_digit digits) ν.b) + branch_size (hung l s (c_digit digits) ν.c))

-- once they are written its own word makes the rest
pub record Finished (l : Bytes) (s n at : ℕ) (out out' : Bytes) (ν : Node) (after-a after-b after-c : ℕ) : Type 0 where
  pub ended : Ended ν after-a after-b after-c
  pub next_is : after-c + 1 ≡ at + size (term_at l s n)
  pub wrote : {own : ℕ} {out'' : Bytes} → own ≡ own_word ν after-a after-b after-c → out'' ≡ sets out' (8 + 8 * after-c) (bytes_of 8 own)
      → Wrote l s n at out out'' (after-c + 1)

module _ {l : Bytes} {conditions : ℕ} {condition_sets : List ℕ} {s n at space : ℕ} {ν : Node}
    (here : Read l conditions condition_sets s n at space ν) where
  abbrev w : Writing l s n at space
  w = here.writing

  fits : node_fits (header l).conditions n (node l n) ≡ true
  fits = here.ready.accepted.nodes_fit n w.node_below

  low : Lower n (node l n)
  low = lower (header l).conditions n (node l n) fits

  -- ---- a choice

  pub chosen : is_choice ν.kind ≡ true → Chosen l s n (cond (bit (get_or condition_sets ν.a 0) s) ν.b ν.c)
  chosen = rw here.is_node λ choice.
      let b_lower = choice_b l here.ready.accepted n w.node_below choice in
      let c_lower = choice_c l here.ready.accepted n w.node_below choice in
      let held = chosen_is l conditions condition_sets s (node l n).a here.ready (choice_condition l here.ready.accepted n w.node_below choice) in
      record {
        is_lower = chosen_lower (bit (get_or condition_sets (node l n).a 0) s) (node l n).b (node l n).c n b_lower c_lower;
        same = choice_term l s n choice b_lower c_lower ∙ ap (λ u. term_at l s (cond u (node l n).b (node l n).c)) (sym held);
      }

  pub part_writing : {x : ℕ} → Chosen l s n x → Writing l s x at space
  part_writing part = record {
    node_below = omega (arith, part.is_lower, w.node_below);
    few = omega (arith, ap size part.same, w.few);
    fits = omega (arith, ap size part.same, w.fits);
  }

  pub part_wrote : {x next : ℕ} {out out' : Bytes} → Chosen l s n x → Wrote l s x at out out' next → Wrote l s n at out out' next
  part_wrote part wrote = record { next_is = rw part.same wrote.next_is; out_is = rw part.same wrote.out_is }

  pub slot_writing : {slot value next space' : ℕ} → (names_node slot ≡ true → value < n)
      → next + branch_size (hung l s slot value) ≤ at + size (term_at l s n) → space' ≡ space
      → SlotWriting l s slot value next space'
  slot_writing lower le same = record {
    child_below = λ names. omega (arith, lower names, w.node_below);
    few = omega (arith, w.few);
    fits = omega (arith, w.fits);
  }

-- ---- any other node

module _ {l : Bytes} {conditions : ℕ} {condition_sets : List ℕ} {s n at space : ℕ} {ν : Node} {digits : ℕ}
    (here : Read l conditions condition_sets s n at space ν) (other : Other ν digits) where
  abbrev a : Branch
  a = hung l s (a_digit digits) ν.a

  abbrev b : Branch
  b = hung l s (b_digit digits) ν.b

  abbrev c : Branch
  c = hung l s (c_digit digits) ν.c

  own_term : term_at l s n ≡ term ν.kind ν.variable (cond (eqb ν.kind 0) ν.value 0) a b c
  own_term = rw (other.is_layout, here.is_node)
      (node_term l s n (ap (λ μ. is_choice μ.kind) (sym here.is_node) ∙ other.no_choice) (low here).a_lower (low here).b_lower (low here).c_lower)

  pub slots : Slots l s n ν digits
  unfolding size
  slots = record {
    a_lower = rw (other.is_layout, here.is_node) (low here).a_lower;
    b_lower = rw (other.is_layout, here.is_node) (low here).b_lower;
    c_lower = rw (other.is_layout, here.is_node) (low here).c_lower;
    size_is = ap size (own_term);
  }

  module _ {p q r : ℕ} {o o₁ o₂ o₃ : Bytes}
      (wa : SlotWrote a at o o₁ p) (wb : SlotWrote b p o₁ o₂ q) (wc : SlotWrote c q o₂ o₃ r) where
    next_is : r + 1 ≡ at + size (term_at l s n)
    next_is = rw (own_term) (node_next wa wb wc _ _ _)

    ended : Ended ν p q r
    unfolding node
    ended = record {
      known = rw here.is_node (known (header l).conditions n (node l n) (fits here));
      variable_small = rw here.is_node (omega arith);
      a_written = λ names. omega (arith, hung_some l s (a_digit digits) ν.a (rw other.is_layout names), wa.next_is);
      b_written = λ names. omega (arith, hung_some l s (b_digit digits) ν.b (rw other.is_layout names), wb.next_is);
      c_written = λ names. omega (arith, hung_some l s (c_digit digits) ν.c (rw other.is_layout names), wc.next_is);
      a_small = omega (arith, wb.next_is, wc.next_is, next_is, (w here).few);
      b_small = omega (arith, wc.next_is, next_is, (w here).few);
      c_small = omega (arith, next_is, (w here).few);
    }

    word_is : own_word ν p q r ≡ node_word ν.kind ν.variable (cond (eqb ν.kind 0) ν.value 0) (name a p) (name b q) (name c r)
    unfolding own_word
    word_is =
        rw (
          ← other.is_layout,
          hung_name l s (a_digit digits) ν.a p,
          hung_name l s (b_digit digits) ν.b q,
          hung_name l s (c_digit digits) ν.c r,
        )

    pub finished : Finished l s n at o o₃ ν p q r
    finished = record {
      ended = ended;
      next_is = next_is;
      wrote = λ own put. record {
        next_is = next_is;
        out_is = rw (own_term)
            (put ∙ ap (λ word. sets o₃ (8 + 8 * r) (bytes_of 8 word)) (own ∙ word_is) ∙ node_bytes wa wb wc _ _ _);
      };
    }
