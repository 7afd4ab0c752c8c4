-- A term whose nodes are of known kinds, with just the children that each kind has, passes tests 6 to 8 wherever its words stand.
-- The idea: induction on the term; a child's place is known, so its class, its name and who names it are too.
use Rattle.std.specs.Prelude.{◌≡◌, refl, ℕ, zero, suc, ◌+◌, ◌-◌, ◌^◌, ◌≤◌, ◌<◌, Bool, true, false, cond, List}
use Rattle.std.proofs.Common.{sym, ◌∙◌, ap, arith, eq-eqb, lt-ltb, ltb-true, eqb-true}
use Rattle.std.proofs.lemmas.Bool.{false≢true}
use Rattle.std.proofs.Math.Decide.{dec_lt}
use lib.Dec.{eqb, ltb}
use Rattle.image.specs.Records.{node, node_fields}
use Rattle.image.specs.Layout.{kinds, layout, class_digit, variable_digit, a_digit, b_digit, c_digit, names_node, field_fits}
use Rattle.image.specs.Rows.{slot_fits, node_fits, class, slot_classed, slot_names, node_names}
use Rattle.image.specs.Term.{Term, term, Branch, none, some, size, branch_size, name, node_word, words, branch_words}
use Rattle.image.proofs.Theorem.Words.{fields_back, number_back}
use Rattle.image.proofs.Theorem.Named.{names_from, here, same, named_join, here_low, here_high}
use Rattle.image.proofs.Theorem.Encoded.{Encoded, Parts, parts, size_some, all_nodes}

-- ---- terms that fit

unfoldable pub term_class : Term → ℕ
term_class (term k v value a b c) = class_digit (layout k)

-- a node's own fields: a number of 32 bits, or a known kind with its variable, if it has one, below 16
pub data Own : ℕ → ℕ → ℕ → Type 0 where
  own_number : {value : ℕ} → value < 2 ^ 32 → Own 0 0 value
  own_kind : {k v : ℕ} → k < 64 → eqb k 0 ≡ false → eqb (layout k) 0 ≡ false → field_fits (variable_digit (layout k)) v 16 ≡ true → Own k v 0

unfoldable mutual
  pub Fine : Term → Type 0
  Fine (term k v value a b c) =
      Own k v value × FineBranch (a_digit (layout k)) a × FineBranch (b_digit (layout k)) b × FineBranch (c_digit (layout k)) c

  -- what hangs on a field is what its kind has there
  pub FineBranch : ℕ → Branch → Type 0
  FineBranch slot none = slot ≡ 0
  FineBranch slot (some t) = (names_node slot ≡ true) × (term_class t ≡ slot) × Fine t

-- ---- the own node

-- how a node stands in an image: the fields of its word
pub record Stands (l : List ℕ) (n k v a b c : ℕ) : Type 0 where
  pub its_kind : (node l n).kind ≡ k
  pub its_variable : (node l n).variable ≡ v
  pub its_a : (node l n).a ≡ a
  pub its_b : (node l n).b ≡ b
  pub its_c : (node l n).c ≡ c
  pub its_zero : (node l n).zero ≡ 0

pub stands : (l : List ℕ) (n k v a b c : ℕ) → k < 64 → v < 64 → a < 4096 → b < 4096 → c < 4096
    → node l n ≡ node_fields (node_word k v 0 a b c) → Stands l n k v a b c
stands l n k v a b c hk hv ha hb hc e =
    let f = fields_back k v a b c hk hv ha hb hc in
    record {
      its_kind = ap (λ ν. ν.kind) e ∙ f.0;
      its_variable = ap (λ ν. ν.variable) e ∙ f.1;
      its_a = ap (λ ν. ν.a) e ∙ f.2;
      its_b = ap (λ ν. ν.b) e ∙ f.3;
      its_c = ap (λ ν. ν.c) e ∙ f.4;
      its_zero = ap (λ ν. ν.zero) e ∙ f.5;
    }

-- a node that passes tests 6 and 7, for its own class apart
pub record Passes (l : List ℕ) (n : ℕ) : Type 0 where
  pub fits : (C : ℕ) → node_fits C n (node l n) ≡ true
  pub a_classed : slot_classed l (a_digit (layout (node l n).kind)) (node l n).a ≡ true
  pub b_classed : slot_classed l (b_digit (layout (node l n).kind)) (node l n).b ≡ true
  pub c_classed : slot_classed l (c_digit (layout (node l n).kind)) (node l n).c ≡ true

-- a field that passes them
record SlotPasses (l : List ℕ) (n slot value : ℕ) : Type 0 where
  slot_fit : (C : ℕ) → slot_fits C n slot value ≡ true
  slot_class : slot_classed l slot value ≡ true

-- the variable of a node that fits has 6 bits
pub variable_small : (d v : ℕ) → field_fits d v 16 ≡ true → v < 64
unfolding field_fits
variable_small d v h = go (eqb d 0) h
  where
    go : (u : Bool) → cond u (eqb v 0) (ltb v 16) ≡ true → v < 64
    go true e = omega (arith, eqb-true v 0 e)
    go false e = omega (arith, ltb-true v 16 e)

kind_passes : (l : List ℕ) (n k v a b c : ℕ) → eqb k 0 ≡ false → eqb (layout k) 0 ≡ false → field_fits (variable_digit (layout k)) v 16 ≡ true
    → Stands l n k v a b c → SlotPasses l n (a_digit (layout k)) a → SlotPasses l n (b_digit (layout k)) b → SlotPasses l n (c_digit (layout k)) c
    → Passes l n
unfolding node_fits
kind_passes l n k v a b c nk known vf st pa pb pc = record {
  fits = λ C. rw (st.its_kind, st.its_variable, st.its_a, st.its_b, st.its_c, st.its_zero, nk, known, vf, pa.slot_fit C, pb.slot_fit C, pc.slot_fit C);
  a_classed = rw (st.its_kind, st.its_a) pa.slot_class;
  b_classed = rw (st.its_kind, st.its_b) pb.slot_class;
  c_classed = rw (st.its_kind, st.its_c) pc.slot_class;
}

number_passes : (l : List ℕ) (n value : ℕ) → value < 2 ^ 32 → node l n ≡ node_fields (node_word 0 0 value 0 0 0) → Passes l n
unfolding node_fits slot_classed names_node layout kinds
number_passes l n value h e =
    let f = number_back value h in
    let is_kind : (node l n).kind ≡ 0 = ap (λ ν. ν.kind) e ∙ f.0 in
    let is-high : (node l n).high ≡ 0 = ap (λ ν. ν.high) e ∙ f.1 in
    record { fits = λ C. rw (is_kind, is-high); a_classed = rw is_kind; b_classed = rw is_kind; c_classed = rw is_kind }

-- ---- a term and its branches, wherever they stand

record BranchGood (l : List ℕ) (at slot : ℕ) (b : Branch) : Type 0 where
  nodes_pass : (i : ℕ) → i < branch_size b → Passes l (at + i)
  slot_passes : (own : ℕ) → at + branch_size b ≤ own → SlotPasses l own slot (name b (at + branch_size b))
  named_once : (k : ℕ) → names_from l at (branch_size b) k + slot_names slot (name b (at + branch_size b)) k ≡ here at (branch_size b) k
  name_small : at + branch_size b ≤ 4096 → name b (at + branch_size b) < 4096

pub record TermGood (l : List ℕ) (at : ℕ) (t : Term) : Type 0 where
  pub all_pass : (i : ℕ) → i < size t → Passes l (at + i)
  pub root_class : class l (at + size t - 1) ≡ term_class t
  pub each_named : (k : ℕ) → names_from l at (size t) k + same (at + size t - 1) k ≡ here at (size t) k

-- no child: the field is zero, and names nothing
none_good : (l : List ℕ) (at slot : ℕ) → slot ≡ 0 → BranchGood l at slot none
unfolding branch_size name names_from here slot_names slot_fits field_fits slot_classed names_node
none_good l at slot e = rw e (record {
  nodes_pass = λ i h. absurd (omega arith);
  slot_passes = λ own h. record { slot_fit = λ C. refl; slot_class = refl };
  named_once = λ k. sym (here_none at k);
  name_small = λ h. omega arith;
})
  where
    here_none : (at k : ℕ) → here at 0 k ≡ 0
    here_none at k = go (dec_lt k at)
      where
        go : Dec (k < at) → here at 0 k ≡ 0
        go (yes p) = here_low at 0 k p
        go (no p) = here_high at 0 k (omega arith)

-- a child of the class that its field has
slot_some : (slot : ℕ) → names_node slot ≡ true → eqb slot 0 ≡ false
unfolding names_node
slot_some zero h = absurd (false≢true h)
slot_some (suc n) h = lib.Dec.eqb-suc-zero n

some_good : (l : List ℕ) (at slot : ℕ) (t : Term) → names_node slot ≡ true → term_class t ≡ slot → TermGood l at t → BranchGood l at slot (some t)
unfolding branch_size name slot_names slot_fits field_fits slot_classed same
some_good l at slot t nn cl g = record {
  nodes_pass = g.all_pass;
  slot_passes = λ own h. record {
    slot_fit = λ C. rw (nn, slot_some slot nn) (lt-ltb (at + size t - 1) own (omega (arith, size_some t)));
    slot_class = rw nn (eq-eqb (class l (at + size t - 1)) slot (g.root_class ∙ cl));
  };
  named_once = λ k. rw nn (g.each_named k);
  name_small = λ h. omega (arith, size_some t);
}

-- the node itself: it passes, its kind is read back, and it names its children
record OwnGood (l : List ℕ) (own k a b c : ℕ) : Type 0 where
  own_passes : Passes l own
  own_is : (node l own).kind ≡ k
  own_names : (j : ℕ) → node_names (node l own) j ≡ slot_names (a_digit (layout k)) a j + (slot_names (b_digit (layout k)) b j + slot_names (c_digit (layout k)) c j)

-- a kind without children has none
no_child : (b : Branch) → FineBranch 0 b → (n : ℕ) → name b n ≡ 0
unfolding FineBranch name names_node
no_child none f n = refl
no_child (some t) f n = absurd (false≢true f.0)

own_good : (l : List ℕ) (own k v value a b c : ℕ) → Own k v value → (eqb k 0 ≡ true → (a ≡ 0) × (b ≡ 0) × (c ≡ 0)) → a < 4096 → b < 4096 → c < 4096
    → node l own ≡ node_fields (node_word k v value a b c)
    → SlotPasses l own (a_digit (layout k)) a → SlotPasses l own (b_digit (layout k)) b → SlotPasses l own (c_digit (layout k)) c → OwnGood l own k a b c
unfolding node_names slot_names names_node layout kinds
own_good l own k v value a b c (own_number h) zeros ha hb hc e pa pb pc =
    let z = zeros refl in
    let e' : node l own ≡ node_fields (node_word 0 0 value 0 0 0) = rw (z.0, z.1, z.2) at e in
    let is_kind : (node l own).kind ≡ 0 = ap (λ ν. ν.kind) e' ∙ (number_back value h).0 in
    record { own_passes = number_passes l own value h e'; own_is = is_kind; own_names = λ j. rw is_kind }
own_good l own k v value a b c (own_kind hk nk known vf) zeros ha hb hc e pa pb pc =
    let st : Stands l own k v a b c = stands l own k v a b c hk (variable_small _ v vf) ha hb hc e in
    record {
      own_passes = kind_passes l own k v a b c nk known vf st pa pb pc;
      own_is = st.its_kind;
      own_names = λ j. rw (st.its_kind, st.its_a, st.its_b, st.its_c);
    }

no_children : (k : ℕ) (a b c : Branch) (i j n : ℕ) → FineBranch (a_digit (layout k)) a → FineBranch (b_digit (layout k)) b → FineBranch (c_digit (layout k)) c
    → eqb k 0 ≡ true → (name a i ≡ 0) × (name b j ≡ 0) × (name c n ≡ 0)
unfolding layout kinds
no_children k a b c i j n fa fb fc e =
    let is-0 : k ≡ 0 = eqb-true k 0 e in
    (no_child a (rw is-0 at fa) i, no_child b (rw is-0 at fb) j, no_child c (rw is-0 at fc) n)

-- a term from its branches
join_good : (l : List ℕ) (at k v value : ℕ) (a b c : Branch) → at + size (term k v value a b c) ≤ 4096 → Fine (term k v value a b c)
    → Parts l at k v value a b c → BranchGood l at (a_digit (layout k)) a → BranchGood l (at + branch_size a) (b_digit (layout k)) b
    → BranchGood l (at + branch_size a + branch_size b) (c_digit (layout k)) c → TermGood l at (term k v value a b c)
unfolding size Fine term_class class
join_good l at k v value a b c room fine p ga gb gc =
    let na : ℕ = branch_size a in
    let nb : ℕ = branch_size b in
    let nc : ℕ = branch_size c in
    let own : ℕ = at + na + nb + nc in
    let o : OwnGood l own k (name a (at + na)) (name b (at + na + nb)) (name c own) =
    own_good l own k v value (name a (at + na)) (name b (at + na + nb)) (name c own)
    fine.0 (no_children k a b c (at + na) (at + na + nb) own fine.1 fine.2 fine.3)
    (ga.name_small (omega arith)) (gb.name_small (omega arith)) (gc.name_small (omega arith)) p.own
    (ga.slot_passes own (omega arith)) (gb.slot_passes own (omega arith)) (gc.slot_passes own (omega arith)) in
    let last : at + suc (na + nb + nc) - 1 ≡ own = omega arith in
    record {
      all_pass = all_nodes (Passes l) at na nb nc ga.nodes_pass gb.nodes_pass gc.nodes_pass o.own_passes;
      root_class = rw (last, o.own_is);
      each_named = λ j. rw last (named_join l at na nb nc own j _ _ _ refl (o.own_names j) (ga.named_once j) (gb.named_once j) (gc.named_once j));
    }

mutual
  unfolding Fine size words

  pub term_good : (t : Term) → Fine t → (l : List ℕ) (at : ℕ) → at + size t ≤ 4096 → Encoded l at (words t at) → TermGood l at t
  term_good (term k v value a b c) fine l at room e =
      let p : Parts l at k v value a b c = parts l at k v value a b c e in
      join_good l at k v value a b c room fine p
      (branch_good a (a_digit (layout k)) fine.1 l at (omega arith) p.in_a)
      (branch_good b (b_digit (layout k)) fine.2 l (at + branch_size a) (omega arith) p.in_b)
      (branch_good c (c_digit (layout k)) fine.3 l (at + branch_size a + branch_size b) (omega arith) p.in_c)

  branch_good : (b : Branch) (slot : ℕ) → FineBranch slot b → (l : List ℕ) (at : ℕ) → at + branch_size b ≤ 4096 → Encoded l at (branch_words b at) → BranchGood l at slot b
  branch_good none slot f l at room e = none_good l at slot f
  branch_good (some t) slot f l at room e = some_good l at slot t f.0 f.1 (term_good t f.2 l at room e)
