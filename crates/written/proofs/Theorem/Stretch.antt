-- A node that follows the stretches of its children passes tests 6 to 8, whatever its class: each field is empty, a condition's number, or the last node of
-- a stretch.
use Rattle.std.specs.Prelude.{◌≡◌, refl, true, false, List}
use Rattle.std.proofs.Math.Path.{sym}
use Rattle.std.proofs.Common.{◌∙◌, ap, subst}
use Prim.Native.Nat.{ℕ, zero, suc, ◌+◌, ◌-◌, ◌^◌, ◌≤◌, ◌<◌}
use Rattle.std.proofs.lemmas.Bool.{false≢true}
use native.Mathlib.Omega.{arith}
use Rattle.std.proofs.Math.Decide.{dec_lt}
use lib.Dec.{eqb}
use borrow.Author.Tests.{eq-eqb, lt-ltb}
use Rattle.image.specs.Records.{node, node_fields}
use Rattle.image.specs.Layout.{kinds, layout, class_digit, variable_digit, a_digit, b_digit, c_digit, names_node, field_fits}
use Rattle.image.specs.Rows.{slot_fits, node_fits, class, slot_classed, slot_names, node_names}
use Rattle.image.specs.Term.{node_word}
use Rattle.image.proofs.Theorem.Words.{number_back}
use Rattle.image.proofs.Theorem.Named.{names_from, here, same, named_join, here_low, here_high, here_one}
use Rattle.image.proofs.Theorem.Encoded.{all_nodes}
use Rattle.image.proofs.Theorem.Fine.{Stands, stands, variable_small}

-- ---- nodes and fields

-- a node that passes tests 6 and 7, for its own class apart, where there are C conditions
pub record Passes (l : List ℕ) (C n : ℕ) : Type 0 where
  pub fits : node_fits C n (node l n) ≡ true
  pub a_classed : slot_classed l (a_digit (layout (node l n).kind)) (node l n).a ≡ true
  pub b_classed : slot_classed l (b_digit (layout (node l n).kind)) (node l n).b ≡ true
  pub c_classed : slot_classed l (c_digit (layout (node l n).kind)) (node l n).c ≡ true

-- the n nodes from `at` are a tree's: all pass, the last is of the class, and each but the last is named by one of them
pub record Tree (l : List ℕ) (C at n cl : ℕ) : Type 0 where
  pub some_node : 0 < n
  pub in_range : at + n ≤ 4096
  pub all_pass : (i : ℕ) → i < n → Passes l C (at + i)
  pub root_class : class l (at + n - 1) ≡ cl
  pub each_named : (k : ℕ) → names_from l at n k + same (at + n - 1) k ≡ here at n k

-- a field, and the n nodes from `at` that are its child's
pub record Slot (l : List ℕ) (C at n slot value : ℕ) : Type 0 where
  pub nodes_pass : (i : ℕ) → i < n → Passes l C (at + i)
  pub slot_fit : (own : ℕ) → at + n ≤ own → slot_fits C own slot value ≡ true
  pub slot_class : slot_classed l slot value ≡ true
  pub named_once : (k : ℕ) → names_from l at n k + slot_names slot value k ≡ here at n k
  pub value_small : value < 4096

here_none : (at k : ℕ) → here at 0 k ≡ 0
here_none at k = go (dec_lt k at)
  where
    go : Dec (k < at) → here at 0 k ≡ 0
    go (yes p) = here_low at 0 k p
    go (no p) = here_high at 0 k (omega arith)

module _ (l : List ℕ) (C : ℕ) where
  -- no field of the kind
  pub empty : (at : ℕ) → Slot l C at 0 0 0
  unfolding names_from slot_names slot_fits field_fits slot_classed names_node
  empty at = record {
    nodes_pass = λ i h. absurd (omega arith);
    slot_fit = λ own h. refl;
    slot_class = refl;
    named_once = λ k. sym (here_none at k);
    value_small = omega arith;
  }

  -- a condition's number
  pub numbered : (at c : ℕ) → c < C → C ≤ 4096 → Slot l C at 0 4 c
  unfolding names_from slot_names slot_fits field_fits slot_classed names_node
  numbered at c h m = record {
    nodes_pass = λ i h. absurd (omega arith);
    slot_fit = λ own j. lt-ltb c C h;
    slot_class = refl;
    named_once = λ k. sym (here_none at k);
    value_small = omega arith;
  }

  slot_some : (slot : ℕ) → names_node slot ≡ true → eqb slot 0 ≡ false
  unfolding names_node
  slot_some zero h = absurd (false≢true h)
  slot_some (suc n) h = lib.Dec.eqb-suc-zero n

  -- a child of the field's class
  pub child : {at n slot : ℕ} → names_node slot ≡ true → Tree l C at n slot → Slot l C at n slot (at + n - 1)
  unfolding slot_names slot_fits field_fits slot_classed same
  child {at} {n} {slot} nn g = record {
    nodes_pass = g.all_pass;
    slot_fit = λ own h. rw (nn, slot_some slot nn) (lt-ltb (at + n - 1) own (omega (arith, g.some_node)));
    slot_class = rw nn (eq-eqb (class l (at + n - 1)) slot g.root_class);
    named_once = λ k. rw nn (g.each_named k);
    value_small = omega (arith, g.some_node, g.in_range);
  }

-- ---- the node itself

-- a known kind, no number, with its variable, if it has one, below 16
pub record Known (kind v : ℕ) : Type 0 where
  pub small : kind < 64
  pub no_number : eqb kind 0 ≡ false
  pub known : eqb (layout kind) 0 ≡ false
  pub variable_fits : field_fits (variable_digit (layout kind)) v 16 ≡ true

module _ (l : List ℕ) (C at kind v na nb nc a b c own : ℕ) (k : Known kind v) where
  kind_passes : Stands l own kind v a b c → at + na + nb + nc ≡ own → Slot l C at na (a_digit (layout kind)) a → Slot l C (at + na) nb (b_digit (layout kind)) b
      → Slot l C (at + na + nb) nc (c_digit (layout kind)) c → Passes l C own
  unfolding node_fits
  kind_passes st e sa sb sc = record {
    fits = rw (
      st.its_kind,
      st.its_variable,
      st.its_a,
      st.its_b,
      st.its_c,
      st.its_zero,
      k.no_number,
      k.known,
      k.variable_fits,
      sa.slot_fit own (omega arith),
      sb.slot_fit own (omega arith),
      sc.slot_fit own (omega arith),
    );
    a_classed = rw (st.its_kind, st.its_a) sa.slot_class;
    b_classed = rw (st.its_kind, st.its_b) sb.slot_class;
    c_classed = rw (st.its_kind, st.its_c) sc.slot_class;
  }

  kind_names : Stands l own kind v a b c → (j : ℕ)
      → node_names (node l own) j ≡ slot_names (a_digit (layout kind)) a j + (slot_names (b_digit (layout kind)) b j + slot_names (c_digit (layout kind)) c j)
  unfolding node_names
  kind_names st j = rw (st.its_kind, st.its_a, st.its_b, st.its_c)

  tree_joined : at + na + nb + nc ≡ own → at + suc (na + nb + nc) ≤ 4096 → node l own ≡ node_fields (node_word kind v 0 a b c) → Slot l C at na (a_digit (layout kind)) a
      → Slot l C (at + na) nb (b_digit (layout kind)) b → Slot l C (at + na + nb) nc (c_digit (layout kind)) c → Tree l C at (suc (na + nb + nc)) (class_digit (layout kind))
  unfolding class
  tree_joined e room w sa sb sc =
      let st : Stands l own kind v a b c =
      stands l own kind v a b c k.small (variable_small _ v k.variable_fits) sa.value_small sb.value_small sc.value_small w in
      let last : at + suc (na + nb + nc) - 1 ≡ own = omega arith in
      record {
        some_node = omega arith;
        in_range = room;
        all_pass =
            all_nodes (Passes l C) at na nb nc sa.nodes_pass sb.nodes_pass sc.nodes_pass (subst (Passes l C) (sym e) (kind_passes st e sa sb sc));
        root_class = rw (last, st.its_kind);
        each_named = λ j. rw last (named_join l at na nb nc own j _ _ _ e (kind_names st j) (sa.named_once j) (sb.named_once j) (sc.named_once j));
      }

-- a tree from its node and the stretches before it, each where the one before it ends
pub joined : {at at_b at_c na nb nc a b c : ℕ} (l : List ℕ) (C kind v own n : ℕ) → Known kind v → Slot l C at na (a_digit (layout kind)) a
    → Slot l C at_b nb (b_digit (layout kind)) b → Slot l C at_c nc (c_digit (layout kind)) c → at + na ≡ at_b → at_b + nb ≡ at_c → at_c + nc ≡ own
    → suc (na + nb + nc) ≡ n → at + n ≤ 4096 → node l own ≡ node_fields (node_word kind v 0 a b c) → Tree l C at n (class_digit (layout kind))
joined {at} {at_b} {at_c} {na} {nb} {nc} {a} {b} {c} l C kind v own n k sa sb sc eb ec eo es room w =
    let to-b : at_b ≡ at + na = omega arith in
    let to-c : at_c ≡ at + na + nb = omega arith in
    subst (λ n. Tree l C at n (class_digit (layout kind))) es
    (tree_joined l C at kind v na nb nc a b c own k (omega arith) (omega arith) w sa
    (subst (λ i. Slot l C i nb (b_digit (layout kind)) b) to-b sb) (subst (λ i. Slot l C i nc (c_digit (layout kind)) c) to-c sc))

-- a number
pub number_tree : (l : List ℕ) (C at value : ℕ) → value < 2 ^ 32 → at + 1 ≤ 4096 → node l at ≡ node_fields (node_word 0 0 value 0 0 0) → Tree l C at 1 1
unfolding node_fits slot_classed slot_names names_node layout kinds class names_from node_names
number_tree l C at value h room e =
    let f = number_back value h in
    let is_kind : (node l at).kind ≡ 0 = ap (λ ν. ν.kind) e ∙ f.0 in
    let is-high : (node l at).high ≡ 0 = ap (λ ν. ν.high) e ∙ f.1 in
    let here-at : at + 1 - 1 ≡ at = omega arith in
    let no_more : at + 0 ≡ at = omega arith in
    let passes : Passes l C at = record { fits = rw (is_kind, is-high); a_classed = rw is_kind; b_classed = rw is_kind; c_classed = rw is_kind } in
    record {
      some_node = omega arith;
      in_range = room;
      all_pass = λ i j. subst (Passes l C) (omega arith) passes;
      root_class = rw (here-at, is_kind);
      each_named = λ k. rw (here-at, no_more, is_kind) (zero_left (same at k) ∙ sym (here_one at k));
    }
  where
    zero_left : (n : ℕ) → 0 + n ≡ n
    zero_left n = omega arith
