-- The image that reading gives passes the check: all of tests 1 to 8.
use Rattle.std.specs.Prelude.{◌≡◌, ℕ, suc, ◌+◌, ◌-◌, ◌≤◌, ◌<◌, true, cond, [], eqb}
use Rattle.std.proofs.Common.{◌∙◌, ap, subst, eq-eqb, ne_eqb}
use native.Mathlib.Omega.{arith}
use Rattle.std.proofs.Math.Decide.{ℕ_discrete}
use Rattle.imp.specs.Condition.{Condition}
use Rattle.imp.specs.Routine.{Statement}
use Rattle.imp.specs.Valid.{Valid}
use Rattle.image.specs.Bytes.{Bytes}
use Rattle.image.specs.Records.{header, condition_record, node}
use Rattle.image.specs.Rows.{condition_fits, node_fits, class, classed, names}
use Rattle.image.specs.Listing.{sizeˢ}
use Rattle.image.specs.Accepted.{Accepted}
use Rattle.image.proofs.Theorem.Named.{names_all, same, here_in}
use Rattle.written.specs.Under.{Under}
use Rattle.written.specs.Count.{recordsˢ}
use Rattle.written.specs.Image.{choicesˢ, written_image}
use Rattle.written.specs.Told.{Holds}
use Rattle.written.proofs.Theorem.Back.{someˢ}
use Rattle.written.proofs.Theorem.ImageRead.{longˢ, head_says, records_are, nodes_are}
use Rattle.written.proofs.Theorem.Stretch.{Passes, Tree}
use Rattle.written.proofs.Theorem.NodesFit.{treeˢ}
use Rattle.written.proofs.Theorem.RecordsFit.{fitˢ, each_fits}
use Rattle.written.proofs.Theorem.ImageLength.{image_length}
use Rattle.written.proofs.Theorem.Fits.{read_valid}

-- the root of a stretch that is the whole image is a statement
root_classed : (l : Bytes) (P : ℕ) → (header l).nodes ≡ P → class l (P - 1) ≡ 3 → (n : ℕ) → cond (eqb (suc n) (header l).nodes) (eqb (class l n) 3) true ≡ true
root_classed l P e c n = go (ℕ_discrete (suc n) (header l).nodes)
  where
    go : Dec (suc n ≡ (header l).nodes) → cond (eqb (suc n) (header l).nodes) (eqb (class l n) 3) true ≡ true
    go (yes d) =
        let at : n ≡ P - 1 = omega arith in
        rw (eq-eqb (suc n) (header l).nodes d, eq-eqb (class l n) 3 (ap (class l) at ∙ c))
    go (no d) = rw (ne_eqb (suc n) (header l).nodes d)

module _ (F : ℕ) (t : Statement Condition) (f : F ≤ 6) (v : Valid t) (u : Under F t) (few : sizeˢ t ≤ 1024) (conds : recordsˢ t ≤ 256) where
  abbrev l : Bytes
  l = written_image F t

  abbrev C : ℕ
  C = recordsˢ t

  abbrev P : ℕ
  P = sizeˢ t

  tree : Tree l C 0 P 3
  tree = (treeˢ l C (omega arith) t v 0 0 [] (omega arith) (omega arith) (nodes_are F t f v u few conds)).0

  passes : (n : ℕ) → n < P → Passes l C n
  passes n h = subst (Passes l C) (omega arith) (tree.all_pass n h)

  node_classed : (n : ℕ) → n < P → classed l n ≡ true
  unfolding classed
  node_classed n h =
      let p : Passes l C n = passes n h in
      let last : P - 1 ≡ 0 + P - 1 = omega arith in
      rw (p.a_classed, p.b_classed, p.c_classed) (root_classed l P (head_says F t f v u few conds).3 (ap (class l) last ∙ tree.root_class) n)

  -- "Each node except the last is named exactly once"
  once : (k : ℕ) → suc k < P → names l P k ≡ 1
  unfolding same
  once k h =
      let apart : (0 + P - 1 ≡ k → ⊥) = λ e. omega arith in
      let e = tree.each_named k in
      omega (arith, names_all l P k, rw (ne_eqb (0 + P - 1) k apart) at e, here_in 0 P k (omega arith) (omega arith))

  condition_fit : (k : ℕ) → k < C → condition_fits F k (condition_record l k) ≡ true
  condition_fit k h =
      each_fits l (choicesˢ t 0 []) F 0 (records_are F t f v u few conds) (fitˢ F f t u 0 [] (omega arith) tt) k (omega arith) (omega (arith, longˢ t 0 []))

  pub written_accepted : Accepted l
  written_accepted =
      let h = head_says F t f v u few conds in
      record {
        edition_is = h.0;
        zero_is = h.4;
        few_options = omega (arith, h.1);
        few_conditions = omega (arith, h.2);
        some_node = omega (arith, h.3, someˢ t);
        few_nodes = omega (arith, h.3);
        length_is = image_length F t ∙ omega (arith, h.2, h.3);
        conditions_fit = λ k i. ap (λ G. condition_fits G k (condition_record l k)) h.1 ∙ condition_fit k (omega (arith, h.2));
        nodes_fit = λ n i. ap (λ D. node_fits D n (node l n)) h.2 ∙ (passes n (omega (arith, h.3))).fits;
        nodes_classed = λ n i. node_classed n (omega (arith, h.3));
        named_once = λ k i. ap (λ p. names l p k) h.3 ∙ once k (omega (arith, h.3));
      }

-- so does the image of any text that is read
pub reading_accepted : (text : Bytes) (F : ℕ) (t : Statement Condition) → Holds text F t → Accepted (written_image F t)
reading_accepted text F t h =
    let k = read_valid text F t h.reads in
    written_accepted F t k.0 k.1 k.2 h.few_nodes h.few_records
