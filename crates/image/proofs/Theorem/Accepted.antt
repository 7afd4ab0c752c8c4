-- Tests 1 to 8 accept the images of which each sentence of "The image" holds, and no other.
use Rattle.std.specs.Prelude.{◌≡◌, true, ℕ, ◌-◌, ◌<◌, eqb, length}
use Rattle.std.proofs.Common.{arith, ltb-false, le-ltb, eqb-true, eq-eqb}
use Rattle.image.specs.Bytes.{Bytes}
use Rattle.image.specs.Records.{header, condition_record, node}
use Rattle.image.specs.Rows.{answer, judge, short, condition_fits, node_fits, classed, names, named_wrong, check_rows, NoneFails}
use Rattle.image.proofs.Theorem.Given.{answered, carried_out}
use Rattle.image.proofs.Theorem.Headers.{editioned, edition_right, InRange, in_range, counts_right, long, length_right}
use Rattle.image.proofs.Theorem.Lowest.{all_pass, none_fails}
use Rattle.image.specs.Accepted.{Accepted}

pub all_passed : (l : Bytes) → NoneFails (check_rows l) → Accepted l
unfolding check_rows named_wrong
all_passed l none =
    let h = header l in
    let edition = editioned h none.1.0 in
    let counts = in_range h none.1.1.0 in
    let named = all_pass (h.nodes - 1) (λ k. eqb (names l h.nodes k) 1) (ltb-false _ _ none.1.1.1.1.1.1.1.0) in
    record {
      edition_is = edition.edition_is;
      zero_is = edition.zero_is;
      few_options = counts.few_options;
      few_conditions = counts.few_conditions;
      some_node = counts.some_node;
      few_nodes = counts.few_nodes;
      length_is = long l h none.1.1.1.0;
      conditions_fit = all_pass h.conditions (λ k. condition_fits h.options k (condition_record l k)) (ltb-false _ _ none.1.1.1.1.0);
      nodes_fit = all_pass h.nodes (λ n. node_fits h.conditions n (node l n)) (ltb-false _ _ none.1.1.1.1.1.0);
      nodes_classed = all_pass h.nodes (classed l) (ltb-false _ _ none.1.1.1.1.1.1.0);
      named_once = λ k below. eqb-true _ 1 (named k (omega arith));
    }

pub accepted : {A : Type 0} (l : Bytes) (x y : A) → judge (check_rows l) x ≡ answer y → Accepted l
accepted l x y e = all_passed l (answered x (check_rows l) y e)

pub accepts : {A : Type 0} (l : Bytes) (x : A) → Accepted l → judge (check_rows l) x ≡ answer x
unfolding check_rows short named_wrong
accepts l x a =
    let h = header l in
    let counts : InRange h = record { few_options = a.few_options; few_conditions = a.few_conditions; some_node = a.some_node; few_nodes = a.few_nodes } in
    let once : (k : ℕ) → k < h.nodes - 1 → eqb (names l h.nodes k) 1 ≡ true = λ k below. eq-eqb _ _ (a.named_once k (omega arith)) in
    let row-1 = le-ltb (length l) 8 (omega (arith, a.length_is)) in
    let row-2 = edition_right h (record { edition_is = a.edition_is; zero_is = a.zero_is }) in
    let row-3 = counts_right h counts in
    let row-4 = length_right l h a.length_is in
    let row-5 = le-ltb _ _ (none_fails h.conditions (λ k. condition_fits h.options k (condition_record l k)) a.conditions_fit) in
    let row-6 = le-ltb _ _ (none_fails h.nodes (λ n. node_fits h.conditions n (node l n)) a.nodes_fit) in
    let row-7 = le-ltb _ _ (none_fails h.nodes (classed l) a.nodes_classed) in
    let row-8 = le-ltb _ _ (none_fails (h.nodes - 1) (λ k. eqb (names l h.nodes k) 1) once) in
    (carried_out x (check_rows l)).1 (row-1, (row-2, (row-3, (row-4, (row-5, (row-6, (row-7, (row-8, tt))))))))
