-- What tests 2 to 4 ask of a header, as facts about its numbers.
use Rattle.std.specs.Prelude.{◌≡◌, refl, Bool, true, false, not, ◌||◌, ◌+◌, ◌*◌, ◌≤◌, ◌<◌, eqb, length}
use Rattle.std.proofs.Common.{true≢false, arith}
use Rattle.std.proofs.Math.Dec.{ltb}
use borrow.Author.Tests.{ltb-false, le-ltb, eqb-true, eqb-false, eq-eqb, ne_eqb, not-false}
use Rattle.image.specs.declared.records.Header.{Header}
use Rattle.image.specs.Bytes.{Bytes}
use Rattle.image.specs.Rows.{edition_wrong, counts_wrong, length_wrong}

neither : (a b : Bool) → (a || b) ≡ false → (a ≡ false) × (b ≡ false)
neither true b e = absurd (true≢false e)
neither false b e = (refl, e)

pub record Editioned (h : Header) : Type 0 where
  pub edition_is : h.edition ≡ 1
  pub zero_is : h.zero ≡ 0

pub record InRange (h : Header) : Type 0 where
  pub few_options : h.options ≤ 6
  pub few_conditions : h.conditions ≤ 256
  pub some_node : 0 < h.nodes
  pub few_nodes : h.nodes ≤ 1024

module _ (h : Header) where
  pub editioned : edition_wrong h ≡ false → Editioned h
  unfolding edition_wrong
  editioned e =
      let both = neither (not (eqb h.edition 1)) (not (eqb h.zero 0)) e in
      record { edition_is = eqb-true _ _ (not-false _ both.0); zero_is = eqb-true _ _ (not-false _ both.1) }

  pub edition_right : Editioned h → edition_wrong h ≡ false
  unfolding edition_wrong
  edition_right right = rw (eq-eqb h.edition 1 right.edition_is, eq-eqb h.zero 0 right.zero_is)

  pub in_range : counts_wrong h ≡ false → InRange h
  unfolding counts_wrong
  in_range e =
      let options = neither (ltb 6 h.options) (ltb 256 h.conditions || (eqb h.nodes 0 || ltb 1024 h.nodes)) e in
      let conditions = neither (ltb 256 h.conditions) (eqb h.nodes 0 || ltb 1024 h.nodes) options.1 in
      let nodes = neither (eqb h.nodes 0) (ltb 1024 h.nodes) conditions.1 in
      let some : (h.nodes ≡ 0 → ⊥) = eqb-false h.nodes 0 nodes.0 in
      record {
        few_options = ltb-false 6 _ options.0;
        few_conditions = ltb-false 256 _ conditions.0;
        some_node = omega arith;
        few_nodes = ltb-false 1024 _ nodes.1;
      }

  pub counts_right : InRange h → counts_wrong h ≡ false
  unfolding counts_wrong
  counts_right right =
      rw (
        le-ltb 6 h.options right.few_options,
        le-ltb 256 h.conditions right.few_conditions,
        ne_eqb h.nodes 0 (λ e. omega arith),
        le-ltb 1024 h.nodes right.few_nodes,
      )

module _ (l : Bytes) (h : Header) where
  pub long : length_wrong l h ≡ false → length l ≡ 8 + 4 * h.conditions + 8 * h.nodes
  unfolding length_wrong
  long e = eqb-true _ _ (not-false _ e)

  pub length_right : length l ≡ 8 + 4 * h.conditions + 8 * h.nodes → length_wrong l h ≡ false
  unfolding length_wrong
  length_right e = rw (eq-eqb _ _ e)
