-- `check` meets its contract: each test stands in the place of its row, and once it has passed the later rows decide.
use mathlib.Core.Path.{◌≡◌, sym, ap, ◌∙◌}
use Prim.Native.Nat.{ℕ}
use native.Mathlib.Omega.{arith}
use lib.ListN.{drop}
use borrow.Author.Tests.{lt-ltb, le-ltb, ne_eqb}
use Rattle.image.specs.declared.records.Header.{Header}
use Rattle.image.specs.declared.accept.Shape.{Shape}
use Rattle.image.specs.Bytes.{Bytes}
use Rattle.image.specs.Rows.{Answer, judge, short, length_wrong, check_rows}
use Rattle.image.specs.Check.{shape_of}
use Rattle.image.proofs.Theorem.Given.{judge_fails, judge_passes}
use Rattle.image.proofs.Theorem.Headers.{InRange, in_range, length_right}
use Rattle.image.proofs.accept.check.Lts as lts
use Rattle.image.proofs.accept.check.Reads as reads
use Rattle.image.proofs.accept.check.Tie as tie
use Rattle.image.proofs.accept.check.Goals as goal

abbrev Else-image-lt8 : Type 0
Else-image-lt8 = lts.Else1 tie.the-claims reads.Pre reads.Post

abbrev Else-edition_wrong : Type 0
Else-edition_wrong = lts.Else2 tie.the-claims reads.Pre reads.Post

abbrev After-header_at-h : Type 0
After-header_at-h = lts.After-header_at tie.the-claims reads.Pre reads.Post

abbrev Else-counts_wrong : Type 0
Else-counts_wrong = lts.Else3 tie.the-claims reads.Pre reads.Post

abbrev Else-image-h : Type 0
Else-image-h = lts.Else4 tie.the-claims reads.Pre reads.Post

-- F, C and P of a header
abbrev shape : Header → Shape
shape h = record { options = h.options; conditions = h.conditions; nodes = h.nodes }

-- what the rows after the first n answer
abbrev rest : ℕ → Bytes → Answer Shape
rest n l = judge (drop n (check_rows l)) (shape_of l)

-- ---- the image and its header on each way that goes on, and what is left to the later rows on it

abbrev image-1 : Else-image-lt8 → Bytes
image-1 c = c.before.before.args.image.now

past-1 : (c : Else-image-lt8) → rest 0 (image-1 c) ≡ rest 1 (image-1 c)
unfolding check_rows short
past-1 c = judge_passes _ _ _ (le-ltb _ _ c.if-image-lt8.false)

abbrev head-2 : Else-edition_wrong → After-header_at-h
head-2 c = c.before.before

abbrev image : After-header_at-h → Bytes
image c = image-1 c.before

past-2 : (c : Else-edition_wrong) → rest 0 (image (head-2 c)) ≡ rest 2 (image (head-2 c))
unfolding check_rows
past-2 c =
    past-1 (head-2 c).before
    ∙ judge_passes _ _ _ (rw (← (head-2 c).header_at-h.ensures, ← c.edition_wrong.ensures) c.if-edition_wrong.false)

abbrev head-3 : Else-counts_wrong → After-header_at-h
head-3 c = head-2 c.before.before

past-3 : (c : Else-counts_wrong) → rest 0 (image (head-3 c)) ≡ rest 3 (image (head-3 c))
unfolding check_rows
past-3 c =
    past-2 c.before.before
    ∙ judge_passes _ _ _ (rw (← (head-3 c).header_at-h.ensures, ← c.counts_wrong.ensures) c.if-counts_wrong.false)

ranges : (c : Else-counts_wrong) → InRange (head-3 c).header_at-h.result
ranges c = in_range _ (sym c.counts_wrong.ensures ∙ c.if-counts_wrong.false)

abbrev head-4 : Else-image-h → After-header_at-h
head-4 c = head-3 c.before.before.before

past-4 : (c : Else-image-h) → rest 0 (image (head-4 c)) ≡ rest 4 (image (head-4 c))
unfolding check_rows
past-4 c =
    past-3 c.before.before.before
    ∙ judge_passes _ _ _ (rw (← (head-4 c).header_at-h.ensures) (length_right _ _ c.if-image-h.false))

-- ---- the needs

pub returns-then-image-lt8 : goal.returns-then-image-lt8
unfolding check_rows short
returns-then-image-lt8 c = sym (judge_fails _ _ _ (lt-ltb _ _ c.if-image-lt8.true))

pub returns-then-edition_wrong : goal.returns-then-edition_wrong
unfolding check_rows
returns-then-edition_wrong c =
    sym
    (past-1 c.before.before.before.before
    ∙ judge_fails _ _ _ (rw (← c.header_at-h.ensures, ← c.edition_wrong.ensures) c.if-edition_wrong.true))

pub returns-then-counts_wrong : goal.returns-then-counts_wrong
unfolding check_rows
returns-then-counts_wrong c =
    sym
    (past-2 c.before.before.before
    ∙ judge_fails _ _ _ (rw (← (head-2 c.before.before.before).header_at-h.ensures, ← c.counts_wrong.ensures) c.if-counts_wrong.true))

pub overflow_mul-h : goal.overflow_mul-h
overflow_mul-h c = omega (arith, (ranges c.before.before).few_conditions)

pub overflow_add-h : goal.overflow_add-h
overflow_add-h c = omega (arith, (ranges c.before.before).few_conditions)

pub overflow_mul-h-2 : goal.overflow_mul-h-2
overflow_mul-h-2 c = omega (arith, (ranges c.before.before.before).few_nodes)

pub overflow_add-h-2 : goal.overflow_add-h-2
overflow_add-h-2 c = omega (arith, ranges c.before.before.before)

pub returns-then-image-h : goal.returns-then-image-h
unfolding check_rows length_wrong
returns-then-image-h c =
    sym (past-3 c.before.before.before.before ∙ judge_fails _ _ _ (rw (← (head-3 c.before.before.before.before).header_at-h.ensures, ne_eqb _ _ c.if-image-h.true)))

pub check_records-requires : goal.check_records-requires
unfolding shape_of
check_records-requires c =
    let is = (head-4 c.before).header_at-h.ensures in
    let counts = ranges c.before.before.before.before in
    record {
      shape_is = ap shape is;
      whole = record { conditions_are = ap (λ h. h.conditions) is; nodes_are = ap (λ h. h.nodes) is; length_is = c.if-image-h.false };
      some_node = counts.some_node;
      few_nodes = counts.few_nodes;
    }

pub returns : goal.returns
unfolding shape_of
returns c =
    let head = head-4 c.before.before in
    c.check_records.ensures
    ∙ ap (λ h. judge (drop 4 (check_rows (image head))) (shape h)) head.header_at-h.ensures ∙ sym (past-4 c.before.before)
