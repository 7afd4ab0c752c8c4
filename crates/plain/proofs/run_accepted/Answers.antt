-- `run_accepted` meets its contract: rows 10 and 12, and then the run of the root, which starts afresh.
use Prim.Native.Nat.{ℕ, ◌-◌, ◌<◌}
use native.Mathlib.Omega.{arith}
use Rattle.image.specs.Records.{header}
use Rattle.image.proofs.Theorem.Held.{root_class}
use Rattle.plain.proofs.Beginning.{proper_done}
use Rattle.plain.proofs.Good.{nodes_are}
use Rattle.plain.proofs.Plainly as plainly
use Rattle.plain.proofs.run_accepted.Lts as lts
use Rattle.plain.proofs.run_accepted.Reads as reads
use Rattle.plain.proofs.run_accepted.Tie as tie
use Rattle.plain.proofs.run_accepted.Goals as goal

-- what the code's test says where it holds
over : (c : lts.Then1 tie.the-claims reads.Pre reads.Post) → 100000 < c.args.budget
over c = omega arith

pub returns-then-budget-gt-LARGEST_BUDGET : goal.returns-then-budget-gt-LARGEST_BUDGET
returns-then-budget-gt-LARGEST_BUDGET c = plainly.over_budget _ _ _ _ (over c.before)

pub returns-then-numbers-ne16 : goal.returns-then-numbers-ne16
returns-then-numbers-ne16 c = plainly.wrong_length _ _ _ _ (omega arith) (omega arith)

pub run-requires : goal.run-requires
run-requires c =
    let l = c.args.image.now in
    let acc = c.requires.0 in
    let last : ℕ = c.args.shape.nodes - 1 in
    let below : last < (header l).nodes = omega (arith, nodes_are l c.requires.1, acc.some_node) in
    let is_root = root_class l (header l).conditions last (acc.nodes_fit last below) (acc.nodes_classed last below) (omega (arith, nodes_are l c.requires.1, acc.some_node)) in
    rw c.of.ensures.0 (record { evaluating = record { node_below = below; is_class = is_root; sixteen = omega arith }; proper = proper_done })

pub returns : goal.returns
returns c =
    plainly.ended _ c.args.image.now _ _ (omega arith) (omega arith)
    (nodes_are c.args.image.now c.requires.1) (rw c.of.ensures.0 at c.run.ensures)
