-- The measures of `run` and its kinds: what remains of the budget and the node's number fall together; and what each turn of a while leaves the same.
use Prim.Native.Nat.{◌+◌, ◌*◌, max}
use Rattle.shared.specs.Inner.Handed.{Same}
use Rattle.shared.proofs.Loops.{Turning, turns_left}
use Rattle.shared.proofs.run.+attempt_both_choose_decide_follow_repeat_run.Given as goal

abbrev pub decreases-attempt : goal.decreases-attempt
decreases-attempt l = 3 * (l.turn.rem + max l.node.a l.node.b) + 1

abbrev pub decreases-both : goal.decreases-both
decreases-both l = 3 * (l.turn.rem + max l.x l.y) + 1

abbrev pub decreases-choose : goal.decreases-choose
decreases-choose l = 3 * (l.turn.rem + max l.node.b l.node.c) + 2

abbrev pub decreases-decide : goal.decreases-decide
decreases-decide l = 3 * (l.turn.rem + max l.node.b l.node.c) + 2

abbrev pub decreases-follow : goal.decreases-follow
decreases-follow l = 3 * (l.turn.rem + max l.node.a l.node.b) + 2

abbrev pub decreases-repeat : goal.decreases-repeat
decreases-repeat l = 3 * (l.turn.rem + l.node.b) + 1

abbrev pub decreases-run : goal.decreases-run
decreases-run l = 3 * (l.turn.rem + l.n)

abbrev pub invariant-repeat-loop-node : goal.invariant-repeat-loop-node
invariant-repeat-loop-node l =
    Same l.initial.lent l.lent
    × Turning l.plan l.node l.initial.lent l.initial.now l.lent l.now

abbrev pub decreases-repeat-loop-node : goal.decreases-repeat-loop-node
decreases-repeat-loop-node l = turns_left l.now
