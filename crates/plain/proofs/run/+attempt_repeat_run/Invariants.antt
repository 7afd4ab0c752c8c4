-- `run`, `repeat` and `attempt` meet their contracts: the measure is the node's number, doubled to leave room between a node and its child.
use Rattle.plain.proofs.Loops.{Turning, turns_left}
use Prim.Native.Nat.{◌+◌, ◌*◌, max}
use Rattle.plain.proofs.run.+attempt_repeat_run.Given as goal

abbrev pub decreases-attempt : goal.decreases-attempt
decreases-attempt l = 2 * max l.node.a l.node.b + 1

abbrev pub decreases-repeat : goal.decreases-repeat
decreases-repeat l = 2 * l.node.b + 1

abbrev pub decreases-run : goal.decreases-run
decreases-run l = 2 * l.n

abbrev pub invariant-repeat-loop-going : goal.invariant-repeat-loop-going
invariant-repeat-loop-going l =
    Turning l.budget l.setting.s l.setting.routine.image.now l.node.a l.node.b l.initial.numbers l.initial.q l.initial.going l.numbers l.q l.going

abbrev pub decreases-repeat-loop-going : goal.decreases-repeat-loop-going
decreases-repeat-loop-going l = turns_left l.budget l.going l.q
