-- `run`, `repeat` and `attempt` meet their contracts: the measure is the node's number, doubled to leave room between a node and its child.
use mathlib.Core.Path.{◌≡◌, refl, sym, ◌∙◌, ap}
use native.Mathlib.Omega.{arith}
use borrow.Author.Tests.{eq-eqb}
use Rattle.image.specs.Layout.{kinds, layout, names_node}
use Rattle.plain.specs.Inner.Progress.{state_of}
use Rattle.plain.proofs.Beginning.{stays, charged}
use Rattle.plain.proofs.Evaluation.{At, call_a, call_b, call_c, call_chosen, call_decided, known, statement_kind}
use Rattle.plain.proofs.Statements.{does, child_run, arrives, handled_none, handled_by, stored_below, left_statement, choice_does, while_does, skip_does, assign_does, sequence_does, if_does, throw_does, try_does}
use Rattle.plain.proofs.Loops.{turned, nearer, ending}
use mathlib.Core.Bool.{Bool, true, false}
use mathlib.Core.List.{List}
use denote.Enum.Bare.{sameb, same_true, same_false}
use Rattle.image.specs.contracts.kinds.Kind.{the_type}
use Rattle.image.specs.declared.kinds.Kind.{Kind}
use Rattle.image.specs.declared.kinds.Kind.TheVariants.{Choice}
use Prim.Native.Nat.{ℕ}
use lib.IntN.{ℤ}
use Rattle.image.specs.declared.records.Node.{Node}
use Rattle.image.specs.Kinds.{kind_number}
use Rattle.image.specs.Records.{node}
use Rattle.image.specs.Inner.Ready.{Ready}
use Rattle.plain.specs.Inner.Evaluating.{Evaluating}
use Rattle.plain.proofs.run.+attempt_repeat_run.Goals as goal

-- ---- attempt

pub attempt-returns-then-r-ne-FAULT : goal.attempt-returns-then-r-ne-FAULT
attempt-returns-then-r-ne-FAULT t c = handled_none _ _ c.run-r.ensures (λ two. omega (arith, two))

pub attempt-returns : goal.attempt-returns
attempt-returns t c =
    let a = c.args in
    arrives (handled_by a.node.variable (does a.budget a.setting.now.s a.setting.now.routine.image.now a.node.b) c.run-r.ensures (omega arith) c.take-q.ensures) c.run.ensures

-- ---- repeat

pub repeat-loop-going-smaller : goal.repeat-loop-going-smaller
repeat-loop-going-smaller t c =
    let a = c.args in
    nearer a.budget a.setting.now.s a.setting.now.routine.image.now a.node.a a.node.b
    c.loop-going-test.true c.loop-going.invariant c.run-r.ensures c.begin-q.ensures c.tested-going-in-loop-going.ensures

pub repeat-loop-going-preserved : goal.repeat-loop-going-preserved
repeat-loop-going-preserved t c =
    let a = c.args in
    turned a.budget a.setting.now.s a.setting.now.routine.image.now a.node.a a.node.b
    c.loop-going-test.true c.loop-going.invariant c.run-r.ensures c.begin-q.ensures c.tested-going-in-loop-going.ensures

pub repeat-returns : goal.repeat-returns
repeat-returns t c =
    let a = c.args in
    ending a.budget a.setting.now.s a.setting.now.routine.image.now a.node.a a.node.b
    c.requires.is_live c.tested-going.ensures c.loop-going.invariant c.loop-going-test.false

-- ---- run

-- the node, once it is read
node_of : {l : List ℕ} {C : ℕ} {S : List ℕ} {s n : ℕ} {ns : List ℤ} {ν : Node} → Ready l C S s → Evaluating l n 3 ns → ν ≡ node l n
    → At l C S s n 3 ns ν n
node_of ready evaluating is_node = record { ready = ready; evaluating = evaluating; is_node = is_node; is_number = refl }

-- the number of a node whose kind is told
kind_in : {n : ℕ} {j k : Kind} → kind_number j ≡ n → j ≡ k → n ≡ kind_number k
kind_in e same = sym e ∙ ap kind_number same

-- the test for a choice, passed and failed
is_choice : {k : Kind} {u : Bool} → u ≡ sameb the_type k Choice → u ≡ true → k ≡ Choice
is_choice e passed = same_true the_type tt _ _ (sym e ∙ passed)

no_choice : {k : Kind} {u : Bool} → u ≡ sameb the_type k Choice → u ≡ false → k ≡ Choice → ⊥
no_choice e failed = same_false the_type _ _ (sym e ∙ failed)

pub run-kind-kind-requires : goal.run-kind-kind-requires
run-kind-kind-requires t c = (known (node_of c.args.setting.now.ready c.requires.evaluating c.node-node.ensures) (λ e. omega arith))

pub run-run-requires : goal.run-run-requires
unfolding layout kinds names_node
run-run-requires t c =
    let p = node_of c.args.setting.now.ready c.requires.evaluating c.node-node.ensures in
    let k = (kind_in c.kind-kind.ensures (is_choice c.eq.ensures c.if-eq.true)) in
    child_run c.decreases (call_chosen p c.chosen-part.ensures (call_b p 23 k refl) (call_c p 23 k refl)) c.requires.evaluating.sixteen c.requires.proper

pub run-returns-then-eq : goal.run-returns-then-eq
run-returns-then-eq t c =
    let a = c.args in
    arrives
    (choice_does (node_of c.args.setting.now.ready c.requires.evaluating c.node-node.ensures) a.budget (kind_in c.kind-kind.ensures (is_choice c.eq.ensures c.if-eq.true)) c.chosen-part.ensures (state_of a.p a.numbers.now))
    c.run.ensures

pub run-returns-then-q-ne-LIVE : goal.run-returns-then-q-ne-LIVE
run-returns-then-q-ne-LIVE t c =
    let begun = c.begin-q.ensures in
    record {
      reaches = sym (stays begun c.if-q-ne-LIVE.true _ c.args.numbers.now);
      proper = begun.proper;
      sixteen = c.requires.evaluating.sixteen;
    }

pub run-assign-requires : goal.run-assign-requires
unfolding layout kinds names_node
run-assign-requires t c =
    let p = node_of c.args.setting.now.ready c.requires.evaluating c.node-node.ensures in
    let k = (kind_in c.kind-kind.ensures c.in-Assign.is) in
    record { evaluating = (call_a p 17 k refl).1; variable_bound = (stored_below p 17 k refl refl, c.begin-q.ensures.proper) }

pub run-run-r-requires : goal.run-run-r-requires
unfolding layout kinds names_node
run-run-r-requires t c =
    child_run c.decreases (call_a (node_of c.args.setting.now.ready c.requires.evaluating c.node-node.ensures) 18 (kind_in c.kind-kind.ensures c.in-Sequence.is) refl) c.requires.evaluating.sixteen c.begin-q.ensures.proper

pub run-run-requires-in-Sequence : goal.run-run-requires-in-Sequence
unfolding layout kinds names_node
run-run-requires-in-Sequence t c =
    let first = c.run-r.ensures in
    let k = (kind_in c.kind-kind.ensures c.in-Sequence.is) in
    child_run c.decreases (call_b (node_of c.args.setting.now.ready c.requires.evaluating c.node-node.ensures) 18 k refl) first.sixteen first.proper

pub run-decided-part-requires : goal.run-decided-part-requires
unfolding layout kinds names_node
run-decided-part-requires t c = (call_a (node_of c.args.setting.now.ready c.requires.evaluating c.node-node.ensures) 19 (kind_in c.kind-kind.ensures c.in-If.is) refl).1

pub run-run-requires-in-If : goal.run-run-requires-in-If
unfolding layout kinds names_node
run-run-requires-in-If t c =
    let p = node_of c.args.setting.now.ready c.requires.evaluating c.node-node.ensures in
    let k = (kind_in c.kind-kind.ensures c.in-If.is) in
    child_run c.decreases (call_decided p c.decided-part.ensures (call_b p 19 k refl) (call_c p 19 k refl))
    c.requires.evaluating.sixteen c.begin-q.ensures.proper

pub run-repeat-requires : goal.run-repeat-requires
unfolding layout kinds names_node
run-repeat-requires t c =
    let p = node_of c.args.setting.now.ready c.requires.evaluating c.node-node.ensures in
    let k = (kind_in c.kind-kind.ensures c.in-While.is) in
    let a = c.args in
    let body = call_b p 20 k refl in (
      omega (arith, body.0, c.decreases),
      record {
        evaluating = (call_a p 20 k refl).1;
        running = record { evaluating = body.1; proper = c.begin-q.ensures.proper };
        is_live = c.if-q-ne-LIVE.false;
        within = (charged c.begin-q.ensures a.numbers.now (eq-eqb _ 1 c.if-q-ne-LIVE.false)).1;
      },
    )

pub run-fault-requires : goal.run-fault-requires
unfolding layout kinds names_node
run-fault-requires t c = (call_a (node_of c.args.setting.now.ready c.requires.evaluating c.node-node.ensures) 21 (kind_in c.kind-kind.ensures c.in-Throw.is) refl).1

pub run-attempt-requires : goal.run-attempt-requires
unfolding layout kinds names_node
run-attempt-requires t c =
    let p = node_of c.args.setting.now.ready c.requires.evaluating c.node-node.ensures in
    let k =
    left_statement (statement_kind p refl) c.kind-kind.ensures
    c.in_default.not-Skip c.in_default.not-Assign c.in_default.not-Sequence c.in_default.not-If c.in_default.not-While c.in_default.not-Throw
    (no_choice c.eq.ensures c.if-eq.false) in
    let body = call_a p 22 k refl in
    let handler = call_b p 22 k refl in (
      omega (arith, body.0, handler.0, c.decreases),
      record {
        running = record { evaluating = body.1; proper = c.begin-q.ensures.proper };
        evaluating = handler.1;
        variable_below = stored_below p 22 k refl refl;
      },
    )

pub run-returns-in-Skip : goal.run-returns-in-Skip
run-returns-in-Skip t c =
    let a = c.args in
    record {
      reaches = skip_does (node_of c.args.setting.now.ready c.requires.evaluating c.node-node.ensures) a.budget c.begin-q.ensures c.if-q-ne-LIVE.false (kind_in c.kind-kind.ensures c.in-Skip.is);
      proper = c.begin-q.ensures.proper;
      sixteen = c.requires.evaluating.sixteen;
    }

pub run-returns-in-Assign : goal.run-returns-in-Assign
run-returns-in-Assign t c =
    let a = c.args in
    arrives (assign_does (node_of c.args.setting.now.ready c.requires.evaluating c.node-node.ensures) a.budget c.begin-q.ensures c.if-q-ne-LIVE.false (kind_in c.kind-kind.ensures c.in-Assign.is)) c.assign.ensures

pub run-returns-in-Sequence : goal.run-returns-in-Sequence
run-returns-in-Sequence t c =
    let a = c.args in
    arrives
    (ap (does a.budget a.setting.now.s a.setting.now.routine.image.now c.node-node.result.b)
    c.run-r.ensures.reaches
    ∙ sequence_does (node_of c.args.setting.now.ready c.requires.evaluating c.node-node.ensures) a.budget c.begin-q.ensures c.if-q-ne-LIVE.false (kind_in c.kind-kind.ensures c.in-Sequence.is))
    c.run-in-Sequence.ensures

pub run-returns-in-If : goal.run-returns-in-If
run-returns-in-If t c =
    let a = c.args in
    arrives
    (if_does (node_of c.args.setting.now.ready c.requires.evaluating c.node-node.ensures) a.budget c.begin-q.ensures c.if-q-ne-LIVE.false
    (kind_in c.kind-kind.ensures c.in-If.is) c.decided-part.ensures)
    c.run-in-If.ensures

pub run-returns-in-While : goal.run-returns-in-While
run-returns-in-While t c =
    let a = c.args in
    arrives (while_does (node_of c.args.setting.now.ready c.requires.evaluating c.node-node.ensures) a.budget c.begin-q.ensures c.if-q-ne-LIVE.false (kind_in c.kind-kind.ensures c.in-While.is)) c.repeat.ensures

pub run-returns-in-Throw : goal.run-returns-in-Throw
run-returns-in-Throw t c =
    let a = c.args in
    arrives (throw_does (node_of c.args.setting.now.ready c.requires.evaluating c.node-node.ensures) a.budget c.begin-q.ensures c.if-q-ne-LIVE.false (kind_in c.kind-kind.ensures c.in-Throw.is)) c.fault.ensures

pub run-returns-in_default : goal.run-returns-in_default
run-returns-in_default t c =
    let p = node_of c.args.setting.now.ready c.requires.evaluating c.node-node.ensures in
    let k =
    left_statement (statement_kind p refl) c.kind-kind.ensures
    c.in_default.not-Skip c.in_default.not-Assign c.in_default.not-Sequence c.in_default.not-If c.in_default.not-While c.in_default.not-Throw
    (no_choice c.eq.ensures c.if-eq.false) in
    arrives (try_does p c.args.budget c.begin-q.ensures c.if-q-ne-LIVE.false k) c.attempt.ensures
