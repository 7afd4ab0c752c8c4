-- The cycle of `run` and its kinds: each member meets its contract, given that the others do for smaller measures.
use mathlib.Core.Path.{◌≡◌, refl, sym, ◌∙◌, ap}
use mathlib.Core.Bool.{not}
use native.Mathlib.Omega.{arith}
use Rattle.sets.specs.Member.{bit}
use Rattle.imp.specs.Shared.{for}
use Rattle.image.specs.Layout.{kinds, layout, names_node}
use Rattle.shared.specs.Inner.Handed.{image_in}
use Rattle.shared.specs.Inner.Acting.{acting}
use Rattle.shared.specs.Inner.Sharing.{following, deciding, turning, trying}
use Rattle.shared.proofs.Begun.{does_nothing}
use Rattle.shared.proofs.Keeping.{begun_on, no_more, after_run, reaching, can_begin}
use Rattle.shared.proofs.Left.{any_left, does_all}
use Rattle.shared.proofs.Loops.{from_start, turned, nearer, ending}
use Rattle.shared.proofs.Parting.{node_of, for_some_of, can_ask, can_act, parts_chosen, parts_decided}
use Rattle.shared.proofs.Statements.{alone_as, below_a, below_b, below_c, chooses, follows, decides, repeats, attempts, expression, variable_there, choice_shares, skip_begins, sequence_begins, if_begins, while_begins, try_begins, act_begins, known}
use Rattle.shared.proofs.Tries.{after_act, tried}
use Rattle.shared.proofs.Whose.{where_tested}
use mathlib.Core.Bool.{Bool, true, false}
use Prim.Native.Nat.{ℕ}
use Rattle.shared.specs.declared.turn.Turn.{Turn}
use denote.Enum.Bare.{sameb, same_true, same_false}
use Rattle.image.specs.contracts.kinds.Kind.{the_type}
use Rattle.image.specs.declared.kinds.Kind.{Kind}
use Rattle.image.specs.declared.kinds.Kind.TheVariants.{Choice}
use Rattle.image.specs.Kinds.{kind_number}
use Rattle.shared.proofs.run.+attempt_both_choose_decide_follow_repeat_run.Goals as goal

-- ---- `attempt` meets its contract: the body, the faults taken, the handler for exactly those.

pub attempt-act_for-requires : goal.attempt-act_for-requires
attempt-act_for-requires t c =
    let a = c.args in
    let pre = c.requires in
    let ran : Turn = record a.turn { visits = c.run-visits.result } in
    can_act a.plan.now (record ran { on = c.ask_for-yes.result }) _
    (for_some_of a.plan.now ran _ (after_run a.plan.now a.turn _ pre.sharing _ _ _ _ c.run-visits.ensures.shares) c.ask_for-yes.result _ c.ask_for-yes.ensures)
    (λ other. absurd (other pre.attempts.is_try)) (λ other. pre.attempts.variable_below)

pub attempt-run-requires : goal.attempt-run-requires
attempt-run-requires t c =
    let a = c.args in
    let pre = c.requires in
    let ran : Turn = record a.turn { visits = c.run-visits.result } in
    let caught = for_some_of a.plan.now ran _ (after_run a.plan.now a.turn _ pre.sharing _ _ _ _ c.run-visits.ensures.shares) c.ask_for-yes.result _ c.ask_for-yes.ensures in
    (omega (arith, c.decreases), (pre.attempts.handler, after_act a.plan.now _ _ caught c.act_for.ensures.acted))

pub attempt-returns-clause-shares : goal.attempt-returns-clause-shares
attempt-returns-clause-shares t c =
    let a = c.args in
    tried a.plan.now a.node c.requires.attempts.is_try (bit a.turn.on.bits) _ _ _ _ c.run-visits.ensures.shares c.ask_for-yes.ensures c.act_for.ensures.acted c.run.ensures.shares

-- ---- `both` meets its contract: one run after another.

pub both-run-requires : goal.both-run-requires
both-run-requires t c =
    let pre = c.requires in
    (omega (arith, c.decreases), (pre.of_class.1, after_run c.args.plan.now (record c.args.turn { on = c.args.rest }) _ pre.sharing_2 _ _ _ _ c.run-visits.ensures.shares))

-- ---- `choose` meets its contract: the two sets are those in the condition and those not in it.

pub choose-returns-clause-shares : goal.choose-returns-clause-shares
choose-returns-clause-shares t c =
    reaching (parts_chosen c.args.plan.now c.args.turn c.args.lent.now c.requires.sharing c.requires.chooses _ c.meet.result c.take_away-no.result c.at-chosen.ensures c.meet.ensures c.take_away-no.ensures _)
    c.both.ensures.shares

-- ---- `decide` meets its contract: both sets are known before either part runs.

pub decide-returns-clause-shares : goal.decide-returns-clause-shares
decide-returns-clause-shares t c =
    let pre = c.requires in
    reaching
    (parts_decided c.args.plan.now c.args.turn _ pre.sharing c.args.node c.ask_for-yes.result c.take_away-no.result (λ e. omega (arith, e, pre.decides.is_if))
    c.ask_for-yes.ensures c.take_away-no.ensures)
    c.both.ensures.shares

-- ---- `repeat` meets its contract: each turn leaves what is still to do the same, and one less of the budget.

pub repeat-begin_for-left-requires : goal.repeat-begin_for-left-requires
repeat-begin_for-left-requires t c =
    can_begin c.args.plan.now (record c.loop-node.now { visits = c.run-visits.result }) _
    (after_run c.args.plan.now c.loop-node.now _ c.loop-node.invariant.1.sharing_on _ _ _ _ c.run-visits.ensures.shares)

pub repeat-ask_for-again-requires : goal.repeat-ask_for-again-requires
repeat-ask_for-again-requires t c =
    can_ask c.args.plan.now c.begin_for-left.result _
    (begun_on c.args.plan.now (record c.loop-node.now { visits = c.run-visits.result }) _
    (after_run c.args.plan.now c.loop-node.now _ c.loop-node.invariant.1.sharing_on _ _ _ _ c.run-visits.ensures.shares) c.begin_for-left.ensures.begun)
    (λ other. c.requires.repeats.test)

pub repeat-loop-node-smaller : goal.repeat-loop-node-smaller
repeat-loop-node-smaller t c =
    let a = c.args in
    let live = c.begin_for-left.result in
    nearer a.plan.now a.node c.ask_for-again.result c.loop-node.invariant.1 c.run-visits.ensures.shares c.begin_for-left.ensures.begun
    (where_tested a.plan.now a.node (bit live.on.bits) c.begin_for-left.new.lent live.visits c.ask_for-again.result.bits c.ask_for-again.ensures
    (λ two. omega (arith, two, c.requires.repeats.is_while)))
    (sym c.is_empty.ensures ∙ c.loop-node-test.true)

pub repeat-loop-node-preserved : goal.repeat-loop-node-preserved
repeat-loop-node-preserved t c =
    let a = c.args in
    let live = c.begin_for-left.result in (
      search,
      turned a.plan.now a.node c.ask_for-again.result c.loop-node.invariant.1 c.run-visits.ensures.shares c.begin_for-left.ensures.begun
          (where_tested a.plan.now a.node (bit live.on.bits) c.begin_for-left.new.lent live.visits c.ask_for-again.result.bits c.ask_for-again.ensures
          (λ two. omega (arith, two, c.requires.repeats.is_while))),
    )

pub repeat-returns-clause-shares : goal.repeat-returns-clause-shares
repeat-returns-clause-shares t c =
    let a = c.args in
    reaching
    (from_start a.plan.now a.node a.lent.now a.turn c.ask_for-yes.result
    (where_tested a.plan.now a.node (bit a.turn.on.bits) a.lent.now a.turn.visits c.ask_for-yes.result.bits c.ask_for-yes.ensures
    (λ two. omega (arith, two, c.requires.repeats.is_while))))
    (ending a.plan.now a.node c.loop-node.invariant.1 (sym c.is_empty.ensures ∙ c.loop-node-test.false))

-- ---- `run` meets its contract: a choice is not begun; every other kind does its act for those who are left, or nothing where none is.

-- the test for a choice, passed and failed
kind_in : {n : ℕ} {j k : Kind} → kind_number j ≡ n → j ≡ k → n ≡ kind_number k
kind_in e same = sym e ∙ ap kind_number same

is_choice : {k : Kind} {u : Bool} → u ≡ sameb the_type k Choice → u ≡ true → k ≡ Choice
is_choice e passed = same_true the_type tt _ _ (sym e ∙ passed)

no_choice : {k : Kind} {u : Bool} → u ≡ sameb the_type k Choice → u ≡ false → k ≡ Choice → ⊥
no_choice e failed = same_false the_type _ _ (sym e ∙ failed)

pub run-kind-kind-requires : goal.run-kind-kind-requires
run-kind-kind-requires t c = known (node_of c.args.plan.now c.requires.of_class c.node-node.ensures) c.requires.of_class.is_class

pub run-choose-requires : goal.run-choose-requires
unfolding layout kinds names_node
run-choose-requires t c =
    let p = node_of c.args.plan.now c.requires.of_class c.node-node.ensures in
    let k = kind_in c.kind-kind.ensures (is_choice c.eq.ensures c.if-eq.true) in
    (omega (arith, c.decreases, (below_b p 23 k refl).0, (below_c p 23 k refl).0), (chooses p k, c.requires.sharing))

pub run-returns-then-eq-clause-shares : goal.run-returns-then-eq-clause-shares
run-returns-then-eq-clause-shares t c =
    let p = node_of c.args.plan.now c.requires.of_class c.node-node.ensures in
    reaching (choice_shares p (kind_in c.kind-kind.ensures (is_choice c.eq.ensures c.if-eq.true)) (bit c.args.turn.on.bits) _) c.choose.ensures.shares

pub run-begin_for-left-requires : goal.run-begin_for-left-requires
run-begin_for-left-requires t c = can_begin c.args.plan.now c.args.turn _ c.requires.sharing

pub run-returns-then-is_empty-clause-shares : goal.run-returns-then-is_empty-clause-shares
run-returns-then-is_empty-clause-shares t c =
    let plan = c.args.plan.now in
    let is_begun = c.begin_for-left.ensures.begun in
    let none = any_left c.args.plan.now c.args.turn _ c.requires.sharing is_begun c.is_empty.ensures ∙ ap not c.if-is_empty.true in
    record {
      reaches = does_nothing plan.settings plan.budget _ _ (bit c.begin_for-left.result.on.bits) _ _ is_begun.left_is is_begun.reaches none;
      lent = (begun_on c.args.plan.now c.args.turn _ c.requires.sharing is_begun).lent;
    }

pub run-follow-requires : goal.run-follow-requires
unfolding layout kinds names_node
run-follow-requires t c =
    let pre = c.requires.sharing in
    let p = node_of c.args.plan.now c.requires.of_class c.node-node.ensures in
    let k = kind_in c.kind-kind.ensures c.in-Sequence.is in
    (omega (arith, c.decreases, no_more c.args.plan.now c.args.turn _ pre c.begin_for-left.ensures.begun, (below_a p 18 k refl).0, (below_b p 18 k refl).0), (follows p k, begun_on c.args.plan.now c.args.turn _ pre c.begin_for-left.ensures.begun))

pub run-decide-requires : goal.run-decide-requires
unfolding layout kinds names_node
run-decide-requires t c =
    let pre = c.requires.sharing in
    let p = node_of c.args.plan.now c.requires.of_class c.node-node.ensures in
    let k = kind_in c.kind-kind.ensures c.in-If.is in
    (omega (arith, c.decreases, no_more c.args.plan.now c.args.turn _ pre c.begin_for-left.ensures.begun, (below_b p 19 k refl).0, (below_c p 19 k refl).0), (decides p k, begun_on c.args.plan.now c.args.turn _ pre c.begin_for-left.ensures.begun))

pub run-repeat-requires : goal.run-repeat-requires
unfolding layout kinds names_node
run-repeat-requires t c =
    let pre = c.requires.sharing in
    let p = node_of c.args.plan.now c.requires.of_class c.node-node.ensures in
    let k = kind_in c.kind-kind.ensures c.in-While.is in
    (omega (arith, c.decreases, no_more c.args.plan.now c.args.turn _ pre c.begin_for-left.ensures.begun, (below_b p 20 k refl).0), (repeats p k, begun_on c.args.plan.now c.args.turn _ pre c.begin_for-left.ensures.begun))

pub run-attempt-requires : goal.run-attempt-requires
unfolding layout kinds names_node
run-attempt-requires t c =
    let pre = c.requires.sharing in
    let p = node_of c.args.plan.now c.requires.of_class c.node-node.ensures in
    let k = kind_in c.kind-kind.ensures c.in-Try.is in
    (omega (arith, c.decreases, no_more c.args.plan.now c.args.turn _ pre c.begin_for-left.ensures.begun, (below_a p 22 k refl).0, (below_b p 22 k refl).0), (attempts p k, begun_on c.args.plan.now c.args.turn _ pre c.begin_for-left.ensures.begun))

-- the last arm is an assignment or a throw
pub run-act_for-requires : goal.run-act_for-requires
run-act_for-requires t c =
    let p = node_of c.args.plan.now c.requires.of_class c.node-node.ensures in
    let other = c.in_default in
    let alone = alone_as c.kind-kind.ensures other.not-Skip other.not-Sequence other.not-If other.not-While other.not-Try (no_choice c.eq.ensures c.if-eq.false) in
    can_act c.args.plan.now c.begin_for-left.result _ (begun_on c.args.plan.now c.args.turn _ c.requires.sharing c.begin_for-left.ensures.begun)
    (λ other. expression p c.requires.of_class.is_class alone) (variable_there p c.requires.of_class.is_class alone)

pub run-returns-in-Skip-clause-shares : goal.run-returns-in-Skip-clause-shares
run-returns-in-Skip-clause-shares t c =
    let pre = c.requires.sharing in
    let p = node_of c.args.plan.now c.requires.of_class c.node-node.ensures in
    record {
      reaches = does_all c.args.plan.now c.args.turn _ pre c.begin_for-left.ensures.begun c.is_empty.ensures c.args.n (λ L Σ. Σ) c.if-is_empty.false (skip_begins p (kind_in c.kind-kind.ensures c.in-Skip.is));
      lent = (begun_on c.args.plan.now c.args.turn _ pre c.begin_for-left.ensures.begun).lent;
    }

pub run-returns-in-Sequence-clause-shares : goal.run-returns-in-Sequence-clause-shares
run-returns-in-Sequence-clause-shares t c =
    let pre = c.requires.sharing in
    let p = node_of c.args.plan.now c.requires.of_class c.node-node.ensures in
    reaching
    (does_all c.args.plan.now c.args.turn _ pre c.begin_for-left.ensures.begun c.is_empty.ensures c.args.n (following c.args.plan.now c.node-node.result)
    c.if-is_empty.false (sequence_begins p (kind_in c.kind-kind.ensures c.in-Sequence.is)))
    c.follow.ensures.shares

pub run-returns-in-If-clause-shares : goal.run-returns-in-If-clause-shares
run-returns-in-If-clause-shares t c =
    let pre = c.requires.sharing in
    let p = node_of c.args.plan.now c.requires.of_class c.node-node.ensures in
    reaching
    (does_all c.args.plan.now c.args.turn _ pre c.begin_for-left.ensures.begun c.is_empty.ensures c.args.n (deciding c.args.plan.now c.node-node.result)
    c.if-is_empty.false (if_begins p (kind_in c.kind-kind.ensures c.in-If.is)))
    c.decide.ensures.shares

pub run-returns-in-While-clause-shares : goal.run-returns-in-While-clause-shares
run-returns-in-While-clause-shares t c =
    let pre = c.requires.sharing in
    let p = node_of c.args.plan.now c.requires.of_class c.node-node.ensures in
    reaching
    (does_all c.args.plan.now c.args.turn _ pre c.begin_for-left.ensures.begun c.is_empty.ensures c.args.n (turning c.args.plan.now c.node-node.result)
    c.if-is_empty.false (while_begins p (kind_in c.kind-kind.ensures c.in-While.is)))
    c.repeat.ensures.shares

pub run-returns-in-Try-clause-shares : goal.run-returns-in-Try-clause-shares
run-returns-in-Try-clause-shares t c =
    let pre = c.requires.sharing in
    let p = node_of c.args.plan.now c.requires.of_class c.node-node.ensures in
    reaching
    (does_all c.args.plan.now c.args.turn _ pre c.begin_for-left.ensures.begun c.is_empty.ensures c.args.n (trying c.args.plan.now c.node-node.result)
    c.if-is_empty.false (try_begins p (kind_in c.kind-kind.ensures c.in-Try.is)))
    c.attempt.ensures.shares

pub run-returns-in_default-clause-shares : goal.run-returns-in_default-clause-shares
run-returns-in_default-clause-shares t c =
    let pre = c.requires.sharing in
    let p = node_of c.args.plan.now c.requires.of_class c.node-node.ensures in
    let other = c.in_default in
    let alone = alone_as c.kind-kind.ensures other.not-Skip other.not-Sequence other.not-If other.not-While other.not-Try (no_choice c.eq.ensures c.if-eq.false) in
    record {
      reaches =
          c.act_for.ensures.acted.acted c.begin_for-left.result.visits
          ∙ does_all c.args.plan.now c.args.turn _ pre c.begin_for-left.ensures.begun c.is_empty.ensures c.args.n (λ L Σ. for L (acting (image_in c.args.plan.now) c.node-node.result) Σ)
          c.if-is_empty.false (act_begins p c.requires.of_class.is_class alone);
      lent = c.act_for.ensures.acted.lent;
    }
