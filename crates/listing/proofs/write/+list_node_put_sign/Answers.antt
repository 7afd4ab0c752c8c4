-- `list_node` and `put_sign` meet their contracts together. The measure of node n is 2n + 2, and that of a sign which stands for node x is 2x + 3: a node's
-- fields name lower nodes, so each call's is less.
use mathlib.Core.Path.{sym, ap, ◌∙◌}
use lib.ListN.{length}
use Rattle.listing.specs.Inner.Spelling.{spelling}
use native.Mathlib.Omega.{arith}
use Rattle.text.proofs.Putting.{same}
use Rattle.listing.proofs.Signs.{begun, goes_on, ends}
use Rattle.listing.proofs.Theorem.Image.{kind_known}
use Rattle.listing.proofs.Nodes as Nodes
use Rattle.listing.proofs.write.+list_node_put_sign.Goals as goal

-- `list_node` meets its contract: before each turn the signs below i are put.

pub list_node-kind-requires : goal.list_node-kind-requires
list_node-kind-requires t c = kind_known c.requires.accepted c.requires.node_below c.node-node.ensures

pub list_node-put_sign-end-requires : goal.list_node-put_sign-end-requires
list_node-put_sign-end-requires t c =
    let loop = c.loop-sign in
    let is = c.node-node.ensures in
    let are = (c.spelling-sign-items.ensures ∙ ap spelling c.kind.ensures) in (
      omega (arith, Nodes.falls c.requires is are loop.sign-index c.loop-sign-test.true),
      Nodes.signing c.requires is are loop.sign-index c.loop-sign-test.true c.all_short-flat.ensures loop.auto.out loop.invariant,
    )

pub list_node-loop-sign-init : goal.list_node-loop-sign-init
list_node-loop-sign-init t c = begun _ (omega (arith, c.requires.fits))

pub list_node-loop-sign-preserved : goal.list_node-loop-sign-preserved
list_node-loop-sign-preserved t c =
    goes_on _ _ _ c.loop-sign-test.true c.loop-sign.invariant c.put_sign-end.ensures

pub list_node-returns : goal.list_node-returns
list_node-returns t c =
    let loop = c.loop-sign in
    same (Nodes.spelled c.requires c.node-node.ensures (c.spelling-sign-items.ensures ∙ ap spelling c.kind.ensures)) (ends _ _ loop.sign-index c.loop-sign-test.false loop.invariant)

-- `put_sign` meets its contract: for each sign what stands for it.

pub put_sign-list_node-requires : goal.put_sign-list_node-requires
put_sign-list_node-requires t c =
    let pre = c.requires in
    let part = Nodes.a_stands pre c.in-65.is in
    (omega (arith, part.reach_is), Nodes.listing pre (omega arith) part)

pub put_sign-list_node-requires-in-66 : goal.put_sign-list_node-requires-in-66
put_sign-list_node-requires-in-66 t c =
    let pre = c.requires in
    let part = Nodes.b_stands pre c.in-66.is in
    (omega (arith, part.reach_is), Nodes.listing pre (omega arith) part)

pub put_sign-list_node-requires-in-67 : goal.put_sign-list_node-requires-in-67
put_sign-list_node-requires-in-67 t c =
    let pre = c.requires in
    let part = Nodes.c_stands pre c.in-67.is in
    (omega (arith, part.reach_is), Nodes.listing pre (omega arith) part)

pub put_sign-list_node-requires-in-88 : goal.put_sign-list_node-requires-in-88
put_sign-list_node-requires-in-88 t c =
    let pre = c.requires in
    let part = Nodes.x_stands pre c.in-88.is in
    (omega (arith, part.reach_is), Nodes.listing pre (omega arith) part)

pub put_sign-list_node-requires-in-89 : goal.put_sign-list_node-requires-in-89
put_sign-list_node-requires-in-89 t c =
    let pre = c.requires in
    let part = Nodes.y_stands pre c.in-89.is in
    (omega (arith, part.reach_is), Nodes.listing pre (omega arith) part)

pub put_sign-list_condition-requires : goal.put_sign-list_condition-requires
put_sign-list_condition-requires t c = Nodes.k_listing c.requires c.in-75.is

pub put_sign-put_plain-requires : goal.put_sign-put_plain-requires
put_sign-put_plain-requires t c =
    let pre = c.requires in
    let plain = Nodes.otherwise c.requires (λ e. omega arith) (λ e. omega arith) (λ e. omega arith) (λ e. omega arith) (λ e. omega arith) (λ e. omega arith) in
    record { level_few = omega (arith, pre.level_few); fits = omega (arith, pre.fits, ap length plain) }

pub put_sign-returns-in-65 : goal.put_sign-returns-in-65
put_sign-returns-in-65 t c =
    same (sym (Nodes.a_stands c.requires c.in-65.is).text_is) c.list_node.ensures

pub put_sign-returns-in-66 : goal.put_sign-returns-in-66
put_sign-returns-in-66 t c =
    same (sym (Nodes.b_stands c.requires c.in-66.is).text_is) c.list_node-in-66.ensures

pub put_sign-returns-in-67 : goal.put_sign-returns-in-67
put_sign-returns-in-67 t c =
    same (sym (Nodes.c_stands c.requires c.in-67.is).text_is) c.list_node-in-67.ensures

pub put_sign-returns-in-88 : goal.put_sign-returns-in-88
put_sign-returns-in-88 t c =
    same (sym (Nodes.x_stands c.requires c.in-88.is).text_is) c.list_node-in-88.ensures

pub put_sign-returns-in-89 : goal.put_sign-returns-in-89
put_sign-returns-in-89 t c =
    same (sym (Nodes.y_stands c.requires c.in-89.is).text_is) c.list_node-in-89.ensures

pub put_sign-returns-in-75 : goal.put_sign-returns-in-75
put_sign-returns-in-75 t c =
    same (sym (Nodes.k_text c.requires c.in-75.is)) c.list_condition.ensures

pub put_sign-returns-in_default : goal.put_sign-returns-in_default
put_sign-returns-in_default t c =
    same (sym (Nodes.otherwise c.requires (λ e. omega arith) (λ e. omega arith) (λ e. omega arith) (λ e. omega arith) (λ e. omega arith) (λ e. omega arith))) c.put_plain.ensures
