-- `put_listing` meets its contract: its parts one behind the other.
use native.Mathlib.Omega.{arith}
use Rattle.text.proofs.Putting.{then, same}
use Rattle.listing.proofs.Whole.{kept, nodes_are, parts, long}
use Rattle.listing.proofs.put_listing.Goals as goal

pub overflow_sub-root : goal.overflow_sub-root
overflow_sub-root c =
    let pre = c.requires in
    omega (arith, nodes_are pre.shaped, pre.shaped.accepted.some_node)

pub put-word-requires : goal.put-word-requires
put-word-requires c =
    let pre = c.requires in
    omega (arith, pre.fits, long pre.shaped)

pub put_decimal-count-requires : goal.put_decimal-count-requires
put_decimal-count-requires c =
    let pre = c.requires in
    omega (arith, pre.fits, long pre.shaped, c.put-word.ensures.next_is, kept c.put-word.ensures)

pub put-line-requires : goal.put-line-requires
put-line-requires c =
    let pre = c.requires in
    omega (
      arith,
      pre.fits,
      long pre.shaped,
      c.put-word.ensures.next_is,
      kept c.put-word.ensures,
      c.put_decimal-count.ensures.next_is,
      kept c.put_decimal-count.ensures,
    )

pub list_node-end-requires : goal.list_node-end-requires
list_node-end-requires c =
    let pre = c.requires in
    rw c.of.ensures.0 (record {
      accepted = pre.shaped.accepted;
      node_below = omega (arith, nodes_are pre.shaped, pre.shaped.accepted.some_node);
      level_few = omega (arith, nodes_are pre.shaped, pre.shaped.accepted.few_nodes);
      fits = omega (
        arith,
        pre.fits,
        long pre.shaped,
        c.put-word.ensures.next_is,
        c.put_decimal-count.ensures.next_is,
        c.put-line.ensures.next_is,
        kept c.put-word.ensures,
        kept c.put_decimal-count.ensures,
        kept c.put-line.ensures,
      );
    })

pub put-requires : goal.put-requires
put-requires c =
    let pre = c.requires in
    omega (
      arith,
      pre.fits,
      long pre.shaped,
      c.put-word.ensures.next_is,
      c.put_decimal-count.ensures.next_is,
      c.put-line.ensures.next_is,
      (rw c.of.ensures.0 at c.list_node-end.ensures).next_is,
      kept c.put-word.ensures,
      kept c.put_decimal-count.ensures,
      kept c.put-line.ensures,
      kept c.list_node-end.ensures,
    )

pub returns : goal.returns
returns c =
    same (parts c.requires.shaped)
    (then c.put-word.ensures (then c.put_decimal-count.ensures (then c.put-line.ensures (then (rw c.of.ensures.0 at c.list_node-end.ensures) c.put.ensures))))
