-- `list_good` meets its contract: the records are counted before a byte is written, and the text fits the space that is kept for it.
use native.Mathlib.Omega.{arith}
use Rattle.text.proofs.Putting.{front, same}
use Rattle.listing.proofs.Whole.{enough, over_limit, within_limit, too_many, too_short, stored}
use Rattle.listing.proofs.list_good.Goals as goal

pub returns-then-written_records-gt-RECORDS : goal.returns-then-written_records-gt-RECORDS
returns-then-written_records-gt-RECORDS c = too_many _ _ (over_limit (rw c.of.ensures.0 at c.written_records.ensures) (omega (arith, c.if-written_records-gt-RECORDS.true)))

pub put_listing-end-requires : goal.put_listing-end-requires
put_listing-end-requires c =
    let pre = c.requires in
    let few = within_limit (rw c.of.ensures.0 at c.written_records.ensures) (omega (arith, c.if-written_records-gt-RECORDS.false)) in
    record { shaped = pre; fits = omega (arith, enough pre few) }

pub returns-then-out-end : goal.returns-then-out-end
returns-then-out-end c =
    let few = within_limit (rw c.of.ensures.0 at c.written_records.ensures) (omega (arith, c.if-written_records-gt-RECORDS.false)) in
    too_short _ _ few {end = c.put_listing-end.result} (omega (arith, c.put_listing-end.ensures.next_is)) (omega (arith, c.if-out-end.true))

pub returns : goal.returns
returns c =
    let text = c.put_listing-end.ensures in
    let few = within_limit (rw c.of.ensures.0 at c.written_records.ensures) (omega (arith, c.if-written_records-gt-RECORDS.false)) in
    stored _ _ few (omega (arith, text.next_is, c.if-out-end.false)) (same (front _ _ text) c.put.ensures)
