-- What was listed reads back: "The lister prints one spelling per tree, and reading it gives back F and the tree with its conditions written out."
use Rattle.std.specs.Prelude.{◌≡◌, ℕ, ◌≤◌, ◌++◌, length}
use Rattle.std.proofs.Common.{Ok, ◌∙◌, arith}
use Rattle.std.proofs.Math.Path.{ap}
use Rattle.std.proofs.Math.ListN.{take, drop}
use Rattle.std.proofs.Math.Seq.{take-append_seam}
use borrow.Author.Tests.{ltb-false}
use Rattle.image.specs.Bytes.{Bytes, over}
use Rattle.image.specs.Records.{header}
use Rattle.image.specs.Rows.{NoneFails, check_rows}
use Rattle.image.specs.Accepted.{Accepted}
use Rattle.image.specs.Tree.{routine}
use Rattle.image.specs.Listing.{sizeˢ}
use Rattle.image.proofs.Theorem.Accepted.{accepted}
use Rattle.image.proofs.Theorem.Given.{carried_out}
use Rattle.image.proofs.Theorem.Carried.{none_each, carried, written_new}
use Rattle.written.specs.Count.{recordsˢ}
use Rattle.written.specs.Limits.{NODES, RECORDS}
use Rattle.written.specs.Image.{written_image}
use Rattle.written.specs.Told.{Holds}
use Rattle.written.proofs.Theorem.Listing.{listed_is}
use Rattle.written.proofs.Theorem.ImageTree.{routine_under, routine_valid, routine_size}
use Rattle.written.proofs.Theorem.ImageRead.{image_read}
use Rattle.listing.specs.Lists.{listing_of, text_rows, list_rows, Lists}

module _ (l out out' : Bytes) (n : ℕ) (told : Lists (list_rows l (length out)) l out out' (Ok n)) where
  abbrev text : Bytes
  text = listing_of l

  all_told : NoneFails (list_rows l (length out)) × (n ≡ length text)
  all_told = carried (list_rows l (length out)) (length text) n told.answered

  none : NoneFails (check_rows l) × NoneFails (text_rows l (length out))
  unfolding list_rows
  none = none_each (check_rows l) (text_rows l (length out)) all_told.0

  -- only an accepted image of at most 256 records is listed
  pub was_accepted : Accepted l
  was_accepted = accepted {A = ℕ} l 0 0 ((carried_out {A = ℕ} 0 (check_rows l)).1 none.0)

  pub few_records : recordsˢ (routine l) ≤ RECORDS
  unfolding text_rows
  few_records = ltb-false RECORDS (recordsˢ (routine l)) none.1.0

  -- the bytes written are the listing
  pub found : take n out' ≡ text
  unfolding over
  found =
      ap (take n) (told.out_is ∙ written_new (list_rows l (length out)) _ _ all_told.0)
      ∙ ap (λ k. take k (text ++ drop (length text) out)) all_told.1
      ∙ take-append_seam text (drop (length text) out)

  pub few_nodes : sizeˢ (routine l) ≤ NODES
  few_nodes = omega (arith, routine_size l was_accepted, was_accepted.few_nodes)

  -- they are a written form of F and the tree, within the limits, so that reading them gives these back
  pub reads_back : Holds (take n out') (header l).options (routine l)
  unfolding listing_of
  reads_back =
      rw found
      (record {
        reads = listed_is (header l).options (routine l) was_accepted.few_options (routine_valid l was_accepted) (routine_under l was_accepted);
        few_nodes = few_nodes;
        few_records = few_records;
      })

  -- and the image that is then read is of the same routine
  pub same_routine : routine (written_image (header l).options (routine l)) ≡ routine l
  same_routine =
      image_read (header l).options (routine l) was_accepted.few_options (routine_valid l was_accepted) (routine_under l was_accepted) few_nodes few_records
