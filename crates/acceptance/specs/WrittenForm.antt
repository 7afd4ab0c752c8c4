-- The written form, of the calls (request C-11): what a text is read as, and what an image is listed as. For whatever keeps the promises of `read` and `list`.
use Rattle.std.specs.Prelude.{◌≡◌, ℕ, ◌+◌, ◌*◌, ◌≤◌, length, take, drop, Result, Ok}
use Rattle.imp.specs.Condition.{Condition}
use Rattle.imp.specs.Routine.{Statement}
use Rattle.image.specs.declared.refusals.Refusal.{Refusal}
use Rattle.image.specs.declared.accept.Shape.{Shape}
use Rattle.image.specs.Bytes.{Bytes}
use Rattle.image.specs.Records.{header}
use Rattle.image.specs.Check.{answer_of, shape_of}
use Rattle.image.specs.Rows.{judge, check_rows}
use Rattle.image.specs.Tree.{routine}
use Rattle.image.specs.Listing.{sizeˢ}
use Rattle.written.specs.Count.{recordsˢ}
use Rattle.written.specs.Grammar.{Reads}
use Rattle.written.specs.Image.{written_image}
use Rattle.written.specs.Lister.{listed}
use Rattle.reading.specs.Reads.{ReadsText}
use Rattle.listing.specs.Lists.{list_rows, Lists}

-- reading a text wrote n bytes of out'
pub record ReadsAs (text out out' : Bytes) (n : ℕ) : Type 0 where
  -- "Every reading is unique": the grammar says this F and this tree of the text, and no other
  pub F : ℕ
  pub tree : Statement Condition
  pub reads : Reads text F tree
  pub only : (F' : ℕ) (t' : Statement Condition) → Reads text F' t' → (F' ≡ F) × (t' ≡ tree)
  -- what is written passes the check, with F, "one condition record for each written occurrence" and the tree's nodes
  pub passes : (r : Result Shape Refusal) → answer_of r ≡ judge (check_rows (take n out')) (shape_of (take n out'))
      → r ≡ Ok (record { options = F; conditions = recordsˢ tree; nodes = sizeˢ tree })
  -- and has that tree
  pub tree_is : routine (take n out') ≡ tree
  -- "nodes in configuring's order", conditions "choice by choice in text order, operands first": every byte
  pub bytes_are : take n out' ≡ written_image F tree
  pub beyond : drop n out' ≡ drop n out

-- listing l wrote n bytes of out'
pub record ListsAs (l out out' : Bytes) (n : ℕ) : Type 0 where
  -- "The lister prints one spelling per tree"
  pub text_is : take n out' ≡ listed (header l).options (routine l)
  -- "and reading it gives back F and the tree with its conditions written out", wherever there is space for the image
  pub gives_back : (out₂ out₂' : Bytes) (r : Result ℕ Refusal) → let m : ℕ = 8 + 4 * recordsˢ (routine l) + 8 * (header l).nodes in
      m ≤ length out₂ → ReadsText (take n out') out₂ out₂' r
      → (r ≡ Ok m) × ((header (take m out₂')).options ≡ (header l).options) × (routine (take m out₂') ≡ routine l)
  -- what was read is listed as the same text, wherever there is space for it
  pub again : (out₂ out₂' out₃ out₃' : Bytes) (m : ℕ) (r : Result ℕ Refusal) → ReadsText (take n out') out₂ out₂' (Ok m)
      → n ≤ length out₃ → Lists (list_rows (take m out₂') (length out₃)) (take m out₂') out₃ out₃' r
      → (r ≡ Ok n) × (take n out₃' ≡ take n out')
  pub beyond : drop n out' ≡ drop n out
