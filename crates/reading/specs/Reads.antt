-- What reading answers, and what it leaves in `out`: by the grammar alone.
use Rattle.std.specs.Prelude.{◌≡◌, ℕ, length, Result}
use Rattle.image.specs.Bytes.{Bytes, over}
use Rattle.image.specs.declared.refusals.Refusal.{Refusal}
use Rattle.image.specs.Rows.{Answer, refused, answer}
use Rattle.image.specs.Check.{answer_of}
use Rattle.written.specs.Told.{Told}

-- the length of the image that a text is read as
abbrev pub length_of : Answer Bytes → Answer ℕ
length_of (refused n p) = refused n p
length_of (answer l) = answer (length l)

-- "nothing written when refused; bytes beyond the image as they were"
abbrev pub left_by : Answer Bytes → Bytes → Bytes
left_by (refused n p) out = out
left_by (answer l) out = over l out

-- a text was read: what the grammar says of it was answered, and `out` left so
pub record ReadsText (text out out' : Bytes) (r : Result ℕ Refusal) : Type 0 where
  pub told : Answer Bytes
  pub by_grammar : Told text (length out) told
  pub answered : answer_of r ≡ length_of told
  pub out_is : out' ≡ left_by told out
