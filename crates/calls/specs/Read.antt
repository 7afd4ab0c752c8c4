-- Reading as a call in plain numbers: its reply, and what it leaves in `out`, by what the grammar says of the text.
use Rattle.std.specs.Prelude.{◌≡◌, ℕ, Bool, List, length}
use Rattle.image.specs.Bytes.{Bytes}
use Rattle.image.specs.Rows.{Answer}
use Rattle.written.specs.Told.{Told}
use Rattle.reading.specs.Reads.{length_of, left_by}
use Rattle.calls.specs.declared.reply.Reply.{Reply}
use Rattle.calls.specs.Reply.{reply, length_reply}
use Rattle.calls.specs.Space.{where_right, Answers}

-- the length of the image, or the refusal
abbrev pub read_reply : Answer Bytes → Reply
read_reply told = reply length_reply (length_of told)

pub record AnsweredRead (text out out' : Bytes) (space space' : List ℕ) (y : Bool) : Type 0 where
  pub told : Answer Bytes
  pub by_grammar : Told text (length out) told
  pub answers : Answers space space' (read_reply told) y
  pub out_is : out' ≡ where_right space (left_by told out) out
