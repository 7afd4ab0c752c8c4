-- What is read of a stream, and what is told of it. That `read` hands out the bytes of a stream in order is all that is assumed.
use Rattle.std.specs.Prelude.{◌≡◌, ℕ, length, take}
use Rattle.image.specs.Bytes.{Bytes}
use Rattle.image.specs.Rows.{Answer}
use Rattle.written.specs.Told.{Told}

-- the longest image: 8 bytes, 256 conditions and 1,024 nodes
abbrev pub longest : ℕ
longest = 9224

-- whatever stream the n bytes of `text` were read from, until its end, this is the answer to it
pub record Tells (text : Bytes) (n : ℕ) (told : Answer Bytes) : Type 0 where
  pub of_stream : (stream : Bytes) → take n text ≡ take (length text) stream → Told stream longest told
