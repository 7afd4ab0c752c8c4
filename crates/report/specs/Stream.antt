-- What is read of a stream, and what is told of it. That `read` hands out the bytes of a stream in order is all that is assumed.
use Rattle.std.specs.Prelude.{◌≡◌, ℕ, length, take}
use Rattle.image.specs.Bytes.{Bytes}
use Rattle.lines.specs.Text.{text}

-- "it reads no more than 9,237 bytes": whatever stream the n bytes of `input` were read from, until its end or until `input` was full, these are its text
pub record Tells (input : Bytes) (n : ℕ) (told : Bytes) : Type 0 where
  pub is_text : (stream : Bytes) → take n input ≡ take (length input) stream → told ≡ text stream
