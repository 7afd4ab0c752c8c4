-- How much of a stream the programs read, and what they tell of it.
use Rattle.std.specs.Prelude.{ℕ, Result, Ok, Err, take}
use Rattle.image.specs.declared.refusals.Refusal.{Refusal}
use Rattle.image.specs.Bytes.{Bytes}
use Rattle.image.specs.Refusals.{number_of, place_of}
use Rattle.image.specs.Rows.{Answer, refused, answer}

-- the longest space: a text of 256 KiB, and a byte by which its end is seen
abbrev pub most : ℕ
most = 262145

-- what stands at the start of a space, or the refusal
abbrev pub as_told : Result ℕ Refusal → Bytes → Answer Bytes
as_told (Ok end) space = answer (take end space)
as_told (Err r) space = refused (number_of r) (place_of r)
