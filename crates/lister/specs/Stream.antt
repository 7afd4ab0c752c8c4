-- What is read of a stream, and what is told of it. That `read` hands out the bytes of a stream in order is all that is assumed.
use Rattle.std.specs.Prelude.{◌≡◌, ℕ, length, take}
use Rattle.image.specs.Bytes.{Bytes}
use Rattle.image.specs.Rows.{Answer, judge}
use Rattle.listing.specs.Lists.{listing_of, list_rows}

-- one beyond the longest image: 8 bytes, 256 conditions and 1,024 nodes
abbrev pub most : ℕ
most = 9225

-- a space that every listing fits
abbrev pub enough : ℕ
enough = 124692

-- whatever stream the n bytes of `image` were read from, until its end or until `image` was full, this is the answer to it
pub record Tells (image : Bytes) (n : ℕ) (told : Answer Bytes) : Type 0 where
  pub of_stream : (stream : Bytes) → take n image ≡ take (length image) stream → told ≡ judge (list_rows stream enough) (listing_of stream)
