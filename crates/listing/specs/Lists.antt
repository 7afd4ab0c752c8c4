-- What the lister answers and what it leaves in `out` (request C-11).
use Rattle.std.specs.Prelude.{◌≡◌, ℕ, List, [], ◌∷◌, ◌++◌, ltb, length, Result}
use Rattle.image.specs.Bytes.{Bytes, over}
use Rattle.image.specs.Records.{header}
use Rattle.image.specs.declared.refusals.Refusal.{Refusal}
use Rattle.image.specs.Rows.{Row, row, judge, written, check_rows}
use Rattle.image.specs.Check.{answer_of}
use Rattle.image.specs.Tree.{routine}
use Rattle.written.specs.Count.{recordsˢ}
use Rattle.written.specs.Limits.{RECORDS}
use Rattle.written.specs.Lister.{listed}

-- the image's F and its routine, as the lister prints them
unfoldable pub listing_of : Bytes → Bytes
listing_of l = listed (header l).options (routine l)

-- 18 "if its conditions written out exceed 256", and "14 last"
unfoldable pub text_rows : Bytes → ℕ → List Row
text_rows l space = row 18 (ltb RECORDS (recordsˢ (routine l))) ∷ row 14 (ltb space (length (listing_of l))) ∷ []

-- "The lister: 1 to 8, then 18, place 0"
unfoldable pub list_rows : Bytes → ℕ → List Row
list_rows l space = check_rows l ++ text_rows l space

-- what the lister answers and what it leaves in `out`, where `rows` are still to be tested
pub record Lists (rows : List Row) (l out out' : Bytes) (r : Result ℕ Refusal) : Type 0 where
  pub answered : answer_of r ≡ judge rows (length (listing_of l))
  pub out_is : out' ≡ written rows (over (listing_of l) out) out
