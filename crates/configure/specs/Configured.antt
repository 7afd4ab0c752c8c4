-- What configuring answers and what it leaves in `out` (document 01, "Configuring", and rows 11 and 14 of the table).
use Rattle.std.specs.Prelude.{◌≡◌, ℕ, List, [], ◌∷◌, ◌++◌, ltb, length, Result}
use Rattle.imp.specs.Configure.{configure}
use Rattle.image.specs.declared.refusals.Refusal.{Refusal}
use Rattle.image.specs.Bytes.{Bytes, over}
use Rattle.image.specs.Rows.{Row, row, judge, written, check_rows}
use Rattle.image.specs.Check.{answer_of}
use Rattle.image.specs.Sets.{setting_row}
use Rattle.image.specs.Tree.{routine}
use Rattle.image.specs.Encode.{plain_image}

-- the image of the routine configured for setting s
unfoldable pub configured : Bytes → ℕ → Bytes
configured l s = plain_image (configure s (routine l))

-- 14: "output space shorter than the configured image"
unfoldable pub space_rows : Bytes → ℕ → ℕ → List Row
space_rows l s space = row 14 (ltb space (length (configured l s))) ∷ []

-- "configuring 11, 14"
unfoldable pub configure_rows : Bytes → ℕ → ℕ → List Row
configure_rows l s space = check_rows l ++ (setting_row l s ∷ space_rows l s space)

-- what configuring answers, "the length written", and what it leaves in `out`, where `rows` are still to be tested
pub record Configures (rows : List Row) (l : Bytes) (s : ℕ) (out out' : Bytes) (r : Result ℕ Refusal) : Type 0 where
  pub answered : answer_of r ≡ judge rows (length (configured l s))
  pub out_is : out' ≡ written rows (over (configured l s) out) out
