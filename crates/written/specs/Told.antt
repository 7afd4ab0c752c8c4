-- What a reader answers to a text, by the grammar alone: the image, or a refusal with its number and place.
use Rattle.std.specs.Prelude.{ℕ, ◌≤◌, ◌<◌, length}
use Rattle.imp.specs.Condition.{Condition}
use Rattle.imp.specs.Routine.{Statement}
use Rattle.image.specs.Bytes.{Bytes}
use Rattle.image.specs.Rows.{Answer, refused, answer}
use Rattle.image.specs.Listing.{sizeˢ}
use Rattle.written.specs.Grammar.{Reads, Refused17}
use Rattle.written.specs.Limits.{NODES, RECORDS, Refused18}
use Rattle.written.specs.Count.{recordsˢ}
use Rattle.written.specs.Image.{written_image}

-- the text is a written form of F and the tree, which keep the limits
pub record Holds (text : Bytes) (F : ℕ) (t : Statement Condition) : Type 0 where
  pub reads : Reads text F t
  pub few_nodes : sizeˢ t ≤ NODES
  pub few_records : recordsˢ t ≤ RECORDS

-- to a text, where there is space for so many bytes; of 17 and 18 "the earlier byte decides", and "14 last"
pub data Told (text : Bytes) (space : ℕ) : Answer Bytes → Type 0 where
  text_wrong : (p : ℕ) → Refused17 text p → ((q : ℕ) → Refused18 text q → p < q) → Told text space (refused 17 p)
  too_many : (p : ℕ) → Refused18 text p → ((q : ℕ) → Refused17 text q → p < q) → Told text space (refused 18 p)
  no_space : (F : ℕ) (t : Statement Condition) → Holds text F t → space < length (written_image F t) → Told text space (refused 14 0)
  read_as : (F : ℕ) (t : Statement Condition) → Holds text F t → length (written_image F t) ≤ space → Told text space (answer (written_image F t))
