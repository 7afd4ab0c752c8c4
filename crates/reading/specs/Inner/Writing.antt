-- The image of what has been read, from its options, condition records and nodes as words.
use Rattle.std.specs.Prelude.{◌≡◌, ℕ, ◌≤◌, ◌<◌, List, ◌++◌, length, take, Result, Ok, Err}
use Rattle.image.specs.declared.refusals.Refusal.{Refusal}
use Rattle.image.specs.declared.refusals.Refusal.TheVariants.{SpaceShort}
use Rattle.image.specs.Bytes.{Bytes, over}
use Rattle.image.specs.Term.{head_word, bytes_of, all_bytes}
use Rattle.written.specs.Image.{record_bytes}

unfoldable pub image_of : ℕ → List ℕ → List ℕ → Bytes
image_of F records nodes = bytes_of 8 (head_word F (length records) (length nodes)) ++ (record_bytes records ++ all_bytes nodes)

-- the first so many records and nodes are to be written
pub record Writing (F conditions count : ℕ) (records nodes : List ℕ) : Type 0 where
  pub options_few : F ≤ 6
  pub conditions_few : conditions ≤ 256
  pub nodes_few : count ≤ 1024
  pub records_there : conditions ≤ length records
  pub nodes_there : count ≤ length nodes

-- "14 last", and nothing is written then
pub record Writes (F conditions count : ℕ) (records nodes : List ℕ) (out out' : Bytes) (r : Result ℕ Refusal) : Type 0 where
  pub no_space : length out < length (image_of F (take conditions records) (take count nodes)) → (r ≡ Err SpaceShort) × (out' ≡ out)
  pub written : length (image_of F (take conditions records) (take count nodes)) ≤ length out
      → (r ≡ Ok (length (image_of F (take conditions records) (take count nodes)))) × (out' ≡ over (image_of F (take conditions records) (take count nodes)) out)
