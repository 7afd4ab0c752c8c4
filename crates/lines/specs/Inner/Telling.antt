-- What the functions that tell of a run ask for.
use Rattle.std.specs.Prelude.{◌≡◌, ℕ, zero, suc, ◌*◌, ◌≤◌, List, [], ◌++◌, ℤ, length}
use Rattle.image.specs.Bytes.{Bytes}
use Rattle.image.specs.Sets.{settings}
use Rattle.shared.specs.Lent.{Tally, progress}
use Rattle.lines.specs.Limits.{enough}
use Rattle.lines.specs.Text.{line, zeros, blank}

-- the lines of the first n settings, by what is lent
unfoldable pub tallied : ℕ → Tally → Bytes
tallied zero T = []
tallied (suc n) T = tallied n T ++ line n (progress T n)

-- a line for each setting: 32 bytes are room for one
pub record Lined (room : ℕ) (outcomes : List ℕ) (codes : List ℤ) (steps : List ℕ) : Type 0 where
  pub few : length outcomes ≤ 64
  pub codes_length : length codes ≡ length outcomes
  pub steps_length : length steps ≡ length outcomes
  pub fits : length outcomes * 32 ≤ room

-- what is lent to the run is blank and made to measure, and there is room for its text
pub record Blank (N : ℕ) (xs : List ℤ) (T : Tally) (room : ℕ) : Type 0 where
  pub few : N ≤ 64
  pub store_is : xs ≡ zeros N
  pub tally_is : T ≡ blank N
  pub fits : enough ≤ room

-- n is the number of settings of the image, and there is room for its text
pub record Good (l : Bytes) (n room : ℕ) : Type 0 where
  pub few : n ≤ 64
  pub settings_are : n ≡ settings l
  pub fits : enough ≤ room
