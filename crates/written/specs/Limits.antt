-- The limits of 1,024 nodes and 256 conditions, by the places of the tokens that open them.
use Rattle.std.specs.Prelude.{ℕ, zero, suc, ◌≤◌, ◌≡◌, Bool, false, not, ◌&&◌, List, [], ◌∷◌, ◌++◌, T, length, take, drop}
use Rattle.std.proofs.Math.Option.{Option, none, some}
use Rattle.imp.specs.Condition.{Condition}
use Rattle.imp.specs.Routine.{Statement}
use Rattle.image.specs.Bytes.{Bytes}
use Rattle.written.specs.Byte.{is_run}
use Rattle.written.specs.Token.{Opens, nothing, node, record_of, Spot}
use Rattle.written.specs.Grammar.{Placed}

-- "1,024 nodes and 256 conditions": node 1,025 and condition 257 are too many
abbrev pub NODES : ℕ
NODES = 1024

abbrev pub RECORDS : ℕ
RECORDS = 256

abbrev pub first_over_by : Opens → ℕ → ℕ → Spot → (ℕ → ℕ → Option Spot) → Option Spot
first_over_by nothing n k m on = on n k
first_over_by node zero k m on = some m
first_over_by node (suc n) k m on = on n k
first_over_by record_of n zero m on = some m
first_over_by record_of n (suc k) m on = on n k

-- the first token that opens a node past n or a condition past k
unfoldable pub first_over : ℕ → ℕ → List Spot → Option Spot
first_over n k [] = none
first_over n k (m ∷ ms) = first_over_by m.does n k m λ n k. first_over n k ms

abbrev pub first_too_many : List Spot → Option Spot
first_too_many ms = first_over NODES RECORDS ms

-- the text begins with a letter or digit
abbrev pub runs_on : Bytes → Bool
runs_on [] = false
runs_on (b ∷ l) = is_run b

-- the token ends in the text where its spot says: no word or number of it goes on
abbrev pub whole_in : Spot → Bytes → Bool
whole_in m text = not (m.is_word && runs_on (drop m.upto text))

-- "18 a whole word, number or bracket that opens node 1,025 or condition 257, at its first byte": some continuation of the text up to that token's end fits
pub record Refused18 (text : Bytes) (place : ℕ) : Type 0 where
  pub spot : Spot
  pub others : List Spot
  pub more : Bytes
  pub F : ℕ
  pub tree : Statement Condition
  pub fits : Placed (take spot.upto text ++ more) F tree others
  pub is_first : first_too_many others ≡ some spot
  pub in_it : spot.upto ≤ length text
  pub whole : T (whole_in spot text)
  pub here : spot.from ≡ place
