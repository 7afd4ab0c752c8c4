-- The sets of an image's conditions as a table, and what is known when one of them is worked out.
use Rattle.std.specs.Prelude.{◌≡◌, true, List, ℕ, ◌+◌, ◌*◌, ◌≤◌, ◌<◌, ltb, length, get_or}
use Rattle.sets.specs.Member.{bit}
use Rattle.image.specs.Bytes.{Bytes}
use Rattle.image.specs.Records.{header, condition_record}
use Rattle.image.specs.Rows.{condition_fits}
use Rattle.image.specs.Sets.{settings, in_condition}

-- the sets of the first n conditions, as numbers
pub record SetsOf (l : Bytes) (n : ℕ) (sets : List ℕ) : Type 0 where
  pub right : (k : ℕ) → k < n → (s : ℕ) → bit (get_or sets k 0) s ≡ in_condition l k s

-- the whole table, of 256 places: the sets of all n conditions, and from n on the empty set
pub record TableOf (l : Bytes) (n : ℕ) (sets : List ℕ) : Type 0 where
  pub sets_are : SetsOf l n sets
  pub empty_beyond : (k : ℕ) → n ≤ k → get_or sets k 0 ≡ 0
  pub length_is : length sets ≡ 256

-- what is known when the set of condition k is worked out
pub record Turn (l : Bytes) (k full : ℕ) (sets : List ℕ) : Type 0 where
  pub room : 8 + 4 * k + 4 ≤ length l
  pub fits : condition_fits (header l).options k (condition_record l k) ≡ true
  pub full_is : (s : ℕ) → bit full s ≡ ltb s (settings l)
  pub before : SetsOf l k sets
