-- What is read of a number: its value, and the cursor behind it.
use Rattle.std.specs.Prelude.{◌≡◌, ℕ, ◌+◌, ◌≤◌, Bool, Result, IfOk}
use Rattle.image.specs.declared.refusals.Refusal.{Refusal}
use Rattle.image.specs.Bytes.{Bytes}
use Rattle.written.specs.Token.{Opens}
use Rattle.written.specs.Machine.{low}
use Rattle.reading.specs.declared.cursor.Cursor.{Cursor}
use Rattle.reading.specs.declared.number.Digits.{Digits}
use Rattle.reading.specs.declared.number.Number.{Number}
use Rattle.reading.specs.Inner.Token.{number_to}
use Rattle.reading.specs.Inner.Spelling.{more_digits, made}

-- the digits that a text begins with
pub record DigitsFrom (text : Bytes) (n most : ℕ) (r : Digits) : Type 0 where
  pub count_is : r.count ≡ more_digits most n text
  pub value_is : r.value ≡ made most n text

-- the token that has a number from `at` on
pub record NumberFrom (text : Bytes) (c : Cursor) (at : ℕ) (p : Bool) (hi : ℕ) (o : Opens) (r : Result Number Refusal) : Type 0 where
  pub is_so : r ≡ number_to text c at p hi o
  pub within : IfOk r λ n. (low p ≤ n.value) × (n.value ≤ low p + hi)
