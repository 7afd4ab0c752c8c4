-- What the report answers and what it leaves in `out`: its text if that fits, else only how long it is.
use Rattle.std.specs.Prelude.{◌≡◌, ℕ, cond, ltb, length, Result, Ok, Err}
use Rattle.image.specs.Bytes.{Bytes, over}
use Rattle.lines.specs.declared.answer.Short.{Short}

-- of the text that is meant
pub record Reports (text out out' : Bytes) (r : Result ℕ Short) : Type 0 where
  pub answered : r ≡ cond (ltb (length out) (length text)) (Err (record { 0 = length text })) (Ok (length text))
  pub out_is : out' ≡ cond (ltb (length out) (length text)) out (over text out)
