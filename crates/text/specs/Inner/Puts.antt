-- What a function that writes a text from `at` on leaves: the bytes, which fit, and the place behind them.
use Rattle.std.specs.Prelude.{◌≡◌, ℕ, ◌+◌, ◌≤◌, length}
use Rattle.std.proofs.lemmas.List.Edits.{sets}
use Rattle.image.specs.Bytes.{Bytes}

pub record Puts (text : Bytes) (at : ℕ) (out out' : Bytes) (next : ℕ) : Type 0 where
  pub fits : at + length text ≤ length out
  pub next_is : next ≡ at + length text
  pub out_is : out' ≡ sets out at text
