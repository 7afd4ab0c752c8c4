-- What passing spaces does, and what a cursor faces that stands at the first byte of a token.
use Rattle.std.specs.Prelude.{◌≡◌, ℕ, ◌<◌, false, ◌&&◌, length, get_or, Result, Ok, Err}
use Rattle.image.specs.declared.refusals.Refusal.{Refusal}
use Rattle.image.specs.Bytes.{Bytes}
use Rattle.written.specs.Byte.{is_space, is_wordy}
use Rattle.written.specs.Token.{Lexeme, nothing}
use Rattle.written.specs.Machine.{Class, Value, Stack, mark, want}
use Rattle.reading.specs.declared.cursor.Cursor.{Cursor}
use Rattle.reading.specs.Inner.Way.{Good, Way, Refuses, Opened}

pub record Passes (text : Bytes) (c c' : Cursor) : Type 0 where
  pub way : (s : Stack) → Way text c c' s s
  pub opened : Opened c c' nothing
  pub stops : c'.at < length text → is_space (get_or text c'.at 0) ≡ false

-- the cursor stands at a byte that is no space, and at none that makes one word of two
pub record Faces (text : Bytes) (c : Cursor) : Type 0 where
  pub before_end : c.at < length text
  pub no_space : is_space (get_or text c.at 0) ≡ false
  pub apart : (c.tight && is_wordy (get_or text c.at 0)) ≡ false

-- the first byte of a token has been met
pub record Met (text : Bytes) (c : Cursor) : Type 0 where
  pub good : Good text c
  pub faces : Faces text c

-- to the first byte of a token, where one is still to come
pub record Meets (text : Bytes) (c c' : Cursor) : Type 0 where
  pub a_mark : (x : Lexeme) (s : Stack) → Way text c c' (mark x s) (mark x s)
  pub a_part : (F : ℕ) (k : Class) (f : Value k → Stack) → Way text c c' (want F k f) (want F k f)
  pub opened : Opened c c' nothing
  pub is_met : Met text c'

-- there is none, or it makes one word of two
pub record Unmet (text : Bytes) (c : Cursor) (e : Refusal) : Type 0 where
  pub no_mark : (x : Lexeme) (s : Stack) → Refuses text c (mark x s) e
  pub no_part : (F : ℕ) (k : Class) (f : Value k → Stack) → Refuses text c (want F k f) e

abbrev pub ToToken : Bytes → Cursor → Result Cursor Refusal → Type 0
ToToken text c (Ok d) = Meets text c d
ToToken text c (Err e) = Unmet text c e
