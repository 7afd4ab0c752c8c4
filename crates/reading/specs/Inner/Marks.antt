-- What the reading of a word or mark that opens nothing leads to.
use Rattle.std.specs.Prelude.{Result, Ok, Err}
use Rattle.std.proofs.Math.Option.{Option}
use Rattle.image.specs.declared.refusals.Refusal.{Refusal}
use Rattle.image.specs.Bytes.{Bytes}
use Rattle.written.specs.Token.{Lexeme, nothing}
use Rattle.written.specs.Machine.{Stack}
use Rattle.reading.specs.declared.cursor.Cursor.{Cursor}
use Rattle.reading.specs.Inner.Way.{Way, Refuses, Opened}
use Rattle.reading.specs.Inner.Parts.{marked}

pub record Marked (text : Bytes) (c : Cursor) (o : Option Lexeme) (c' : Cursor) : Type 0 where
  pub way : (s : Stack) → Way text c c' (marked o s) s
  pub opened : Opened c c' nothing

abbrev pub Marks : Bytes → Cursor → Option Lexeme → Result Cursor Refusal → Type 0
Marks text c o (Ok c') = Marked text c o c'
Marks text c o (Err e) = (s : Stack) → Refuses text c (marked o s) e
