-- The words and marks of Figure 4.1 and of request C-11, as they are written.
use Rattle.std.specs.Prelude.{ℕ, not, [] as []ᴸ, ◌∷◌ as ◌∷ᴸ◌, T}
use Prim.Native.Char.{code}
use Prim.Native.String.{String, [], ◌∷◌}
use Rattle.image.specs.Bytes.{Bytes}
use Rattle.written.specs.Byte.{is_space}
use Rattle.written.specs.Token.{Lexeme}

-- the bytes of a text
abbrev pub bytes : String → Bytes
bytes [] = []ᴸ
bytes (c ∷ s) = code c ∷ᴸ bytes s

-- a word or mark: its first byte, which is no space, and the rest of it
abbrev pub first_byte : String → ℕ
first_byte [] = 0
first_byte (c ∷ s) = code c

abbrev pub rest_of : String → Bytes
rest_of [] = []ᴸ
rest_of (c ∷ s) = bytes s

abbrev pub lexeme : (s : String) → T (not (is_space (first_byte s))) → Lexeme
lexeme s p = record { head = first_byte s; rest = rest_of s; proper = p }

abbrev pub OPTIONS : Lexeme
OPTIONS = lexeme "options" tt

abbrev pub SKIP : Lexeme
SKIP = lexeme "skip" tt

abbrev pub IF : Lexeme
IF = lexeme "if" tt

abbrev pub THEN : Lexeme
THEN = lexeme "then" tt

abbrev pub ELSE : Lexeme
ELSE = lexeme "else" tt

abbrev pub WHILE : Lexeme
WHILE = lexeme "while" tt

abbrev pub DO : Lexeme
DO = lexeme "do" tt

abbrev pub THROW : Lexeme
THROW = lexeme "throw" tt

abbrev pub TRY : Lexeme
TRY = lexeme "try" tt

abbrev pub CATCH : Lexeme
CATCH = lexeme "catch" tt

abbrev pub WITH : Lexeme
WITH = lexeme "with" tt

abbrev pub TRUE : Lexeme
TRUE = lexeme "true" tt

abbrev pub FALSE : Lexeme
FALSE = lexeme "false" tt

abbrev pub NOT : Lexeme
NOT = lexeme "not" tt

abbrev pub BOTH : Lexeme
BOTH = lexeme "both" tt

abbrev pub PICK : Lexeme
PICK = lexeme "pick" tt

abbrev pub AND : Lexeme
AND = lexeme "and" tt

abbrev pub OR : Lexeme
OR = lexeme "or" tt

abbrev pub GETS : Lexeme
GETS = lexeme ":=" tt

abbrev pub LEFT : Lexeme
LEFT = lexeme "(" tt

abbrev pub RIGHT : Lexeme
RIGHT = lexeme ")" tt

abbrev pub PLUS : Lexeme
PLUS = lexeme "+" tt

abbrev pub BELOW : Lexeme
BELOW = lexeme "<" tt

abbrev pub BRACE : Lexeme
BRACE = lexeme "{" tt

abbrev pub SEMI : Lexeme
SEMI = lexeme ";" tt

abbrev pub UNBRACE : Lexeme
UNBRACE = lexeme "}" tt

abbrev pub ASK : Lexeme
ASK = lexeme "?" tt

abbrev pub COLON : Lexeme
COLON = lexeme ":" tt

abbrev pub BRACKET : Lexeme
BRACKET = lexeme "[" tt

abbrev pub UNBRACKET : Lexeme
UNBRACKET = lexeme "]" tt
