-- The words, numbers and marks of the written form, how each is spelled in bytes, and what may stand around them.
use Rattle.std.specs.Prelude.{ℕ, suc, ◌+◌, ◌-◌, ◌*◌, ◌≤◌, ◌<◌, ◌≡◌, Bool, true, false, not, ◌&&◌, List, [], ◌∷◌, ◌++◌, T, length, ℤ, pos, negsuc}
use Rattle.image.specs.Bytes.{Bytes}
use Rattle.written.specs.Byte.{is_space, is_digit, is_wordy}

-- a word or mark that is always spelled alike: its first byte, which is no space, and the rest of it
pub record Lexeme : Type 0 where
  pub head : ℕ
  pub rest : Bytes
  pub proper : T (not (is_space head))

-- what a token opens: a node of the routine, a condition record, or nothing
pub data Opens : Type 0 where
  nothing node record_of : Opens

pub data Token : Type 0 where
  fixed : Opens → Lexeme → Token
  -- v and a number below 16
  variable : Opens → ℕ → Token
  -- o and a number below the first, which is F
  option : ℕ → ℕ → Token
  -- F
  count : ℕ → Token
  number : ℤ → Token

-- it is a word or a number, and no mark
unfoldable pub tight : Token → Bool
tight (fixed o x) = is_wordy x.head
tight (variable o n) = true
tight (option F n) = true
tight (count n) = true
tight (number z) = true

unfoldable pub opens : Token → Opens
opens (fixed o x) = o
opens (variable o n) = o
opens (option F n) = record_of
opens (count n) = nothing
opens (number z) = node

-- ---- decimals

-- the digits after n make it m: n itself, or, where n is not 0, what one digit more makes of it
unfoldable pub Extends : ℕ → Bytes → ℕ → Type 0
Extends n [] m = n ≡ m
Extends n (c ∷ l) m = (0 < n) × T (is_digit c) × Extends (n * 10 + (c - 48)) l m

-- a decimal of m, with no plus and no leading zero
unfoldable pub Decimal : Bytes → ℕ → Type 0
Decimal [] m = ⊥
Decimal (c ∷ l) m = T (is_digit c) × Extends (c - 48) l m

-- a byte, then a decimal
unfoldable pub Behind : ℕ → Bytes → ℕ → Type 0
Behind b [] m = ⊥
Behind b (c ∷ l) m = (c ≡ b) × Decimal l m

-- ---- limits

-- "Variables are v0 to v15"
abbrev pub LAST_VARIABLE : ℕ
LAST_VARIABLE = 15

-- document 01: "F from 0 to 6"
abbrev pub MOST_OPTIONS : ℕ
MOST_OPTIONS = 6

-- "signed decimals in 32 bits": the highest, and the lowest behind its minus
abbrev pub HIGHEST : ℕ
HIGHEST = 2147483647

abbrev pub LOWEST : ℕ
LOWEST = 2147483648

-- ---- spellings

unfoldable pub Spells : Token → Bytes → Type 0
Spells (fixed o x) l = l ≡ x.head ∷ x.rest
Spells (variable o n) l = Behind 118 l n × (n ≤ LAST_VARIABLE)
Spells (option F n) l = Behind 111 l n × (n < F)
Spells (count n) l = Decimal l n × (n ≤ MOST_OPTIONS)
Spells (number (pos n)) l = Decimal l n × (n ≤ HIGHEST)
Spells (number (negsuc n)) l = Behind 45 l (suc n) × (suc n ≤ LOWEST)

-- where a token stands in a text: what it opens, whether it is a word or number, its first byte and the byte behind it
pub record Spot : Type 0 where
  pub does : Opens
  pub is_word : Bool
  pub from : ℕ
  pub upto : ℕ

abbrev pub spot_of : Token → ℕ → ℕ → Spot
spot_of t from upto = record { does = opens t; is_word = tight t; from = from; upto = upto }

-- "Spaces and line ends may stand around any word, number or mark, and must between two words or numbers": the text of some tokens from the place `at` on,
-- behind a word or number that has just ended if the second argument is true, and where each stands
pub data Spaced : ℕ → Bool → List Token → Bytes → List Spot → Type 0 where
  end : {at : ℕ} {g : Bool} → Spaced at g [] [] []
  space : {at : ℕ} {g : Bool} {c : ℕ} {ts : List Token} {l : Bytes} {ms : List Spot} → T (is_space c) → Spaced (suc at) false ts l ms → Spaced at g ts (c ∷ l) ms
  next : {at : ℕ} {g : Bool} {t : Token} {ts : List Token} {text : Bytes} {ms : List Spot} (s l : Bytes) → T (not (g && tight t)) → Spells t s → text ≡ s ++ l
      → Spaced (at + length s) (tight t) ts l ms → Spaced at g (t ∷ ts) text (spot_of t at (at + length s) ∷ ms)
