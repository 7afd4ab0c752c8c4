-- The fixed words of a report, as bytes: byte 32 is the space between fields, and "Each line ends with byte 10."
use Rattle.std.specs.Prelude.{ℕ, List, [], ◌∷◌, ◌++◌, get_or}
use Rattle.image.specs.Bytes.{Bytes}
use Rattle.text.specs.Decimal.{decimal}

abbrev pub space : Bytes
space = 32 ∷ []

-- idle, done, fault, out
unfoldable pub outcome_words : List Bytes
outcome_words =
    (105 ∷ 100 ∷ 108 ∷ 101 ∷ [])
    ∷ (100 ∷ 111 ∷ 110 ∷ 101 ∷ [])
    ∷ (102 ∷ 97 ∷ 117 ∷ 108 ∷ 116 ∷ [])
    ∷ (111 ∷ 117 ∷ 116 ∷ [])
    ∷ []

-- "outcome in words (idle, done, fault, out)", of the outcome's number; no other number has a word
unfoldable pub word : ℕ → Bytes
word outcome = get_or outcome_words outcome []

-- "visits ", "faults ", "out "; "refused ", "at "
abbrev pub visits_word : Bytes
visits_word = 118 ∷ 105 ∷ 115 ∷ 105 ∷ 116 ∷ 115 ∷ 32 ∷ []

abbrev pub faults_word : Bytes
faults_word = 102 ∷ 97 ∷ 117 ∷ 108 ∷ 116 ∷ 115 ∷ 32 ∷ []

abbrev pub out_word : Bytes
out_word = 111 ∷ 117 ∷ 116 ∷ 32 ∷ []

abbrev pub refused_word : Bytes
refused_word = 114 ∷ 101 ∷ 102 ∷ 117 ∷ 115 ∷ 101 ∷ 100 ∷ 32 ∷ []

abbrev pub at_word : Bytes
at_word = 97 ∷ 116 ∷ 32 ∷ []

-- a number behind its word, and the byte that ends it
unfoldable pub field : Bytes → ℕ → ℕ → Bytes
field name n end = name ++ (decimal n ++ (end ∷ []))
