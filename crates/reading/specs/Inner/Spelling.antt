-- What is read of a word and of a number: as far as the text agrees with the word, and as far as digits go.
use Rattle.std.specs.Prelude.{ℕ, suc, ◌+◌, ◌-◌, ◌*◌, Bool, cond, ◌&&◌, [], ◌∷◌, eqb, leb, ltb}
use Rattle.std.specs.List.{prefix_len, zip}
use Rattle.image.specs.Bytes.{Bytes}
use Rattle.written.specs.Byte.{is_digit}

-- how many bytes of a word a text begins with
abbrev pub agree : Bytes → Bytes → ℕ
agree x l = prefix_len (λ p. eqb p.1 p.0) (zip x l)

-- one digit more makes no number over hi, and none with a leading zero
abbrev pub goes_on : ℕ → ℕ → ℕ → Bool
goes_on hi n b = is_digit b && (ltb 0 n && leb (n * 10 + (b - 48)) hi)

-- how many digits go on with the number n, up to hi, and what they make of it
unfoldable pub more_digits : ℕ → ℕ → Bytes → ℕ
more_digits hi n [] = 0
more_digits hi n (b ∷ l) = cond (goes_on hi n b) (suc (more_digits hi (n * 10 + (b - 48)) l)) 0

unfoldable pub made : ℕ → ℕ → Bytes → ℕ
made hi n [] = n
made hi n (b ∷ l) = cond (goes_on hi n b) (made hi (n * 10 + (b - 48)) l) n
