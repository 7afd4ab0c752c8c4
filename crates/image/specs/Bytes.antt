-- Numbers in bytes: "Fields are packed most significant bit first, without gaps."
use Rattle.std.specs.Prelude.{ℕ, zero, suc, ◌+◌, ◌*◌, ◌/◌, ◌%◌, ◌^◌, List, ◌++◌, length, get_or, drop}

abbrev pub Bytes : Type 0
Bytes = List ℕ

-- the number that n bytes from `at` make, most significant first
unfoldable pub number_at : Bytes → ℕ → ℕ → ℕ
number_at l at zero = 0
number_at l at (suc n) = number_at l at n * 256 + get_or l (at + n) 0

-- the field of a width in bits, above `shift` lower bits
abbrev pub field : ℕ → ℕ → ℕ → ℕ
field w shift width = w / 2 ^ shift % 2 ^ width

-- bytes written from the start of `out`: "Bytes beyond it stay as they were."
unfoldable pub over : Bytes → Bytes → Bytes
over l out = l ++ drop (length l) out
