-- How long an input and a text can be, by the limits of row 3: "F > 6, C > 256, P = 0 or P > 1,024".
use Rattle.std.specs.Prelude.{ℕ, ◌+◌, ◌*◌}

-- set and budget, the header, 256 conditions and 1,024 nodes
abbrev pub longest : ℕ
longest = 12 + (8 + 4 * 256 + 8 * 1024)

-- "it reads no more than 9,237 bytes, one beyond the longest possible input"
abbrev pub most : ℕ
most = longest + 1

-- a space that every text fits: a line for each of 64 settings and the last one, of at most 32 and 64 bytes
abbrev pub enough : ℕ
enough = 64 * 32 + 64
