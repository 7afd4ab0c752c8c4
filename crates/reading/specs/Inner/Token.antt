-- What the reading of one token makes of a cursor: spaces are passed, a word or number is read, and what it opens is counted.
use Rattle.std.specs.Prelude.{ℕ, suc, ◌+◌, ◌-◌, Bool, true, cond, ◌&&◌, eqb, leb, ltb, length, drop, get_or, Result, Ok, Err}
use Rattle.std.specs.List.{prefix_len}
use Rattle.image.specs.declared.refusals.Refusal.{Refusal}
use Rattle.image.specs.declared.refusals.Refusal.TheVariants.{TextWrong, TooMany}
use Rattle.image.specs.Bytes.{Bytes}
use Rattle.written.specs.Byte.{is_space, is_run, is_wordy}
use Rattle.written.specs.Token.{Opens, nothing, node, record_of}
use Rattle.written.specs.Machine.{low, first_fits}
use Rattle.written.specs.Limits.{NODES, RECORDS}
use Rattle.reading.specs.declared.cursor.Cursor.{Cursor}
use Rattle.reading.specs.declared.number.Number.{Number}
use Rattle.reading.specs.declared.token.Opens.{Opens as Opening}
use Rattle.reading.specs.declared.token.Opens.TheVariants.{Nothing, Node, Record}
use Rattle.reading.specs.Inner.Way.{node_of, record_in}
use Rattle.reading.specs.Inner.Spelling.{agree, more_digits, made}

-- ---- where a cursor can go

abbrev pub moved_to : Cursor → ℕ → Bool → Cursor
moved_to c at tight = record { at = at; tight = tight; nodes = c.nodes; records = c.records; node = c.node; condition = c.condition }

-- ---- spaces

abbrev pub spaces_in : Bytes → ℕ
spaces_in l = prefix_len is_space l

-- behind all spaces
unfoldable pub passed : Bytes → Cursor → Cursor
passed text c =
    let at : ℕ = c.at + spaces_in (drop c.at text) in
    moved_to c at (c.tight && eqb at c.at)

-- at the first byte of a token: there is one, and it makes no one word of two
unfoldable pub met : Bytes → Cursor → Result Cursor Refusal
met text c =
    let d : Cursor = passed text c in
    cond (eqb d.at (length text)) (Err (TextWrong d.at)) (cond (d.tight && is_wordy (get_or text d.at 0)) (Err (TextWrong d.at)) (Ok d))

-- ---- tokens, from their first byte on

-- behind a token that ends at `end`: what it opens is counted, and a whole one over a limit is one too many
unfoldable pub counted_to : Bytes → Cursor → ℕ → Bool → Opens → Result Cursor Refusal
counted_to text c end tight o =
    cond (leb (c.nodes + node_of o) NODES && leb (c.records + record_in o) RECORDS)
    (Ok (record { at = end; tight = tight; nodes = c.nodes + node_of o; records = c.records + record_in o; node = c.node; condition = c.condition }))
    (cond (tight && is_run (get_or text end 0)) (Err (TextWrong end)) (Err (TooMany c.at)))

-- what a token opens, as the code has it
abbrev pub opens_of : Opening → Opens
opens_of Nothing = nothing
opens_of Node = node
opens_of Record = record_of

-- behind a word or mark
unfoldable pub word_to : Bytes → Cursor → Bytes → Opens → Result Cursor Refusal
word_to text c x o =
    let n : ℕ = agree x (drop c.at text) in
    cond (ltb n (length x)) (Err (TextWrong (c.at + n))) (counted_to text c (c.at + n) (is_wordy (get_or x 0 0)) o)

-- behind the word or mark that is still to come
abbrev pub from_there : Result Cursor Refusal → (Cursor → Result Cursor Refusal) → Result Cursor Refusal
from_there (Ok d) f = f d
from_there (Err e) f = Err e

unfoldable pub fixed_to : Bytes → Cursor → Bytes → Result Cursor Refusal
fixed_to text c x = from_there (met text c) (λ d. word_to text d x nothing)

-- the value of a number from `at` on, from 0 to hi or from 1 to 1 + hi, and the place behind it
unfoldable pub value_at : Bytes → ℕ → Bool → ℕ → ℕ
value_at text at p hi = made (low p + hi) (get_or text at 0 - 48) (drop (suc at) text)

unfoldable pub end_at : Bytes → ℕ → Bool → ℕ → ℕ
end_at text at p hi = suc at + more_digits (low p + hi) (get_or text at 0 - 48) (drop (suc at) text)

abbrev pub with_value : Result Cursor Refusal → ℕ → Result Number Refusal
with_value (Ok d) v = Ok (record { cursor = d; value = v })
with_value (Err e) v = Err e

-- behind a token that is a number from `at` on
unfoldable pub number_to : Bytes → Cursor → ℕ → Bool → ℕ → Opens → Result Number Refusal
number_to text c at p hi o =
    cond (first_fits p hi (get_or text at 0))
    (cond (is_run (get_or text (end_at text at p hi) 0)) (Err (TextWrong (end_at text at p hi))) (with_value (counted_to text c (end_at text at p hi) true o) (value_at text at p hi)))
    (Err (TextWrong at))
