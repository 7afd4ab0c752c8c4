-- The machine's whole answer to a text: what it read, or its refusal, with the limits kept.
use Rattle.std.specs.Prelude.{ℕ, suc, ◌+◌, Bool, true, false, ◌&&◌, List, [], ◌∷◌, reverse, leb}
use Rattle.std.proofs.Math.Option.{Option, none, some}
use Rattle.image.specs.Bytes.{Bytes}
use Rattle.written.specs.Token.{Spot}
use Rattle.written.specs.Machine.{Result, behind, State, plain, fork, first, digits, step, start, Outcome, read, refused, go, outcome}
use Rattle.written.specs.Limits.{first_too_many, whole_in}

-- the spots of the tokens that may have ended by now, the last first
unfoldable pub so_far : State → List Spot
so_far (plain w x g s) = w.spots
so_far (fork w F f) = w.spots
so_far (first B p hi f) = B.log.spots
so_far (digits B n hi f) = (behind B (B.now + 0)).spots

abbrev pub or_stay : State → Option State → (State → State) → State
or_stay q none on = q
or_stay q (some q') on = on q'

-- the state behind as many bytes as fit, and how many those are
unfoldable pub last : Bytes → State → State
last [] q = q
last (b ∷ l) q = or_stay q (step q b) λ q'. last l q'

abbrev pub or_none : Option State → (State → ℕ) → ℕ
or_none none on = 0
or_none (some q) on = suc (on q)

unfoldable pub reach : Bytes → State → ℕ
reach [] q = 0
reach (b ∷ l) q = or_none (step q b) λ q'. reach l q'

-- F, the tree and its places; Refusal 17 and Refusal 18 with their places
pub data Answer : Type 0 where
  gives : Result → Answer
  refused_17 : ℕ → Answer
  refused_18 : ℕ → Answer

abbrev pub within : Outcome → Answer
within (read R) = gives R
within (refused p) = refused_17 p

abbrev pub by_whole : Bool → Spot → Answer → Answer
by_whole true m a = refused_18 m.from
by_whole false m a = a

abbrev pub limited : Option Spot → Bytes → ℕ → Answer → Answer
limited none text n a = a
limited (some m) text n a = by_whole (leb m.upto n && whole_in m text) m a

-- "the earlier byte decides": a whole token that opens too much stands before the byte that fits nothing
unfoldable pub answer : Bytes → Answer
answer text = limited (first_too_many (reverse (so_far (last text start)))) text (reach text start) (within (outcome text))

-- the answer to a text of which `at` bytes have led to q, with l still to come
unfoldable pub from : Bytes → Bytes → State → ℕ → Answer
from text l q at = limited (first_too_many (reverse (so_far (last l q)))) text (at + reach l q) (within (go l q at))
