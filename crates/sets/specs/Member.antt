-- What a set of settings is: which settings are members, how many, and which sets are full.
use Rattle.std.specs.Prelude.{Bool, true, false, ℕ, zero, suc, ◌+◌, ◌-◌, ◌/◌, ◌%◌, ◌^◌, eqb, ltb, Option, None, Some}
use Rattle.sets.specs.declared.Set.{Set}

-- the binary digit of n of weight 2 ^ s
unfoldable pub digit : ℕ → ℕ → ℕ
digit n s = n / 2 ^ s % 2

-- bit s of n is one. Also "option k is on in setting s exactly when bit k of s (weight 2^k) is one": `bit s k`
unfoldable pub bit : ℕ → ℕ → Bool
bit n s = eqb (digit n s) 1

-- "A set of settings is a 64-bit number: bit s stands for setting s"
abbrev pub has : Set → ℕ → Bool
has S s = bit S.bits s

-- how many of the first k settings are members
unfoldable pub members : ℕ → ℕ → ℕ
members n zero = 0
members n (suc k) = members n k + digit n k

-- an answer in document 01's terms: a refusal's number and place, or the bits of the full set
pub data Verdict : Type 0 where
  refused : ℕ → ℕ → Verdict
  full_set : ℕ → Verdict

abbrev pub verdict_of : Option Set → Verdict
verdict_of (Some S) = full_set S.bits
verdict_of None = refused 3 0

-- "The full set of F options is refused with 3 when F is above 6", at place 0. Else it has the settings below 2 ^ f: those below n
-- are the members of 2 ^ n - 1 (`bit_ones` of proofs/Laws.antt)
abbrev pub judged : Bool → ℕ → Verdict
judged true f = refused 3 0
judged false f = full_set (2 ^ 2 ^ f - 1)

unfoldable pub full_of : ℕ → Verdict
full_of f = judged (ltb 6 f) f

-- the members of an answer: a refusal has none
abbrev pub full_has : Option Set → ℕ → Bool
full_has (Some S) s = has S s
full_has None s = false

-- what the panel is told of a verdict: the bits, 0 for a refusal; the refusal's number, 0 for none
abbrev pub bits_of : Verdict → ℕ
bits_of (refused number place) = 0
bits_of (full_set bits) = bits

abbrev pub verdict_number : Verdict → ℕ
verdict_number (refused number place) = number
verdict_number (full_set bits) = 0
