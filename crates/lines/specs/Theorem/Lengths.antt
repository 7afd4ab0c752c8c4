-- How long the parts of a line are at most.
use Rattle.std.specs.Prelude.{◌≡◌, refl, List, [], ◌∷◌, ◌++◌, ℕ, zero, suc, ◌+◌, ◌^◌, ◌≤◌, ◌<◌, ℤ, pos, negsuc, length}
use Rattle.std.proofs.Common.{arith, length-append, SFits}
use Rattle.std.specs.Int.{w32}
use Rattle.plain.specs.declared.progress.Progress.{Progress}
use Rattle.text.specs.Decimal.{decimal, signed_decimal}
use Rattle.lines.specs.Words.{space, outcome_words, word, field}
use Rattle.lines.specs.Text.{line}
use Rattle.text.specs.Theorem.Decimals.{at_most, short}

-- ---- numbers

pub two : (n : ℕ) → n < 100 → length (decimal n) ≤ 2
two n h = short 18 1 n refl (omega arith)

pub ten : (n : ℕ) → n < 2 ^ 32 → length (decimal n) ≤ 10
ten n h = short 10 9 n refl (omega arith)

pub twenty : (n : ℕ) → length (decimal n) ≤ 20
unfolding decimal
twenty n = at_most 20 n

pub eleven : (z : ℤ) → SFits w32 z → length (signed_decimal z) ≤ 11
unfolding signed_decimal
eleven (pos n) f = omega (arith, ten n (omega arith))
eleven (negsuc n) f = omega (arith, ten (suc n) (omega arith))

-- ---- a field, a word, a line

pub field_length : (name : List ℕ) (n end : ℕ) → length (field name n end) ≡ length name + length (decimal n) + 1
unfolding field
field_length name n end = omega (arith, length-append name (decimal n ++ (end ∷ [])), length-append (decimal n) (end ∷ []))

pub word_length : (outcome : ℕ) → length (space ++ (word outcome ++ space)) ≤ 7
unfolding word outcome_words
word_length zero = omega arith
word_length (suc zero) = omega arith
word_length (suc (suc zero)) = omega arith
word_length (suc (suc (suc zero))) = omega arith
word_length (suc (suc (suc (suc n)))) = omega arith

pub line_length : (s : ℕ) (p : Progress) → s < 64 → SFits w32 p.code → p.steps < 2 ^ 32 → length (line s p) ≤ 32
unfolding line
line_length s p h f g =
    let w : List ℕ = space ++ (word p.outcome ++ space) in
    let z : List ℕ = signed_decimal p.code in
    let t : List ℕ = field space p.steps 10 in
    omega (
      arith,
      two s (omega arith),
      word_length p.outcome,
      eleven p.code f,
      ten p.steps g,
      field_length space p.steps 10,
      length-append (decimal s) (w ++ (z ++ t)),
      length-append w (z ++ t),
      length-append z t,
    )
