-- `put_word` meets its contract: for each outcome its own word.
use mathlib.Core.Path.{◌≡◌, refl, sym, ap}
use mathlib.Core.List.{[], ◌++◌}
use Prim.Native.Nat.{ℕ, zero, suc}
use native.Mathlib.Omega.{arith}
use Rattle.lines.specs.Words.{space, outcome_words, word}
use Rattle.text.proofs.Putting.{same}
use Rattle.lines.proofs.line.put_word.Goals as goal

-- no other number has a word
wordless : (n : ℕ) → (n ≡ 0 → ⊥) → (n ≡ 1 → ⊥) → (n ≡ 2 → ⊥) → (n ≡ 3 → ⊥) → word n ≡ []
unfolding word outcome_words
wordless zero a b c d = absurd (a refl)
wordless (suc zero) a b c d = absurd (b refl)
wordless (suc (suc zero)) a b c d = absurd (c refl)
wordless (suc (suc (suc zero))) a b c d = absurd (d refl)
wordless (suc (suc (suc (suc n)))) a b c d = refl

pub returns-in_default : goal.returns-in_default
returns-in_default c =
    let none : word c.args.outcome ≡ [] = wordless c.args.outcome (λ e. omega arith) (λ e. omega arith) (λ e. omega arith) (λ e. omega arith) in
    same (ap (λ w. space ++ (w ++ space)) (sym none)) c.put-in_default.ensures
