-- Cases on a kind's number: what holds of each of the 19 kinds of node, and of every number that has no layout, holds of all.
use Rattle.std.specs.Prelude.{◌≡◌, refl, ℕ, zero, suc}
use Rattle.image.specs.Layout.{kinds, layout}

-- the first eight, and the rest
eight : (Q : ℕ → Type 0) → Q 0 → Q 1 → Q 2 → Q 3 → Q 4 → Q 5 → Q 6 → Q 7
    → ((k : ℕ) → Q (suc (suc (suc (suc (suc (suc (suc (suc k))))))))) → (k : ℕ) → Q k
eight Q q0 q1 q2 q3 q4 q5 q6 q7 rest zero = q0
eight Q q0 q1 q2 q3 q4 q5 q6 q7 rest (suc zero) = q1
eight Q q0 q1 q2 q3 q4 q5 q6 q7 rest (suc (suc zero)) = q2
eight Q q0 q1 q2 q3 q4 q5 q6 q7 rest (suc (suc (suc zero))) = q3
eight Q q0 q1 q2 q3 q4 q5 q6 q7 rest (suc (suc (suc (suc zero)))) = q4
eight Q q0 q1 q2 q3 q4 q5 q6 q7 rest (suc (suc (suc (suc (suc zero))))) = q5
eight Q q0 q1 q2 q3 q4 q5 q6 q7 rest (suc (suc (suc (suc (suc (suc zero)))))) = q6
eight Q q0 q1 q2 q3 q4 q5 q6 q7 rest (suc (suc (suc (suc (suc (suc (suc zero))))))) = q7
eight Q q0 q1 q2 q3 q4 q5 q6 q7 rest (suc (suc (suc (suc (suc (suc (suc (suc k)))))))) = rest k

abbrev Later : (ℕ → Type 0) → ℕ → Type 0
Later Q k = Q (suc (suc (suc (suc (suc (suc (suc (suc k))))))))

pub kind_cases : (Q : ℕ → Type 0) → Q 0 → Q 1 → Q 2 → Q 3 → Q 4 → Q 8 → Q 9 → Q 10 → Q 11 → Q 12 → Q 13
    → Q 16 → Q 17 → Q 18 → Q 19 → Q 20 → Q 21 → Q 22 → Q 23 → ((k : ℕ) → layout k ≡ 0 → Q k) → (k : ℕ) → Q k
unfolding layout kinds
kind_cases Q q0 q1 q2 q3 q4 q8 q9 q10 q11 q12 q13 q16 q17 q18 q19 q20 q21 q22 q23 other =
    eight Q q0 q1 q2 q3 q4 (other 5 refl) (other 6 refl) (other 7 refl)
    (eight (Later Q) q8 q9 q10 q11 q12 q13 (other 14 refl) (other 15 refl)
    (eight (Later (Later Q)) q16 q17 q18 q19 q20 q21 q22 q23 (λ k. other _ refl)))
