-- A refusal's line tells its number and place, and no run's text is such a line. The idea: a digit is no byte below 48, so a line is cut at its spaces.
use Rattle.std.specs.Prelude.{◌≡◌, refl, Bool, true, false, cond, [], ◌∷◌, ◌++◌, ℕ, zero, suc, ◌+◌, ◌/◌, ◌%◌, ◌^◌, ◌≤◌, ◌<◌, ltb, get_or, drop}
use Rattle.std.proofs.Common.{sym, ◌∙◌, ap, append_assoc, arith}
use Rattle.imp.specs.Shared.{Shared}
use Rattle.image.specs.Bytes.{Bytes}
use Rattle.plain.specs.PlainRun.{progress_of}
use Rattle.text.specs.Decimal.{digits, decimal}
use Rattle.lines.specs.Words.{field}
use Rattle.lines.specs.Text.{line, lines, refusal_line}
use Rattle.text.specs.Theorem.Digits.{reading, read_back}

-- ---- digits are bytes from 48 on

abbrev High : Bytes → Type 0
High [] = Unit {0}
High (x ∷ u) = (48 ≤ x) × High u

high_both : (u v : Bytes) → High u → High v → High (u ++ v)
high_both [] v h k = k
high_both (x ∷ u) v h k = (h.0, high_both u v h.1 k)

high_digits : (k n : ℕ) → High (digits k n)
unfolding digits
high_digits zero n = tt
high_digits (suc k) n = go (ltb n 10) (high_digits k (n / 10))
  where
    go : (u : Bool) → High (digits k (n / 10)) → High (cond u ((48 + n) ∷ []) (digits k (n / 10) ++ ((48 + n % 10) ∷ [])))
    go true ih = (omega arith, tt)
    go false ih = high_both (digits k (n / 10)) ((48 + n % 10) ∷ []) ih (omega arith, tt)

high_decimal : (n : ℕ) → High (decimal n)
unfolding decimal
high_decimal n = high_digits 20 n

-- the first byte below 48 ends a number
cut_at : (e : ℕ) → e < 48 → (u u' v v' : Bytes) → High u → High u' → u ++ (e ∷ v) ≡ u' ++ (e ∷ v') → (u ≡ u') × (v ≡ v')
cut_at e low [] [] v v' h h' q = (refl, cc)
cut_at e low [] (y ∷ u') v v' h h' q = let z : e ≡ y = cc in absurd (omega (arith, h'.0))
cut_at e low (x ∷ u) [] v v' h h' q = let z : x ≡ e = cc in absurd (omega (arith, h.0))
cut_at e low (x ∷ u) (y ∷ u') v v' h h' q =
    let first : x ≡ y = cc in
    let rest = cut_at e low u u' v v' h.1 h'.1 cc in
    (λ i. first i ∷ rest.0 i, rest.1)

same_number : (n n' : ℕ) → n < 2 ^ 64 → n' < 2 ^ 64 → decimal n ≡ decimal n' → n ≡ n'
same_number n n' h h' e = sym (read_back n h) ∙ ap (reading 0) e ∙ read_back n' h'

-- ---- a line tells its number and place

-- what stands behind the number
abbrev behind : ℕ → Bytes
behind p = 97 ∷ 116 ∷ 32 ∷ (decimal p ++ (10 ∷ []))

number_on : (n p : ℕ) → drop 8 (refusal_line n p) ≡ decimal n ++ (32 ∷ behind p)
unfolding refusal_line field
number_on n p = append_assoc (decimal n) (32 ∷ []) (behind p)

pub same_line : (n n' p p' : ℕ) → n < 2 ^ 64 → n' < 2 ^ 64 → p < 2 ^ 64 → p' < 2 ^ 64 → refusal_line n p ≡ refusal_line n' p' → (n ≡ n') × (p ≡ p')
same_line n n' p p' hn hn' hp hp' e =
    let numbers : decimal n ++ (32 ∷ behind p) ≡ decimal n' ++ (32 ∷ behind p') = sym (number_on n p) ∙ ap (drop 8) e ∙ number_on n' p' in
    let cut = cut_at 32 (omega arith) (decimal n) (decimal n') (behind p) (behind p') (high_decimal n) (high_decimal n') numbers in
    let places : decimal p ++ (10 ∷ []) ≡ decimal p' ++ (10 ∷ []) = ap (drop 3) cut.1 in
    let ends = cut_at 10 (omega arith) (decimal p) (decimal p') [] [] (high_decimal p) (high_decimal p') places in
    (same_number n n' hn hn' cut.0, same_number p p' hp hp' ends.0)

-- ---- a run's text starts with setting 0, a refusal's with its word

starts_0 : (n : ℕ) (Σ : Shared) (rest : Bytes) → get_or (lines (suc n) Σ ++ rest) 0 0 ≡ 48
unfolding lines line decimal digits
starts_0 zero Σ rest = refl
starts_0 (suc n) Σ rest =
    ap (λ u. get_or u 0 0) (append_assoc (lines (suc n) Σ) (line (suc n) (progress_of (Σ.at (suc n)))) rest)
    ∙ starts_0 n Σ (line (suc n) (progress_of (Σ.at (suc n))) ++ rest)

starts_r : (n p : ℕ) → get_or (refusal_line n p) 0 0 ≡ 114
unfolding refusal_line field
starts_r n p = refl

pub no_line : (N : ℕ) → 0 < N → (Σ : Shared) (rest : Bytes) (n p : ℕ) → lines N Σ ++ rest ≡ refusal_line n p → ⊥
no_line zero some Σ rest n p e = omega arith
no_line (suc N) some Σ rest n p e = omega (arith, sym (starts_0 N Σ rest) ∙ ap (λ u. get_or u 0 0) e ∙ starts_r n p)
