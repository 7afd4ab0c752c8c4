-- A reading by the grammar: which refusal it answers, exactly when, and what it then leaves.
use Rattle.std.specs.Prelude.{◌≡◌, [], ◌↔◌, ℕ, ◌≤◌, ◌<◌, length, Result}
use Rattle.std.proofs.Common.{sym, ◌∙◌, ap, subst, arith}
use Rattle.imp.specs.Condition.{Condition}
use Rattle.imp.specs.Routine.{Statement}
use Rattle.image.specs.Check.{answer_of}
use Rattle.image.specs.declared.refusals.Refusal.{Refusal}
use Rattle.image.specs.Bytes.{Bytes}
use Rattle.image.specs.Rows.{Answer, refused, answer}
use Rattle.written.specs.Grammar.{Refused17}
use Rattle.written.specs.Limits.{Refused18}
use Rattle.written.specs.Image.{written_image}
use Rattle.written.specs.Told.{Holds, Told, text_wrong, too_many, no_space, read_as}
use Rattle.written.proofs.Theorem.ToldOne.{told_one}
use Rattle.reading.specs.Reads.{length_of, left_by, ReadsText}

-- ---- what each answer says of the text

-- 17 and 18 at p, where "the earlier byte decides"
abbrev pub First17 : Bytes → ℕ → Type 0
First17 text p = Refused17 text p × ((q : ℕ) → Refused18 text q → p < q)

abbrev pub First18 : Bytes → ℕ → Type 0
First18 text p = Refused18 text p × ((q : ℕ) → Refused17 text q → p < q)

-- the text is of the grammar and within the limits, and its image is so long
abbrev pub Within : Bytes → (ℕ → Type 0) → Type 0
Within text long = (F : ℕ) × (t : Statement Condition) × Holds text F t × long (length (written_image F t))

module _ {text : Bytes} {space : ℕ} where
  wrong_at : {a : Answer Bytes} (p : ℕ) → Told text space a → a ≡ refused 17 p → First17 text p
  wrong_at p (text_wrong q w f) e = let same : q ≡ p = cc in subst (First17 text) same (w, f)
  wrong_at p (too_many q w f) e = let z : ◌≡◌ {A = ℕ} 18 17 = cc in absurd (omega arith)
  wrong_at p (no_space F t h k) e = let z : ◌≡◌ {A = ℕ} 14 17 = cc in absurd (omega arith)
  wrong_at p (read_as F t h k) e = let z : ◌≡◌ {A = ℕ} 0 1 = cc in absurd (omega arith)

  many_at : {a : Answer Bytes} (p : ℕ) → Told text space a → a ≡ refused 18 p → First18 text p
  many_at p (text_wrong q w f) e = let z : ◌≡◌ {A = ℕ} 17 18 = cc in absurd (omega arith)
  many_at p (too_many q w f) e = let same : q ≡ p = cc in subst (First18 text) same (w, f)
  many_at p (no_space F t h k) e = let z : ◌≡◌ {A = ℕ} 14 18 = cc in absurd (omega arith)
  many_at p (read_as F t h k) e = let z : ◌≡◌ {A = ℕ} 0 1 = cc in absurd (omega arith)

  short_at : {a : Answer Bytes} (p : ℕ) → Told text space a → a ≡ refused 14 p → (p ≡ 0) × Within text (λ n. space < n)
  short_at p (text_wrong q w f) e = let z : ◌≡◌ {A = ℕ} 17 14 = cc in absurd (omega arith)
  short_at p (too_many q w f) e = let z : ◌≡◌ {A = ℕ} 18 14 = cc in absurd (omega arith)
  short_at p (no_space F t h k) e = let same : p ≡ 0 = cc in (same, (F, t, h, k))
  short_at p (read_as F t h k) e = let z : ◌≡◌ {A = ℕ} 0 1 = cc in absurd (omega arith)

  fits_in : {a : Answer Bytes} (n : ℕ) → Told text space a → length_of a ≡ answer n → Within text (λ n. n ≤ space)
  fits_in n (text_wrong q w f) e = let z : ◌≡◌ {A = ℕ} 0 1 = cc in absurd (omega arith)
  fits_in n (too_many q w f) e = let z : ◌≡◌ {A = ℕ} 0 1 = cc in absurd (omega arith)
  fits_in n (no_space F t h k) e = let z : ◌≡◌ {A = ℕ} 0 1 = cc in absurd (omega arith)
  fits_in n (read_as F t h k) e = (F, t, h, k)

-- ---- of a call that keeps the promise

-- an answer without its image
abbrev bare : Answer ℕ → Answer Bytes
bare (refused n p) = refused n p
bare (answer n) = answer []

refused_too : (a : Answer Bytes) (n p : ℕ) → length_of a ≡ refused n p → a ≡ refused n p
refused_too (refused m q) n p e = ap bare e
refused_too (answer l) n p e = let z : ◌≡◌ {A = ℕ} 0 1 = cc in absurd (omega arith)

module _ (text out out' : Bytes) (r : Result ℕ Refusal) (done : ReadsText text out out' r) where
  -- what is told of the text is answered and left
  pub told_so : {a : Answer Bytes} → Told text (length out) a → (answer_of r ≡ length_of a) × (out' ≡ left_by a out)
  told_so t =
      let same = told_one done.by_grammar t in
      (done.answered ∙ ap length_of same, done.out_is ∙ ap (λ a. left_by a out) same)

  refused_so : (n p : ℕ) → answer_of r ≡ refused n p → done.told ≡ refused n p
  refused_so n p e = refused_too done.told n p (sym done.answered ∙ e)

  pub text_wrong_is : (p : ℕ) → (answer_of r ≡ refused 17 p) ↔ First17 text p
  text_wrong_is p = (λ e. wrong_at p done.by_grammar (refused_so 17 p e), λ h. (told_so (text_wrong p h.0 h.1)).0)

  pub too_many_is : (p : ℕ) → (answer_of r ≡ refused 18 p) ↔ First18 text p
  too_many_is p = (λ e. many_at p done.by_grammar (refused_so 18 p e), λ h. (told_so (too_many p h.0 h.1)).0)

  pub no_space_is : (p : ℕ) → (answer_of r ≡ refused 14 p) ↔ ((p ≡ 0) × Within text (λ n. length out < n))
  no_space_is p = (
    λ e. short_at p done.by_grammar (refused_so 14 p e),
    λ h. (told_so (no_space h.1.0 h.1.1 h.1.2 h.1.3)).0 ∙ ap (refused 14) (sym h.0),
  )

  pub carried_out_is : ((n : ℕ) × (answer_of r ≡ answer n)) ↔ Within text (λ n. n ≤ length out)
  carried_out_is = (
    λ e. fits_in e.0 done.by_grammar (sym done.answered ∙ e.1),
    λ h. (length (written_image h.0 h.1), (told_so (read_as h.0 h.1 h.2 h.3)).0),
  )

  pub as_lent : (n p : ℕ) → answer_of r ≡ refused n p → out' ≡ out
  as_lent n p e = done.out_is ∙ ap (λ a. left_by a out) (refused_so n p e)
