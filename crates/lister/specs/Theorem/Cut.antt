-- Bytes behind the first 9,225 change no answer: an image that is longer than any is refused by its header, or else for its length.
use Rattle.std.specs.Prelude.{◌≡◌, refl, Bool, true, false, cond, List, ◌∷◌, ◌++◌, ℕ, zero, suc, ◌+◌, ◌*◌, ◌≤◌, ltb, length, take}
use Rattle.std.proofs.Common.{sym, ◌∙◌, ap, ap₂, true≢false, arith, length-take, get_or-take, le-ltb, ne_eqb}
use Rattle.std.proofs.lemmas.Bool.{false≢true}
use Rattle.image.specs.declared.records.Header.{Header}
use Rattle.image.specs.Bytes.{Bytes, number_at}
use Rattle.image.specs.Records.{header_fields, header}
use Rattle.image.specs.Rows.{Row, row, Answer, refused, judge, short, edition_wrong, counts_wrong, length_wrong, check_rows}
use Rattle.image.proofs.Theorem.Headers.{in_range}
use Rattle.lister.specs.Stream.{most}

-- ---- the header is the same

number_cut : (l : Bytes) (k at n : ℕ) → at + n ≤ k → number_at (take k l) at n ≡ number_at l at n
unfolding number_at
number_cut l k at zero h = refl
number_cut l k at (suc n) h = ap₂ (λ high low. high * 256 + low) (number_cut l k at n (omega arith)) (get_or-take k l (at + n) 0 (omega arith))

same_header : (l : Bytes) (k : ℕ) → 8 ≤ k → header (take k l) ≡ header l
unfolding header
same_header l k h = ap header_fields (number_cut l k 0 8 h)

-- ---- an image that is longer than any

-- what rows 2 and 3 say, and else row 4
said : {A : Type 0} → Header → Answer A
said h = cond (edition_wrong h) (refused 2 0) (cond (counts_wrong h) (refused 3 0) (refused 4 0))

first_rows : {A : Type 0} (x : A) (rows : List Row) (q a b c : Bool) → q ≡ false → (b ≡ false → c ≡ true)
    → judge (row 1 q ∷ row 2 a ∷ row 3 b ∷ row 4 c ∷ rows) x ≡ cond a (refused 2 0) (cond b (refused 3 0) (refused 4 0))
unfolding judge
first_rows x rows true a b c f h = absurd (true≢false f)
first_rows x rows false true b c f h = refl
first_rows x rows false false true c f h = refl
first_rows x rows false false false true f h = refl
first_rows x rows false false false false f h = absurd (false≢true (h refl))

too_long : (l : Bytes) (h : Header) → most ≤ length l → counts_wrong h ≡ false → length_wrong l h ≡ true
unfolding length_wrong
too_long l h long e =
    let r = in_range h e in
    rw (ne_eqb (length l) (8 + 4 * h.conditions + 8 * h.nodes) (λ same. omega (arith, same, r.few_conditions, r.few_nodes)))

by_header : {A : Type 0} (l : Bytes) (more : List Row) (x : A) → most ≤ length l → judge (check_rows l ++ more) x ≡ said (header l)
unfolding check_rows short said
by_header l more x h =
    first_rows x _ (ltb (length l) 8) (edition_wrong (header l)) (counts_wrong (header l)) (length_wrong l (header l))
    (le-ltb (length l) 8 (omega arith)) (too_long l (header l) h)

-- whatever rows follow those of the check, and whatever is answered where none fails
pub cut : {A : Type 0} (l : Bytes) (more more' : List Row) (x x' : A) → most ≤ length l
    → judge (check_rows (take most l) ++ more) x ≡ judge (check_rows l ++ more') x'
cut l more more' x x' h =
    by_header (take most l) more x (omega (arith, length-take most l))
    ∙ ap said (same_header l most (omega arith))
    ∙ sym (by_header l more' x' h)
