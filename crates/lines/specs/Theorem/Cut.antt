-- Bytes behind the first 9,237 change no text: an image that is longer than any is refused by its header, or else for its length.
use Rattle.std.specs.Prelude.{◌≡◌, refl, Bool, true, false, cond, List, ◌∷◌, ◌++◌, ℕ, zero, suc, ◌+◌, ◌*◌, ◌≤◌, ◌<◌, ltb, length, get_or, take, drop}
use Rattle.std.proofs.Common.{sym, ◌∙◌, ap, ap₂, true≢false, arith, length-take, length-drop, take_all, take-take, get_or-take, get_or-drop, le-ltb, ne_eqb}
use Rattle.std.proofs.lemmas.Bool.{false≢true}
use Rattle.std.proofs.Math.Decide.{dec_lt}
use Rattle.image.specs.declared.records.Header.{Header}
use Rattle.image.specs.Bytes.{Bytes, number_at}
use Rattle.image.specs.Records.{header_fields, header}
use Rattle.image.specs.Rows.{Row, row, refused, judge, short, edition_wrong, counts_wrong, length_wrong, check_rows}
use Rattle.image.specs.Sets.{settings}
use Rattle.image.proofs.Theorem.Headers.{in_range}
use Rattle.shared.specs.SharedRun.{shared_rows}
use Rattle.lines.specs.Limits.{longest, most}
use Rattle.lines.specs.Text.{refusal_line, image_in, run_rows, input_row, report_rows, told, text}

-- ---- the header is the same

number_cut : (l : Bytes) (k at n : ℕ) → at + n ≤ k → number_at (take k l) at n ≡ number_at l at n
unfolding number_at
number_cut l k at zero h = refl
number_cut l k at (suc n) h = ap₂ (λ high low. high * 256 + low) (number_cut l k at n (omega arith)) (get_or-take k l (at + n) 0 (omega arith))

number_behind : (l : Bytes) (m at n : ℕ) → number_at (drop m l) at n ≡ number_at l (m + at) n
unfolding number_at
number_behind l m at zero = refl
number_behind l m at (suc n) =
    let place : m + (at + n) ≡ m + at + n = omega arith in
    ap₂ (λ high low. high * 256 + low) (number_behind l m at n) (get_or-drop m l (at + n) 0 ∙ ap (λ i. get_or l i 0) place)

pub same_header : (input : Bytes) (k : ℕ) → 20 ≤ k → header (image_in (take k input)) ≡ header (image_in input)
unfolding header
same_header input k h =
    ap header_fields (number_behind (take k input) 12 0 8 ∙ number_cut input k 12 8 h ∙ sym (number_behind input 12 0 8))

-- ---- an image that is longer than any

-- the number that rows 2 and 3 give, and else row 4
pub number_given : Header → ℕ
number_given h = cond (edition_wrong h) 2 (cond (counts_wrong h) 3 4)

first_rows : {A : Type 0} (x : A) (rows : List Row) (p q a b c : Bool) → p ≡ false → q ≡ false → (b ≡ false → c ≡ true)
    → judge (row 16 p ∷ row 1 q ∷ row 2 a ∷ row 3 b ∷ row 4 c ∷ rows) x ≡ refused (cond a 2 (cond b 3 4)) 0
unfolding judge
first_rows x rows true q a b c e f h = absurd (true≢false e)
first_rows x rows false true a b c e f h = absurd (true≢false f)
first_rows x rows false false true b c e f h = refl
first_rows x rows false false false true c e f h = refl
first_rows x rows false false false false true e f h = refl
first_rows x rows false false false false false e f h = absurd (false≢true (h refl))

too_long : (l : Bytes) (h : Header) → longest < length l + 12 → counts_wrong h ≡ false → length_wrong l h ≡ true
unfolding length_wrong
too_long l h long e =
    let r = in_range h e in
    rw (ne_eqb (length l) (8 + 4 * h.conditions + 8 * h.nodes) (λ same. omega (arith, same, r.few_conditions, r.few_nodes)))

-- whatever rows follow those of the check
pub by_header : {A : Type 0} (input : Bytes) (more : List Row) (x : A) → most ≤ length input
    → judge (input_row input ∷ (check_rows (image_in input) ++ more)) x ≡ refused (number_given (header (image_in input))) 0
unfolding check_rows short number_given
by_header input more x h =
    let l : Bytes = image_in input in
    let behind : longest < length l + 12 = omega (arith, length-drop 12 input) in
    first_rows x _ (ltb (length input) 12) (ltb (length l) 8) (edition_wrong (header l)) (counts_wrong (header l)) (length_wrong l (header l))
    (le-ltb (length input) 12 (omega arith)) (le-ltb (length l) 8 (omega arith)) (too_long l (header l) behind)

said : (input : Bytes) → most ≤ length input → text input ≡ refusal_line (number_given (header (image_in input))) 0
unfolding text report_rows run_rows shared_rows told
said input h = ap (told (settings (image_in input))) (by_header input _ _ h)

-- ---- the theorem, and the same of every later cut

pub cut : (input : Bytes) → text (take most input) ≡ text input
cut input = go (dec_lt most (length input))
  where
    go : Dec (most < length input) → text (take most input) ≡ text input
    go (yes h) =
        said (take most input) (omega (arith, length-take most input))
        ∙ ap (λ h. refusal_line (number_given h) 0) (same_header input most (omega arith))
        ∙ sym (said input (omega arith))
    go (no h) = ap text (take_all most input (omega arith))

pub cut_later : (k : ℕ) (input : Bytes) → most ≤ k → text (take k input) ≡ text input
cut_later k input h = sym (cut (take k input)) ∙ ap text (take-take most k input h) ∙ cut input
