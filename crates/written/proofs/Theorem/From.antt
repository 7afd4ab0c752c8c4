-- What the code's contracts can say: the answer from a state, a place and the rest of the text on, and how one byte, a space, a word, a number's end and a
-- token over a limit change it. Whatever stack a state has, it is handed on untouched.
use Rattle.std.specs.Prelude.{◌≡◌, refl, ℕ, suc, ◌+◌, ◌≤◌, Bool, true, false, not, ◌&&◌, ◌||◌, [], ◌∷◌, ◌++◌, reverse, T, leb, length}
use Rattle.std.proofs.Common.{sym, ◌∙◌, ap, arith, le→leb, eq-eqb}
use Rattle.std.proofs.Math.Option.{Option, none, some}
use Rattle.image.specs.Bytes.{Bytes}
use Rattle.written.specs.Byte.{is_space, is_digit, is_letter, is_wordy}
use Rattle.written.specs.Token.{Spot}
use Rattle.written.specs.Machine.{Stack, Log, Begun, behind, State, plain, digits, when, past_space, between_by, between, digits_by, step, final, start, carry, go, outcome}
use Rattle.written.specs.Limits.{first_too_many, runs_on, whole_in}
use Rattle.written.specs.Answer.{so_far, or_stay, last, or_none, reach, Answer, refused_17, refused_18, within, by_whole, limited, answer, from}
use Rattle.written.proofs.Theorem.Spacing.{is_on, and_both}
use Rattle.written.proofs.Theorem.Now.{Now}
use Rattle.written.proofs.Theorem.Answers.{noted_on}

pub from_start : (text : Bytes) → answer text ≡ from text text start 0
unfolding answer from outcome
from_start text =
    let e : reach text start ≡ 0 + reach text start = omega arith in
    ap (λ n. limited (first_too_many (reverse (so_far (last text start)))) text n (within (go text start 0))) e

-- ---- one byte

with_step : Bytes → Bytes → State → ℕ → Option State → Answer
with_step text l q at o =
    limited (first_too_many (reverse (so_far (or_stay q o λ q'. last l q')))) text (at + or_none o (λ q'. reach l q')) (within (carry o at λ q'. go l q' (suc at)))

alike : (text l : Bytes) (q q' : State) (at : ℕ) (o : Option State) → so_far q ≡ so_far q' → with_step text l q at o ≡ with_step text l q' at o
unfolding with_step
alike text l q q' at none d = ap (λ ms. limited (first_too_many (reverse ms)) text (at + 0) (refused_17 at)) d
alike text l q q' at (some p) d = refl

by_step : (text : Bytes) (b : ℕ) (l : Bytes) (q : State) (at : ℕ) → from text (b ∷ l) q at ≡ with_step text l q at (step q b)
unfolding from with_step last reach go
by_step text b l q at = refl

pub from_step : (text : Bytes) (b : ℕ) (l : Bytes) (q q' : State) (at : ℕ) → step q b ≡ some q' → from text (b ∷ l) q at ≡ from text l q' (suc at)
unfolding from with_step
from_step text b l q q' at e =
    let n : at + suc (reach l q') ≡ suc at + reach l q' = omega arith in
    by_step text b l q at
    ∙ (ap (with_step text l q at) e ∙ ap (λ n. limited (first_too_many (reverse (so_far (last l q')))) text n (within (go l q' (suc at)))) n)

-- a byte that fits nothing: Refusal 17, unless a whole token over a limit stands before it
pub from_stop : (text : Bytes) (b : ℕ) (l : Bytes) (q : State) (at : ℕ) → step q b ≡ none → from text (b ∷ l) q at ≡ limited (first_too_many (reverse (so_far q))) text (at + 0) (refused_17 at)
unfolding with_step
from_stop text b l q at e = by_step text b l q at ∙ ap (with_step text l q at) e

-- ---- a space, a word

pub from_space : (text : Bytes) (b : ℕ) (l : Bytes) (w : Log) (g : Bool) (s : Stack) (at : ℕ) → T (is_space b)
    → from text (b ∷ l) (plain w [] g s) at ≡ from text l (plain (past_space w) [] false s) (suc at)
unfolding step between
from_space text b l w g s at h =
    from_step text b l (plain w [] g s) (plain (past_space w) [] false s) at (ap (λ u. between_by w u (g && is_wordy b) s b) (is_on (is_space b) h))

pub from_word : (text x l : Bytes) (w : Log) (g : Bool) (s : Stack) (at : ℕ) → from text (x ++ l) (plain w x g s) at ≡ from text l (plain w [] g s) (at + length x)
unfolding step
from_word text [] l w g s at = ap (λ n. from text l (plain w [] g s) n) (omega arith)
from_word text (c ∷ x) l w g s at =
    from_step text c (x ++ l) (plain w (c ∷ x) g s) (plain w x g s) at (ap (λ u. when u (plain w x g s)) (eq-eqb c c refl))
    ∙ (from_word text x l w g s (suc at) ∙ ap (λ n. from text l (plain w [] g s) n) (omega arith))

-- ---- the end of a number: from there on it is as if a word had ended

no_digit : (u v : Bool) → T (not (u || v)) → u ≡ false
no_digit true v h = absurd h
no_digit false v h = refl

-- two states that step alike and have noted the same
pub from_alike : (text : Bytes) (b : ℕ) (l : Bytes) (q q' : State) (at : ℕ) → step q b ≡ step q' b → so_far q ≡ so_far q' → from text (b ∷ l) q at ≡ from text (b ∷ l) q' at
from_alike text b l q q' at e d = by_step text b l q at ∙ (ap (with_step text l q at) e ∙ (stay (step q' b) ∙ sym (by_step text b l q' at)))
  where
    stay : (o : Option State) → with_step text l q at o ≡ with_step text l q' at o
    stay o = alike text l q q' at o d

pub from_number : (text l : Bytes) (B : Begun) (n hi : ℕ) (f : ℕ → Stack) (at : ℕ) → T (not (runs_on l))
    → from text l (digits B n hi f) at ≡ from text l (plain (behind B (B.now + 0)) [] true (f n)) at
unfolding from last reach go final so_far step
from_number text [] B n hi f at h = refl
from_number text (b ∷ l) B n hi f at h =
    from_alike text b l (digits B n hi f) (plain (behind B (B.now + 0)) [] true (f n)) at
    (ap (λ u. digits_by B u n hi f b) (no_digit (is_digit b) (is_letter b) h)) refl

-- ---- a token over a limit

-- once it has ended and is whole, the answer is Refusal 18 at its first byte, whatever follows
pub from_over : (text l : Bytes) (q : State) (at : ℕ) (m : Spot) → Now q at → m.upto ≤ at → T (not (m.is_word && runs_on l)) → T (whole_in m text)
    → first_too_many (reverse (so_far q)) ≡ some m → from text l q at ≡ refused_18 m.from
unfolding from
from_over text l q at m w h k j e =
    let a = within (go l q at) in
    let g : (leb m.upto (at + reach l q) && whole_in m text) ≡ true =
    is_on (leb m.upto (at + reach l q) && whole_in m text)
    (and_both (leb m.upto (at + reach l q)) (whole_in m text) (le→leb m.upto (at + reach l q) (omega arith)) j) in
    ap (λ o. limited o text (at + reach l q) a) (noted_on m q l at h k w e) ∙ ap (λ u. by_whole u m a) g
