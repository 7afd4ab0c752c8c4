-- A word or mark that opens nothing: the way behind it, and behind a mark of a node.
use mathlib.Core.Path.{◌≡◌, refl, sym, ◌∙◌, ap, subst}
use mathlib.Core.List.{◌∷◌}
use mathlib.Core.Option.{Option, none, some}
use native.Mathlib.Omega.{arith}
use lib.ListN.{length}
use borrow.Author.Tests.{eq-eqb}
use Rattle.std.specs.Prelude.{Result, Ok, Err}
use Rattle.image.specs.declared.refusals.Refusal.{Refusal}
use Rattle.image.specs.Bytes.{Bytes}
use Rattle.written.specs.Token.{Lexeme, nothing}
use Rattle.written.specs.Machine.{Stack, done, mark, lexed, when}
use Rattle.reading.specs.declared.cursor.Cursor.{Cursor}
use Rattle.reading.specs.Inner.Way.{Good, Way, Refuses, Opened}
use Rattle.reading.specs.Inner.Between.{Meets, ToToken}
use Rattle.reading.specs.Inner.Token.{met, word_to, from_there, fixed_to}
use Rattle.reading.specs.Inner.Parts.{text_of}
use Rattle.reading.specs.Inner.Marks.{Marks}
use Rattle.reading.proofs.Passing.{keeps, meets}
use Rattle.reading.proofs.Opening.{Leads}
use Rattle.reading.proofs.Spelled.{by_first, word_leads}
use Rattle.reading.proofs.Leading.{opened_then}
use Rattle.reading.proofs.Ways.{then, then_refused, stays}
use Rattle.reading.proofs.Tokens.{nothing_read}

-- ---- returns of `fixed`

pub fixed_refused : (text : Bytes) (c : Cursor) (e : Refusal) (x : Bytes) → Err e ≡ met text c → Err e ≡ fixed_to text c x
unfolding fixed_to
fixed_refused text c e x h = ap (λ r. from_there r (λ d. word_to text d x nothing)) h

pub fixed_word : (text : Bytes) (c d : Cursor) (r : Result Cursor Refusal) (x : Bytes) → Ok d ≡ met text c → r ≡ word_to text d x nothing → r ≡ fixed_to text c x
unfolding fixed_to
fixed_word text c d r x h k = k ∙ ap (λ r. from_there r (λ d. word_to text d x nothing)) h

-- ---- ways

pub record Fixed (text : Bytes) (c : Cursor) (x : Lexeme) (c' : Cursor) : Type 0 where
  pub way : (s : Stack) → Way text c c' (mark x s) s
  pub opened : Opened c c' nothing

abbrev pub FixedWay : Bytes → Cursor → Lexeme → Result Cursor Refusal → Type 0
FixedWay text c x (Ok c') = Fixed text c x c'
FixedWay text c x (Err e) = (s : Stack) → Refuses text c (mark x s) e

module _ (text : Bytes) (c : Cursor) (g : Good text c) (x : Lexeme) where
  behind_token : (d : Cursor) → Meets text c d → (r : Result Cursor Refusal) → ((s : Stack) → Leads text d (mark x s) s nothing r) → FixedWay text c x r
  behind_token d M (Ok d') h = record { way = λ s. then (M.a_mark x s) (h s).way; opened = opened_then M.opened (h (done nothing_read)).opened }
  behind_token d M (Err e) h = λ s. then_refused e (M.a_mark x s) (h s)

  behind_met : (r : Result Cursor Refusal) → ToToken text c r → FixedWay text c x (from_there r (λ d. word_to text d (x.head ∷ x.rest) nothing))
  behind_met (Ok d) M =
      behind_token d M (word_to text d (x.head ∷ x.rest) nothing)
      (λ s. word_leads text d M.is_met.good (mark x s) M.is_met.faces x nothing s
      (by_first text d M.is_met.good (mark x s) M.is_met.faces x nothing s (λ w. ap (λ u. when u (lexed w nothing x s)) (eq-eqb x.head x.head refl)))
      (λ w n. ap (λ u. when u (lexed w nothing x s)) n))
  behind_met (Err e) M = λ s. M.no_mark x s

  pub fixed_way : (r : Result Cursor Refusal) → r ≡ fixed_to text c (x.head ∷ x.rest) → FixedWay text c x r
  unfolding fixed_to
  fixed_way r e = subst (FixedWay text c x) (sym e) (behind_met (met text c) (meets text c g))

-- ---- the marks of a node

some_mark : (text : Bytes) (c : Cursor) (x : Lexeme) (r : Result Cursor Refusal) → FixedWay text c x r → Marks text c (some x) r
some_mark text c x (Ok c') w = record { way = w.way; opened = w.opened }
some_mark text c x (Err e) w = w

module _ (text : Bytes) (c : Cursor) (g : Good text c) (x : Bytes) where
  pub no_mark : (o : Option Lexeme) → length x ≡ 0 → x ≡ text_of o → Marks text c o (Ok c)
  no_mark none n e = record { way = λ s. stays s g; opened = keeps text c }
  no_mark (some y) n e = absurd (omega (arith, n, ap length e))

  pub a_mark : (o : Option Lexeme) (r : Result Cursor Refusal) → (length x ≡ 0 → ⊥) → r ≡ fixed_to text c x → x ≡ text_of o → Marks text c o r
  a_mark none r n h e = absurd (n (ap length e))
  a_mark (some y) r n h e = some_mark text c y r (fixed_way text c g y r (h ∙ ap (fixed_to text c) e))
