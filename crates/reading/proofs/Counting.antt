-- F is read: a number that opens nothing.
use mathlib.Core.Path.{◌≡◌, refl, sym, ◌∙◌, ap, subst}
use Prim.Native.Nat.{ℕ, suc, ◌+◌, ◌-◌, ◌≤◌}
use mathlib.Core.Bool.{Bool, true, false, ◌&&◌}
use mathlib.Core.List.{[], ◌∷◌}
use native.Mathlib.Omega.{arith}
use lib.Dec.{leb}
use lib.ListN.{drop, get_or}
use lib.Seq.{drop-cons}
use Rattle.std.specs.Prelude.{Result, Ok, Err, IfOk}
use Rattle.image.specs.declared.refusals.Refusal.{Refusal}
use Rattle.image.specs.Bytes.{Bytes}
use Rattle.written.specs.Byte.{is_digit}
use Rattle.written.specs.Token.{nothing}
use Rattle.written.specs.Machine.{counts, Stack, done, want, Log, bare, on_byte, digits, when, look, leads, counted, begin_class, plain, first, first_step, step}
use Rattle.written.specs.Answer.{so_far, from}
use Rattle.written.proofs.Theorem.From.{from_alike}
use Rattle.reading.specs.declared.cursor.Cursor.{Cursor}
use Rattle.reading.specs.declared.number.Number.{Number}
use Rattle.reading.specs.Inner.Way.{Logged}
use Rattle.reading.specs.Inner.Between.{Meets}
use Rattle.reading.specs.Inner.Number.{NumberFrom}
use Rattle.reading.specs.Inner.Whole.{CountWay}
use Rattle.reading.proofs.Tokens.{nothing_read, enters}
use Rattle.reading.proofs.Digits.{begun_at}
use Rattle.reading.proofs.Spelled.{NumberLeads, number_leads}
use Rattle.reading.proofs.Ways.{then, then_refused}
use Rattle.reading.proofs.Leading.{opened_then}

module _ (text : Bytes) (c d : Cursor) (M : Meets text c d) where
  abbrev byte : ℕ
  byte = get_or text d.at 0

  -- where a number is due, a byte leads where it leads in the number
  same_step : (w : Log) (h : ℕ → Stack) (u : Bool) → is_digit byte ≡ u → begin_class w u 0 counts h byte ≡ first_step (bare w nothing) false 6 h byte
  unfolding counted first_step look leads
  same_step w h true e = refl
  same_step w h false e =
      sym (ap (λ v. when (v && (leb 0 (byte - 48) && leb (byte - 48) (0 + 6))) (digits (on_byte (bare w nothing)) (byte - 48) (0 + 6) h)) e)

  entered : (h : ℕ → Stack) (w : Log) → Logged d w
      → from text (drop d.at text) (plain w [] d.tight (want 0 counts h)) d.at ≡ from text (drop d.at text) (first (begun_at w nothing d.at) false 6 h) d.at
  unfolding step so_far
  entered h w k =
      let q : w.at + 0 ≡ d.at = omega (arith, k.at_is) in
      let e : drop d.at text ≡ byte ∷ drop (suc d.at) text = drop-cons text d.at 0 (M.is_met.faces.before_end) in
      ap (λ m. from text m (plain w [] d.tight (want 0 counts h)) d.at) e
      ∙ from_alike text byte (drop (suc d.at) text) (plain w [] d.tight (want 0 counts h)) (first (bare w nothing) false 6 h) d.at
      (enters text w d.tight (want 0 counts h) byte (M.is_met.faces.no_space) (M.is_met.faces.apart) ∙ same_step w h (is_digit byte) refl) refl
      ∙ ap (λ m. from text m (first (bare w nothing) false 6 h) d.at) (sym e)
      ∙ ap (λ i. from text (drop d.at text) (first (begun_at w nothing i) false 6 h) d.at) q

  by_number : (r : Result Number Refusal) → ((h : ℕ → Stack) → NumberLeads text d (want 0 counts h) h nothing r) → IfOk r (λ n. (0 ≤ n.value) × (n.value ≤ 0 + 6)) → CountWay text c r
  by_number (Ok n) L s = record {
    way = λ h. then (M.a_part 0 counts h) (L h).way;
    opened = opened_then M.opened (L (λ j. done nothing_read)).opened;
    small = omega (arith, s.1);
  }
  by_number (Err e) L s = λ h. then_refused e (M.a_part 0 counts h) (L h)

  pub a_count : (r : Result Number Refusal) → NumberFrom text d d.at false 6 nothing r → CountWay text c r
  a_count r f =
      by_number r
      (λ h. subst (NumberLeads text d (want 0 counts h) h nothing) (sym f.is_so)
      (number_leads text d M.is_met.good (want 0 counts h) d.at false 6 nothing h (omega arith) (omega (arith, M.is_met.faces.before_end)) (entered h)))
      f.within
