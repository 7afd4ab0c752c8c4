-- The word between two conditions: an `or` where its first byte says so, and an `and` or nothing else.
use mathlib.Core.Path.{◌≡◌, refl, sym, ◌∙◌, subst}
use Prim.Native.Nat.{ℕ}
use mathlib.Core.Bool.{Bool, true, false, cond, true≢false}
use mathlib.Core.List.{◌∷◌}
use mathlib.Core.Option.{none, some}
use lib.Dec.{eqb}
use lib.ListN.{get_or}
use borrow.Author.Tests.{eq-eqb, ne_eqb}
use Rattle.image.specs.declared.kinds.ConditionKind.{ConditionKind}
use Rattle.image.specs.declared.kinds.ConditionKind.TheVariants as kind
use Rattle.image.specs.Kinds.{condition_kind_number}
use Rattle.std.specs.Prelude.{Result, Ok, Err}
use Rattle.image.specs.declared.refusals.Refusal.{Refusal}
use Rattle.image.specs.Bytes.{Bytes}
use Rattle.written.specs.Token.{Lexeme, nothing}
use Rattle.written.specs.Word.{AND, OR}
use Rattle.written.specs.Machine.{joins, Stack, done, want, Log, lexed, leads, counted, look, begin}
use Rattle.reading.specs.declared.cursor.Cursor.{Cursor}
use Rattle.reading.specs.declared.lead.Lead.{Lead}
use Rattle.reading.specs.Inner.Between.{Meets}
use Rattle.reading.specs.Inner.Token.{word_to}
use Rattle.reading.specs.Inner.ConditionLead.{JoinFrom}
use Rattle.reading.proofs.Tokens.{nothing_read}
use Rattle.reading.proofs.Spelled.{by_first, word_leads}
use Rattle.reading.proofs.Ways.{then, then_refused}
use Rattle.reading.proofs.Opening.{Leads}
use Rattle.reading.proofs.Leading.{opened_then}
use Rattle.reading.proofs.Classes.{none_begins}

-- a word's cursor with its kind
abbrev pub led_as : Result Cursor Refusal → ConditionKind → Result (Lead ConditionKind) Refusal
led_as (Ok d) k = Ok (record { cursor = d; kind = k; value = 0 })
led_as (Err e) k = Err e

any : Bool → Stack
any u = done nothing_read

module _ (text : Bytes) (c₀ c : Cursor) (M : Meets text c₀ c) where
  abbrev byte : ℕ
  byte = get_or text c.at 0

  join_from : (x : Lexeme) (u : Bool) (k : ConditionKind) → condition_kind_number k ≡ cond u 4 5
      → ((F : ℕ) (h : Bool → Stack) (w : Log) → begin w (want F joins h) x.head ≡ some (lexed w nothing x (h u)))
      → ((F : ℕ) (h : Bool → Stack) (w : Log) → eqb byte x.head ≡ false → begin w (want F joins h) byte ≡ none) → (r : Result Cursor Refusal) → r ≡ word_to text c (x.head ∷ x.rest) nothing
      → JoinFrom text c₀ (led_as r k)
  join_from x u k q hit miss r e = by r (λ F h. subst (Leads text c (want F joins h) (h u) nothing) (sym e)
      (word_leads text c M.is_met.good (want F joins h) M.is_met.faces x nothing (h u) (by_first text c M.is_met.good (want F joins h) M.is_met.faces x nothing (h u) (hit F h)) (miss F h)))
    where
      by : (r : Result Cursor Refusal) → ((F : ℕ) (h : Bool → Stack) → Leads text c (want F joins h) (h u) nothing r) → JoinFrom text c₀ (led_as r k)
      by (Ok d) L = record {
        is_and = u;
        kind_is = q;
        way = λ F h. then (M.a_part F joins h) (L F h).way;
        opened = opened_then M.opened (L 0 any).opened;
      }
      by (Err e) L = λ F h. then_refused e (M.a_part F joins h) (L F h)

  pub or_from : (b : ℕ) → b ≡ byte → b ≡ 111 → (r : Result Cursor Refusal) → r ≡ word_to text c (OR.head ∷ OR.rest) nothing → JoinFrom text c₀ (led_as r kind.Or)
  unfolding look leads
  or_from b i k r e = join_from OR false kind.Or refl (λ F h w. refl) (λ F h w n. absurd (true≢false (sym (eq-eqb byte 111 (sym i ∙ k)) ∙ n))) r e

  pub and_from : (b : ℕ) → b ≡ byte → (b ≡ 111 → ⊥) → (r : Result Cursor Refusal) → r ≡ word_to text c (AND.head ∷ AND.rest) nothing → JoinFrom text c₀ (led_as r kind.And)
  unfolding look leads counted
  and_from b i k r e =
      join_from AND true kind.And refl (λ F h w. refl) (λ F h w n. none_begins w F joins h byte (λ d. refl) (n, (ne_eqb byte 111 (λ j. k (i ∙ j)), tt))) r e

-- what the code returns
pub joined_as : {text : Bytes} {c : Cursor} {d : Cursor} {k : ConditionKind} {l : Lead ConditionKind} → l ≡ record { cursor = d; kind = k; value = 0 } → JoinFrom text c (led_as (Ok d) k) → JoinFrom text c (Ok l)
joined_as {text} {c} e h = subst (λ l. JoinFrom text c (Ok l)) (sym e) h
