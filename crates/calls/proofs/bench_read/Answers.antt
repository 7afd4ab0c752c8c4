-- `bench_read` meets its contract: the text is told as reading tells it, and where nothing is carried out it is told as every text is.
use Rattle.std.specs.Prelude.{◌≡◌, ℕ, Bool, true, false, List, length, Result, MatchResult}
use Rattle.std.proofs.Common.{rules, refl, sym, ◌∙◌, ap}
use Rattle.image.specs.declared.refusals.Refusal.{Refusal}
use Rattle.image.specs.Bytes.{Bytes}
use Rattle.image.specs.Check.{answer_of}
use Rattle.written.proofs.Theorem.ToldOne.{told_some}
use Rattle.reading.specs.Reads.{ReadsText}
use Rattle.calls.specs.declared.reply.Reply.{Reply}
use Rattle.calls.specs.Reply.{reply, length_reply}
use Rattle.calls.specs.Space.{right, all_numbers}
use Rattle.calls.specs.Inner.Asked.{Asked}
use Rattle.calls.specs.Read.{AnsweredRead}
use Rattle.calls.proofs.bench_read.Goals as goal

module _ {F : Type 0} (name : F → ℕ) (lent : F → Bytes) {steps : Result ℕ Refusal → F → Type 0} {of : ℕ → Reply → Type 0} {of_error : Refusal → Reply → Type 0}
    {text out : Bytes} {space space' : List ℕ} {f f' : F} {y : Bool} where
  so : Asked steps of of_error space space' f f' y
      → ((x : Result ℕ Refusal) (r : Reply) (g : F) → steps x g → MatchResult x (λ n. of n r) (λ e. of_error e r)
      → (name f ≡ name g) × ReadsText text (lent f) (lent g) x × (r ≡ reply length_reply (answer_of x)))
      → (name f ≡ name f' → out ≡ lent f') → AnsweredRead text (lent f) out space space' y
  so a h e = go (right space) refl
    where
      go : (b : Bool) → right space ≡ b → AnsweredRead text (lent f) out space space' y
      go true u =
          let k = a.asked u in
          let w = h k.0 k.1 f' k.2 k.3 in
          record {
            told = w.1.told;
            by_grammar = w.1.by_grammar;
            answers = record { answered = a.answered; answer_is = rw u (k.4 ∙ ap all_numbers (w.2 ∙ ap (reply length_reply) w.1.answered)) };
            out_is = rw u (e w.0 ∙ w.1.out_is);
          }
      go false u =
          let k = a.kept u in
          let some = told_some text (length (lent f)) in
          record {
            told = some.0;
            by_grammar = some.1;
            answers = record { answered = a.answered; answer_is = rw u k.0 };
            out_is = rw u (e (ap name (sym k.1)) ∙ ap lent k.1);
          }

pub returns : goal.returns
returns c = so (λ f. f.1.ghost_name) (λ f. f.1.now) c.answered.ensures (λ x r g k m. search rules) (λ e. search rules)
