-- Two results that keep the promise of a call for C on the same input are equal: what is returned, the answer space, and all that is lent.
use Rattle.std.specs.Prelude.{◌≡◌, Bool, List, ℕ, ℤ}
use Rattle.std.proofs.Common.{sym, ◌∙◌, ap, subst}
use Rattle.image.specs.Bytes.{Bytes}
use Rattle.shared.specs.Lent.{Tally}
use Rattle.written.proofs.Theorem.ToldOne.{told_one}
use Rattle.reading.specs.Reads.{left_by}
use Rattle.calls.specs.declared.reply.Reply.{Reply}
use Rattle.calls.specs.Space.{where_right, Answers}
use Rattle.calls.specs.Shared.{AnsweredAll}
use Rattle.calls.specs.Read.{read_reply, AnsweredRead}

-- of every call; a slice beside the answer space is given by an equation, so that it is one too
pub one_answer : {space space' space'' : List ℕ} {r : Reply} {y y' : Bool} → Answers space space' r y → Answers space space'' r y'
    → (y ≡ y') × (space' ≡ space'')
one_answer a b = (a.answered ∙ sym b.answered, a.answer_is ∙ sym b.answer_is)

pub one_slice : {A : Type 0} (space : List ℕ) (left old : A) {new new' : A} → new ≡ where_right space left old → new' ≡ where_right space left old
    → new ≡ new'
one_slice space left old e e' = e ∙ sym e'

pub one_shared_run : {l : Bytes} {set budget : ℕ} {xs xs' xs'' : List ℤ} {T T' T'' : Tally} {space space' space'' : List ℕ} {y y' : Bool}
    → AnsweredAll l set budget xs T xs' T' space space' y → AnsweredAll l set budget xs T xs'' T'' space space'' y'
    → (y ≡ y') × (space' ≡ space'') × (xs' ≡ xs'') × (T' ≡ T'')
one_shared_run a b =
    let same = one_answer a.answers b.answers in
    (same.0, same.1, a.store_is ∙ sym b.store_is, a.tally_is ∙ sym b.tally_is)

pub one_read : {text out out' out'' : Bytes} {space space' space'' : List ℕ} {y y' : Bool}
    → AnsweredRead text out out' space space' y → AnsweredRead text out out'' space space'' y' → (y ≡ y') × (space' ≡ space'') × (out' ≡ out'')
one_read {out = out} {space = space} a b =
    let told = told_one b.by_grammar a.by_grammar in
    let same = one_answer a.answers (subst (λ t. Answers space _ (read_reply t) _) told b.answers) in
    (same.0, same.1, a.out_is ∙ sym (b.out_is ∙ ap (λ t. where_right space (left_by t out) out) told))
