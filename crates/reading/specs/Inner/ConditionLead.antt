-- What the token that a condition begins with leads to, and the word between two conditions.
use Rattle.std.specs.Prelude.{◌≡◌, ℕ, suc, ◌-◌, ◌≤◌, ◌<◌, Bool, false, cond, List, [], ◌∷◌, eqb, get_or, ◌⊎◌, Result, Ok, Err}
use Rattle.imp.specs.Condition.{Condition, falseᶜ, trueᶜ, option, notᶜ}
use Rattle.image.specs.Bytes.{Bytes}
use Rattle.image.specs.declared.refusals.Refusal.{Refusal}
use Rattle.image.specs.declared.refusals.Refusal.TheVariants.{TextWrong}
use Rattle.image.specs.declared.kinds.ConditionKind.{ConditionKind}
use Rattle.image.specs.Kinds.{condition_kind_number}
use Rattle.image.specs.Term.{condition_word}
use Rattle.written.specs.Token.{nothing, record_of}
use Rattle.written.specs.Word.{RIGHT}
use Rattle.written.specs.Machine.{conditions, joins, Stack, mark, want, joined}
use Rattle.written.specs.Count.{sizeᶜ}
use Rattle.written.specs.Image.{wordsᶜ}
use Rattle.reading.specs.declared.cursor.Cursor.{Cursor}
use Rattle.reading.specs.declared.lead.Lead.{Lead}
use Rattle.reading.specs.Inner.Way.{Way, Refuses, Opened}
use Rattle.reading.specs.Inner.Token.{word_to, number_to}

-- a word or mark that opens a record
abbrev pub RecordLead : Bytes → Cursor → Bytes → ConditionKind → Result (Lead ConditionKind) Refusal → Type 0
RecordLead text c x kind (Ok l) = (word_to text c x record_of ≡ Ok l.cursor) × (l.kind ≡ kind) × (l.value ≡ 0)
RecordLead text c x kind (Err e) = word_to text c x record_of ≡ Err e

-- an option below F; under no option none is written, and the o is refused
pub record OptionLed (text : Bytes) (F : ℕ) (c : Cursor) (l : Lead ConditionKind) : Type 0 where
  pub some : F ≡ 0 → ⊥
  pub number_is : number_to text c (suc c.at) false (F - 1) record_of ≡ Ok (record { cursor = l.cursor; value = l.value })
  pub kind_is : condition_kind_number l.kind ≡ 2
  pub small : l.value ≤ F - 1

abbrev pub OptionLead : Bytes → ℕ → Cursor → Result (Lead ConditionKind) Refusal → Type 0
OptionLead text F c (Ok l) = OptionLed text F c l
OptionLead text F c (Err e) = ((F ≡ 0) × (e ≡ TextWrong c.at)) ⊎ ((F ≡ 0 → ⊥) × (number_to text c (suc c.at) false (F - 1) record_of ≡ Err e))

-- ---- a condition

-- one with no operands, by its kind and option
abbrev pub leaf : ℕ → ℕ → Condition
leaf kind value = get_or (falseᶜ ∷ trueᶜ ∷ option value ∷ []) kind falseᶜ

-- behind its first token
abbrev pub rest_of : ℕ → ℕ → ℕ → (Condition → Stack) → Stack
rest_of F kind value h =
    cond (eqb kind 3) (want F conditions λ x. h (notᶜ x))
    (cond (eqb kind 4) (want F conditions λ x. want F joins λ j. want F conditions λ y. mark RIGHT (h (joined j x y))) (h (leaf kind value)))

-- it is one record of a kind
pub record OneRecord (k : Condition) (kind value : ℕ) : Type 0 where
  pub size_is : sizeᶜ k ≡ 1
  pub words_are : (n : ℕ) (r : List ℕ) → wordsᶜ k n r ≡ condition_word kind value 0 0 ∷ r

pub record ConditionLed (text : Bytes) (F : ℕ) (c : Cursor) (l : Lead ConditionKind) : Type 0 where
  pub way : (h : Condition → Stack) → Way text c l.cursor (want F conditions h) (rest_of F (condition_kind_number l.kind) l.value h)
  pub opened : Opened c l.cursor record_of
  pub further : c.at < l.cursor.at
  pub is_leaf : (condition_kind_number l.kind ≡ 3 → ⊥) → (condition_kind_number l.kind ≡ 4 → ⊥) → OneRecord (leaf (condition_kind_number l.kind) l.value) (condition_kind_number l.kind) l.value
  pub kind_small : condition_kind_number l.kind ≤ 4
  pub small : l.value ≤ 5

abbrev pub ConditionFrom : Bytes → ℕ → Cursor → Result (Lead ConditionKind) Refusal → Type 0
ConditionFrom text F c (Ok l) = ConditionLed text F c l
ConditionFrom text F c (Err e) = (h : Condition → Stack) → Refuses text c (want F conditions h) e

-- ---- the word between two conditions: whether it is an and

pub record Joined (text : Bytes) (c : Cursor) (l : Lead ConditionKind) : Type 0 where
  pub is_and : Bool
  pub kind_is : condition_kind_number l.kind ≡ cond is_and 4 5
  pub way : (F : ℕ) (h : Bool → Stack) → Way text c l.cursor (want F joins h) (h is_and)
  pub opened : Opened c l.cursor nothing

abbrev pub JoinFrom : Bytes → Cursor → Result (Lead ConditionKind) Refusal → Type 0
JoinFrom text c (Ok l) = Joined text c l
JoinFrom text c (Err e) = (F : ℕ) (h : Bool → Stack) → Refuses text c (want F joins h) e
