-- What the token that a part begins with leads to.
use Rattle.std.specs.Prelude.{◌≡◌, ℕ, suc, ◌-◌, ◌^◌, ◌≤◌, ◌<◌, Bool, true, false, ◌∷◌, get_or, Result, Ok, Err}
use Rattle.image.specs.Bytes.{Bytes}
use Rattle.image.specs.declared.refusals.Refusal.{Refusal}
use Rattle.image.specs.declared.kinds.Kind.{Kind}
use Rattle.image.specs.Kinds.{kind_number}
use Rattle.image.specs.Layout.{layout, class_digit, variable_digit}
use Rattle.written.specs.Token.{node}
use Rattle.written.specs.Word.{THROW, TRY}
use Rattle.written.specs.Machine.{Stack}
use Rattle.reading.specs.declared.cursor.Cursor.{Cursor}
use Rattle.reading.specs.declared.lead.Lead.{Lead}
use Rattle.reading.specs.Inner.Way.{Way, Refuses, Opened}
use Rattle.reading.specs.Inner.Token.{word_to, number_to}
use Rattle.reading.specs.Inner.Parts.{Part, slot_of, wants, follow}

-- ---- each way to begin

abbrev pub WordLead : Bytes → Cursor → Bytes → ℕ → Result (Lead Kind) Refusal → Type 0
WordLead text c x kind (Ok l) = (word_to text c x node ≡ Ok l.cursor) × (kind_number l.kind ≡ kind) × (l.value ≡ 0)
WordLead text c x kind (Err e) = word_to text c x node ≡ Err e

abbrev pub VariableLead : Bytes → Cursor → ℕ → Result (Lead Kind) Refusal → Type 0
VariableLead text c kind (Ok l) =
    (number_to text c (suc c.at) false 15 node ≡ Ok (record { cursor = l.cursor; value = l.value })) × (kind_number l.kind ≡ kind) × (l.value ≤ 15)
VariableLead text c kind (Err e) = number_to text c (suc c.at) false 15 node ≡ Err e

-- a number's bits, behind a minus or not
abbrev pub bits_of : Bool → ℕ → ℕ
bits_of true n = 2 ^ 32 - n
bits_of false n = n

abbrev pub InRange : Bool → ℕ → Type 0
InRange true n = (1 ≤ n) × (n ≤ 2147483648)
InRange false n = n ≤ 2147483647

-- a number n has been read, behind a minus or not
pub record NumberLed (text : Bytes) (c : Cursor) (at : ℕ) (minus : Bool) (l : Lead Kind) : Type 0 where
  pub n : ℕ
  pub number_is : number_to text c at minus 2147483647 node ≡ Ok (record { cursor = l.cursor; value = n })
  pub kind_is : kind_number l.kind ≡ 0
  pub value_is : l.value ≡ bits_of minus n
  pub fits : InRange minus n
  pub small : l.value < 2 ^ 32

abbrev pub NumberLead : Bytes → Cursor → ℕ → Bool → Result (Lead Kind) Refusal → Type 0
NumberLead text c at minus (Ok l) = NumberLed text c at minus l
NumberLead text c at minus (Err e) = number_to text c at minus 2147483647 node ≡ Err e

-- throw or try, by the second byte
pub record ForkLead (text : Bytes) (c : Cursor) (r : Result (Lead Kind) Refusal) : Type 0 where
  pub second : ℕ
  pub second_is : second ≡ get_or text (suc c.at) 0
  pub throws : second ≡ 104 → WordLead text c (THROW.head ∷ THROW.rest) 21 r
  pub tries : (second ≡ 104 → ⊥) → WordLead text c (TRY.head ∷ TRY.rest) 22 r

-- ---- a part of a class

pub record Led (text : Bytes) (class : ℕ) (c : Cursor) (l : Lead Kind) : Type 0 where
  pub way : (F : ℕ) (g : Part → Stack) → Way text c l.cursor (wants F (slot_of class) g) (follow F (kind_number l.kind) l.value g)
  pub opened : Opened c l.cursor node
  pub further : c.at < l.cursor.at
  pub own : class_digit (layout (kind_number l.kind)) ≡ class
  pub small : l.value < 2 ^ 32
  pub variable_small : variable_digit (layout (kind_number l.kind)) ≡ 1 → l.value ≤ 15

abbrev pub LeadFrom : Bytes → ℕ → Cursor → Result (Lead Kind) Refusal → Type 0
LeadFrom text class c (Ok l) = Led text class c l
LeadFrom text class c (Err e) = (F : ℕ) (g : Part → Stack) → Refuses text c (wants F (slot_of class) g) e
