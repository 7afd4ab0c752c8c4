-- The answer space that a caller lends: where it is right the call is carried out, else all is as it was.
use Rattle.std.specs.Prelude.{◌≡◌, ℕ, Bool, cond, List, ◌∷◌, eqb, length}
use Rattle.calls.specs.declared.reply.Reply.{Reply}

-- number, place and six values
abbrev pub answer_length : ℕ
answer_length = 8

abbrev pub right : List ℕ → Bool
right space = eqb (length space) answer_length

-- what is lent, after a call with this answer space: as the call leaves it, or as it was
abbrev pub where_right : {A : Type 0} → List ℕ → A → A → A
where_right space left old = cond (right space) left old

abbrev pub all_numbers : Reply → List ℕ
all_numbers r = r.number ∷ r.place ∷ r.values

-- what is returned, and the answer space after the call
pub record Answers (space space' : List ℕ) (r : Reply) (y : Bool) : Type 0 where
  pub answered : y ≡ right space
  pub answer_is : space' ≡ where_right space (all_numbers r) space
