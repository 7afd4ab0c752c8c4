-- "A condition denotes the set in which it is true": of the settings below N, those in which it holds.
use Rattle.std.specs.Prelude.{ℕ, ◌^◌, Bool, not, ◌&&◌, List, [], ◌∷◌, ◌++◌, ltb, Result, Ok, Err}
use Rattle.sets.specs.Member.{has}
use Rattle.imp.specs.Condition.{holds}
use Rattle.sets.specs.declared.Set.{Set}
use Rattle.image.specs.declared.refusals.Refusal.{Refusal}
use Rattle.image.specs.Bytes.{Bytes}
use Rattle.image.specs.Records.{header}
use Rattle.image.specs.Refusals.{number_of, place_of}
use Rattle.image.specs.Rows.{Row, row, Answer, refused, answer, check_rows}
use Rattle.image.specs.Tree.{condition}

-- "N = 2^F settings"
unfoldable pub settings : Bytes → ℕ
settings l = 2 ^ (header l).options

-- 11: "setting at or above N"
abbrev pub setting_row : Bytes → ℕ → Row
setting_row l s = row 11 (not (ltb s (settings l)))

-- setting s is in the set of condition k
unfoldable pub in_condition : Bytes → ℕ → ℕ → Bool
in_condition l k s = ltb s (settings l) && holds (condition l k) s

-- 15: "condition number not below C"
unfoldable pub condition_rows : Bytes → ℕ → List Row
condition_rows l k = check_rows l ++ (row 15 (not (ltb k (header l).conditions)) ∷ [])

-- what the call answers: a refusal, or who is in the set
abbrev pub set_answer : Result Set Refusal → Answer (ℕ → Bool)
set_answer (Ok S) = answer (has S)
set_answer (Err r) = refused (number_of r) (place_of r)
