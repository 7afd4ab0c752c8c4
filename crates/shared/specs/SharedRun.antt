-- What the shared run answers and what it leaves in all that is lent (document 01, "What is lent and what comes back", and rows 9, 10 and 12).
use Rattle.std.specs.Prelude.{◌≡◌, ℕ, zero, suc, ◌+◌, ◌*◌, ◌^◌, Bool, not, ◌&&◌, cond, List, [], ◌∷◌, ◌++◌, eqb, ℤ, length, Result}
use Rattle.sets.specs.Member.{bit}
use Rattle.imp.specs.State.{outcome_number, code}
use Rattle.imp.specs.Shared.{Settings, Shared, shared_run, beyond}
use Rattle.image.specs.Bytes.{Bytes}
use Rattle.image.specs.Check.{answer_of}
use Rattle.image.specs.Rows.{Row, row, judge, written, check_rows}
use Rattle.image.specs.Sets.{settings}
use Rattle.image.specs.Tree.{routine}
use Rattle.plain.specs.PlainRun.{budget_row}
use Rattle.shared.specs.declared.Ends.{Ends}
use Rattle.image.specs.declared.refusals.Refusal.{Refusal}
use Rattle.shared.specs.Lent.{Tally, tally, part}

-- the run's meaning
unfoldable pub meant : Bytes → ℕ → ℕ → List ℤ → Shared
meant l set budget xs = shared_run (settings l) budget (routine l) (bit set) (part xs)

-- what each of the first n settings has, in order
unfoldable pub each : {A : Type 0} → ℕ → (ℕ → A) → List A
each zero f = []
each (suc n) f = each n f ++ (f n ∷ [])

-- the numbers of the first n settings: "setting s has the sixteen from 16s"
unfoldable pub numbers_of : ℕ → Shared → List ℤ
numbers_of zero Σ = []
numbers_of (suc n) Σ = numbers_of n Σ ++ (Σ.at n).numbers

-- their outcomes, codes and step counts
unfoldable pub tally_of : ℕ → Shared → Tally
tally_of n Σ =
    tally (each n λ s. outcome_number (Σ.at s).outcome) (each n λ s. code (Σ.at s).outcome) (each n λ s. (Σ.at s).steps)

-- the first n settings in which P holds, as a 64-bit set
unfoldable pub set_of : ℕ → Settings → ℕ
set_of zero P = 0
set_of (suc n) P = set_of n P + cond (P n) (2 ^ n) 0

-- "The answer is the visits, the set in fault and the set out."
unfoldable pub ends_of : ℕ → Shared → Ends
ends_of n Σ = record {
  visits = Σ.visits;
  fault = record { bits = set_of n λ s. eqb (outcome_number (Σ.at s).outcome) 2 };
  out = record { bits = set_of n λ s. eqb (outcome_number (Σ.at s).outcome) 3 };
}

-- "a store of 16N numbers .. N outcomes, N codes and N step counts"
unfoldable pub exact : ℕ → List ℤ → Tally → Bool
exact n xs T = eqb (length xs) (n * 16) && (eqb (length T.outcomes) n && (eqb (length T.codes) n && eqb (length T.steps) n))

-- 9: "set has a setting at or above N"; then 10; 12: "store .. outcomes, codes or steps .. not of exact length"
unfoldable pub set_rows : Bytes → ℕ → ℕ → List ℤ → Tally → List Row
set_rows l set budget xs T = row 9 (beyond (settings l) set) ∷ budget_row budget ∷ row 12 (not (exact (settings l) xs T)) ∷ []

-- "shared run 9, 10, 12", after tests 1 to 8
unfoldable pub shared_rows : Bytes → ℕ → ℕ → List ℤ → Tally → List Row
shared_rows l set budget xs T = check_rows l ++ set_rows l set budget xs T

-- what the run answers and what it leaves, where `rows` are still to be tested
pub record SharedRuns (rows : List Row) (l : Bytes) (set budget : ℕ) (xs : List ℤ) (T : Tally) (xs' : List ℤ) (T' : Tally) (r : Result Ends Refusal) : Type 0 where
  pub answered : answer_of r ≡ judge rows (ends_of (settings l) (meant l set budget xs))
  pub store_is : xs' ≡ written rows (numbers_of (settings l) (meant l set budget xs)) xs
  pub tally_is : T' ≡ written rows (tally_of (settings l) (meant l set budget xs)) T
