-- What the program `acceptance` compares: a definition for the answer of each of its functions.
use Rattle.std.specs.Prelude.{Bool, true, false, not, ◌&&◌, cond, List, ℕ, zero, suc, ◌+◌, ◌*◌, ◌/◌, ◌%◌, eqb, ltb, leb, ℤ, pos, negsuc, length, get_or, Option, Some, None}
use Rattle.sets.specs.Member.{bit}
use Rattle.imp.specs.Numbers.{signed32}
use Rattle.imp.specs.State.{Numbers}
use Rattle.imp.specs.Shared.{Shared, total}
use Rattle.image.specs.Bytes.{Bytes}
use Rattle.image.specs.Rows.{Row, Answer, refused, answer, judge, written}
use Rattle.image.specs.Sets.{settings}
use Rattle.plain.specs.declared.progress.Progress.{Progress}
use Rattle.plain.specs.PlainRun.{meant_in, progress_of, hall_rows}
use Rattle.shared.specs.declared.Ends.{Ends}
use Rattle.shared.specs.Lent.{Tally, progress, part}
use Rattle.shared.specs.SharedRun as Shared
use Rattle.shared.specs.SharedRun.{each, numbers_of, tally_of, ends_of, shared_rows}
use Rattle.acceptance.specs.declared.compare.Compared.{Compared}
use Rattle.acceptance.specs.Condition3.{idle}

-- ---- the same numbers, the same outcome, code and steps

unfoldable pub same_number : ℤ → ℤ → Bool
same_number (pos a) (pos b) = eqb a b
same_number (pos a) (negsuc b) = false
same_number (negsuc a) (pos b) = false
same_number (negsuc a) (negsuc b) = eqb a b

-- f holds of every number below n
unfoldable pub every : ℕ → (ℕ → Bool) → Bool
every zero f = true
every (suc n) f = every n f && f n

abbrev pub same_at : List ℤ → List ℤ → ℕ → Bool
same_at xs ys v = same_number (get_or xs v (pos 0)) (get_or ys v (pos 0))

unfoldable pub same_numbers : List ℤ → List ℤ → Bool
same_numbers xs ys = eqb (length xs) (length ys) && every (length xs) (same_at xs ys)

unfoldable pub same_progress : Progress → Progress → Bool
same_progress p q = eqb p.outcome q.outcome && (same_number p.code q.code && eqb p.steps q.steps)

-- ---- what the numbers start with: place k of the store is variable k % 16 of setting k / 16

unfoldable pub first : ℕ → ℤ
first k = signed32 ((k % 16 * 0x30000000 + k / 16 % 64 * 0xFFFFFFFF) % 0x100000000)

-- n places from `at` on, and the sixteen of a setting
unfoldable pub starts : ℕ → ℕ → List ℤ
starts at n = each n λ v. first (at + v)

abbrev pub own_start : ℕ → Numbers
own_start s = starts (s * 16) 16

-- ---- one setting

-- a run that was carried out ended as p says, with the numbers `left`
abbrev pub ended_so : Answer Progress → Numbers → Progress → Numbers → Bool
ended_so (answer q) ns p left = same_progress p q && same_numbers ns left
ended_so (refused n k) ns p left = false

-- "the same numbers, outcome, code and steps as the plain run of the routine configured for it": as the run of one hall
unfoldable pub agrees : Bytes → ℕ → ℕ → Progress → Numbers → Bool
agrees l s budget p left =
    let ns : Numbers = own_start s in
    let rows : List Row = hall_rows l s budget (length ns) in
    ended_so (judge rows (progress_of (meant_in s l budget ns))) (written rows (meant_in s l budget ns).numbers ns) p left

-- "outside the set nothing changes and the outcome is idle"
unfoldable pub stays : ℕ → Progress → Numbers → Bool
stays s p left = same_progress p idle && same_numbers (own_start s) left

-- "visits are at least the largest step count"
unfoldable pub setting_holds : Bytes → ℕ → ℕ → ℕ → ℕ → Progress → Numbers → Bool
setting_holds l set budget visits s p left = not (ltb visits p.steps) && cond (bit set s) (agrees l s budget p left) (stays s p left)

-- ---- all settings

-- every setting holds, and the visits are "at most their sum"
unfoldable pub all_hold : Bytes → ℕ → ℕ → ℕ → List ℤ → Tally → Bool
all_hold l set budget visits xs T =
    every (length T.outcomes) (λ s. setting_holds l set budget visits s (progress T s) (part xs s))
    && leb visits (total (length T.outcomes) (λ s. get_or T.steps s 0))

-- by what a shared run over n settings answered and left
abbrev pub judged : ℕ → Bytes → ℕ → ℕ → Answer Ends → List ℤ → Tally → Option Compared
judged n l set budget (answer e) xs T = Some (record { settings = n; visits = e.visits; holds = all_hold l set budget e.visits xs T })
judged n l set budget (refused m k) xs T = None

unfoldable pub compared : ℕ → Bytes → ℕ → ℕ → Tally → Option Compared
compared n l set budget T =
    let xs : List ℤ = starts 0 (n * 16) in
    let rows : List Row = shared_rows l set budget xs T in
    let end : Shared = Shared.meant l set budget xs in
    judged n l set budget (judge rows (ends_of (settings l) end)) (written rows (numbers_of (settings l) end) xs)
    (written rows (tally_of (settings l) end) T)
