-- A report's refusal has a number and a place of 64 bits: each row's number is written in the table, and its place is 0 or at most a count of 12 bits.
use Rattle.std.proofs.Common.{subst, arith}
use Rattle.std.specs.Prelude.{Bool, List, [], ◌∷◌, ◌++◌, ℕ, ◌^◌, ◌≤◌, ◌<◌}
use Rattle.image.specs.Bytes.{Bytes}
use Rattle.image.specs.Records.{header}
use Rattle.image.specs.Rows.{Row, lowest, check_rows, Given}
use Rattle.image.proofs.Theorem.Lowest.{lowest_le}
use Rattle.shared.specs.SharedRun.{set_rows, shared_rows}
use Rattle.lines.specs.Text.{run_rows, report_rows}

abbrev Row64 : Row → Type 0
Row64 r = (r.number < 2 ^ 64) × (r.place < 2 ^ 64)

abbrev Rows64 : List Row → Type 0
Rows64 [] = Unit {0}
Rows64 (r ∷ rows) = Row64 r × Rows64 rows

both : (rows more : List Row) → Rows64 rows → Rows64 more → Rows64 (rows ++ more)
both [] more h k = k
both (r ∷ rows) more h k = (h.0, both rows more h.1 k)

-- the row of a refusal is one of the table's
later : (rows more : List Row) → Rows64 (rows ++ more) → Rows64 more
later [] more h = h
later (r ∷ rows) more h = later rows more h.1

given_64 : (rows : List Row) (n p : ℕ) → Rows64 rows → Given rows n p → (n < 2 ^ 64) × (p < 2 ^ 64)
given_64 rows n p h g =
    let this = (later g.earlier (g.this ∷ g.later) (subst Rows64 g.in_order h)).0 in
    (omega (arith, this.0, g.number_is), omega (arith, this.1, g.place_is))

lowest_64 : (n : ℕ) (bad : ℕ → Bool) → n ≤ 4096 → lowest n bad < 2 ^ 64
lowest_64 n bad h = omega (arith, lowest_le n bad)

check_64 : (l : Bytes) → Rows64 (check_rows l)
unfolding check_rows header
check_64 l = (
  (omega arith, omega arith),
  (
    (omega arith, omega arith),
    (
      (omega arith, omega arith),
      (
        (omega arith, omega arith),
        (
          (omega arith, lowest_64 _ _ (omega arith)),
          (
            (omega arith, lowest_64 _ _ (omega arith)),
            (
              (omega arith, lowest_64 _ _ (omega arith)),
              ((omega arith, lowest_64 _ _ (omega arith)), tt),
            ),
          ),
        ),
      ),
    ),
  ),
)

pub report_64 : (input : Bytes) (n p : ℕ) → Given (report_rows input) n p → (n < 2 ^ 64) × (p < 2 ^ 64)
unfolding report_rows run_rows shared_rows set_rows
report_64 input n p = given_64 (report_rows input) n p (
  (omega arith, omega arith),
  both (check_rows _) _ (check_64 _) ((omega arith, omega arith), ((omega arith, omega arith), ((omega arith, omega arith), tt))),
)
