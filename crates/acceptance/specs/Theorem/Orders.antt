-- The order of each call's tests, read off its table: "Tests 1 to 8 go in that order", then the call's own.
use Rattle.std.specs.Prelude.{◌≡◌, refl, List, [], ◌∷◌, ℕ, ℤ}
use Rattle.image.specs.Bytes.{Bytes}
use Rattle.image.specs.Rows.{numbers, then, check_rows}
use Rattle.image.specs.Sets.{condition_rows}
use Rattle.listing.specs.Lists.{text_rows, list_rows}
use Rattle.configure.specs.Configured.{space_rows, configure_rows}
use Rattle.plain.specs.PlainRun.{lent_rows, plain_rows, hall_rows}
use Rattle.shared.specs.Lent.{Tally}
use Rattle.shared.specs.SharedRun.{set_rows, shared_rows}
use Rattle.lines.specs.Text.{run_rows, report_rows}

pub check_order : (l : Bytes) → numbers (check_rows l) ≡ then []
unfolding check_rows
check_order l = refl

pub condition_order : (l : Bytes) (k : ℕ) → numbers (condition_rows l k) ≡ then (15 ∷ [])
unfolding check_rows condition_rows
condition_order l k = refl

pub configure_order : (l : Bytes) (s space : ℕ) → numbers (configure_rows l s space) ≡ then (11 ∷ 14 ∷ [])
unfolding check_rows configure_rows space_rows
configure_order l s space = refl

pub list_order : (l : Bytes) (space : ℕ) → numbers (list_rows l space) ≡ then (18 ∷ 14 ∷ [])
unfolding check_rows list_rows text_rows
list_order l space = refl

pub plain_order : (l : Bytes) (budget space : ℕ) → numbers (plain_rows l budget space) ≡ then (13 ∷ 10 ∷ 12 ∷ [])
unfolding check_rows plain_rows lent_rows
plain_order l budget space = refl

pub hall_order : (l : Bytes) (s budget space : ℕ) → numbers (hall_rows l s budget space) ≡ then (11 ∷ 10 ∷ 12 ∷ [])
unfolding check_rows hall_rows lent_rows
hall_order l s budget space = refl

pub shared_order : (l : Bytes) (set budget : ℕ) (xs : List ℤ) (T : Tally) → numbers (shared_rows l set budget xs T) ≡ then (9 ∷ 10 ∷ 12 ∷ [])
unfolding check_rows shared_rows set_rows
shared_order l set budget xs T = refl

pub report_order : (input : Bytes) → numbers (report_rows input) ≡ 16 ∷ then (9 ∷ 10 ∷ 12 ∷ [])
unfolding check_rows shared_rows set_rows run_rows report_rows
report_order input = refl
