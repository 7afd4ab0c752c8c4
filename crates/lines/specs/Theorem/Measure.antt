-- Row 12 never fails in a report: what it lends is of exact length.
use Rattle.std.specs.Prelude.{◌≡◌, refl, true, ℕ, ◌*◌}
use Rattle.std.proofs.lemmas.List.{length-replicate}
use Rattle.std.proofs.Common.{eq-eqb}
use Rattle.shared.specs.SharedRun.{exact}
use Rattle.lines.specs.Text.{zeros, blank}

pub to_measure : (N : ℕ) → exact N (zeros N) (blank N) ≡ true
unfolding exact zeros blank
to_measure N = simp length-replicate (rw (eq-eqb (N * 16) (N * 16) refl, eq-eqb N N refl))
