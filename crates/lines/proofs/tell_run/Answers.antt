-- `tell_run` meets its contract: the lines of what the run left, and of what it answered.
use mathlib.Core.Path.{◌≡◌, ◌∙◌, ap}
use mathlib.Core.List.{List}
use Prim.Native.Nat.{ℕ}
use native.Mathlib.Omega.{arith}
use lib.IntN.{ℤ}
use lib.ListN.{length, length-replicate}
use Rattle.shared.specs.Lent.{Tally, tally}
use Rattle.lines.specs.Inner.Telling.{tallied, Blank}
use Rattle.lines.specs.Text.{blank}
use Rattle.text.proofs.Putting.{then, same}
use Rattle.lines.proofs.Telling.{tell_refused, tell_ended}
use Rattle.lines.proofs.tell_run.Goals as goal

-- what is lent is as long as there are settings
record Lengths (N : ℕ) (T : Tally) : Type 0 where
  outcomes_length : length T.outcomes ≡ N
  codes_length : length T.codes ≡ N
  steps_length : length T.steps ≡ N

lengths : {N room : ℕ} {xs : List ℤ} {T : Tally} → Blank N xs T room → Lengths N T
unfolding blank
lengths {N} b = record {
  outcomes_length = ap (λ (T : Tally). length T.outcomes) b.tally_is ∙ length-replicate N 0;
  codes_length = ap (λ (T : Tally). length T.codes) b.tally_is ∙ length-replicate N _;
  steps_length = ap (λ (T : Tally). length T.steps) b.tally_is ∙ length-replicate N 0;
}

pub put_lines-at-requires : goal.put_lines-at-requires
put_lines-at-requires c =
    let pre = c.requires in
    let lent = lengths pre in
    let kept = c.shared_run.auto in
    record {
      few = omega (arith, lent.outcomes_length, kept.outcomes, pre.few);
      codes_length = omega (arith, lent.outcomes_length, kept.outcomes, lent.codes_length, kept.codes);
      steps_length = omega (arith, lent.outcomes_length, kept.outcomes, lent.steps_length, kept.steps);
      fits = omega (arith, lent.outcomes_length, kept.outcomes, pre.few, pre.fits);
    }

pub returns-in-Err : goal.returns-in-Err
returns-in-Err c =
    same (tell_refused c.args.image.now _ _ c.requires c.in-Err.ensures) c.put_refusal.ensures

pub returns-in-Ok : goal.returns-in-Ok
returns-in-Ok c =
    let run = c.shared_run in
    let left = tally run.new.outcomes run.new.codes run.new.steps in
    let all = ap (λ n. tallied n left) (run.auto.outcomes ∙ (lengths c.requires).outcomes_length) in
    same (tell_ended c.args.image.now _ _ c.requires c.in-Ok.ensures) (then (same all c.put_lines-at.ensures.puts) c.put_ends.ensures)
