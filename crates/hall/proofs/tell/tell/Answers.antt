-- `tell` meets its contract: test 16, then what is left to the run.
use mathlib.Core.Path.{◌≡◌, ◌∙◌, ap, ap₂}
use Prim.Native.Nat.{◌-◌, ◌≤◌, ◌<◌}
use native.Mathlib.Omega.{arith}
use lib.ListN.{length, take, drop, length-drop}
use lib.Seq.{take_all}
use borrow.Author.Tests.{lt-ltb, le-ltb}
use Rattle.image.specs.Bytes.{Bytes}
use Rattle.image.specs.Rows.{judge}
use Rattle.lines.specs.Text.{refusal_line, budget_in}
use Rattle.text.proofs.Putting.{same}
use Rattle.hall.specs.Text.{setting_in, told, run_text, text}
use Rattle.hall.proofs.tell.tell.Goals as goal

too_short : (input : Bytes) → length input < 12 → refusal_line 16 0 ≡ text input
unfolding text judge told
too_short input h = rw (lt-ltb (length input) 12 h)

-- the image as the code takes it
abbrev taken : Bytes → Bytes
taken input = take (length input - 12) (drop 12 input)

long_enough : (input : Bytes) → 12 ≤ length input → run_text (taken input) (setting_in input) (budget_in input) ≡ text input
unfolding text judge
long_enough input h =
    rw (le-ltb (length input) 12 h)
    (ap (λ l. run_text l (setting_in input) (budget_in input)) (take_all (length input - 12) (drop 12 input) (omega (arith, length-drop 12 input))))

pub returns-then-input-lt12 : goal.returns-then-input-lt12
returns-then-input-lt12 c = same (too_short c.args.input.now c.if-input-lt12.true) c.put_refusal.ensures

pub returns : goal.returns
returns c =
    let input : Bytes = c.args.input.now in
    let numbers = ap₂ (run_text (taken input)) c.set_in-setting.ensures c.budget_in-budget.ensures in
    same (numbers ∙ long_enough input c.if-input-lt12.false) c.tell_run.ensures
