-- `tell` meets its contract: test 16, the check's refusal, then what is left to the run.
use mathlib.Core.Path.{◌≡◌, sym, ◌∙◌, ap, ap₂}
use Prim.Native.Nat.{◌-◌, ◌*◌, ◌%◌, ◌^◌, ◌≤◌, ◌<◌}
use native.Mathlib.Nat.{pow-le-pow_right}
use native.Mathlib.Omega.{arith}
use lib.ListN.{length, take, drop, length-drop}
use lib.Seq.{take_all}
use borrow.Author.Tests.{lt-ltb, le-ltb}
use Rattle.image.specs.declared.accept.Shape.{Shape}
use Rattle.image.specs.Bytes.{Bytes}
use Rattle.image.specs.Records.{header}
use Rattle.image.specs.Rows.{answer, judge, check_rows}
use Rattle.image.specs.Check.{shape_of}
use Rattle.image.specs.Sets.{settings}
use Rattle.image.specs.Accepted.{Accepted}
use Rattle.image.proofs.Theorem.Checked.{good_accepted, good_shape}
use Rattle.lines.specs.Text.{refusal_line, set_in, budget_in, report_rows, told, run_text, text}
use Rattle.text.proofs.Putting.{same}
use Rattle.lines.proofs.Telling.{tell_check}
use Rattle.lines.proofs.tell.Goals as goal

-- ---- test 16

too_short : (input : Bytes) → length input < 12 → text input ≡ refusal_line 16 0
unfolding text report_rows judge told
too_short input h = rw (lt-ltb (length input) 12 h)

-- the image as the code takes it
abbrev taken : Bytes → Bytes
taken input = take (length input - 12) (drop 12 input)

long_enough : (input : Bytes) → 12 ≤ length input → text input ≡ run_text (taken input) (set_in input) (budget_in input)
unfolding text report_rows judge
long_enough input h =
    rw (le-ltb (length input) 12 h)
    (ap (λ l. run_text l (set_in input) (budget_in input)) (sym (take_all (length input - 12) (drop 12 input) (omega (arith, length-drop 12 input)))))

-- ---- where the image is good

module _ (l : Bytes) (shape : Shape) (answered : answer shape ≡ judge (check_rows l) (shape_of l)) where
  acc : Accepted l
  acc = good_accepted l shape answered

  options_are : shape.options ≡ (header l).options
  unfolding shape_of
  options_are = ap (λ (h : Shape). h.options) (good_shape l shape answered)

  settings_few : settings l ≤ 64
  unfolding settings
  settings_few = pow-le-pow_right {n = 2} (omega arith) {i = (header l).options} {j = 6} acc.few_options

  shifted : 1 * 2 ^ shape.options % 18446744073709551616 ≡ settings l
  unfolding settings
  shifted = ap (λ f. 1 * 2 ^ f % 18446744073709551616) options_are ∙ omega (arith, settings_few)

pub returns-then-input-lt12 : goal.returns-then-input-lt12
returns-then-input-lt12 c =
    let input : Bytes = c.args.input.now in
    same (sym (too_short input c.if-input-lt12.true)) c.put_refusal.ensures

pub overflow_shl-n : goal.overflow_shl-n
overflow_shl-n c =
    let l = taken c.args.input.now in
    let answered = c.in-Ok.ensures in
    omega (arith, options_are l _ answered, (acc l _ answered).few_options)

pub tell_image-requires : goal.tell_image-requires
tell_image-requires c =
    let l = taken c.args.input.now in
    let answered = c.in-Ok.ensures in
    let n_is = shifted l _ answered in
    record {
      few = omega (arith, n_is, settings_few l _ answered);
      settings_are = n_is;
      fits = c.requires;
    }

pub returns-in-Err : goal.returns-in-Err
returns-in-Err c =
    let input : Bytes = c.args.input.now in
    let refuses = c.in-Err.ensures in
    same (tell_check (taken input) (set_in input) (budget_in input) _ refuses ∙ sym (long_enough input c.if-input-lt12.false)) c.put_refusal-in-Err.ensures

pub returns-in-Ok : goal.returns-in-Ok
returns-in-Ok c =
    let input : Bytes = c.args.input.now in
    same (ap₂ (run_text (taken input)) c.set_in.ensures c.budget_in.ensures ∙ sym (long_enough input c.if-input-lt12.false)) c.tell_image.ensures
