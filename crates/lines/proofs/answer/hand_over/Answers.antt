-- `hand_over` meets its contract: a text stored from the start lies over what was there.
use mathlib.Core.Path.{◌≡◌, ◌∙◌, ap}
use mathlib.Core.List.{List, ◌++◌}
use Prim.Native.Nat.{ℕ, ◌+◌, ◌≤◌}
use native.Mathlib.Omega.{arith}
use lib.ListN.{length, drop}
use lib.Seq.{sets-eq}
use borrow.Author.Tests.{le-ltb}
use Rattle.std.specs.Prelude.{Ok}
use Rattle.text.specs.Inner.Puts.{Puts}
use Rattle.image.specs.Bytes.{over}
use Rattle.lines.specs.Report.{Reports}
use Rattle.lines.proofs.answer.hand_over.Goals as goal

stored : (text out : List ℕ) {out' : List ℕ} {end : ℕ} → length text ≤ length out → Puts text 0 out out' end → Reports text out out' (Ok end)
unfolding over
stored text out {out'} {end} h p =
    let passes = le-ltb (length out) (length text) h in
    let from : 0 + length text ≡ length text = omega arith in
    record {
      answered = rw passes (ap (λ n. Ok n) (p.next_is ∙ from));
      out_is = rw passes (p.out_is ∙ sets-eq text out 0 (omega arith) ∙ ap (λ k. text ++ drop k out) from);
    }

pub returns : goal.returns
returns c = stored c.args.text.now c.args.out.now (omega arith) c.put.ensures
