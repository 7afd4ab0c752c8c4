-- `put_lines` meets its contract: before each turn the lines of the first s settings are written, and none is longer than 32 bytes.
use mathlib.Core.Path.{◌≡◌, ap}
use Prim.Native.Nat.{ℕ, suc, ◌+◌, ◌^◌, ◌≤◌, ◌<◌}
use native.Mathlib.Omega.{arith}
use lib.IntN.{pos}
use lib.ListN.{length, get_or}
use mir.Syntax.{w32}
use mir.Val.{SFits, to_z, of_z}
use mir.Facts.{to_z-of_z}
use borrow.Author.Rules.{rules}
use Rattle.shared.specs.Lent.{Tally, tally, progress}
use Rattle.lines.specs.Inner.Telling.{tallied}
use Rattle.lines.specs.Text.{line}
use Rattle.text.proofs.Putting.{then, same}
use Rattle.lines.specs.Theorem.Lengths.{line_length}
use Rattle.lines.proofs.line.put_lines.Goals as goal

-- setting s's line, as it is read from what is lent
module _ (T : Tally) (s : ℕ) where
  as_read : SFits w32 (get_or T.codes s (pos 0))
      → line s (record { outcome = get_or T.outcomes s 0; code = to_z w32 (of_z w32 (get_or T.codes s (pos 0))); steps = get_or T.steps s 0 }) ≡ line s (progress T s)
  unfolding progress
  as_read fits = ap (λ z. line s (record { outcome = get_or T.outcomes s 0; code = z; steps = get_or T.steps s 0 })) (to_z-of_z fits)

  long : s < 64 → SFits w32 (get_or T.codes s (pos 0)) → get_or T.steps s 0 < 2 ^ 32 → length (line s (progress T s)) ≤ 32
  unfolding progress
  long h fits few = line_length s (progress T s) h fits few

pub loop-s-init : goal.loop-s-init
unfolding tallied
loop-s-init c = search rules

pub loop-s-preserved : goal.loop-s-preserved
unfolding tallied
loop-s-preserved c =
    let s : ℕ = c.loop-s.s in
    let T : Tally = tally c.args.outcomes.now c.args.codes.now c.args.steps.now in
    let fits : SFits w32 (get_or T.codes s (pos 0)) = search rules in
    let next : s + 1 ≡ suc s = omega arith in
    let this = same (as_read T s fits) c.put_line-at.ensures in
    (omega (arith, this.next_is, long T s (omega (arith, c.requires.few)) fits (c.type_inv.steps s).fits), rw next (then c.loop-s.invariant.1 this))
