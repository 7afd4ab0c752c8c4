-- `Set::with` meets its contract: what is joined is one setting alone.
use mathlib.Core.Path.{◌≡◌, ◌∙◌}
use mathlib.Core.Bool.{◌&&◌, and-true}
use Prim.Native.Nat.{ℕ, ◌*◌, ◌%◌, ◌^◌, ◌<◌}
use lib.Dec.{eqb, ltb}
use borrow.Author.Tests.{lt-ltb}
use Rattle.sets.specs.Member.{bit}
use Rattle.sets.proofs.Laws.{one_shl, bit_power}
use Rattle.sets.proofs.Set.with.Goals as goal

alone : (w s x : ℕ) → s < w → bit ((1 * 2 ^ s) % 2 ^ w) x ≡ (eqb x s && ltb s w)
alone w s x h = rw (one_shl w s h, lt-ltb s w h, and-true) (bit_power s x)

pub returns : goal.returns
returns c x = c.join.ensures x ∙ rw (alone 64 _ x c.if-s-ge64.false)
