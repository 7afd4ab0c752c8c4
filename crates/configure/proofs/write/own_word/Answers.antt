-- `own_word` meets its contract: it joins what its callees ensure, and a name is below the number after it.
use mathlib.Core.Path.{◌≡◌}
use mathlib.Core.Bool.{Bool, true, false, cond}
use Prim.Native.Nat.{ℕ, ◌-◌, ◌≤◌, ◌<◌}
use native.Mathlib.Omega.{arith}
use Rattle.image.specs.Layout.{names_node}
use Rattle.configure.specs.Inner.Writing.{named, own_word}
use Rattle.configure.proofs.write.own_word.Goals as goal

named_small : (slot next r : ℕ) → next ≤ 1024 → r ≡ named slot next → r < 4096
unfolding named
named_small slot next r h e = go (names_node slot) e
  where
    go : (u : Bool) → r ≡ cond u (next - 1) 0 → r < 4096
    go true e = omega arith
    go false e = omega arith

pub node_word-requires : goal.node_word-requires
node_word-requires c =
    let ended = c.requires in
    record {
      known = ended.known;
      variable_small = ended.variable_small;
      a_small = named_small _ _ _ ended.a_small c.name-a.ensures;
      b_small = named_small _ _ _ ended.b_small c.name-b.ensures;
      c_small = named_small _ _ _ ended.c_small c.name-c.ensures;
    }

pub returns : goal.returns
unfolding own_word
returns c = cc
