-- Where a shared run starts, and who has ended how.
use Rattle.std.specs.Prelude.{◌≡◌, ℕ, length}
use Rattle.sets.specs.declared.Set.{Set}
use Rattle.sets.specs.Member.{bit}
use Rattle.imp.specs.Shared.{start}
use Rattle.shared.specs.declared.lent.Lent.{Lent}
use Rattle.shared.specs.Lent.{Tally, part}
use Rattle.shared.specs.Inner.Lent.{Tallied}
use Rattle.shared.specs.Inner.Handed.{tally_in, state_in}

-- N of each, whatever they are
pub record Sized (N : ℕ) (T : Tally) : Type 0 where
  pub outcomes_length : length T.outcomes ≡ N
  pub codes_length : length T.codes ≡ N
  pub steps_length : length T.steps ≡ N

-- "Settings outside the set get idle, 0, 0"; those of the set are done so far
pub record Starts (N : ℕ) (set : Set) (L L' : Lent) : Type 0 where
  pub starts : state_in L' 0 ≡ start (bit set.bits) (part L.store.now)
  pub store_is : L'.store.now ≡ L.store.now
  pub tallied : Tallied N (tally_in L')
