-- `all_hold` meets its contract: before the chunk of setting s, what is good is every setting below s, and the sum is that of their steps.
use Rattle.std.specs.Prelude.{◌≡◌}
use Rattle.std.specs.Iterator.Adapters.{enumerate_source, enumerate_count}
use Rattle.std.specs.Slice.Iter.{chunks_exact_rest, chunks_exact_size}
use Rattle.shared.specs.Lent.{tally}
use Rattle.acceptance.proofs.Seen.{Seen}
use Rattle.acceptance.proofs.compare.all_hold.Given as goal

abbrev pub invariant-loop-s : goal.invariant-loop-s
invariant-loop-s l =
    (goal.iterator-loop-s).can_next l.s-iterator × (goal.iterator-loop-s).is_finite l.s-iterator
    × (chunks_exact_size (enumerate_source l.s-iterator) ≡ 16)
    × Seen l.image l.set.bits l.budget l.visits l.store (tally l.outcomes l.codes l.steps)
    (enumerate_count l.s-iterator) (chunks_exact_rest (enumerate_source l.s-iterator)) l.sum l.good
