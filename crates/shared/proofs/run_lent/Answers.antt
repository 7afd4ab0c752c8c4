-- `run_lent` meets its contract: all settings are started, the root is run, and who has ended how is read off.
use native.Mathlib.Omega.{arith}
use Rattle.shared.proofs.Carrying.{prepared, can_start, root_is, first_lent, first_within, ended_as_meant}
use Rattle.shared.proofs.run_lent.Goals as goal

pub returns-clause-runs : goal.returns-clause-runs
returns-clause-runs c =
    ended_as_meant c.requires c.start_all.ensures.starts c.of.ensures.0 c.run-visits.ensures.shares c.ended.ensures c.ended-2.ensures

pub run-visits-requires : goal.run-visits-requires
run-visits-requires c = record {
  of_class = rw c.of.ensures.0 (root_is c.requires);
  sharing = record {
    below = (can_start c.requires).1;
    remaining = λ s e. omega arith;
    lent = first_lent c.requires c.start_all.ensures.starts;
    within = first_within c.requires c.start_all.ensures.starts;
  };
}

pub invariant_of-plan : goal.invariant_of-plan
invariant_of-plan c = record { prepared = rw (c.of.ensures.0, c.of.ensures.1) (prepared c.requires c.condition_sets-sets.ensures.sets_are) }
