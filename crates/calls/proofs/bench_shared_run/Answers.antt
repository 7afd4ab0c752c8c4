-- `bench_shared_run` meets its contract: what the shared run leaves in each slice, where it is carried out.
use Rattle.std.proofs.Common.{rules}
use Rattle.calls.specs.Shared.{reply_all, store_left, tally_left}
use Rattle.calls.proofs.bench_shared_run.Goals as goal

pub returns : goal.returns
unfolding reply_all store_left tally_left
returns c = search rules
