-- `agrees` meets its contract: the run of one hall answers and leaves what its promise says.
use Rattle.acceptance.specs.Theorem.Compared.{run_refused, run_ended}
use Rattle.acceptance.proofs.Equal.{numbers_equal, progress_equal}
use Rattle.acceptance.proofs.alone.agrees.Goals as goal

pub returns-in-Err : goal.returns-in-Err
returns-in-Err c = run_refused _ c.args.p _ c.fill.ensures c.one_hall.ensures c.in-Err.is

pub returns-in-Ok : goal.returns-in-Ok
returns-in-Ok c =
    let same = numbers_equal c.args.left.now c.as_slice.ensures c.eq-in-Ok.ensures in
    run_ended _ c.args.p _ c.fill.ensures c.one_hall.ensures c.in-Ok.is (progress_equal _ _ c.eq.ensures) same
