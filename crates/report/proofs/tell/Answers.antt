-- `tell` meets its contract: the text fits, so it is there and not too long, and it is that of the whole stream.
use native.Mathlib.Omega.{arith}
use Rattle.report.proofs.Telling.{fits, within, tells}
use Rattle.report.proofs.tell.Goals as goal

pub unwrap-requires : goal.unwrap-requires
unwrap-requires c = fits c.args.input.now c.args.n c.requires.enough_in_bounds c.report.ensures

pub returns : goal.returns
returns c =
    let input = c.args.input.now in
    let n = c.args.n in
    let room = c.requires.enough_in_bounds in record {
      upper_bound = within input n room c.report.ensures c.unwrap.ensures;
      tells = tells input n room c.report.ensures c.unwrap.ensures (omega (arith, c.requires.input_len));
    }
