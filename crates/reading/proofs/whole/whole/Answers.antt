-- The ways of `options`, F, the statement and the end, one behind the other.
use Rattle.reading.proofs.Ways.{refused_is}
use Rattle.std.proofs.Common.{arith}
use Rattle.reading.proofs.Wholly.{no_options, options_good, no_count, part_ready, no_part, part_good, no_end, whole_read}
use Rattle.reading.proofs.whole.whole.Goals as goal

pub returns-in_err-c : goal.returns-in_err-c
returns-in_err-c c = rw (refused_is c.from_residual.result c.from_residual.ensures.1) (no_options _ _ _ c.requires.0 c.requires.1 _ c.in_err-c.ensures)

pub count-requires : goal.count-requires
count-requires c = options_good _ _ _ c.requires.0 c.requires.1 _ c.in_ok-c.ensures

pub returns-in_err-f : goal.returns-in_err-f
returns-in_err-f c = rw (refused_is c.from_residual-in_err-f.result c.from_residual-in_err-f.ensures.1) (no_count _ _ _ c.requires.0 c.requires.1 _ c.in_ok-c.ensures _ c.in_err-f.ensures)

pub part-requires : goal.part-requires
part-requires c = (part_ready _ _ _ c.requires.0 c.requires.1 _ c.in_ok-c.ensures _ c.in_ok-f.ensures, omega arith, omega arith)

pub returns-in_err-cursor : goal.returns-in_err-cursor
returns-in_err-cursor c = rw (refused_is c.from_residual-in_err-cursor.result c.from_residual-in_err-cursor.ensures.1) (no_part _ _ _ c.requires.0 c.requires.1 _ c.in_ok-c.ensures _ c.in_ok-f.ensures _ _ _ c.in_err-cursor.ensures)

pub end-requires : goal.end-requires
end-requires c = part_good _ _ _ c.requires.0 c.requires.1 _ c.in_ok-c.ensures _ c.in_ok-f.ensures _ _ _ c.in_ok-cursor.ensures

pub returns-in_err-end : goal.returns-in_err-end
returns-in_err-end c = rw (refused_is c.from_residual-in_err-end.result c.from_residual-in_err-end.ensures.1) (no_end _ _ _ c.requires.0 c.requires.1 _ c.in_ok-c.ensures _ c.in_ok-f.ensures _ _ _ c.in_ok-cursor.ensures _ c.in_err-end.ensures)

pub returns : goal.returns
returns c = whole_read _ _ _ c.requires.0 c.requires.1 _ c.in_ok-c.ensures _ c.in_ok-f.ensures _ _ _ c.in_ok-cursor.ensures c.in_ok-end.ensures
