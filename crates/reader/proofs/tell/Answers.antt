-- `tell`: the space is as long as the longest image, and the answer is that to the whole stream.
use Rattle.reader.proofs.Telling.{tells_so}
use Rattle.reader.proofs.tell.Goals as goal

pub returns : goal.returns
returns c =
    let told = tells_so c.args.text.now c.args.n c.requires.n_in_bounds c.requires.space_len c.read.ensures in
    record { inside = told.0; tells = told.1 }
