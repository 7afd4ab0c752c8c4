-- `tell`: every listing fits its space, and the answer is that to the whole stream.
use Rattle.lister.proofs.Telling.{tells_so}
use Rattle.lister.proofs.tell.Goals as goal

pub returns : goal.returns
returns c =
    let told = tells_so c.args.image.now c.args.n c.requires.image_len c.requires.n_in_bounds c.requires.space_len c.list.ensures in
    record { inside = told.0; tells = told.1 }
