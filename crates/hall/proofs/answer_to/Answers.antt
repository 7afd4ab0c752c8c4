-- There is room for the text, and what is written is the text of the whole stream.
use mathlib.Core.Path.{◌∙◌, ap}
use native.Mathlib.Omega.{arith}
use lib.ListN.{length}
use Rattle.text.proofs.Putting.{front}
use Rattle.hall.specs.Text.{text}
use Rattle.hall.specs.Theorem.Cut.{cut_later}
use Rattle.hall.proofs.answer_to.Goals as goal

pub write-requires : goal.write-requires
write-requires g c =
    let input = c.args.input.now in
    record {
      is_text = λ stream same. front _ _ c.tell-end.ensures ∙ ap text same ∙ cut_later (length input) stream (omega (arith, c.requires.input_len));
    }
