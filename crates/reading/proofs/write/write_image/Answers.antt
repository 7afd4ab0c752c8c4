-- The space is tested against the whole length first; the header, the records and the nodes are then stored one behind another.
use Rattle.std.proofs.Common.{rules}
use Rattle.reading.proofs.Imaging.{short, all_written}
use Rattle.reading.proofs.write.write_image.Goals as goal

pub returns-then-out-length : goal.returns-then-out-length
returns-then-out-length c = search (short, rules)

pub returns : goal.returns
returns c =
    all_written _ _ _ _ _ c.requires _ _ _ _ _ c.if-out-length.false c.head_word.ensures c.put.ensures (c.put_words.ensures (λ w. w) (λ w n e. e)) (c.put_words-2.ensures (λ w. w) (λ w n e. e))
