-- The first words are stored: one word more is stored right behind them.
use Rattle.std.proofs.Common.{ap, ◌∙◌}
use Rattle.std.specs.List.{flat_map}
use Rattle.std.proofs.lemmas.List.{take_all}
use Rattle.std.proofs.lemmas.List.Edits.{sets}
use Rattle.image.specs.Term.{bytes_of}
use Rattle.reading.proofs.Imaging.{one_more}
use Rattle.reading.proofs.write.put_words.Goals as goal

pub loop-i-preserved : goal.loop-i-preserved
loop-i-preserved g c = λ value law.
    one_more c.args.width value c.args.out.now c.loop-i.out c.put.new.out c.args.at c.loop-i.i c.into.result c.args.words.now c.index-words-i.result
    c.loop-i-test.true c.index-words-i.is (law c.index-words-i.result c.into.result c.into.ensures) (c.loop-i.invariant value law) c.put.ensures

pub returns : goal.returns
returns g c = λ value law.
    c.loop-i.invariant value law ∙ ap (λ ws. sets c.args.out.now c.args.at (flat_map (λ w. bytes_of c.args.width (value w)) ws)) (take_all _ c.args.words.now c.loop-i-test.false)
