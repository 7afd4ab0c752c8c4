-- The first words are stored: one word more is stored right behind them.
use Rattle.std.proofs.Common.{◌≡◌, ℕ, take}
use Rattle.std.specs.List.{flat_map}
use Rattle.std.proofs.lemmas.List.Edits.{sets}
use Rattle.image.specs.Term.{bytes_of}
use Rattle.reading.proofs.write.put_words.Given as goal

abbrev pub invariant-loop-i : goal.invariant-loop-i
invariant-loop-i g l =
    (value : _ → ℕ) → ((w : _) (n : ℕ) → g.T.Into.converts w n → n ≡ value w) → l.out ≡ sets l.initial.out l.at (flat_map (λ w. bytes_of l.width (value w)) (take l.i l.words))
