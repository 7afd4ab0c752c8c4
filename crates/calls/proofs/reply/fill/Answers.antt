-- `fill` meets its contract: number and place are stored first, and the values over all that is left.
use Rattle.std.proofs.Common.{◌≡◌, ◌∙◌, ap, List, [], ◌∷◌, ◌++◌, ℕ, ◌-◌, length, slice_set, arith, rules, append-nil}
use Rattle.std.proofs.lemmas.List.{drop_all}
use borrow.Rule.Slice.PartMut.{put_mid}
use Rattle.calls.proofs.reply.fill.Goals as goal

rest_is : (l xs : List ℕ) (n p : ℕ) → length l ≡ 8
    → put_mid 2 (length (slice_set (slice_set l 0 n) 1 p) - 2) (slice_set (slice_set l 0 n) 1 p) xs ≡ n ∷ p ∷ xs
rest_is [] xs n p e = absurd (omega arith)
rest_is (a ∷ []) xs n p e = absurd (omega arith)
rest_is (a ∷ b ∷ l) xs n p e = ap (λ ys. n ∷ p ∷ (xs ++ ys)) (drop_all (length (n ∷ p ∷ l) - 2) l (omega arith)) ∙ ap (λ ys. n ∷ p ∷ ys) (append-nil xs)

pub returns : goal.returns
returns c = search (rest_is, rules)
