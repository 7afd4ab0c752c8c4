-- What `==` answers of progress and of numbers is what the comparison says of them: each is true exactly where both sides are the same.
use Rattle.std.specs.Prelude.{◌≡◌, Bool, ◌&&◌, List, eqb, ℤ}
use Rattle.std.proofs.Common.{◌∙◌, ap, int_eq}
use Rattle.std.proofs.lemmas.Bool.Decides.{Decides-int_eq}
use Rattle.std.proofs.lemmas.Slice.Eq.{slice_eq-Decides}
use Rattle.std.specs.Cmp.Lexicographic.{pointwise}
use Rattle.plain.specs.declared.progress.Progress.{Progress}
use Rattle.acceptance.specs.Inner.Comparing.{same_number, same_numbers, same_progress}
use Rattle.acceptance.specs.Theorem.Same.{alike, same_number_is, same_numbers_is}

number_equal : (a b : ℤ) → int_eq a b ≡ same_number a b
number_equal a b =
    let same = Decides-int_eq a b in
    let is = same_number_is a b in
    alike _ _ (λ e. is.1 (same.0 e)) (λ e. same.1 (is.0 e))

pub numbers_equal : {xs xs' : List ℤ} (ys : List ℤ) {r : Bool} → xs' ≡ xs → r ≡ pointwise int_eq xs' ys → r ≡ same_numbers xs ys
numbers_equal {xs} ys lent e =
    let same = slice_eq-Decides Decides-int_eq xs ys _ (e ∙ ap (λ zs. pointwise int_eq zs ys) lent) in
    let is = same_numbers_is xs ys in
    alike _ _ (λ e. is.1 (same.0 e)) (λ e. same.1 (is.0 e))

pub progress_equal : (p q : Progress) {r : Bool} → r ≡ (eqb p.outcome q.outcome && (int_eq p.code q.code && eqb p.steps q.steps)) → r ≡ same_progress p q
unfolding same_progress
progress_equal p q e = e ∙ ap (λ u. eqb p.outcome q.outcome && (u && eqb p.steps q.steps)) (number_equal p.code q.code)
