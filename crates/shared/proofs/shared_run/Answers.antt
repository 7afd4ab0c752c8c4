-- `shared_run` meets its contract: the check's refusal, and then what is left to rows 9, 10 and 12.
use mathlib.Core.Path.{◌≡◌}
use borrow.Author.Rules.{rules}
use mathlib.Core.List.{List}
use Prim.Native.Nat.{ℕ}
use lib.IntN.{ℤ}
use Rattle.std.specs.Prelude.{Result}
use Rattle.image.specs.declared.refusals.Refusal.{Refusal}
use Rattle.image.specs.Bytes.{Bytes}
use Rattle.image.specs.Rows.{Row}
use Rattle.shared.specs.declared.Ends.{Ends}
use Rattle.shared.specs.SharedRun.{SharedRuns}
use Rattle.std.proofs.lemmas.Result.{err_from_is_err_and}
use Rattle.image.proofs.Theorem.Checked.{good_accepted, good_shape}
use Rattle.shared.specs.Lent.{Tally, tally}
use Rattle.shared.proofs.Entry.{refused_first, goes_on}
use Rattle.shared.proofs.shared_run.Goals as goal

pub returns-in_err-shape : goal.returns-in_err-shape
returns-in_err-shape c =
    let p = err_from_is_err_and c.from_residual.result c.from_residual.ensures.1 in
    rw (p.1, p.2) (refused_first _ _ _ _ (tally _ _ _) _ c.in_err-shape.ensures)

-- each slice holds what was left in it
came_back : {rows : List Row} {l : Bytes} {set budget : ℕ} {xs : List ℤ} {T : Tally} {xs' xs'' cs' cs'' : List ℤ} {os' os'' ts' ts'' : List ℕ} {r : Result Ends Refusal}
    → SharedRuns rows l set budget xs T xs' (tally os' cs' ts') r → xs'' ≡ xs' → os'' ≡ os' → cs'' ≡ cs' → ts'' ≡ ts'
    → SharedRuns rows l set budget xs T xs'' (tally os'' cs'' ts'') r
came_back runs store outcomes codes steps = rw (store, outcomes, codes, steps) runs

-- where the image is good
pub returns : goal.returns
returns c =
    let l = c.args.image.now in
    came_back (goes_on l _ _ _ (tally _ _ _) (good_accepted l _ c.in_ok-shape.ensures) c.run_accepted.ensures.runs) (search rules) (search rules) (search rules) (search rules)

pub run_accepted-requires : goal.run_accepted-requires
run_accepted-requires c =
    let l = c.args.image.now in
    (good_accepted l _ c.in_ok-shape.ensures, good_shape l _ c.in_ok-shape.ensures)
