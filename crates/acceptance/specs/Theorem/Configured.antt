-- Configuring that was carried out: the bytes written are the configured image; and it is carried out where there is space for them, as 8,200 bytes always are.
use Rattle.std.specs.Prelude.{◌≡◌, List, ℕ, ◌≤◌, ◌<◌, length, take, Result, Ok}
use Rattle.std.proofs.Common.{sym, ◌∙◌, arith}
use Rattle.std.proofs.Math.Path.{ap}
use Rattle.std.proofs.Math.Bool.{not}
use Rattle.std.proofs.Math.ListN.{drop}
use Rattle.std.proofs.Math.Seq.{take_at, drop_at}
use borrow.Author.Tests.{lt-ltb, le-ltb, ltb-true, not-false}
use Rattle.image.specs.declared.refusals.Refusal.{Refusal}
use Rattle.image.specs.Bytes.{Bytes, over}
use Rattle.image.specs.Rows.{Row, check_rows, NoneFails}
use Rattle.image.specs.Sets.{settings}
use Rattle.image.proofs.Theorem.Given.{answered, carried_out}
use Rattle.image.specs.Accepted.{Accepted}
use Rattle.image.proofs.Theorem.Accepted.{all_passed, accepts}
use Rattle.image.proofs.Theorem.Carried.{none_each, none_both, carried, written_new}
use Rattle.configure.specs.Configured.{configured, space_rows, configure_rows, Configures}
use Rattle.configure.specs.Theorem.Result.{shape_is, passes}
use Rattle.acceptance.specs.Theorem.One.{no_refusal}

module _ (l : Bytes) (s : ℕ) (out out' : Bytes) where
  abbrev rows : List Row
  rows = configure_rows l s (length out)

  -- ---- what was carried out

  module _ {n : ℕ} (wrote : Configures rows l s out out' (Ok n)) where
    done : NoneFails rows × (n ≡ length (configured l s))
    done = carried rows (length (configured l s)) n wrote.answered

    left : out' ≡ over (configured l s) out
    left = wrote.out_is ∙ written_new rows (over (configured l s) out) out done.0

    pub was_accepted : Accepted l
    unfolding configure_rows
    was_accepted = all_passed l (none_each (check_rows l) _ done.0).0

    pub was_below : s < settings l
    unfolding configure_rows
    was_below = ltb-true s (settings l) (not-false _ (none_each (check_rows l) _ done.0).1.0)

    pub length_written : n ≡ length (configured l s)
    length_written = done.1

    -- what is written is the configured image
    pub image_written : take n out' ≡ configured l s
    unfolding over
    image_written = ap (take n) left ∙ take_at (configured l s) (drop (length (configured l s)) out) n (sym done.1)

    -- "Bytes beyond it stay as they were."
    pub beyond_kept : drop n out' ≡ drop n out
    unfolding over
    beyond_kept =
        ap (drop n) left ∙ drop_at (configured l s) (drop (length (configured l s)) out) n (sym done.1) ∙ ap (λ k. drop k out) (sym done.1)

  -- ---- a setting of the image, and space enough: nothing is refused

  module _ (acc : Accepted l) (below : s < settings l) (room : length (configured l s) ≤ length out) where
    pub none : NoneFails rows
    unfolding configure_rows space_rows
    none = none_both (check_rows l) _ (answered s (check_rows l) s (accepts l s acc)) (
      ap (λ u. not u) (lt-ltb s (settings l) below),
      (le-ltb (length out) (length (configured l s)) room, tt),
    )

    pub is_written : {r : Result ℕ Refusal} → Configures rows l s out out' r → r ≡ Ok (length (configured l s))
    is_written {r} wrote = no_refusal r _ (wrote.answered ∙ (carried_out (length (configured l s)) rows).1 none)

pub enough : (l : Bytes) (s k : ℕ) → Accepted l → 8200 ≤ k → length (configured l s) ≤ k
enough l s k acc room =
    let new : Accepted (configured l s) = passes l acc s in
    omega (arith, new.length_is, new.few_nodes, (shape_is l acc s).1)
