-- The last test of configuring, 14, and the bytes: the header's word and the nodes, stored one after another, are the configured image over `out`.
use mathlib.Core.Path.{◌≡◌, sym, ◌∙◌, ap}
use Prim.Native.Nat.{ℕ, ◌+◌, ◌-◌, ◌*◌, ◌≤◌, ◌<◌}
use mathlib.Core.List.{List}
use native.Mathlib.Omega.{arith}
use lib.ListN.{length}
use lib.Seq.{sets}
use borrow.Author.Tests.{lt-ltb, le-ltb}
use Rattle.image.specs.Records.{header}
use Rattle.image.specs.Rows.{answer, judge, written}
use Rattle.image.specs.Term.{Term, size, head_word, words, bytes_of, all_bytes, term_image}
use Rattle.image.specs.Accepted.{Accepted}
use Rattle.image.proofs.Theorem.Words.{length_bytes}
use Rattle.std.specs.Prelude.{Ok, Err}
use Rattle.image.specs.declared.refusals.Refusal.TheVariants.{SpaceShort}
use Rattle.configure.specs.Inner.Term.{term_at}
use Rattle.configure.specs.Inner.Writing.{Wrote}
use Rattle.configure.specs.Configured.{configured, space_rows, Configures}
use Rattle.image.specs.Bytes.{over}
use Rattle.configure.specs.Theorem.Result.{image_is, length_is}
use Rattle.image.proofs.Stores.{sets_app, over_is}

module _ (l : List ℕ) (acc : Accepted l) (s : ℕ) (out : List ℕ) (nodes : ℕ) (nodes_are : nodes ≡ (header l).nodes) where
  abbrev root : Term
  root = term_at l s (nodes - 1)

  image_here : configured l s ≡ term_image root
  image_here = image_is l acc s ∙ ap (λ n. term_image (term_at l s (n - 1))) (sym nodes_are)

  length_here : length (configured l s) ≡ 8 + 8 * size root
  length_here = length_is l acc s ∙ ap (λ n. 8 + 8 * size (term_at l s (n - 1))) (sym nodes_are)

  -- header, then nodes
  stored_is : 8 + 8 * size root ≤ length out → sets (sets out 0 (bytes_of 8 (head_word 0 0 (size root)))) 8 (all_bytes (words root 0)) ≡ over (configured l s) out
  unfolding term_image all_bytes
  stored_is h =
      let from : 8 ≡ 0 + length (bytes_of 8 (head_word 0 0 (size root))) = omega (arith, length_bytes 8 (head_word 0 0 (size root))) in
      ap (λ k. sets (sets out 0 (bytes_of 8 (head_word 0 0 (size root)))) k (all_bytes (words root 0))) from
      ∙ sym (sets_app (bytes_of 8 (head_word 0 0 (size root))) (all_bytes (words root 0)) out 0)
      ∙ ap (sets out 0) (sym image_here)
      ∙ over_is (configured l s) out (omega (arith, length_here))

  pub short : length out < 8 + 8 * size root → Configures (space_rows l s (length out)) l s out out (Err SpaceShort)
  unfolding space_rows judge written
  short h =
      let fails = lt-ltb (length out) (length (configured l s)) (omega (arith, length_here)) in
      record { answered = rw fails; out_is = rw fails }

  pub carried : {out₁ out₂ : List ℕ} {end : ℕ} → 8 + 8 * size root ≤ length out → out₁ ≡ sets out 0 (bytes_of 8 (head_word 0 0 (size root)))
      → Wrote l s (nodes - 1) 0 out₁ out₂ end → Configures (space_rows l s (length out)) l s out out₂ (Ok (8 + 8 * end))
  unfolding space_rows judge written
  carried {out₁} {out₂} {end} h first then =
      let passes = le-ltb (length out) (length (configured l s)) (omega (arith, length_here)) in
      let ends : 8 + 8 * end ≡ length (configured l s) = omega (arith, length_here, then.next_is) in
      record {
        answered = rw passes (ap answer ends);
        out_is = rw passes (then.out_is ∙ ap (λ o. sets o 8 (all_bytes (words root 0))) first ∙ stored_is h);
      }
