-- What reading leaves in its space, and that it is the answer to the stream that was read.
use mathlib.Core.Path.{◌≡◌, sym, ◌∙◌, ap, subst}
use mathlib.Core.List.{[], ◌++◌}
use Prim.Native.Nat.{ℕ, ◌≤◌, ◌<◌}
use native.Mathlib.Omega.{arith}
use lib.ListN.{length, take, drop, length-append}
use lib.Seq.{take-append_seam}
use Rattle.std.proofs.Common.{Result, Ok, Err, IfOk}
use Rattle.image.specs.declared.refusals.Refusal.{Refusal}
use Rattle.image.specs.Bytes.{Bytes, over}
use Rattle.image.specs.Check.{answer_of}
use Rattle.image.specs.Rows.{Answer, refused, answer}
use Rattle.written.specs.Told.{Told}
use Rattle.reading.specs.Reads.{length_of, left_by, ReadsText}
use Rattle.streams.specs.Theorem.Whole.{whole}
use Rattle.streams.specs.Streams.{as_told}
use Rattle.reader.specs.Stream.{longest, Tells}

-- ---- answers of a kind

same_answer : {A : Type 0} {x y : A} → answer x ≡ answer y → x ≡ y
same_answer e = cc

no_answer : {A : Type 0} {n p : ℕ} {x : A} → refused n p ≡ answer x → ⊥
no_answer e =
    let z : ◌≡◌ {A = ℕ} 0 1 = cc in
    omega arith

-- ---- one call

-- an image at the start of a space
module _ (l out out' : Bytes) (end : ℕ) (end_is : end ≡ length l) (left : out' ≡ over l out) where
  opened : out' ≡ l ++ drop (length l) out
  unfolding over
  opened = left

  fits : end ≤ length out'
  fits = omega (arith, end_is, ap length opened, length-append l (drop (length l) out))

  found : take end out' ≡ l
  found = ap (λ k. take k out') end_is ∙ ap (take (length l)) opened ∙ take-append_seam l (drop (length l) out)

-- what was told is what is found there, or the refusal
found_so : (out out' : Bytes) (r : Result ℕ Refusal) (told : Answer Bytes) → answer_of r ≡ length_of told → out' ≡ left_by told out
    → (told ≡ as_told r out') × IfOk r (λ end. end ≤ length out')
found_so out out' (Ok end) (refused n p) e left = absurd (no_answer (sym e))
found_so out out' (Ok end) (answer l) e left = (ap answer (sym (found l out out' end (same_answer e) left)), fits l out out' end (same_answer e) left)
found_so out out' (Err r) (refused n p) e left = (ap no_bytes (sym e), tt)
  where
    no_bytes : Answer ℕ → Answer Bytes
    no_bytes (refused n p) = refused n p
    no_bytes (answer k) = answer []
found_so out out' (Err r) (answer l) e left = absurd (no_answer e)

module _ (text out out' : Bytes) (r : Result ℕ Refusal) (h : ReadsText text out out' r) where
  as_found : (h.told ≡ as_told r out') × IfOk r (λ end. end ≤ length out')
  as_found = found_so out out' r h.told h.answered h.out_is

  told_so : Told text (length out) (as_told r out')
  told_so = subst (Told text (length out)) as_found.0 h.by_grammar

-- ---- the stream

-- what was read is the whole of it
tells : (text : Bytes) (n : ℕ) (a : Answer Bytes) → n < length text → Told (take n text) longest a → Tells text n a
tells text n a h told = record { of_stream = λ stream same. subst (λ l. Told l longest a) (whole text stream n h same) told }

pub tells_so : (text : Bytes) (n : ℕ) {out out' : Bytes} {r : Result ℕ Refusal} → n < length text → length out ≡ longest
    → ReadsText (take n text) out out' r → IfOk r (λ end. end ≤ length out') × Tells text n (as_told r out')
tells_so text n {out} {out'} {r} h space done = (
  (as_found (take n text) out out' r done).1,
  tells text n (as_told r out') h (subst (λ k. Told (take n text) k (as_told r out')) space (told_so (take n text) out out' r done)),
)
