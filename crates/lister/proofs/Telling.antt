-- What a listing leaves in its space, and that it is the answer to the stream that was read.
use mathlib.Core.Path.{◌≡◌, sym, ◌∙◌, ap}
use mathlib.Core.List.{List, ◌++◌}
use Prim.Native.Nat.{ℕ, ◌≤◌, ◌<◌}
use native.Mathlib.Decide.{dec_lt}
use native.Mathlib.Omega.{arith}
use lib.ListN.{length, take, drop, length-append, length-take}
use lib.Seq.{length-take-le, take-append_seam}
use Rattle.std.proofs.Common.{Result, Ok, Err, IfOk}
use Rattle.image.specs.declared.refusals.Refusal.{Refusal}
use Rattle.image.specs.Bytes.{Bytes, over}
use Rattle.image.specs.Rows.{Row, Answer, answer, judge}
use Rattle.image.proofs.Theorem.Carried.{carried, written_new, carried_again, refused_again}
use Rattle.listing.specs.Lists.{listing_of, list_rows, Lists}
use Rattle.streams.specs.Streams.{as_told}
use Rattle.streams.specs.Theorem.Whole.{whole}
use Rattle.lister.specs.Stream.{most, enough, Tells}
use Rattle.lister.specs.Theorem.Cut.{cut}

-- ---- one call

module _ (rows : List Row) (l out out' : Bytes) where
  abbrev text : Bytes
  text = listing_of l

  module _ (end : ℕ) (h : Lists rows l out out' (Ok end)) where
    end_is : end ≡ length text
    end_is = (carried rows (length text) end h.answered).1

    left : out' ≡ text ++ drop (length text) out
    unfolding over
    left = h.out_is ∙ written_new rows _ _ (carried rows (length text) end h.answered).0

    fits : end ≤ length out'
    fits = omega (arith, end_is, ap length left, length-append text (drop (length text) out))

    found : take end out' ≡ text
    found = ap (λ k. take k out') end_is ∙ ap (take (length text)) left ∙ take-append_seam text (drop (length text) out)

  told_so : (r : Result ℕ Refusal) → Lists rows l out out' r → as_told r out' ≡ judge rows text
  told_so (Ok end) h = ap answer (found end h) ∙ sym (carried_again rows (length text) text h.answered)
  told_so (Err r) h = sym (refused_again rows (length text) text h.answered)

  inside : (r : Result ℕ Refusal) → Lists rows l out out' r → IfOk r (λ end. end ≤ length out')
  inside (Ok end) h = fits end h
  inside (Err r) h = tt

-- ---- the stream

-- what was read is the whole stream, or as much of it as decides
tells : (image : Bytes) (n : ℕ) (a : Answer Bytes) → length image ≡ most → n ≤ length image
    → a ≡ judge (list_rows (take n image) enough) (listing_of (take n image)) → Tells image n a
unfolding list_rows
tells image n a long h told = record { of_stream = λ stream same. go stream same (dec_lt n (length image)) }
  where
    go : (stream : Bytes) → take n image ≡ take (length image) stream → Dec (n < length image) → a ≡ judge (list_rows stream enough) (listing_of stream)
    go stream same (yes less) = told ∙ ap (λ l. judge (list_rows l enough) (listing_of l)) (whole image stream n less same)
    go stream same (no full) =
        let first : take n image ≡ take most stream = same ∙ ap (λ k. take k stream) long in
        let goes_on : most ≤ length stream =
        omega (arith, ap length first, length-take-le n image h, length-take most stream) in
        told ∙ ap (λ l. judge (list_rows l enough) (listing_of l)) first ∙ cut stream _ _ _ _ goes_on

pub tells_so : (image : Bytes) (n : ℕ) {out out' : Bytes} {r : Result ℕ Refusal} → length image ≡ most → n ≤ length image → length out ≡ enough
    → Lists (list_rows (take n image) (length out)) (take n image) out out' r → IfOk r (λ end. end ≤ length out') × Tells image n (as_told r out')
tells_so image n {out} {out'} {r} long h space done =
    let l : Bytes = take n image in
    let rows : List Row = list_rows l (length out) in (
      inside rows l out out' r done,
      tells image n (as_told r out') long h (told_so rows l out out' r done ∙ ap (λ k. judge (list_rows l k) (listing_of l)) space),
    )
