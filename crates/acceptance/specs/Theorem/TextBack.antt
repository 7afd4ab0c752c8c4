-- List, read, list: what was listed is read as the image of the same F and tree, and that image is listed as the same text.
use Rattle.std.specs.Prelude.{◌≡◌, ℕ, ◌+◌, ◌*◌, ◌≤◌, length, take, drop, Result, Ok}
use Rattle.std.proofs.Common.{sym, ◌∙◌, ap, subst, arith}
use Rattle.std.proofs.Math.Path.{ap₂}
use borrow.Author.Tests.{le-ltb}
use Rattle.imp.specs.Condition.{Condition}
use Rattle.imp.specs.Routine.{Statement}
use Rattle.image.specs.declared.refusals.Refusal.{Refusal}
use Rattle.image.specs.Bytes.{Bytes, over}
use Rattle.image.specs.Records.{header}
use Rattle.image.specs.Rows.{check_rows, NoneFails}
use Rattle.image.specs.Tree.{routine}
use Rattle.image.specs.Accepted.{Accepted}
use Rattle.image.proofs.Theorem.Accepted.{accepts}
use Rattle.image.proofs.Theorem.Given.{answered, carried_out}
use Rattle.image.proofs.Theorem.Carried.{none_both, carried, written_new}
use Rattle.written.specs.Count.{recordsˢ}
use Rattle.written.specs.Limits.{RECORDS}
use Rattle.written.specs.Lister.{listed}
use Rattle.written.specs.Image.{written_image}
use Rattle.written.specs.Told.{Holds}
use Rattle.written.proofs.Theorem.ImageLength.{image_length}
use Rattle.written.proofs.Theorem.ImageTree.{routine_size}
use Rattle.written.proofs.Theorem.ListRead.{text_read}
use Rattle.written.proofs.Theorem.ToldOne.{reads_one}
use Rattle.written.proofs.Theorem.WrittenAccepted.{reading_accepted}
use Rattle.reading.specs.Reads.{ReadsText}
use Rattle.listing.specs.Lists.{listing_of, text_rows, list_rows, Lists}
use Rattle.listing.proofs.Theorem.ReadBack.{was_accepted, few_records, found, reads_back}
use Rattle.acceptance.specs.Theorem.One.{no_refusal}
use Rattle.acceptance.specs.Theorem.TextRead.{taken, kept, is_read, wrote, image_is}

-- ---- an accepted image within 256 records, and space enough: nothing is refused

module _ (l out : Bytes) (acc : Accepted l) (few : recordsˢ (routine l) ≤ RECORDS) (room : length (listing_of l) ≤ length out) where
  none : NoneFails (list_rows l (length out))
  unfolding list_rows text_rows
  none = none_both (check_rows l) _ (answered {A = ℕ} 0 (check_rows l) 0 (accepts l 0 acc)) (
    le-ltb RECORDS (recordsˢ (routine l)) few,
    (le-ltb (length out) (length (listing_of l)) room, tt),
  )

  pub is_listed : (out' : Bytes) (r : Result ℕ Refusal) → Lists (list_rows l (length out)) l out out' r → r ≡ Ok (length (listing_of l))
  is_listed out' r told = no_refusal r _ (told.answered ∙ (carried_out (length (listing_of l)) (list_rows l (length out))).1 none)

-- ---- what was listed

module _ (l out out' : Bytes) {n : ℕ} (told : Lists (list_rows l (length out)) l out out' (Ok n)) where
  abbrev F : ℕ
  F = (header l).options

  abbrev t : Statement Condition
  t = routine l

  abbrev image : Bytes
  image = written_image F t

  acc : Accepted l
  acc = was_accepted l out out' n told

  done : NoneFails (list_rows l (length out)) × (n ≡ length (listing_of l))
  done = carried (list_rows l (length out)) (length (listing_of l)) n told.answered

  text_is : take n out' ≡ listing_of l
  text_is = found l out out' n told

  pub spelled : take n out' ≡ listed F t
  unfolding listing_of
  spelled = text_is

  pub beyond : drop n out' ≡ drop n out
  beyond =
      kept (listing_of l) out out' n done.1
      (told.out_is ∙ written_new (list_rows l (length out)) (over (listing_of l) out) out done.0)

  pub holds : Holds (take n out') F t
  holds = reads_back l out out' n told

  -- "length 8 + 4C + 8P"
  pub image_long : length image ≡ 8 + 4 * recordsˢ t + 8 * (header l).nodes
  image_long = omega (arith, image_length F t, routine_size l acc)

  image_has : ((header image).options ≡ F) × (routine image ≡ t)
  image_has = text_read (take n out') F t holds

  -- ---- it is read as F and the tree

  pub read_as_image : (out₂ out₂' : Bytes) (r : Result ℕ Refusal) → length image ≤ length out₂ → ReadsText (take n out') out₂ out₂' r
      → (r ≡ Ok (length image)) × (take (length image) out₂' ≡ image)
  read_as_image out₂ out₂' r room read =
      let k = is_read (take n out') out₂ out₂' r read F t holds room in
      (k.0, taken image out₂ out₂' (length image) (λ i. length image) k.1)

  abbrev m : ℕ
  m = 8 + 4 * recordsˢ t + 8 * (header l).nodes

  pub gives_back : (out₂ out₂' : Bytes) (r : Result ℕ Refusal) → m ≤ length out₂ → ReadsText (take n out') out₂ out₂' r
      → (r ≡ Ok m) × ((header (take m out₂')).options ≡ F) × (routine (take m out₂') ≡ t)
  gives_back out₂ out₂' r room read =
      let k = read_as_image out₂ out₂' r (omega (arith, image_long)) read in
      let is : take m out₂' ≡ image = ap (λ m. take m out₂') (sym image_long) ∙ k.1 in
      (k.0 ∙ ap Ok image_long, ap (λ x. (header x).options) is ∙ image_has.0, ap routine is ∙ image_has.1)

  -- ---- and listed again

  same_listing : listing_of image ≡ listing_of l
  unfolding listing_of
  same_listing = ap₂ listed image_has.0 image_has.1

  module _ (out₂ out₂' : Bytes) {k : ℕ} (read : ReadsText (take n out') out₂ out₂' (Ok k)) where
    was_image : take k out₂' ≡ image
    was_image =
        let w = wrote (take n out') out₂ out₂' read in
        let same = reads_one (take n out') w.F F w.tree t w.holds.reads holds.reads in
        image_is (take n out') out₂ out₂' read ∙ ap₂ written_image same.0 same.1

    of_image : (out₃ out₃' : Bytes) (r : Result ℕ Refusal) → n ≤ length out₃ → Lists (list_rows image (length out₃)) image out₃ out₃' r
        → (r ≡ Ok n) × (take n out₃' ≡ take n out')
    of_image out₃ out₃' r room again =
        let long : length (listing_of image) ≡ n = ap length same_listing ∙ sym done.1 in
        let few : recordsˢ (routine image) ≤ RECORDS = subst (λ x. recordsˢ x ≤ RECORDS) (sym image_has.1) (few_records l out out' n told) in
        let e : r ≡ Ok n = is_listed image out₃ (reading_accepted (take n out') F t holds) few (omega (arith, long)) out₃' r again ∙ ap Ok long in
        let again' = subst (Lists (list_rows image (length out₃)) image out₃ out₃') e again in
        (e, found image out₃ out₃' n again' ∙ same_listing ∙ sym text_is)

    pub again : (out₃ out₃' : Bytes) (r : Result ℕ Refusal) → n ≤ length out₃ → Lists (list_rows (take k out₂') (length out₃)) (take k out₂') out₃ out₃' r
        → (r ≡ Ok n) × (take n out₃' ≡ take n out')
    again out₃ out₃' r room told₃ = of_image out₃ out₃' r room (subst (λ x. Lists (list_rows x (length out₃)) x out₃ out₃' r) was_image told₃)
