-- A configured image listed and read is itself, byte for byte.
use Rattle.std.specs.Prelude.{◌≡◌, ℕ, ◌≤◌, length, take, Result, Ok}
use Rattle.std.proofs.Common.{sym, ◌∙◌, ap, subst, arith}
use Rattle.std.proofs.Math.Path.{ap₂}
use Rattle.imp.specs.Configure.{configure}
use Rattle.image.specs.declared.refusals.Refusal.{Refusal}
use Rattle.image.specs.Bytes.{Bytes}
use Rattle.image.specs.Records.{header}
use Rattle.image.specs.Tree.{routine}
use Rattle.image.specs.Accepted.{Accepted}
use Rattle.written.specs.Count.{recordsˢ}
use Rattle.written.specs.Limits.{RECORDS}
use Rattle.written.specs.Image.{written_image}
use Rattle.written.proofs.Theorem.WrittenPlain.{no_recordsˢ, written_plain}
use Rattle.reading.specs.Reads.{ReadsText}
use Rattle.listing.specs.Lists.{listing_of, list_rows, Lists}
use Rattle.configure.specs.Configured.{configured, configure_rows, Configures}
use Rattle.configure.specs.Theorem.Result as Result
use Rattle.acceptance.specs.Theorem.Configured.{was_accepted, length_written, image_written}
use Rattle.acceptance.specs.Theorem.TextBack.{is_listed, read_as_image}

-- the image m listed and read, in turn, is itself
abbrev pub Itself : Bytes → ℕ → Type 0
Itself m n =
    (text text' out out' : Bytes) (r q : Result ℕ Refusal) → length (listing_of m) ≤ length text → n ≤ length out
    → Lists (list_rows m (length text)) m text text' r → ReadsText (take (length (listing_of m)) text') out out' q
    → (r ≡ Ok (length (listing_of m))) × (q ≡ Ok n) × (take n out' ≡ m)

module _ (l : Bytes) (s : ℕ) (out out' : Bytes) {n : ℕ} (wrote : Configures (configure_rows l s (length out)) l s out out' (Ok n)) where
  abbrev new : Bytes
  new = configured l s

  acc : Accepted l
  acc = was_accepted l s out out' wrote

  -- "written with F = 0, C = 0": what reading writes of it is what configuring writes
  same : written_image (header new).options (routine new) ≡ new
  unfolding configured
  same = ap₂ written_image (Result.shape_is l acc s).0 (Result.tree_is l acc s) ∙ written_plain (configure s (routine l))

  few : recordsˢ (routine new) ≤ RECORDS
  few = omega (arith, ap recordsˢ (Result.tree_is l acc s), no_recordsˢ (configure s (routine l)))

  pub through_text : Itself (take n out') n
  through_text = subst (λ m. Itself m n) (sym (image_written l s out out' wrote)) itself
    where
      itself : Itself new n
      itself text text' out₂ out₂' r q room space told read =
          let long : length (written_image (header new).options (routine new)) ≡ n = ap length same ∙ sym (length_written l s out out' wrote) in
          let e = is_listed new text (Result.passes l acc s) few room text' r told in
          let listed = subst (Lists (list_rows new (length text)) new text text') e told in
          let k = read_as_image new text text' listed out₂ out₂' q (omega (arith, long)) read in
          (e, k.0 ∙ ap Ok long, ap (λ i. take i out₂') (sym long) ∙ k.1 ∙ same)
