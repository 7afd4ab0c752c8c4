-- List, read, list: the listing of an image is read as its F and its tree and as nothing else, and what is then written is listed as the same text.
use Rattle.std.specs.Prelude.{◌≡◌, ℕ, ◌≤◌, length}
use Rattle.std.proofs.Common.{◌∙◌, ap₂, subst, arith}
use Rattle.imp.specs.Condition.{Condition}
use Rattle.imp.specs.Routine.{Statement}
use Rattle.imp.specs.Valid.{Valid}
use Rattle.image.specs.Bytes.{Bytes}
use Rattle.image.specs.Records.{header}
use Rattle.image.specs.Rows.{answer}
use Rattle.image.specs.Tree.{routine}
use Rattle.image.specs.Listing.{sizeˢ}
use Rattle.image.specs.Accepted.{Accepted}
use Rattle.written.specs.Under.{Under}
use Rattle.written.specs.Count.{recordsˢ}
use Rattle.written.specs.Grammar.{Reads}
use Rattle.written.specs.Lister.{listed}
use Rattle.written.specs.Image.{written_image}
use Rattle.written.specs.Told.{Holds, Told, read_as}
use Rattle.written.proofs.Theorem.Fits.{read_valid}
use Rattle.written.proofs.Theorem.ImageRead.{head_says, image_read}
use Rattle.written.proofs.Theorem.ImageTree.{routine_under, routine_valid, routine_size}
use Rattle.written.proofs.Theorem.Listing.{listed_is}
use Rattle.written.proofs.Theorem.ToldOne.{reads_one}

-- ---- an image that was read

-- what is listed of it is what is listed of F and the tree
pub listed_again : (F : ℕ) (t : Statement Condition) → F ≤ 6 → Valid t → Under F t → sizeˢ t ≤ 1024 → recordsˢ t ≤ 256
    → listed (header (written_image F t)).options (routine (written_image F t)) ≡ listed F t
listed_again F t f v u few conds = ap₂ listed (head_says F t f v u few conds).1 (image_read F t f v u few conds)

-- of a text that keeps the limits, the image has its F and its tree
pub text_read : (text : Bytes) (F : ℕ) (t : Statement Condition) → Holds text F t → ((header (written_image F t)).options ≡ F) × (routine (written_image F t) ≡ t)
text_read text F t h =
    let k = read_valid text F t h.reads in
    ((head_says F t k.0 k.1 k.2 h.few_nodes h.few_records).1, image_read F t k.0 k.1 k.2 h.few_nodes h.few_records)

-- ---- an image that was listed

module _ (l : Bytes) (acc : Accepted l) where
  abbrev F : ℕ
  F = (header l).options

  abbrev t : Statement Condition
  t = routine l

  abbrev text : Bytes
  text = listed F t

  is_read : Reads text F t
  is_read = listed_is F t acc.few_options (routine_valid l acc) (routine_under l acc)

  -- "reading it gives back F and the tree with its conditions written out"
  pub list_read : (F' : ℕ) (t' : Statement Condition) → Reads text F' t' → (F' ≡ F) × (t' ≡ t)
  list_read F' t' h = reads_one text F' F t' t h is_read

  module _ (few : recordsˢ t ≤ 256) where
    pub list_holds : Holds text F t
    list_holds = record { reads = is_read; few_nodes = omega (arith, routine_size l acc, acc.few_nodes); few_records = few }

    -- the reader answers with the image of the same F and tree, where there is space for it
    pub list_told : (space : ℕ) → length (written_image F t) ≤ space → Told text space (answer (written_image F t))
    list_told space h = read_as F t list_holds h

    -- that image has them
    pub list_back : ((header (written_image F t)).options ≡ F) × (routine (written_image F t) ≡ t)
    list_back = text_read text F t list_holds

    -- whatever is read of the listing is listed as the same text
    pub list_again : (F' : ℕ) (t' : Statement Condition) → Reads text F' t' → listed (header (written_image F' t')).options (routine (written_image F' t')) ≡ text
    list_again F' t' h =
        let k = list_read F' t' h in
        ap₂ (λ F t. listed (header (written_image F t)).options (routine (written_image F t))) k.0 k.1 ∙ ap₂ listed list_back.0 list_back.1

-- a text that was read, listed and read again gives the same image
pub read_again : (text : Bytes) (F F' : ℕ) (t t' : Statement Condition) → Holds text F t
    → Reads (listed (header (written_image F t)).options (routine (written_image F t))) F' t' → written_image F' t' ≡ written_image F t
read_again text F F' t t' h r =
    let v = read_valid text F t h.reads in
    let e = listed_again F t v.0 v.1 v.2 h.few_nodes h.few_records in
    let k = reads_one (listed F t) F' F t' t (subst (λ l. Reads l F' t') e r) (listed_is F t v.0 v.1 v.2) in
    ap₂ written_image k.0 k.1
