-- Reading that was carried out: the bytes written are the image of the F and the tree that the grammar says, it passes the check and has them.
use Rattle.std.specs.Prelude.{◌≡◌, ℕ, ◌≤◌, length, take, drop, Result, Ok}
use Rattle.std.proofs.Common.{sym, ◌∙◌, ap, subst, arith, take_at, drop_at}
use Rattle.imp.specs.Condition.{Condition}
use Rattle.imp.specs.Routine.{Statement}
use Rattle.image.specs.declared.refusals.Refusal.{Refusal}
use Rattle.image.specs.declared.accept.Shape.{Shape}
use Rattle.image.specs.Bytes.{Bytes, over}
use Rattle.image.specs.Check.{answer_of, shape_of}
use Rattle.image.specs.Rows.{Answer, answer, judge, check_rows}
use Rattle.image.specs.Tree.{routine}
use Rattle.image.specs.Listing.{sizeˢ}
use Rattle.image.proofs.Theorem.Accepted.{accepts}
use Rattle.written.specs.Count.{recordsˢ}
use Rattle.written.specs.Grammar.{Reads}
use Rattle.written.specs.Image.{written_image}
use Rattle.written.specs.Told.{Holds, Told, text_wrong, too_many, no_space, read_as}
use Rattle.written.proofs.Theorem.Fits.{read_valid}
use Rattle.written.proofs.Theorem.ImageRead.{head_says}
use Rattle.written.proofs.Theorem.ListRead.{text_read}
use Rattle.written.proofs.Theorem.ToldOne.{reads_one}
use Rattle.written.proofs.Theorem.WrittenAccepted.{reading_accepted}
use Rattle.reading.specs.Reads.{length_of, left_by, ReadsText}
use Rattle.acceptance.specs.Theorem.One.{no_refusal}
use Rattle.acceptance.specs.Theorem.TextTold.{told_so}

-- ---- bytes over a slice

pub taken : (l out out' : Bytes) (n : ℕ) → n ≡ length l → out' ≡ over l out → take n out' ≡ l
unfolding over
taken l out out' n long left = ap (take n) left ∙ take_at l (drop (length l) out) n (sym long)

pub kept : (l out out' : Bytes) (n : ℕ) → n ≡ length l → out' ≡ over l out → drop n out' ≡ drop n out
unfolding over
kept l out out' n long left = ap (drop n) left ∙ drop_at l (drop (length l) out) n (sym long) ∙ ap (λ k. drop k out) (sym long)

-- ---- what was read

-- the text holds F and the tree, and their image was written
pub record Wrote (text out out' : Bytes) (n : ℕ) : Type 0 where
  pub F : ℕ
  pub tree : Statement Condition
  pub holds : Holds text F tree
  pub long : n ≡ length (written_image F tree)
  pub left : out' ≡ over (written_image F tree) out

wrote_by : {text : Bytes} {space : ℕ} {a : Answer Bytes} (out out' : Bytes) (n : ℕ) → Told text space a
    → answer n ≡ length_of a → out' ≡ left_by a out → Wrote text out out' n
wrote_by out out' n (text_wrong q w f) e d = let z : ◌≡◌ {A = ℕ} 0 1 = cc in absurd (omega arith)
wrote_by out out' n (too_many q w f) e d = let z : ◌≡◌ {A = ℕ} 0 1 = cc in absurd (omega arith)
wrote_by out out' n (no_space F t h k) e d = let z : ◌≡◌ {A = ℕ} 0 1 = cc in absurd (omega arith)
wrote_by out out' n (read_as F t h k) e d = record { F = F; tree = t; holds = h; long = cc; left = d }

-- a text that holds F and the tree, with space enough, is read as their image
module _ (text out out' : Bytes) (r : Result ℕ Refusal) (done : ReadsText text out out' r) (F : ℕ) (t : Statement Condition) (holds : Holds text F t)
    (room : length (written_image F t) ≤ length out) where
  pub is_read : (r ≡ Ok (length (written_image F t))) × (out' ≡ over (written_image F t) out)
  is_read = let k = told_so text out out' r done (read_as F t holds room) in (no_refusal r _ k.0, k.1)

module _ (text out out' : Bytes) {n : ℕ} (done : ReadsText text out out' (Ok n)) where
  pub wrote : Wrote text out out' n
  wrote = wrote_by out out' n done.by_grammar done.answered done.out_is

  abbrev F : ℕ
  F = wrote.F

  abbrev tree : Statement Condition
  tree = wrote.tree

  abbrev image : Bytes
  image = written_image F tree

  pub image_is : take n out' ≡ image
  image_is = taken image out out' n wrote.long wrote.left

  pub beyond : drop n out' ≡ drop n out
  beyond = kept image out out' n wrote.long wrote.left

  pub only : (F' : ℕ) (t' : Statement Condition) → Reads text F' t' → (F' ≡ F) × (t' ≡ tree)
  only F' t' h = reads_one text F' F t' tree h wrote.holds.reads

  shape_is : shape_of image ≡ record { options = F; conditions = recordsˢ tree; nodes = sizeˢ tree }
  unfolding shape_of
  shape_is =
      let v = read_valid text F tree wrote.holds.reads in
      let h = head_says F tree v.0 v.1 v.2 wrote.holds.few_nodes wrote.holds.few_records in
      λ i. record { options = h.1 i; conditions = h.2 i; nodes = h.3 i }

  pub passes : (r : Result Shape Refusal) → answer_of r ≡ judge (check_rows (take n out')) (shape_of (take n out'))
      → r ≡ Ok (record { options = F; conditions = recordsˢ tree; nodes = sizeˢ tree })
  passes r checked =
      let of_image : answer_of r ≡ judge (check_rows image) (shape_of image) = subst (λ m. answer_of r ≡ judge (check_rows m) (shape_of m)) image_is checked in
      no_refusal r _ (of_image ∙ accepts image (shape_of image) (reading_accepted text F tree wrote.holds) ∙ ap answer shape_is)

  pub tree_is : routine (take n out') ≡ tree
  tree_is = ap routine image_is ∙ (text_read text F tree wrote.holds).1
