-- The whole listing: its parts, how long it is, and the three answers that are left once an image is accepted.
use Rattle.std.proofs.Common.{Ok, Err}
use mathlib.Core.Path.{◌≡◌, ap, ap₂, ◌∙◌}
use mathlib.Core.List.{List, ◌++◌}
use Prim.Native.Nat.{ℕ, ◌+◌, ◌-◌, ◌≤◌, ◌<◌}
use native.Mathlib.Omega.{arith}
use lib.ListN.{length, drop, length-append}
use lib.Seq.{sets-eq, length-sets}
use borrow.Author.Tests.{lt-ltb, le-ltb}
use Rattle.image.specs.declared.accept.Shape.{Shape}
use Rattle.image.specs.declared.refusals.Refusal.TheVariants.{SpaceShort, TooMany}
use Rattle.image.specs.Bytes.{Bytes, over}
use Rattle.image.specs.Records.{header}
use Rattle.image.specs.Rows.{answer, judge, written}
use Rattle.image.specs.Check.{shape_of}
use Rattle.image.specs.Tree.{routine}
use Rattle.text.specs.Decimal.{decimal}
use Rattle.text.specs.Inner.Puts.{Puts}
use Rattle.written.specs.Count.{recordsˢ}
use Rattle.written.specs.Word.{bytes}
use Rattle.written.specs.Lister.{listedˢ, listed}
use Rattle.written.proofs.Theorem.Length.{LONGEST, at_most}
use Rattle.written.proofs.Theorem.ImageTree.{routine_under, routine_valid, routine_size}
use Rattle.listing.specs.Lists.{listing_of, text_rows, Lists}
use Rattle.listing.specs.Inner.Texts.{node_text}
use Rattle.listing.specs.Inner.Counting.{capped}
use Rattle.listing.specs.Inner.Shaped.{Shaped}
use Rattle.listing.proofs.Theorem.Root.{root_text}

-- a text that is put leaves a list as long as it was
pub kept : {u out out' : List ℕ} {at end : ℕ} → Puts u at out out' end → length out' ≡ length out
kept {u} {out} {out'} {at} p = ap length p.out_is ∙ length-sets out at u

-- ---- its parts

module _ {l : Bytes} {shape : Shape} (pre : Shaped l shape) where
  pub options_are : shape.options ≡ (header l).options
  unfolding shape_of
  options_are = ap (λ (h : Shape). h.options) pre.shape_is

  pub nodes_are : shape.nodes ≡ (header l).nodes
  unfolding shape_of
  nodes_are = ap (λ (h : Shape). h.nodes) pre.shape_is

  abbrev tree : Bytes
  tree = node_text l 0 (shape.nodes - 1)

  tree_is : tree ≡ listedˢ 0 (routine l)
  tree_is = ap (λ n. node_text l 0 (n - 1)) nodes_are ∙ root_text l pre.accepted

  pub parts : bytes "options " ++ (decimal shape.options ++ (bytes "\n" ++ (tree ++ bytes "\n"))) ≡ listing_of l
  unfolding listing_of listed
  parts = ap₂ (λ F t. bytes "options " ++ (decimal F ++ (bytes "\n" ++ (t ++ bytes "\n")))) options_are tree_is

  pub long : length (listing_of l) ≡ 8 + length (decimal shape.options) + 1 + length tree + 1
  long =
      omega (
        arith,
        ap length parts,
        length-append (decimal shape.options) (bytes "\n" ++ (tree ++ bytes "\n")),
        length-append tree (bytes "\n"),
      )

  -- with few records it fits the space that is kept for it
  pub enough : recordsˢ (routine l) ≤ 256 → length (listing_of l) ≤ LONGEST
  unfolding listing_of
  enough few =
      let acc = pre.accepted in
      at_most (header l).options (routine l) acc.few_options (routine_valid l acc) (routine_under l acc) (omega (arith, routine_size l acc, acc.few_nodes)) few

-- ---- records, counted up to 257

pub over_limit : {r n : ℕ} → r ≡ capped n → 256 < r → 256 < n
over_limit e h = omega arith

pub within_limit : {r n : ℕ} → r ≡ capped n → r ≤ 256 → n ≤ 256
within_limit e h = omega arith

-- ---- the three answers

module _ (l out : Bytes) where
  pub too_many : 256 < recordsˢ (routine l) → Lists (text_rows l (length out)) l out out (Err (TooMany 0))
  unfolding text_rows judge written
  too_many h =
      let fails = lt-ltb 256 (recordsˢ (routine l)) h in
      record { answered = rw fails; out_is = rw fails }

  module _ (few : recordsˢ (routine l) ≤ 256) where
    pub too_short : {end : ℕ} → end ≡ length (listing_of l) → length out < end → Lists (text_rows l (length out)) l out out (Err SpaceShort)
    unfolding text_rows judge written
    too_short e h =
        let passes = le-ltb 256 (recordsˢ (routine l)) few in
        let fails = lt-ltb (length out) (length (listing_of l)) (omega arith) in
        record { answered = rw (passes, fails); out_is = rw (passes, fails) }

    pub stored : {out' : Bytes} {end : ℕ} → length (listing_of l) ≤ length out → Puts (listing_of l) 0 out out' end
        → Lists (text_rows l (length out)) l out out' (Ok end)
    unfolding text_rows judge written over
    stored {out'} {end} h p =
        let first = le-ltb 256 (recordsˢ (routine l)) few in
        let second = le-ltb (length out) (length (listing_of l)) h in
        let from : 0 + length (listing_of l) ≡ length (listing_of l) = omega arith in
        record {
          answered = rw (first, second) (ap answer (p.next_is ∙ from));
          out_is = rw (first, second) (p.out_is ∙ sets-eq (listing_of l) out 0 (omega arith) ∙ ap (λ k. listing_of l ++ drop k out) from);
        }
