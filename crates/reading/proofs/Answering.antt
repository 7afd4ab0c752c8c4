-- What is answered to a text is what the grammar says of it.
use mathlib.Core.Path.{◌≡◌, refl, sym, ap, subst}
use Prim.Native.Nat.{ℕ, ◌≤◌, ◌<◌}
use mathlib.Core.Bool.{Bool, true, false}
use mathlib.Core.List.{List, [], ◌++◌}
use native.Mathlib.Omega.{arith}
use lib.Dec.{ltb}
use lib.ListN.{length, take, length-take}
use borrow.Author.Tests.{ltb-true, ltb-false}
use Rattle.std.specs.Prelude.{Result, Ok, Err}
use Rattle.image.specs.declared.refusals.Refusal.{Refusal}
use Rattle.image.specs.declared.refusals.Refusal.TheVariants.{ImageShort, EditionWrong, CountsWrong, LengthWrong, ConditionWrong, NodeWrong, ClassWrong, NamedWrong, SetBeyond, BudgetOver, SettingBeyond, LentWrong, ChoiceHeld, SpaceShort, ConditionBeyond, InputShort, TextWrong, TooMany}
use Rattle.image.specs.Bytes.{Bytes}
use Rattle.image.specs.Listing.{sizeˢ}
use Rattle.image.specs.Rows.{refused, answer}
use Rattle.image.specs.Term.{head_word, bytes_of, all_bytes}
use Rattle.written.specs.Count.{recordsˢ}
use Rattle.written.specs.Image.{record_bytes, choicesˢ, nodesˢ, written_image}
use Rattle.written.specs.Told.{Holds, Told, no_space, read_as}
use Rattle.written.proofs.Theorem.ToldOne.{told_17, told_18, told_holds}
use Rattle.reading.specs.declared.number.Number.{Number}
use Rattle.image.specs.Check.{answer_of}
use Rattle.reading.specs.Reads.{ReadsText}
use Rattle.reading.specs.Inner.Way.{Says}
use Rattle.written.specs.Answer.{answer as grammar_answer}
use Rattle.imp.specs.Condition.{Condition}
use Rattle.imp.specs.Routine.{Statement}
use Rattle.reading.specs.Inner.Writing.{image_of, Writes}
use Rattle.reading.specs.Inner.Whole.{ReadsWhole}

-- the machine's refusal is what the grammar says
pub says_refusal : (text out : Bytes) (e : Refusal) → Says e (grammar_answer text) → ReadsText text out out (Err e)
says_refusal text out (TextWrong p) h = record { told = refused 17 p; by_grammar = told_17 text (length out) p h; answered = refl; out_is = refl }
says_refusal text out (TooMany p) h = record { told = refused 18 p; by_grammar = told_18 text (length out) p h; answered = refl; out_is = refl }
says_refusal text out ImageShort h = absurd h
says_refusal text out EditionWrong h = absurd h
says_refusal text out CountsWrong h = absurd h
says_refusal text out LengthWrong h = absurd h
says_refusal text out (ConditionWrong k) h = absurd h
says_refusal text out (NodeWrong n) h = absurd h
says_refusal text out (ClassWrong n) h = absurd h
says_refusal text out (NamedWrong n) h = absurd h
says_refusal text out SetBeyond h = absurd h
says_refusal text out BudgetOver h = absurd h
says_refusal text out SettingBeyond h = absurd h
says_refusal text out LentWrong h = absurd h
says_refusal text out (ChoiceHeld n) h = absurd h
says_refusal text out SpaceShort h = absurd h
says_refusal text out ConditionBeyond h = absurd h
says_refusal text out InputShort h = absurd h

module _ (text : Bytes) (nodes records : List ℕ) (r : Number) (W : ReadsWhole text nodes records (Ok r)) (out : Bytes) where
  abbrev tree : Statement Condition
  tree = W.read.tree

  holds : Holds text r.value tree
  holds = told_holds text (record { reading = record { options = r.value; tree = tree }; placed = W.read.read_is.0 }) W.read.read_is.1

  -- the tables hold the image of what was read
  same_image : image_of r.value (take r.cursor.condition records) (take r.cursor.node nodes) ≡ written_image r.value tree
  unfolding image_of written_image
  same_image =
      let p : length (take r.cursor.condition records) ≡ recordsˢ tree = omega (arith, length-take r.cursor.condition records, W.read.records_few.0, W.read.records_few.1, W.record_space) in
      let q : length (take r.cursor.node nodes) ≡ sizeˢ tree = omega (arith, length-take r.cursor.node nodes, W.read.nodes_few.0, W.read.nodes_few.1, W.node_space) in
      let x : take r.cursor.condition records ≡ choicesˢ tree 0 [] = W.read.records_are in
      let y : take r.cursor.node nodes ≡ nodesˢ tree 0 0 [] = W.read.nodes_are in
      λ i. bytes_of 8 (head_word r.value (p i) (q i)) ++ (record_bytes (x i) ++ all_bytes (y i))

  pub says_image : (out' : Bytes) (a : Result ℕ Refusal) → Writes r.value r.cursor.condition r.cursor.node records nodes out out' a → ReadsText text out out' a
  says_image out' a w = by (ltb (length out) (length image)) refl
    where
      image : Bytes
      image = image_of r.value (take r.cursor.condition records) (take r.cursor.node nodes)

      by : (u : Bool) → ltb (length out) (length image) ≡ u → ReadsText text out out' a
      by true e =
          let k = ltb-true (length out) (length image) e in
          let x = w.no_space k in
          record { told = refused 14 0; by_grammar = no_space r.value tree holds (subst (λ m. length out < length m) same_image k); answered = ap answer_of x.0; out_is = x.1 }
      by false e =
          let k = ltb-false (length out) (length image) e in
          let x = w.written k in
          record { told = answer image; by_grammar = subst (λ m. Told text (length out) (answer m)) (sym same_image) (read_as r.value tree holds (subst (λ m. length m ≤ length out) same_image k)); answered = ap answer_of x.0; out_is = x.1 }
