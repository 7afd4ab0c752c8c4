-- What is written after a branch joins its bytes, so that a node's children and its own word make the bytes of its term.
use mathlib.Core.Path.{◌≡◌, refl, sym, ◌∙◌, ap, ap₂}
use mathlib.Core.Bool.{Bool, true, false, cond}
use Prim.Native.Nat.{ℕ, ◌+◌, ◌-◌, ◌*◌, ◌<◌}
use mathlib.Core.List.{List, [], ◌∷◌, ◌++◌, append-nil}
use native.Mathlib.Omega.{arith}
use lib.ListN.{length}
use lib.Seq.{sets}
use Rattle.image.specs.Bytes.{Bytes}
use Rattle.image.specs.Layout.{names_node}
use Rattle.image.specs.Term.{term, Branch, size, branch_size, name, node_word, words, branch_words, bytes_of, all_bytes}
use Rattle.image.proofs.Theorem.Words.{length_all}
use Rattle.image.proofs.Theorem.Encoded.{length_branch, size_some}
use Rattle.configure.specs.Inner.Term.{hang, term_at}
use Rattle.configure.specs.Inner.Writing.{Writing, Wrote, hung, SlotWriting, SlotWrote, named}
use Rattle.image.proofs.Stores.{sets_app, bytes_app}

-- ---- bytes

-- words that follow those of a branch
joined : {b : Branch} {at next : ℕ} {out out' : Bytes} → SlotWrote b at out out' next → (ws : List ℕ)
    → sets out' (8 + 8 * next) (all_bytes ws) ≡ sets out (8 + 8 * at) (all_bytes (branch_words b at ++ ws))
joined {b} {at} {next} {out} w ws =
    let before : Bytes = all_bytes (branch_words b at) in
    let long : 8 + 8 * next ≡ 8 + 8 * at + length before = omega (arith, w.next_is, length_all (branch_words b at), length_branch b at) in
    ap₂ (λ o i. sets o i (all_bytes ws)) w.out_is long
    ∙ sym (ap (sets out (8 + 8 * at)) (bytes_app (branch_words b at) ws) ∙ sets_app before (all_bytes ws) out (8 + 8 * at))

module _ {a b c : Branch} {at p q r : ℕ} {o o₁ o₂ o₃ : Bytes} (wa : SlotWrote a at o o₁ p) (wb : SlotWrote b p o₁ o₂ q) (wc : SlotWrote c q o₂ o₃ r)
    (k v value : ℕ) where
  abbrev own : ℕ
  own = node_word k v value (name a p) (name b q) (name c r)

  words_are : branch_words a at ++ (branch_words b p ++ (branch_words c q ++ (own ∷ []))) ≡ words (term k v value a b c) at
  unfolding words
  words_are = rw (wc.next_is, wb.next_is, wa.next_is)

  pub node_bytes : sets o₃ (8 + 8 * r) (bytes_of 8 own) ≡ sets o (8 + 8 * at) (all_bytes (words (term k v value a b c) at))
  unfolding all_bytes
  node_bytes =
      ap (sets o₃ (8 + 8 * r)) (sym (append-nil (bytes_of 8 own)))
      ∙ joined wc (own ∷ [])
      ∙ joined wb (branch_words c q ++ (own ∷ []))
      ∙ joined wa (branch_words b p ++ (branch_words c q ++ (own ∷ [])))
      ∙ ap (λ ws. sets o (8 + 8 * at) (all_bytes ws)) words_are

  pub node_next : r + 1 ≡ at + size (term k v value a b c)
  unfolding size
  node_next = omega (arith, wa.next_is, wb.next_is, wc.next_is)

-- ---- what hangs on a field

module _ (l : Bytes) (s slot value : ℕ) where
  pub hung_name : (next : ℕ) → name (hung l s slot value) next ≡ named slot next
  unfolding name hang named
  hung_name next = go (names_node slot)
    where
      go : (u : Bool) → name (hang u (term_at l s) value) next ≡ cond u (next - 1) 0
      go true = refl
      go false = refl

  pub hung_some : names_node slot ≡ true → 0 < branch_size (hung l s slot value)
  unfolding branch_size hang
  hung_some names = rw names (size_some (term_at l s value))

  pub child_writing : {at space : ℕ} → names_node slot ≡ true
      → SlotWriting l s slot value at space → Writing l s value at space
  unfolding branch_size hang
  child_writing names w = record { node_below = w.child_below names; few = rw names at w.few; fits = rw names at w.fits }

  pub child_wrote : {at next : ℕ} {out out' : Bytes} → names_node slot ≡ true → Wrote l s value at out out' next
      → SlotWrote (hung l s slot value) at out out' next
  unfolding branch_size branch_words hang
  child_wrote names w = rw names (record { next_is = w.next_is; out_is = w.out_is })

  pub none_wrote : {at : ℕ} {out : Bytes} → names_node slot ≡ false → SlotWrote (hung l s slot value) at out out at
  unfolding branch_size branch_words hang all_bytes
  none_wrote none = rw none (record { next_is = omega arith; out_is = refl })
