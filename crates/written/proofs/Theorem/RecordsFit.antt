-- An image's conditions pass test 5: each record's kind is known, its option is below F, its names are lower, and what is not used is zero.
use Rattle.std.specs.Prelude.{◌≡◌, refl, ℕ, suc, ◌+◌, ◌-◌, ◌/◌, ◌%◌, ◌≤◌, ◌<◌, true, false, List, [], ◌∷◌, eqb, length}
use Rattle.std.proofs.Common.{◌∙◌, ap, subst, arith, lt-ltb}
use Rattle.std.proofs.Math.Decide.{ℕ_discrete}
use Rattle.imp.specs.Condition.{Condition, falseᶜ, trueᶜ, option, notᶜ, andᶜ, orᶜ}
use Rattle.imp.specs.Routine.{Arithmetic, number, variable, sum, pick, choiceᵃ, Boolean, falseᵇ, trueᵇ, notᵇ, andᵇ, less, choiceᵇ, Statement, skip, assign, sequence, if, while, throw, try, choice}
use Rattle.image.specs.declared.records.ConditionRecord.{ConditionRecord}
use Rattle.image.specs.Records.{condition_record, condition_fields}
use Rattle.image.specs.Layout.{condition_kinds, condition_layout, field_fits}
use Rattle.image.specs.Rows.{condition_fits}
use Rattle.image.specs.Term.{condition_word}
use Rattle.written.specs.Under.{Underᶜ, Underᵃ, Underᵇ, Under}
use Rattle.written.specs.Count.{sizeᶜ, recordsᵃ, recordsᵇ, recordsˢ}
use Rattle.written.specs.Image.{wordsᶜ, choicesᵃ, choicesᵇ, choicesˢ}
use Rattle.written.proofs.Theorem.Back.{Records, someᶜ}

-- ---- a record

fields_fit : (F k : ℕ) (ρ : ConditionRecord) (kind i left right : ℕ) → ρ.kind ≡ kind → ρ.option ≡ i → ρ.left ≡ left → ρ.right ≡ right
    → eqb (condition_layout kind) 0 ≡ false → field_fits (condition_layout kind / 64 % 8) i F ≡ true → field_fits (condition_layout kind / 8 % 8) left k ≡ true
    → field_fits (condition_layout kind % 8) right k ≡ true → condition_fits F k ρ ≡ true
unfolding condition_fits
fields_fit F k ρ kind i left right ek ei el er known fi fl fr = rw (ek, ei, el, er, known, fi, fl, fr)

word_fits : (F k kind i left right : ℕ) → kind < 16 → i < 16 → left < 4096 → right < 4096 → eqb (condition_layout kind) 0 ≡ false
    → field_fits (condition_layout kind / 64 % 8) i F ≡ true → field_fits (condition_layout kind / 8 % 8) left k ≡ true
    → field_fits (condition_layout kind % 8) right k ≡ true → condition_fits F k (condition_fields (condition_word kind i left right)) ≡ true
unfolding condition_word
word_fits F k kind i left right hk hi hl hr known fi fl fr =
    fields_fit F k (condition_fields (condition_word kind i left right)) kind i left right (omega arith) (omega arith) (omega arith) (omega arith) known fi fl fr

-- ---- lists of them

-- the records from k on fit
abbrev pub AllFit : ℕ → ℕ → List ℕ → Type 0
AllFit F k [] = Unit {0}
AllFit F k (w ∷ ws) = (condition_fits F k (condition_fields w) ≡ true) × AllFit F (suc k) ws

fitᶜ : (F : ℕ) → F ≤ 6 → (c : Condition) → Underᶜ F c → (k : ℕ) (r : List ℕ) → k + sizeᶜ c ≤ 4096 → AllFit F (k + sizeᶜ c) r → AllFit F k (wordsᶜ c k r)
unfolding wordsᶜ sizeᶜ Underᶜ condition_layout condition_kinds field_fits
fitᶜ F f falseᶜ u k r m h = (word_fits F k 0 0 0 0 (omega arith) (omega arith) (omega arith) (omega arith) refl refl refl refl, subst (λ i. AllFit F i r) (omega arith) h)
fitᶜ F f trueᶜ u k r m h = (word_fits F k 1 0 0 0 (omega arith) (omega arith) (omega arith) (omega arith) refl refl refl refl, subst (λ i. AllFit F i r) (omega arith) h)
fitᶜ F f (option i) u k r m h = (word_fits F k 2 i 0 0 (omega arith) (omega arith) (omega arith) (omega arith) refl (lt-ltb i F u) refl refl, subst (λ i. AllFit F i r) (omega arith) h)
fitᶜ F f (notᶜ c) u k r m h =
    let n = k + sizeᶜ c in
    let s = someᶜ c in
    fitᶜ F f c u k _ (omega arith)
    (word_fits F n 3 0 (n - 1) 0 (omega arith) (omega arith) (omega arith) (omega arith) refl refl (lt-ltb (n - 1) n (omega arith)) refl, subst (λ i. AllFit F i r) (omega arith) h)
fitᶜ F f (andᶜ c d) u k r m h =
    let n = k + sizeᶜ c + sizeᶜ d in
    let p = k + sizeᶜ c - 1 in
    let s = someᶜ c in
    let z = someᶜ d in
    fitᶜ F f c u.0 k _ (omega arith) (fitᶜ F f d u.1 (k + sizeᶜ c) _ (omega arith) (
      word_fits F n 4 0 p (n - 1) (omega arith) (omega arith) (omega arith) (omega arith) refl refl (lt-ltb p n (omega arith)) (lt-ltb (n - 1) n (omega arith)),
      subst (λ i. AllFit F i r) (omega arith) h,
    ))
fitᶜ F f (orᶜ c d) u k r m h =
    let n = k + sizeᶜ c + sizeᶜ d in
    let p = k + sizeᶜ c - 1 in
    let s = someᶜ c in
    let z = someᶜ d in
    fitᶜ F f c u.0 k _ (omega arith) (fitᶜ F f d u.1 (k + sizeᶜ c) _ (omega arith) (
      word_fits F n 5 0 p (n - 1) (omega arith) (omega arith) (omega arith) (omega arith) refl refl (lt-ltb p n (omega arith)) (lt-ltb (n - 1) n (omega arith)),
      subst (λ i. AllFit F i r) (omega arith) h,
    ))

mutual
  unfolding choicesᵃ recordsᵃ Underᵃ

  fitᵃ : (F : ℕ) → F ≤ 6 → (t : Arithmetic Condition) → Underᵃ F t → (k : ℕ) (r : List ℕ) → k + recordsᵃ t ≤ 4096 → AllFit F (k + recordsᵃ t) r
      → AllFit F k (choicesᵃ t k r)
  fitᵃ F f (number z) u k r m h = subst (λ i. AllFit F i r) (omega arith) h
  fitᵃ F f (variable j) u k r m h = subst (λ i. AllFit F i r) (omega arith) h
  fitᵃ F f (sum a b) u k r m h = fitᵃ F f a u.0 k _ (omega arith) (fitᵃ F f b u.1 (k + recordsᵃ a) _ (omega arith) (subst (λ i. AllFit F i r) (omega arith) h))
  fitᵃ F f (pick e a b) u k r m h = fitᵇ F f e u.0 k _ (omega arith) (fitᵃ F f a u.1 (k + recordsᵇ e) _ (omega arith) (fitᵃ F f b u.2 (k + recordsᵇ e + recordsᵃ a) _ (omega arith) (subst (λ i. AllFit F i r) (omega arith) h)))
  fitᵃ F f (choiceᵃ c a b) u k r m h = fitᶜ F f c u.0 k _ (omega arith) (fitᵃ F f a u.1 (k + sizeᶜ c) _ (omega arith) (fitᵃ F f b u.2 (k + sizeᶜ c + recordsᵃ a) _ (omega arith) (subst (λ i. AllFit F i r) (omega arith) h)))

  fitᵇ : (F : ℕ) → F ≤ 6 → (t : Boolean Condition) → Underᵇ F t → (k : ℕ) (r : List ℕ) → k + recordsᵇ t ≤ 4096 → AllFit F (k + recordsᵇ t) r
      → AllFit F k (choicesᵇ t k r)
  fitᵇ F f falseᵇ u k r m h = subst (λ i. AllFit F i r) (omega arith) h
  fitᵇ F f trueᵇ u k r m h = subst (λ i. AllFit F i r) (omega arith) h
  fitᵇ F f (notᵇ e) u k r m h = fitᵇ F f e u k _ (omega arith) h
  fitᵇ F f (andᵇ x y) u k r m h = fitᵇ F f x u.0 k _ (omega arith) (fitᵇ F f y u.1 (k + recordsᵇ x) _ (omega arith) (subst (λ i. AllFit F i r) (omega arith) h))
  fitᵇ F f (less a b) u k r m h = fitᵃ F f a u.0 k _ (omega arith) (fitᵃ F f b u.1 (k + recordsᵃ a) _ (omega arith) (subst (λ i. AllFit F i r) (omega arith) h))
  fitᵇ F f (choiceᵇ c x y) u k r m h = fitᶜ F f c u.0 k _ (omega arith) (fitᵇ F f x u.1 (k + sizeᶜ c) _ (omega arith) (fitᵇ F f y u.2 (k + sizeᶜ c + recordsᵇ x) _ (omega arith) (subst (λ i. AllFit F i r) (omega arith) h)))

pub fitˢ : (F : ℕ) → F ≤ 6 → (t : Statement Condition) → Under F t → (k : ℕ) (r : List ℕ) → k + recordsˢ t ≤ 4096 → AllFit F (k + recordsˢ t) r
    → AllFit F k (choicesˢ t k r)
unfolding choicesˢ recordsˢ Under
fitˢ F f skip u k r m h = subst (λ i. AllFit F i r) (omega arith) h
fitˢ F f (assign j a) u k r m h = fitᵃ F f a u k _ (omega arith) h
fitˢ F f (sequence x y) u k r m h = fitˢ F f x u.0 k _ (omega arith) (fitˢ F f y u.1 (k + recordsˢ x) _ (omega arith) (subst (λ i. AllFit F i r) (omega arith) h))
fitˢ F f (if e x y) u k r m h = fitᵇ F f e u.0 k _ (omega arith) (fitˢ F f x u.1 (k + recordsᵇ e) _ (omega arith) (fitˢ F f y u.2 (k + recordsᵇ e + recordsˢ x) _ (omega arith) (subst (λ i. AllFit F i r) (omega arith) h)))
fitˢ F f (while e x) u k r m h = fitᵇ F f e u.0 k _ (omega arith) (fitˢ F f x u.1 (k + recordsᵇ e) _ (omega arith) (subst (λ i. AllFit F i r) (omega arith) h))
fitˢ F f (throw a) u k r m h = fitᵃ F f a u k _ (omega arith) h
fitˢ F f (try x j y) u k r m h = fitˢ F f x u.0 k _ (omega arith) (fitˢ F f y u.1 (k + recordsˢ x) _ (omega arith) (subst (λ i. AllFit F i r) (omega arith) h))
fitˢ F f (choice c x y) u k r m h = fitᶜ F f c u.0 k _ (omega arith) (fitˢ F f x u.1 (k + sizeᶜ c) _ (omega arith) (fitˢ F f y u.2 (k + sizeᶜ c + recordsˢ x) _ (omega arith) (subst (λ i. AllFit F i r) (omega arith) h)))

-- ---- in an image

-- where they stand each fits
pub each_fits : (l ws : List ℕ) (F at : ℕ) → Records l at ws → AllFit F at ws → (k : ℕ) → at ≤ k → k < at + length ws → condition_fits F k (condition_record l k) ≡ true
each_fits l [] F at h f k p q = absurd (omega arith)
each_fits l (w ∷ ws) F at h f k p q = go (ℕ_discrete at k) (each_fits l ws F (suc at) h.1 f.1 k)
  where
    go : Dec (at ≡ k) → (suc at ≤ k → k < suc at + length ws → condition_fits F k (condition_record l k) ≡ true) → condition_fits F k (condition_record l k) ≡ true
    go (yes e) on = subst (λ k. condition_fits F k (condition_record l k) ≡ true) e (ap (condition_fits F at) h.0 ∙ f.0)
    go (no e) on = on (omega arith) (omega arith)
