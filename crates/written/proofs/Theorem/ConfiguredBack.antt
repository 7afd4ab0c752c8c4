-- A configured image, listed and read, is itself, byte for byte.
use Rattle.std.specs.Prelude.{◌≡◌, ℕ, suc, ◌+◌, ◌≤◌, Bool, true, false, cond}
use Rattle.std.proofs.Common.{sym, ◌∙◌, ap₂, subst, arith}
use Rattle.imp.specs.Condition.{Condition, holds}
use Rattle.imp.specs.Routine.{Arithmetic, number, variable, sum, pick, choiceᵃ, Boolean, falseᵇ, trueᵇ, notᵇ, andᵇ, less, choiceᵇ, Statement, skip, assign, sequence, if, while, throw, try, choice}
use Rattle.imp.specs.Configure.{configureᵃ, configureᵇ, configure}
use Rattle.imp.specs.Valid.{Valid}
use Rattle.imp.proofs.Theorem.Configured.{configured_valid}
use Rattle.image.specs.Bytes.{Bytes}
use Rattle.image.specs.Records.{header}
use Rattle.image.specs.Tree.{routine}
use Rattle.image.specs.Listing.{sizeᵃ, sizeᵇ, sizeˢ}
use Rattle.image.specs.Term.{size}
use Rattle.image.specs.Encode.{termᵃ, termᵇ, termˢ, plain_image}
use Rattle.image.specs.Accepted.{Accepted}
use Rattle.image.proofs.Theorem.RoundTrip.{image_accepted, image_shape, reads_back}
use Rattle.written.specs.Grammar.{Reads}
use Rattle.written.specs.Lister.{listed}
use Rattle.written.specs.Image.{written_image}
use Rattle.written.proofs.Theorem.ImageTree.{routine_valid, routine_size}
use Rattle.written.proofs.Theorem.WrittenPlain.{written_plain}
use Rattle.written.proofs.Theorem.ListRead.{list_read}

-- ---- a configured routine is no larger

either : {A : Type 0} (f : A → ℕ) (u : Bool) (x y : A) (n m : ℕ) → f x ≤ n → f y ≤ m → f (cond u x y) ≤ suc (n + m)
either f true x y n m p q = omega arith
either f false x y n m p q = omega arith

mutual
  unfolding configureᵃ termᵃ size sizeᵃ

  smallerᵃ : (s : ℕ) (a : Arithmetic Condition) → size (termᵃ (configureᵃ s a)) ≤ sizeᵃ a
  smallerᵃ s (number z) = omega arith
  smallerᵃ s (variable v) = omega arith
  smallerᵃ s (sum a b) = omega (arith, smallerᵃ s a, smallerᵃ s b)
  smallerᵃ s (pick e a b) = omega (arith, smallerᵇ s e, smallerᵃ s a, smallerᵃ s b)
  smallerᵃ s (choiceᵃ c a b) = either (λ x. size (termᵃ x)) (holds c s) (configureᵃ s a) (configureᵃ s b) (sizeᵃ a) (sizeᵃ b) (smallerᵃ s a) (smallerᵃ s b)

  smallerᵇ : (s : ℕ) (e : Boolean Condition) → size (termᵇ (configureᵇ s e)) ≤ sizeᵇ e
  smallerᵇ s falseᵇ = omega arith
  smallerᵇ s trueᵇ = omega arith
  smallerᵇ s (notᵇ e) = omega (arith, smallerᵇ s e)
  smallerᵇ s (andᵇ e f) = omega (arith, smallerᵇ s e, smallerᵇ s f)
  smallerᵇ s (less a b) = omega (arith, smallerᵃ s a, smallerᵃ s b)
  smallerᵇ s (choiceᵇ c e f) = either (λ x. size (termᵇ x)) (holds c s) (configureᵇ s e) (configureᵇ s f) (sizeᵇ e) (sizeᵇ f) (smallerᵇ s e) (smallerᵇ s f)

smallerˢ : (s : ℕ) (t : Statement Condition) → size (termˢ (configure s t)) ≤ sizeˢ t
unfolding configure termˢ size sizeˢ
smallerˢ s skip = omega arith
smallerˢ s (assign v a) = omega (arith, smallerᵃ s a)
smallerˢ s (sequence x y) = omega (arith, smallerˢ s x, smallerˢ s y)
smallerˢ s (if e x y) = omega (arith, smallerᵇ s e, smallerˢ s x, smallerˢ s y)
smallerˢ s (while e x) = omega (arith, smallerᵇ s e, smallerˢ s x)
smallerˢ s (throw a) = omega (arith, smallerᵃ s a)
smallerˢ s (try x v y) = omega (arith, smallerˢ s x, smallerˢ s y)
smallerˢ s (choice c x y) = either (λ x. size (termˢ x)) (holds c s) (configure s x) (configure s y) (sizeˢ x) (sizeˢ y) (smallerˢ s x) (smallerˢ s y)

-- ---- any plain routine

-- whatever is read of the listing of a plain routine's image is written as that image
pub plain_back : (t : Statement ⊥) → Valid t → size (termˢ t) ≤ 1024 → (F : ℕ) (tree : Statement Condition)
    → Reads (listed 0 (routine (plain_image t))) F tree → written_image F tree ≡ plain_image t
plain_back t v few F tree h =
    let l : Bytes = plain_image t in
    let none : (header l).options ≡ 0 = (image_shape t v few).0 in
    let k = list_read l (image_accepted t v few) F tree (subst (λ F'. Reads (listed F' (routine l)) F tree) (sym none) h) in
    ap₂ written_image (k.0 ∙ none) (k.1 ∙ reads_back t v few) ∙ written_plain t

-- ---- a configured one

pub configured_back : (l : Bytes) → Accepted l → (s F : ℕ) (tree : Statement Condition)
    → Reads (listed 0 (routine (plain_image (configure s (routine l))))) F tree → written_image F tree ≡ plain_image (configure s (routine l))
configured_back l acc s F tree h =
    plain_back (configure s (routine l)) (configured_valid s (routine l) (routine_valid l acc))
    (omega (arith, smallerˢ s (routine l), routine_size l acc, acc.few_nodes)) F tree h
