-- How long a listing is at most: 120 bytes a node, 7 a condition record, and 20 beside.
use Rattle.std.specs.Prelude.{◌≡◌, refl, ℕ, zero, suc, ◌+◌, ◌*◌, ◌≤◌, ◌<◌, Bool, true, false, cond, ◌&&◌, ◌∷◌, ltb, ℤ, pos, negsuc, length}
use Rattle.std.proofs.Common.{arith, length-append, ltb-true, SFits}
use Rattle.std.specs.Int.{w32}
use Rattle.imp.specs.Condition.{Condition, falseᶜ, trueᶜ, option, notᶜ, andᶜ, orᶜ}
use Rattle.imp.specs.Routine.{Arithmetic, number, variable, sum, pick, choiceᵃ, Boolean, falseᵇ, trueᵇ, notᵇ, andᵇ, less, choiceᵇ, Statement, skip, assign, sequence, if, while, throw, try, choice}
use Rattle.imp.specs.Valid.{Validᵃ, Validᵇ, Valid}
use Rattle.image.specs.Listing.{sizeᵃ, sizeᵇ, sizeˢ}
use Rattle.text.specs.Decimal.{decimal, signed_decimal}
use Rattle.text.specs.Theorem.Decimals.{short as few-digits}
use Rattle.written.specs.Under.{Underᶜ, Underᵃ, Underᵇ, Under}
use Rattle.written.specs.Count.{sizeᶜ, recordsᵃ, recordsᵇ, recordsˢ}
use Rattle.written.specs.Lister.{listedᶜ, listedᵃ, listedᵇ, DEEPEST, spaces, line, gap, short, listedˢ, listed}

-- ---- numbers and gaps

one_digit : (n : ℕ) → n < 10 → length (decimal n) ≤ 1
one_digit n h = few-digits 19 0 n (omega arith) (omega arith)

two_digits : (n : ℕ) → n < 16 → length (decimal n) ≤ 2
two_digits n h = few-digits 18 1 n (omega arith) (omega arith)

of_number : (z : ℤ) → SFits w32 z → length (signed_decimal z) ≤ 11
unfolding signed_decimal
of_number (pos n) h = omega (arith, few-digits 10 9 n (omega arith) (omega arith))
of_number (negsuc n) h = omega (arith, few-digits 10 9 (suc n) (omega arith) (omega arith))

of_spaces : (n : ℕ) → length (spaces n) ≡ n
unfolding spaces
of_spaces zero = omega arith
of_spaces (suc n) = omega (arith, of_spaces n)

of_line : (level : ℕ) → length (line level) ≤ 33
unfolding line
of_line level = go (ltb level DEEPEST) (ltb-true level DEEPEST)
  where
    go : (u : Bool) → (u ≡ true → level < DEEPEST) → length (10 ∷ spaces (2 * cond u level DEEPEST)) ≤ 33
    go true h = omega (arith, of_spaces (2 * level), h refl)
    go false h = omega (arith, of_spaces (2 * DEEPEST))

of_gap : (flat : Bool) (level : ℕ) → length (gap flat level) ≤ 33
unfolding gap
of_gap true level = omega arith
of_gap false level = of_line level

-- ---- trees

boundᶜ : (F : ℕ) → F ≤ 6 → (c : Condition) → Underᶜ F c → length (listedᶜ c) ≤ 7 * sizeᶜ c
unfolding listedᶜ sizeᶜ Underᶜ
boundᶜ F h trueᶜ u = omega arith
boundᶜ F h falseᶜ u = omega arith
boundᶜ F h (option k) u = omega (arith, one_digit k (omega (arith, u)))
boundᶜ F h (notᶜ c) u = omega (arith, boundᶜ F h c u)
boundᶜ F h (andᶜ c d) u = simp length-append (omega (arith, boundᶜ F h c u.0, boundᶜ F h d u.1))
boundᶜ F h (orᶜ c d) u = simp length-append (omega (arith, boundᶜ F h c u.0, boundᶜ F h d u.1))

mutual
  unfolding listedᵃ sizeᵃ recordsᵃ Validᵃ Underᵃ

  boundᵃ : (F : ℕ) → F ≤ 6 → (a : Arithmetic Condition) → Validᵃ a → Underᵃ F a → length (listedᵃ a) ≤ 120 * sizeᵃ a + 7 * recordsᵃ a
  boundᵃ F h (number z) v u = omega (arith, of_number z v)
  boundᵃ F h (variable n) v u = omega (arith, two_digits n v)
  boundᵃ F h (sum a b) v u = simp length-append (omega (arith, boundᵃ F h a v.0 u.0, boundᵃ F h b v.1 u.1))
  boundᵃ F h (pick e a b) v u =
      simp length-append (omega (arith, boundᵇ F h e v.0 u.0, boundᵃ F h a v.1 u.1, boundᵃ F h b v.2 u.2))
  boundᵃ F h (choiceᵃ c a b) v u =
      simp length-append (omega (arith, boundᶜ F h c u.0, boundᵃ F h a v.0 u.1, boundᵃ F h b v.1 u.2))

  boundᵇ : (F : ℕ) → F ≤ 6 → (e : Boolean Condition) → Validᵇ e → Underᵇ F e → length (listedᵇ e) ≤ 120 * sizeᵇ e + 7 * recordsᵇ e
  boundᵇ F h trueᵇ v u = omega arith
  boundᵇ F h falseᵇ v u = omega arith
  boundᵇ F h (notᵇ e) v u = omega (arith, boundᵇ F h e v u)
  boundᵇ F h (andᵇ e f) v u = simp length-append (omega (arith, boundᵇ F h e v.0 u.0, boundᵇ F h f v.1 u.1))
  boundᵇ F h (less a b) v u = simp length-append (omega (arith, boundᵃ F h a v.0 u.0, boundᵃ F h b v.1 u.1))
  boundᵇ F h (choiceᵇ c e f) v u =
      simp length-append (omega (arith, boundᶜ F h c u.0, boundᵇ F h e v.0 u.1, boundᵇ F h f v.1 u.2))

bound : (F : ℕ) → F ≤ 6 → (d : ℕ) (t : Statement Condition) → Valid t → Under F t → length (listedˢ d t) ≤ 120 * sizeˢ t + 7 * recordsˢ t
unfolding listedˢ sizeˢ recordsˢ Valid Under
bound F h d skip v u = omega arith
bound F h d (assign n a) v u = simp length-append (omega (arith, two_digits n v.0, boundᵃ F h a v.1 u))
bound F h d (sequence x y) v u = simp length-append (omega (arith, of_line d, bound F h d x v.0 u.0, bound F h d y v.1 u.1))
bound F h d (if e x y) v u =
    let flat : Bool = short x && short y in
    simp length-append (omega (arith, of_gap flat d, of_gap flat (suc d), boundᵇ F h e v.0 u.0, bound F h (suc d) x v.1 u.1, bound F h (suc d) y v.2 u.2))
bound F h d (while e x) v u =
    simp length-append (omega (arith, of_gap (short x) (suc d), boundᵇ F h e v.0 u.0, bound F h (suc d) x v.1 u.1))
bound F h d (throw a) v u = omega (arith, boundᵃ F h a v u)
bound F h d (try x n y) v u =
    let flat : Bool = short x && short y in
    simp length-append (omega (arith, of_gap flat d, of_gap flat (suc d), two_digits n v.1, bound F h (suc d) x v.0 u.0, bound F h (suc d) y v.2 u.1))
bound F h d (choice c x y) v u =
    let flat : Bool = short x && short y in
    simp length-append (omega (arith, of_gap flat d, of_gap flat (suc d), boundᶜ F h c u.0, bound F h (suc d) x v.0 u.1, bound F h (suc d) y v.1 u.2))

-- ---- routines

-- the longest listing of 1,024 nodes and 256 condition records
abbrev pub LONGEST : ℕ
LONGEST = 124692

pub at_most : (F : ℕ) (t : Statement Condition) → F ≤ 6 → Valid t → Under F t → sizeˢ t ≤ 1024 → recordsˢ t ≤ 256 → length (listed F t) ≤ LONGEST
unfolding listed
at_most F t h v u few records = simp length-append (omega (arith, one_digit F (omega arith), bound F h 0 t v u))
