-- What the lister writes for a number, a variable, an option or F spells its token.
use Rattle.std.specs.Prelude.{◌≡◌, refl, ℕ, zero, suc, ◌+◌, ◌-◌, ◌*◌, ◌/◌, ◌%◌, ◌^◌, ◌≤◌, ◌<◌, Bool, true, false, cond, [], ◌∷◌, ◌++◌, T, leb, ltb, ℤ, pos, negsuc}
use Rattle.std.proofs.Common.{subst, pow-suc, arith, le→leb, ltb-true, ltb-false, lt-ltb, SFits}
use Rattle.std.specs.Int.{w32}
use Rattle.image.specs.Bytes.{Bytes}
use Rattle.text.specs.Decimal.{digits, decimal, signed_decimal}
use Rattle.written.specs.Byte.{is_digit}
use Rattle.written.specs.Token.{Opens, variable, option, count, number, Extends, Decimal, Behind, Spells}
use Rattle.written.proofs.Theorem.Spacing.{and_both}

digit_is : (d : ℕ) → d ≤ 9 → T (is_digit (48 + d)) × (48 + d - 48 ≡ d)
digit_is d h = (and_both (leb 48 (48 + d)) (leb (48 + d) 57) (le→leb 48 (48 + d) (omega arith)) (le→leb (48 + d) 57 (omega arith)), omega arith)

extends_more : (l : Bytes) (n m d : ℕ) → d ≤ 9 → 0 < m → Extends n l m → Extends n (l ++ ((48 + d) ∷ [])) (m * 10 + d)
unfolding Extends
extends_more [] n m d h p e =
    let k = digit_is d h in
    (omega arith, k.0, omega (arith, k.1))
extends_more (c ∷ l) n m d h p e = (e.0, e.1, extends_more l (n * 10 + (c - 48)) m d h p e.2)

decimal_more : (l : Bytes) (m d : ℕ) → d ≤ 9 → 0 < m → Decimal l m → Decimal (l ++ ((48 + d) ∷ [])) (m * 10 + d)
unfolding Decimal
decimal_more [] m d h p e = absurd e
decimal_more (c ∷ l) m d h p e = (e.0, extends_more l (c - 48) m d h p e.1)

decimal_one : (d : ℕ) → d ≤ 9 → Decimal ((48 + d) ∷ []) d
unfolding Decimal Extends
decimal_one d h = digit_is d h

-- one digit, or those of a tenth and the last
digits_by : (u : Bool) (n : ℕ) (high : Bytes) → ltb n 10 ≡ u → Decimal high (n / 10) → Decimal (cond u ((48 + n) ∷ []) (high ++ ((48 + n % 10) ∷ []))) n
digits_by true n high e g = decimal_one n (omega (arith, ltb-true n 10 e))
digits_by false n high e g =
    let h : 10 ≤ n = ltb-false n 10 e in
    let w : n / 10 * 10 + n % 10 ≡ n = omega arith in
    subst (λ m. Decimal (high ++ ((48 + n % 10) ∷ [])) m) w (decimal_more high (n / 10) (n % 10) (omega arith) (omega arith) g)

digits_are : (k n : ℕ) → n < 10 ^ suc k → Decimal (digits (suc k) n) n
unfolding digits
digits_are zero n h = rw (lt-ltb n 10 (omega arith)) (decimal_one n (omega arith))
digits_are (suc k) n h = digits_by (ltb n 10) n (digits (suc k) (n / 10)) refl (digits_are k (n / 10) (omega (arith, pow-suc 10 (suc k))))

decimal_is : (n : ℕ) → n < 2 ^ 64 → Decimal (decimal n) n
unfolding decimal
decimal_is n h = digits_are 19 n (omega arith)

-- ---- tokens

pub variable_spelled : (o : Opens) (n : ℕ) → n < 16 → Spells (variable o n) (118 ∷ decimal n)
unfolding Spells Behind
variable_spelled o n h = ((refl, decimal_is n (omega arith)), omega arith)

pub option_spelled : (F n : ℕ) → F ≤ 6 → n < F → Spells (option F n) (111 ∷ decimal n)
unfolding Spells Behind
option_spelled F n h k = ((refl, decimal_is n (omega arith)), k)

pub count_spelled : (F : ℕ) → F ≤ 6 → Spells (count F) (decimal F)
unfolding Spells
count_spelled F h = (decimal_is F (omega arith), h)

pub number_spelled : (z : ℤ) → SFits w32 z → Spells (number z) (signed_decimal z)
unfolding Spells Behind signed_decimal
number_spelled (pos n) h = (decimal_is n (omega arith), omega arith)
number_spelled (negsuc n) h = ((refl, decimal_is (suc n) (omega arith)), omega arith)
