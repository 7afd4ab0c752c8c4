-- The lister: one spelling of each tree, laid out for people. Expressions stand on one line, each part of a sequence on a line of its own, and the
-- parts of if, while, try and a choice of statements below it, indented, unless all of them are short.
use Rattle.std.specs.Prelude.{ℕ, zero, suc, ◌*◌, Bool, true, false, cond, ◌&&◌, [], ◌∷◌, ◌++◌, ltb}
use Rattle.imp.specs.Condition.{Condition, falseᶜ, trueᶜ, option, notᶜ, andᶜ, orᶜ}
use Rattle.imp.specs.Routine.{Arithmetic, number, variable, sum, pick, choiceᵃ, Boolean, falseᵇ, trueᵇ, notᵇ, andᵇ, less, choiceᵇ, Statement, skip, assign, sequence, if, while, throw, try, choice}
use Rattle.image.specs.Bytes.{Bytes}
use Rattle.text.specs.Decimal.{decimal, signed_decimal}
use Rattle.written.specs.Word.{bytes}

-- ---- conditions and expressions

unfoldable pub listedᶜ : Condition → Bytes
listedᶜ trueᶜ = bytes "true"
listedᶜ falseᶜ = bytes "false"
listedᶜ (option k) = bytes "o" ++ decimal k
listedᶜ (notᶜ c) = bytes "not " ++ listedᶜ c
listedᶜ (andᶜ c d) = bytes "(" ++ (listedᶜ c ++ (bytes " and " ++ (listedᶜ d ++ bytes ")")))
listedᶜ (orᶜ c d) = bytes "(" ++ (listedᶜ c ++ (bytes " or " ++ (listedᶜ d ++ bytes ")")))

unfoldable mutual
  pub listedᵃ : Arithmetic Condition → Bytes
  listedᵃ (number z) = signed_decimal z
  listedᵃ (variable v) = bytes "v" ++ decimal v
  listedᵃ (sum a b) = bytes "(" ++ (listedᵃ a ++ (bytes " + " ++ (listedᵃ b ++ bytes ")")))
  listedᵃ (pick e a b) = bytes "pick (" ++ (listedᵇ e ++ (bytes " ? " ++ (listedᵃ a ++ (bytes " : " ++ (listedᵃ b ++ bytes ")")))))
  listedᵃ (choiceᵃ c a b) = bytes "[" ++ (listedᶜ c ++ (bytes " ? " ++ (listedᵃ a ++ (bytes " : " ++ (listedᵃ b ++ bytes "]")))))

  pub listedᵇ : Boolean Condition → Bytes
  listedᵇ trueᵇ = bytes "true"
  listedᵇ falseᵇ = bytes "false"
  listedᵇ (notᵇ e) = bytes "not " ++ listedᵇ e
  listedᵇ (andᵇ e f) = bytes "both (" ++ (listedᵇ e ++ (bytes " and " ++ (listedᵇ f ++ bytes ")")))
  listedᵇ (less a b) = bytes "(" ++ (listedᵃ a ++ (bytes " < " ++ (listedᵃ b ++ bytes ")")))
  listedᵇ (choiceᵇ c e f) = bytes "[" ++ (listedᶜ c ++ (bytes " ? " ++ (listedᵇ e ++ (bytes " : " ++ (listedᵇ f ++ bytes "]")))))

-- ---- lines

-- the deepest level that is indented as such
abbrev pub DEEPEST : ℕ
DEEPEST = 16

unfoldable pub spaces : ℕ → Bytes
spaces zero = []
spaces (suc n) = 32 ∷ spaces n

-- a line end, and two spaces for each level
unfoldable pub line : ℕ → Bytes
line level = 10 ∷ spaces (2 * cond (ltb level DEEPEST) level DEEPEST)

-- what stands before a part: a space where all parts are short, else a line end and the part's level
unfoldable pub gap : Bool → ℕ → Bytes
gap one_line level = cond one_line (bytes " ") (line level)

-- a number or a variable
unfoldable pub shortᵃ : Arithmetic Condition → Bool
shortᵃ (number z) = true
shortᵃ (variable v) = true
shortᵃ (sum a b) = false
shortᵃ (pick e a b) = false
shortᵃ (choiceᵃ c a b) = false

-- a skip, or an assignment or throw of a number or a variable
unfoldable pub short : Statement Condition → Bool
short skip = true
short (assign v a) = shortᵃ a
short (sequence x y) = false
short (if e x y) = false
short (while e x) = false
short (throw a) = shortᵃ a
short (try x v y) = false
short (choice c x y) = false

-- ---- statements, at a level

unfoldable pub listedˢ : ℕ → Statement Condition → Bytes
listedˢ d skip = bytes "skip"
listedˢ d (assign v a) = bytes "v" ++ (decimal v ++ (bytes " := " ++ listedᵃ a))
listedˢ d (sequence x y) = bytes "{" ++ (listedˢ d x ++ (bytes " ;" ++ (line d ++ (listedˢ d y ++ bytes "}"))))
listedˢ d (if e x y) =
    let flat : Bool = short x && short y in
    bytes "if " ++ (listedᵇ e ++ (bytes " then" ++ (gap flat (suc d) ++ (listedˢ (suc d) x
    ++ (gap flat d ++ (bytes "else" ++ (gap flat (suc d) ++ listedˢ (suc d) y)))))))
listedˢ d (while e x) = bytes "while " ++ (listedᵇ e ++ (bytes " do" ++ (gap (short x) (suc d) ++ listedˢ (suc d) x)))
listedˢ d (throw a) = bytes "throw " ++ listedᵃ a
listedˢ d (try x v y) =
    let flat : Bool = short x && short y in
    bytes "try" ++ (gap flat (suc d) ++ (listedˢ (suc d) x
    ++ (gap flat d ++ (bytes "catch v" ++ (decimal v ++ (bytes " with" ++ (gap flat (suc d) ++ listedˢ (suc d) y)))))))
listedˢ d (choice c x y) =
    let flat : Bool = short x && short y in
    bytes "[" ++ (listedᶜ c ++ (bytes " ?" ++ (gap flat (suc d) ++ (listedˢ (suc d) x
    ++ (gap flat d ++ (bytes ":" ++ (gap flat (suc d) ++ (listedˢ (suc d) y ++ bytes "]"))))))))

-- ---- routines

-- "It begins with `options` and F", which has a line of its own; the last line ends as every other
unfoldable pub listed : ℕ → Statement Condition → Bytes
listed F t = bytes "options " ++ (decimal F ++ (bytes "\n" ++ (listedˢ 0 t ++ bytes "\n")))
