-- The reader as a machine over bytes: a stack of what is still to come, and a step for each byte. Nothing is guessed and nothing read twice.
use Rattle.std.specs.Prelude.{ℕ, zero, suc, ◌+◌, ◌-◌, ◌*◌, Bool, true, false, ◌&&◌, List, [], ◌∷◌, reverse, leb, ltb, eqb, ℤ, pos, negsuc, length}
use Rattle.std.proofs.Math.Option.{Option, none, some}
use Rattle.imp.specs.Condition.{Condition, falseᶜ, trueᶜ, option, notᶜ, andᶜ, orᶜ}
use Rattle.imp.specs.Routine.{Arithmetic, number, variable, sum, pick, choiceᵃ, Boolean, falseᵇ, trueᵇ, notᵇ, andᵇ, less, choiceᵇ, Statement, skip, assign, sequence, if, while, throw, try, choice}
use Rattle.image.specs.Bytes.{Bytes}
use Rattle.written.specs.Byte.{is_space, is_digit, is_wordy}
use Rattle.written.specs.Token.{Lexeme, Opens, nothing, node, record_of, Spot, LAST_VARIABLE, MOST_OPTIONS, HIGHEST}
use Rattle.written.specs.Word.{OPTIONS, SKIP, IF, THEN, ELSE, WHILE, DO, CATCH, WITH, TRUE, FALSE, NOT, BOTH, PICK, AND, OR, GETS, LEFT, RIGHT, PLUS, BELOW, BRACE, SEMI, UNBRACE, ASK, COLON, BRACKET, UNBRACKET}

-- ---- what is still to come

-- the classes of what a text holds; a join is the word between two conditions
pub data Class : Type 0 where
  statements arithmetics booleans conditions variables joins counts : Class

abbrev pub Value : Class → Type 0
Value statements = Statement Condition
Value arithmetics = Arithmetic Condition
Value booleans = Boolean Condition
Value conditions = Condition
Value variables = ℕ
Value joins = Bool
Value counts = ℕ

-- what a reading gives: F and the tree
pub record Reading : Type 0 where
  pub options : ℕ
  pub tree : Statement Condition

-- nothing more; a word or mark and then more; something of a class, under F, and then what goes with its value
pub data Stack : Type 0 where
  done : Reading → Stack
  mark : Lexeme → Stack → Stack
  want : ℕ → (k : Class) → (Value k → Stack) → Stack

-- ---- what has been read

-- a place, and the spots of the tokens before it, the last first
pub record Log : Type 0 where
  pub at : ℕ
  pub spots : List Spot

-- a token that is a decimal, from the log's place on, and the place that the reading has come to
pub record Begun : Type 0 where
  pub log : Log
  pub does : Opens
  pub now : ℕ

-- behind a token
abbrev pub noted : Log → Opens → Bool → ℕ → Log
noted w o g upto = record { at = upto; spots = record { does = o; is_word = g; from = w.at; upto = upto } ∷ w.spots }

abbrev pub behind : Begun → ℕ → Log
behind B upto = noted B.log B.does true upto

abbrev pub on_byte : Begun → Begun
on_byte B = record { log = B.log; does = B.does; now = suc B.now }

-- what is left of a word or mark, the log behind it, whether it is a word or number, and what comes after; behind the t of throw and try, the log before it;
-- at the first digit of a decimal from 0 to hi, or from 1 to 1 + hi; behind a digit of a decimal up to hi, with its value so far
pub data State : Type 0 where
  plain : Log → Bytes → Bool → Stack → State
  fork : Log → ℕ → (Statement Condition → Stack) → State
  first : Begun → Bool → ℕ → (ℕ → Stack) → State
  digits : Begun → ℕ → ℕ → (ℕ → Stack) → State

-- ---- how each class begins: a first byte, and the state behind it

abbrev pub Leads : Type 0
Leads = List (ℕ × State)

-- by a word or mark
abbrev pub lexed : Log → Opens → Lexeme → Stack → State
lexed w o x s = plain (noted w o (is_wordy x.head) (w.at + suc (length x.rest))) x.rest (is_wordy x.head) s

abbrev pub lead : Log → Opens → Lexeme → Stack → ℕ × State
lead w o x s = (x.head, lexed w o x s)

-- by a decimal behind a byte, and by a decimal
abbrev pub led : Log → Opens → Begun
led w o = record { log = w; does = o; now = w.at + 1 }

abbrev pub bare : Log → Opens → Begun
bare w o = record { log = w; does = o; now = w.at + 0 }

abbrev pub joined : Bool → Condition → Condition → Condition
joined true c d = andᶜ c d
joined false c d = orᶜ c d

-- minus n
abbrev pub minus : ℕ → ℤ
minus zero = pos 0
minus (suc n) = negsuc n

-- behind the [ of a choice between two of a class
abbrev pub choosing : ℕ → (k : Class) → (Condition → Value k → Value k → Stack) → Stack
choosing F k f = want F conditions λ c. mark ASK (want F k λ x. mark COLON (want F k λ y. mark UNBRACKET (f c x y)))

abbrev pub option_leads : Log → ℕ → (Condition → Stack) → Leads
option_leads w zero f = []
option_leads w (suc h) f = (111, first (led w record_of) false h λ k. f (option k)) ∷ []

unfoldable pub leads : Log → ℕ → (k : Class) → (Value k → Stack) → Leads
leads w F statements f =
    lead w node SKIP (f skip)
    ∷ (118, first (led w node) false LAST_VARIABLE λ v. mark GETS (want F arithmetics λ a. f (assign v a)))
    ∷ lead w node BRACE (want F statements λ x. mark SEMI (want F statements λ y. mark UNBRACE (f (sequence x y))))
    ∷ lead w node IF (want F booleans λ e. mark THEN (want F statements λ x. mark ELSE (want F statements λ y. f (if e x y))))
    ∷ lead w node WHILE (want F booleans λ e. mark DO (want F statements λ x. f (while e x)))
    ∷ (116, fork w F f)
    ∷ lead w node BRACKET (choosing F statements λ c x y. f (choice c x y))
    ∷ []
leads w F arithmetics f =
    (45, first (led w node) true HIGHEST λ n. f (number (minus n)))
    ∷ (118, first (led w node) false LAST_VARIABLE λ v. f (variable v))
    ∷ lead w node LEFT (want F arithmetics λ a. mark PLUS (want F arithmetics λ b. mark RIGHT (f (sum a b))))
    ∷ lead w node PICK (mark LEFT (want F booleans λ e. mark ASK (want F arithmetics λ a. mark COLON (want F arithmetics λ b. mark RIGHT (f (pick e a b))))))
    ∷ lead w node BRACKET (choosing F arithmetics λ c a b. f (choiceᵃ c a b))
    ∷ []
leads w F booleans f =
    lead w node TRUE (f trueᵇ)
    ∷ lead w node FALSE (f falseᵇ)
    ∷ lead w node NOT (want F booleans λ e. f (notᵇ e))
    ∷ lead w node BOTH (mark LEFT (want F booleans λ e. mark AND (want F booleans λ e'. mark RIGHT (f (andᵇ e e')))))
    ∷ lead w node LEFT (want F arithmetics λ a. mark BELOW (want F arithmetics λ b. mark RIGHT (f (less a b))))
    ∷ lead w node BRACKET (choosing F booleans λ c e e'. f (choiceᵇ c e e'))
    ∷ []
leads w F conditions f =
    lead w record_of TRUE (f trueᶜ)
    ∷ lead w record_of FALSE (f falseᶜ)
    ∷ lead w record_of NOT (want F conditions λ c. f (notᶜ c))
    ∷ lead w record_of LEFT (want F conditions λ c. want F joins λ j. want F conditions λ d. mark RIGHT (f (joined j c d)))
    ∷ option_leads w F f
leads w F variables f = (118, first (led w nothing) false LAST_VARIABLE f) ∷ []
leads w F joins f = lead w nothing AND (f true) ∷ lead w nothing OR (f false) ∷ []
leads w F counts f = []

-- behind the t of a statement
unfoldable pub forks : Log → ℕ → (Statement Condition → Stack) → Leads
forks w F f =
    (104, plain (noted w node true (w.at + 5)) (114 ∷ 111 ∷ 119 ∷ []) true (want F arithmetics λ a. f (throw a)))
    ∷ (114, plain (noted w node true (w.at + 3)) (121 ∷ []) true (want F statements λ x. mark CATCH (want F variables λ v. mark WITH (want F statements λ y. f (try x v y)))))
    ∷ []

-- the classes that begin with a digit
unfoldable pub counted : Log → (k : Class) → (Value k → Stack) → Option State
counted w statements f = none
counted w arithmetics f = some (first (bare w node) false HIGHEST λ n. f (number (pos n)))
counted w booleans f = none
counted w conditions f = none
counted w variables f = none
counted w joins f = none
counted w counts f = some (first (bare w nothing) false MOST_OPTIONS f)

-- ---- steps

abbrev pub when : Bool → State → Option State
when true q = some q
when false q = none

abbrev pub found : Bool → State → Option State → Option State
found true q o = some q
found false q o = o

unfoldable pub look : Leads → ℕ → Option State
look [] b = none
look (l ∷ ls) b = found (eqb b l.0) l.1 (look ls b)

abbrev pub low : Bool → ℕ
low false = 0
low true = 1

abbrev pub first_fits : Bool → ℕ → ℕ → Bool
first_fits p hi b = is_digit b && (leb (low p) (b - 48) && leb (b - 48) (low p + hi))

-- the first digit of a decimal
unfoldable pub first_step : Begun → Bool → ℕ → (ℕ → Stack) → ℕ → Option State
first_step B p hi f b = when (first_fits p hi b) (digits (on_byte B) (b - 48) (low p + hi) f)

-- of the states that stand in `counted`, only those at a first digit
abbrev pub digit_step : Option State → ℕ → Option State
digit_step none b = none
digit_step (some (plain w l g s)) b = none
digit_step (some (fork w F f)) b = none
digit_step (some (first B p hi f)) b = first_step B p hi f b
digit_step (some (digits B n hi f)) b = none

abbrev pub begin_class : Log → Bool → ℕ → (k : Class) → (Value k → Stack) → ℕ → Option State
begin_class w true F k f b = digit_step (counted w k f) b
begin_class w false F k f b = look (leads w F k f) b

-- the first byte of a token
abbrev pub begin : Log → Stack → ℕ → Option State
begin w (done r) b = none
begin w (mark x s) b = when (eqb b x.head) (lexed w nothing x s)
begin w (want F k f) b = begin_class w (is_digit b) F k f b

abbrev pub past_space : Log → Log
past_space w = record { at = suc w.at; spots = w.spots }

abbrev pub between_by : Log → Bool → Bool → Stack → ℕ → Option State
between_by w true shut s b = some (plain (past_space w) [] false s)
between_by w false true s b = none
between_by w false false s b = begin w s b

-- a space, or the first byte of a token, which is no word or number right behind another
unfoldable pub between : Log → Bool → Stack → ℕ → Option State
between w g s b = between_by w (is_space b) (g && is_wordy b) s b

-- one digit more, or what comes behind the number
abbrev pub digits_by : Begun → Bool → ℕ → ℕ → (ℕ → Stack) → ℕ → Option State
digits_by B true n hi f b = when (ltb 0 n && leb (n * 10 + (b - 48)) hi) (digits (on_byte B) (n * 10 + (b - 48)) hi f)
digits_by B false n hi f b = between (behind B (B.now + 0)) true (f n) b

unfoldable pub step : State → ℕ → Option State
step (plain w [] g s) b = between w g s b
step (plain w (c ∷ l) g s) b = when (eqb b c) (plain w l g s)
step (fork w F f) b = look (forks w F f) b
step (first B p hi f) b = first_step B p hi f b
step (digits B n hi f) b = digits_by B (is_digit b) n hi f b

-- ---- whole texts

-- what a reading gives, and where its tokens stand
pub record Result : Type 0 where
  pub reading : Reading
  pub placed : List Spot

abbrev pub ended : Log → Stack → Option Result
ended w (done r) = some (record { reading = r; placed = reverse w.spots })
ended w (mark x s) = none
ended w (want F k f) = none

-- what has been read if the text ends here
unfoldable pub final : State → Option Result
final (plain w [] g s) = ended w s
final (plain w (c ∷ l) g s) = none
final (fork w F f) = none
final (first B p hi f) = none
final (digits B n hi f) = ended (behind B (B.now + 0)) (f n)

-- before a text
unfoldable pub start : State
start = plain (record { at = 0; spots = [] }) [] false (mark OPTIONS (want 0 counts λ F. want F statements λ t. done (record { options = F; tree = t })))

-- F and the tree, or the place of Refusal 17
pub data Outcome : Type 0 where
  read : Result → Outcome
  refused : ℕ → Outcome

abbrev pub at_end : Option Result → ℕ → Outcome
at_end (some r) at = read r
at_end none at = refused at

-- the byte at `at` fits nothing, or the reading goes on
abbrev pub carry : Option State → ℕ → (State → Outcome) → Outcome
carry none at on = refused at
carry (some q) at on = on q

-- `at` bytes have been read
unfoldable pub go : Bytes → State → ℕ → Outcome
go [] q at = at_end (final q) at
go (b ∷ l) q at = carry (step q b) at λ q'. go l q' (suc at)

unfoldable pub outcome : Bytes → Outcome
outcome text = go text start 0
