-- The end of a text, and that from every state some text goes on to it.
use Rattle.std.specs.Prelude.{◌≡◌, refl, ℕ, suc, ◌+◌, Bool, true, false, length, pos}
use Rattle.std.proofs.Common.{sym, ◌∙◌, ap, subst, arith}
use mathlib.Core.List.{List, [], ◌∷◌, ◌++◌, reverse, reverse_aux}
use Rattle.std.proofs.Math.Option.{Option, none, some}
use Rattle.imp.specs.Condition.{Condition, falseᶜ, trueᶜ, option, notᶜ, andᶜ, orᶜ}
use Rattle.imp.specs.Routine.{Arithmetic, number, variable, sum, pick, choiceᵃ, Boolean, falseᵇ, trueᵇ, notᵇ, andᵇ, less, choiceᵇ, Statement, skip, assign, sequence, if, while, throw, try, choice}
use Rattle.image.specs.Bytes.{Bytes}
use Rattle.written.specs.Token.{Token, nothing, node, fixed, tight, Extends, Decimal, Behind, Spells, Spot, spot_of, Spaced, end, space, next}
use Rattle.written.specs.Grammar.{of_condition, of_arithmetic, of_boolean, of_statement}
use Rattle.written.specs.Machine.{Result, Log, Begun, noted, behind, Class, statements, arithmetics, booleans, conditions, variables, joins, counts, Value, Stack, done, mark, want, State, plain, fork, first, digits, low, look, forks, step, ended, final}
use Rattle.written.specs.Answer.{so_far}
use Rattle.written.proofs.Theorem.Language.{Choices, Rest, spell, tokens_of, result_of, Left, Past, From, Upto, Lang, Then}
use Rattle.written.proofs.Theorem.Spacing.{not_empty}
use Rattle.written.proofs.Theorem.Leads.{fixed_back}
use Rattle.written.proofs.Theorem.Begins.{variable_head}
use Rattle.written.proofs.Theorem.Steps.{not_t, moved, step_sound}
use Rattle.written.specs.Word.{SKIP, BRACE, IF, WHILE, BRACKET, THROW, TRY, CATCH, WITH}

-- ---- the end

-- every value has a first token
arithmetic_token : (F : ℕ) (v : Arithmetic Condition) (r : List Token) → (t : Token) × (ts : List Token) × (of_arithmetic F v r ≡ t ∷ ts)
unfolding of_arithmetic
arithmetic_token F (number z) r = (_, _, refl)
arithmetic_token F (variable v) r = (_, _, refl)
arithmetic_token F (sum a b) r = (_, _, refl)
arithmetic_token F (pick e a b) r = (_, _, refl)
arithmetic_token F (choiceᵃ c a b) r = (_, _, refl)

boolean_token : (F : ℕ) (v : Boolean Condition) (r : List Token) → (t : Token) × (ts : List Token) × (of_boolean F v r ≡ t ∷ ts)
unfolding of_boolean
boolean_token F trueᵇ r = (_, _, refl)
boolean_token F falseᵇ r = (_, _, refl)
boolean_token F (notᵇ e) r = (_, _, refl)
boolean_token F (andᵇ e f) r = (_, _, refl)
boolean_token F (less a b) r = (_, _, refl)
boolean_token F (choiceᵇ c e f) r = (_, _, refl)

condition_token : (F : ℕ) (v : Condition) (r : List Token) → (t : Token) × (ts : List Token) × (of_condition F v r ≡ t ∷ ts)
unfolding of_condition
condition_token F trueᶜ r = (_, _, refl)
condition_token F falseᶜ r = (_, _, refl)
condition_token F (option k) r = (_, _, refl)
condition_token F (notᶜ c) r = (_, _, refl)
condition_token F (andᶜ c d) r = (_, _, refl)
condition_token F (orᶜ c d) r = (_, _, refl)

statement_token : (F : ℕ) (v : Statement Condition) (r : List Token) → (t : Token) × (ts : List Token) × (of_statement F v r ≡ t ∷ ts)
unfolding of_statement
statement_token F skip r = (_, _, refl)
statement_token F (assign v a) r = (_, _, refl)
statement_token F (sequence x y) r = (_, _, refl)
statement_token F (if e x y) r = (_, _, refl)
statement_token F (while e x) r = (_, _, refl)
statement_token F (throw a) r = (_, _, refl)
statement_token F (try x v y) r = (_, _, refl)
statement_token F (choice c x y) r = (_, _, refl)

value_token : (F : ℕ) (k : Class) (v : Value k) (r : List Token) → (t : Token) × (ts : List Token) × (spell F k v r ≡ t ∷ ts)
unfolding spell
value_token F statements v r = statement_token F v r
value_token F arithmetics v r = arithmetic_token F v r
value_token F booleans v r = boolean_token F v r
value_token F conditions v r = condition_token F v r
value_token F variables v r = (_, _, refl)
value_token F joins v r = (_, _, refl)
value_token F counts v r = (_, _, refl)

-- with no token left, and no byte
none_left : {at : ℕ} {g : Bool} {ms : List Spot} → Spaced at g [] [] ms → ms ≡ []
none_left end = refl

ended_complete : (w : Log) (g : Bool) (s : Stack) (R : Result) → Left w g s [] R → ended w s ≡ some R
unfolding Choices tokens_of result_of
ended_complete w g (done v) R h =
    let m : reverse w.spots ≡ R.placed = ap (λ ms. reverse_aux w.spots ms) (sym (none_left h.rest.spaced)) ∙ h.rest.logged in
    λ i. some (record { reading = h.rest.gives i; placed = m i })
ended_complete w g (mark x s) R h = absurd (not_empty h.rest)
ended_complete w g (want F k f) R h =
    let t = value_token F k h.chosen.0 (tokens_of (f h.chosen.0) h.chosen.1) in
    absurd (not_empty (subst (λ ts. Rest w g (result_of (f h.chosen.0) h.chosen.1) ts [] R) t.2 h.rest))

-- `some v ≡ some r`, and `none ≡ some r` is absurd
held : {A : Type 0} → A → Option A → A
held d none = d
held d (some a) = a

ended_sound : (w : Log) (g : Bool) (s : Stack) (R : Result) → ended w s ≡ some R → Left w g s [] R
unfolding Choices tokens_of result_of held
ended_sound w g (done v) R h =
    let e : record { reading = v; placed = reverse w.spots } ≡ R = ap (held R) h in
    record { chosen = tt; rest = record { gives = ap (λ R. R.reading) e; places = []; spaced = end; logged = ap (λ R. R.placed) e } }
ended_sound w g (mark x s) R h = let z : ◌≡◌ {A = ℕ} 0 1 = cc in absurd (omega arith)
ended_sound w g (want F k f) R h = let z : ◌≡◌ {A = ℕ} 0 1 = cc in absurd (omega arith)

empty_past : {w : Log} {c : ℕ} {x : Bytes} {g : Bool} {s : Stack} {R : Result} → Past w (c ∷ x) g s [] R → ⊥
empty_past h = let e = h.whole in let z : ◌≡◌ {A = ℕ} 0 1 = cc in absurd (omega arith)

no_decimal : (w : Log) (p : Bool) (hi : ℕ) (s : Stack) (R : Result) (x : Bytes) (n : ℕ) → From p hi x n → Past w x true s [] R → ⊥
unfolding Decimal
no_decimal w p hi s R [] n h k = h.0
no_decimal w p hi s R (c ∷ x) n h k = empty_past k

digits_end : (B : Begun) (n hi : ℕ) (f : ℕ → Stack) (R : Result) (x : Bytes) (m : ℕ) → Upto hi n x m → Past (behind B (B.now + length x)) x true (f m) [] R
    → ended (behind B (B.now + 0)) (f n) ≡ some R
unfolding Upto
digits_end B n hi f R [] m h k =
    ended_complete (behind B (B.now + 0)) true (f n) R (subst (λ m. Left (behind B (B.now + 0)) true (f m) [] R) (sym h) (moved k.whole k.left))
digits_end B n hi f R (c ∷ x) m h k = absurd (empty_past k)

-- a t alone is no statement
fork_end : (w : Log) (F : ℕ) (f : Statement Condition → Stack) (v : Statement Condition) (c : Choices (f v)) (R : Result)
    → Rest w false (result_of (f v) c) (of_statement F v (tokens_of (f v) c)) (116 ∷ []) R → ⊥
unfolding Choices spell tokens_of result_of of_statement Lang
fork_end w F f skip c R h = not_t w node SKIP _ _ _ R h tt
fork_end w F f (assign v a) c R h =
    let z : ◌≡◌ {A = ℕ} 116 118 = variable_head w node v _ _ 116 [] R tt h in
    absurd (omega arith)
fork_end w F f (sequence x y) c R h = not_t w node BRACE _ _ _ R h tt
fork_end w F f (if t x y) c R h = not_t w node IF _ _ _ R h tt
fork_end w F f (while t x) c R h = not_t w node WHILE _ _ _ R h tt
fork_end w F f (throw a) c R h = empty_past (fixed_back w node THROW (want F arithmetics λ a. f (throw a)) (a, c) 116 [] R tt h).1
fork_end w F f (try x v y) c R h =
    empty_past (fixed_back w node TRY (want F statements λ x. mark CATCH (want F variables λ v. mark WITH (want F statements λ y. f (try x v y)))) (x, (v, (y, c))) 116 [] R tt h).1
fork_end w F f (choice t x y) c R h = not_t w node BRACKET _ _ _ R h tt

pub final_complete : (q : State) (R : Result) → Lang q [] R → final q ≡ some R
unfolding final Lang Choices tokens_of spell result_of
final_complete (plain w [] g s) R h = ended_complete w g s R (moved h.whole h.left)
final_complete (plain w (c ∷ x) g s) R h = absurd (empty_past h)
final_complete (fork w F f) R h = absurd (fork_end w F f h.chosen.0 h.chosen.1 R h.rest)
final_complete (first B p hi f) R h = absurd (no_decimal _ p hi (f h.value) R h.spelt h.value h.good h.after)
final_complete (digits B n hi f) R h = digits_end B n hi f R h.spelt h.value h.good h.after

pub final_sound : (q : State) (R : Result) → final q ≡ some R → Lang q [] R
unfolding final Lang Upto
final_sound (plain w [] g s) R h = record { behind_it = []; whole = refl; left = ended_sound w g s R h }
final_sound (plain w (c ∷ x) g s) R h = let z : ◌≡◌ {A = ℕ} 0 1 = cc in absurd (omega arith)
final_sound (fork w F f) R h = let z : ◌≡◌ {A = ℕ} 0 1 = cc in absurd (omega arith)
final_sound (first B p hi f) R h = let z : ◌≡◌ {A = ℕ} 0 1 = cc in absurd (omega arith)
final_sound (digits B n hi f) R h =
    record { value = n; spelt = []; good = refl; after = record { behind_it = []; whole = refl; left = ended_sound (behind B (B.now + 0)) true (f n) R h } }

-- ---- every state is live

pub record Live (q : State) : Type 0 where
  pub rest : Bytes
  pub result : Result
  pub goes : Lang q rest result
  -- whatever has been noted stays so
  pub others : List Spot
  pub kept : result.placed ≡ reverse_aux (so_far q) others

-- a value of each class in one token, which spells it
example : (k : Class) → Value k
example statements = skip
example arithmetics = number (pos 0)
example booleans = falseᵇ
example conditions = falseᶜ
example variables = 0
example joins = true
example counts = 0

record Example (F : ℕ) (k : Class) : Type 0 where
  token : Token
  bytes : Bytes
  is : (r : List Token) → spell F k (example k) r ≡ token ∷ r
  spells : Spells token bytes

example_of : (F : ℕ) (k : Class) → Example F k
unfolding example spell of_statement of_arithmetic of_condition Spells Behind Decimal Extends
example_of F statements = record { token = _; bytes = 115 ∷ 107 ∷ 105 ∷ 112 ∷ []; is = λ r. refl; spells = refl }
example_of F arithmetics = record { token = _; bytes = 48 ∷ []; is = λ r. refl; spells = ((tt, refl), omega arith) }
example_of F booleans = record { token = _; bytes = 102 ∷ 97 ∷ 108 ∷ 115 ∷ 101 ∷ []; is = λ r. refl; spells = refl }
example_of F conditions = record { token = _; bytes = 102 ∷ 97 ∷ 108 ∷ 115 ∷ 101 ∷ []; is = λ r. refl; spells = refl }
example_of F variables = record { token = _; bytes = 118 ∷ 48 ∷ []; is = λ r. refl; spells = ((refl, (tt, refl)), omega arith) }
example_of F joins = record { token = _; bytes = 97 ∷ 110 ∷ 100 ∷ []; is = λ r. refl; spells = refl }
example_of F counts = record { token = _; bytes = 48 ∷ []; is = λ r. refl; spells = ((tt, refl), omega arith) }

-- some tokens that finish the stack, spaced from any place
record Open (at : ℕ) (g : Bool) (s : Stack) : Type 0 where
  text : Bytes
  values : Choices s
  marks_of : List Spot
  spaced : Spaced at g (tokens_of s values) text marks_of

open_stack : (s : Stack) (at : ℕ) (g : Bool) → Open at g s
unfolding Choices tokens_of Spells
open_stack (done r) at g = record { text = []; values = tt; marks_of = []; spaced = end }
open_stack (mark x s) at g =
    let l : Bytes = x.head ∷ x.rest in
    let o = open_stack s (suc at + length l) (tight (fixed nothing x)) in
    record { text = 32 ∷ l ++ o.text; values = o.values; marks_of = _; spaced = space tt (next l o.text tt refl refl o.spaced) }
open_stack (want F k f) at g =
    let v = example k in
    let x = example_of F k in
    let o = open_stack (f v) (suc at + length x.bytes) (tight x.token) in
    let ms : List Spot = spot_of x.token (suc at) (suc at + length x.bytes) ∷ o.marks_of in
    let d : Spaced at g (x.token ∷ tokens_of (f v) o.values) (32 ∷ x.bytes ++ o.text) ms = space tt (next x.bytes o.text tt x.spells refl o.spaced) in
    record {
      text = 32 ∷ x.bytes ++ o.text;
      values = (v, o.values);
      marks_of = ms;
      spaced = subst (λ ts. Spaced at g ts (32 ∷ x.bytes ++ o.text) ms) (sym (x.is (tokens_of (f v) o.values))) d;
    }

result_open : (w : Log) (g : Bool) (s : Stack) → Result
result_open w g s =
    let o = open_stack s w.at g in
    record { reading = result_of s o.values; placed = reverse_aux w.spots o.marks_of }

left_open : (w : Log) (g : Bool) (s : Stack) → Left w g s (open_stack s w.at g).text (result_open w g s)
unfolding result_open
left_open w g s =
    let o = open_stack s w.at g in
    record { chosen = o.values; rest = record { gives = refl; places = o.marks_of; spaced = o.spaced; logged = refl } }

open_past : (w : Log) (x : Bytes) (g : Bool) (s : Stack) → Live (plain w x g s)
unfolding Lang so_far result_open
open_past w x g s =
    let o = open_stack s w.at g in
    record {
      rest = x ++ o.text;
      result = result_open w g s;
      goes = record { behind_it = o.text; whole = refl; left = left_open w g s };
      others = o.marks_of;
      kept = refl;
    }

low_digit : (p : Bool) (hi : ℕ) → From p hi ((48 + low p) ∷ []) (low p)
unfolding Decimal Extends
low_digit false hi = ((tt, refl), omega arith, omega arith)
low_digit true hi = ((tt, refl), omega arith, omega arith)

pub live : (q : State) → Live q
unfolding Lang Upto step look forks Then so_far result_open
live (plain w x g s) = open_past w x g s
live (fork w F f) =
    let o = open_past (noted w node true (w.at + 5)) (114 ∷ 111 ∷ 119 ∷ []) true (want F arithmetics λ a. f (throw a)) in
    record {
      rest = 104 ∷ o.rest;
      result = o.result;
      goes = step_sound (fork w F f) 104 o.rest o.result o.goes;
      others = record { does = node; is_word = true; from = w.at; upto = w.at + 5 } ∷ o.others;
      kept = o.kept;
    }
live (first B p hi f) =
    let w = behind B (B.now + 1) in
    let o = open_stack (f (low p)) w.at true in
    record {
      rest = (48 + low p) ∷ o.text;
      result = result_open w true (f (low p));
      goes = record { value = low p; spelt = (48 + low p) ∷ []; good = low_digit p hi; after = record { behind_it = o.text; whole = refl; left = left_open w true (f (low p)) } };
      others = record { does = B.does; is_word = true; from = B.log.at; upto = B.now + 1 } ∷ o.marks_of;
      kept = refl;
    }
live (digits B n hi f) =
    let w = behind B (B.now + 0) in
    let o = open_stack (f n) w.at true in
    record {
      rest = o.text;
      result = result_open w true (f n);
      goes = record { value = n; spelt = []; good = refl; after = record { behind_it = o.text; whole = refl; left = left_open w true (f n) } };
      others = o.marks_of;
      kept = refl;
    }
