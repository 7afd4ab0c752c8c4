-- The first byte of a part tells how it begins: each way to begin leads to what its kind still wants.
use mathlib.Core.Path.{◌≡◌, refl, sym, ◌∙◌, ap, ap₂, subst}
use Prim.Native.Nat.{ℕ, zero, suc, ◌+◌, ◌-◌, ◌^◌, ◌≤◌, ◌<◌}
use mathlib.Core.Bool.{Bool, true, false, cond, true≢false}
use mathlib.Core.List.{[], ◌∷◌, reverse}
use mathlib.Core.Option.{none, some}
use native.Mathlib.Omega.{arith}
use lib.ListN.{length, drop, get_or}
use lib.Seq.{drop-cons}
use borrow.Author.Tests.{eq-eqb, lt-ltb, le-ltb}
use lib.IntN.{ℤ, pos, negsuc}
use Rattle.imp.specs.Numbers.{signed32}
use Rattle.imp.specs.Routine.{number}
use Rattle.std.specs.Prelude.{Result, Ok, Err}
use Rattle.image.specs.declared.refusals.Refusal.{Refusal}
use Rattle.image.specs.declared.refusals.Refusal.TheVariants.{TextWrong}
use Rattle.image.specs.Bytes.{Bytes}
use Rattle.image.specs.declared.kinds.Kind.{Kind}
use Rattle.image.specs.Layout.{kinds, layout, class_digit, variable_digit}
use Rattle.image.specs.Tree.{kind_of}
use Rattle.written.specs.Byte.{is_wordy}
use Rattle.written.specs.Token.{Lexeme, node, nothing, Opens}
use Rattle.written.specs.Machine.{arithmetics, booleans, statements, Stack, done, Log, minus, noted, led, bare, lexed, begin, plain, first, step, final}
use Rattle.written.specs.Limits.{first_too_many}
use Rattle.written.specs.Answer.{so_far, refused_17, from}
use Rattle.written.proofs.Theorem.From.{from_alike}
use Rattle.reading.specs.declared.cursor.Cursor.{Cursor}
use Rattle.reading.specs.declared.lead.Lead.{Lead}
use Rattle.reading.specs.Inner.Way.{Logged, Way, Opened}
use Rattle.reading.specs.Inner.Between.{Met, Meets, Unmet}
use Rattle.reading.specs.Inner.Token.{word_to, number_to}
use Rattle.reading.specs.Inner.Parts.{Part, an_arithmetic, a_boolean, a_statement, slot_of, wants, mark_table, marks_of, made_of, follow}
use Rattle.reading.specs.Inner.Lead.{WordLead, VariableLead, bits_of, InRange, NumberLead, LeadFrom}
use Rattle.reading.proofs.Counts.{within_limits, none_limits}
use Rattle.reading.proofs.Tokens.{nothing_read, stuck, steps, enters}
use Rattle.reading.proofs.Digits.{begun_at}
use Rattle.reading.proofs.Opening.{OneToken, Leads}
use Rattle.reading.proofs.Spelled.{by_first, word_leads, NumberLeads, number_leads}
use Rattle.reading.proofs.Ways.{then, then_refused}

-- a number behind a minus, or not
abbrev signed_by : Bool → ℕ → ℤ
signed_by true n = minus n
signed_by false n = pos n

-- one token opens, where the other opened nothing
pub opened_then : {c d e : Cursor} {o : Opens} → Opened c d nothing → Opened d e o → Opened c e o
opened_then p q = record {
  kept = record { node_kept = q.kept.node_kept ∙ p.kept.node_kept; condition_kept = q.kept.condition_kept ∙ p.kept.condition_kept };
  nodes_opened = omega (arith, p.nodes_opened, q.nodes_opened);
  records_opened = omega (arith, p.records_opened, q.records_opened);
}

-- behind the spaces a part of its class is still to come
to_part : {text : Bytes} {c₀ c : Cursor} (M : Meets text c₀ c) (class F : ℕ) (g : Part → Stack) → 0 < class → class ≤ 3 → Way text c₀ c (wants F (slot_of class) g) (wants F (slot_of class) g)
unfolding slot_of
to_part M zero F g o h = absurd (omega arith)
to_part M (suc zero) F g o h = M.a_part F arithmetics (λ x. g (an_arithmetic x))
to_part M (suc (suc zero)) F g o h = M.a_part F booleans (λ x. g (a_boolean x))
to_part M (suc (suc (suc zero))) F g o h = M.a_part F statements (λ x. g (a_statement x))
to_part M (suc (suc (suc (suc n)))) F g o h = absurd (omega arith)

-- there is no token that it could begin with
pub no_lead : {text : Bytes} {c : Cursor} {e : Refusal} (U : Unmet text c e) (class : ℕ) → 0 < class → class ≤ 3 → LeadFrom text class c (Err e)
unfolding slot_of
no_lead U zero o h = absurd (omega arith)
no_lead U (suc zero) o h = λ F g. U.no_part F arithmetics (λ x. g (an_arithmetic x))
no_lead U (suc (suc zero)) o h = λ F g. U.no_part F booleans (λ x. g (a_boolean x))
no_lead U (suc (suc (suc zero))) o h = λ F g. U.no_part F statements (λ x. g (a_statement x))
no_lead U (suc (suc (suc (suc n)))) o h = absurd (omega arith)

module _ {text : Bytes} {c₀ c : Cursor} (M : Meets text c₀ c) (class : ℕ) (o : 0 < class) (f : class ≤ 3) where
  led_on : (r : Result (Lead Kind) Refusal) → LeadFrom text class c r → LeadFrom text class c₀ r
  led_on (Ok l) h =
      let any : Part → Stack = λ i. done nothing_read in
      record {
        way = λ F g. then (to_part M class F g o f) (h.way F g);
        opened = opened_then M.opened h.opened;
        further = omega (arith, (to_part M class 0 any o f).forth, h.further);
        own = h.own;
        small = h.small;
        variable_small = h.variable_small;
      }
  led_on (Err e) h = λ F g. then_refused e (to_part M class F g o f) (h F g)

  -- by the token that has been met
  pub led_from : (k : ℕ) (r : Result (Lead Kind) Refusal) → class ≡ k → LeadFrom text k c r → LeadFrom text class c₀ r
  led_from k r e h = led_on r (subst (λ k. LeadFrom text k c r) (sym e) h)

module _ (text : Bytes) (class : ℕ) (c : Cursor) (B : Met text c) where
  abbrev byte : ℕ
  byte = get_or text c.at 0

  abbrev wanted : ℕ → (Part → Stack) → Stack
  wanted F g = wants F (slot_of class) g

  -- what the machine has read when it stands behind the first byte of a word
  abbrev pub Entered : Lexeme → Stack → Stack → Type 0
  Entered x A S =
      (w : Log) → Logged c w → byte ≡ x.head → from text (drop c.at text) (plain w [] c.tight A) c.at
      ≡ from text (drop (suc c.at) text) (plain (noted w node (is_wordy x.head) (w.at + suc (length x.rest))) x.rest (is_wordy x.head) S) (suc c.at)

  -- by a word or mark
  by_word : (x : Lexeme) (kind : ℕ) (r : Result (Lead Kind) Refusal) → ((F : ℕ) (g : Part → Stack) → Leads text c (wanted F g) (follow F kind 0 g) node (word_to text c (x.head ∷ x.rest) node))
      → WordLead text c (x.head ∷ x.rest) kind r → class_digit (layout kind) ≡ class → LeadFrom text class c r
  by_word x kind (Ok l) L h o =
      let M : (F : ℕ) (g : Part → Stack) → OneToken text c (wanted F g) (follow F kind 0 g) node l.cursor = λ F g. subst (Leads text c (wanted F g) (follow F kind 0 g) node) h.0 (L F g) in
      let any : Part → Stack = λ i. done nothing_read in
      record {
        way = λ F g. subst (Way text c l.cursor (wanted F g)) (ap₂ (λ k v. follow F k v g) (sym h.1) (sym h.2)) (M F g).way;
        opened = (M 0 any).opened;
        further = (M 0 any).further;
        own = ap (λ k. class_digit (layout k)) h.1 ∙ o;
        small = omega (arith, h.2);
        variable_small = λ j. omega (arith, h.2);
      }
  by_word x kind (Err e) L h o = λ F g. subst (Leads text c (wanted F g) (follow F kind 0 g) node) h (L F g)

  pub entered_from : (x : Lexeme) (kind : ℕ) (r : Result (Lead Kind) Refusal) → WordLead text c (x.head ∷ x.rest) kind r → byte ≡ x.head → class_digit (layout kind) ≡ class
      → ((F : ℕ) (g : Part → Stack) → Entered x (wanted F g) (follow F kind 0 g)) → LeadFrom text class c r
  entered_from x kind r h e o enter =
      by_word x kind r
      (λ F g. word_leads text c B.good (wanted F g) B.faces x node (follow F kind 0 g) (enter F g) (λ w n. absurd (true≢false (sym (eq-eqb byte x.head e) ∙ n)))) h o

  pub word_from : (x : Lexeme) (kind : ℕ) (r : Result (Lead Kind) Refusal) → WordLead text c (x.head ∷ x.rest) kind r → byte ≡ x.head → class_digit (layout kind) ≡ class
      → ((F : ℕ) (g : Part → Stack) (w : Log) → begin w (wanted F g) x.head ≡ some (lexed w node x (follow F kind 0 g))) → LeadFrom text class c r
  word_from x kind r h e o hit =
      entered_from x kind r h e o (λ F g. by_first text c B.good (wanted F g) B.faces x node (follow F kind 0 g) (hit F g))

  -- by a number behind a byte
  behind_byte : (a : ℕ) (p : Bool) (hi : ℕ) (A : Stack) (f : ℕ → Stack) → byte ≡ a → ((w : Log) → begin w A a ≡ some (first (led w node) p hi f)) → (w : Log) → Logged c w
      → from text (drop c.at text) (plain w [] c.tight A) c.at ≡ from text (drop (suc c.at) text) (first (begun_at w node (suc c.at)) p hi f) (suc c.at)
  behind_byte a p hi A f e hit w k =
      let q : w.at + 1 ≡ suc c.at = omega (arith, k.at_is) in
      steps text (plain w [] c.tight A) (first (led w node) p hi f) c.at (B.faces.before_end)
      (enters text w c.tight A byte (B.faces.no_space) (B.faces.apart) ∙ ap (begin w A) e ∙ hit w)
      ∙ ap (λ i. from text (drop (suc c.at) text) (first (begun_at w node i) p hi f) (suc c.at)) q

  by_variable : (kind : ℕ) (r : Result (Lead Kind) Refusal)
      → ((F : ℕ) (g : Part → Stack) → NumberLeads text c (wanted F g) (λ v. follow F kind v g) node (number_to text c (suc c.at) false 15 node)) → VariableLead text c kind r
      → class_digit (layout kind) ≡ class → LeadFrom text class c r
  by_variable kind (Ok l) L h o =
      let M : (F : ℕ) (g : Part → Stack) → OneToken text c (wanted F g) (follow F kind l.value g) node l.cursor =
      λ F g. subst (NumberLeads text c (wanted F g) (λ v. follow F kind v g) node) h.0 (L F g) in
      let any : Part → Stack = λ i. done nothing_read in
      record {
        way = λ F g. subst (Way text c l.cursor (wanted F g)) (ap (λ k. follow F k l.value g) (sym h.1)) (M F g).way;
        opened = (M 0 any).opened;
        further = (M 0 any).further;
        own = ap (λ k. class_digit (layout k)) h.1 ∙ o;
        small = omega (arith, h.2);
        variable_small = λ j. h.2;
      }
  by_variable kind (Err e) L h o = λ F g. subst (NumberLeads text c (wanted F g) (λ v. follow F kind v g) node) h (L F g)

  pub variable_from : (kind : ℕ) (r : Result (Lead Kind) Refusal) → VariableLead text c kind r → byte ≡ 118 → class_digit (layout kind) ≡ class
      → ((F : ℕ) (g : Part → Stack) (w : Log) → begin w (wanted F g) 118 ≡ some (first (led w node) false 15 λ v. follow F kind v g)) → LeadFrom text class c r
  variable_from kind r h e o hit =
      by_variable kind r
      (λ F g. number_leads text c B.good (wanted F g) (suc c.at) false 15 node (λ v. follow F kind v g) (omega arith) (omega (arith, B.faces.before_end))
      (behind_byte 118 false 15 (wanted F g) (λ v. follow F kind v g) e (hit F g))) h o

  -- ---- a number

  -- its bits are those of what was read
  same_bits : (p : Bool) (n : ℕ) → InRange p n → signed32 (bits_of p n) ≡ signed_by p n
  unfolding signed32
  same_bits true zero h = absurd (omega (arith, h.0))
  same_bits true (suc n) h =
      ap (λ u. cond u (pos (2 ^ 32 - suc n)) (negsuc (2 ^ 32 - suc (2 ^ 32 - suc n)))) (le-ltb (2 ^ 32 - suc n) (2 ^ 31) (omega (arith, h.1)))
      ∙ ap negsuc (omega (arith, h.1))
  same_bits false n h = ap (λ u. cond u (pos n) (negsuc (2 ^ 32 - suc n))) (lt-ltb n (2 ^ 31) (omega (arith, h)))

  abbrev counted_as : Bool → (Part → Stack) → ℕ → Stack
  counted_as p g n = g (an_arithmetic (number (signed_by p n)))

  by_number : (at : ℕ) (p : Bool) (r : Result (Lead Kind) Refusal)
      → ((F : ℕ) (g : Part → Stack) → NumberLeads text c (wanted F g) (counted_as p g) node (number_to text c at p 2147483647 node)) → NumberLead text c at p r → class ≡ 1 → LeadFrom text class c r
  unfolding follow layout kinds marks_of mark_table kind_of made_of slot_of
  by_number at p (Ok l) L h o =
      let M : (F : ℕ) (g : Part → Stack) → OneToken text c (wanted F g) (counted_as p g h.n) node l.cursor =
      λ F g. subst (NumberLeads text c (wanted F g) (counted_as p g) node) h.number_is (L F g) in
      let any : Part → Stack = λ i. done nothing_read in
      record {
        way = λ F g. subst (Way text c l.cursor (wanted F g))
            (ap (λ z. g (an_arithmetic (number z))) (sym (ap signed32 h.value_is ∙ same_bits p h.n h.fits)) ∙ ap (λ k. follow F k l.value g) (sym h.kind_is)) (M F g).way;
        opened = (M 0 any).opened;
        further = (M 0 any).further;
        own = ap (λ k. class_digit (layout k)) h.kind_is ∙ sym o;
        small = h.small;
        variable_small = λ d. absurd (omega (arith, sym (ap (λ k. variable_digit (layout k)) h.kind_is) ∙ d));
      }
  by_number at p (Err e) L h o = λ F g. subst (NumberLeads text c (wanted F g) (counted_as p g) node) h (L F g)

  number_from : (at : ℕ) (p : Bool) (r : Result (Lead Kind) Refusal) → NumberLead text c at p r → c.at ≤ at → at ≤ length text → class ≡ 1
      → ((F : ℕ) (g : Part → Stack) (w : Log) → Logged c w → from text (drop c.at text) (plain w [] c.tight (wanted F g)) c.at
      ≡ from text (drop at text) (first (begun_at w node at) p 2147483647 (counted_as p g)) at) → LeadFrom text class c r
  number_from at p r h f i o enter = by_number at p r (λ F g. number_leads text c B.good (wanted F g) at p 2147483647 node (counted_as p g) f i (enter F g)) h o

  pub minus_from : (r : Result (Lead Kind) Refusal) → NumberLead text c (suc c.at) true r → byte ≡ 45 → class ≡ 1
      → ((F : ℕ) (g : Part → Stack) (w : Log) → begin w (wanted F g) 45 ≡ some (first (led w node) true 2147483647 λ n. g (an_arithmetic (number (minus n)))))
      → LeadFrom text class c r
  minus_from r h e o hit =
      number_from (suc c.at) true r h (omega arith) (omega (arith, B.faces.before_end)) o
      (λ F g. behind_byte 45 true 2147483647 (wanted F g) (λ n. g (an_arithmetic (number (minus n)))) e (hit F g))

  -- a digit is the number's own
  pub digit_from : (r : Result (Lead Kind) Refusal) → NumberLead text c c.at false r → class ≡ 1
      → ((F : ℕ) (g : Part → Stack) (w : Log) → begin w (wanted F g) byte ≡ step (first (bare w node) false 2147483647 λ n. g (an_arithmetic (number (pos n)))) byte)
      → LeadFrom text class c r
  unfolding so_far
  digit_from r h o hit =
      number_from c.at false r h (omega arith) (omega (arith, B.faces.before_end)) o
      (λ F g w k.
      let f : ℕ → Stack = λ n. g (an_arithmetic (number (pos n))) in
      let q : w.at + 0 ≡ c.at = omega (arith, k.at_is) in
      let d : drop c.at text ≡ byte ∷ drop (suc c.at) text = drop-cons text c.at 0 (B.faces.before_end) in
      ap (λ m. from text m (plain w [] c.tight (wanted F g)) c.at) d
      ∙ from_alike text byte (drop (suc c.at) text) (plain w [] c.tight (wanted F g)) (first (bare w node) false 2147483647 f) c.at
      (enters text w c.tight (wanted F g) byte (B.faces.no_space) (B.faces.apart) ∙ hit F g w) refl
      ∙ ap (λ m. from text m (first (bare w node) false 2147483647 f) c.at) (sym d)
      ∙ ap (λ i. from text (drop c.at text) (first (begun_at w node i) false 2147483647 f) c.at) q)

  -- no part of the class begins so
  pub nothing_from : ((F : ℕ) (g : Part → Stack) (w : Log) → begin w (wanted F g) byte ≡ none) → LeadFrom text class c (Err (TextWrong c.at))
  unfolding final so_far
  nothing_from none_fits = λ F g. record {
    forth = omega arith;
    inside = B.good.inside;
    says = λ w k.
        stuck text (plain w [] c.tight (wanted F g)) c.at (record {
          inside = B.good.inside;
          no_step = λ i. enters text w c.tight (wanted F g) byte B.faces.no_space B.faces.apart ∙ none_fits F g w;
          no_end = λ i. absurd (omega (arith, i, B.faces.before_end));
          no_limit = none_limits text (c.at + 0) (refused_17 c.at) (first_too_many (reverse w.spots))
              (within_limits w.spots (omega (arith, k.nodes_are, B.good.few_nodes)) (omega (arith, k.records_are, B.good.few_records)));
        });
  }
