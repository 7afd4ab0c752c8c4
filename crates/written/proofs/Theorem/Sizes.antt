-- A reading is given exactly where the text is of the grammar and the tree has at most 1,024 nodes and 256 conditions written out.
use Rattle.std.specs.Prelude.{◌≡◌, refl, ◌↔◌, ℕ, zero, suc, ◌+◌, ◌≤◌, Bool, List, [], ◌∷◌, ◌++◌, reverse}
use Rattle.std.proofs.Common.{sym, ◌∙◌, ap, subst, arith}
use Rattle.std.proofs.Math.Option.{Option, none, some}
use Rattle.imp.specs.Condition.{Condition, falseᶜ, trueᶜ, option, notᶜ, andᶜ, orᶜ}
use Rattle.imp.specs.Routine.{Arithmetic, number, variable, sum, pick, choiceᵃ, Boolean, falseᵇ, trueᵇ, notᵇ, andᵇ, less, choiceᵇ, Statement, skip, assign, sequence, if, while, throw, try, choice}
use Rattle.image.specs.Bytes.{Bytes}
use Rattle.image.specs.Listing.{sizeᵃ, sizeᵇ, sizeˢ}
use Rattle.written.specs.Token as Of
use Rattle.written.specs.Word.{AND, OR, RIGHT, PLUS, ASK, COLON, UNBRACKET, BELOW, SEMI, UNBRACE, THEN, ELSE, DO, CATCH, WITH}
use Rattle.written.specs.Token.{Token, fixed, Opens, nothing, node, record_of, opens, Spot, Spaced, end, space, next}
use Rattle.written.specs.Grammar.{of_condition, of_arithmetic, of_boolean, of_statement, of_routine, Placed}
use Rattle.written.specs.Machine.{Result, Log, behind, State, plain, fork, first, digits, done, mark, want, Stack, final, start, ended}
use Rattle.written.specs.Limits.{first_over_by, first_over, first_too_many, Refused18}
use Rattle.written.specs.Answer.{so_far, last, gives, answer}
use Rattle.written.specs.Count.{sizeᶜ, recordsᵃ, recordsᵇ, recordsˢ}
use Rattle.written.proofs.Theorem.Language.{Lang}
use Rattle.written.proofs.Theorem.Ends.{final_complete}
use Rattle.written.proofs.Theorem.Reader.{result, start_complete}
use Rattle.written.proofs.Theorem.Limits.{lang_last}
use Rattle.written.proofs.Theorem.Answers.{noted_18, gives_reading}
use Rattle.written.proofs.Theorem.Earlier.{within_limits}

-- ---- how many nodes and records some tokens open, with those of the rest

abbrev node_of : Opens → ℕ → ℕ
node_of nothing n = n
node_of node n = suc n
node_of record_of n = n

abbrev record_in : Opens → ℕ → ℕ
record_in nothing n = n
record_in node n = n
record_in record_of n = suc n

abbrev nodes_in : List Token → ℕ
nodes_in [] = 0
nodes_in (t ∷ ts) = node_of (opens t) (nodes_in ts)

abbrev records_in : List Token → ℕ
records_in [] = 0
records_in (t ∷ ts) = record_in (opens t) (records_in ts)

record Sized (ts r : List Token) (n k : ℕ) : Type 0 where
  nodes_are : nodes_in ts ≡ n + nodes_in r
  records_are : records_in ts ≡ k + records_in r

sizedᶜ : (F : ℕ) (c : Condition) (r : List Token) → Sized (of_condition F c r) r 0 (sizeᶜ c)
unfolding of_condition sizeᶜ opens
sizedᶜ F trueᶜ r = record { nodes_are = omega arith; records_are = omega arith }
sizedᶜ F falseᶜ r = record { nodes_are = omega arith; records_are = omega arith }
sizedᶜ F (option k) r = record { nodes_are = omega arith; records_are = omega arith }
sizedᶜ F (notᶜ c) r =
    let hc = sizedᶜ F c r in
    record { nodes_are = omega (arith, hc); records_are = omega (arith, hc) }
sizedᶜ F (andᶜ c d) r =
    let hd = sizedᶜ F d (fixed nothing RIGHT ∷ r) in
    let hc = sizedᶜ F c (fixed nothing AND ∷ (of_condition F d (fixed nothing RIGHT ∷ r))) in
    record { nodes_are = omega (arith, hd, hc); records_are = omega (arith, hd, hc) }
sizedᶜ F (orᶜ c d) r =
    let hd = sizedᶜ F d (fixed nothing RIGHT ∷ r) in
    let hc = sizedᶜ F c (fixed nothing OR ∷ (of_condition F d (fixed nothing RIGHT ∷ r))) in
    record { nodes_are = omega (arith, hd, hc); records_are = omega (arith, hd, hc) }

mutual
  unfolding of_arithmetic sizeᵃ recordsᵃ opens

  sizedᵃ : (F : ℕ) (a : Arithmetic Condition) (r : List Token) → Sized (of_arithmetic F a r) r (sizeᵃ a) (recordsᵃ a)
  sizedᵃ F (number z) r = record { nodes_are = omega arith; records_are = omega arith }
  sizedᵃ F (variable v) r = record { nodes_are = omega arith; records_are = omega arith }
  sizedᵃ F (sum a b) r =
      let hb = sizedᵃ F b (fixed nothing RIGHT ∷ r) in
      let ha = sizedᵃ F a (fixed nothing PLUS ∷ (of_arithmetic F b (fixed nothing RIGHT ∷ r))) in
      record { nodes_are = omega (arith, hb, ha); records_are = omega (arith, hb, ha) }
  sizedᵃ F (pick e a b) r =
      let hb = sizedᵃ F b (fixed nothing RIGHT ∷ r) in
      let ha = sizedᵃ F a (fixed nothing COLON ∷ (of_arithmetic F b (fixed nothing RIGHT ∷ r))) in
      let he = sizedᵇ F e (fixed nothing ASK ∷ (of_arithmetic F a (fixed nothing COLON ∷ (of_arithmetic F b (fixed nothing RIGHT ∷ r))))) in
      record { nodes_are = omega (arith, hb, ha, he); records_are = omega (arith, hb, ha, he) }
  sizedᵃ F (choiceᵃ c a b) r =
      let hb = sizedᵃ F b (fixed nothing UNBRACKET ∷ r) in
      let ha = sizedᵃ F a (fixed nothing COLON ∷ (of_arithmetic F b (fixed nothing UNBRACKET ∷ r))) in
      let hc = sizedᶜ F c (fixed nothing ASK ∷ (of_arithmetic F a (fixed nothing COLON ∷ (of_arithmetic F b (fixed nothing UNBRACKET ∷ r))))) in
      record { nodes_are = omega (arith, hb, ha, hc); records_are = omega (arith, hb, ha, hc) }

  sizedᵇ : (F : ℕ) (e : Boolean Condition) (r : List Token) → Sized (of_boolean F e r) r (sizeᵇ e) (recordsᵇ e)
  sizedᵇ F trueᵇ r = record { nodes_are = omega arith; records_are = omega arith }
  sizedᵇ F falseᵇ r = record { nodes_are = omega arith; records_are = omega arith }
  sizedᵇ F (notᵇ e) r =
      let he = sizedᵇ F e r in
      record { nodes_are = omega (arith, he); records_are = omega (arith, he) }
  sizedᵇ F (andᵇ e f) r =
      let hf = sizedᵇ F f (fixed nothing RIGHT ∷ r) in
      let he = sizedᵇ F e (fixed nothing AND ∷ (of_boolean F f (fixed nothing RIGHT ∷ r))) in
      record { nodes_are = omega (arith, hf, he); records_are = omega (arith, hf, he) }
  sizedᵇ F (less a b) r =
      let hb = sizedᵃ F b (fixed nothing RIGHT ∷ r) in
      let ha = sizedᵃ F a (fixed nothing BELOW ∷ (of_arithmetic F b (fixed nothing RIGHT ∷ r))) in
      record { nodes_are = omega (arith, hb, ha); records_are = omega (arith, hb, ha) }
  sizedᵇ F (choiceᵇ c e f) r =
      let hf = sizedᵇ F f (fixed nothing UNBRACKET ∷ r) in
      let he = sizedᵇ F e (fixed nothing COLON ∷ (of_boolean F f (fixed nothing UNBRACKET ∷ r))) in
      let hc = sizedᶜ F c (fixed nothing ASK ∷ (of_boolean F e (fixed nothing COLON ∷ (of_boolean F f (fixed nothing UNBRACKET ∷ r))))) in
      record { nodes_are = omega (arith, hf, he, hc); records_are = omega (arith, hf, he, hc) }

sizedˢ : (F : ℕ) (t : Statement Condition) (r : List Token) → Sized (of_statement F t r) r (sizeˢ t) (recordsˢ t)
unfolding of_statement sizeˢ recordsˢ opens
sizedˢ F skip r = record { nodes_are = omega arith; records_are = omega arith }
sizedˢ F (assign v a) r =
    let ha = sizedᵃ F a r in
    record { nodes_are = omega (arith, ha); records_are = omega (arith, ha) }
sizedˢ F (sequence x y) r =
    let hy = sizedˢ F y (fixed nothing UNBRACE ∷ r) in
    let hx = sizedˢ F x (fixed nothing SEMI ∷ (of_statement F y (fixed nothing UNBRACE ∷ r))) in
    record { nodes_are = omega (arith, hy, hx); records_are = omega (arith, hy, hx) }
sizedˢ F (if e x y) r =
    let hy = sizedˢ F y r in
    let hx = sizedˢ F x (fixed nothing ELSE ∷ (of_statement F y r)) in
    let he = sizedᵇ F e (fixed nothing THEN ∷ (of_statement F x (fixed nothing ELSE ∷ (of_statement F y r)))) in
    record { nodes_are = omega (arith, hy, hx, he); records_are = omega (arith, hy, hx, he) }
sizedˢ F (while e x) r =
    let hx = sizedˢ F x r in
    let he = sizedᵇ F e (fixed nothing DO ∷ (of_statement F x r)) in
    record { nodes_are = omega (arith, hx, he); records_are = omega (arith, hx, he) }
sizedˢ F (throw a) r =
    let ha = sizedᵃ F a r in
    record { nodes_are = omega (arith, ha); records_are = omega (arith, ha) }
sizedˢ F (try x v y) r =
    let hy = sizedˢ F y r in
    let hx = sizedˢ F x (fixed nothing CATCH ∷ (Of.variable nothing v ∷ (fixed nothing WITH ∷ (of_statement F y r)))) in
    record { nodes_are = omega (arith, hy, hx); records_are = omega (arith, hy, hx) }
sizedˢ F (choice c x y) r =
    let hy = sizedˢ F y (fixed nothing UNBRACKET ∷ r) in
    let hx = sizedˢ F x (fixed nothing COLON ∷ (of_statement F y (fixed nothing UNBRACKET ∷ r))) in
    let hc = sizedᶜ F c (fixed nothing ASK ∷ (of_statement F x (fixed nothing COLON ∷ (of_statement F y (fixed nothing UNBRACKET ∷ r))))) in
    record { nodes_are = omega (arith, hy, hx, hc); records_are = omega (arith, hy, hx, hc) }

-- ---- spots

abbrev node_marks : List Spot → ℕ
node_marks [] = 0
node_marks (m ∷ ms) = node_of m.does (node_marks ms)

abbrev record_marks : List Spot → ℕ
record_marks [] = 0
record_marks (m ∷ ms) = record_in m.does (record_marks ms)

marked : {at : ℕ} {g : Bool} {ts : List Token} {l : Bytes} {ms : List Spot} → Spaced at g ts l ms → (node_marks ms ≡ nodes_in ts) × (record_marks ms ≡ records_in ts)
marked end = (refl, refl)
marked (space h d) = marked d
marked (next {t = t} s l h p e d) = (ap (node_of (opens t)) (marked d).0, ap (record_in (opens t)) (marked d).1)

-- none is over the limits exactly where there are few
none_some : {x : Spot} → ◌≡◌ {A = Option Spot} (some x) none → ⊥
none_some e = let z : ◌≡◌ {A = ℕ} 0 1 = cc in absurd (omega arith)

few_by : (o : Opens) (n k a b : ℕ) (m : Spot) (f : ℕ → ℕ → Option Spot) → ((n k : ℕ) → f n k ≡ none → (a ≤ n) × (b ≤ k)) → first_over_by o n k m f ≡ none
    → (node_of o a ≤ n) × (record_in o b ≤ k)
few_by nothing n k a b m f h e = h n k e
few_by node zero k a b m f h e = absurd (none_some e)
few_by node (suc n) k a b m f h e = (omega (arith, h n k e), omega (arith, h n k e))
few_by record_of n zero a b m f h e = absurd (none_some e)
few_by record_of n (suc k) a b m f h e = (omega (arith, h n k e), omega (arith, h n k e))

few : (ms : List Spot) (n k : ℕ) → first_over n k ms ≡ none → (node_marks ms ≤ n) × (record_marks ms ≤ k)
unfolding first_over
few [] n k e = (omega arith, omega arith)
few (m ∷ ms) n k e = few_by m.does n k (node_marks ms) (record_marks ms) m (λ n k. first_over n k ms) (λ n k. few ms n k) e

none_by : (o : Opens) (n k a b : ℕ) (m : Spot) (f : ℕ → ℕ → Option Spot) → ((n k : ℕ) → a ≤ n → b ≤ k → f n k ≡ none) → node_of o a ≤ n → record_in o b ≤ k
    → first_over_by o n k m f ≡ none
none_by nothing n k a b m f h p q = h n k p q
none_by node zero k a b m f h p q = absurd (omega arith)
none_by node (suc n) k a b m f h p q = h n k (omega arith) q
none_by record_of n zero a b m f h p q = absurd (omega arith)
none_by record_of n (suc k) a b m f h p q = h n k p (omega arith)

none_over : (ms : List Spot) (n k : ℕ) → node_marks ms ≤ n → record_marks ms ≤ k → first_over n k ms ≡ none
unfolding first_over
none_over [] n k p q = refl
none_over (m ∷ ms) n k p q = none_by m.does n k (node_marks ms) (record_marks ms) m (λ n k. first_over n k ms) (λ n k. none_over ms n k) p q

-- the spots of a reading count the tree's nodes and its conditions written out
sizes : (text : Bytes) (F : ℕ) (t : Statement Condition) (ms : List Spot) → Placed text F t ms → (node_marks ms ≡ sizeˢ t) × (record_marks ms ≡ recordsˢ t)
unfolding Placed of_routine opens
sizes text F t ms h =
    let m = marked h in
    let k = sizedˢ F t [] in
    (omega (arith, m.0, k), omega (arith, m.1, k))

-- ---- at the end of a text every mark is noted

held : List Spot → Option Result → List Spot
held d none = d
held d (some R) = R.placed

final_marks : (w : Log) (s : Stack) (R : Result) → ended w s ≡ some R → R.placed ≡ reverse w.spots
unfolding held
final_marks w (done r) R e = sym (ap (λ o. held R.placed o) e)
final_marks w (mark x s) R e = let z : ◌≡◌ {A = ℕ} 0 1 = cc in absurd (omega arith)
final_marks w (want F k f) R e = let z : ◌≡◌ {A = ℕ} 0 1 = cc in absurd (omega arith)

all_marks : (q : State) (R : Result) → final q ≡ some R → R.placed ≡ reverse (so_far q)
unfolding final so_far
all_marks (plain w [] g s) R e = final_marks w s R e
all_marks (plain w (c ∷ x) g s) R e = let z : ◌≡◌ {A = ℕ} 0 1 = cc in absurd (omega arith)
all_marks (fork w F f) R e = let z : ◌≡◌ {A = ℕ} 0 1 = cc in absurd (omega arith)
all_marks (first B p hi f) R e = let z : ◌≡◌ {A = ℕ} 0 1 = cc in absurd (omega arith)
all_marks (digits B n hi f) R e = final_marks (behind B (B.now + 0)) (f n) R e

append_none : (l : Bytes) → l ++ [] ≡ l
append_none [] = refl
append_none (b ∷ l) = ap (λ l. b ∷ l) (append_none l)

-- so a reading within the limits has no Refusal 18
none_18 : (text : Bytes) (F : ℕ) (t : Statement Condition) (ms : List Spot) → Placed text F t ms → first_too_many ms ≡ none → (p : ℕ) → Refused18 text p → ⊥
none_18 text F t ms h e p r =
    let R = result F t ms in
    let s : Lang start (text ++ []) R = subst (λ l. Lang start l R) (sym (append_none text)) (start_complete text F t ms h) in
    let a : ms ≡ reverse (so_far (last text start)) = all_marks (last text start) R (final_complete (last text start) R (lang_last text start [] R s).0) in
    none_some (sym (noted_18 text p r).0 ∙ (ap (λ ms. first_too_many ms) (sym a) ∙ e))

-- (e) the reader gives F, the tree and the places exactly where the text is a written form of them with at most 1,024 nodes and 256 conditions
pub gives_within : (text : Bytes) (F : ℕ) (t : Statement Condition) (ms : List Spot)
    → (Placed text F t ms × (sizeˢ t ≤ 1024) × (recordsˢ t ≤ 256)) ↔ (answer text ≡ gives (result F t ms))
gives_within text F t ms = (into, out)
  where
    into : Placed text F t ms × (sizeˢ t ≤ 1024) × (recordsˢ t ≤ 256) → answer text ≡ gives (result F t ms)
    into h =
        let k = sizes text F t ms h.0 in
        let e : first_too_many ms ≡ none = none_over ms 1024 256 (omega (arith, k.0, h.1)) (omega (arith, k.1, h.2)) in
        (gives_reading text F t ms).0 (h.0, none_18 text F t ms h.0 e)

    out : answer text ≡ gives (result F t ms) → Placed text F t ms × (sizeˢ t ≤ 1024) × (recordsˢ t ≤ 256)
    out e =
        let h = (gives_reading text F t ms).1 e in
        let k = sizes text F t ms h.0 in
        let f = few ms 1024 256 (within_limits text F t ms h.0 h.1) in
        (h.0, omega (arith, k.0, f.0), omega (arith, k.1, f.1))
