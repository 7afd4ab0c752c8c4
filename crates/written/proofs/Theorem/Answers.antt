-- (e) The reader's whole answer is the definitions': Refusal 18 exactly where they say so, else Refusal 17 where they say so, else the reading.
use Rattle.std.specs.Prelude.{◌≡◌, refl, ◌↔◌, ◌⊎◌, ◌≢◌, ℕ, suc, ◌+◌, ◌≤◌, Bool, true, false, not, ◌&&◌, List, [], ◌∷◌, ◌++◌, reverse, T, leb, length, take, drop}
use Rattle.std.proofs.Common.{sym, ◌∙◌, ap, subst, inl, inr, arith, leb→le, le→leb, length-take, take-append-drop}
use Rattle.std.proofs.Math.Option.{Option, none, some}
use Rattle.imp.specs.Condition.{Condition}
use Rattle.imp.specs.Routine.{Statement}
use Rattle.image.specs.Bytes.{Bytes}
use Rattle.written.specs.Byte.{is_run}
use Rattle.written.specs.Token.{Spot}
use Rattle.written.specs.Grammar.{Placed, Refused17}
use Rattle.written.specs.Machine.{Result, State, step, start, Outcome, read, refused, outcome}
use Rattle.written.specs.Limits.{first_too_many, runs_on, whole_in, Refused18}
use Rattle.written.specs.Answer.{so_far, or_stay, last, or_none, reach, Answer, gives, refused_17, refused_18, within, by_whole, limited, answer}
use Rattle.written.proofs.Theorem.Language.{Lang, Then}
use Rattle.written.proofs.Theorem.Spacing.{is_on, and_parts, and_both}
use Rattle.written.proofs.Theorem.Steps.{step_sound}
use Rattle.written.proofs.Theorem.Ends.{live}
use Rattle.written.proofs.Theorem.Reader.{result, start_sound, start_complete, reads_placed}
use Rattle.written.proofs.Theorem.Places.{together, take_more, refuses}
use Rattle.written.proofs.Theorem.Scan.{kept_more}
use Rattle.written.proofs.Theorem.Now.{Now}
use Rattle.written.proofs.Theorem.Limits.{settled, stays, last_lang, reach_most, now_last, lang_last, Same, last_more}

-- ---- answers apart

kind : Answer → ℕ
kind (gives R) = 0
kind (refused_17 p) = 17
kind (refused_18 p) = 18

place : Answer → ℕ
place (gives R) = 0
place (refused_17 p) = p
place (refused_18 p) = p

same_18 : {p q : ℕ} → refused_18 p ≡ refused_18 q → p ≡ q
unfolding place
same_18 e = ap place e

not_within : (o : Outcome) (p : ℕ) → within o ≡ refused_18 p → ⊥
unfolding kind
not_within (read R) p e = let z : ◌≡◌ {A = ℕ} 0 18 = ap kind e in absurd (omega arith)
not_within (refused q) p e = let z : ◌≡◌ {A = ℕ} 17 18 = ap kind e in absurd (omega arith)

-- ---- from the answer to the definition

-- a token over a limit, noted and whole
record Found (text : Bytes) (p : ℕ) : Type 0 where
  spot : Spot
  noted : first_too_many (reverse (so_far (last text start))) ≡ some spot
  ended : spot.upto ≤ reach text start
  whole : T (whole_in spot text)
  here : spot.from ≡ p

found_by : (u : Bool) (m : Spot) (o : Outcome) (p : ℕ) → by_whole u m (within o) ≡ refused_18 p → T u × (m.from ≡ p)
found_by true m o p e = (tt, same_18 e)
found_by false m o p e = absurd (not_within o p e)

found_in : (k : Option Spot) (text : Bytes) (o : Outcome) (p : ℕ) → first_too_many (reverse (so_far (last text start))) ≡ k
    → limited k text (reach text start) (within o) ≡ refused_18 p → Found text p
found_in none text o p d e = absurd (not_within o p e)
found_in (some m) text o p d e =
    let k = found_by (leb m.upto (reach text start) && whole_in m text) m o p e in
    let a = and_parts (leb m.upto (reach text start)) (whole_in m text) k.0 in
    record { spot = m; noted = d; ended = leb→le m.upto (reach text start) a.0; whole = a.1; here = k.1 }

pub answered_18 : (text : Bytes) (p : ℕ) → answer text ≡ refused_18 p → Refused18 text p
unfolding answer
answered_18 text p e =
    let f = found_in (first_too_many (reverse (so_far (last text start)))) text (outcome text) p refl e in
    let n = reach text start in
    let u = f.spot.upto in
    let o = live (last text start) in
    let d : Placed (take n text ++ o.rest) o.result.reading.options o.result.reading.tree o.result.placed =
    start_sound (take n text ++ o.rest) o.result (last_lang text start o.rest o.result o.goes) in
    let s : take n text ++ o.rest ≡ take u text ++ (drop u (take n text) ++ o.rest) =
    ap (λ l. l ++ o.rest) (take_more u n text f.ended) ∙ together (take u text) (drop u (take n text)) o.rest in
    record {
      spot = f.spot;
      others = o.result.placed;
      more = drop u (take n text) ++ o.rest;
      F = o.result.reading.options;
      tree = o.result.reading.tree;
      fits = subst (λ l. Placed l o.result.reading.options o.result.reading.tree o.result.placed) s d;
      is_first = ap (λ ms. first_too_many ms) o.kept ∙ kept_more (so_far (last text start)) o.others 1024 256 f.spot f.noted;
      in_it = omega (arith, f.ended, reach_most text start);
      whole = f.whole;
      here = f.here;
    }

-- ---- from the definition to the answer

-- what is noted at a place stays noted to the end
on_by : (m : Spot) (q : State) (b : ℕ) (l : Bytes) (n : ℕ) (o : Option State) → step q b ≡ o → m.upto ≤ n → T (not (m.is_word && is_run b)) → first_too_many (reverse (so_far q)) ≡ some m
    → Now (or_stay q o λ q'. last l q') (n + or_none o (λ q'. reach l q')) → first_too_many (reverse (so_far (or_stay q o λ q'. last l q'))) ≡ some m
unfolding Then
on_by m q b l n none d h k e w = e
on_by m q b l n (some q') d h k e w =
    let o = live (last l q') in
    let x = take (reach l q') l ++ o.rest in
    let z : Lang q (b ∷ x) o.result = step_sound q b x o.result (subst (λ p. Then p x o.result) (sym d) (last_lang l q' o.rest o.result o.goes)) in
    settled (n + suc (reach l q')) m (omega arith) (last l q') o.rest o.result w o.goes (stays m q b x o.result e k z)

pub noted_on : (m : Spot) (q : State) (l : Bytes) (n : ℕ) → m.upto ≤ n → T (not (m.is_word && runs_on l)) → Now q n → first_too_many (reverse (so_far q)) ≡ some m
    → first_too_many (reverse (so_far (last l q))) ≡ some m
unfolding last reach
noted_on m q [] n h k w e = e
noted_on m q (b ∷ l) n h k w e = on_by m q b l n (step q b) refl h k e (now_last (b ∷ l) q n w)

pub start_now : Now start 0
unfolding Now start
start_now = refl

-- the token of Refusal 18 has been noted when the machine stops, and has ended by then
pub noted_18 : (text : Bytes) (p : ℕ) (r : Refused18 text p) → (first_too_many (reverse (so_far (last text start))) ≡ some r.spot) × (r.spot.upto ≤ reach text start)
noted_18 text p r =
    let m = r.spot in
    let u = m.upto in
    let l = take u text in
    let l' = drop u text in
    let R = result r.F r.tree r.others in
    let a = lang_last l start r.more R (start_complete (l ++ r.more) r.F r.tree r.others r.fits) in
    let long : length l ≡ u = omega (arith, length-take u text, r.in_it) in
    let w : Now (last l start) u = subst (λ i. Now (last l start) i) (omega (arith, a.1, long)) (now_last l start 0 start_now) in
    let e : first_too_many (reverse (so_far (last l start))) ≡ some m = settled u m (omega arith) (last l start) r.more R w a.0 r.is_first in
    let s : Same l l' start = last_more l l' start a.1 in
    let t : l ++ l' ≡ text = take-append-drop u text in
    let q : last text start ≡ last l' (last l start) = subst (λ x. last x start ≡ last l' (last l start)) t s.0 in
    let n : reach text start ≡ length l + reach l' (last l start) = subst (λ x. reach x start ≡ length l + reach l' (last l start)) t s.1 in
    let k : first_too_many (reverse (so_far (last text start))) ≡ some m =
    ap (λ q. first_too_many (reverse (so_far q))) q ∙ noted_on m (last l start) l' u (omega arith) r.whole w e in
    (k, omega (arith, n, long))

pub answers_18 : (text : Bytes) (p : ℕ) → Refused18 text p → answer text ≡ refused_18 p
unfolding answer
answers_18 text p r =
    let m = r.spot in
    let u = m.upto in
    let k = noted_18 text p r in
    let g : (leb u (reach text start) && whole_in m text) ≡ true =
    is_on (leb u (reach text start) && whole_in m text) (and_both (leb u (reach text start)) (whole_in m text) (le→leb u (reach text start) k.1) r.whole) in
    ap (λ o. limited o text (reach text start) (within (outcome text))) k.0 ∙ (ap (λ v. by_whole v m (within (outcome text))) g ∙ ap refused_18 r.here)

-- "18 .., at its first byte"
pub refuses_18 : (text : Bytes) (p : ℕ) → Refused18 text p ↔ (answer text ≡ refused_18 p)
refuses_18 text p = (answers_18 text p, answered_18 text p)

pub one_18 : (text : Bytes) (p q : ℕ) → Refused18 text p → Refused18 text q → p ≡ q
one_18 text p q a b = same_18 (sym (answers_18 text p a) ∙ answers_18 text q b)

-- ---- the other answers

-- the answer is Refusal 18, or what the grammar alone says
either_by : (u : Bool) (m : Spot) (a : Answer) → (by_whole u m a ≡ a) ⊎ ((p : ℕ) × (by_whole u m a ≡ refused_18 p))
either_by true m a = inr (m.from, refl)
either_by false m a = inl refl

either_in : (k : Option Spot) (text : Bytes) (n : ℕ) (a : Answer) → (limited k text n a ≡ a) ⊎ ((p : ℕ) × (limited k text n a ≡ refused_18 p))
either_in none text n a = inl refl
either_in (some m) text n a = either_by (leb m.upto n && whole_in m text) m a

either : (text : Bytes) → (answer text ≡ within (outcome text)) ⊎ ((p : ℕ) × (answer text ≡ refused_18 p))
unfolding answer
either text = either_in (first_too_many (reverse (so_far (last text start)))) text (reach text start) (within (outcome text))

pub answers_else : (text : Bytes) → ((p : ℕ) → Refused18 text p → ⊥) → answer text ≡ within (outcome text)
answers_else text h = go (either text)
  where
    go : (answer text ≡ within (outcome text)) ⊎ ((p : ℕ) × (answer text ≡ refused_18 p)) → answer text ≡ within (outcome text)
    go (inl e) = e
    go (inr k) = absurd (h k.0 (answered_18 text k.0 k.1))

no_18 : (text : Bytes) (a : Answer) → answer text ≡ a → kind a ≢ 18 → (p : ℕ) → Refused18 text p → ⊥
unfolding kind
no_18 text a e h p r = h (ap kind (sym e ∙ answers_18 text p r))

-- what is not Refusal 18 is what the grammar says
else_is : (text : Bytes) (a : Answer) → answer text ≡ a → kind a ≢ 18 → within (outcome text) ≡ a
else_is text a e h = sym (answers_else text (no_18 text a e h)) ∙ e

read_back : (o : Outcome) (R : Result) → within o ≡ gives R → o ≡ read R
unfolding kind
read_back (read S) R e = ap read (ap (held S) e)
  where
    held : Result → Answer → Result
    held d (gives R) = R
    held d (refused_17 p) = d
    held d (refused_18 p) = d
read_back (refused p) R e = let z : ◌≡◌ {A = ℕ} 17 0 = ap kind e in absurd (omega arith)

refused_back : (o : Outcome) (p : ℕ) → within o ≡ refused_17 p → o ≡ refused p
unfolding kind place
refused_back (read R) p e = let z : ◌≡◌ {A = ℕ} 0 17 = ap kind e in absurd (omega arith)
refused_back (refused q) p e = ap refused (ap place e)

-- Refusal 17 where the definition says so and no token is over a limit
pub refuses_17 : (text : Bytes) (p : ℕ) → (Refused17 text p × ((q : ℕ) → Refused18 text q → ⊥)) ↔ (answer text ≡ refused_17 p)
unfolding kind
refuses_17 text p = (
  (λ h. answers_else text h.1 ∙ ap within ((refuses text p).0 h.0)),
  (λ e. ((refuses text p).1 (refused_back (outcome text) p (else_is text (refused_17 p) e (λ z. absurd (omega arith)))), no_18 text (refused_17 p) e (λ z. absurd (omega arith)))),
)

-- a reading where the text is of the grammar and no token is over a limit
pub gives_reading : (text : Bytes) (F : ℕ) (t : Statement Condition) (ms : List Spot)
    → (Placed text F t ms × ((q : ℕ) → Refused18 text q → ⊥)) ↔ (answer text ≡ gives (result F t ms))
unfolding kind
gives_reading text F t ms = (
  (λ h. answers_else text h.1 ∙ ap within ((reads_placed text F t ms).0 h.0)),
  (λ e. (
    (reads_placed text F t ms).1 (read_back (outcome text) (result F t ms) (else_is text (gives (result F t ms)) e (λ z. absurd (omega arith)))),
    no_18 text (gives (result F t ms)) e (λ z. absurd (omega arith)),
  )),
)
