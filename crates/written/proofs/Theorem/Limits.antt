-- What a state has noted of the tokens behind it: that a token over a limit which has ended is known, and stays so.
use Rattle.std.proofs.Math.Path.{◌≡◌}
use Rattle.std.specs.Prelude.{refl, Bool, false, not, ◌&&◌, T, length, take}
use Rattle.std.proofs.Common.{sym, ◌∙◌, ap, subst, arith, T_not}
use Prim.Native.Nat.{ℕ, suc, ◌+◌, ◌≤◌, ◌<◌}
use Rattle.std.proofs.Math.Bool.{true}
use mathlib.Core.List.{List, [], ◌∷◌, ◌++◌, reverse, reverse_aux}
use Rattle.std.proofs.Math.Option.{Option, none, some}
use Rattle.imp.specs.Condition.{Condition}
use Rattle.imp.specs.Routine.{Statement}
use Rattle.image.specs.Bytes.{Bytes}
use Rattle.written.specs.Byte.{is_digit, is_letter, is_run}
use Rattle.written.specs.Token.{node, Spot, Decimal}
use Rattle.written.specs.Machine.{statements, Result, Stack, want, Log, Begun, noted, behind, State, plain, fork, first, digits, forks, step, final}
use Rattle.written.specs.Limits.{first_too_many}
use Rattle.written.specs.Answer.{so_far, or_stay, last, or_none, reach}
use Rattle.written.proofs.Theorem.Language.{Left, Past, From, Upto, Lang, Then}
use Rattle.written.proofs.Theorem.Spacing.{or_left, and_both}
use Rattle.written.proofs.Theorem.Decimals.{shorter}
use Rattle.written.proofs.Theorem.Leads.{look_sound}
use Rattle.written.proofs.Theorem.Steps.{step_sound, step_complete}
use Rattle.written.proofs.Theorem.Ends.{final_complete}
use Rattle.written.proofs.Theorem.Scan.{Every, kept_more, kept_less, later}
use Rattle.written.proofs.Theorem.Now.{Now, Now?, now_step}

-- ---- what a state has for certain

-- what stands before the place n in a reading has been noted by then
module _ (n : ℕ) (m : Spot) (h : m.upto ≤ n) where
  abbrev Beyond : Spot → Type 0
  Beyond k = n < k.upto

  not_beyond : Beyond m → ⊥
  not_beyond k = absurd (omega arith)

  from_later : (i : ℕ) (ms : List Spot) → n ≤ i → Every (λ k. i < k.upto) ms → Every Beyond ms
  from_later i [] h e = tt
  from_later i (k ∷ ms) h e = (omega (arith, e.0), from_later i ms h e.1)

  -- behind a log whose place is n or later
  noted_left : (w : Log) (g : Bool) (s : Stack) (l : Bytes) (R : Result) → n ≤ w.at → Left w g s l R → first_too_many R.placed ≡ some m → first_too_many (reverse w.spots) ≡ some m
  noted_left w g s l R k d e =
      kept_less Beyond w.spots d.rest.places 1024 256 m (from_later w.at d.rest.places k (later d.rest.spaced)) not_beyond
      (ap (λ ms. first_too_many ms) d.rest.logged ∙ e)

  -- behind a token that ends past n, what was noted before it
  noted_before : (w : Log) (k : Spot) → n < k.upto → first_too_many (reverse (k ∷ w.spots)) ≡ some m → first_too_many (reverse w.spots) ≡ some m
  noted_before w k d e = kept_less Beyond w.spots (k ∷ []) 1024 256 m (d, tt) not_beyond e

  abbrev pub Noted : List Spot → Type 0
  Noted ms = first_too_many (reverse ms) ≡ some m

  noted_fork : (w : Log) (upto : ℕ) (x : Bytes) (S : Stack) (l : Bytes) (R : Result) → n < upto → Past (noted w node true upto) x true S l R → first_too_many R.placed ≡ some m
      → Noted w.spots
  noted_fork w upto x S l R k d e =
      noted_before w (record { does = node; is_word = true; from = w.at; upto = upto }) k (noted_left (noted w node true upto) true S d.behind_it R (omega arith) d.left e)

  settled_fork : (w : Log) (F : ℕ) (f : Statement Condition → Stack) (l : Bytes) (R : Result) → n ≡ suc w.at → Lang (fork w F f) l R
      → first_too_many R.placed ≡ some m → Noted w.spots
  unfolding forks Lang step final
  settled_fork w F f [] R k d e = let z = final_complete (fork w F f) R d in let y : ◌≡◌ {A = ℕ} 0 1 = cc in absurd (omega arith)
  settled_fork w F f (b ∷ l) R k d e =
      look_sound (λ b l R. first_too_many R.placed ≡ some m → Noted w.spots) (forks w F f)
      ((λ l R p. noted_fork w (w.at + 5) (114 ∷ 111 ∷ 119 ∷ []) _ l R (omega arith) p), ((λ l R p. noted_fork w (w.at + 3) (121 ∷ []) _ l R (omega arith) p), tt))
      b l R (step_complete (fork w F f) b l R d) e

  settled_first : (B : Begun) (p : Bool) (hi : ℕ) (s : Stack) (l : Bytes) (R : Result) (x : Bytes) (v : ℕ) → n ≡ B.now → From p hi x v
      → Past (behind B (B.now + length x)) x true s l R → first_too_many R.placed ≡ some m → Noted B.log.spots
  unfolding Decimal
  settled_first B p hi s l R [] v k g d e = absurd g.0
  settled_first B p hi s l R (c ∷ x) v k g d e =
      noted_before B.log (record { does = B.does; is_word = true; from = B.log.at; upto = B.now + suc (length x) }) (omega arith)
      (noted_left (behind B (B.now + suc (length x))) true s d.behind_it R (omega arith) d.left e)

  settled_digits : (B : Begun) (v hi : ℕ) (s : Stack) (l : Bytes) (R : Result) (x : Bytes) → n ≡ B.now
      → Past (behind B (B.now + length x)) x true s l R → first_too_many R.placed ≡ some m → Noted (behind B (B.now + 0)).spots
  settled_digits B v hi s l R [] k d e = noted_left (behind B (B.now + 0)) true s d.behind_it R (omega arith) d.left e
  settled_digits B v hi s l R (c ∷ x) k d e =
      kept_more B.log.spots (record { does = B.does; is_word = true; from = B.log.at; upto = B.now + 0 } ∷ []) 1024 256 m
      (noted_before B.log (record { does = B.does; is_word = true; from = B.log.at; upto = B.now + suc (length x) }) (omega arith)
      (noted_left (behind B (B.now + suc (length x))) true s d.behind_it R (omega arith) d.left e))

  -- what is over a limit in some reading, and has ended, has been noted
  pub settled : (q : State) (l : Bytes) (R : Result) → Now q n → Lang q l R → first_too_many R.placed ≡ some m → Noted (so_far q)
  unfolding Now Lang so_far
  settled (plain w x g s) l R k d e = noted_left w g s d.behind_it R (omega arith) d.left e
  settled (fork w F f) l R k d e = settled_fork w F f l R k d e
  settled (first B p hi f) l R k d e = settled_first B p hi (f d.value) l R d.spelt d.value k d.good d.after e
  settled (digits B v hi f) l R k d e = settled_digits B v hi (f d.value) l R d.spelt k d.after e

-- ---- what has been noted stays, but for a number that goes on

stays_left : (m : Spot) (w : Log) (g : Bool) (s : Stack) (l : Bytes) (R : Result) → first_too_many (reverse w.spots) ≡ some m → Left w g s l R → first_too_many R.placed ≡ some m
stays_left m w g s l R e d = ap (λ ms. first_too_many ms) (sym d.rest.logged) ∙ kept_more w.spots d.rest.places 1024 256 m e

stays_after : (m : Spot) (w : Log) (k : Spot) (R : Result) (ms : List Spot) → first_too_many (reverse w.spots) ≡ some m → reverse_aux (k ∷ w.spots) ms ≡ R.placed
    → first_too_many R.placed ≡ some m
stays_after m w k R ms e d = ap (λ ms. first_too_many ms) (sym d) ∙ kept_more w.spots (k ∷ ms) 1024 256 m e

no_word : (m : Spot) (b : ℕ) → T (is_run b) → T (not (m.is_word && is_run b)) → T m.is_word → ⊥
no_word m b h k j = T_not (m.is_word && is_run b) k (and_both m.is_word (is_run b) j h)

stays_digits : (m : Spot) (B : Begun) (v hi : ℕ) (s : Stack) (b : ℕ) (l : Bytes) (R : Result) (x : Bytes) (y : ℕ) → Upto hi v x y
    → first_too_many (reverse (behind B (B.now + 0)).spots) ≡ some m → T (not (m.is_word && is_run b)) → Past (behind B (B.now + length x)) x true s (b ∷ l) R
    → first_too_many R.placed ≡ some m
unfolding Upto
stays_digits m B v hi s b l R [] y u e k d = stays_left m (behind B (B.now + 0)) true s d.behind_it R e d.left
stays_digits m B v hi s b l R (c ∷ x) y u e k d =
    let t : T (is_run b) = or_left (is_digit b) (is_letter b) (subst (λ c. T (is_digit c)) (sym (shorter d).0) u.1) in
    let z : first_too_many (reverse B.log.spots) ≡ some m =
    kept_less (λ k. T k.is_word) B.log.spots (record { does = B.does; is_word = true; from = B.log.at; upto = B.now + 0 } ∷ []) 1024 256 m (tt, tt) (no_word m b t k) e in
    stays_after m B.log _ R d.left.rest.places z d.left.rest.logged

pub stays : (m : Spot) (q : State) (b : ℕ) (l : Bytes) (R : Result) → first_too_many (reverse (so_far q)) ≡ some m → T (not (m.is_word && is_run b)) → Lang q (b ∷ l) R
    → first_too_many R.placed ≡ some m
unfolding Lang so_far
stays m (plain w x g s) b l R e k d = stays_left m w g s d.behind_it R e d.left
stays m (fork w F f) b l R e k d = stays_left m w false (want F statements f) (116 ∷ b ∷ l) R e d
stays m (first B p hi f) b l R e k d = stays_after m B.log _ R d.after.left.rest.places e d.after.left.rest.logged
stays m (digits B v hi f) b l R e k d = stays_digits m B v hi (f d.value) b l R d.spelt d.value d.good e k d.after

-- ---- as many bytes as fit

last_by : (q : State) (b : ℕ) (l : Bytes) (o : Option State) → step q b ≡ o → (m : Bytes) (R : Result)
    → ((q' : State) → Lang (last l q') m R → Lang q' (take (reach l q') l ++ m) R) → Lang (or_stay q o λ q'. last l q') m R
    → Lang q (take (or_none o λ q'. reach l q') (b ∷ l) ++ m) R
unfolding Then
last_by q b l none e m R f h = h
last_by q b l (some q') e m R f h = step_sound q b (take (reach l q') l ++ m) R (subst (λ o. Then o (take (reach l q') l ++ m) R) (sym e) (f q' h))

pub last_lang : (l : Bytes) (q : State) (m : Bytes) (R : Result) → Lang (last l q) m R → Lang q (take (reach l q) l ++ m) R
unfolding last reach
last_lang [] q m R h = h
last_lang (b ∷ l) q m R h = last_by q b l (step q b) refl m R (λ q'. last_lang l q' m R) h

reach_by : (b : ℕ) (l : Bytes) (o : Option State) → ((q : State) → reach l q ≤ length l) → or_none o (λ q. reach l q) ≤ suc (length l)
reach_by b l none f = omega arith
reach_by b l (some q) f = omega (arith, f q)

pub reach_most : (l : Bytes) (q : State) → reach l q ≤ length l
unfolding reach
reach_most [] q = omega arith
reach_most (b ∷ l) q = reach_by b l (step q b) (λ q. reach_most l q)

now_by : (q : State) (o : Option State) (l : Bytes) (n : ℕ) → Now q n → Now? o (suc n) → ((q' : State) → Now q' (suc n) → Now (last l q') (suc n + reach l q'))
    → Now (or_stay q o λ q'. last l q') (n + or_none o (λ q'. reach l q'))
now_by q none l n h k f = subst (λ i. Now q i) (omega arith) h
now_by q (some q') l n h k f = subst (λ i. Now (last l q') i) (omega arith) (f q' k)

pub now_last : (l : Bytes) (q : State) (n : ℕ) → Now q n → Now (last l q) (n + reach l q)
unfolding last reach
now_last [] q n h = subst (λ i. Now q i) (omega arith) h
now_last (b ∷ l) q n h = now_by q (step q b) l n h (now_step q b n h) (λ q' k. now_last l q' (suc n) k)

-- a part of a text that is read is read whole
lang_by : (o : Option State) (q : State) (l m : Bytes) (R : Result) → ((q' : State) → Lang q' (l ++ m) R → Lang (last l q') m R × (reach l q' ≡ length l)) → Then o (l ++ m) R
    → Lang (or_stay q o λ q'. last l q') m R × (or_none o (λ q'. reach l q') ≡ suc (length l))
unfolding Then
lang_by none q l m R f h = absurd h
lang_by (some q') q l m R f h = ((f q' h).0, ap suc (f q' h).1)

pub lang_last : (l : Bytes) (q : State) (m : Bytes) (R : Result) → Lang q (l ++ m) R → Lang (last l q) m R × (reach l q ≡ length l)
unfolding last reach
lang_last [] q m R h = (h, refl)
lang_last (b ∷ l) q m R h = lang_by (step q b) q l m R (λ q'. lang_last l q' m R) (step_complete q b (l ++ m) R h)

-- and the rest is read from there
abbrev pub Same : Bytes → Bytes → State → Type 0
Same l m q = (last (l ++ m) q ≡ last m (last l q)) × (reach (l ++ m) q ≡ length l + reach m (last l q))

more_by : (o : Option State) (q : State) (l m : Bytes) → or_none o (λ q'. reach l q') ≡ suc (length l) → ((q' : State) → reach l q' ≡ length l → Same l m q')
    → (or_stay q o (λ q'. last (l ++ m) q') ≡ last m (or_stay q o λ q'. last l q'))
    × (or_none o (λ q'. reach (l ++ m) q') ≡ suc (length l) + reach m (or_stay q o λ q'. last l q'))
more_by none q l m h f = let z : 0 ≡ suc (length l) = h in absurd (omega arith)
more_by (some q') q l m h f =
    let k = f q' (omega (arith, h)) in
    (k.0, omega (arith, k.1))

pub last_more : (l m : Bytes) (q : State) → reach l q ≡ length l → Same l m q
unfolding last reach
last_more [] m q h = (refl, omega arith)
last_more (b ∷ l) m q h = more_by (step q b) q l m h (λ q'. last_more l m q')
