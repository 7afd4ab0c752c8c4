-- A statement is begun in one setting, then in all of a set, one after the other: those of them that were ready are left.
use mathlib.Core.Path.{◌≡◌, refl, sym, ◌∙◌, ap, subst, fun_ext}
use mathlib.Core.Bool.{Bool, true, false, not, ◌&&◌, ◌||◌, cond}
use mathlib.Core.List.{List, []}
use Prim.Native.Nat.{ℕ, suc, ◌+◌, ◌-◌, ◌<◌}
use native.Mathlib.Omega.{arith}
use native.Mathlib.Decide.{ℕ_discrete}
use native.Mathlib.Numerals.{add-one}
use lib.Dec.{eqb, ltb}
use lib.IntN.{ℤ}
use borrow.Author.Tests.{eq-eqb, ne_eqb, eqb-false, lt-ltb}
use Rattle.sets.specs.declared.Set.{Set}
use Rattle.sets.specs.Member.{bit, members}
use Rattle.imp.specs.State.{State, ready, enter}
use Rattle.imp.specs.Shared.{Settings, any, for, visited, where_true, shared}
use Rattle.imp.proofs.Theorem.Begin.{ready_lt}
use Rattle.imp.proofs.Theorem.Sets.{and_true, any_true}
use Rattle.imp.proofs.Theorem.WhileShared.{left, reached, begun_some, begun_none}
use Rattle.plain.specs.declared.progress.Progress.{Progress}
use Rattle.plain.specs.Inner.Progress.{state_of}
use Rattle.plain.specs.Inner.Running.{Began}
use Rattle.plain.proofs.Beginning.{ready_is}
use Rattle.shared.specs.declared.lent.Lent.{Lent}
use Rattle.shared.specs.declared.plan.Plan.{Plan}
use Rattle.shared.specs.declared.turn.Turn.{Turn}
use Rattle.shared.specs.Lent.{Tally, progress, part}
use Rattle.shared.specs.Inner.Lent.{Tallied, put, own, as_shared}
use Rattle.shared.specs.Inner.Handed.{tally_in, state_in}
use Rattle.shared.specs.Inner.Each.{Only}
use Rattle.shared.specs.Inner.Beginning.{BeganAt, BeginningFor, BegunFor}
use Rattle.shared.proofs.Each.{Upto, upto_none, upto_next, upto_here, upto_all}
use Rattle.shared.proofs.Found.{Found, found_none, found_next, found_all}
use Rattle.shared.proofs.Members.{any_members}
use Rattle.shared.proofs.Tallies.{put_tallied, own_put}

-- ---- one setting

-- of one setting alone: it is in the set or not, and only what is true of it counts
off : (a b : Bool) → (a && false) ≡ (b && false)
off true true = refl
off true false = refl
off false true = refl
off false false = refl

unseen : (a b c : Bool) → ((a && false) && b) ≡ ((a && false) && c)
unseen true b c = refl
unseen false b c = refl

at_one : (S : Settings) (s : ℕ) (u : Bool) → S s ≡ u → (t : ℕ) → (S t && eqb t s) ≡ (u && eqb t s)
at_one S s u e t = go (ℕ_discrete t s)
  where
    go : Dec (t ≡ s) → (S t && eqb t s) ≡ (u && eqb t s)
    go (yes i) = ap (λ v. v && eqb t s) (ap S i ∙ e)
    go (no i) = rw (ne_eqb t s i) (off (S t) u)

seen : (S P Q : Settings) (s : ℕ) → P s ≡ Q s → (t : ℕ) → ((S t && eqb t s) && P t) ≡ ((S t && eqb t s) && Q t)
seen S P Q s e t = go (ℕ_discrete t s)
  where
    go : Dec (t ≡ s) → ((S t && eqb t s) && P t) ≡ ((S t && eqb t s) && Q t)
    go (yes i) = ap (λ v. (S t && eqb t s) && v) (ap P i ∙ e ∙ ap Q (sym i))
    go (no i) = rw (ne_eqb t s i) (unseen (S t) (P t) (Q t))

no_more : (a : Bool) → a ≡ (a || false)
no_more true = refl
no_more false = refl

joined_by_none : (a b : Bool) → a ≡ (a || (b && false))
joined_by_none true b = refl
joined_by_none false true = refl
joined_by_none false false = refl

module _ {N b : ℕ} (on before : Set) {s : ℕ} {T : Tally} (tallied : Tallied N T) where
  -- a setting of the set, read as p and begun: as far as q
  module _ (below : s < N) (e : bit on.bits s ≡ true) {p q : Progress} (read : p ≡ progress T s) (began : Began b p q) where
    begun_here : Began b (progress T s) q
    begun_here = subst (λ p. Began b p q) read began

    entered_at : (xs : List ℤ) → Only s (bit on.bits) (λ t. enter b) (own xs T) (own xs (put s q T))
    unfolding own
    entered_at xs = record { changed = λ t. own_put tallied below q xs t ∙ rw (at_one (bit on.bits) s true e t) (go t (ℕ_discrete t s)) }
      where
        go : (t : ℕ) → Dec (t ≡ s) → cond (eqb t s) (state_of q (part xs t)) (own xs T t) ≡ cond (eqb t s) (enter b (own xs T t)) (own xs T t)
        go t (yes i) =
            ap (λ σ. cond (eqb t s) σ (own xs T t)) (begun_here.entered (part xs t) ∙ ap (λ n. enter b (state_of (progress T n) (part xs t))) (sym i))
        go t (no i) = rw (ne_eqb t s i) refl

    begun_at : {T' : Tally} (u : Bool) (left : Set) → eqb q.outcome 1 ≡ u → T' ≡ put s q T
        → ((t : ℕ) → bit left.bits t ≡ (bit before.bits t || (eqb t s && u))) → BeganAt N b on s before T T' left
    unfolding own
    begun_at u left live is joined = subst (λ T'. BeganAt N b on s before T T' left) (sym is)
        (record {
          entered = entered_at;
          left_is = λ t. joined t ∙ ap (λ v. bit before.bits t || v) (sym
              (seen (bit on.bits) (λ n. ready b (own [] T n)) (λ n. u) s (ready_is begun_here (part [] s) ∙ live) t
              ∙ ap (λ v. v && u) (at_one (bit on.bits) s true e t)));
          tallied = put_tallied tallied below q began.proper;
        })

    -- live, it joins those that are left; not live, it does not
    pub joins : {T' : Tally} {left : Set} → q.outcome ≡ 1 → s < 64 → T' ≡ put s q T
        → ((t : ℕ) → bit left.bits t ≡ (bit before.bits t || (eqb t s && ltb s 64))) → BeganAt N b on s before T T' left
    joins {left = left} live few is joined = begun_at true left (eq-eqb q.outcome 1 live) is (rw (lt-ltb s 64 few) at joined)

    pub joins_not : {T' : Tally} → (q.outcome ≡ 1 → ⊥) → T' ≡ put s q T → BeganAt N b on s before T T' before
    joins_not dead is = begun_at false before (ne_eqb q.outcome 1 dead) is (λ t. joined_by_none (bit before.bits t) (eqb t s))

-- ---- the settings of a set, one after the other

-- before setting k: those below k are begun, and of them those that were ready are left
pub record BegunBelow (N b : ℕ) (on : Set) (k : ℕ) (T T' : Tally) (left : Set) : Type 0 where
  pub entered : (xs : List ℤ) → Upto k (bit on.bits) (λ t. enter b) (own xs T) (own xs T')
  pub left_is : Found k (bit on.bits) (λ t. ready b (own [] T t)) left.bits
  pub tallied : Tallied N T'

pub none_begun : {N b : ℕ} {on left : Set} {T : Tally} → left.bits ≡ 0 → Tallied N T → BegunBelow N b on 0 T T left
none_begun e h = record { entered = λ xs. upto_none; left_is = rw e found_none; tallied = h }

pub one_more : {N b k : ℕ} {on left left' : Set} {T T' T'' : Tally} → BegunBelow N b on k T T' left → BeganAt N b on k left T' T'' left'
    → BegunBelow N b on (k + 1) T T'' left'
one_more {b = b} {k} {on} {left} {T = T} {T'} i h = rw (add-one k)
    (record {
      entered = λ xs. upto_next (i.entered xs) (h.entered xs);
      left_is = found_next i.left_is λ t. h.left_is t ∙ ap (λ u. bit left.bits t || u)
          (seen (bit on.bits) (λ n. ready b (own [] T' n)) (λ n. ready b (own [] T n)) k (ap (ready b) (upto_here (i.entered []))) t);
      tallied = h.tallied;
    })

module _ (plan : Plan) (turn : Turn) (L L' : Lent) {left' : Set} (pre : BeginningFor plan turn L) (store_is : L'.store.now ≡ L.store.now)
    (i : BegunBelow plan.settings plan.budget turn.on plan.settings (tally_in L) (tally_in L') left') where
  abbrev N : ℕ
  N = plan.settings

  abbrev b : ℕ
  b = plan.budget

  abbrev S : Settings
  S = bit turn.on.bits

  -- the state of a setting as the turn finds it
  abbrev was : ℕ → State
  was = own L.store.now (tally_in L)

  -- those that are left, of the set and ready
  left_ready : (t : ℕ) → bit left'.bits t ≡ (S t && ready b (own [] (tally_in L) t))
  left_ready = found_all pre.below i.left_is

  left_are : bit left'.bits ≡ where_true (λ s. ready b) S (state_in L turn.visits)
  unfolding where_true as_shared own state_of ready
  left_are = fun_ext left_ready

  -- what each setting's beginning has come to, at the store as it is
  reached_at : (v : ℕ) → state_in L' v ≡ record { at = λ t. cond (S t) (enter b (was t)) (was t); visits = v }
  unfolding as_shared
  reached_at v = ap (λ ys. as_shared ys (tally_in L') v) store_is ∙ ap (λ at. record { at = at; visits = v }) (upto_all pre.below (i.entered L.store.now))

  any_left : any N (bit left'.bits) ≡ not (eqb (members left'.bits 64) 0)
  any_left = any_members N left'.bits plan.prepared.few λ s e. pre.below s (and_true (S s) (ready b (own [] (tally_in L) s)) (sym (left_ready s) ∙ e)).0

  -- each of them has a step to go
  pub to_go : (members left'.bits 64 ≡ 0 → ⊥) → 0 < turn.rem
  unfolding own state_of
  to_go some =
      let r : (s : ℕ) × (s < N) × (bit left'.bits s ≡ true) = any_true N (bit left'.bits) (any_left ∙ rw (ne_eqb (members left'.bits 64) 0 some) refl) in
      let both = and_true (S r.0) (ready b (own [] (tally_in L) r.0)) (sym (left_ready r.0) ∙ r.2) in
      omega (arith, pre.remaining r.0 both.0, ready_lt b (own [] (tally_in L) r.0) both.1)

  none_left : eqb (members left'.bits 64) 0 ≡ true → BegunFor plan turn L L' (record { on = left'; rem = turn.rem; visits = turn.visits })
  unfolding shared as_shared for left
  none_left e =
      let none : any N (bit left'.bits) ≡ false = any_left ∙ ap not e in
      record {
        reaches = reached_at turn.visits ∙ sym (begun_none N b _ S (state_in L turn.visits) (sym (ap (any N) left_are) ∙ none));
        left_is = left_are;
        rem_is = rw none refl;
        store_is = store_is;
        tallied = i.tallied;
      }

  some_left : eqb (members left'.bits 64) 0 ≡ false → BegunFor plan turn L L' (record { on = left'; rem = turn.rem - 1; visits = turn.visits + 1 })
  unfolding shared as_shared for left reached visited
  some_left e =
      let some : any N (bit left'.bits) ≡ true = any_left ∙ ap not e in
      let less : suc (turn.rem - 1) ≡ turn.rem = omega (arith, to_go (eqb-false _ 0 e)) in
      record {
        reaches = ap (state_in L') (add-one turn.visits) ∙ reached_at (suc turn.visits)
            ∙ sym (begun_some N b _ S (state_in L turn.visits) (sym (ap (any N) left_are) ∙ some));
        left_is = left_are;
        rem_is = rw some less;
        store_is = store_is;
        tallied = i.tallied;
      }

  pub all_begun : {r : Turn}
      → r ≡ cond (eqb (members left'.bits 64) 0) (record turn { on = left' }) (record { on = left'; rem = turn.rem - 1; visits = turn.visits + 1 })
      → BegunFor plan turn L L' r
  all_begun is = subst (BegunFor plan turn L L') (sym is) (go (eqb (members left'.bits 64) 0) refl)
    where
      go : (u : Bool) → eqb (members left'.bits 64) 0 ≡ u
          → BegunFor plan turn L L' (cond u (record turn { on = left' }) (record { on = left'; rem = turn.rem - 1; visits = turn.visits + 1 }))
      go true e = none_left e
      go false e = some_left e
