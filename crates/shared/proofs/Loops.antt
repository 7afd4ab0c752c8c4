-- A while, turn by turn: what is left to do after a test, which each turn leaves the same, and the budget, of which each turn leaves one less.
use mathlib.Core.Path.{◌≡◌, refl, sym, ◌∙◌, ap, fun_ext}
use Prim.Native.Nat.{ℕ, suc, ◌≤◌, ◌<◌}
use mathlib.Core.Bool.{Bool, true, false, not, cond}
use native.Mathlib.Omega.{arith}
use native.Mathlib.Nat.{le_trans}
use lib.Dec.{eqb}
use Rattle.sets.specs.declared.Set.{Set}
use Rattle.sets.specs.Member.{bit, members}
use Rattle.imp.specs.Routine.{while, skip}
use Rattle.imp.specs.Shared.{Settings, any, Shared, where_true, shared, Below}
use Rattle.imp.proofs.Theorem.Sets.{and_true, any_false, any_true}
use Rattle.imp.proofs.Theorem.Live.{none_runs}
use Rattle.imp.proofs.Theorem.WhileShared.{left, while_again}
use Rattle.image.specs.declared.records.Node.{Node}
use Rattle.image.specs.Tree.{read}
use Rattle.shared.specs.declared.lent.Lent.{Lent}
use Rattle.shared.specs.declared.plan.Plan.{Plan}
use Rattle.shared.specs.declared.turn.Turn.{Turn}
use Rattle.shared.specs.Inner.Handed.{image_in, state_in}
use Rattle.shared.specs.Inner.Beginning.{BegunFor}
use Rattle.shared.specs.Inner.Sharing.{Sharing, Shares, sharing, tested, turning}
use Rattle.shared.proofs.Members.{any_members}
use Rattle.shared.proofs.Begun.{unbegun, does}
use Rattle.shared.proofs.Keeping.{for_fewer, after_run, begun_on, one_less, no_more}

-- the while of a test and a body
abbrev pub loops : Plan → Node → Settings → Shared → Shared
loops plan ν = shared plan.settings plan.budget (while (read (image_in plan) ν.a).boolean (read (image_in plan) ν.b).statement)

-- what is left for the settings in which the test was true: the body, and the while again
abbrev pub going : Plan → Node → Settings → Shared → Shared
going plan ν S Σ = loops plan ν S (sharing plan ν.b S Σ)

abbrev pub at : Lent → Turn → Shared
at L now = state_in L now.visits

-- a turn of the loop finds this, of where it started and where it is
pub record Turning (plan : Plan) (ν : Node) (L₀ : Lent) (now₀ : Turn) (L : Lent) (now : Turn) : Type 0 where
  pub same : going plan ν (bit now.on.bits) (at L now) ≡ going plan ν (bit now₀.on.bits) (at L₀ now₀)
  pub sharing_on : Sharing plan now L
  pub no_more_than : now.rem ≤ now₀.rem

-- the turns that can be left
abbrev pub turns_left : Turn → ℕ
turns_left now = cond (eqb (members now.on.bits 64) 0) 0 (suc now.rem)

-- a set below N that has none below N has none
empty : (N : ℕ) (S : Settings) → Below N S → any N S ≡ false → (s : ℕ) → S s ≡ false
empty N S below none s = go (S s) refl
  where
    go : (u : Bool) → S s ≡ u → S s ≡ false
    go true e = any_false N S none s (below s e)
    go false e = e

module _ (plan : Plan) (ν : Node) where
  abbrev N : ℕ
  N = plan.settings

  abbrev b : ℕ
  b = plan.budget

  goes_nowhere : (S : Settings) (Σ : Shared) → S ≡ (λ s. false) → going plan ν S Σ ≡ Σ
  goes_nowhere S Σ e = ap (λ S. going plan ν S Σ) e ∙ none_runs N b _ _ ∙ none_runs N b _ Σ

  -- the loop starts where the test is true
  pub from_start : (L : Lent) (turn : Turn) (first : Set) → bit first.bits ≡ where_true (tested plan ν) (bit turn.on.bits) (state_in L turn.visits)
      → going plan ν (bit first.bits) (state_in L turn.visits) ≡ turning plan ν (bit turn.on.bits) (state_in L turn.visits)
  from_start L turn first whose = ap (λ S. going plan ν S (state_in L turn.visits)) whose

  -- the loop ends
  pub ending : {L₀ L : Lent} {now₀ now : Turn} → Turning plan ν L₀ now₀ L now → eqb (members now.on.bits 64) 0 ≡ true
      → Shares N (going plan ν (bit now₀.on.bits) (at L₀ now₀)) now.visits L
  ending {L = L} {now = now} i off = record {
    reaches =
        let below = i.sharing_on.below in
        let none : any N (bit now.on.bits) ≡ false = any_members N now.on.bits plan.prepared.few below ∙ ap not off in
        sym (goes_nowhere _ (at L now) (fun_ext (empty N (bit now.on.bits) below none))) ∙ i.same;
    lent = i.sharing_on.lent;
  }

  -- the loop goes on: the body has run, the while was begun anew, and again are those in which the test is true
  module _ {L₀ L L' L'' : Lent} {now₀ now live : Turn} {visits : ℕ} (again : Set) (i : Turning plan ν L₀ now₀ L now)
      (ran : Shares N (sharing plan ν.b (bit now.on.bits) (at L now)) visits L')
      (begun_anew : BegunFor plan (record now { visits = visits }) L' L'' live)
      (whose : bit again.bits ≡ where_true (tested plan ν) (bit live.on.bits) (state_in L'' live.visits)) where
    abbrev next : Turn
    next = record { on = again; rem = live.rem; visits = live.visits }

    abbrev S : Settings
    S = bit now.on.bits

    abbrev Σ' : Shared
    Σ' = state_in L' visits

    abbrev Σ'' : Shared
    Σ'' = state_in L'' live.visits

    body_ran : Sharing plan (record now { visits = visits }) L'
    body_ran = after_run plan now L i.sharing_on (read (image_in plan) ν.b).statement S visits L' ran

    abbrev alive : Settings
    alive = bit live.on.bits

    live_on : Sharing plan live L''
    live_on = begun_on plan (record now { visits = visits }) L' body_ran begun_anew

    nobody_asked : ((s : ℕ) → alive s ≡ false) → where_true (tested plan ν) alive Σ'' ≡ (λ s. false)
    unfolding where_true
    nobody_asked none = fun_ext λ s. rw (none s) refl

    nobody_left : any N alive ≡ false → any N (left N b S Σ') ≡ false
    unfolding left
    nobody_left e = ap (any N) (sym begun_anew.left_is) ∙ e

    -- what is left of the while is the same as before
    once_more : going plan ν (bit again.bits) Σ'' ≡ loops plan ν S Σ'
    once_more = go (any N alive) refl
      where
        go : (u : Bool) → any N alive ≡ u → going plan ν (bit again.bits) Σ'' ≡ loops plan ν S Σ'
        go true e =
            ap (λ S. going plan ν S Σ'') whose
            ∙ does N b (turning plan ν) _ S alive Σ' Σ'' (λ S Σ. while_again N b _ _ S Σ) begun_anew.left_is begun_anew.reaches e
        go false e = goes_nowhere _ Σ'' (whose ∙ nobody_asked (empty N alive live_on.below e)) ∙ begun_anew.reaches
            ∙ unbegun N b skip S Σ' (nobody_left e) ∙ sym (unbegun N b _ S Σ' (nobody_left e))

    -- again are some of those who are left
    again_some : (s : ℕ) → bit again.bits s ≡ true → alive s ≡ true
    unfolding where_true
    again_some s e = (and_true (alive s) (tested plan ν s (Σ''.at s)) (sym (ap (λ f. f s) whose) ∙ e)).0

    pub turned : Turning plan ν L₀ now₀ L'' next
    turned = record {
      same = once_more ∙ ap (loops plan ν S) ran.reaches ∙ i.same;
      sharing_on = for_fewer plan live L'' live_on again again_some;
      no_more_than = le_trans (no_more plan (record now { visits = visits }) L' body_ran begun_anew) i.no_more_than;
    }

    -- where some are left, each of them has one less of its budget to go
    pub nearer : eqb (members now.on.bits 64) 0 ≡ false → turns_left next < turns_left now
    nearer on = rw on (go (eqb (members again.bits 64) 0) refl)
      where
        go : (u : Bool) → eqb (members again.bits 64) 0 ≡ u → turns_left next < suc now.rem
        go true e = rw e (omega arith)
        go false e =
            let some : any N (bit again.bits) ≡ true =
            any_members N again.bits plan.prepared.few (λ s p. live_on.below s (again_some s p)) ∙ ap not e in
            let r : (s : ℕ) × (s < N) × (bit again.bits s ≡ true) = any_true N (bit again.bits) some in
            rw e (omega (arith, one_less plan (record now { visits = visits }) L' body_ran begun_anew r.0 (again_some r.0 r.2)))
