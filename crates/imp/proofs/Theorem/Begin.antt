-- Laws of beginning a statement in one setting: live with budget left it begins, live with none it is out, and anything else passes by.
use Rattle.std.specs.Prelude.{◌≡◌, ℕ, suc, ◌<◌, ◌≤◌, Bool, true, false, cond, not, ◌&&◌, nat_lt, refl}
use Rattle.std.proofs.Common.{ltb-true, lt-ltb, le-ltb}
use Rattle.imp.specs.State.{Numbers, Outcome, idle, done, fault, out, State, live, ready, spent, enter, state}
use Rattle.imp.specs.Plain.{begun}
use Rattle.imp.proofs.Theorem.Sets.{and_true}

pub begun_yes : (b : ℕ) (f : State → State) (σ : State) → ready b σ ≡ true → begun b f σ ≡ f (enter b σ)
unfolding begun
begun_yes b f σ e = rw (e, begun)

pub begun_no : (b : ℕ) (f : State → State) (σ : State) → ready b σ ≡ false → begun b f σ ≡ enter b σ
unfolding begun
begun_no b f σ e = rw (e, begun)

-- a state that is ready has budget left, and has one step more once it has begun
pub ready_lt : (b : ℕ) (σ : State) → ready b σ ≡ true → σ.steps < b
unfolding ready
ready_lt b σ e = ltb-true σ.steps b (and_true (live σ.outcome) (nat_lt σ.steps b) e).1

pub enter_steps : (b : ℕ) (σ : State) → ready b σ ≡ true → (enter b σ).steps ≡ suc σ.steps
unfolding enter
enter_steps b σ e = rw e

-- live with budget left: begun, with one step more
pub begins : (b : ℕ) (f : State → State) (S : Numbers) (k : ℕ) → k < b → begun b f (state S done k) ≡ f (state S done (suc k))
unfolding begun ready spent enter live
begins b f S k h = rw (lt-ltb k b h)

-- live with its budget spent: out, with its numbers as they stand
pub runs_out : (b : ℕ) (f : State → State) (S : Numbers) (k : ℕ) → b ≤ k → begun b f (state S done k) ≡ state S out k
unfolding begun ready spent enter live
runs_out b f S k h = rw (le-ltb k b h)

-- whatever is not live passes
pub begun_dead : (b : ℕ) (f : State → State) (S : Numbers) (E : Outcome) (k : ℕ) → live E ≡ false → begun b f (state S E k) ≡ state S E k
unfolding begun ready spent enter
begun_dead b f S E k e = rw e

-- after a beginning just those are live that were ready
pub live_entered : (b : ℕ) (σ : State) → live (enter b σ).outcome ≡ ready b σ
unfolding enter spent ready live
live_entered b σ = go σ.outcome (nat_lt σ.steps b)
  where
    go : (E : Outcome) (t : Bool) → live (cond (live E && not t) out E) ≡ live E && t
    go idle t = refl
    go done true = refl
    go done false = refl
    go (fault n) t = refl
    go out t = refl

-- what is not live is not changed by reaching a statement
pub enter_dead : (b : ℕ) (σ : State) → live σ.outcome ≡ false → enter b σ ≡ σ
unfolding enter spent ready
enter_dead b σ e = rw e
