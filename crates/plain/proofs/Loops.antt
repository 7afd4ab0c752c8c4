-- A while, turn by turn: what is left to do after a test, which each turn leaves the same, and the steps, which each turn brings nearer to the budget.
use mathlib.Core.Path.{◌≡◌, refl, sym, ◌∙◌, ap}
use mathlib.Core.Bool.{Bool, true, false, ◌&&◌, cond}
use Prim.Native.Nat.{ℕ, suc, ◌+◌, ◌-◌, ◌≤◌, ◌<◌}
use native.Mathlib.Omega.{arith}
use lib.Dec.{eqb}
use lib.ListN.{length}
use borrow.Author.Tests.{eq-eqb}
use Rattle.imp.specs.Configure.{configure, configureᵇ}
use Rattle.imp.specs.Routine.{while}
use Rattle.imp.specs.State.{Numbers, State, branch}
use Rattle.imp.specs.Plain.{begun, run}
use Rattle.imp.specs.Shared.{truth_in}
use Rattle.imp.proofs.Theorem.Agreement.{truth_agrees}
use Rattle.imp.proofs.Theorem.Begin.{begun_yes, begun_no}
use Rattle.imp.proofs.Theorem.Keep.{grows}
use Rattle.imp.proofs.Theorem.WhilePlain.{while_again}
use Rattle.image.specs.Bytes.{Bytes}
use Rattle.image.specs.Tree.{read}
use Rattle.image.proofs.Theorem.Lower.{both}
use Rattle.plain.specs.declared.progress.Progress.{Progress}
use Rattle.plain.specs.Inner.Progress.{state_of, Proper}
use Rattle.plain.specs.Inner.Running.{Began, Ran, turning}
use Rattle.plain.proofs.Beginning.{ready_is, charged}
use Rattle.plain.proofs.Statements.{does}

-- the while of a test and a body
abbrev pub loops : ℕ → ℕ → Bytes → ℕ → ℕ → State → State
loops b s l test body = run b (while (configureᵇ s (read l test).boolean) (configure s (read l body).statement))

-- what is left once it is known whether it goes on
abbrev pub left : ℕ → ℕ → Bytes → ℕ → ℕ → Bool → State → State
left b s l test body going = branch going (λ σ. loops b s l test body (does b s l body σ)) (λ σ. σ)

-- it goes on where the setting is live and the test holds
abbrev pub goes_on : ℕ → Bytes → ℕ → Progress → Numbers → Bool
goes_on s l test q ns = eqb q.outcome 1 && truth_in s (read l test).boolean ns

-- a turn of the loop finds this, of where it started and where it is
pub record Turning (b s : ℕ) (l : Bytes) (test body : ℕ) (ns₀ : Numbers) (q₀ : Progress) (going₀ : Bool) (ns : Numbers) (q : Progress) (going : Bool) : Type 0 where
  pub same : left b s l test body going (state_of q ns) ≡ left b s l test body going₀ (state_of q₀ ns₀)
  pub proper : Proper q.outcome q.code
  pub sixteen : length ns ≡ 16
  pub within : going ≡ true → q.steps ≤ b

-- the turns that can be left
abbrev pub turns_left : ℕ → Bool → Progress → ℕ
turns_left b going q = cond going (b + 1 - q.steps) 0

module _ (b s : ℕ) (l : Bytes) (test body : ℕ) where
  -- begun and tested
  pub begun_tested : {p q : Progress} → Began b p q → (ns : Numbers)
      → loops b s l test body (state_of p ns) ≡ left b s l test body (goes_on s l test q ns) (state_of q ns)
  unfolding state_of
  begun_tested {p} {q} h ns = while_again b _ _ (state_of p ns) ∙ go (eqb q.outcome 1) refl
    where
      go : (u : Bool) → eqb q.outcome 1 ≡ u → begun b (turning b s l test body) (state_of p ns) ≡ left b s l test body (goes_on s l test q ns) (state_of q ns)
      go true e =
          begun_yes b (turning b s l test body) (state_of p ns) (ready_is h ns ∙ e)
          ∙ ap (turning b s l test body) (sym (h.entered ns))
          ∙ rw (e, truth_agrees s (read l test).boolean ns) refl
      go false e = begun_no b (turning b s l test body) (state_of p ns) (ready_is h ns ∙ e) ∙ sym (h.entered ns) ∙ rw e refl

  -- with one more step if it goes on
  charged_on : {p q : Progress} → Began b p q → (ns : Numbers) → goes_on s l test q ns ≡ true → (q.steps ≡ suc p.steps) × (q.steps ≤ b)
  charged_on {p} {q} h ns e = charged h ns (both (eqb q.outcome 1) (truth_in s (read l test).boolean ns) e).0

  module _ {ns₀ ns ns' : Numbers} {q₀ q r q' : Progress} {going₀ going going' : Bool} (on : going ≡ true) (i : Turning b s l test body ns₀ q₀ going₀ ns q going)
      (ran : Ran (does b s l body (state_of q ns)) r ns') (h : Began b r q') (e : going' ≡ goes_on s l test q' ns') where
    -- the loop goes on
    pub turned : Turning b s l test body ns₀ q₀ going₀ ns' q' going'
    turned =
        record {
          same =
              ap (λ g. left b s l test body g (state_of q' ns')) e ∙ sym (begun_tested h ns')
              ∙ ap (loops b s l test body) ran.reaches ∙ ap (λ g. left b s l test body g (state_of q ns)) (sym on) ∙ i.same;
          proper = h.proper;
          sixteen = ran.sixteen;
          within = λ more. (charged_on h ns' (sym e ∙ more)).1;
        }

    no_less : q.steps ≤ r.steps
    unfolding state_of
    no_less =
        let after : r.steps ≡ (does b s l body (state_of q ns)).steps = ap (λ σ. σ.steps) ran.reaches in
        omega (arith, grows b (configure s (read l body).statement) (state_of q ns), after)

    pub nearer : turns_left b going' q' < turns_left b going q
    nearer = rw on (go going' refl)
      where
        go : (u : Bool) → going' ≡ u → turns_left b going' q' < turns_left b true q
        go true more = rw more (omega (arith, charged_on h ns' (sym e ∙ more), no_less, i.within on))
        go false more = rw more (omega (arith, i.within on))

  -- live, it goes on if the test holds
  tested_live : (q : Progress) (ns : Numbers) → q.outcome ≡ 1
      → left b s l test body (goes_on s l test q ns) (state_of q ns) ≡ turning b s l test body (state_of q ns)
  unfolding state_of
  tested_live q ns live = rw (eq-eqb q.outcome 1 live, truth_agrees s (read l test).boolean ns) refl

  -- the loop ends
  pub ending : {ns₀ ns : Numbers} {q₀ q : Progress} {going₀ going : Bool} → q₀.outcome ≡ 1 → going₀ ≡ goes_on s l test q₀ ns₀
      → Turning b s l test body ns₀ q₀ going₀ ns q going → going ≡ false → Ran (turning b s l test body (state_of q₀ ns₀)) q ns
  ending {ns₀} {ns} {q₀} {q} live e i off =
      record {
        reaches =
            ap (λ g. left b s l test body g (state_of q ns)) (sym off) ∙ i.same
            ∙ ap (λ g. left b s l test body g (state_of q₀ ns₀)) e ∙ tested_live q₀ ns₀ live;
        proper = i.proper;
        sixteen = i.sixteen;
      }
