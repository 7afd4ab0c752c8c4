-- The plain run: chapter 4 of the thesis as a function, with the pick and the budget (document 01, "Plain run").
use Rattle.std.specs.Prelude.{ℕ, zero, suc, Bool, true, false, cond, not, ◌&&◌, ℤ, pos, ◌+ℤ◌, int_lt, slice_index_or}
use Rattle.imp.specs.Numbers.{wrap}
use Rattle.imp.specs.Routine.{Arithmetic, number, variable, sum, pick, choiceᵃ, Boolean, falseᵇ, trueᵇ, notᵇ, andᵇ, less, choiceᵇ, Statement, skip, assign, sequence, if, while, throw, try, choice}
use Rattle.imp.specs.State.{Numbers, State, branch, in_fault, store, thrown, taken, ready, enter, fresh}

-- ---- expressions, Figure 4.2

unfoldable mutual
  pub value : Arithmetic ⊥ → Numbers → ℤ
  value (number n) ns = n
  value (variable v) ns = slice_index_or ns v (pos 0)
  value (sum a b) ns = wrap (value a ns +ℤ value b ns)
  value (pick e a b) ns = cond (truth e ns) (value a ns) (value b ns)
  value (choiceᵃ c a b) ns = absurd c

  pub truth : Boolean ⊥ → Numbers → Bool
  truth falseᵇ ns = false
  truth trueᵇ ns = true
  truth (notᵇ e) ns = not (truth e ns)
  truth (andᵇ e f) ns = truth e ns && truth f ns
  truth (less a b) ns = int_lt (value a ns) (value b ns)
  truth (choiceᵇ c e f) ns = absurd c

-- ---- statements, Figure 4.3

-- a statement that does `act` once it is begun
unfoldable pub begun : ℕ → (State → State) → State → State
begun budget act σ = branch (ready budget σ) act (λ σ'. σ') (enter budget σ)

-- a while of at most n tests, "a while anew before each later test". `Theorem.WhilePlain`: with n above the budget the bound is never met
unfoldable pub turns : ℕ → ℕ → (State → Bool) → (State → State) → State → State
turns zero budget test body σ = σ
turns (suc n) budget test body σ = begun budget (λ σ'. branch (test σ') (λ σ''. turns n budget test body (body σ'')) (λ σ''. σ'') σ') σ

-- what follows a try's body: the handler if that ended in fault, "otherwise the handler is not run"
unfoldable pub handled : ℕ → (State → State) → State → State
handled v handler σ = branch (in_fault σ.outcome) (λ σ'. handler (taken v σ')) (λ σ'. σ') σ

unfoldable pub run : ℕ → Statement ⊥ → State → State
run budget skip = begun budget λ σ. σ
run budget (assign v a) = begun budget λ σ. store v (value a σ.numbers) σ
run budget (sequence x y) = begun budget λ σ. run budget y (run budget x σ)
run budget (if e x y) = begun budget λ σ. branch (truth e σ.numbers) (run budget x) (run budget y) σ
run budget (while e x) = turns (suc budget) budget (λ σ. truth e σ.numbers) (run budget x)
run budget (throw a) = begun budget λ σ. thrown (value a σ.numbers) σ
run budget (try x v y) = begun budget λ σ. handled v (run budget y) (run budget x σ)
run budget (choice c x y) = absurd c

-- the plain run of a routine from its numbers
unfoldable pub plain_run : ℕ → Statement ⊥ → Numbers → State
plain_run budget t ns = run budget t (fresh ns)
