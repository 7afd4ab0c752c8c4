-- Agreement (condition 3): at each setting of the set the shared run does what the plain run of the configured routine does, and at no other anything.
-- The idea: one induction on the tree, whose step for each way of putting runs together is a law of booleans.
use Rattle.std.specs.Prelude.{◌≡◌, ℕ, zero, suc, ◌<◌, Bool, true, false, cond, not, ◌&&◌}
use Rattle.std.proofs.Math.Path.{refl}
use Rattle.std.proofs.Common.{◌∙◌, true≢false}
use Rattle.imp.specs.Condition.{Condition, holds}
use Rattle.imp.specs.Routine.{Arithmetic, number, variable, sum, pick, choiceᵃ, Boolean, falseᵇ, trueᵇ, notᵇ, andᵇ, less, choiceᵇ, Statement, skip, assign, sequence, if, while, throw, try, choice}
use Rattle.imp.specs.Configure.{configure, configureᵃ, configureᵇ}
use Rattle.imp.specs.State.{branch, Numbers, idle, State, in_fault, taken, ready, enter, untouched}
use Rattle.imp.specs.Plain as Plain
use Rattle.imp.specs.Plain.{value, truth, run, plain_run}
use Rattle.imp.specs.Shared.{value_in, truth_in, Settings, any, Shared, for, visited, where_true, where_false, begun, turns, shared, start, shared_run}
use Rattle.imp.proofs.Theorem.Sets.{same_cond, any_false}

-- ---- expressions

-- a function of a choice is the choice of its values
into : {A B : Type 0} (f : A → B) (h : Bool) (a b : A) → cond h (f a) (f b) ≡ f (cond h a b)
into f true a b = refl
into f false a b = refl

mutual
  unfolding value_in value configureᵃ

  pub value_agrees : (s : ℕ) (a : Arithmetic Condition) (ns : Numbers) → value_in s a ns ≡ value (configureᵃ s a) ns
  value_agrees s (number n) ns = refl
  value_agrees s (variable v) ns = refl
  value_agrees s (sum a b) ns = rw (value_agrees s a ns, value_agrees s b ns)
  value_agrees s (pick e a b) ns = rw (truth_agrees s e ns, value_agrees s a ns, value_agrees s b ns)
  value_agrees s (choiceᵃ c a b) ns = rw (value_agrees s a ns, value_agrees s b ns) (into (λ x. value x ns) (holds c s) (configureᵃ s a) (configureᵃ s b))

  pub truth_agrees : (s : ℕ) (e : Boolean Condition) (ns : Numbers) → truth_in s e ns ≡ truth (configureᵇ s e) ns
  truth_agrees s falseᵇ ns = refl
  truth_agrees s trueᵇ ns = refl
  truth_agrees s (notᵇ e) ns = rw (truth_agrees s e ns)
  truth_agrees s (andᵇ e f) ns = rw (truth_agrees s e ns, truth_agrees s f ns)
  truth_agrees s (less a b) ns = rw (value_agrees s a ns, value_agrees s b ns)
  truth_agrees s (choiceᵇ c e f) ns = rw (truth_agrees s e ns, truth_agrees s f ns) (into (λ x. truth x ns) (holds c s) (configureᵇ s e) (configureᵇ s f))

-- ---- laws of booleans, one for each way of putting runs together

-- two in turn for one set
twice : {A : Type 0} (b : Bool) (g h : A → A) (x : A) → cond b (h (cond b (g x) x)) (cond b (g x) x) ≡ cond b (h (g x)) x
twice true g h x = refl
twice false g h x = refl

-- two for the parts of a set
parts : {A : Type 0} (b t : Bool) (g h : A → A) (x : A)
    → cond (b && not t) (h (cond (b && t) (g x) x)) (cond (b && t) (g x) x) ≡ cond b (branch t g h x) x
parts true true g h x = refl
parts true false g h x = refl
parts false t g h x = refl

-- one for a part of a set
among : {A : Type 0} (b t : Bool) (g : A → A) (x : A) → cond (b && t) (g x) x ≡ cond b (branch t g (λ y. y) x) x
among true true g x = refl
among true false g x = refl
among false t g x = refl

-- what a try does after its body has ended in y
catch : {A : Type 0} (u : Bool) (f g : A → A) (x : A) → cond u (g (cond u (f x) x)) (cond u (f x) x) ≡ branch u (λ y. g (f y)) (λ y. y) x
catch true f g x = refl
catch false f g x = refl

caught : (b : Bool) (v : ℕ) (g : State → State) (y x : State)
    → (let σ : State = cond b y x in
    let F : Bool = b && in_fault σ.outcome in
    cond F (g (cond F (taken v σ) σ)) (cond F (taken v σ) σ) ≡ cond b (Plain.handled v g y) x)
unfolding Plain.handled
caught true v g y x = catch (in_fault y.outcome) (taken v) g y
caught false v g y x = refl

-- a part that is reached, and begun only if r holds
reach : {A : Type 0} (b r : Bool) (g : A → A) (e x : A)
    → cond (b && r) (g (cond b e x)) (cond b e x) ≡ cond b (branch r g (λ y. y) e) x
reach true true g e x = refl
reach true false g e x = refl
reach false r g e x = refl

pass : {A : Type 0} (b r : Bool) (g : A → A) (e x : A) → b && r ≡ false
    → cond b e x ≡ cond b (branch r g (λ y. y) e) x
pass true true g e x h = absurd (true≢false h)
pass true false g e x h = refl
pass false r g e x h = refl

-- the part that configuring chooses
chosen : {A : Type 0} (b h : Bool) (run : A → State → State) (y z : A) (x : State)
    → cond b (branch h (run y) (run z) x) x ≡ cond b (run (cond h y z) x) x
chosen b true run y z x = refl
chosen b false run y z x = refl

-- ---- statements

-- at setting s, `f` does what `g` does if s is in the set, and nothing if it is not
pub record Agrees (s : ℕ) (f : Settings → Shared → Shared) (g : State → State) : Type 0 where
  pub agree : (S : Settings) (Σ : Shared) → (f S Σ).at s ≡ cond (S s) (g (Σ.at s)) (Σ.at s)

module _ (N budget s : ℕ) (h : s < N) where
  begun_agrees : {f : Settings → Shared → Shared} {g : State → State} → Agrees s f g → Agrees s (begun N budget f) (Plain.begun budget g)
  unfolding begun Plain.begun where_true for visited
  begun_agrees {f} {g} a = record { agree = λ S Σ. go S Σ (any N (where_true (λ s. ready budget) S Σ)) refl }
    where
      go : (S : Settings) (Σ : Shared) (b : Bool) → any N (where_true (λ s. ready budget) S Σ) ≡ b
          → (begun N budget f S Σ).at s ≡ cond (S s) (Plain.begun budget g (Σ.at s)) (Σ.at s)
      go S Σ true e = rw (e, begun) (a.agree _ _ ∙ reach (S s) (ready budget (Σ.at s)) g (enter budget (Σ.at s)) (Σ.at s))
      go S Σ false e = rw (e, begun) (pass (S s) (ready budget (Σ.at s)) g (enter budget (Σ.at s)) (Σ.at s) (any_false N _ e s h))

  for_agrees : (f : ℕ → State → State) (g : State → State) → ((σ : State) → f s σ ≡ g σ) → Agrees s (λ S Σ. for S f Σ) g
  unfolding for
  for_agrees f g e = record { agree = λ S Σ. rw (e (Σ.at s)) }

  module _ {f₁ f₂ : Settings → Shared → Shared} {g₁ g₂ : State → State} (a₁ : Agrees s f₁ g₁) (a₂ : Agrees s f₂ g₂) where
    seq_agrees : Agrees s (λ S Σ. f₂ S (f₁ S Σ)) (λ σ. g₂ (g₁ σ))
    seq_agrees = record { agree = λ S Σ. a₂.agree S (f₁ S Σ) ∙ rw (a₁.agree S Σ) (twice (S s) g₁ g₂ (Σ.at s)) }

    -- the parts of a set in which t holds, and in which it does not
    parts_agree : (t : ℕ → Bool) (S : Settings) (Σ : Shared)
        → (f₂ (λ s. S s && not (t s)) (f₁ (λ s. S s && t s) Σ)).at s ≡ cond (S s) (branch (t s) g₁ g₂ (Σ.at s)) (Σ.at s)
    parts_agree t S Σ = a₂.agree _ _ ∙ rw (a₁.agree (λ s. S s && t s) Σ) (parts (S s) (t s) g₁ g₂ (Σ.at s))

    try_agrees : (v : ℕ) → Agrees s
        (λ S Σ. let F : Settings = where_true (λ s σ. in_fault σ.outcome) S (f₁ S Σ) in f₂ F (for F (λ s. taken v) (f₁ S Σ)))
        (λ σ. Plain.handled v g₂ (g₁ σ))
    unfolding where_true for
    try_agrees v = record { agree = λ S Σ. a₂.agree _ _ ∙ rw (a₁.agree S Σ) (caught (S s) v g₂ (g₁ (Σ.at s)) (Σ.at s)) }

  turns_agrees : {f : Settings → Shared → Shared} {g : State → State} → Agrees s f g
      → (test : ℕ → State → Bool) (test' : State → Bool) → ((σ : State) → test s σ ≡ test' σ)
      → (n : ℕ) → Agrees s (turns n N budget test f) (Plain.turns n budget test' g)
  unfolding turns Plain.turns where_true
  turns_agrees a test test' e zero = record { agree = λ S Σ. same_cond (S s) (Σ.at s) }
  turns_agrees a test test' e (suc n) = begun_agrees (record {
    agree = λ S Σ.
        (seq_agrees a (turns_agrees a test test' e n)).agree (where_true test S Σ) Σ
        ∙ rw (e (Σ.at s)) (among (S s) (test' (Σ.at s)) _ (Σ.at s));
  })

  pub agrees : (t : Statement Condition) → Agrees s (shared N budget t) (run budget (configure s t))
  unfolding shared run configure where_true where_false
  agrees skip = begun_agrees (record { agree = λ S Σ. same_cond (S s) (Σ.at s) })
  agrees (assign v a) = begun_agrees (for_agrees _ _ λ σ. rw value_agrees)
  agrees (sequence x y) = begun_agrees (seq_agrees (agrees x) (agrees y))
  agrees (if e x y) = begun_agrees (record {
    agree = λ S Σ.
        rw (← truth_agrees s e _) (parts_agree (agrees x) (agrees y) (λ s. truth_in s e (Σ.at s).numbers) S Σ);
  })
  agrees (while e x) = turns_agrees (agrees x) _ _ (λ σ. truth_agrees s e σ.numbers) (suc budget)
  agrees (throw a) = begun_agrees (for_agrees _ _ λ σ. rw value_agrees)
  agrees (try x v y) = begun_agrees (try_agrees (agrees x) (agrees y) v)
  agrees (choice c x y) = record {
    agree = λ S Σ.
        parts_agree (agrees x) (agrees y) (holds c) S Σ ∙ chosen (S s) (holds c s) (run budget) (configure s x) (configure s y) (Σ.at s);
  }

-- ---- the theorem

module _ (N budget : ℕ) (t : Statement Condition) (S : Settings) (numbers : ℕ → Numbers) (s : ℕ) (h : s < N) where
  -- "For each setting in the set, the shared run leaves the same numbers, outcome, code and steps as the plain run of the routine configured for it"
  pub agreement : S s ≡ true → (shared_run N budget t S numbers).at s ≡ plain_run budget (configure s t) (numbers s)
  unfolding shared_run plain_run start
  agreement e = (agrees N budget s h t).agree S (start S numbers) ∙ rw e

  -- "outside the set nothing changes and the outcome is idle"
  pub outside : S s ≡ false → (shared_run N budget t S numbers).at s ≡ untouched (numbers s)
  unfolding shared_run start
  outside e = (agrees N budget s h t).agree S (start S numbers) ∙ rw e

  -- the same fact by fact: its numbers as given, idle, 0 steps
  pub outside_keeps : S s ≡ false
      → (let end : State = (shared_run N budget t S numbers).at s in
      (end.numbers ≡ numbers s) × (end.outcome ≡ idle) × (end.steps ≡ 0))
  unfolding untouched
  outside_keeps e = rw (outside e) (refl, refl, refl)
