-- A statement at its node: what it does, kind by kind, in terms of what its children do.
use mathlib.Core.Path.{◌≡◌, refl, sym, ◌∙◌, ap}
use mathlib.Core.Bool.{Bool, true, false, cond}
use mathlib.Core.List.{List}
use Prim.Native.Nat.{ℕ, ◌*◌, ◌<◌}
use native.Mathlib.Omega.{arith}
use lib.Dec.{eqb}
use lib.IntN.{ℤ, pos}
use lib.ListN.{length, length-set, get_or, set}
use borrow.Author.Tests.{eq-eqb, ne_eqb}
use Rattle.sets.specs.Member.{bit}
use Rattle.imp.specs.Condition.{Condition, holds}
use Rattle.imp.specs.Configure.{configure, configureᵇ}
use Rattle.imp.specs.Routine.{Statement}
use Rattle.imp.specs.State.{Numbers, State, done, branch, store, thrown, taken}
use Rattle.imp.specs.Plain.{truth, handled, run}
use Rattle.imp.specs.Shared.{value_in, truth_in}
use Rattle.imp.proofs.Theorem.Agreement.{value_agrees, truth_agrees}
use Rattle.imp.proofs.Theorem.WhilePlain.{while_again}
use Rattle.image.specs.declared.records.Node.{Node}
use Rattle.image.specs.Bytes.{Bytes}
use Rattle.image.specs.Records.{header, node}
use Rattle.image.specs.Layout.{kinds, layout, variable_digit, names_node, is_choice}
use Rattle.image.specs.Tree.{condition, read}
use Rattle.image.proofs.Theorem.Held.{variable_below}
use Rattle.image.proofs.Theorem.Reading.{skip_at, assign_at, sequence_at, if_at, while_at, throw_at, try_at, choice_at}
use Rattle.image.specs.declared.kinds.Kind.{Kind}
use Rattle.image.specs.declared.kinds.Kind.TheVariants.{Skip, Assign, Sequence, If, While, Throw, Choice}
use Rattle.image.specs.Kinds.{kind_number}
use Rattle.plain.specs.declared.progress.Progress.{Progress}
use Rattle.plain.specs.Inner.Evaluating.{Evaluating}
use Rattle.plain.specs.Inner.Progress.{outcome_from, state_of, Proper}
use Rattle.plain.specs.Inner.Running.{Running, Began, Ran, turning}
use Rattle.plain.proofs.Beginning.{acts, fault_is, proper_done}
use Rattle.plain.proofs.Evaluation.{At, of_side, is_kind, in_a, in_b, in_c, chosen}

-- what node n does in setting s
abbrev pub does : ℕ → ℕ → Bytes → ℕ → State → State
does b s l n = run b (configure s (read l n).statement)

-- the same run, its state said otherwise
pub arrives : {σ σ' : State} {r : Progress} {ns : Numbers} → σ ≡ σ' → Ran σ r ns → Ran σ' r ns
arrives e h = record { reaches = h.reaches ∙ e; proper = h.proper; sixteen = h.sixteen }

-- the run of the side that is taken
of_branch : (f : ℕ → State → State) (u : Bool) (x y : ℕ) (σ : State) → f (cond u x y) σ ≡ branch u (f x) (f y) σ
of_branch f true x y σ = refl
of_branch f false x y σ = refl

-- what follows a try's body: nothing unless that ended in fault
passes_by : (v : ℕ) (f : State → State) (p : Progress) (ns : Numbers) → (p.outcome ≡ 2 → ⊥) → state_of p ns ≡ handled v f (state_of p ns)
unfolding handled state_of
passes_by v f p ns dead = rw (fault_is p.outcome p.code ∙ ne_eqb p.outcome 2 dead) refl

caught : (v : ℕ) (f : State → State) (p : Progress) (ns : Numbers) → p.outcome ≡ 2 → f (taken v (state_of p ns)) ≡ handled v f (state_of p ns)
unfolding handled state_of
caught v f p ns e = rw (fault_is p.outcome p.code ∙ eq-eqb p.outcome 2 e) refl

pub handled_none : {σ : State} {r : Progress} {ns : Numbers} (v : ℕ) (f : State → State) → Ran σ r ns → (r.outcome ≡ 2 → ⊥) → Ran (handled v f σ) r ns
handled_none {r = r} {ns = ns} v f h other =
    record { reaches = passes_by v f r ns other ∙ ap (handled v f) h.reaches; proper = h.proper; sixteen = h.sixteen }

pub handled_by : {σ : State} {r q : Progress} {ns ns' : Numbers} (v : ℕ) (f : State → State) → Ran σ r ns → r.outcome ≡ 2 → Ran (taken v (state_of r ns)) q ns'
    → f (state_of q ns') ≡ handled v f σ
handled_by {r = r} {ns = ns} v f h two was-taken = ap f was-taken.reaches ∙ caught v f r ns two ∙ ap (handled v f) h.reaches

-- a fault is taken: its code goes into the variable
pub takes : (v : ℕ) (p : Progress) (ns : Numbers) {x : ℤ} → Proper p.outcome p.code → length ns ≡ 16 → x ≡ p.code
    → Ran (taken v (state_of p ns)) (record { outcome = 1; code = pos 0; steps = p.steps }) (set ns v x)
unfolding state_of taken outcome_from
takes v p ns {x} h sixteen e = record {
  reaches = ap (λ z. record { numbers = set ns v z; outcome = done; steps = p.steps }) (e ∙ sym h.code_is);
  proper = proper_done;
  sixteen = length-set ns v x ∙ sixteen;
}

-- the node is evaluated on other numbers
pub on : {l : Bytes} {n κ : ℕ} {ns ns' : List ℤ} → length ns' ≡ 16 → Evaluating l n κ ns → Evaluating l n κ ns'
on e h = record { node_below = h.node_below; is_class = h.is_class; sixteen = e }

-- a statement of none of the other kinds is a try
pub left_statement : {n : ℕ} {k : Kind} → (15 < n) × (n < 24) → kind_number k ≡ n
    → (k ≡ Skip → ⊥) → (k ≡ Assign → ⊥) → (k ≡ Sequence → ⊥) → (k ≡ If → ⊥) → (k ≡ While → ⊥) → (k ≡ Throw → ⊥) → (k ≡ Choice → ⊥) → n ≡ 22
left_statement range is_k n16 n17 n18 n19 n20 n21 n23 = grind arith

-- a number is stored, in numbers
pub stores : {x z : ℤ} (v : ℕ) (q : Progress) (ns : Numbers) → x ≡ z → state_of q (set ns v x) ≡ store v z (state_of q ns)
unfolding state_of store
stores v q ns e = rw e refl

-- the run of a child
pub child_run : {l : Bytes} {n x t : ℕ} {ns ns' : List ℤ} {q : Progress} → 2 * n ≡ t → (x < n) × Evaluating l x 3 ns
    → length ns' ≡ 16 → Proper q.outcome q.code → (2 * x < t) × Running l x q ns'
child_run e child sixteen proper = (omega (arith, child.0), record { evaluating = on sixteen child.1; proper = proper })

-- a fault is thrown, in numbers
pub throws : {x z : ℤ} (q : Progress) (ns : Numbers) → x ≡ z → state_of (record { outcome = 2; code = x; steps = q.steps }) ns ≡ thrown z (state_of q ns)
unfolding state_of thrown outcome_from
throws q ns e = rw e refl

module _ {l : Bytes} {C : ℕ} {S : List ℕ} {s n : ℕ} {ns : List ℤ} {ν : Node} (p : At l C S s n 3 ns ν n) where
  -- the variable that is stored in is there
  pub stored_below : (k : ℕ) → ν.kind ≡ k → eqb k 0 ≡ false → variable_digit (layout k) ≡ 1 → ν.variable < 16
  stored_below k e other digit =
      let accepted = p.ready.accepted in
      let below = p.evaluating.node_below in
      rw p.is_node
      (variable_below l (header l).conditions n (accepted.nodes_fit n below) (accepted.nodes_classed n below) k (is_kind p e) other digit)

module _ {l : Bytes} {C : ℕ} {S : List ℕ} {s n : ℕ} {ns : List ℤ} {ν : Node} (p : At l C S s n 3 ns ν n) (b : ℕ) where
  -- the run of the tree that is read
  read_as : {t : Statement Condition} → (read l n).statement ≡ t → (σ : State) → does b s l n σ ≡ run b (configure s t) σ
  read_as e σ = ap (λ t. run b (configure s t) σ) e

  pub choice_does : {x : ℕ} → ν.kind ≡ 23 → x ≡ cond (bit (get_or S ν.a 0) s) ν.b ν.c → (σ : State) → does b s l x σ ≡ does b s l n σ
  unfolding configure layout kinds names_node is_choice
  choice_does e side σ = rw (side, p.is_node, chosen p 23 e refl)
      (of_side (λ x. does b s l x σ) (holds (condition l (node l n).a) s) _ _
      ∙ sym (of_side (λ t. run b t σ) (holds (condition l (node l n).a) s) _ _)
      ∙ sym (read_as (choice_at l n (is_kind p e) (in_b p 23 e refl).is_lower (in_c p 23 e refl).is_lower) σ))

  module _ {from q : Progress} (h : Began b from q) (o : q.outcome ≡ 1) where
    pub skip_does : ν.kind ≡ 16 → state_of q ns ≡ does b s l n (state_of from ns)
    unfolding configure run
    skip_does e = sym (read_as (skip_at l n (is_kind p e)) (state_of from ns) ∙ acts h ns o _)

    pub assign_does : ν.kind ≡ 17 → store ν.variable (value_in s (read l ν.a).arithmetic ns) (state_of q ns) ≡ does b s l n (state_of from ns)
    unfolding configure run state_of layout kinds names_node
    assign_does e = rw (p.is_node, value_agrees s (read l (node l n).a).arithmetic ns)
        (sym (read_as (assign_at l n (is_kind p e) (in_a p 17 e refl).is_lower) (state_of from ns) ∙ acts h ns o _))

    pub sequence_does : ν.kind ≡ 18 → does b s l ν.b (does b s l ν.a (state_of q ns)) ≡ does b s l n (state_of from ns)
    unfolding configure run layout kinds names_node
    sequence_does e = rw p.is_node
        (sym (read_as (sequence_at l n (is_kind p e) (in_a p 18 e refl).is_lower (in_b p 18 e refl).is_lower) (state_of from ns) ∙ acts h ns o _))

    pub if_does : {x : ℕ} → ν.kind ≡ 19 → x ≡ cond (truth_in s (read l ν.a).boolean ns) ν.b ν.c
        → does b s l x (state_of q ns) ≡ does b s l n (state_of from ns)
    unfolding configure run state_of layout kinds names_node
    if_does e side = rw (side, p.is_node, truth_agrees s (read l (node l n).a).boolean ns)
        (of_branch (does b s l) (truth (configureᵇ s (read l (node l n).a).boolean) ns) _ _ (state_of q ns)
        ∙ sym (read_as (if_at l n (is_kind p e) (in_a p 19 e refl).is_lower (in_b p 19 e refl).is_lower (in_c p 19 e refl).is_lower) (state_of from ns)
        ∙ acts h ns o _))

    pub throw_does : ν.kind ≡ 21 → thrown (value_in s (read l ν.a).arithmetic ns) (state_of q ns) ≡ does b s l n (state_of from ns)
    unfolding configure run state_of layout kinds names_node
    throw_does e = rw (p.is_node, value_agrees s (read l (node l n).a).arithmetic ns)
        (sym (read_as (throw_at l n (is_kind p e) (in_a p 21 e refl).is_lower) (state_of from ns) ∙ acts h ns o _))

    pub try_does : ν.kind ≡ 22 → handled ν.variable (does b s l ν.b) (does b s l ν.a (state_of q ns)) ≡ does b s l n (state_of from ns)
    unfolding configure run layout kinds names_node
    try_does e = rw p.is_node
        (sym (read_as (try_at l n (is_kind p e) (in_a p 22 e refl).is_lower (in_b p 22 e refl).is_lower) (state_of from ns) ∙ acts h ns o _))

    pub while_does : ν.kind ≡ 20 → turning b s l ν.a ν.b (state_of q ns) ≡ does b s l n (state_of from ns)
    unfolding configure layout kinds names_node
    while_does e = rw p.is_node
        (sym (read_as (while_at l n (is_kind p e) (in_a p 20 e refl).is_lower (in_b p 20 e refl).is_lower) (state_of from ns)
        ∙ while_again b _ _ (state_of from ns) ∙ acts h ns o _))
