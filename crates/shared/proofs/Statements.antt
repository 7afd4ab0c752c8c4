-- A statement at its node: its children, and what it does once it is begun, kind by kind.
use mathlib.Core.Path.{◌≡◌, refl, sym, ◌∙◌, ap}
use Prim.Native.Nat.{ℕ, ◌<◌}
use mathlib.Core.Bool.{Bool, true, false, not, ◌&&◌, ◌||◌, cond}
use native.Mathlib.Omega.{arith}
use lib.Dec.{eqb}
use borrow.Author.Tests.{eq-eqb, ne_eqb, eqb-true}
use Rattle.imp.specs.Condition.{Condition}
use Rattle.imp.specs.Routine.{Statement}
use Rattle.imp.specs.State.{State, store, thrown, taken}
use Rattle.imp.specs.Shared.{Settings, Shared, for, begun, shared}
use Rattle.imp.proofs.Theorem.WhileShared.{while_again}
use Rattle.image.specs.declared.kinds.Kind.{Kind}
use Rattle.image.specs.declared.kinds.Kind.TheVariants as kind
use Rattle.image.specs.declared.records.Node.{Node}
use Rattle.image.specs.Bytes.{Bytes}
use Rattle.image.specs.Kinds.{kind_number}
use Rattle.image.specs.Records.{header, node}
use Rattle.image.specs.Layout.{kinds, layout, class_digit, variable_digit, a_digit, b_digit, c_digit, names_node, is_choice}
use Rattle.image.specs.Rows.{node_fits, class, classed}
use Rattle.image.specs.Tree.{read}
use Rattle.image.specs.Accepted.{Accepted}
use Rattle.image.proofs.Theorem.Choosing.{choice_condition}
use Rattle.image.proofs.Theorem.Kinds.{kind_cases}
use Rattle.image.proofs.Theorem.Held.{Child, child_a, child_b, child_c, variable_below}
use Rattle.image.proofs.Theorem.Reading.{skip_at, assign_at, sequence_at, if_at, while_at, throw_at, try_at, choice_at}
use Rattle.shared.specs.declared.plan.Plan.{Plan}
use Rattle.shared.specs.Inner.Handed.{image_in}
use Rattle.shared.specs.Inner.Prepared.{OfClass}
use Rattle.shared.specs.Inner.Acting.{acting}
use Rattle.shared.specs.Inner.Sharing.{Chooses, Follows, Decides, Repeats, Attempts, sharing, choosing, following, deciding, turning, trying}

-- an accepted image's node, as it was read
pub record At (plan : Plan) (n : ℕ) (ν : Node) : Type 0 where
  pub accepted : Accepted (image_in plan)
  pub node_below : n < (header (image_in plan)).nodes
  pub is_node : ν ≡ node (image_in plan) n

module _ {plan : Plan} {n : ℕ} {ν : Node} (p : At plan n ν) where
  abbrev fits : node_fits (header (image_in plan)).conditions n (node (image_in plan) n) ≡ true
  fits = p.accepted.nodes_fit n p.node_below

  abbrev in_order : classed (image_in plan) n ≡ true
  in_order = p.accepted.nodes_classed n p.node_below

  is_kind : {k : ℕ} → ν.kind ≡ k → (node (image_in plan) n).kind ≡ k
  is_kind e = sym (ap (λ ν. ν.kind) p.is_node) ∙ e

  -- a statement has a kind
  pub known : class (image_in plan) n ≡ 3 → layout ν.kind ≡ 0 → ⊥
  unfolding class
  known is_statement none =
      let three : class_digit (layout ν.kind) ≡ 3 = rw p.is_node is_statement in
      omega (arith, three, ap class_digit none)

  -- ---- children

  in_a : (k : ℕ) → ν.kind ≡ k → names_node (a_digit (layout k)) ≡ true → Child (image_in plan) n (a_digit (layout k)) (node (image_in plan) n).a
  in_a k e = child_a (image_in plan) (header (image_in plan)).conditions n fits in_order k (is_kind e)

  in_b : (k : ℕ) → ν.kind ≡ k → names_node (b_digit (layout k)) ≡ true → Child (image_in plan) n (b_digit (layout k)) (node (image_in plan) n).b
  in_b k e = child_b (image_in plan) (header (image_in plan)).conditions n fits in_order k (is_kind e)

  in_c : (k : ℕ) → ν.kind ≡ k → names_node (c_digit (layout k)) ≡ true → Child (image_in plan) n (c_digit (layout k)) (node (image_in plan) n).c
  in_c k e = child_c (image_in plan) (header (image_in plan)).conditions n fits in_order k (is_kind e)

  -- a child is of its class, and lower
  abbrev pub Below : ℕ → ℕ → Type 0
  Below x slot = (x < n) × OfClass (image_in plan) x slot

  below : {x slot : ℕ} → Child (image_in plan) n slot x → Below x slot
  below h = (h.is_lower, record { node_below = omega (arith, h.is_lower, p.node_below); is_class = h.is_class })

  pub below_a : (k : ℕ) → ν.kind ≡ k → names_node (a_digit (layout k)) ≡ true → Below ν.a (a_digit (layout k))
  below_a k e names = rw p.is_node (below (in_a k e names))

  pub below_b : (k : ℕ) → ν.kind ≡ k → names_node (b_digit (layout k)) ≡ true → Below ν.b (b_digit (layout k))
  below_b k e names = rw p.is_node (below (in_b k e names))

  pub below_c : (k : ℕ) → ν.kind ≡ k → names_node (c_digit (layout k)) ≡ true → Below ν.c (c_digit (layout k))
  below_c k e names = rw p.is_node (below (in_c k e names))

  stored_below : (k : ℕ) → ν.kind ≡ k → eqb k 0 ≡ false → variable_digit (layout k) ≡ 1 → ν.variable < 16
  stored_below k e other digit = rw p.is_node (variable_below (image_in plan) (header (image_in plan)).conditions n fits in_order k (is_kind e) other digit)

  pub chooses : ν.kind ≡ 23 → Chooses plan ν
  unfolding layout kinds names_node is_choice
  chooses e = record {
    condition_below = rw p.is_node (choice_condition (image_in plan) p.accepted n p.node_below (rw (is_kind e) refl));
    yes = (below_b 23 e refl).1;
    no = (below_c 23 e refl).1;
  }

  pub follows : ν.kind ≡ 18 → Follows plan ν
  unfolding layout kinds names_node
  follows e = record { first = (below_a 18 e refl).1; second = (below_b 18 e refl).1 }

  pub decides : ν.kind ≡ 19 → Decides plan ν
  unfolding layout kinds names_node
  decides e = record { is_if = e; test = (below_a 19 e refl).1; yes = (below_b 19 e refl).1; no = (below_c 19 e refl).1 }

  pub repeats : ν.kind ≡ 20 → Repeats plan ν
  unfolding layout kinds names_node
  repeats e = record { is_while = e; test = (below_a 20 e refl).1; body = (below_b 20 e refl).1 }

  pub attempts : ν.kind ≡ 22 → Attempts plan ν
  unfolding layout kinds names_node
  attempts e = record { is_try = e; body = (below_a 22 e refl).1; handler = (below_b 22 e refl).1; variable_below = stored_below 22 e refl refl }

  -- ---- what it does

  -- the run of the tree that is read
  read_as : {t : Statement Condition} → (read (image_in plan) n).statement ≡ t → (S : Settings) (Σ : Shared) → sharing plan n S Σ ≡ shared plan.settings plan.budget t S Σ
  read_as e S Σ = ap (λ t. shared plan.settings plan.budget t S Σ) e

  pub choice_shares : ν.kind ≡ 23 → (S : Settings) (Σ : Shared) → choosing plan ν S Σ ≡ sharing plan n S Σ
  unfolding shared layout kinds names_node
  choice_shares e S Σ = rw p.is_node (sym (read_as (choice_at (image_in plan) n (is_kind e) (in_b 23 e refl).is_lower (in_c 23 e refl).is_lower) S Σ))

  pub skip_begins : ν.kind ≡ 16 → (S : Settings) (Σ : Shared) → sharing plan n S Σ ≡ begun plan.settings plan.budget (λ L Σ. Σ) S Σ
  unfolding shared
  skip_begins e S Σ = read_as (skip_at (image_in plan) n (is_kind e)) S Σ

  pub sequence_begins : ν.kind ≡ 18 → (S : Settings) (Σ : Shared) → sharing plan n S Σ ≡ begun plan.settings plan.budget (following plan ν) S Σ
  unfolding shared layout kinds names_node
  sequence_begins e S Σ = rw p.is_node (read_as (sequence_at (image_in plan) n (is_kind e) (in_a 18 e refl).is_lower (in_b 18 e refl).is_lower) S Σ)

  pub if_begins : ν.kind ≡ 19 → (S : Settings) (Σ : Shared) → sharing plan n S Σ ≡ begun plan.settings plan.budget (deciding plan ν) S Σ
  unfolding shared layout kinds names_node
  if_begins e S Σ = rw p.is_node (read_as (if_at (image_in plan) n (is_kind e) (in_a 19 e refl).is_lower (in_b 19 e refl).is_lower (in_c 19 e refl).is_lower) S Σ)

  pub while_begins : ν.kind ≡ 20 → (S : Settings) (Σ : Shared) → sharing plan n S Σ ≡ begun plan.settings plan.budget (turning plan ν) S Σ
  unfolding layout kinds names_node
  while_begins e S Σ = rw p.is_node
      (read_as (while_at (image_in plan) n (is_kind e) (in_a 20 e refl).is_lower (in_b 20 e refl).is_lower) S Σ ∙ while_again plan.settings plan.budget _ _ S Σ)

  pub try_begins : ν.kind ≡ 22 → (S : Settings) (Σ : Shared) → sharing plan n S Σ ≡ begun plan.settings plan.budget (trying plan ν) S Σ
  unfolding shared layout kinds names_node
  try_begins e S Σ = rw p.is_node (read_as (try_at (image_in plan) n (is_kind e) (in_a 22 e refl).is_lower (in_b 22 e refl).is_lower) S Σ)

  assign_begins : ν.kind ≡ 17 → (S : Settings) (Σ : Shared) → sharing plan n S Σ ≡ begun plan.settings plan.budget (λ L Σ. for L (acting (image_in plan) ν) Σ) S Σ
  unfolding shared layout kinds names_node acting
  assign_begins e S Σ = rw (e, p.is_node) (read_as (assign_at (image_in plan) n (is_kind e) (in_a 17 e refl).is_lower) S Σ)

  throw_begins : ν.kind ≡ 21 → (S : Settings) (Σ : Shared) → sharing plan n S Σ ≡ begun plan.settings plan.budget (λ L Σ. for L (acting (image_in plan) ν) Σ) S Σ
  unfolding shared layout kinds names_node acting
  throw_begins e S Σ = rw (e, p.is_node) (read_as (throw_at (image_in plan) n (is_kind e) (in_a 21 e refl).is_lower) S Σ)

-- no act counts a step
same_steps : (u w : Bool) (x y z : State) (k : ℕ) → x.steps ≡ k → y.steps ≡ k → z.steps ≡ k → (cond u x (cond w y z)).steps ≡ k
same_steps true w x y z k e f g = e
same_steps false true x y z k e f g = f
same_steps false false x y z k e f g = g

pub acting_counts_none : (l : Bytes) (ν : Node) (s : ℕ) (σ : State) → (acting l ν s σ).steps ≡ σ.steps
unfolding acting store thrown taken
acting_counts_none l ν s σ = same_steps (eqb ν.kind 17) (eqb ν.kind 21) _ _ _ σ.steps refl refl refl

-- ---- a statement that runs no other: an assignment or a throw

-- of the statements' kinds only these two are none of the others
abbrev alone : ℕ → Bool
alone k =
    cond (eqb (class_digit (layout k)) 3 && not (eqb k 16) && not (eqb k 18) && not (eqb k 19) && not (eqb k 20) && not (eqb k 22) && not (eqb k 23)) (eqb k 17 || eqb k 21) true

all_alone : (k : ℕ) → alone k ≡ true
unfolding layout kinds
all_alone = kind_cases (λ k. alone k ≡ true) refl refl refl refl refl refl refl refl refl refl refl refl refl refl refl refl refl refl refl (λ k z. rw z)

-- none of the other kinds
pub record Alone (k : ℕ) : Type 0 where
  pub no_skip : k ≡ 16 → ⊥
  pub no_sequence : k ≡ 18 → ⊥
  pub no_if : k ≡ 19 → ⊥
  pub no_while : k ≡ 20 → ⊥
  pub no_try : k ≡ 22 → ⊥
  pub no_choice : k ≡ 23 → ⊥

pub alone_as : {k : Kind} {n : ℕ} → kind_number k ≡ n
    → (k ≡ kind.Skip → ⊥) → (k ≡ kind.Sequence → ⊥) → (k ≡ kind.If → ⊥) → (k ≡ kind.While → ⊥) → (k ≡ kind.Try → ⊥) → (k ≡ kind.Choice → ⊥) → Alone n
alone_as is n16 n18 n19 n20 n22 n23 = record {
  no_skip = λ e. grind arith;
  no_sequence = λ e. grind arith;
  no_if = λ e. grind arith;
  no_while = λ e. grind arith;
  no_try = λ e. grind arith;
  no_choice = λ e. grind arith;
}

module _ {plan : Plan} {n : ℕ} {ν : Node} (p : At plan n ν) (is_statement : class (image_in plan) n ≡ 3) (other : Alone ν.kind) where
  which : (eqb ν.kind 17 || eqb ν.kind 21) ≡ true
  unfolding class
  which =
      let k = ν.kind in
      let three : eqb (class_digit (layout k)) 3 ≡ true = eq-eqb (class_digit (layout ν.kind)) 3 (rw p.is_node is_statement) in
      rw (
        three,
        ne_eqb k 16 other.no_skip,
        ne_eqb k 18 other.no_sequence,
        ne_eqb k 19 other.no_if,
        ne_eqb k 20 other.no_while,
        ne_eqb k 22 other.no_try,
        ne_eqb k 23 other.no_choice,
      ) at (all_alone k)

  -- what holds of an assignment and of a throw holds of it
  either : (Q : Type 0) → (ν.kind ≡ 17 → Q) → (ν.kind ≡ 21 → Q) → Q
  either Q assigns throws = go (eqb ν.kind 17) refl
    where
      go : (u : Bool) → eqb ν.kind 17 ≡ u → Q
      go true e = assigns (eqb-true ν.kind 17 e)
      go false e = throws (eqb-true ν.kind 21 (rw e at which))

  pub expression : OfClass (image_in plan) ν.a 1
  unfolding layout kinds names_node
  expression = either (OfClass (image_in plan) ν.a 1) (λ e. (below_a p 17 e refl).1) (λ e. (below_a p 21 e refl).1)

  pub variable_there : (ν.kind ≡ 21 → ⊥) → ν.variable < 16
  unfolding layout kinds
  variable_there assigns = either (ν.variable < 16) (λ e. stored_below p 17 e refl refl) (λ e. absurd (assigns e))

  pub act_begins : (S : Settings) (Σ : Shared) → sharing plan n S Σ ≡ begun plan.settings plan.budget (λ L Σ. for L (acting (image_in plan) ν) Σ) S Σ
  act_begins S Σ = either _ (λ e. assign_begins p e S Σ) (λ e. throw_begins p e S Σ)
