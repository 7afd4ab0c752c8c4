-- An image that holds no choice passes test 13 and is its own routine in every setting. The idea: so is whatever is read of nodes that are no choice.
use Rattle.std.specs.Prelude.{◌≡◌, Bool}
use Rattle.std.proofs.Math.Path.{refl, ap}
use Rattle.std.proofs.Common.{sym, ◌∙◌, true≢false, arith}
use Rattle.std.proofs.Math.Bool.{true, false}
use Prim.Native.Nat.{ℕ, zero, suc, ◌-◌, ◌≤◌, ◌<◌}
use Rattle.std.proofs.Math.Dec.{eqb}
use borrow.Author.Tests.{eqb-true, not-true, le-ltb}
use Rattle.imp.specs.State.{branch}
use Rattle.imp.specs.Condition.{Condition}
use Rattle.imp.specs.Routine.{Arithmetic, sum, pick, Boolean, notᵇ, andᵇ, less, Statement, skip, assign, sequence, if, while, throw, try}
use Rattle.imp.specs.Configure.{configureᵃ, configureᵇ, configure}
use Rattle.imp.specs.Embed.{embedᵃ, embedᵇ, embed}
use Rattle.imp.proofs.Theorem.Configured.{configure_embed}
use Rattle.image.specs.declared.records.Node.{Node}
use Rattle.image.specs.Bytes.{Bytes}
use Rattle.image.specs.Records.{header, node}
use Rattle.image.specs.Layout.{kinds, layout, is_choice}
use Rattle.image.specs.Rows.{lowest}
use Rattle.image.specs.Tree.{kind_of, condition, Read, an_arithmetic, a_boolean, a_statement, reading, read_below, read, routine}
use Rattle.image.specs.Accepted.{Accepted}
use Rattle.image.proofs.Theorem.Lower.{fitted}
use Rattle.image.proofs.Theorem.Kinds.{kind_cases}
use Rattle.image.proofs.Theorem.Choosing.{choice_condition}
use Rattle.image.proofs.Theorem.Lowest.{lowest_none}
use Rattle.plain.specs.PlainRun.{choice_row}

-- no node is a choice
abbrev pub NoChoice : Bytes → Type 0
NoChoice l = (n : ℕ) → n < (header l).nodes → is_choice (node l n).kind ≡ false

-- row 13, "plain run of an image that holds a choice"
pub no_choice_row : (l : Bytes) → NoChoice l → (choice_row l).fails ≡ false
no_choice_row l none =
    let P : ℕ = (header l).nodes in
    let choice : ℕ → Bool = λ n. is_choice (node l n).kind in
    le-ltb (lowest P choice) P (omega (arith, lowest_none P choice none))

-- a choice names a condition, so an image with no condition holds none
pub no_condition : (l : Bytes) → Accepted l → (header l).conditions ≡ 0 → NoChoice l
no_condition l acc e n h = go (is_choice (node l n).kind) refl
  where
    go : (u : Bool) → is_choice (node l n).kind ≡ u → is_choice (node l n).kind ≡ false
    go true c = absurd (omega (arith, choice_condition l acc n h c))
    go false c = c

-- ---- what is read of a node that is no choice

module _ (s : ℕ) where
  -- configured for s, it is what it was
  record Own (r : Read) : Type 0 where
    arithmetic_own : embedᵃ (configureᵃ s r.arithmetic) ≡ r.arithmetic
    boolean_own : embedᵇ (configureᵇ s r.boolean) ≡ r.boolean
    statement_own : embed (configure s r.statement) ≡ r.statement

  own_arithmetic : {a : Arithmetic Condition} → embedᵃ (configureᵃ s a) ≡ a → Own (an_arithmetic a)
  unfolding embedᵃ embed configureᵃ configure
  own_arithmetic e = record { arithmetic_own = e; boolean_own = refl; statement_own = refl }

  own_boolean : {e : Boolean Condition} → embedᵇ (configureᵇ s e) ≡ e → Own (a_boolean e)
  unfolding embedᵃ embed configureᵃ configure
  own_boolean e = record { arithmetic_own = refl; boolean_own = e; statement_own = refl }

  own_statement : {t : Statement Condition} → embed (configure s t) ≡ t → Own (a_statement t)
  unfolding embedᵃ embed configureᵃ configure
  own_statement e = record { arithmetic_own = refl; boolean_own = refl; statement_own = e }

  -- a kind that is known and no choice, of parts that are their own
  module _ (of : ℕ → Condition) (at : ℕ → Read) (ν : Node) (own : (k : ℕ) → Own (at k)) where
    arithmetic_at : (k : ℕ) → embedᵃ (configureᵃ s (at k).arithmetic) ≡ (at k).arithmetic
    arithmetic_at k = (own k).arithmetic_own

    boolean_at : (k : ℕ) → embedᵇ (configureᵇ s (at k).boolean) ≡ (at k).boolean
    boolean_at k = (own k).boolean_own

    statement_at : (k : ℕ) → embed (configure s (at k).statement) ≡ (at k).statement
    statement_at k = (own k).statement_own

    reading_own : (k : ℕ) → is_choice k ≡ false → eqb (layout k) 0 ≡ false → Own (reading (kind_of k) of at ν)
    unfolding is_choice layout kinds kind_of reading embedᵃ embed configureᵃ configure
    reading_own = kind_cases (λ k. is_choice k ≡ false → eqb (layout k) 0 ≡ false → Own (reading (kind_of k) of at ν))
        (λ c z. own_arithmetic refl)
        (λ c z. own_arithmetic refl)
        (λ c z. own_arithmetic (λ i. sum (arithmetic_at ν.a i) (arithmetic_at ν.b i)))
        (λ c z. own_arithmetic (λ i. pick (boolean_at ν.a i) (arithmetic_at ν.b i) (arithmetic_at ν.c i)))
        (λ c z. absurd (true≢false c))
        (λ c z. own_boolean refl)
        (λ c z. own_boolean refl)
        (λ c z. own_boolean (λ i. notᵇ (boolean_at ν.a i)))
        (λ c z. own_boolean (λ i. andᵇ (boolean_at ν.a i) (boolean_at ν.b i)))
        (λ c z. own_boolean (λ i. less (arithmetic_at ν.a i) (arithmetic_at ν.b i)))
        (λ c z. absurd (true≢false c))
        (λ c z. own_statement refl)
        (λ c z. own_statement (λ i. assign ν.variable (arithmetic_at ν.a i)))
        (λ c z. own_statement (λ i. sequence (statement_at ν.a i) (statement_at ν.b i)))
        (λ c z. own_statement (λ i. if (boolean_at ν.a i) (statement_at ν.b i) (statement_at ν.c i)))
        (λ c z. own_statement (λ i. while (boolean_at ν.a i) (statement_at ν.b i)))
        (λ c z. own_statement (λ i. throw (arithmetic_at ν.a i)))
        (λ c z. own_statement (λ i. try (statement_at ν.a i) ν.variable (statement_at ν.b i)))
        (λ c z. absurd (true≢false c))
        (λ k e c z. absurd (true≢false (rw e at z)))

  -- ---- every node

  module _ (l : Bytes) (acc : Accepted l) (none : NoChoice l) where
    known : (n : ℕ) → n < (header l).nodes → eqb (layout (node l n).kind) 0 ≡ false
    unfolding layout kinds
    known n h = go (eqb (node l n).kind 0) refl
      where
        go : (u : Bool) → eqb (node l n).kind 0 ≡ u → eqb (layout (node l n).kind) 0 ≡ false
        go true e = ap (λ k. eqb (layout k) 0) (eqb-true (node l n).kind 0 e)
        go false e = not-true _ (fitted (header l).conditions n (node l n) (acc.nodes_fit n h) e).known

    node_own : (n : ℕ) → n < (header l).nodes → ((k : ℕ) → Own (read_below l n k))
        → Own (reading (kind_of (node l n).kind) (condition l) (read_below l n) (node l n))
    node_own n h own = reading_own (condition l) (read_below l n) (node l n) own (node l n).kind (none n h) (known n h)

    below_own : (n : ℕ) → n ≤ (header l).nodes → (k : ℕ) → Own (read_below l n k)
    unfolding read_below embed configure
    below_own zero h k = own_statement refl
    below_own (suc n) h k = go (eqb k n) (below_own n (omega arith))
      where
        go : (u : Bool) → ((k : ℕ) → Own (read_below l n k))
            → Own (branch u (λ _. reading (kind_of (node l n).kind) (condition l) (read_below l n) (node l n)) (λ _. read_below l n k) (a_statement skip))
        go true ih = node_own n h ih
        go false ih = ih k

-- the tree of an image that holds no choice is what it is configured to, for any setting
pub own_routine : (l : Bytes) → Accepted l → NoChoice l → (s : ℕ) → embed (configure s (routine l)) ≡ routine l
unfolding routine read
own_routine l acc none s =
    let last : ℕ = (header l).nodes - 1 in
    (node_own s l acc none last (omega (arith, acc.some_node)) (below_own s l acc none last (omega arith))).statement_own

-- so it is the same routine in every setting, as `meant` has it
pub same_routine : (l : Bytes) → Accepted l → NoChoice l → (s : ℕ) → configure s (routine l) ≡ configure 0 (routine l)
same_routine l acc none s = ap (configure s) (sym (own_routine l acc none 0)) ∙ configure_embed s (configure 0 (routine l))
