-- What a statement does by itself in each setting it is run for: an assignment stores, a throw faults, a try takes the fault.
use Rattle.std.specs.Prelude.{◌≡◌, ℕ, ◌<◌, cond, List, eqb, ℤ, length}
use Rattle.sets.specs.declared.Set.{Set}
use Rattle.sets.specs.Member.{bit}
use Rattle.imp.specs.State.{State, store, thrown, taken}
use Rattle.imp.specs.Shared.{value_in, for, Below}
use Rattle.image.specs.declared.records.Node.{Node}
use Rattle.image.specs.Bytes.{Bytes}
use Rattle.image.specs.Sets.{settings}
use Rattle.image.specs.Tree.{read}
use Rattle.plain.specs.declared.progress.Progress.{Progress}
use Rattle.plain.specs.Inner.Evaluating.{Evaluating}
use Rattle.plain.specs.Inner.Progress.{Proper}
use Rattle.shared.specs.declared.lent.Lent.{Lent}
use Rattle.shared.specs.declared.plan.Plan.{Plan}
use Rattle.shared.specs.Inner.Lent.{Measured, own}
use Rattle.shared.specs.Inner.Each.{Only}
use Rattle.shared.specs.Inner.Prepared.{OfClass}
use Rattle.shared.specs.Inner.Handed.{image_in, tally_in, state_in}

-- the change in setting s
unfoldable pub acting : Bytes → Node → ℕ → State → State
acting l ν s σ =
    cond (eqb ν.kind 17) (store ν.variable (value_in s (read l ν.a).arithmetic σ.numbers) σ)
    (cond (eqb ν.kind 21) (thrown (value_in s (read l ν.a).arithmetic σ.numbers) σ) (taken ν.variable σ))

-- ---- one setting, on its own sixteen numbers

pub record Acts (l : Bytes) (ν : Node) (p : Progress) (ns : List ℤ) : Type 0 where
  pub expression : (ν.kind ≡ 22 → ⊥) → Evaluating l ν.a 1 ns
  pub variable_below : (ν.kind ≡ 21 → ⊥) → ν.variable < 16
  pub proper : Proper p.outcome p.code
  pub sixteen : length ns ≡ 16

-- ---- one setting of all

pub record Acting (l : Bytes) (ν : Node) (L : Lent) : Type 0 where
  pub expression : (ν.kind ≡ 22 → ⊥) → OfClass l ν.a 1
  pub variable_below : (ν.kind ≡ 21 → ⊥) → ν.variable < 16
  pub lent : Measured (settings l) L.store.now (tally_in L)

pub record ActedAt (l : Bytes) (ν : Node) (on : Set) (s : ℕ) (L L' : Lent) : Type 0 where
  pub acted : Only s (bit on.bits) (acting l ν) (own L.store.now (tally_in L)) (own L'.store.now (tally_in L'))
  pub lent : Measured (settings l) L'.store.now (tally_in L')

-- ---- the settings of a set

pub record ActingFor (plan : Plan) (ν : Node) (on : Set) (L : Lent) : Type 0 where
  pub every : Acting (image_in plan) ν L
  pub below : Below plan.settings (bit on.bits)

pub record ActedFor (plan : Plan) (ν : Node) (on : Set) (L L' : Lent) : Type 0 where
  pub acted : (visits : ℕ) → state_in L' visits ≡ for (bit on.bits) (acting (image_in plan) ν) (state_in L visits)
  pub lent : Measured plan.settings L'.store.now (tally_in L')
