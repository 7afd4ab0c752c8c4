-- `condition_sets` meets its contract: before each turn the sets of the conditions below k are there.
use mathlib.Core.Path.{◌≡◌, refl, ◌∙◌, ap}
use Prim.Native.Nat.{ℕ, zero, suc, ◌+◌, ◌^◌, ◌<◌}
use native.Mathlib.Omega.{arith}
use native.Mathlib.Decide.{ℕ_discrete}
use mathlib.Core.List.{List}
use lib.Dec.{ltb}
use lib.ListN.{length, get_or, set, replicate, length-set, length-replicate}
use lib.Seq.{get_or-set_same, get_or-set_other}
use Rattle.sets.specs.Member.{bit}
use Rattle.image.specs.Records.{header}
use Rattle.image.specs.Check.{shape_of}
use Rattle.image.specs.Sets.{settings, in_condition}
use Rattle.image.specs.Inner.SetsOf.{TableOf}
use Rattle.image.proofs.conditions.condition_sets.Lts as lts
use Rattle.image.proofs.conditions.condition_sets.Reads as reads
use Rattle.image.proofs.conditions.condition_sets.Tie as tie
use Rattle.image.proofs.conditions.condition_sets.Goals as goal

abbrev Start : Type 0
Start = lts.Start tie.the-claims reads.Pre reads.Post goal.the-invariant-loop-k goal.the-decreases-loop-k

abbrev After-set_of : Type 0
After-set_of = lts.After-set_of tie.the-claims reads.Pre reads.Post goal.the-invariant-loop-k goal.the-decreases-loop-k

-- the shape is the header's
module _ (c : Start) where
  options_are : c.args.shape.options ≡ (header c.args.image.now).options
  unfolding shape_of
  options_are = ap (λ h. h.options) c.requires.1

  conditions_are : c.args.shape.conditions ≡ (header c.args.image.now).conditions
  unfolding shape_of
  conditions_are = ap (λ h. h.conditions) c.requires.1

-- one set more
more : (l sets : List ℕ) (k w : ℕ) → k < 256 → TableOf l k sets → ((s : ℕ) → bit w s ≡ in_condition l k s) → TableOf l (k + 1) (set sets k w)
more l sets k w h before this =
    record {
      sets_are = record { right = λ j i s. go j s (ℕ_discrete j k) i };
      empty_beyond = λ j i. get_or-set_other sets k j w 0 (λ e. omega arith) ∙ before.empty_beyond j (omega arith);
      length_is = length-set sets k w ∙ before.length_is;
    }
  where
    go : (j s : ℕ) → Dec (j ≡ k) → j < k + 1 → bit (get_or (set sets k w) j 0) s ≡ in_condition l j s
    go j s (yes e) i = rw (e, get_or-set_same sets k w 0 (omega (arith, before.length_is))) (this s)
    go j s (no e) i = rw (get_or-set_other sets k j w 0 e) (before.sets_are.right j (omega arith) s)

zeros_at : (n i : ℕ) → ◌≡◌ {A = ℕ} (get_or (replicate n 0) i 0) 0
zeros_at zero i = refl
zeros_at (suc n) zero = refl
zeros_at (suc n) (suc i) = zeros_at n i

-- before the first turn every place is empty
none : (l sets : List ℕ) → sets ≡ replicate 256 0 → TableOf l 0 sets
none l sets e =
    record {
      sets_are = record { right = λ k h s. absurd (omega arith) };
      empty_beyond = λ k h. ap (λ x. get_or x k 0) e ∙ zeros_at 256 k;
      length_is = ap length e ∙ length-replicate {A = ℕ} 256 0;
    }

pub all_settings-full-requires : goal.all_settings-full-requires
all_settings-full-requires c = omega (arith, options_are c.before.before, c.requires.0.few_options)

pub loop-k-init : goal.loop-k-init
loop-k-init c = (omega arith, none _ _ refl)

pub set_of-requires : goal.set_of-requires
unfolding settings
set_of-requires c =
    let loop = c.loop-k in
    record {
      room = omega (arith, conditions_are c.before.before.before.before.before.before, c.requires.0.length_is);
      fits = c.requires.0.conditions_fit loop.k (omega (arith, conditions_are c.before.before.before.before.before.before));
      full_is = λ s. c.all_settings-full.ensures s ∙ ap (λ f. ltb s (2 ^ f)) (options_are c.before.before.before.before.before.before);
      before = loop.invariant.1.sets_are;
    }

below-256 : (c : After-set_of) → c.loop-k.k < 256
below-256 c =
    omega (arith, conditions_are c.before.before.before.before.before.before, c.requires.0.few_conditions)

pub offset_bounds-sets-k : goal.offset_bounds-sets-k
offset_bounds-sets-k c = omega (arith, below-256 c.before)

pub bounds-sets-k : goal.bounds-sets-k
bounds-sets-k c = below-256 c.before

pub loop-k-preserved : goal.loop-k-preserved
loop-k-preserved c =
    let loop = c.loop-k in (
      omega arith,
      more _ loop.sets loop.k c.set_of.result.bits (below-256 c.before) loop.invariant.1 c.set_of.ensures,
    )
