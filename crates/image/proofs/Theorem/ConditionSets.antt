-- The set of a condition from the sets of those that it names: an equation of membership for each kind.
use Rattle.std.specs.Prelude.{◌≡◌, refl, Bool, true, false, not, ◌&&◌, ◌||◌, ℕ, ◌<◌, List, ltb}
use Rattle.std.proofs.Common.{sym}
use Rattle.sets.specs.Member.{bit}
use Rattle.imp.specs.Condition.{on_in, holds}
use Rattle.image.specs.Records.{condition_record}
use Rattle.image.specs.Sets.{settings, in_condition}
use Rattle.image.proofs.Theorem.Reading.{false_at, true_at, option_at, not_at, and_at, or_at}

and_false : (a : Bool) → a && false ≡ false
and_false true = refl
and_false false = refl

and_true : (a : Bool) → a && true ≡ a
and_true true = refl
and_true false = refl

not_within : (a x : Bool) → a && not (a && x) ≡ a && not x
not_within true x = refl
not_within false x = refl

and_within : (a x y : Bool) → (a && x) && (a && y) ≡ a && (x && y)
and_within true x y = refl
and_within false x y = refl

or_within : (a x y : Bool) → (a && x) || (a && y) ≡ a && (x || y)
or_within true x y = refl
or_within false x y = refl

module _ (l : List ℕ) (k s : ℕ) where
  pub false_set : (condition_record l k).kind ≡ 0 → in_condition l k s ≡ false
  unfolding in_condition holds
  false_set e = rw (false_at l k e) (and_false (ltb s (settings l)))

  pub true_set : (condition_record l k).kind ≡ 1 → in_condition l k s ≡ ltb s (settings l)
  unfolding in_condition holds
  true_set e = rw (true_at l k e) (and_true (ltb s (settings l)))

  pub option_set : (condition_record l k).kind ≡ 2 → in_condition l k s ≡ (ltb s (settings l) && bit s (condition_record l k).option)
  unfolding in_condition holds on_in
  option_set e = rw (option_at l k e)

  pub not_set : (condition_record l k).kind ≡ 3 → (condition_record l k).left < k
      → in_condition l k s ≡ (ltb s (settings l) && not (in_condition l (condition_record l k).left s))
  unfolding in_condition holds
  not_set e h = rw (not_at l k e h) (sym (not_within (ltb s (settings l)) _))

  pub and_set : (condition_record l k).kind ≡ 4 → (condition_record l k).left < k → (condition_record l k).right < k
      → in_condition l k s ≡ (in_condition l (condition_record l k).left s && in_condition l (condition_record l k).right s)
  unfolding in_condition holds
  and_set e h i = rw (and_at l k e h i) (sym (and_within (ltb s (settings l)) _ _))

  pub or_set : (condition_record l k).kind ≡ 5 → (condition_record l k).left < k → (condition_record l k).right < k
      → in_condition l k s ≡ (in_condition l (condition_record l k).left s || in_condition l (condition_record l k).right s)
  unfolding in_condition holds
  or_set e h i = rw (or_at l k e h i) (sym (or_within (ltb s (settings l)) _ _))
