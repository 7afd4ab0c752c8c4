-- What is read of a node is made from what is read of the nodes that it names: an equation for each kind.
use Rattle.std.specs.Prelude.{◌≡◌, ℕ, zero, suc, ◌<◌, List}
use Rattle.std.proofs.Common.{not-suc-le-zero, arith, eq-eqb, ne_eqb}
use Rattle.std.proofs.Math.Decide.{ℕ_discrete}
use Rattle.imp.specs.Numbers.{signed32}
use Rattle.imp.specs.Condition.{falseᶜ, trueᶜ, option, notᶜ, andᶜ, orᶜ}
use Rattle.imp.specs.Routine.{number, variable, sum, pick, choiceᵃ, falseᵇ, trueᵇ, notᵇ, andᵇ, less, choiceᵇ, skip, assign, sequence, if, while, throw, try, choice}
use Rattle.image.specs.Records.{condition_record, node}
use Rattle.image.specs.Tree.{condition_kind, condition_reading, condition_below, condition, kind_of, reading, read_below, read}

-- ---- a record below n is read the same, whatever n is

pub condition_same : (l : List ℕ) (n k : ℕ) → k < n → condition_below l n k ≡ condition l k
unfolding condition_below condition
condition_same l zero k h = absurd (not-suc-le-zero h)
condition_same l (suc n) k h = go (ℕ_discrete k n) (condition_same l n k)
  where
    go : Dec (k ≡ n) → (k < n → condition_below l n k ≡ condition l k) → condition_below l (suc n) k ≡ condition l k
    go (yes p) ih = rw (eq-eqb k n p, p)
    go (no p) ih = rw (ne_eqb k n p) (ih (omega arith))

pub read_same : (l : List ℕ) (n k : ℕ) → k < n → read_below l n k ≡ read l k
unfolding read_below read
read_same l zero k h = absurd (not-suc-le-zero h)
read_same l (suc n) k h = go (ℕ_discrete k n) (read_same l n k)
  where
    go : Dec (k ≡ n) → (k < n → read_below l n k ≡ read l k) → read_below l (suc n) k ≡ read l k
    go (yes p) ih = rw (eq-eqb k n p, p)
    go (no p) ih = rw (ne_eqb k n p) (ih (omega arith))

-- ---- conditions

module _ (l : List ℕ) (k : ℕ) where
  pub false_at : (condition_record l k).kind ≡ 0 → condition l k ≡ falseᶜ
  unfolding condition condition_kind condition_reading
  false_at e = rw e

  pub true_at : (condition_record l k).kind ≡ 1 → condition l k ≡ trueᶜ
  unfolding condition condition_kind condition_reading
  true_at e = rw e

  pub option_at : (condition_record l k).kind ≡ 2 → condition l k ≡ option (condition_record l k).option
  unfolding condition condition_kind condition_reading
  option_at e = rw e

  pub not_at : (condition_record l k).kind ≡ 3 → (condition_record l k).left < k → condition l k ≡ notᶜ (condition l (condition_record l k).left)
  unfolding condition condition_kind condition_reading
  not_at e h = rw (e, condition_same l k _ h)

  pub and_at : (condition_record l k).kind ≡ 4 → (condition_record l k).left < k → (condition_record l k).right < k
      → condition l k ≡ andᶜ (condition l (condition_record l k).left) (condition l (condition_record l k).right)
  unfolding condition condition_kind condition_reading
  and_at e h i = rw (e, condition_same l k _ h, condition_same l k _ i)

  pub or_at : (condition_record l k).kind ≡ 5 → (condition_record l k).left < k → (condition_record l k).right < k
      → condition l k ≡ orᶜ (condition l (condition_record l k).left) (condition l (condition_record l k).right)
  unfolding condition condition_kind condition_reading
  or_at e h i = rw (e, condition_same l k _ h, condition_same l k _ i)

-- ---- nodes

module _ (l : List ℕ) (n : ℕ) where
  pub number_at : (node l n).kind ≡ 0 → (read l n).arithmetic ≡ number (signed32 (node l n).value)
  unfolding read kind_of reading
  number_at e = rw e

  pub variable_at : (node l n).kind ≡ 1 → (read l n).arithmetic ≡ variable (node l n).variable
  unfolding read kind_of reading
  variable_at e = rw e

  pub sum_at : (node l n).kind ≡ 2 → (node l n).a < n → (node l n).b < n
      → (read l n).arithmetic ≡ sum (read l (node l n).a).arithmetic (read l (node l n).b).arithmetic
  unfolding read kind_of reading
  sum_at e ha hb = rw (e, read_same l n _ ha, read_same l n _ hb)

  pub pick_at : (node l n).kind ≡ 3 → (node l n).a < n → (node l n).b < n → (node l n).c < n
      → (read l n).arithmetic ≡ pick (read l (node l n).a).boolean (read l (node l n).b).arithmetic (read l (node l n).c).arithmetic
  unfolding read kind_of reading
  pick_at e ha hb hc = rw (e, read_same l n _ ha, read_same l n _ hb, read_same l n _ hc)

  pub choiceᵃ_at : (node l n).kind ≡ 4 → (node l n).b < n → (node l n).c < n
      → (read l n).arithmetic ≡ choiceᵃ (condition l (node l n).a) (read l (node l n).b).arithmetic (read l (node l n).c).arithmetic
  unfolding read kind_of reading
  choiceᵃ_at e hb hc = rw (e, read_same l n _ hb, read_same l n _ hc)

  pub falseᵇ_at : (node l n).kind ≡ 8 → (read l n).boolean ≡ falseᵇ
  unfolding read kind_of reading
  falseᵇ_at e = rw e

  pub trueᵇ_at : (node l n).kind ≡ 9 → (read l n).boolean ≡ trueᵇ
  unfolding read kind_of reading
  trueᵇ_at e = rw e

  pub notᵇ_at : (node l n).kind ≡ 10 → (node l n).a < n → (read l n).boolean ≡ notᵇ (read l (node l n).a).boolean
  unfolding read kind_of reading
  notᵇ_at e ha = rw (e, read_same l n _ ha)

  pub andᵇ_at : (node l n).kind ≡ 11 → (node l n).a < n → (node l n).b < n
      → (read l n).boolean ≡ andᵇ (read l (node l n).a).boolean (read l (node l n).b).boolean
  unfolding read kind_of reading
  andᵇ_at e ha hb = rw (e, read_same l n _ ha, read_same l n _ hb)

  pub less_at : (node l n).kind ≡ 12 → (node l n).a < n → (node l n).b < n
      → (read l n).boolean ≡ less (read l (node l n).a).arithmetic (read l (node l n).b).arithmetic
  unfolding read kind_of reading
  less_at e ha hb = rw (e, read_same l n _ ha, read_same l n _ hb)

  pub choiceᵇ_at : (node l n).kind ≡ 13 → (node l n).b < n → (node l n).c < n
      → (read l n).boolean ≡ choiceᵇ (condition l (node l n).a) (read l (node l n).b).boolean (read l (node l n).c).boolean
  unfolding read kind_of reading
  choiceᵇ_at e hb hc = rw (e, read_same l n _ hb, read_same l n _ hc)

  pub skip_at : (node l n).kind ≡ 16 → (read l n).statement ≡ skip
  unfolding read kind_of reading
  skip_at e = rw e

  pub assign_at : (node l n).kind ≡ 17 → (node l n).a < n → (read l n).statement ≡ assign (node l n).variable (read l (node l n).a).arithmetic
  unfolding read kind_of reading
  assign_at e ha = rw (e, read_same l n _ ha)

  pub sequence_at : (node l n).kind ≡ 18 → (node l n).a < n → (node l n).b < n
      → (read l n).statement ≡ sequence (read l (node l n).a).statement (read l (node l n).b).statement
  unfolding read kind_of reading
  sequence_at e ha hb = rw (e, read_same l n _ ha, read_same l n _ hb)

  pub if_at : (node l n).kind ≡ 19 → (node l n).a < n → (node l n).b < n → (node l n).c < n
      → (read l n).statement ≡ if (read l (node l n).a).boolean (read l (node l n).b).statement (read l (node l n).c).statement
  unfolding read kind_of reading
  if_at e ha hb hc = rw (e, read_same l n _ ha, read_same l n _ hb, read_same l n _ hc)

  pub while_at : (node l n).kind ≡ 20 → (node l n).a < n → (node l n).b < n
      → (read l n).statement ≡ while (read l (node l n).a).boolean (read l (node l n).b).statement
  unfolding read kind_of reading
  while_at e ha hb = rw (e, read_same l n _ ha, read_same l n _ hb)

  pub throw_at : (node l n).kind ≡ 21 → (node l n).a < n → (read l n).statement ≡ throw (read l (node l n).a).arithmetic
  unfolding read kind_of reading
  throw_at e ha = rw (e, read_same l n _ ha)

  pub try_at : (node l n).kind ≡ 22 → (node l n).a < n → (node l n).b < n
      → (read l n).statement ≡ try (read l (node l n).a).statement (node l n).variable (read l (node l n).b).statement
  unfolding read kind_of reading
  try_at e ha hb = rw (e, read_same l n _ ha, read_same l n _ hb)

  pub choice_at : (node l n).kind ≡ 23 → (node l n).b < n → (node l n).c < n
      → (read l n).statement ≡ choice (condition l (node l n).a) (read l (node l n).b).statement (read l (node l n).c).statement
  unfolding read kind_of reading
  choice_at e hb hc = rw (e, read_same l n _ hb, read_same l n _ hc)
