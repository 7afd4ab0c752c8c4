-- Condition 2: "The plain run follows the thesis's IMP rules, the run over all settings its VIMP rules, with document 01's additions and counts. A configured
-- routine written out reads back as itself." Of the calls, for every input and whatever keeps the call's promise and is carried out.
-- That it holds is `condition_2` (proofs/Theorem/Condition2).
use Rattle.std.specs.Prelude.{◌≡◌, true, List, ◌↔◌, ℕ, ◌+◌, ◌*◌, ◌≤◌, ◌<◌, eqb, ℤ, length, get_or, take, drop, Result, Ok}
use Rattle.sets.specs.Member.{bit, has}
use Rattle.imp.specs.Routine.{Statement}
use Rattle.imp.specs.State.{Numbers}
use Rattle.imp.specs.Configure.{configure}
use Rattle.imp.specs.Embed.{embed}
use Rattle.imp.specs.Rules.Variational.{World, at_start}
use Rattle.imp.specs.Rules.Figure58.{⇓V, Vimp}
use Rattle.image.specs.declared.refusals.Refusal.{Refusal}
use Rattle.image.specs.declared.accept.Shape.{Shape}
use Rattle.image.specs.Bytes.{Bytes}
use Rattle.image.specs.Check.{answer_of, shape_of}
use Rattle.image.specs.Rows.{judge, check_rows}
use Rattle.image.specs.Sets.{settings}
use Rattle.image.specs.Tree.{routine}
use Rattle.reading.specs.Reads.{ReadsText}
use Rattle.listing.specs.Lists.{listing_of, list_rows, Lists}
use Rattle.configure.specs.Configured.{configure_rows, Configures}
use Rattle.plain.specs.declared.progress.Progress.{Progress}
use Rattle.plain.specs.PlainRun.{plain_rows, hall_rows, RunsIn, Runs}
use Rattle.shared.specs.declared.Ends.{Ends}
use Rattle.shared.specs.Lent.{Tally, progress, part}
use Rattle.shared.specs.SharedRun.{shared_rows, SharedRuns}
use Rattle.acceptance.specs.ByRules.{says, ByImp}
use Rattle.acceptance.specs.WrittenForm.{ReadsAs, ListsAs}

-- a plain run of the image l from the numbers ns answered p and left ns'
pub record PlainFollows (l : Bytes) (budget : ℕ) (ns ns' : Numbers) (p : Progress) : Type 0 where
  -- the image is a routine of IMP: it holds no choice
  pub plain : (t : Statement ⊥) × (embed t ≡ routine l)
  -- "The plain run follows the thesis's IMP rules, .. with document 01's additions and counts": Figure 4.3 within the budget, or a cut
  pub follows : (t : Statement ⊥) → embed t ≡ routine l → ByImp budget t ns ns' p
  -- and the rules say nothing else of it
  pub only : (t : Statement ⊥) → embed t ≡ routine l → (ns'' : Numbers) (q : Progress) → ByImp budget t ns ns'' q → (ns'' ≡ ns') × (q ≡ p)

-- a run of one hall of the image l, setting s, from the numbers ns answered p and left ns'
pub record HallFollows (l : Bytes) (s budget : ℕ) (ns ns' : Numbers) (p : Progress) : Type 0 where
  -- by the rules of IMP, of the routine configured for the setting; and they say nothing else of it
  pub follows : ByImp budget (configure s (routine l)) ns ns' p
  pub only : (ns'' : Numbers) (q : Progress) → ByImp budget (configure s (routine l)) ns ns'' q → (ns'' ≡ ns') × (q ≡ p)

-- a shared run of the image l for a set from the store xs answered e and left the store xs' and the tally T'
pub record SharedFollows (l : Bytes) (set budget : ℕ) (xs xs' : List ℤ) (T' : Tally) (e : Ends) : Type 0 where
  -- "the run over all settings its VIMP rules": Figure 5.8 derives a world from the routine, the set and the numbers lent
  pub world : World
  pub derived : Vimp (settings l) budget ⇓V (bit set) (at_start (part xs)) (routine l) world
  -- and no other
  pub only : (Y : World) → Vimp (settings l) budget ⇓V (bit set) (at_start (part xs)) (routine l) Y → Y ≡ world
  -- "with document 01's additions and counts": visits, and each setting's numbers, outcome, code and steps are that world's
  pub visits : e.visits ≡ world.counts.visits
  pub numbers : (s : ℕ) → s < settings l → part xs' s ≡ world.store s
  pub ends : (s : ℕ) → s < settings l → progress T' s ≡ says (bit set) world s
  -- "the set in fault and the set out"
  pub in_fault : (s : ℕ) → has e.fault s ≡ eqb (get_or T'.outcomes s 0) 2
  pub is_out : (s : ℕ) → has e.out s ≡ eqb (get_or T'.outcomes s 0) 3
  -- "Agreement in 3 is over 2's rules": in each setting of the set the world is what the IMP rules say of the routine configured for it
  pub agrees : (s : ℕ) → bit set s ≡ true
      → ByImp budget (configure s (routine l)) (part xs s) (world.store s) (says (bit set) world s)

-- configuring l for setting s wrote n bytes of out'
pub record ReadsBack (l : Bytes) (s : ℕ) (out out' : Bytes) (n : ℕ) : Type 0 where
  -- "The result is written with F = 0, C = 0"
  pub nodes : ℕ
  pub length_is : n ≡ 8 + 8 * nodes
  -- "What is written passes the check"
  pub passes : (r : Result Shape Refusal) → answer_of r ≡ judge (check_rows (take n out')) (shape_of (take n out'))
      → r ≡ Ok (record { options = 0; conditions = 0; nodes = nodes })
  -- "and has the tree just described": "A configured routine written out reads back as itself."
  pub tree_is : routine (take n out') ≡ embed (configure s (routine l))
  -- "configuring it again, for setting 0, gives the same bytes", wherever there is space for them
  pub again : (out₂ out₂' : Bytes) (r : Result ℕ Refusal) → n ≤ length out₂
      → Configures (configure_rows (take n out') 0 (length out₂)) (take n out') 0 out₂ out₂' r → (r ≡ Ok n) × (take n out₂' ≡ take n out')
  -- listed, and the text read, it is itself byte for byte, wherever there is space for the text and for it
  pub through_text : (text text' out₂ out₂' : Bytes) (r q : Result ℕ Refusal) → let k : ℕ = length (listing_of (take n out')) in
      k ≤ length text → n ≤ length out₂ → Lists (list_rows (take n out') (length text)) (take n out') text text' r → ReadsText (take k text') out₂ out₂' q
      → (r ≡ Ok k) × (q ≡ Ok n) × (take n out₂' ≡ take n out')
  -- "Bytes beyond it stay as they were."
  pub beyond : drop n out' ≡ drop n out

pub record Condition2 : Type 0 where
  pub plain_run : (l : Bytes) (budget : ℕ) (ns ns' : Numbers) (p : Progress)
      → Runs (plain_rows l budget (length ns)) l budget ns ns' (Ok p) → PlainFollows l budget ns ns' p
  pub one_hall : (l : Bytes) (s budget : ℕ) (ns ns' : Numbers) (p : Progress)
      → RunsIn s (hall_rows l s budget (length ns)) l budget ns ns' (Ok p) → HallFollows l s budget ns ns' p
  pub shared_run : (l : Bytes) (set budget : ℕ) (xs xs' : List ℤ) (T T' : Tally) (e : Ends)
      → SharedRuns (shared_rows l set budget xs T) l set budget xs T xs' T' (Ok e) → SharedFollows l set budget xs xs' T' e
  pub reads_back : (l : Bytes) (s : ℕ) (out out' : Bytes) (n : ℕ)
      → Configures (configure_rows l s (length out)) l s out out' (Ok n) → ReadsBack l s out out' n
  -- "two results have equal bytes exactly when their trees are equal"
  pub equal : (l l₂ : Bytes) (s s₂ : ℕ) (out out' out₂ out₂' : Bytes) (n n₂ : ℕ)
      → Configures (configure_rows l s (length out)) l s out out' (Ok n)
      → Configures (configure_rows l₂ s₂ (length out₂)) l₂ s₂ out₂ out₂' (Ok n₂)
      → (take n out' ≡ take n₂ out₂') ↔ (configure s (routine l) ≡ configure s₂ (routine l₂))
  -- a text that is read, and an image that is listed
  pub read : (text out out' : Bytes) (n : ℕ) → ReadsText text out out' (Ok n) → ReadsAs text out out' n
  pub list : (l out out' : Bytes) (n : ℕ) → Lists (list_rows l (length out)) l out out' (Ok n) → ListsAs l out out' n
