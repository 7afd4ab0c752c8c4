-- A call and what comes back of it: its answer and what is left in all that was lent, made of the definitions that its promise cites.
use Rattle.std.specs.Prelude.{◌≡◌, Bool, List, [], ◌∷◌, map, ℕ, zero, suc, ℤ, length}
use Rattle.std.specs.Prelude as Std
use Rattle.std.proofs.Common.{ap, subst, arith}
use Rattle.std.proofs.Math.Option.{some}
use Rattle.std.proofs.Math.ListN.{get_elem?}
use Rattle.sets.specs.declared.Set.{Set}
use Rattle.imp.specs.State.{Numbers}
use Rattle.image.specs.declared.refusals.Refusal.{Refusal}
use Rattle.image.specs.declared.accept.Shape.{Shape}
use Rattle.image.specs.Bytes.{Bytes, over}
use Rattle.image.specs.Check.{answer_of, shape_of}
use Rattle.image.specs.Rows.{Row, Answer, refused, answer, judge, written, check_rows}
use Rattle.image.specs.Sets.{settings, in_condition, condition_rows, set_answer}
use Rattle.configure.specs.Configured.{configured, configure_rows, Configures}
use Rattle.plain.specs.declared.progress.Progress.{Progress}
use Rattle.plain.specs.PlainRun as Plain
use Rattle.plain.specs.PlainRun.{progress_of, plain_rows, hall_rows, RunsIn, Runs}
use Rattle.shared.specs.declared.Ends.{Ends}
use Rattle.shared.specs.Lent.{Tally}
use Rattle.shared.specs.SharedRun as Shared
use Rattle.shared.specs.SharedRun.{set_of, numbers_of, tally_of, ends_of, shared_rows, SharedRuns}

-- an image, and what is lent with it
pub data Call : Type 0 where
  shared_run : Bytes → (set budget : ℕ) → List ℤ → Tally → Call
  plain_run : Bytes → (budget : ℕ) → Numbers → Call
  one_hall : Bytes → (setting budget : ℕ) → Numbers → Call
  configure : Bytes → (setting : ℕ) → (out : Bytes) → Call
  check : Bytes → Call
  condition_set : Bytes → (number : ℕ) → Call

-- the answer, and what is left
pub data Result : Type 0 where
  shared : Answer Ends → List ℤ → Tally → Result
  plain : Answer Progress → Numbers → Result
  configuring : Answer ℕ → Bytes → Result
  checking : Answer Shape → Result
  asking : Answer ℕ → Result

-- who is in a set, as its 64 bits
abbrev pub bits_of : Answer (ℕ → Bool) → Answer ℕ
bits_of (refused n p) = refused n p
bits_of (answer P) = answer (set_of 64 P)

unfoldable pub comes_back : Call → Result
comes_back (shared_run l set budget xs T) =
    let rows : List Row = shared_rows l set budget xs T in
    shared (judge rows (ends_of (settings l) (Shared.meant l set budget xs)))
    (written rows (numbers_of (settings l) (Shared.meant l set budget xs)) xs)
    (written rows (tally_of (settings l) (Shared.meant l set budget xs)) T)
comes_back (plain_run l budget ns) =
    let rows : List Row = plain_rows l budget (length ns) in
    plain (judge rows (progress_of (Plain.meant l budget ns))) (written rows (Plain.meant l budget ns).numbers ns)
comes_back (one_hall l s budget ns) =
    let rows : List Row = hall_rows l s budget (length ns) in
    plain (judge rows (progress_of (Plain.meant_in s l budget ns))) (written rows (Plain.meant_in s l budget ns).numbers ns)
comes_back (configure l s out) =
    let rows : List Row = configure_rows l s (length out) in
    configuring (judge rows (length (configured l s))) (written rows (over (configured l s) out) out)
comes_back (check l) = checking (judge (check_rows l) (shape_of l))
comes_back (condition_set l k) = asking (bits_of (judge (condition_rows l k) (in_condition l k)))

-- ---- cases: a call, and the result that is expected

pub record Case : Type 0 where
  pub call : Call
  pub result : Result

abbrev pub case : Call → Result → Case
case c r = record { call = c; result = r }

-- what comes back is what is expected: of one, and of all at once
abbrev pub Holds : Case → Type 0
Holds c = comes_back c.call ≡ c.result

abbrev pub Hold : List Case → Type 0
Hold cs = map (λ (c : Case). comes_back c.call) cs ≡ map (λ (c : Case). c.result) cs

pub row_of : (cs : List Case) → Hold cs → (k : ℕ) (c : Case) → get_elem? cs k ≡ some c → Holds c
row_of [] hold k c at = let z : ◌≡◌ {A = ℕ} 0 1 = cc in absurd (omega arith)
row_of (x ∷ cs) hold zero c at =
    let same : x ≡ c = cc in
    let first : Holds x = cc in
    subst Holds same first
row_of (x ∷ cs) hold (suc k) c at =
    let rest : Hold cs = cc in
    row_of cs rest k c at

-- ---- whatever keeps a call's promise is what comes back

pub shared_kept : {l : Bytes} {set budget : ℕ} {xs xs' : List ℤ} {T T' : Tally} {r : Std.Result Ends Refusal}
    → SharedRuns (shared_rows l set budget xs T) l set budget xs T xs' T' r → shared (answer_of r) xs' T' ≡ comes_back (shared_run l set budget xs T)
unfolding comes_back
shared_kept ran = λ i. shared (ran.answered i) (ran.store_is i) (ran.tally_is i)

pub plain_kept : {l : Bytes} {budget : ℕ} {ns ns' : Numbers} {r : Std.Result Progress Refusal}
    → Runs (plain_rows l budget (length ns)) l budget ns ns' r → plain (answer_of r) ns' ≡ comes_back (plain_run l budget ns)
unfolding comes_back
plain_kept ran = λ i. plain (ran.answered i) (ran.numbers_are i)

pub hall_kept : {l : Bytes} {s budget : ℕ} {ns ns' : Numbers} {r : Std.Result Progress Refusal}
    → RunsIn s (hall_rows l s budget (length ns)) l budget ns ns' r → plain (answer_of r) ns' ≡ comes_back (one_hall l s budget ns)
unfolding comes_back
hall_kept ran = λ i. plain (ran.answered i) (ran.numbers_are i)

pub configuring_kept : {l : Bytes} {s : ℕ} {out out' : Bytes} {r : Std.Result ℕ Refusal}
    → Configures (configure_rows l s (length out)) l s out out' r → configuring (answer_of r) out' ≡ comes_back (configure l s out)
unfolding comes_back
configuring_kept wrote = λ i. configuring (wrote.answered i) (wrote.out_is i)

pub checking_kept : (l : Bytes) (r : Std.Result Shape Refusal) → answer_of r ≡ judge (check_rows l) (shape_of l) → checking (answer_of r) ≡ comes_back (check l)
unfolding comes_back
checking_kept l r answered = ap checking answered

pub asking_kept : (l : Bytes) (k : ℕ) (r : Std.Result Set Refusal) → set_answer r ≡ judge (condition_rows l k) (in_condition l k)
    → asking (bits_of (set_answer r)) ≡ comes_back (condition_set l k)
unfolding comes_back
asking_kept l k r answered = ap (λ a. asking (bits_of a)) answered
