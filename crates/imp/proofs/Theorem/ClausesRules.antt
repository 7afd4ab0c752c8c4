-- A second witness for the rules: derivations written by hand, whose ends are known from document 01. A rule that loses a fault's number, files a fault for
-- settings that are not live, or lets who is out run on derives another end.
use Rattle.std.specs.Prelude.{◌≡◌, ℕ, [], ◌∷◌, pos, refl}
use Rattle.sets.specs.Member.{bit}
use Rattle.imp.specs.Condition.{Condition, option}
use Rattle.imp.specs.Routine.{number, Statement, skip, assign, sequence, throw, try, choice}
use Rattle.imp.specs.State.{Numbers, done, fault, out, State, state}
use Rattle.imp.specs.Shared.{any}
use Rattle.imp.specs.Rules.Variational.{◌∩◌, negation, one, update, erring, in_error, catch_ctx, extract, conf_err, World, ctx, counted, made_out, begun, nothing_yet, at_start, outcome_in, conf}
use Rattle.imp.specs.Rules.Figure42.{A-NUM}
use Rattle.imp.specs.Rules.Figure43.{•, S⇓, S-ASSN, S-THROW, S-CATCH}
use Rattle.imp.specs.Rules.CutOff.{C⇓, C-SPENT, C-CATCH}
use Rattle.imp.specs.Rules.Figure56.{VA-NUM}
use Rattle.imp.specs.Rules.Figure58.{⇓V, Vimp, V-SAT, V-UNSAT, VS-SKIP, VS-ASSN, VS-SEQ, VS-THROW, VS-CATCH, VS-CHC}
use Rattle.imp.proofs.Theorem.Clauses as Clauses

-- opens all that the rules compute with
opened : Unit {0}
unfolding Clauses.opened any ◌∩◌ negation one update erring in_error catch_ctx extract conf_err ctx counted made_out begun nothing_yet at_start outcome_in conf
opened = tt

-- variables 0 to 2
abbrev three : ℕ → ℕ → ℕ → Numbers
three a b c = pos a ∷ pos b ∷ pos c ∷ []

-- ---- chapter 4: case (g) in setting 1

abbrev caught : Statement ⊥
caught = try (throw (number (pos 9))) 1 (assign 2 (number (pos 1)))

-- "setting 1 done, 3 steps, variables 1 and 2 are 9 and 1"
pub fault_taken : S⇓ • (three 0 0 0) caught • (three 0 9 1) 3
fault_taken = S-CATCH (S-THROW A-NUM) (S-ASSN A-NUM)

-- with a budget of 2 the handler is not begun: "stops as out, with its numbers as they stand"
pub handler_cut : C⇓ (three 0 0 0) caught (three 0 9 0) 2
handler_cut = C-CATCH (S-THROW A-NUM) C-SPENT

-- ---- chapter 5: the settings 0 and 1, of which option 0 is on in 1

-- Figure 5.8 derives a world that shows these ends of the settings 0 and 1, with so many visits
pub record Shows (b : ℕ) (t : Statement Condition) (zero-ends one-ends : State) (visits : ℕ) : Type 0 where
  pub end : World
  pub by_rules : Vimp 2 b ⇓V (bit 3) (at_start λ s. three 0 0 0) t end
  pub ends : conf (bit 3) end 0 ∷ conf (bit 3) end 1 ∷ [] ≡ zero-ends ∷ one-ends ∷ []
  pub visited : end.counts.visits ≡ visits

-- "(g) try (choice: throw 9, else skip) catch 1 with variable 2 := 1, set 3: setting 1 done, 3 steps, variables 1 and 2 are 9 and 1; setting 0 done,
-- 2 steps, both 0; 4 visits."
pub fault_taken_in_one : Shows 100 (try (choice (option 0) (throw (number (pos 9))) skip) 1 (assign 2 (number (pos 1))))
    (state (three 0 0 0) done 2) (state (three 0 9 1) done 3) 4
unfolding opened
fault_taken_in_one = record {
  end = _;
  by_rules = V-SAT refl (VS-CATCH
      (V-SAT refl (VS-CHC (V-SAT refl (VS-THROW (VA-NUM refl))) (V-SAT refl VS-SKIP)))
      (V-SAT refl (VS-ASSN (VA-NUM refl))));
  ends = refl;
  visited = refl;
}

-- "Live is a setting of the set that is neither in fault nor out.": a second throw leaves a setting in its first fault
pub first_fault_stays : Shows 100 (sequence (choice (option 0) (throw (number (pos 1))) skip) (throw (number (pos 2))))
    (state (three 0 0 0) (fault (pos 2)) 3) (state (three 0 0 0) (fault (pos 1)) 2) 4
unfolding opened
first_fault_stays = record {
  end = _;
  by_rules = V-SAT refl (VS-SEQ
      (V-SAT refl (VS-CHC (V-SAT refl (VS-THROW (VA-NUM refl))) (V-SAT refl VS-SKIP)))
      (V-SAT refl (VS-THROW (VA-NUM refl))));
  ends = refl;
  visited = refl;
}

-- "(e) H, budget 0: both out, 0 visits.", here of a skip
pub out_at_once : Shows 0 skip (state (three 0 0 0) out 0) (state (three 0 0 0) out 0) 0
unfolding opened
out_at_once = record { end = _; by_rules = V-UNSAT refl; ends = refl; visited = refl }
