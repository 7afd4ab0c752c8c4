-- A run that its budget cuts off: document 01's addition to Figure 4.3, a rule for each place where a statement can be cut.
use Rattle.std.specs.Prelude.{ℕ, suc, ◌+◌, true, false, ℤ, slice_set}
use Rattle.imp.specs.Routine.{Boolean, Statement, sequence, if, while, try}
use Rattle.imp.specs.State.{Numbers}
use Rattle.imp.specs.Rules.Figure42.{B⇓}
use Rattle.imp.specs.Rules.Figure43.{•, error, S⇓}

-- with a budget of r, s from S is cut off, and leaves S'
pub data C⇓ : Numbers → Statement ⊥ → Numbers → ℕ → Type 0 where
  -- "Before a statement is begun, a run which has already begun as many as its budget stops as out, with its numbers as they stand."
  C-SPENT : {S : Numbers} {s : Statement ⊥} → C⇓ S s S 0
  -- in the first part of a sequence, or in the second
  C-SEQ1 : {S S' : Numbers} {s s' : Statement ⊥} {r : ℕ} → C⇓ S s S' r → C⇓ S (sequence s s') S' (suc r)
  C-SEQ2 : {S S' S'' : Numbers} {s s' : Statement ⊥} {k r : ℕ} → S⇓ • S s • S' k → C⇓ S' s' S'' r → C⇓ S (sequence s s') S'' (suc (k + r))
  -- in the part that an if has chosen
  C-IFT : {S S' : Numbers} {e : Boolean ⊥} {s s' : Statement ⊥} {r : ℕ} → B⇓ S e true → C⇓ S s S' r → C⇓ S (if e s s') S' (suc r)
  C-IFB : {S S' : Numbers} {e : Boolean ⊥} {s s' : Statement ⊥} {r : ℕ} → B⇓ S e false → C⇓ S s' S' r → C⇓ S (if e s s') S' (suc r)
  -- in the body of a while, or in the while again
  C-WHILE1 : {S S' : Numbers} {e : Boolean ⊥} {s : Statement ⊥} {r : ℕ} → B⇓ S e true → C⇓ S s S' r → C⇓ S (while e s) S' (suc r)
  C-WHILE2 : {S S' S'' : Numbers} {e : Boolean ⊥} {s : Statement ⊥} {k r : ℕ}
      → B⇓ S e true → S⇓ • S s • S' k → C⇓ S' (while e s) S'' r → C⇓ S (while e s) S'' (suc (k + r))
  -- in the body of a try, "Out is never caught."; or in its handler, once the fault's number is stored
  C-TRY : {S S' : Numbers} {s s' : Statement ⊥} {x r : ℕ} → C⇓ S s S' r → C⇓ S (try s x s') S' (suc r)
  C-CATCH : {S S' S'' : Numbers} {s s' : Statement ⊥} {x k r : ℕ} {n : ℤ}
      → S⇓ • S s (error n) S' k → C⇓ (slice_set S' x n) s' S'' r → C⇓ S (try s x s') S'' (suc (k + r))
