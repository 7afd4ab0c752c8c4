-- Figure 5.8, rule by rule, with document 01's counts. N is the number of settings, and each setting has the budget b.
use Rattle.std.specs.Prelude.{ℕ, Bool, [], ◌∷◌, ℤ}
use Rattle.imp.specs.Condition.{Condition, holds}
use Rattle.imp.specs.Routine.{Arithmetic, Boolean, Statement, skip, assign, sequence, if, while, throw, try, choice}
use Rattle.imp.specs.Shared.{Settings}
use Rattle.imp.specs.Rules.Variational.{Varied, Sat, Unsat, ◌∩◌, negation, Store, update, when_true, when_false, Error, Frame, Stack, catch_ctx, extract, Counts, World, world, ctx, made_out, begun}
use Rattle.imp.specs.Rules.Figure56.{VA⇓, VB⇓}

-- the two judgements of Figure 5.8: ⇓V asks whether there is a setting to run s for, ⇓VS is what s does for the live settings of C
pub data Judgement : Type 0 where
  ⇓V ⇓VS : Judgement

-- (C, S, E, s) ⇓V (S', E') and (C, S, E, s) ⇓VS (S', E')
pub data Vimp (N b : ℕ) : Judgement → Settings → World → Statement Condition → World → Type 0 where
  V-SAT : {C : Settings} {S : Store} {E : Stack} {K : Counts} {s : Statement Condition} {X : World}
      → Sat N (ctx C E (made_out b s C E K)) → Vimp N b ⇓VS C (world S E (begun s C E (made_out b s C E K))) s X → Vimp N b ⇓V C (world S E K) s X
  V-UNSAT : {C : Settings} {S : Store} {E : Stack} {K : Counts} {s : Statement Condition}
      → Unsat N (ctx C E (made_out b s C E K)) → Vimp N b ⇓V C (world S E K) s (world S E (made_out b s C E K))
  VS-SKIP : {C : Settings} {X : World} → Vimp N b ⇓VS C X skip X
  VS-ASSN : {C : Settings} {S : Store} {E : Stack} {K : Counts} {x : ℕ} {a : Arithmetic Condition} {n : Varied ℤ}
      → VA⇓ N S (ctx C E K) a n → Vimp N b ⇓VS C (world S E K) (assign x a) (world (update S (ctx C E K) x n) E K)
  VS-SEQ : {C : Settings} {X X' X'' : World} {s s' : Statement Condition}
      → Vimp N b ⇓V C X s X' → Vimp N b ⇓V C X' s' X'' → Vimp N b ⇓VS C X (sequence s s') X''
  VS-IF : {C : Settings} {S : Store} {E : Stack} {K : Counts} {X' X'' : World} {e : Boolean Condition} {s s' : Statement Condition} {v : Varied Bool}
      → VB⇓ N S (ctx C E K) e v → Vimp N b ⇓V (C ∩ when_true v) (world S E K) s X' → Vimp N b ⇓V (C ∩ when_false v) X' s' X''
      → Vimp N b ⇓VS C (world S E K) (if e s s') X''
  VS-WHILE : {C : Settings} {S : Store} {E : Stack} {K : Counts} {X' X'' : World} {e : Boolean Condition} {s : Statement Condition} {v : Varied Bool}
      → VB⇓ N S (ctx C E K) e v → Vimp N b ⇓V (C ∩ when_true v) (world S E K) s X' → Vimp N b ⇓V (C ∩ when_true v) X' (while e s) X''
      → Vimp N b ⇓VS C (world S E K) (while e s) X''
  VS-THROW : {C : Settings} {S : Store} {l : Frame} {E : Stack} {K : Counts} {a : Arithmetic Condition} {n : Varied ℤ}
      → VA⇓ N S (ctx C (l ∷ E) K) a n
      → Vimp N b ⇓VS C (world S (l ∷ E) K) (throw a) (world S ((record { within = ctx C (l ∷ E) K; codes = n } ∷ l) ∷ E) K)
  VS-TRY : {C : Settings} {S S' : Store} {E : Stack} {K K' : Counts} {x : ℕ} {s s' : Statement Condition}
      → Vimp N b ⇓V C (world S ([] ∷ E) K) s (world S' ([] ∷ E) K') → Vimp N b ⇓VS C (world S E K) (try s x s') (world S' E K')
  VS-CATCH : {C : Settings} {S S' : Store} {e : Error} {l : Frame} {E : Stack} {K K' : Counts} {X : World} {x : ℕ} {s s' : Statement Condition}
      → Vimp N b ⇓V C (world S ([] ∷ E) K) s (world S' ((e ∷ l) ∷ E) K')
      → Vimp N b ⇓V (catch_ctx C (e ∷ l)) (world (update S' (ctx (catch_ctx C (e ∷ l)) E K') x (extract (e ∷ l))) E K') s' X
      → Vimp N b ⇓VS C (world S E K) (try s x s') X
  VS-CHC : {C : Settings} {X X' X'' : World} {c : Condition} {s s' : Statement Condition}
      → Vimp N b ⇓V (C ∩ holds c) X s X' → Vimp N b ⇓V (C ∩ negation (holds c)) X' s' X'' → Vimp N b ⇓VS C X (choice c s s') X''
