-- An answer as plain numbers: a refusal's number and place, or number 0 and the call's values.
use Rattle.std.specs.Prelude.{ℕ, Bool, cond, [], ◌∷◌}
use Rattle.image.specs.declared.accept.Shape.{Shape}
use Rattle.imp.specs.Numbers.{low32}
use Rattle.plain.specs.declared.progress.Progress.{Progress}
use Rattle.shared.specs.declared.Ends.{Ends}
use Rattle.image.specs.Rows.{Answer, refused, answer}
use Rattle.calls.specs.declared.reply.Reply.{Reply}

abbrev pub values : ℕ → ℕ → ℕ → Reply
values x y z = record { number = 0; place = 0; values = x ∷ y ∷ z ∷ 0 ∷ 0 ∷ 0 ∷ [] }

abbrev pub reply : {A : Type 0} → (A → Reply) → Answer A → Reply
reply of (refused n p) = record { number = n; place = p; values = 0 ∷ 0 ∷ 0 ∷ 0 ∷ 0 ∷ 0 ∷ [] }
reply of (answer x) = of x

abbrev pub no_values : ℕ → Reply
no_values n = values 0 0 0

-- F, C and P
abbrev pub shape_reply : Shape → Reply
shape_reply h = values h.options h.conditions h.nodes

-- whether setting s is a member
abbrev pub member_reply : ℕ → (ℕ → Bool) → Reply
member_reply s S = values (cond (S s) 1 0) 0 0

-- the length written
abbrev pub length_reply : ℕ → Reply
length_reply n = values n 0 0

-- outcome, code as 32 bits, steps
abbrev pub progress_reply : Progress → Reply
progress_reply p = values p.outcome (low32 p.code) p.steps

-- the visits, the set in fault, the set out
abbrev pub ends_reply : Ends → Reply
ends_reply e = values e.visits e.fault.bits e.out.bits
