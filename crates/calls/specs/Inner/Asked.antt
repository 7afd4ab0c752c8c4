-- What a call with an answer space does with what it is to ask: asks it once and fills its reply in, or leaves all as it was.
use Rattle.std.specs.Prelude.{◌≡◌, ℕ, Bool, true, false, List, Result, MatchResult}
use Rattle.calls.specs.declared.reply.Reply.{Reply}
use Rattle.calls.specs.Space.{right, all_numbers}

-- asking answers by `steps`; of what is answered a reply is made by `of`, of an error by `of_error`
pub record Asked {T E F : Type 0} (steps : Result T E → F → Type 0) (of : T → Reply → Type 0) (of_error : E → Reply → Type 0)
    (space space' : List ℕ) (ask ask' : F) (y : Bool) : Type 0 where
  pub answered : y ≡ right space
  pub asked : right space ≡ true
      → (x : Result T E) × (r : Reply) × steps x ask' × MatchResult x (λ t. of t r) (λ e. of_error e r) × (space' ≡ all_numbers r)
  pub kept : right space ≡ false → (space' ≡ space) × (ask' ≡ ask)
