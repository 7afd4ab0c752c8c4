-- The shared run as a call in plain numbers: its reply, and what it leaves in each slice.
use Rattle.std.specs.Prelude.{◌≡◌, ℕ, Bool, List, ℤ}
use Rattle.image.specs.Bytes.{Bytes}
use Rattle.image.specs.Rows.{judge, written}
use Rattle.image.specs.Sets.{settings}
use Rattle.shared.specs.Lent.{Tally}
use Rattle.shared.specs.SharedRun.{meant, numbers_of, tally_of, ends_of, shared_rows}
use Rattle.calls.specs.declared.reply.Reply.{Reply}
use Rattle.calls.specs.Reply.{reply, ends_reply}
use Rattle.calls.specs.Space.{where_right, Answers}

unfoldable pub reply_all : Bytes → ℕ → ℕ → List ℤ → Tally → Reply
reply_all l set budget xs T = reply ends_reply (judge (shared_rows l set budget xs T) (ends_of (settings l) (meant l set budget xs)))

unfoldable pub store_left : Bytes → ℕ → ℕ → List ℤ → Tally → List ℤ
store_left l set budget xs T = written (shared_rows l set budget xs T) (numbers_of (settings l) (meant l set budget xs)) xs

-- outcomes, codes and steps
unfoldable pub tally_left : Bytes → ℕ → ℕ → List ℤ → Tally → Tally
tally_left l set budget xs T = written (shared_rows l set budget xs T) (tally_of (settings l) (meant l set budget xs)) T

pub record AnsweredAll (l : Bytes) (set budget : ℕ) (xs : List ℤ) (T : Tally) (xs' : List ℤ) (T' : Tally) (space space' : List ℕ) (y : Bool) : Type 0 where
  pub answers : Answers space space' (reply_all l set budget xs T) y
  pub store_is : xs' ≡ where_right space (store_left l set budget xs T) xs
  pub tally_is : T' ≡ where_right space (tally_left l set budget xs T) T
