-- What stays true all through a run: an accepted image, its conditions' sets, its settings and an allowed budget.
use Rattle.std.specs.Prelude.{◌≡◌, ℕ, ◌≤◌, ◌<◌, List}
use Rattle.image.specs.Bytes.{Bytes}
use Rattle.image.specs.Records.{header}
use Rattle.image.specs.Rows.{class}
use Rattle.image.specs.Inner.Ready.{Ready}
use Rattle.image.specs.Sets.{settings}

pub record Prepared (l : Bytes) (conditions : ℕ) (sets : List ℕ) (N budget : ℕ) : Type 0 where
  pub ready : (s : ℕ) → s < settings l → Ready l conditions sets s
  pub settings_are : N ≡ settings l
  pub few : N ≤ 64
  pub allowed : budget ≤ 100000

-- a node of a class: 1 arithmetic, 2 boolean, 3 statement
pub record OfClass (l : Bytes) (n of_class : ℕ) : Type 0 where
  pub node_below : n < (header l).nodes
  pub is_class : class l n ≡ of_class
