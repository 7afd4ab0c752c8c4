-- Fields that a word has room for.
use Rattle.std.specs.Prelude.{ℕ, ◌<◌}

pub record HeadFields (options conditions nodes : ℕ) : Type 0 where
  pub options_small : options < 16
  pub conditions_small : conditions < 4096
  pub nodes_small : nodes < 4096

pub record ConditionFields (kind option left right : ℕ) : Type 0 where
  pub kind_small : kind < 16
  pub option_small : option < 16
  pub left_small : left < 4096
  pub right_small : right < 4096

-- whatever its value of 32 bits
pub record NodeFields (kind variable a b c : ℕ) : Type 0 where
  pub known : kind < 24
  pub variable_small : variable < 64
  pub a_small : a < 4096
  pub b_small : b < 4096
  pub c_small : c < 4096
