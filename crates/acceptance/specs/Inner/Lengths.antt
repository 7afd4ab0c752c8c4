-- What is lent for n settings, by its lengths.
use Rattle.std.specs.Prelude.{◌≡◌, ℕ, ◌*◌, ◌≤◌}

pub record Lengths (n store codes steps : ℕ) : Type 0 where
  pub few : n ≤ 64
  pub store_is : store ≡ n * 16
  pub codes_are : codes ≡ n
  pub steps_are : steps ≡ n
