-- A plan has a setting, and one setting of its routine can go through all their numbers.
use mathlib.Core.Path.{◌≡◌, ap}
use mathlib.Core.List.{List}
use Prim.Native.Nat.{ℕ, ◌<◌}
use native.Mathlib.Omega.{arith}
use lib.Pow.{pow_pos, pow_mono}
use Rattle.image.specs.Bytes.{Bytes}
use Rattle.image.specs.Inner.Ready.{Ready}
use Rattle.image.specs.Sets.{settings}
use Rattle.shared.specs.declared.plan.Plan.{Plan}
use Rattle.shared.specs.Inner.Handed.{image_in}

-- a setting's number is below 64
pub few_settings : {l : Bytes} {C s : ℕ} {sets : List ℕ} → Ready l C sets s → s < 64
unfolding settings
few_settings ready =
    let most = pow_mono ready.accepted.few_options in
    omega (arith, ready.setting_below, most)

module _ (plan : Plan) where
  pub some_setting : 0 < plan.settings
  unfolding settings
  some_setting =
      let some : 0 < settings (image_in plan) = pow_pos _ in
      omega (arith, plan.prepared.settings_are, some)

  pub moved_on : {l : Bytes} {C s t : ℕ} {sets : List ℕ} → Ready l C sets s → l ≡ image_in plan → t < plan.settings → Ready l C sets t
  moved_on ready image_is below = record {
    accepted = ready.accepted;
    conditions_are = ready.conditions_are;
    sets_right = ready.sets_right;
    setting_below = omega (arith, below, plan.prepared.settings_are, ap settings image_is);
  }
