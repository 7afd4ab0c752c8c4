-- A configured routine reads back as itself, of the bytes that configuring wrote. The idea: they are the configured image, of which `Result` says it.
use Rattle.std.specs.Prelude.{◌≡◌, ◌↔◌, ℕ, ◌+◌, ◌*◌, ◌^◌, ◌≤◌, ◌<◌, length, take, Result, Ok}
use Rattle.std.proofs.Common.{sym, ◌∙◌, subst, arith}
use Rattle.std.proofs.Math.Path.{ap}
use Rattle.imp.specs.Configure.{configure}
use Rattle.imp.specs.Embed.{embed}
use Rattle.image.specs.declared.refusals.Refusal.{Refusal}
use Rattle.image.specs.declared.accept.Shape.{Shape}
use Rattle.image.specs.Bytes.{Bytes}
use Rattle.image.specs.Records.{header}
use Rattle.image.specs.Check.{answer_of, shape_of}
use Rattle.image.specs.Rows.{answer, judge, check_rows}
use Rattle.image.specs.Sets.{settings}
use Rattle.image.specs.Tree.{routine}
use Rattle.image.specs.Accepted.{Accepted}
use Rattle.image.proofs.Theorem.Accepted.{accepts}
use Rattle.configure.specs.Configured.{configured, configure_rows, Configures}
use Rattle.configure.specs.Theorem.Result as Result
use Rattle.acceptance.specs.Theorem.Configured.{was_accepted, length_written, image_written, is_written}
use Rattle.acceptance.specs.Theorem.One.{no_refusal}

-- no options, no conditions, P nodes
abbrev pub plain_shape : ℕ → Shape
plain_shape P = record { options = 0; conditions = 0; nodes = P }

-- the promise of `check` and that of `configure`, of an image m
abbrev Check : Bytes → Result Shape Refusal → Type 0
Check m r = answer_of r ≡ judge (check_rows m) (shape_of m)

module _ (l : Bytes) (s : ℕ) (out out' : Bytes) {n : ℕ} (wrote : Configures (configure_rows l s (length out)) l s out out' (Ok n)) where
  abbrev new : Bytes
  new = configured l s

  acc : Accepted l
  acc = was_accepted l s out out' wrote

  new_acc : Accepted new
  new_acc = Result.passes l acc s

  is_new : take n out' ≡ new
  is_new = image_written l s out out' wrote

  -- ---- "passes the check"

  pub nodes : ℕ
  nodes = (header new).nodes

  pub length_is : n ≡ 8 + 8 * nodes
  unfolding nodes
  length_is = omega (arith, length_written l s out out' wrote, new_acc.length_is, (Result.shape_is l acc s).1)

  shape_is : shape_of new ≡ plain_shape nodes
  unfolding shape_of nodes
  shape_is = let e = Result.shape_is l acc s in λ i. record { options = e.0 i; conditions = e.1 i; nodes = nodes }

  pub passes : (r : Result Shape Refusal) → Check (take n out') r → r ≡ Ok (plain_shape nodes)
  passes r checked =
      let of-new : Check new r = subst (λ m. Check m r) is_new checked in
      no_refusal r (plain_shape nodes) (of-new ∙ accepts new (shape_of new) new_acc ∙ ap answer shape_is)

  -- ---- "has the tree just described"

  pub tree_is : routine (take n out') ≡ embed (configure s (routine l))
  tree_is = ap routine is_new ∙ Result.tree_is l acc s

  -- ---- "configuring it again, for setting 0, gives the same bytes"

  one_setting : 0 < settings new
  unfolding settings
  one_setting = omega (arith, ap (λ k. 2 ^ k) (Result.shape_is l acc s).0)

  same_new : configured new 0 ≡ new
  same_new = Result.again l acc s 0

  module _ (out₂ out₂' : Bytes) (r : Result ℕ Refusal) (room : n ≤ length out₂) where
    again_new : Configures (configure_rows new 0 (length out₂)) new 0 out₂ out₂' r → r ≡ Ok n
    again_new again =
        let long : length (configured new 0) ≡ n = ap length same_new ∙ sym (length_written l s out out' wrote) in
        is_written new 0 out₂ out₂' new_acc one_setting (omega (arith, long)) again ∙ ap Ok long

    pub again_is : Configures (configure_rows (take n out') 0 (length out₂)) (take n out') 0 out₂ out₂' r → (r ≡ Ok n) × (take n out₂' ≡ take n out')
    again_is again =
        let of-new = subst (λ m. Configures (configure_rows m 0 (length out₂)) m 0 out₂ out₂' r) is_new again in
        let answered = again_new of-new in
        let twice = subst (Configures (configure_rows new 0 (length out₂)) new 0 out₂ out₂') answered of-new in
        (answered, image_written new 0 out₂ out₂' twice ∙ same_new ∙ sym is_new)

-- ---- "two results have equal bytes exactly when their trees are equal"

pub equal : (l l₂ : Bytes) (s s₂ : ℕ) (out out' out₂ out₂' : Bytes) {n n₂ : ℕ}
    → Configures (configure_rows l s (length out)) l s out out' (Ok n) → Configures (configure_rows l₂ s₂ (length out₂)) l₂ s₂ out₂ out₂' (Ok n₂)
    → (take n out' ≡ take n₂ out₂') ↔ (configure s (routine l) ≡ configure s₂ (routine l₂))
equal l l₂ s s₂ out out' out₂ out₂' wrote wrote₂ =
    let e = is_new l s out out' wrote in
    let e₂ = is_new l₂ s₂ out₂ out₂' wrote₂ in
    let both = Result.equal l l₂ (acc l s out out' wrote) (acc l₂ s₂ out₂ out₂' wrote₂) s s₂ in
    (λ q. both.0 (sym e ∙ q ∙ e₂), λ q. e ∙ both.1 q ∙ sym e₂)
