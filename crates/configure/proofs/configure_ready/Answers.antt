-- `configure_ready` meets its contract: the size that was counted is the size that is written, and the space is tested against it first.
use mathlib.Core.Path.{◌≡◌, ◌∙◌, ap}
use mathlib.Core.List.{List}
use Prim.Native.Nat.{ℕ, ◌+◌, ◌-◌, ◌*◌, ◌≤◌, ◌<◌}
use native.Mathlib.Omega.{arith}
use lib.ListN.{length}
use lib.Seq.{sets, length-sets}
use Rattle.image.specs.Records.{header}
use Rattle.image.specs.Term.{size, head_word, bytes_of}
use Rattle.image.specs.Accepted.{Accepted}
use Rattle.std.specs.Prelude.{Ok, Err}
use Rattle.image.specs.declared.refusals.Refusal.TheVariants.{SpaceShort}
use Rattle.configure.specs.Inner.Term.{term_at}
use Rattle.configure.specs.Inner.Writing.{Wrote}
use Rattle.configure.specs.Configured.{space_rows, Configures}
use Rattle.configure.specs.Theorem.Small.{size_small}
use Rattle.configure.proofs.Written as written
use Rattle.image.specs.Inner.Ready.{Ready}
use Rattle.configure.proofs.configure_ready.Goals as goal

-- ---- what is known once the size was counted

module _ (l : List ℕ) (s : ℕ) {conditions nodes : ℕ} {condition_sets : List ℕ} (ready : Ready l conditions condition_sets s) (nodes_are : nodes ≡ (header l).nodes) where
  acc : Accepted l
  acc = ready.accepted

  some_node : 1 ≤ nodes
  some_node = omega (arith, nodes_are, acc.some_node)

  few : size (term_at l s (nodes - 1)) ≤ 1024
  few = omega (arith, nodes_are, size_small l acc s (nodes - 1) (omega (arith, nodes_are, some_node)), acc.few_nodes)

  -- the tests and stores of lists, as `Written` has them
  module _ (out : List ℕ) {counted : ℕ} (size_is : counted ≡ size (term_at l s (nodes - 1))) where
    short : length out < 8 + 8 * counted → Configures (space_rows l s (length out)) l s out out (Err SpaceShort)
    short h = written.short l acc s out nodes nodes_are (omega (arith, size_is))

    all_written : {word end : ℕ} {out₁ out₂ : List ℕ} → 8 + 8 * counted ≤ length out → word ≡ head_word 0 0 counted
        → out₁ ≡ sets out 0 (bytes_of 8 word) → Wrote l s (nodes - 1) 0 out₁ out₂ end
        → Configures (space_rows l s (length out)) l s out out₂ (Ok (8 + 8 * end))
    all_written h word_is first then =
        written.carried l acc s out nodes nodes_are (omega (arith, size_is))
        (first ∙ ap (λ w. sets out 0 (bytes_of 8 w)) (word_is ∙ ap (head_word 0 0) size_is)) then

pub overflow_mul-size : goal.overflow_mul-size
overflow_mul-size c = omega (arith, c.configured_size-size.ensures, few c.args.setting.now.routine.image.now c.args.setting.now.s c.args.setting.now.ready c.args.setting.now.routine.whole.nodes_are)

pub overflow_add-size : goal.overflow_add-size
overflow_add-size c = omega (arith, c.configured_size-size.ensures, few c.args.setting.now.routine.image.now c.args.setting.now.s c.args.setting.now.ready c.args.setting.now.routine.whole.nodes_are)

pub returns-then-out-size : goal.returns-then-out-size
returns-then-out-size c = short c.args.setting.now.routine.image.now c.args.setting.now.s c.args.setting.now.ready c.args.setting.now.routine.whole.nodes_are _ c.configured_size-size.ensures c.if-out-size.true

pub head_word-requires : goal.head_word-requires
head_word-requires c = record {
  options_small = omega arith;
  conditions_small = omega arith;
  nodes_small = omega (arith, c.configured_size-size.ensures, few c.args.setting.now.routine.image.now c.args.setting.now.s c.args.setting.now.ready c.args.setting.now.routine.whole.nodes_are);
}

pub write-written-requires : goal.write-written-requires
write-written-requires c =
    let setting = c.args.setting.now in
    let l = setting.routine.image.now in
    let nodes_are = setting.routine.whole.nodes_are in
    record {
      node_below = omega (arith, nodes_are, some_node l setting.s setting.ready nodes_are);
      few = omega (arith, few l setting.s setting.ready nodes_are);
      fits = omega (
        arith,
        c.if-out-size.false,
        c.configured_size-size.ensures,
        ap length c.put.ensures,
        length-sets c.args.out.now 0 (bytes_of 8 c.head_word.result),
      );
    }

pub returns : goal.returns
returns c =
    all_written c.args.setting.now.routine.image.now c.args.setting.now.s c.args.setting.now.ready c.args.setting.now.routine.whole.nodes_are _ c.configured_size-size.ensures c.if-out-size.false c.head_word.ensures c.put.ensures c.write-written.ensures
