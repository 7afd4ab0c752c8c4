-- `all_hold` meets its contract: a chunk of sixteen is a setting's part of the store, and behind the last chunk all settings are seen.
use Rattle.std.specs.Prelude.{◌&&◌, leb}
use Rattle.std.proofs.Common.{rules, ◌∙◌, ap, arith}
use Rattle.std.specs.Iterator.Adapters.{enumerate_source, enumerate_count}
use Rattle.std.specs.Slice.Iter.{chunks_exact_rest}
use Rattle.shared.specs.Lent.{tally}
use Rattle.acceptance.proofs.Seen.{none_yet, next, all_seen}
use Rattle.acceptance.proofs.compare.all_hold.Goals as goal

pub loop-s-init : goal.loop-s-init
loop-s-init c =
    let chunks = c.enumerate-s-items.ensures in
    let same = c.into_iter-s-iterator.ensures.into_iter_gives in (
      search rules,
      tt,
      search rules,
      none_yet _ c.args.set.bits _ _ _ (tally _ _ _) _ _ (ap enumerate_count same ∙ chunks.count)
          (ap (λ s. chunks_exact_rest (enumerate_source s)) same ∙ ap chunks_exact_rest chunks.source ∙ c.chunks_exact.ensures.rest),
    )

pub loop-s-preserved : goal.loop-s-preserved
loop-s-preserved c =
    let args = c.args in
    let step = c.in-Some.ensures.steps in
    let before = c.loop-s.invariant in (
      search rules,
      tt,
      step.0.0 ∙ before.2,
      next _ args.set.bits _ _ _ (tally _ _ _) c.requires.store_is before.3 step.1 step.2 step.0.1.0 (step.0.1.1 ∙ before.2) (record {
        fits = record { sfits = omega arith };
        holds_is = c.setting_holds-holds.ensures;
        steps_are = c.from-sum.ensures;
        small = omega (arith, c.from-sum.ensures, (c.type_inv.steps c.in-Some.s).fits);
      }),
    )

pub returns : goal.returns
returns c =
    let args = c.args in
    let before = c.loop-s.invariant in
    ap (λ n. c.loop-s.good && leb n c.loop-s.sum) c.from.ensures
    ∙ all_seen _ args.set.bits _ _ _ (tally _ _ _) c.requires.store_is before.3 (omega (arith, c.in-None.ensures.steps.0.1.0, before.2))
