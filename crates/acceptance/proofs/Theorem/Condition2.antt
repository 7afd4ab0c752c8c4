-- The runs follow the rules, and what is written reads back: the promise of specs/Condition2 holds.
use Rattle.imp.proofs.Theorem.VimpUnique.{unique}
use Rattle.acceptance.specs.Theorem.Answer.{in_fault, is_out}
use Rattle.acceptance.specs.Theorem.Configured.{beyond_kept}
use Rattle.acceptance.specs.Theorem.PlainRules.{hall_by_imp, hall_by_imp_only, plain_image, by_imp, by_imp_only}
use Rattle.acceptance.specs.Theorem.ReadBack as Back
use Rattle.acceptance.specs.Theorem.SharedRules as Rules
use Rattle.acceptance.specs.Theorem.TextRead as Read
use Rattle.acceptance.specs.Theorem.TextBack as Text
use Rattle.acceptance.specs.Theorem.ThroughText.{through_text}
use Rattle.acceptance.specs.Condition2.{Condition2}

pub condition_2 : Condition2
condition_2 = record {
  plain_run = λ l budget ns ns' p ran. record { plain = (_, plain_image ran); follows = by_imp ran; only = by_imp_only ran };
  one_hall = λ l s budget ns ns' p ran. record { follows = hall_by_imp ran; only = hall_by_imp_only ran };
  shared_run = λ l set budget xs xs' T T' e ran.
      let w = Rules.some_world ran in
      record {
        world = w.0;
        derived = w.1;
        only = λ Y d. unique d w.1;
        visits = Rules.visits_shown ran w.0 w.1;
        numbers = Rules.numbers_shown ran w.0 w.1;
        ends = Rules.progress_shown ran w.0 w.1;
        in_fault = in_fault ran;
        is_out = is_out ran;
        agrees = Rules.world_agrees ran w.0 w.1;
      };
  reads_back = λ l s out out' n wrote. record {
    nodes = Back.nodes l s out out' wrote;
    length_is = Back.length_is l s out out' wrote;
    passes = Back.passes l s out out' wrote;
    tree_is = Back.tree_is l s out out' wrote;
    again = Back.again_is l s out out' wrote;
    through_text = through_text l s out out' wrote;
    beyond = beyond_kept l s out out' wrote;
  };
  equal = λ l l₂ s s₂ out out' out₂ out₂' n n₂ wrote wrote₂. Back.equal l l₂ s s₂ out out' out₂ out₂' wrote wrote₂;
  read = λ text out out' n done. let w = Read.wrote text out out' done in record {
    F = w.F;
    tree = w.tree;
    reads = w.holds.reads;
    only = Read.only text out out' done;
    passes = Read.passes text out out' done;
    tree_is = Read.tree_is text out out' done;
    bytes_are = Read.image_is text out out' done;
    beyond = Read.beyond text out out' done;
  };
  list = λ l out out' n told. record {
    text_is = Text.spelled l out out' told;
    gives_back = Text.gives_back l out out' told;
    again = λ out₂ out₂' out₃ out₃' m r read. Text.again l out out' told out₂ out₂' read out₃ out₃' r;
    beyond = Text.beyond l out out' told;
  };
}
