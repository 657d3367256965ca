use Rattle.std.proofs.Common.{ap, pos}
use Rattle.message_core.specs.Canon.{answer_to}
use Rattle.message_core.specs.declared.status.ErrorStatus.TheVariants.{NoError}
use Rattle.message_core.specs.Instances.{names_of}
use Rattle.agent_core.specs.Reading.{next_answers}
use Rattle.agent_core.specs.Bulk.{asked_list}
use Rattle.agent_core.specs.Fitting.{fitting_front}
use Rattle.agent_core.specs.Replies.{reply_within_limit}
use Rattle.agent_core.proofs.LawProofs.{get_same, reply_same}
use Rattle.agent_core.proofs.laws.same_visible.Goals as goal

pub returns : goal.returns
returns c = record {
  get = λ objects first second rows others request e h. ap (λ bs. reply_within_limit (answer_to request NoError (pos 0) bs)) (get_same objects request.bindings first second rows others e h);
  next = λ first second rows others request e. ap (λ vs. reply_within_limit (answer_to request NoError (pos 0) (next_answers vs (names_of request.bindings)))) e;
  bulk = λ first second rows others request e. ap (λ vs. answer_to request NoError (pos 0) (fitting_front request (asked_list vs request))) e;
  reply = reply_same;
}
