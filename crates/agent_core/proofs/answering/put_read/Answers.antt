use Rattle.std.proofs.Common.{◌≡◌, ◌∙◌, ap, pos, List, sym, subst}
use Rattle.message_core.specs.Canon.{answer_to}
use Rattle.message_core.specs.declared.binding.Binding.{Binding}
use Rattle.message_core.specs.declared.reply.Reply.{Reply}
use Rattle.message_core.specs.declared.request.Kind.{Kind}
use Rattle.message_core.specs.declared.status.ErrorStatus.TheVariants.{NoError}
use Rattle.agent_core.specs.Reading.{visible}
use Rattle.agent_core.specs.Bulk.{asked_list}
use Rattle.agent_core.specs.Fitting.{fitting_front}
use Rattle.agent_core.specs.Replies.{kind_reply, reply_within_limit}
use Rattle.agent_core.specs.Answers.{IsSent}
use Rattle.agent_core.proofs.Encodings.{answers_encodable, nexts_encodable}
use Rattle.agent_core.proofs.Sizes.{sized-fits}
use Rattle.agent_core.proofs.Longest.{longest_law}
use Rattle.agent_core.proofs.answering.put_read.Goals as goal

pub put-requires-clause-encodable : goal.put-requires-clause-encodable
put-requires-clause-encodable g c =
    rw (c.as_slice.ensures, c.in_ok-answers-in-Get.ensures.answers, c.as_slice-asked.ensures)
    (answers_encodable (g.S.Source.objects c.args.source.now) (g.S.View.shows c.args.source.now) (g.S.Successors.instances c.args.source.now) c.args.request.now.bindings c.known.ensures.encodable c.requires.encodable)

pub put-requires-in-GetNext-clause-encodable : goal.put-requires-in-GetNext-clause-encodable
put-requires-in-GetNext-clause-encodable g c =
    rw (c.as_slice-in-GetNext.ensures, c.in_ok-answers-in-GetNext.ensures.answers, c.as_slice-asked.ensures)
    (nexts_encodable (g.S.View.shows c.args.source.now) (g.S.Successors.instances c.args.source.now) c.args.request.now.bindings c.known.ensures.encodable c.requires.encodable)

pub returns-in_ok-answers-in-GetBulk-clause-sent : goal.returns-in_ok-answers-in-GetBulk-clause-sent
returns-in_ok-answers-in-GetBulk-clause-sent g c =
    let all : List Binding = asked_list (visible (g.S.View.shows c.args.source.now) (g.S.Successors.instances c.args.source.now)) c.args.request.now in
    let reply : Kind → Reply = λ (k : Kind). kind_reply (g.S.Source.objects c.args.source.now) (g.S.View.shows c.args.source.now) (g.S.Successors.instances c.args.source.now) c.args.request.now k in
    let same : reply_within_limit (answer_to c.args.request.now NoError (pos 0) c.in_ok-answers-in-GetBulk.answers) ≡ reply c.args.request.now.kind =
    ap (λ (xs : List Binding). reply_within_limit (answer_to c.args.request.now NoError (pos 0) xs)) c.in_ok-answers-in-GetBulk.ensures.answer
    ∙ sized-fits (answer_to c.args.request.now NoError (pos 0) (fitting_front c.args.request.now all)) (longest_law c.args.request.now all c.requires.community).fits
    ∙ ap reply (sym c.in-GetBulk.is) in
    subst (λ (r : Reply). IsSent r c.put_encoded.result c.put_encoded.new.self.reply) same c.put_encoded.ensures.sent
