use Rattle.message_core.proofs.Causes.{request_reader, reply_reader, cause_is, no_want, cause_read}
use Rattle.message_core.proofs.laws.first_fault_is_the_grammar.Goals as goal

pub returns-clause-request : goal.returns-clause-request
returns-clause-request c = λ d r fits. (request_reader.found d r fits, request_reader.only d r)

pub returns-clause-cause : goal.returns-clause-cause
returns-clause-cause c = λ d e fits other. (cause_is request_reader d e fits, cause_read request_reader d e fits other)

pub returns-clause-memory : goal.returns-clause-memory
returns-clause-memory c = λ d fits. no_want request_reader d fits

pub returns-clause-reply : goal.returns-clause-reply
returns-clause-reply c = λ d r fits. (reply_reader.found d r fits, reply_reader.only d r)

pub returns-clause-reply_cause : goal.returns-clause-reply_cause
returns-clause-reply_cause c = λ d e fits other. (cause_is reply_reader d e fits, cause_read reply_reader d e fits other)

pub returns-clause-reply_memory : goal.returns-clause-reply_memory
returns-clause-reply_memory c = λ d fits. no_want reply_reader d fits
