-- Whole replies (RFC 3416, 4.2), and walks.
use Rattle.std.specs.Prelude.{ℕ, zero, suc, pos, Bool, if◌then◌else◌, nat_lt, List, [], ◌∷◌, length}
use Rattle.message_core.specs.Canon.{canon_reply, answer_to}
use Rattle.message_core.specs.declared.binding.Binding.{Binding}
use Rattle.message_core.specs.declared.limits.TheConstants.{MAX_REPLY}
use Rattle.message_core.specs.declared.request.Kind.{Kind}
use Rattle.message_core.specs.declared.request.Kind.TheVariants.{Get, GetNext, Set, GetBulk}
use Rattle.message_core.specs.declared.request.Request.{Request}
use Rattle.message_core.specs.declared.reply.Reply.{Reply}
use Rattle.message_core.specs.declared.status.ErrorStatus.TheVariants.{NoError, TooBig, GenErr, AuthorizationError}
use Rattle.message_core.specs.Instances.{names_of}
use Rattle.agent_core.specs.Reading.{visible, get_answers, next_answer, next_answers}
use Rattle.agent_core.specs.Bulk.{asked_list}
use Rattle.agent_core.specs.Fitting.{fitting_front}

-- A reply that is too long is sent as tooBig, with index 0 and no bindings (RFC 3416, 4.2.1).
unfoldable pub reply_within_limit : Reply → Reply
reply_within_limit reply =
    if nat_lt MAX_REPLY (length (canon_reply reply))
    then record reply { status = TooBig; index = pos 0; bindings = [] }
    else reply

-- what answers a failure of no binding of its own, as want of memory: genErr, index 0, the
-- request's bindings
abbrev pub failure_reply : Request → Reply
failure_reply request = reply_within_limit (answer_to request GenErr (pos 0) request.bindings)

-- what answers the want of memory for a name above 24 numbers that is made for binding i: genErr, index
-- i, the request's bindings, within the limit
abbrev pub name_failure_reply : Request → ℕ → Reply
name_failure_reply request i =
    reply_within_limit (answer_to request GenErr (pos i) request.bindings)

-- The replies to Get, GetNext and GetBulk, by the names of the objects, the names that a view
-- shows, and the instances.

abbrev pub get_reply : List (List ℕ) → (List ℕ → Bool) → List Binding → Request → Reply
get_reply objects shows rows request = reply_within_limit
    (answer_to request NoError (pos 0) (get_answers objects shows rows request.bindings))

abbrev pub next_reply : (List ℕ → Bool) → List Binding → Request → Reply
next_reply shows rows request = reply_within_limit
    (answer_to request NoError (pos 0)
    (next_answers (visible shows rows) (names_of request.bindings)))

-- GetBulk is never too long: it sends the longest front of its list that fits.
abbrev pub bulk_reply : (List ℕ → Bool) → List Binding → Request → Reply
bulk_reply shows rows request =
    answer_to request NoError (pos 0)
    (fitting_front request (asked_list (visible shows rows) request))

-- The reply to a request that has bindings and reads, by its kind. What answers a Set is stated in
-- Sets; here it stands for nothing.
abbrev pub kind_reply : List (List ℕ) → (List ℕ → Bool) → List Binding → Request → Kind → Reply
kind_reply objects shows rows request Get = get_reply objects shows rows request
kind_reply objects shows rows request GetNext = next_reply shows rows request
kind_reply objects shows rows request Set = failure_reply request
kind_reply objects shows rows request GetBulk = bulk_reply shows rows request

-- a request that the tables of access control halt: authorizationError, index 0, the request's
-- bindings (RFC 3413, section 3.2)
abbrev pub refusal_reply : Request → Reply
refusal_reply request =
    reply_within_limit (answer_to request AuthorizationError (pos 0) request.bindings)

-- the answers to so many GetNext, each of the name that the one before answered
abbrev pub walk : List Binding → ℕ → List ℕ → List Binding
walk rows zero name = []
walk rows (suc steps) name = next_answer rows name ∷ walk rows steps (next_answer rows name).name

-- the name of the last binding, or the name before them
abbrev pub last_name : List ℕ → List Binding → List ℕ
last_name name [] = name
last_name name (b ∷ bs) = last_name b.name bs
