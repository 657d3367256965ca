-- The laws of replies.
use Rattle.std.proofs.Common.{◌≡◌, ◌≢◌, ℕ, pos, suc, ◌+◌, ◌*◌, ◌/◌, ◌<◌, ◌≤◌, ◌∙◌, ap, sym, refl, Bool, List, [], ◌∷◌, ◌++◌, length, arith, All, Some}
use Rattle.std.proofs.lemmas.List.Elements.{All-head, All-tail}
use Rattle.oid_core.specs.Order.{name_lt}
use Rattle.message_core.specs.Canon.{answer_to}
use Rattle.message_core.specs.declared.limits.TheConstants.{MAX_COMMUNITY, MAX_REPLY}
use Rattle.message_core.specs.declared.binding.Binding.{Binding}
use Rattle.message_core.specs.declared.request.Kind.{Kind}
use Rattle.message_core.specs.declared.request.Kind.TheVariants.{Get, GetNext, Set, GetBulk}
use Rattle.message_core.specs.declared.request.Request.{Request}
use Rattle.message_core.specs.declared.status.ErrorStatus.TheVariants.{NoError}
use Rattle.message_core.proofs.Smallest.{binding_some, reply_some}
use Rattle.message_core.specs.Instances.{IsRising, after, names_of}
use Rattle.agent_core.specs.Reading.{visible, end_under, get_answer, get_answers, next_answers}
use Rattle.agent_core.specs.Fitting.{total, fitting_front, reply_size, least_binding, most_successors}
use Rattle.agent_core.specs.Bulk.{asked_list}
use Rattle.vacm_core.specs.Families.{in_view}
use Rattle.message_core.specs.declared.reply.Reply.{Reply}
use Rattle.decision.specs.declared.keys.AccessKey.{AccessKey}
use Rattle.decision.specs.declared.choice.Decision.{Decision}
use Rattle.decision.specs.declared.choice.Decision.TheVariants.{Allowed}
use Rattle.decision.specs.Deciding.{decision_on}
use Rattle.agent_core.specs.Replies.{reply_within_limit, kind_reply, walk, last_name}
use Rattle.agent_core.specs.Answers.{Shown, AgreesOnAsked, outcome_of, outcome_by, reply_in, reply_of}
use Rattle.message_core.proofs.Rising.{find_is, after-first}
use Rattle.agent_core.proofs.Below.{visible-rising}
use Rattle.agent_core.proofs.FewFit.{total_some}
use Rattle.agent_core.proofs.Longest.{longest_law}

-- a walk
walk-all : (rows ys : List Binding) (name : List ℕ) → IsRising rows → after name rows ≡ ys → walk rows (suc (length ys)) name ≡ ys ++ end_under (last_name name ys) ∷ []
walk-all rows [] name h e = rw (find_is (λ row. name_lt name row.name) rows [] e) refl
walk-all rows (y ∷ ys) name h e =
    rw (find_is (λ row. name_lt name row.name) rows (y ∷ ys) e) (ap (λ zs. y ∷ zs) (walk-all rows ys y.name h (after-first rows name y ys h e)))

pub walk_law : (shows : List ℕ → Bool) (rows : List Binding) (name : List ℕ) → IsRising rows →
    walk (visible shows rows) (suc (length (after name (visible shows rows)))) name ≡ after name (visible shows rows) ++ end_under (last_name name (after name (visible shows rows))) ∷ []
walk_law shows rows name h =
    walk-all (visible shows rows) (after name (visible shows rows)) name (visible-rising shows rows h) refl

-- equal answers to the asked names
pub get_same : (objects : List (List ℕ)) (asked : List Binding) (first second : List ℕ → Bool) (rows others : List Binding) → visible first rows ≡ visible second others → All (λ b. first b.name ≡ second b.name) asked →
    get_answers objects first rows asked ≡ get_answers objects second others asked
get_same objects [] first second rows others e h = refl
get_same objects (b ∷ bs) first second rows others e h =
    let shown : first b.name ≡ second b.name = All-head (λ (a : Binding). first a.name ≡ second a.name) b bs h in
    let here : get_answer objects (first b.name) (visible first rows) b.name ≡ get_answer objects (second b.name) (visible second others) b.name =
    ap (λ s. get_answer objects s (visible first rows) b.name) shown ∙ ap (λ vs. get_answer objects (second b.name) vs b.name) e in
    let more = get_same objects bs first second rows others e (All-tail (λ (a : Binding). first a.name ≡ second a.name) b bs h) in
    ap (λ z. z ∷ get_answers objects first rows bs) here ∙ ap (λ zs. get_answer objects (second b.name) (visible second others) b.name ∷ zs) more

-- equal replies over what is seen
pub kind_same : (objects others_objects : List (List ℕ)) (first second : List ℕ → Bool) (rows others : List Binding) (request : Request) (kind : Kind) →
    visible first rows ≡ visible second others → (kind ≡ Get → (objects ≡ others_objects) × All (λ b. first b.name ≡ second b.name) request.bindings) →
    kind_reply objects first rows request kind ≡ kind_reply others_objects second others request kind
kind_same objects others_objects first second rows others request Get e h =
    ap (λ bs. reply_within_limit (answer_to request NoError (pos 0) bs))
    (ap (λ (os : List (List ℕ)). get_answers os first rows request.bindings) (h refl).0
    ∙ get_same others_objects request.bindings first second rows others e (h refl).1)
kind_same objects others_objects first second rows others request GetNext e h = ap (λ vs. reply_within_limit (answer_to request NoError (pos 0) (next_answers vs (names_of request.bindings)))) e
kind_same objects others_objects first second rows others request Set e h = refl
kind_same objects others_objects first second rows others request GetBulk e h = ap (λ vs. answer_to request NoError (pos 0) (fitting_front request (asked_list vs request))) e

pub reply_same : (shown other : Shown) (request : Request) (row other_row : AccessKey) (view other_view : List ℕ) →
    decision_on shown.policy request ≡ Allowed row view → decision_on other.policy request ≡ Allowed other_row other_view →
    visible (in_view shown.policy.vacm.families view) shown.instances ≡ visible (in_view other.policy.vacm.families other_view) other.instances →
    request.kind ≢ Set →
    (request.kind ≡ Get → AgreesOnAsked shown other view other_view request) →
    reply_of shown request ≡ reply_of other request
unfolding outcome_of
reply_same shown other request row other_row view other_view d f e reads h =
    let first : List ℕ → Bool = in_view shown.policy.vacm.families view in
    let second : List ℕ → Bool = in_view other.policy.vacm.families other_view in
    let same : kind_reply shown.objects first shown.instances request request.kind ≡ kind_reply other.objects second other.instances request request.kind =
    kind_same shown.objects other.objects first second shown.instances other.instances request request.kind e (λ g. ((h g).objects, (h g).asked)) in
    ap (λ (decision : Decision). reply_in (outcome_by shown request decision)) d
    ∙ ap (λ (reply : Reply). Some reply) same
    ∙ sym (ap (λ (decision : Decision). reply_in (outcome_by other request decision)) f)

pub few_law : (request : Request) (all : List Binding) → length request.community ≤ MAX_COMMUNITY → least_binding * length (fitting_front request all) ≤ MAX_REPLY
few_law request all community =
    let sent : List Binding = fitting_front request all in
    let fits : reply_size request sent ≤ MAX_REPLY = (longest_law request all community).fits in
    omega (arith, fits, reply_some (answer_to request NoError (pos 0) sent), total_some sent)
