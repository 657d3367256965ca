use Rattle.std.proofs.Common.{◌≡◌, ◌∙◌, ◌++◌, ◌+◌, ◌*◌, ◌/◌, ◌<◌, ◌≤◌, ℕ, Bool, ap, sym, subst, List, length, min, rules, arith}
use Rattle.message_core.specs.declared.binding.Binding.{Binding}
use Rattle.message_core.specs.Instances.{names_of}
use Rattle.agent_core.specs.Reading.{visible}
use Rattle.agent_core.specs.Bulk.{bulk_list, asked_list, count_of}
use Rattle.agent_core.specs.Fitting.{total, IsFilled, least_binding, most_successors}
use Rattle.agent_core.proofs.Fits.{filled_at}
use Rattle.agent_core.proofs.Longest.{filled_fits}
use Rattle.message_core.specs.declared.limits.TheConstants.{MAX_REPLY}
use Rattle.agent_core.proofs.FewFit.{few_sent}
use Rattle.agent_core.proofs.LookupLemmas.{product_of}
use Rattle.agent_core.proofs.HiddenWalks.{runs_none, left_at_first, most_is}
use Rattle.agent_core.specs.Lookups.{hidden_count, most_lookups}
use Rattle.agent_core.specs.Hidden.{hidden_left}
use Rattle.agent_core.proofs.Lackings.{bulk_lacks, some_asked}
use Rattle.agent_core.proofs.bulk.get_bulk.Goals as goal

pub binding_number-requires-clause-some : goal.binding_number-requires-clause-some
binding_number-requires-clause-some g c =
    some_asked (g.S.View.shows c.args.source.now) (g.S.Successors.instances c.args.source.now) c.send_list-filled.result c.as_slice-asked.result.now c.in_ok-fitting.fitting.bindings c.send_list-filled.new.fitting.bindings
    _ c.non_repeaters-once.result c.len-before.result (ap (λ s. s.bindings) c.in_ok-fitting.ensures) (sym c.if-is_err.ensures.value) c.send_list-filled.ensures.lacks c.len-before.ensures.value

pub binding_number-requires-clause-most : goal.binding_number-requires-clause-most
binding_number-requires-clause-most g c = omega (arith, c.len-before.ensures.most)

pub returns-clause-answer : goal.returns-clause-answer
returns-clause-answer g c =
    let rows : List Binding = visible (g.S.View.shows c.args.source.now) (g.S.Successors.instances c.args.source.now) in
    let request = c.args.request.now in
    let most : c.max_repetitions-most.result ≡ count_of request.second = c.max_repetitions-most.ensures in
    let asked : c.as_slice-asked.result.now ≡ request.bindings = c.as_slice-asked.ensures in
    let once : c.non_repeaters-once.result ≡ min (count_of request.first) (length request.bindings) = c.non_repeaters-once.ensures.count in
    let space : c.in_ok-fitting.fitting.space ≡ c.bindings_space.result = ap (λ s. s.space) c.in_ok-fitting.ensures in
    let list : c.in_ok-fitting.fitting.bindings ++ bulk_list rows c.non_repeaters-once.result c.max_repetitions-most.result (names_of c.as_slice-asked.result.now) ≡ asked_list rows request =
    ap (λ s. s.bindings ++ bulk_list rows c.non_repeaters-once.result c.max_repetitions-most.result (names_of c.as_slice-asked.result.now)) c.in_ok-fitting.ensures
    ∙ ap (λ n. bulk_list rows n c.max_repetitions-most.result (names_of c.as_slice-asked.result.now)) once
    ∙ ap (λ n. bulk_list rows (min (count_of request.first) (length request.bindings)) n (names_of c.as_slice-asked.result.now)) most
    ∙ ap (λ bs. bulk_list rows (min (count_of request.first) (length request.bindings)) (count_of request.second) (names_of bs)) asked in
    let filled : IsFilled c.bindings_space.result (asked_list rows request) c.send_list-filled.new.fitting.bindings = filled_at _ _ _ _ c.send_list-filled.new.fitting.bindings space list (search rules) in
    let within : total c.send_list-filled.new.fitting.bindings ≤ c.bindings_space.result = subst (λ r. total c.send_list-filled.new.fitting.bindings ≤ r) (c.send_list-filled.ensures.space ∙ space) c.into_bindings-bindings.ensures.within in
    c.into_bindings-bindings.ensures.value ∙ filled_fits request c.bindings_space.result (asked_list rows request) c.send_list-filled.new.fitting.bindings c.bindings_space.ensures.space within filled

-- no run is kept at first

pub send_list-filled-requires-clause-runs : goal.send_list-filled-requires-clause-runs
send_list-filled-requires-clause-runs g c =
    runs_none (g.S.View.shows c.args.source.now) (g.S.Successors.instances c.args.source.now) (g.S.Successors.at c.args.source.now) (g.S.Successors.is_there c.args.source.now) (g.S.Successors.stands c.args.source.now)
    most_successors c.in_ok-hidden.hidden (length c.in_ok-fitting.fitting.bindings) c.in_ok-hidden.ensures.none c.in_ok-hidden.ensures.capacity

-- a successor is searched for, for each binding that is sent, and one more

pub returns-clause-once : goal.returns-clause-once
returns-clause-once g c =
    let shows : List ℕ → Bool = g.S.View.shows c.args.source.now in
    let rows : List Binding = g.S.Successors.instances c.args.source.now in
    let fitting : List Binding = c.send_list-filled.new.fitting.bindings in
    let none : hidden_left shows rows c.in_ok-hidden.hidden.runs.items ≤ hidden_count shows rows = left_at_first shows rows c.in_ok-hidden.hidden.runs.items c.in_ok-hidden.ensures.none in
    let lookups : c.send_list-filled.new.steps ≤ c.args.steps.now + length fitting + 1 + hidden_count shows rows = omega (arith, c.send_list-filled.ensures.work, none) in
    subst (λ (bs : List Binding). c.send_list-filled.new.steps ≤ c.args.steps.now + length bs + 1 + hidden_count shows rows) (sym c.into_bindings-bindings.ensures.value) lookups

pub returns-clause-work : goal.returns-clause-work
returns-clause-work g c =
    let shows : List ℕ → Bool = g.S.View.shows c.args.source.now in
    let rows : List Binding = g.S.Successors.instances c.args.source.now in
    let fitting : List Binding = c.send_list-filled.new.fitting.bindings in
    let none : hidden_left shows rows c.in_ok-hidden.hidden.runs.items ≤ hidden_count shows rows = left_at_first shows rows c.in_ok-hidden.hidden.runs.items c.in_ok-hidden.ensures.none in
    let lookups : c.send_list-filled.new.steps ≤ c.args.steps.now + length fitting + 1 + hidden_count shows rows = omega (arith, c.send_list-filled.ensures.work, none) in
    subst (λ (bs : List Binding). c.send_list-filled.new.steps ≤ c.args.steps.now + (length bs + 1) * most_lookups shows rows) (sym c.into_bindings-bindings.ensures.value)
    (product_of c.args.steps.now c.send_list-filled.new.steps (length fitting) (hidden_count shows rows) (most_lookups shows rows) (most_is shows rows) lookups)

pub returns-clause-most_once : goal.returns-clause-most_once
returns-clause-most_once g c =
    let shows : List ℕ → Bool = g.S.View.shows c.args.source.now in
    let rows : List Binding = g.S.Successors.instances c.args.source.now in
    let fitting : List Binding = c.send_list-filled.new.fitting.bindings in
    let none : hidden_left shows rows c.in_ok-hidden.hidden.runs.items ≤ hidden_count shows rows = left_at_first shows rows c.in_ok-hidden.hidden.runs.items c.in_ok-hidden.ensures.none in
    let lookups : c.send_list-filled.new.steps ≤ c.args.steps.now + length fitting + 1 + hidden_count shows rows = omega (arith, c.send_list-filled.ensures.work, none) in
    let space : c.in_ok-fitting.fitting.space ≡ c.bindings_space.result = ap (λ s. s.space) c.in_ok-fitting.ensures in
    let within : total fitting ≤ c.bindings_space.result = subst (λ r. total fitting ≤ r) (c.send_list-filled.ensures.space ∙ space) c.into_bindings-bindings.ensures.within in
    let few : length fitting < most_successors = few_sent fitting c.bindings_space.result within c.bindings_space.ensures.most in
    let all : c.send_list-filled.new.steps ≤ c.args.steps.now + most_successors + hidden_count shows rows = omega (arith, lookups, few) in
    all

pub returns-clause-most_work : goal.returns-clause-most_work
returns-clause-most_work g c =
    let shows : List ℕ → Bool = g.S.View.shows c.args.source.now in
    let rows : List Binding = g.S.Successors.instances c.args.source.now in
    let fitting : List Binding = c.send_list-filled.new.fitting.bindings in
    let none : hidden_left shows rows c.in_ok-hidden.hidden.runs.items ≤ hidden_count shows rows = left_at_first shows rows c.in_ok-hidden.hidden.runs.items c.in_ok-hidden.ensures.none in
    let lookups : c.send_list-filled.new.steps ≤ c.args.steps.now + length fitting + 1 + hidden_count shows rows = omega (arith, c.send_list-filled.ensures.work, none) in
    let space : c.in_ok-fitting.fitting.space ≡ c.bindings_space.result = ap (λ s. s.space) c.in_ok-fitting.ensures in
    let within : total fitting ≤ c.bindings_space.result = subst (λ r. total fitting ≤ r) (c.send_list-filled.ensures.space ∙ space) c.into_bindings-bindings.ensures.within in
    let few : length fitting < most_successors = few_sent fitting c.bindings_space.result within c.bindings_space.ensures.most in
    let all : c.send_list-filled.new.steps ≤ c.args.steps.now + most_successors + hidden_count shows rows = omega (arith, lookups, few) in
    product_of c.args.steps.now c.send_list-filled.new.steps (MAX_REPLY / least_binding) (hidden_count shows rows) (most_lookups shows rows) (most_is shows rows) (omega (arith, all))

pub returns-then-is_err-clause-most_once : goal.returns-then-is_err-clause-most_once
returns-then-is_err-clause-most_once g c =
    let shows : List ℕ → Bool = g.S.View.shows c.args.source.now in
    let rows : List Binding = g.S.Successors.instances c.args.source.now in
    let fitting : List Binding = c.send_list-filled.new.fitting.bindings in
    let none : hidden_left shows rows c.in_ok-hidden.hidden.runs.items ≤ hidden_count shows rows = left_at_first shows rows c.in_ok-hidden.hidden.runs.items c.in_ok-hidden.ensures.none in
    let lookups : c.send_list-filled.new.steps ≤ c.args.steps.now + length fitting + 1 + hidden_count shows rows = omega (arith, c.send_list-filled.ensures.work, none) in
    let space : c.in_ok-fitting.fitting.space ≡ c.bindings_space.result = ap (λ s. s.space) c.in_ok-fitting.ensures in
    let within : total fitting ≤ c.bindings_space.result = subst (λ r. total fitting ≤ r) (c.send_list-filled.ensures.space ∙ space) c.into_bindings-bindings.ensures.within in
    let few : length fitting < most_successors = few_sent fitting c.bindings_space.result within c.bindings_space.ensures.most in
    let all : c.send_list-filled.new.steps ≤ c.args.steps.now + most_successors + hidden_count shows rows = omega (arith, lookups, few) in
    all

pub returns-then-is_err-clause-most_work : goal.returns-then-is_err-clause-most_work
returns-then-is_err-clause-most_work g c =
    let shows : List ℕ → Bool = g.S.View.shows c.args.source.now in
    let rows : List Binding = g.S.Successors.instances c.args.source.now in
    let fitting : List Binding = c.send_list-filled.new.fitting.bindings in
    let none : hidden_left shows rows c.in_ok-hidden.hidden.runs.items ≤ hidden_count shows rows = left_at_first shows rows c.in_ok-hidden.hidden.runs.items c.in_ok-hidden.ensures.none in
    let lookups : c.send_list-filled.new.steps ≤ c.args.steps.now + length fitting + 1 + hidden_count shows rows = omega (arith, c.send_list-filled.ensures.work, none) in
    let space : c.in_ok-fitting.fitting.space ≡ c.bindings_space.result = ap (λ s. s.space) c.in_ok-fitting.ensures in
    let within : total fitting ≤ c.bindings_space.result = subst (λ r. total fitting ≤ r) (c.send_list-filled.ensures.space ∙ space) c.into_bindings-bindings.ensures.within in
    let few : length fitting < most_successors = few_sent fitting c.bindings_space.result within c.bindings_space.ensures.most in
    let all : c.send_list-filled.new.steps ≤ c.args.steps.now + most_successors + hidden_count shows rows = omega (arith, lookups, few) in
    product_of c.args.steps.now c.send_list-filled.new.steps (MAX_REPLY / least_binding) (hidden_count shows rows) (most_lookups shows rows) (most_is shows rows) (omega (arith, all))

pub returns-then-is_err-clause-lacks : goal.returns-then-is_err-clause-lacks
returns-then-is_err-clause-lacks g c =
    let fitting : List Binding = c.send_list-filled.new.fitting.bindings in
    let space : c.in_ok-fitting.fitting.space ≡ c.bindings_space.result = ap (λ s. s.space) c.in_ok-fitting.ensures in
    let within : total fitting ≤ c.bindings_space.result = subst (λ r. total fitting ≤ r) (c.send_list-filled.ensures.space ∙ space) c.into_bindings-bindings.ensures.within in
    bulk_lacks (g.S.View.shows c.args.source.now) (g.S.Successors.instances c.args.source.now) c.send_list-filled.result c.args.request.now c.as_slice-asked.result.now c.in_ok-fitting.fitting.bindings fitting
    c.non_repeaters-once.result c.max_repetitions-most.result c.binding_number.result c.len-before.result
    (ap (λ s. s.bindings) c.in_ok-fitting.ensures) c.as_slice-asked.ensures c.non_repeaters-once.ensures.count c.max_repetitions-most.ensures
    (sym c.if-is_err.ensures.value) c.send_list-filled.ensures.lacks ((c.bindings_space.ensures.space fitting).0 within)
    c.len-before.ensures.value c.binding_number.ensures
