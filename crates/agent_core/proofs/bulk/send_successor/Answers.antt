use Rattle.std.proofs.Common.{arith, ◌≡◌, ◌∙◌, ◌-◌, ◌++◌, [], ◌∷◌, List, Bool, ℕ, cond, IsTrue, ap, subst, length, get_or}
use Rattle.message_core.specs.declared.binding.Binding.{Binding}
use Rattle.message_core.specs.Instances.{names_of}
use Rattle.agent_core.specs.Reading.{visible, end_under, next_answer}
use Rattle.agent_core.specs.Fitting.{fit_into}
use Rattle.agent_core.proofs.Stands.{offered}
use Rattle.agent_core.proofs.HiddenWalks.{runs_for}
use Rattle.std.specs.Prelude.{Result, Ok}
use Rattle.std.specs.declared.alloc.AllocError.{AllocError}
use Rattle.setphase_core.proofs.States.{on_err_always}
use Rattle.agent_core.specs.Lookups.{PassesLong}
use Rattle.agent_core.proofs.bulk.send_successor.Goals as goal

-- the instance that was found

pub returns-then-branch-clause-fits : goal.returns-then-branch-clause-fits
returns-then-branch-clause-fits g c =
    let rows : List Binding = visible (g.S.View.shows c.args.lookup.source.now) (g.S.Successors.instances c.args.lookup.source.now) in
    let here : Binding = g.S.Successors.at c.args.lookup.source.now c.find_next.new.spot in
    let name : c.name-before.result.now ≡ get_or (names_of c.args.fitting.now.bindings) (length c.args.fitting.now.bindings - c.args.back) [] = c.name-before.ensures.value in
    let row : here ≡ next_answer rows (get_or (names_of c.args.fitting.now.bindings) (length c.args.fitting.now.bindings - c.args.back) []) =
    subst (λ (found : Bool). cond found here (end_under c.name-before.result.now) ≡ next_answer rows c.name-before.result.now) c.if-branch.true c.in_ok-find_next.ensures.answer ∙ ap (next_answer rows) name in
    subst (λ (b : Binding). c.offer_instance.result ≡ fit_into c.args.fitting.now.space (c.args.fitting.now.bindings ++ b ∷ [])) row c.offer_instance.ensures.fits

pub returns-then-branch-clause-taken : goal.returns-then-branch-clause-taken
returns-then-branch-clause-taken g c =
    let rows : List Binding = visible (g.S.View.shows c.args.lookup.source.now) (g.S.Successors.instances c.args.lookup.source.now) in
    let here : Binding = g.S.Successors.at c.args.lookup.source.now c.find_next.new.spot in
    let name : c.name-before.result.now ≡ get_or (names_of c.args.fitting.now.bindings) (length c.args.fitting.now.bindings - c.args.back) [] = c.name-before.ensures.value in
    let row : here ≡ next_answer rows (get_or (names_of c.args.fitting.now.bindings) (length c.args.fitting.now.bindings - c.args.back) []) =
    subst (λ (found : Bool). cond found here (end_under c.name-before.result.now) ≡ next_answer rows c.name-before.result.now) c.if-branch.true c.in_ok-find_next.ensures.answer ∙ ap (next_answer rows) name in
    subst (λ (b : Binding). IsTrue c.offer_instance.result → c.offer_instance.new.fitting.bindings ≡ c.args.fitting.now.bindings ++ b ∷ []) row c.offer_instance.ensures.taken

pub returns-then-branch-clause-stands : goal.returns-then-branch-clause-stands
returns-then-branch-clause-stands g c =
    let here : Binding = g.S.Successors.at c.args.lookup.source.now c.find_next.new.spot in
    let taken : Result Bool AllocError = Ok c.offer_instance.result in
    offered (g.S.Successors.stands c.args.lookup.source.now) taken c.args.fitting.now c.offer_instance.new.fitting here c.find_next.new.stand c.requires.stands
    (subst (λ (found : Bool). g.S.Successors.stands c.args.lookup.source.now c.find_next.new.stand (cond found here (end_under c.name-before.result.now)).name) c.if-branch.true c.in_ok-find_next.ensures.stands)
    c.offer_instance.ensures.taken c.offer_instance.ensures.stand c.offer_instance.ensures.full tt

-- endOfMibView under the name

pub returns-clause-fits : goal.returns-clause-fits
returns-clause-fits g c =
    let rows : List Binding = visible (g.S.View.shows c.args.lookup.source.now) (g.S.Successors.instances c.args.lookup.source.now) in
    let here : Binding = g.S.Successors.at c.args.lookup.source.now c.find_next.new.spot in
    let answer : end_under c.name-before.result.now ≡ next_answer rows c.name-before.result.now =
    subst (λ (found : Bool). cond found here (end_under c.name-before.result.now) ≡ next_answer rows c.name-before.result.now) c.if-branch.false c.in_ok-find_next.ensures.answer in
    let row = subst (λ (n : List ℕ). end_under n ≡ next_answer rows n) c.name-before.ensures.value answer in
    subst (λ (b : Binding). c.offer_end.result ≡ fit_into c.args.fitting.now.space (c.args.fitting.now.bindings ++ b ∷ [])) row c.offer_end.ensures.fits

pub returns-clause-taken : goal.returns-clause-taken
returns-clause-taken g c =
    let rows : List Binding = visible (g.S.View.shows c.args.lookup.source.now) (g.S.Successors.instances c.args.lookup.source.now) in
    let here : Binding = g.S.Successors.at c.args.lookup.source.now c.find_next.new.spot in
    let answer : end_under c.name-before.result.now ≡ next_answer rows c.name-before.result.now =
    subst (λ (found : Bool). cond found here (end_under c.name-before.result.now) ≡ next_answer rows c.name-before.result.now) c.if-branch.false c.in_ok-find_next.ensures.answer in
    let row = subst (λ (n : List ℕ). end_under n ≡ next_answer rows n) c.name-before.ensures.value answer in
    subst (λ (b : Binding). IsTrue c.offer_end.result → c.offer_end.new.self.bindings ≡ c.args.fitting.now.bindings ++ b ∷ []) row c.offer_end.ensures.taken

pub returns-clause-stands : goal.returns-clause-stands
returns-clause-stands g c =
    let here : Binding = g.S.Successors.at c.args.lookup.source.now c.find_next.new.spot in
    let stood = subst (λ (found : Bool). g.S.Successors.stands c.args.lookup.source.now c.find_next.new.stand (cond found here (end_under c.name-before.result.now)).name) c.if-branch.false c.in_ok-find_next.ensures.stands in
    let taken : Result Bool AllocError = Ok c.offer_end.result in
    offered (g.S.Successors.stands c.args.lookup.source.now) taken c.args.fitting.now c.offer_end.new.self (end_under (get_or (names_of c.args.fitting.now.bindings) (length c.args.fitting.now.bindings - c.args.back) [])) c.find_next.new.stand c.requires.stands
    (subst (g.S.Successors.stands c.args.lookup.source.now c.find_next.new.stand) c.name-before.ensures.value stood)
    c.offer_end.ensures.taken c.offer_end.ensures.stand c.offer_end.ensures.full tt

-- a name for which there was no memory

pub returns-in_err-find_next-clause-lacks : goal.returns-in_err-find_next-clause-lacks
returns-in_err-find_next-clause-lacks g c =
    let name : c.name-before.result.now ≡ get_or (names_of c.args.fitting.now.bindings) (length c.args.fitting.now.bindings - c.args.back) [] = c.name-before.ensures.value in
    on_err_always c.from_residual.result (subst (PassesLong (g.S.View.shows c.args.lookup.source.now) (g.S.Successors.instances c.args.lookup.source.now)) name c.in_err-find_next.ensures.lacks)

-- what was passed

pub find_next-requires-clause-runs : goal.find_next-requires-clause-runs
find_next-requires-clause-runs g c = c.requires.runs.runs

pub returns-then-branch-clause-once : goal.returns-then-branch-clause-once
returns-then-branch-clause-once g c = c.in_ok-find_next.ensures.once (omega (arith, c.requires.runs.few, c.known.ensures, c.requires.runs.space))

pub returns-clause-once : goal.returns-clause-once
returns-clause-once g c = c.in_ok-find_next.ensures.once (omega (arith, c.requires.runs.few, c.known.ensures, c.requires.runs.space))

pub returns-then-branch-clause-runs : goal.returns-then-branch-clause-runs
returns-then-branch-clause-runs g c = λ taken.
    runs_for (g.S.View.shows c.args.lookup.source.now) (g.S.Successors.instances c.args.lookup.source.now) (g.S.Successors.at c.args.lookup.source.now)
    (g.S.Successors.is_there c.args.lookup.source.now) (g.S.Successors.stands c.args.lookup.source.now)
    _ c.args.hidden.now c.find_next.new.hidden c.args.fitting.now.bindings c.offer_instance.new.fitting.bindings _ c.requires.runs c.in_ok-find_next.ensures.runs c.in_ok-find_next.ensures.grown c.in_ok-find_next.ensures.capacity
    (c.offer_instance.ensures.taken taken)

pub returns-clause-runs : goal.returns-clause-runs
returns-clause-runs g c = λ taken.
    runs_for (g.S.View.shows c.args.lookup.source.now) (g.S.Successors.instances c.args.lookup.source.now) (g.S.Successors.at c.args.lookup.source.now)
    (g.S.Successors.is_there c.args.lookup.source.now) (g.S.Successors.stands c.args.lookup.source.now)
    _ c.args.hidden.now c.find_next.new.hidden c.args.fitting.now.bindings c.offer_end.new.self.bindings _ c.requires.runs c.in_ok-find_next.ensures.runs c.in_ok-find_next.ensures.grown c.in_ok-find_next.ensures.capacity
    (c.offer_end.ensures.taken taken)
