use Rattle.std.proofs.Common.{◌≡◌, ◌∙◌, List, ℕ, Option, Some, ap, sym, subst}
use Rattle.std.specs.Prelude.{IfSome, option_map}
use Rattle.oid_core.specs.Name.{HasRoot}
use Rattle.message_core.specs.declared.binding.Binding.{Binding}
use Rattle.message_core.specs.Encodable.{IsEncodableBinding, IsEncodableValue}
use Rattle.message_core.specs.Instances.{next_of}
use Rattle.agent_core.specs.Reading.{visible, or_end}
use Rattle.agent_core.proofs.Encodings.{next_answer_encodable}
use Rattle.agent_core.proofs.nexts.get_next_beside.Goals as goal

pub returns-clause-encodable : goal.returns-clause-encodable
returns-clause-encodable g c = λ root.
    let shows = g.S.View.shows c.args.source.now in
    let rows : List Binding = visible shows (g.S.Successors.instances c.args.source.now) in
    let row : Binding = g.S.Successors.at c.args.source.now c.next_named.new.spot in
    let named : c.in-Some.own ≡ row.name = subst (λ (o : Option (List ℕ)). IfSome o (λ n. n ≡ row.name)) c.in-Some.is c.in_ok-own.ensures.name in
    let found : next_of rows c.args.name.now ≡ Some row =
    ap (next_of rows) (sym c.as_slice.ensures.value) ∙ (c.in_ok-own.ensures.found ∙ ap (λ (o : Option (List ℕ)). option_map (λ _. row) o) c.in-Some.is) in
    let encodable : IsEncodableBinding row =
    subst (λ (o : Option Binding). IsEncodableBinding (or_end o c.args.name.now)) found
    (next_answer_encodable shows (g.S.Successors.instances c.args.source.now) c.args.name.now c.known.ensures.encodable root) in
    record { name = subst HasRoot (sym named) encodable.name; value = subst IsEncodableValue (sym c.value_into.ensures) encodable.value }
