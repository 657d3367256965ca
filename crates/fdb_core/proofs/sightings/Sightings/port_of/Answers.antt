use Rattle.std.proofs.Common.{◌∙◌, sym, ap, Option}
use Rattle.std.specs.Option.{option_map}
use Rattle.fdb_core.specs.declared.seen.Seen.{Seen}
use Rattle.fdb_core.proofs.Around.{port_found}
use Rattle.fdb_core.proofs.sightings.Sightings.port_of.Goals as goal

pub returns-in_err-seen : goal.returns-in_err-seen
returns-in_err-seen c = c.from_residual.ensures ∙ ap (λ (o : Option Seen). option_map (λ s. s.port) o) c.in_err-seen.ensures.value ∙ sym (port_found c.args.self.now.tick c.args.address c.args.self.now.seen.entries)

pub returns : goal.returns
returns c = ap (λ (o : Option Seen). option_map (λ s. s.port) o) c.in_ok-seen.ensures.value ∙ sym (port_found c.args.self.now.tick c.args.address c.args.self.now.seen.entries)
