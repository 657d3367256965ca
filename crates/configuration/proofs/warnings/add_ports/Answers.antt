use Rattle.configuration.specs.Warnings.{warning_of_port}
use Rattle.configuration.proofs.FoundLemmas.{found_step}
use Rattle.configuration.proofs.warnings.add_ports.Goals as goal

pub loop-n-preserved : goal.loop-n-preserved
loop-n-preserved c =
    found_step (warning_of_port c.args.ports.now c.args.serve c.args.check) _ _ _ c.loop-n.n _ c.loop-n.invariant c.warning_of_port.ensures c.in_ok-add.ensures
