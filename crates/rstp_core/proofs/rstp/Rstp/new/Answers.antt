use Rattle.std.proofs.Common.{length, arith, ap}
use Rattle.std.proofs.lemmas.List.{length-replicate}
use Rattle.rstp_settings.specs.Table.{Table, opening_port}
use Rattle.rstp_core.proofs.rstp.Rstp.new.Goals as goal

pub invariant_of-result : goal.invariant_of-result
invariant_of-result c =
    let n = length c.as_slice-ports.result.now in
    record {
      each = omega (arith, ap length c.copied.ensures, c.opening_ports.ensures.count);
      few = omega (arith, c.opening_ports.ensures.count, c.as_slice-ports.ensures.fits);
      known = omega (arith, c.opening_ports.ensures.count, c.of.ensures.count, ap (λ (s : Table). length s.ports) c.new-settings.ensures, length-replicate n opening_port);
    }
