-- The flags in one octet.
use Rattle.std.proofs.Common.{◌≡◌, ℕ, ◌*◌, ◌^◌, ◌<◌, Bool, true, false, sym, ap, arith}
use Rattle.std.specs.Prelude.{◌==◌}
use Rattle.frame_core.specs.Layout.{AreConfigFlags, AreRapidFlags, role_number}
use Rattle.frame_core.specs.Sending.{weight, config_flags, rapid_flags}
use Rattle.frame_core.specs.declared.bpdu.PortRole.{PortRole}
use Rattle.frame_core.specs.declared.bpdu.PortRole.TheVariants as roles
use Rattle.frame_core.specs.declared.bpdu.Config.{Config as ConfigFields}
use Rattle.frame_core.specs.declared.bpdu.Rapid.{Rapid as RapidFields}

-- a flag is 0 or 1, and adds so many times its place
small : (b : Bool) → weight b 0 < 2
small true = omega arith
small false = omega arith

shifted : (b : Bool) (n : ℕ) → weight b n ≡ weight b 0 * 2 ^ n
shifted true n = omega arith
shifted false n = omega arith

-- the bit that a flag was written to gives the flag
reported : (b : Bool) (n : ℕ) → n ≡ weight b 0 → b ≡ (n == 1)
reported true n e = sym (ap (λ k. k == 1) e)
reported false n e = sym (ap (λ k. k == 1) e)

role_small : (r : PortRole) → role_number r < 4
role_small roles.Unknown = omega arith
role_small roles.AlternateOrBackup = omega arith
role_small roles.Root = omega arith
role_small roles.Designated = omega arith

pub config_flags_laid : (c : ConfigFields) → AreConfigFlags (config_flags c) c
unfolding config_flags
config_flags_laid c =
    let a = small c.topology_change in
    let b = small c.proposal in
    let d = small c.acknowledge in
    let p = shifted c.proposal 1 in
    let k = shifted c.acknowledge 7 in
    record {
      topology_change = reported c.topology_change _ (omega arith);
      proposal = reported c.proposal _ (omega arith);
      acknowledge = reported c.acknowledge _ (omega arith);
    }

pub rapid_flags_laid : (r : RapidFields) → AreRapidFlags (rapid_flags r) r
unfolding rapid_flags
rapid_flags_laid r =
    let t = small r.topology_change in
    let p = small r.proposal in
    let l = small r.learning in
    let f = small r.forwarding in
    let a = small r.agreement in
    let role = role_small r.role in
    let p' = shifted r.proposal 1 in
    let l' = shifted r.learning 4 in
    let f' = shifted r.forwarding 5 in
    let a' = shifted r.agreement 6 in
    record {
      topology_change = reported r.topology_change _ (omega arith);
      proposal = reported r.proposal _ (omega arith);
      role = omega arith;
      learning = reported r.learning _ (omega arith);
      forwarding = reported r.forwarding _ (omega arith);
      agreement = reported r.agreement _ (omega arith);
    }
