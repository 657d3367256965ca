-- A policy's fault as a fault of its configuration.
use Rattle.community_core.specs.declared.fault.PolicyFault.{PolicyFault}
use Rattle.community_core.specs.declared.fault.PolicyFault.TheVariants.{Memory as NoMemory}
use Rattle.configuration.specs.declared.fault.ConfigurationFault.{ConfigurationFault}
use Rattle.configuration.specs.declared.fault.ConfigurationFault.TheVariants.{Memory, Policy}

-- want of memory is one fault, whatever wanted it
abbrev pub of_policy : PolicyFault → ConfigurationFault
of_policy NoMemory = Memory
of_policy fault = Policy fault
