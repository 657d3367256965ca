-- What stops a run where a line is given up.
use Rattle.script_core.specs.declared.fault.LineFault.{LineFault}
use Rattle.script_core.specs.declared.fault.LineFault.TheVariants.{Memory, Stopped}
use Rattle.script_core.specs.declared.fault.RunFault.{RunFault}
use Rattle.script_core.specs.declared.fault.RunFault.TheVariants.{Memory as RunMemory, Stopped as RunStopped}

abbrev pub run_fault : LineFault → RunFault
run_fault Memory = RunMemory
run_fault Stopped = RunStopped
