-- What a report says of the lines of a run, and why there is none.
use Rattle.std.specs.Prelude.{◌≡◌, ◌⊎◌, ℕ, ◌+◌, List, [], ◌∷◌, ◌++◌, Option, Some, None, All, IsPermutation, min}
use Rattle.std.specs.List.Sorted.{IsNonDecreasingBy}
use Rattle.wire_core.specs.declared.wire.WireFault.{WireFault}
use Rattle.history_core.specs.Comparing.{Rises, IsFitting, BreaksFirst, count_older}
use Rattle.history_core.specs.History.{History}
use Rattle.history_core.specs.declared.comparing.Mismatch.{Mismatch}
use Rattle.history_core.specs.declared.receipt.Receipt.{Receipt}
use Rattle.live_agent.specs.declared.trace.End.{End}
use Rattle.live_agent.specs.declared.trace.End.TheVariants as end
use Rattle.live_agent.specs.declared.trace.Item.{Item}
use Rattle.live_agent.specs.declared.trace.Item.TheVariants as item
use Rattle.live_agent.specs.declared.trace.Ran.{Ran}
use Rattle.live_run.specs.Crews.{entered_by, entered_of}
use Rattle.live_run.specs.declared.lines.Runs.{Runs}
use Rattle.live_run.specs.declared.report.Report.{Report}
use Rattle.live_run.specs.declared.report.RunFault.{RunFault}
use Rattle.live_run.specs.declared.report.RunFault.TheVariants as fault

-- the receipts in a trace
abbrev pub receipts_of : List Item → List Receipt
receipts_of [] = []
receipts_of (item.Entered receipt ∷ items) = receipt ∷ receipts_of items
receipts_of (item.Refused cause ∷ items) = receipts_of items
receipts_of (item.Short ∷ items) = receipts_of items
receipts_of (item.Full ∷ items) = receipts_of items

abbrev pub receipts_in : List Ran → List Receipt
receipts_in [] = []
receipts_in (ran ∷ rans) = receipts_of ran.trace ++ receipts_in rans

-- the receipts of a run: the workers', the ports', and the ticker's
abbrev pub all_receipts : Runs → List Receipt
all_receipts runs = receipts_in runs.workers.items
    ++ (receipts_in runs.ports.items ++ receipts_of runs.ticker.trace)

-- how many datagrams of a trace were refused
abbrev pub refused_in : List Item → ℕ
refused_in [] = 0
refused_in (item.Refused cause ∷ items) = 1 + refused_in items
refused_in (item.Entered receipt ∷ items) = refused_in items
refused_in (item.Short ∷ items) = refused_in items
refused_in (item.Full ∷ items) = refused_in items

abbrev pub refused_by : List Ran → ℕ
refused_by [] = 0
refused_by (ran ∷ rans) = refused_in ran.trace + refused_by rans

-- a count that stops at the largest number of 64 bits
abbrev pub count_up_to_max : ℕ → ℕ
count_up_to_max n = min n 18446744073709551615

-- the numbers of a trace rise
abbrev pub RisesIn : Ran → Type 0
RisesIn ran = Rises 0 (receipts_of ran.trace)

-- the fault of the wire by which a line ended
abbrev pub fault_at : End → Option WireFault
fault_at end.Rounds = None
fault_at end.Closed = None
fault_at end.Full = None
fault_at (end.Wire cause) = Some cause
fault_at end.Memory = None

-- the first of these, or the other
abbrev pub first_of : Option WireFault → Option WireFault → Option WireFault
first_of (Some cause) other = Some cause
first_of None other = other

-- the first line that ended by a fault of its wire
abbrev pub first_fault : List Ran → Option WireFault
first_fault [] = None
first_fault (ran ∷ rans) = first_of (fault_at ran.end) (first_fault rans)

-- the first of a run's lines: of the workers, else of the ports, else of the ticker
abbrev pub fault_of : Runs → Option WireFault
fault_of runs = first_of (first_fault runs.workers.items)
    (first_of (first_fault runs.ports.items) (fault_at runs.ticker.end))

-- a line that did not end by want of memory
abbrev pub HadMemory : Ran → Type 0
HadMemory ran = ran.end ≡ end.Memory → ⊥

-- each line of a run is one of these
abbrev pub EachRan : (Ran → Type 0) → Runs → Type 0
EachRan Is runs = All Is runs.workers.items × All Is runs.ports.items × Is runs.ticker

-- These receipts, sorted, stand in the history or are older than its base.
pub record Agrees (h : History) (receipts sorted : List Receipt) : Type 0 where
  pub same : IsPermutation receipts sorted
  pub fitting : IsFitting h.base_number h.entries sorted

-- What a report says: each receipt stands in the history or is older than its base, no two have one
-- number, those of one trace rise, no line ended by a fault or by want of memory; and the counts.
pub record IsReport (h : History) (runs : Runs) (report : Report) : Type 0 where
  pub sorted : List Receipt
  pub agrees : Agrees h (all_receipts runs) sorted
  pub rises : EachRan RisesIn runs
  pub sound : fault_of runs ≡ None
  pub had_memory : EachRan HadMemory runs
  pub runs_are : report.runs ≡ runs
  pub entries_are : report.entries ≡ entered_of runs
  pub requests_are : report.requests ≡ entered_by runs.workers.items
  pub older_are : report.older ≡ count_older h.base_number sorted
  pub drops_are : report.drops ≡ count_up_to_max (refused_by runs.workers.items)

-- These receipts, by rising number. Two may have one number.
pub record IsByNumber (receipts sorted : List Receipt) : Type 0 where
  pub same : IsPermutation receipts sorted
  pub rises : IsNonDecreasingBy (λ r. r.number) sorted

-- The receipts, by rising number, do not agree with the history, and this is the first number at
-- which: the least of a receipt that neither stands nor is older, or that two receipts have.
pub record Disagrees (h : History) (receipts : List Receipt) (number : ℕ) : Type 0 where
  pub sorted : List Receipt
  pub by_number : IsByNumber receipts sorted
  pub mismatch : Mismatch
  pub number_is : mismatch.0 ≡ number
  pub breaks : BreaksFirst h.base_number h.entries sorted mismatch

-- The receipts ahead of this number rise, and with it they do not.
pub record FallsAt (receipts : List Receipt) (number : ℕ) : Type 0 where
  pub before : List Receipt
  pub here : Receipt
  pub rest : List Receipt
  pub parts : receipts ≡ before ++ here ∷ rest
  pub number_is : here.number ≡ number
  pub rises : Rises 0 before
  pub falls : Rises 0 (before ++ here ∷ []) → ⊥

-- The traces of the lines ahead of one rise, and at this number of its trace it does not.
pub record FirstFalls (rans : List Ran) (number : ℕ) : Type 0 where
  pub ahead : List Ran
  pub ran : Ran
  pub behind : List Ran
  pub parts : rans ≡ ahead ++ ran ∷ behind
  pub rise : All RisesIn ahead
  pub falls : FallsAt (receipts_of ran.trace) number

-- The first such number of a run: of the workers, else of the ports, else of the ticker.
abbrev pub FallsIn : Runs → ℕ → Type 0
FallsIn runs number =
    FirstFalls runs.workers.items number
    ⊎ (All RisesIn runs.workers.items × FirstFalls runs.ports.items number)
    ⊎ (All RisesIn runs.workers.items × All RisesIn runs.ports.items
    × FallsAt (receipts_of runs.ticker.trace) number)

-- Why the lines of a run give no report: a number that is not above the one before it in its trace,
-- then the first fault of a wire, then a line's want of memory.
abbrev pub IsFaultOf : Runs → RunFault → Type 0
IsFaultOf runs (fault.Mismatch number) = FallsIn runs number
IsFaultOf runs (fault.Wire cause) = EachRan RisesIn runs × (fault_of runs ≡ Some cause)
IsFaultOf runs fault.Memory =
    EachRan RisesIn runs × (fault_of runs ≡ None) × (EachRan HadMemory runs → ⊥)

-- They give one.
pub record IsSound (runs : Runs) : Type 0 where
  pub rises : EachRan RisesIn runs
  pub sound : fault_of runs ≡ None
  pub had_memory : EachRan HadMemory runs

-- Why a run has no report: a number that is not the history's; or what the lines give; or, where there
-- was no memory to compare the receipts with the history, want of memory.
abbrev pub IsRunFault : History → Runs → RunFault → Type 0
IsRunFault h runs (fault.Mismatch number) =
    Disagrees h (all_receipts runs) number ⊎ IsFaultOf runs (fault.Mismatch number)
IsRunFault h runs (fault.Wire cause) = IsFaultOf runs (fault.Wire cause)
IsRunFault h runs fault.Memory = IsFaultOf runs fault.Memory ⊎ IsSound runs
