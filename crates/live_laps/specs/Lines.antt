-- The lines of a run, and what each is called.
use Rattle.std.specs.Prelude.{ℕ, ◌+◌, false, List, [], ◌∷◌, ◌++◌, Option, Some, None, vec_len}
use Rattle.live_run.specs.declared.lines.Lines.{Lines}
use Rattle.live_laps.specs.declared.line.Line.{Line}
use Rattle.live_laps.specs.declared.line.Line.TheVariants.{Worker, Port, Ticker, Control}
use Rattle.live_laps.specs.declared.line.LineName.{LineName}
use Rattle.live_laps.specs.declared.line.Watched.{Watched}
use Rattle.live_laps.specs.declared.line.LineName.TheVariants as name

-- what a line is called
abbrev pub name_of : {A W T C : Type 0} → Line A W T C → LineName
name_of (Worker number wire) = name.Worker number
name_of (Port number is_begun wire) = name.Port number
name_of (Ticker wire) = name.Ticker
name_of (Control ports wire) = name.Control

-- a line that has not begun, with such a watch and such a pace
abbrev pub beginning : {A W T C V P : Type 0} → V → P → Line A W T C → Watched A W T C V P
beginning watch pace line = record { line = line; watch = watch; pace = pace; faults = 0 }

-- the workers over these wires, numbered from this number on, each with such a watch and such a pace
abbrev pub workers_from : {A W T C V P : Type 0} → V → P → ℕ → List A → List (Watched A W T C V P)
workers_from watch pace number [] = []
workers_from watch pace number (wire ∷ wires) =
    beginning watch pace (Worker number wire) ∷ workers_from watch pace (number + 1) wires

-- the same of ports, no link of which is up
abbrev pub ports_from : {A W T C V P : Type 0} → V → P → ℕ → List W → List (Watched A W T C V P)
ports_from watch pace number [] = []
ports_from watch pace number (wire ∷ wires) =
    beginning watch pace (Port number false wire) ∷ ports_from watch pace (number + 1) wires

-- the control line of so many ports over this wire, if there is one
abbrev pub control_lines : {A W T C V P : Type 0} → V → P → ℕ → Option C → List (Watched A W T C V P)
control_lines watch pace ports None = []
control_lines watch pace ports (Some wire) = beginning watch pace (Control ports wire) ∷ []

-- all lines of a run: its workers, counted from 0, its ports, from 1 on, the ticker, and, where a wire
-- is handed in for it, the control line
abbrev pub all_lines : {A W T C V P : Type 0} → V → P → Lines A W T → Option C → List (Watched A W T C V P)
all_lines watch pace run control = workers_from watch pace 0 run.workers.items
    ++ (ports_from watch pace 1 run.ports.items
    ++ (beginning watch pace (Ticker run.ticker)
    ∷ control_lines watch pace (vec_len run.ports) control))
