-- A step of the task that writes, at one output.
use Rattle.std.specs.Prelude.{◌≡◌, ◌≢◌, ℕ, ◌≤◌, ◌<◌, List, [], Option, length, take, drop}
use Rattle.std.specs.Io.KnownBytes.{Appends, Keeps}
use Rattle.line_output.specs.declared.pending.TheConstants.{CHUNK_OCTETS}
use Rattle.line_output.specs.declared.step.Step.{Step}
use Rattle.line_output.specs.declared.step.Step.TheVariants.{Idle, Waits, Refused, Wrote, Failed}

-- A front of the octets that an output is still to take stands behind those that it held, and is no longer
-- among those that it is to take.
pub record Writes (held holds : Option (List ℕ)) (old new : List ℕ) : Type 0 where
  pub octets : ℕ
  pub some : 0 < octets
  pub within : octets ≤ length old
  pub bounded : octets ≤ CHUNK_OCTETS
  pub rest : new ≡ drop octets old
  pub appended : Appends held holds (take octets old)

-- An output was not written to: it holds what it held, and is to take what it was to take.
pub record IsUntouched (held holds : Option (List ℕ)) (old new : List ℕ) : Type 0 where
  pub octets : new ≡ old
  pub kept : Keeps held holds

-- What a step does: it writes, or nothing was written: there was nothing to be written, or there was, and nothing
-- was taken.
abbrev pub IsStep : Option (List ℕ) → Option (List ℕ) → List ℕ → List ℕ → Step → Type 0
IsStep held holds old new Wrote = Writes held holds old new
IsStep held holds old new Idle = (old ≡ []) × IsUntouched held holds old new
IsStep held holds old new Waits = (old ≢ []) × IsUntouched held holds old new
IsStep held holds old new Refused = (old ≢ []) × IsUntouched held holds old new
IsStep held holds old new Failed = (old ≢ []) × IsUntouched held holds old new
