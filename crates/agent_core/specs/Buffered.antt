-- What a buffer holds.
use Rattle.std.specs.Prelude.{ℕ, ◌-◌, ◌==◌, if◌then◌else◌, slice_index_or, List, Option, None}
use Rattle.frame_core.specs.declared.bpdu.Bpdu.{Bpdu}

pub record Buffered : Type 0 where
  -- the octets of the reply, none where there is no reply
  pub reply : List ℕ
  -- what the ports send, from port 1 on; none where nothing was settled
  pub bpdus : List (Option Bpdu)

-- What a port sends, if it sends something. Ports count from 1.
abbrev pub bpdu_of : List (Option Bpdu) → ℕ → Option Bpdu
bpdu_of bpdus port = if port == 0 then None else slice_index_or bpdus (port - 1) None
