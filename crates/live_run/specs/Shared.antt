-- A history under a lock that threads may share.
use denote.RattleType.{RattleType}
use Rattle.std.specs.Prelude.{ℕ}
use Rattle.std.specs.Thread.{IsSync}
use Rattle.history_core.specs.History.{History}
use Rattle.live_lock.specs.contracts.live.Live.{the_row}
use Rattle.setphase_core.specs.declared.object.MibObject.{Ghosts}

-- Threads may share the lock round objects of this type, for a run of this type that starts from this
-- history with a ledger of this name and these parts, and with these names for the number by which its
-- base has moved, for the number of its entries, and for their log.
abbrev pub MayShare : (O L : RattleType) → Ghosts O.Denot → History → ℕ → ℕ → ℕ → ℕ → ℕ → Type 0
MayShare O L objects start base_rise name parts rise log_name =
    IsSync (the_row O L objects (record { start = start; base_rise = base_rise })
    (record { name = name; parts = parts }) (record { rise = rise }) (record { log_name = log_name }))
