-- The tokens of a log name no thread's key, so they may go to another thread.
use mathlib.Core.List.{List, []}
use Prim.Native.Nat.{ℕ}
use base.Stored.{Coded}
use base.Growing.{latest, at_least}
use base.Shift.{Keyless}
use denote.RattleType.{RattleType}
use denote.Param.Send.{IsSend}
use Rattle.rising.specs.Owning.{log_owns, front_owns}
use Rattle.rising.specs.declared.logs.Naming.{Ghosts}
use Rattle.rising.specs.contracts.logs.BlankLog as BlankLog
use Rattle.rising.specs.contracts.logs.Log as Log
use Rattle.rising.specs.contracts.logs.Front as Front

log_keyless : {E : Type 0} (c : Coded E) (γ : ℕ) (n : List E) → Keyless (log_owns c γ n)
unfolding log_owns latest
log_keyless c γ n = tt

front_keyless : {E : Type 0} (c : Coded E) (γ : ℕ) (n : List E) → Keyless (front_owns c γ n)
unfolding front_owns at_least
front_keyless c γ n = tt

pub blank_send : (E : RattleType) → IsSend (BlankLog.the_row E)
blank_send E = record { owned = λ d vs. ((λ vss. (tt, ((λ uss. (tt, tt)), tt))), log_keyless E.coded d.name []); leaving = λ k f vs. tt }

module _ (E L : RattleType) (g : Ghosts L.Denot) where
  pub log_send : IsSend (Log.the_row E L g)
  log_send = record { owned = λ d vs. ((λ vss. (tt, ((λ uss. (tt, tt)), tt))), log_keyless E.coded g.log_name d.log); leaving = λ k f vs. tt }

  pub front_send : IsSend (Front.the_row E L g)
  front_send = record { owned = λ d vs. ((λ vss. (tt, ((λ uss. (tt, tt)), tt))), front_keyless E.coded g.log_name d.log); leaving = λ k f vs. tt }
