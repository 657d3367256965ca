-- The tokens name no thread's key, so they may go to another thread.
use Prim.Native.Nat.{ℕ}
use base.Growing.{latest, at_least}
use base.Shift.{Keyless}
use denote.RattleType.{RattleType}
use denote.Param.Send.{IsSend}
use Rattle.rising.specs.Owning.{latest_owns, reached_owns}
use Rattle.rising.specs.declared.tokens.Rising.{Ghosts}
use Rattle.rising.specs.contracts.tokens.Blank as Blank
use Rattle.rising.specs.contracts.tokens.Latest as Latest
use Rattle.rising.specs.contracts.tokens.Reached as Reached

latest_keyless : (γ n : ℕ) → Keyless (latest_owns γ n)
unfolding latest_owns latest
latest_keyless γ n = tt

reached_keyless : (γ n : ℕ) → Keyless (reached_owns γ n)
unfolding reached_owns at_least
reached_keyless γ n = tt

pub blank_send : IsSend Blank.the_row
blank_send = record { owned = λ d vs. ((λ vss. (tt, ((λ uss. (tt, tt)), tt))), latest_keyless d.name 0); leaving = λ k f vs. tt }

module _ (T : RattleType) (g : Ghosts T.Denot) where
  pub latest_send : IsSend (Latest.the_row T g)
  latest_send = record { owned = λ d vs. ((λ vss. (tt, ((λ uss. (tt, tt)), tt))), latest_keyless g.rise d.number); leaving = λ k f vs. tt }

  pub reached_send : IsSend (Reached.the_row T g)
  reached_send = record { owned = λ d vs. ((λ vss. (tt, ((λ uss. (tt, tt)), tt))), reached_keyless g.rise d.number); leaving = λ k f vs. tt }
