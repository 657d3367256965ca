-- How a configuration says to serve.
use Rattle.std.specs.Prelude.{◌≡◌, ◌≢◌, ℕ, codes, Option, Some, None, IsSome, IsNone}
use Rattle.toml.specs.Data.{Data, Members, get_member, as_table}
use Rattle.policy_text.specs.Keys.{key_count}
use Rattle.configuration.specs.declared.configuration.Serve.{Serve}
use Rattle.configuration.specs.declared.configuration.TheConstants.{MAX_WORKERS, MAX_ROUNDS}
use Rattle.configuration.specs.declared.fault.ServeKey.{ServeKey}
use Rattle.configuration.specs.declared.fault.ServeKey.TheVariants.{Serve as Itself, Snmp, Workers, Rounds, Other}
use Rattle.configuration.specs.Numbers.{number_at}
use Rattle.configuration.specs.Sockets.{IsRequired, IsOptional, IsSocket, HasSocket, LacksSocket}

abbrev pub workers_at : Members → Option ℕ
workers_at ms = number_at (codes "workers") 1 MAX_WORKERS ms

abbrev pub rounds_at : Members → Option ℕ
rounds_at ms = number_at (codes "rounds") 1 MAX_ROUNDS ms

-- the table says to serve so, and has no other key
pub record IsServe (ms : Members) (serve : Serve) : Type 0 where
  pub snmp : IsRequired IsSocket (get_member (codes "snmp") ms) serve.snmp
  pub workers : workers_at ms ≡ Some serve.workers
  pub rounds : rounds_at ms ≡ Some serve.rounds
  pub keys : key_count ms ≡ 3

abbrev pub IsServeOf : Option Members → Serve → Type 0
IsServeOf None serve = ⊥
IsServeOf (Some ms) serve = IsServe ms serve

-- the value is a table that says to serve so
abbrev pub IsServeRow : Data → Serve → Type 0
IsServeRow d serve = IsServeOf (as_table d) serve

-- the table says to serve so under `serve`, or it says nothing of it
abbrev pub IsServing : Members → Option Serve → Type 0
IsServing ms o = IsOptional IsServeRow (get_member (codes "serve") ms) o

-- ---- faults

-- This is the first key that is wrong, in the order of these cases.
abbrev pub IsServeFault : Members → ServeKey → Type 0
IsServeFault ms Itself = ⊥
IsServeFault ms Snmp = LacksSocket (codes "snmp") ms
IsServeFault ms Workers = HasSocket (codes "snmp") ms × IsNone (workers_at ms)
IsServeFault ms Rounds =
    HasSocket (codes "snmp") ms × IsSome (workers_at ms) × IsNone (rounds_at ms)
IsServeFault ms Other =
    HasSocket (codes "snmp") ms × IsSome (workers_at ms) × IsSome (rounds_at ms)
    × (key_count ms ≢ 3)

abbrev pub IsFaultOf : Option Members → ServeKey → Type 0
IsFaultOf None key = key ≡ Itself
IsFaultOf (Some ms) key = IsServeFault ms key

-- the value does not say how to serve: it is no table, or this is the first key that is wrong
abbrev pub IsServeRowFault : Data → ServeKey → Type 0
IsServeRowFault d key = IsFaultOf (as_table d) key

abbrev pub IsFaultUnder : Option Data → ServeKey → Type 0
IsFaultUnder None key = ⊥
IsFaultUnder (Some d) key = IsServeRowFault d key

-- what stands under `serve` does not say how to serve, by this key
abbrev pub IsServingFault : Members → ServeKey → Type 0
IsServingFault ms key = IsFaultUnder (get_member (codes "serve") ms) key
