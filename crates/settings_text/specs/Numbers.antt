-- The numbers that settings have in a text, and which of them a Set may write (RFC 4188, RFC 4318; IEEE
-- 802.1D-2004 17.13, 17.14).
use Rattle.std.specs.Prelude.{ℕ, ℤ, pos, negsuc, List, ◌-◌, ◌%◌, ◌^◌, ◌==◌, ◌&&◌, ◌||◌, Bool, nat_le, if◌then◌else◌, Option, Some, None}
use Rattle.rstp_settings.specs.declared.key.BridgeKey.{BridgeKey}
use Rattle.rstp_settings.specs.declared.key.BridgeKey.TheVariants as bridge
use Rattle.rstp_settings.specs.declared.key.PortKey.{PortKey}
use Rattle.rstp_settings.specs.declared.key.PortKey.TheVariants as port
use Rattle.rstp_settings.specs.declared.key.TheConstants.{MIN_AGING, MAX_AGING}
use Rattle.toml.specs.Data.{Data, Members, as_integer}
use Rattle.policy_text.specs.Keys.{integer_at}
use Rattle.policy_text.specs.Reading.{◌>=>◌}

-- the number, if it is at least and at most these
abbrev pub number_between : ℕ → ℕ → ℤ → Option ℕ
number_between least most (pos n) = if nat_le least n && nat_le n most then Some n else None
number_between least most (negsuc n) = None

-- the number at a key, if the key holds one that is at least and at most these
abbrev pub number_at : List ℕ → ℕ → ℕ → Members → Option ℕ
number_at key least most ms = integer_at key ms >=> number_between least most

-- the number that a value is, if it is an integer of 0 to 2^32 - 1
abbrev pub number_in : Data → Option ℕ
number_in d = as_integer d >=> number_between 0 (2 ^ 32 - 1)

-- what stands in a text, or where nothing does the value at the opening
abbrev pub number_or : ℕ → Option Data → Option ℕ
number_or opening None = Some opening
number_or opening (Some d) = number_in d

abbrev pub is_step : ℕ → ℕ → ℕ → ℕ → Bool
is_step least most step n = nat_le least n && (nat_le n most && n % step == 0)

-- a number that a setting of the bridge may have
abbrev pub is_bridge_value : BridgeKey → ℕ → Bool
is_bridge_value bridge.Priority n = is_step 0 61440 4096 n
is_bridge_value bridge.MaxAge n = is_step 600 4000 100 n
is_bridge_value bridge.Hello n = is_step 100 1000 100 n
is_bridge_value bridge.ForwardDelay n = is_step 400 3000 100 n
is_bridge_value bridge.Version n = n == 0 || n == 2
is_bridge_value bridge.HoldCount n = nat_le 1 n && nat_le n 10
is_bridge_value bridge.Aging n = nat_le MIN_AGING n && nat_le n MAX_AGING

-- a number that a setting of a port may have
abbrev pub is_port_value : PortKey → ℕ → Bool
is_port_value port.Priority n = is_step 0 240 16 n
is_port_value port.Enable n = nat_le 1 n && nat_le n 2
is_port_value port.Cost n = nat_le n 200000000
is_port_value port.Migrate n = nat_le n 1
is_port_value port.Edge n = nat_le 1 n && nat_le n 2
is_port_value port.PointToPoint n = nat_le n 2

abbrev pub if_true : {A : Type 0} → (A → Bool) → A → Option A
if_true test x = if test x then Some x else None
