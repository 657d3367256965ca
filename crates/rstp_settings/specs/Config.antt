-- What is configured of a port, and what its settings mean by it (IEEE 802.1D-2004 6.4.3,
-- 17.14).
use Rattle.std.specs.Prelude.{ℕ, Bool, false, ◌&&◌, ◌||◌, if◌then◌else◌, ◌==◌}
use Rattle.rstp_settings.specs.declared.key.TheConstants.{POINT_TO_POINT_TRUE, POINT_TO_POINT_AUTO}
use Rattle.rstp_settings.specs.declared.config.PortConfig.{PortConfig}

-- A speed in Mb/s that a port may have.
abbrev pub is_speed : ℕ → Bool
is_speed speed = speed == 10 || speed == 100 || speed == 1000

-- The default cost of a speed in Mb/s (17.14).
abbrev pub default_cost : ℕ → ℕ
default_cost speed = if speed == 10 then 2000000 else (if speed == 100 then 200000 else 20000)

-- The cost in use is the setting, or where that is 0 the default (17.14).
abbrev pub cost_in_use : ℕ → ℕ → ℕ
cost_in_use setting speed = if setting == 0 then default_cost speed else setting

-- 6.4.3. Forced true, forced false, or by full duplex.
abbrev pub is_point_to_point : ℕ → Bool → Bool
is_point_to_point setting full =
    setting == POINT_TO_POINT_TRUE || (setting == POINT_TO_POINT_AUTO && full)

-- Where there is no port.
abbrev pub no_config : PortConfig
no_config = record { ifindex = 0; speed = 0; full = false }
