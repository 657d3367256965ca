-- The variables of a Set together: those that contradict others, ports of static rows that are not
-- there, timers that do not go together, and the refusal of the whole Set (RFC 3416, 4.2.5; RFC 4188
-- dot1dStaticTable; IEEE 802.1D-2004 17.14).
use Rattle.std.specs.Prelude.{ℕ, ◌+◌, ◌*◌, nat_le, Bool, true, false, not, ◌&&◌, if◌then◌else◌, List, [], ◌∷◌, ◌++◌, length, map, slice_get, Option, None}
use Rattle.std.specs.List.{list_any}
use Rattle.message_core.specs.declared.binding.Binding.{Binding}
use Rattle.message_core.specs.declared.status.ErrorStatus.{ErrorStatus}
use Rattle.message_core.specs.declared.status.ErrorStatus.TheVariants as status
use Rattle.bridge_core.specs.Statics.{is_made}
use Rattle.rstp_settings.specs.Table.{get}
use Rattle.rstp_settings.specs.declared.key.Key.TheVariants as key
use Rattle.rstp_settings.specs.declared.key.BridgeKey.{BridgeKey}
use Rattle.rstp_settings.specs.declared.key.BridgeKey.TheVariants as bridge
use Rattle.setting_keys.specs.declared.SettingKey.{SettingKey}
use Rattle.setting_keys.specs.declared.SettingKey.TheVariants.{Bridge, Made, Allowed, FamilyMask, FamilyType}
use Rattle.setphase_core.specs.declared.world.World.{World}
use Rattle.setphase_core.specs.declared.object.Assignment.{Assignment}
use Rattle.setphase_core.specs.declared.sets.SetRefusal.{SetRefusal}
use Rattle.setphase_core.specs.Objects.{ObjectRow}
use Rattle.setphase_core.specs.Settings.{put, same_setting, same_value}
use Rattle.setphase_core.specs.Variables.{NamedAssignment, writings, single_refusals}

-- The world in which settings were given values.
abbrev pub assign : List Assignment → World → World
assign [] w = w
assign (a ∷ ps) w = assign ps (put w a.key a.value)

abbrev pub assignments : List NamedAssignment → List Assignment
assignments ws = map (λ x. x.assignment) ws

-- An earlier variable gives the same setting another value.
abbrev pub contradicts : List Assignment → Assignment → Bool
contradicts earlier a =
    list_any (λ e. same_setting e.key a.key && not (same_value e.value a.value)) earlier

-- The numbers, counted from 1, of the variables that contradict an earlier one.
abbrev pub contradicting : List Assignment → List Assignment → List ℕ
contradicting earlier [] = []
contradicting earlier (a ∷ ps) =
    (if contradicts earlier a then (length earlier + 1) ∷ [] else [])
    ++ contradicting (earlier ++ a ∷ []) ps

-- The numbers of the variables whose settings pass a test; the first of these variables has this
-- number.
abbrev pub numbers_where : (SettingKey → Bool) → ℕ → List Assignment → List ℕ
numbers_where test first [] = []
numbers_where test first (a ∷ ps) =
    (if test a.key then first ∷ [] else []) ++ numbers_where test (first + 1) ps

-- The allowed ports of a static row that is not there.
abbrev pub lacks_row : World → SettingKey → Bool
lacks_row w (Bridge k) = false
lacks_row w (Made i) = false
lacks_row w (Allowed i) = not (is_made w.bridge i)
lacks_row w (FamilyMask n) = false
lacks_row w (FamilyType n) = false

-- The numbers of the variables that write the allowed ports of a row that is not there once all
-- values are in place.
abbrev pub lacking_row : World → List Assignment → List ℕ
lacking_row w ps = numbers_where (lacks_row (assign ps w)) 1 ps

-- A timer of the bridge: maximum age, hello time or forward delay.
abbrev pub is_timer : SettingKey → Bool
is_timer (Bridge (key.Bridge bridge.MaxAge)) = true
is_timer (Bridge (key.Bridge bridge.Hello)) = true
is_timer (Bridge (key.Bridge bridge.ForwardDelay)) = true
is_timer other = false

-- The numbers of the variables that write a timer.
abbrev pub timer_numbers : ℕ → List Assignment → List ℕ
timer_numbers first ps = numbers_where is_timer first ps

abbrev pub timer : World → BridgeKey → ℕ
timer w k = get w.bridge.settings (key.Bridge k)

-- In hundredths of a second.
abbrev pub two_seconds : ℕ
two_seconds = 200

-- 2 x (forward delay - 1 s) >= maximum age >= 2 x (hello time + 1 s) (17.14).
abbrev pub timers_agree : World → Bool
timers_agree w =
    nat_le (timer w bridge.MaxAge + two_seconds) (2 * timer w bridge.ForwardDelay)
    && nat_le (2 * timer w bridge.Hello + two_seconds) (timer w bridge.MaxAge)

-- The numbers of the variables that write timers, where these do not agree once all values are in
-- place.
abbrev pub disagreeing : World → List Assignment → List ℕ
disagreeing w ps = if timers_agree (assign ps w) then [] else timer_numbers 1 ps

abbrev pub joint_refusal : ErrorStatus → ℕ → SetRefusal
joint_refusal s i = record { status = s; index = i; family = None }

-- The refusals of variables that do not go together: for contradictions, for rows that are not
-- there, and for timers, in this order.
abbrev pub joint_refusals : World → List Assignment → List SetRefusal
joint_refusals w ps =
    map (joint_refusal status.InconsistentValue) (contradicting [] ps)
    ++ map (joint_refusal status.InconsistentName) (lacking_row w ps)
    ++ map (joint_refusal status.InconsistentValue) (disagreeing w ps)

-- What a Set in a view is refused for: the first fault of its first faulty variable; where no
-- variable has one, its first variable that contradicts an earlier one; where none does, its first
-- variable that writes the ports of a static row that is not there; and where none does that, its
-- first timer, where the timers do not agree.
abbrev pub refusal_of : List ObjectRow → World → List ℕ → List Binding → Option SetRefusal
refusal_of rows w view bs =
    slice_get (single_refusals rows w view 0 [] bs
    ++ joint_refusals w (assignments (writings rows w bs))) 0
