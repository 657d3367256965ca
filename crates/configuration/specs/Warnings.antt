-- What is warned of in a configuration that is right: rows that cannot work, or are seldom meant. SNMPv2c
-- asks under the security model 2 and the level 1, noAuthNoPriv (RFC 3584, section 5.2.1; RFC 3411,
-- SnmpSecurityModel and SnmpSecurityLevel).
use Rattle.std.specs.Prelude.{ℕ, pos, ◌==◌, Bool, false, not, ◌&&◌, ◌||◌, if◌then◌else◌, bytes_eq, length, map, take, slice_get, position, List, [], ◌∷◌, ◌++◌, Option, Some, None, option_map}
use Rattle.std.specs.Ordering.{int_eq}
use Rattle.std.specs.List.{list_any, filter_map, flat_map, range_with_len}
use Rattle.std.specs.declared.net.ip_addr.IpAddr.{IpAddr}
use Rattle.std.specs.declared.net.ip_addr.IpAddr.TheVariants.{V4, V6}
use Rattle.std.specs.declared.net.socket_addr.SocketAddr.{SocketAddr}
use Rattle.std.specs.Net.Addr.{ipv4_octets, ipv6_segments}
use Rattle.std.specs.Net.Socket.{socket_ip, socket_port, socket_flowinfo, socket_scope_id}
use Rattle.vacm_core.specs.declared.written.VacmRows.{VacmRows}
use Rattle.vacm_core.specs.declared.written.WrittenGroup.{WrittenGroup}
use Rattle.vacm_core.specs.declared.written.WrittenAccess.{WrittenAccess}
use Rattle.vacm_core.specs.declared.written.WrittenFamily.{WrittenFamily}
use Rattle.vacm_core.specs.Access.{is_known}
use Rattle.vacm_core.specs.Tables.{rows_of}
use Rattle.community_core.specs.declared.community.WrittenCommunity.{WrittenCommunity}
use Rattle.community_core.specs.declared.fault.PolicyTable.{PolicyTable}
use Rattle.community_core.specs.declared.fault.PolicyTable.TheVariants.{Groups, Access, Families, Contexts, Communities}
use Rattle.community_core.specs.declared.policy.PolicyRows.{PolicyRows}
use Rattle.community_core.specs.Communities.{PolicyTables, written_community}
use Rattle.configuration.specs.declared.configuration.Port.{Port}
use Rattle.configuration.specs.declared.configuration.Serve.{Serve}
use Rattle.configuration.specs.declared.configuration.Configuration.{Configuration}
use Rattle.configuration.specs.declared.warning.RowWarning.{RowWarning}
use Rattle.configuration.specs.declared.warning.RowWarning.TheVariants as row
use Rattle.configuration.specs.declared.warning.PortWarning.{PortWarning}
use Rattle.configuration.specs.declared.warning.PortWarning.TheVariants as port
use Rattle.configuration.specs.declared.warning.PortCheck.{PortCheck}
use Rattle.configuration.specs.declared.warning.PortCheck.TheVariants as check
use Rattle.configuration.specs.declared.warning.Warning.{Warning}
use Rattle.configuration.specs.declared.warning.Warning.TheVariants.{NoCommunity, Row, Port as OfPort}

-- ---- what a policy has for a row of it

-- a context that is listed, or the empty one
abbrev pub knows_context : VacmRows → List ℕ → Bool
knows_context vacm context = is_known vacm.contexts context

-- of this security name, under the model of SNMPv2c
abbrev pub is_group_of : List ℕ → WrittenGroup → Bool
is_group_of security row = int_eq row.model (pos 2) && bytes_eq row.name security

-- a group for a security name
abbrev pub has_group : VacmRows → List ℕ → Bool
has_group vacm security = list_any (is_group_of security) vacm.groups

-- an access row of a group
abbrev pub has_access : VacmRows → List ℕ → Bool
has_access vacm group = list_any (λ row. bytes_eq row.group group) vacm.access

-- somebody in a group
abbrev pub has_member : VacmRows → List ℕ → Bool
has_member vacm group = list_any (λ row. bytes_eq row.group group) vacm.groups

-- a family of a view
abbrev pub has_family : VacmRows → List ℕ → Bool
has_family vacm view = list_any (λ row. bytes_eq row.view view) vacm.families

-- an access row names the view: to read, to write or to notify by
abbrev pub names_view : List ℕ → WrittenAccess → Bool
names_view view row = bytes_eq row.read view || bytes_eq row.write view || bytes_eq row.notify view

-- an access row that names a view
abbrev pub has_use : VacmRows → List ℕ → Bool
has_use vacm view = list_any (names_view view) vacm.access

-- ---- which rows are warned of

-- no request of SNMPv2c has this model
abbrev pub has_foreign_model : WrittenGroup → Bool
has_foreign_model row = not (int_eq row.model (pos 2))

-- nor has one the model of this access row, for which 0 is any
abbrev pub has_foreign_access_model : WrittenAccess → Bool
has_foreign_access_model row = not (int_eq row.model (pos 0)) && not (int_eq row.model (pos 2))

-- nor so high a level
abbrev pub has_foreign_level : WrittenAccess → Bool
has_foreign_level row = not (int_eq row.level (pos 1))

-- a view is named that has no family
abbrev pub lacks_family : VacmRows → List ℕ → Bool
lacks_family vacm view = not (length view == 0) && not (has_family vacm view)

abbrev pub holds_of : {R : Type 0} → (R → Bool) → Option R → Bool
holds_of test (Some row) = test row
holds_of test None = false

-- this holds of the row of this number
abbrev pub holds_at : {R : Type 0} → (R → Bool) → List R → ℕ → Bool
holds_at test rows n = holds_of test (slice_get rows n)

-- the row of this number, of the table that the warning is of, is warned of so
abbrev pub is_warned_at : PolicyRows → RowWarning → ℕ → Bool
is_warned_at p row.UnknownContext n = holds_at (λ w. not (knows_context p.vacm w.context)) p.communities n
is_warned_at p row.NoGroup n = holds_at (λ w. not (has_group p.vacm w.security)) p.communities n
is_warned_at p row.GroupModel n = holds_at has_foreign_model p.vacm.groups n
is_warned_at p row.NoAccess n = holds_at (λ w. not (has_access p.vacm w.group)) p.vacm.groups n
is_warned_at p row.AccessModel n = holds_at has_foreign_access_model p.vacm.access n
is_warned_at p row.AccessLevel n = holds_at has_foreign_level p.vacm.access n
is_warned_at p row.NoMember n = holds_at (λ w. not (has_member p.vacm w.group)) p.vacm.access n
is_warned_at p row.NoReadFamily n = holds_at (λ w. lacks_family p.vacm w.read) p.vacm.access n
is_warned_at p row.NoWriteFamily n = holds_at (λ w. lacks_family p.vacm w.write) p.vacm.access n
is_warned_at p row.UnusedView n = holds_at (λ w. not (has_use p.vacm w.view)) p.vacm.families n

-- the table that a warning is of
abbrev pub table_of : RowWarning → PolicyTable
table_of row.UnknownContext = Communities
table_of row.NoGroup = Communities
table_of row.GroupModel = Groups
table_of row.NoAccess = Groups
table_of row.AccessModel = Access
table_of row.AccessLevel = Access
table_of row.NoMember = Access
table_of row.NoReadFamily = Access
table_of row.NoWriteFamily = Access
table_of row.UnusedView = Families

-- how many rows a table has
abbrev pub rows_in : PolicyRows → PolicyTable → ℕ
rows_in p Groups = length p.vacm.groups
rows_in p Access = length p.vacm.access
rows_in p Families = length p.vacm.families
rows_in p Contexts = length p.vacm.contexts
rows_in p Communities = length p.communities

-- ---- a policy

abbrev pub row_warning : PolicyRows → RowWarning → ℕ → Option Warning
row_warning p warning n = if is_warned_at p warning n then Some (Row warning n) else None

-- all rows that are warned of so, in the order of their table
abbrev pub row_warnings : PolicyRows → RowWarning → List Warning
row_warnings p warning =
    filter_map (row_warning p warning) (range_with_len 0 (rows_in p (table_of warning)))

-- what a row may be warned of, in the order in which it is reported
abbrev pub all_row_warnings : List RowWarning
all_row_warnings =
    row.UnknownContext ∷ row.NoGroup ∷ row.GroupModel ∷ row.NoAccess ∷ row.AccessModel ∷ row.AccessLevel
    ∷ row.NoMember ∷ row.NoReadFamily ∷ row.NoWriteFamily ∷ row.UnusedView ∷ []

-- without a community, nobody is answered
abbrev pub no_community : PolicyRows → List Warning
no_community p = if length p.communities == 0 then NoCommunity ∷ [] else []

-- what is warned of in a policy as it is written
abbrev pub warnings_of_rows : PolicyRows → List Warning
warnings_of_rows p = no_community p ++ flat_map (row_warnings p) all_row_warnings

-- a policy as it is written
abbrev pub policy_rows : PolicyTables → PolicyRows
policy_rows p = record { communities = map written_community p.communities; vacm = rows_of p.vacm }

-- what is warned of in a policy
abbrev pub policy_warnings : PolicyTables → List Warning
policy_warnings p = warnings_of_rows (policy_rows p)

-- ---- ports and sockets

abbrev pub same_ip : IpAddr → IpAddr → Bool
same_ip (V4 a) (V4 b) = bytes_eq (ipv4_octets a) (ipv4_octets b)
same_ip (V6 a) (V6 b) = bytes_eq (ipv6_segments a) (ipv6_segments b)
same_ip (V4 a) (V6 b) = false
same_ip (V6 a) (V4 b) = false

-- of one IP address, with its scope, and one port, which is not 0: that stands for any that is free
abbrev pub same_socket : SocketAddr → SocketAddr → Bool
same_socket a b =
    same_ip (socket_ip a) (socket_ip b) && (socket_port a == socket_port b)
    && (socket_flowinfo a == socket_flowinfo b) && (socket_scope_id a == socket_scope_id b)
    && not (socket_port a == 0)

abbrev pub same_address : Option SocketAddr → Option SocketAddr → Bool
same_address (Some a) (Some b) = same_socket a b
same_address (Some a) None = false
same_address None b = false

-- two ports have in common what is compared
abbrev pub shares : PortCheck → Port → Port → Bool
shares check.Ifindex a b = a.config.ifindex == b.config.ifindex
shares check.Listen a b = same_address a.listen b.listen
shares check.Peer a b = same_address a.peer b.peer
shares check.Snmp a b = false
shares check.PeerPort a b = false

-- the first port above this one that shares it
abbrev pub first_of : PortCheck → List Port → ℕ → Option Port → Option ℕ
first_of which ports n (Some port) = position (shares which port) (take n ports)
first_of which ports n None = None

abbrev pub first_sharing : PortCheck → List Port → ℕ → Option ℕ
first_sharing which ports n = first_of which ports n (slice_get ports n)

-- its frames come in where requests do
abbrev pub listens_at : Option Serve → Port → Bool
listens_at (Some serve) port = same_address port.listen (Some serve.snmp)
listens_at None port = false

abbrev pub is_port_0 : Option SocketAddr → Bool
is_port_0 (Some address) = socket_port address == 0
is_port_0 None = false

-- what the port of this number is warned of, by one check
abbrev pub port_warning : List Port → Option Serve → PortCheck → ℕ → Option PortWarning
port_warning ports serve check.Ifindex n = option_map port.SameIfindex (first_sharing check.Ifindex ports n)
port_warning ports serve check.Listen n = option_map port.SameListen (first_sharing check.Listen ports n)
port_warning ports serve check.Peer n = option_map port.SamePeer (first_sharing check.Peer ports n)
port_warning ports serve check.Snmp n =
    if holds_at (listens_at serve) ports n then Some port.ListenIsSnmp else None
port_warning ports serve check.PeerPort n =
    if holds_at (λ p. is_port_0 p.peer) ports n then Some port.PeerPortZero else None

abbrev pub warning_of_port : List Port → Option Serve → PortCheck → ℕ → Option Warning
warning_of_port ports serve which n = option_map (λ w. OfPort w n) (port_warning ports serve which n)

-- all ports that are warned of by one check, in their order
abbrev pub port_warnings : List Port → Option Serve → PortCheck → List Warning
port_warnings ports serve which =
    filter_map (warning_of_port ports serve which) (range_with_len 0 (length ports))

abbrev pub all_port_checks : List PortCheck
all_port_checks = check.Ifindex ∷ check.Listen ∷ check.Peer ∷ check.Snmp ∷ check.PeerPort ∷ []

-- What is warned of in a configuration: of its policy, and behind that of its ports.
abbrev pub warnings_of : Configuration → List Warning
warnings_of c =
    policy_warnings c.policy ++ flat_map (port_warnings c.ports.items c.serve) all_port_checks
