-- The text of an audit: the PDU type of the request, then 'drop' and why it is dropped (RFC 3418,
-- snmpInBadCommunityNames; RFC 3413, snmpUnknownContexts), or the reply's status and index (RFC
-- 3416, section 3), the decision (RFC 3415, section 3.2) with the key of its row, the denied
-- bindings, and the settings that a Set could not restore (RFC 3416, 4.2.5).
use Rattle.std.specs.Prelude.{ℕ, codes, decimal, List, [], ◌∷◌, ◌++◌, Option, Some, None}
use Rattle.std.specs.Fmt.{signed_decimal}
use Rattle.std.specs.List.{flat_map}
use Rattle.oid_core.specs.Text.{dotted_text}
use Rattle.message_core.specs.declared.request.Kind.{Kind}
use Rattle.message_core.specs.declared.request.Kind.TheVariants.{Get, GetNext, GetBulk, Set}
use Rattle.message_core.specs.Status.{code_of}
use Rattle.vacm_core.specs.Levels.{level_number}
use Rattle.decision.specs.declared.choice.Cause.{Cause}
use Rattle.decision.specs.declared.choice.Cause.TheVariants.{UnknownCommunity, NoSuchContext}
use Rattle.decision.specs.declared.choice.Refusal.{Refusal}
use Rattle.decision.specs.declared.choice.Refusal.TheVariants.{NoGroupName, NoAccessEntry, NoSuchView}
use Rattle.decision.specs.declared.choice.Decision.{Decision}
use Rattle.decision.specs.declared.choice.Decision.TheVariants.{Drop, Empty, Refused, Allowed}
use Rattle.decision.specs.declared.keys.AccessKey.{AccessKey}
use Rattle.rstp_settings.specs.declared.key.BridgeKey.{BridgeKey}
use Rattle.rstp_settings.specs.declared.key.BridgeKey.TheVariants.{Priority, MaxAge, Hello, ForwardDelay, Version, HoldCount, Aging}
use Rattle.rstp_settings.specs.declared.key.PortKey.{PortKey}
use Rattle.rstp_settings.specs.declared.key.PortKey.TheVariants.{Priority as PortPriority, Enable, Cost, Migrate, Edge, PointToPoint}
use Rattle.rstp_settings.specs.declared.key.Key.{Key}
use Rattle.rstp_settings.specs.declared.key.Key.TheVariants.{Bridge, Port}
use Rattle.audit_core.specs.declared.keys.FamilyKey.{FamilyKey}
use Rattle.audit_core.specs.declared.denied.Denied.{Denied}
use Rattle.audit_core.specs.declared.audit.Audit.{Audit}

abbrev pub kind_text : Kind → List ℕ
kind_text Get = codes "get"
kind_text GetNext = codes "next"
kind_text GetBulk = codes "bulk"
kind_text Set = codes "set"

-- the level by its number
abbrev pub access_text : AccessKey → List ℕ
access_text key =
    codes "access(" ++ key.group ++ codes "," ++ key.prefix ++ codes "," ++ decimal key.model ++ codes ","
    ++ decimal (level_number key.level) ++ codes ")"

abbrev pub family_text : FamilyKey → List ℕ
family_text key = codes "family(" ++ key.view ++ codes "," ++ dotted_text key.subtree ++ codes ")"

-- the family that excludes a name, if one does
abbrev pub deciding_text : Option FamilyKey → List ℕ
deciding_text (Some key) = family_text key
deciding_text None = codes "none"

abbrev pub denied_text : Denied → List ℕ
denied_text denied =
    codes " denied " ++ decimal denied.index ++ codes " " ++ deciding_text denied.family

-- a setting of the bridge as a whole
abbrev pub bridge_key_text : BridgeKey → List ℕ
bridge_key_text Priority = codes "priority"
bridge_key_text MaxAge = codes "maxage"
bridge_key_text Hello = codes "hello"
bridge_key_text ForwardDelay = codes "fwddelay"
bridge_key_text Version = codes "version"
bridge_key_text HoldCount = codes "holdcount"
bridge_key_text Aging = codes "aging"

-- a setting of a port
abbrev pub port_key_text : PortKey → List ℕ
port_key_text PortPriority = codes "portpriority"
port_key_text Enable = codes "enable"
port_key_text Cost = codes "cost"
port_key_text Migrate = codes "migrate"
port_key_text Edge = codes "edge"
port_key_text PointToPoint = codes "p2p"

-- a setting by its name, a port's with the number of the port
abbrev pub key_text : Key → List ℕ
key_text (Bridge key) = bridge_key_text key
key_text (Port port key) = port_key_text key ++ codes "(" ++ decimal port ++ codes ")"

-- a setting that a Set left at its new value, since undoing failed (RFC 3416, 4.2.5)
abbrev pub unrestored_text : Key → List ℕ
unrestored_text key = codes " unrestored " ++ key_text key

-- a view that there is not: with no name, or of no family
abbrev pub named_view_text : List ℕ → List ℕ
named_view_text [] = codes "empty"
named_view_text (octet ∷ octets) = codes "view " ++ octet ∷ octets

-- why a request is dropped
abbrev pub cause_text : Cause → List ℕ
cause_text UnknownCommunity = codes "unknownCommunity"
cause_text (NoSuchContext name) = codes "noSuchContext " ++ name

-- why a request is refused
abbrev pub refusal_text : Refusal → List ℕ
refusal_text (NoGroupName model name) =
    codes "noGroupName group(" ++ decimal model ++ codes "," ++ name ++ codes ")"
refusal_text (NoAccessEntry asked) = codes "noAccessEntry " ++ access_text asked
refusal_text (NoSuchView row view) =
    codes "noSuchView " ++ access_text row ++ codes " " ++ named_view_text view

-- by which row a request is authorized, and to which view
unfoldable pub leave_text : AccessKey → List ℕ → List ℕ
leave_text row view = codes "ok " ++ access_text row ++ codes " view " ++ view

-- what stands behind the PDU type where there is a reply: its status and index, the decision, the
-- denied bindings, and the settings that are not restored
abbrev pub reply_text : Audit → List ℕ → List ℕ
reply_text audit decision =
    signed_decimal (code_of audit.status) ++ codes " " ++ signed_decimal audit.index ++ codes " "
    ++ decision ++ flat_map denied_text audit.denied ++ flat_map unrestored_text audit.unrestored

-- what stands behind the PDU type
abbrev pub stated_text : Audit → Decision → List ℕ
stated_text audit (Drop cause) = codes "drop " ++ cause_text cause
stated_text audit Empty = reply_text audit (codes "empty")
stated_text audit (Refused why) = reply_text audit (refusal_text why)
stated_text audit (Allowed row view) = reply_text audit (leave_text row view)

abbrev pub audit_text : Audit → List ℕ
audit_text audit = kind_text audit.kind ++ codes " " ++ stated_text audit audit.decision
