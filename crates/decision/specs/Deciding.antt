-- Who is authorized for what: the decision on a request up to its names, with the keys of its rows (RFC
-- 3584, section 5.2.1; RFC 3415, section 3.2).
use Rattle.std.specs.Prelude.{ℕ, Bool, true, false, ◌==◌, if◌then◌else◌, List, [], length, slice_index_or, Option, Some, None}
use Rattle.message_core.specs.declared.request.Kind.{Kind}
use Rattle.message_core.specs.declared.request.Kind.TheVariants.{Get, GetNext, Set, GetBulk}
use Rattle.message_core.specs.declared.request.Request.{Request}
use Rattle.vacm_core.specs.declared.tables.AccessRow.{AccessRow}
use Rattle.vacm_core.specs.declared.tables.Level.TheVariants.{NoAuthNoPriv}
use Rattle.vacm_core.specs.declared.verdict.Ask.{Ask}
use Rattle.vacm_core.specs.declared.verdict.Verdict.{Verdict}
use Rattle.vacm_core.specs.declared.verdict.Verdict.TheVariants as verdict
use Rattle.vacm_core.specs.declared.verdict.ViewType.{ViewType}
use Rattle.vacm_core.specs.declared.verdict.ViewType.TheVariants.{Read, Write}
use Rattle.vacm_core.specs.Access.{verdict_of}
use Rattle.vacm_core.specs.Tables.{Tables}
use Rattle.community_core.specs.Communities.{PolicyTables, caller_of}
use Rattle.community_core.specs.declared.community.Caller.{Caller}
use Rattle.decision.specs.Keys.{access_key}
use Rattle.decision.specs.declared.choice.Cause.{Cause}
use Rattle.decision.specs.declared.choice.Cause.TheVariants.{UnknownCommunity, NoSuchContext}
use Rattle.decision.specs.declared.choice.Refusal.{Refusal}
use Rattle.decision.specs.declared.choice.Refusal.TheVariants.{NoGroupName, NoAccessEntry, NoSuchView}
use Rattle.decision.specs.declared.choice.Decision.{Decision}
use Rattle.decision.specs.declared.choice.Decision.TheVariants.{Drop, Empty, Refused, Allowed}
use Rattle.decision.specs.declared.keys.AccessKey.{AccessKey}

-- a Set asks for the view to write by, the others for the view to read by
abbrev pub view_type : Kind → ViewType
view_type Get = Read
view_type GetNext = Read
view_type GetBulk = Read
view_type Set = Write

-- what a caller's request asks of the tables: SNMPv2c is security model 2 (RFC 3411,
-- SnmpSecurityModel), with no security
abbrev pub ask_of : Caller → Kind → Ask
ask_of caller kind = record {
  model = 2;
  security = caller.security;
  context = caller.context;
  level = NoAuthNoPriv;
  view = view_type kind;
}

-- read where there is no row
abbrev pub no_access_row : AccessRow
no_access_row = record { group = []; prefix = []; model = 0; level = NoAuthNoPriv; exact = true; read = []; write = []; notify = [] }

-- the key of the access row at a place
abbrev pub access_key_at : List AccessRow → ℕ → AccessKey
access_key_at rows n = access_key (slice_index_or rows n no_access_row)

-- a verdict of the tables, with the keys of its rows
abbrev pub decision_by : List AccessRow → Verdict → Decision
decision_by rows (verdict.NoSuchContext name) = Drop (NoSuchContext name)
decision_by rows (verdict.NoGroupName model name) = Refused (NoGroupName model name)
decision_by rows (verdict.NoAccessEntry group context model level) =
    Refused (NoAccessEntry (record { group = group; prefix = context; model = model; level = level }))
decision_by rows (verdict.NoSuchView n view) = Refused (NoSuchView (access_key_at rows n) view)
decision_by rows (verdict.Allowed n view) = Allowed (access_key_at rows n) view

-- a request that is not dropped and asks for nothing is neither refused nor allowed
abbrev pub decision_on_nothing : Decision → Decision
decision_on_nothing (Drop cause) = Drop cause
decision_on_nothing Empty = Empty
decision_on_nothing (Refused why) = Empty
decision_on_nothing (Allowed row view) = Empty

abbrev pub decision_unless_empty : Bool → Decision → Decision
decision_unless_empty empty decision = if empty then decision_on_nothing decision else decision

abbrev pub decision_for : Tables → Request → Option Caller → Decision
decision_for t request (Some caller) = decision_unless_empty (length request.bindings == 0) (decision_by t.access (verdict_of t (ask_of caller request.kind)))
decision_for t request None = Drop UnknownCommunity

-- The decision on a request: its community, its context, whether it has variable bindings, and what
-- the tables say, in this order.
unfoldable pub decision_on : PolicyTables → Request → Decision
decision_on policy request =
    decision_for policy.vacm request (caller_of policy.communities request.community)
