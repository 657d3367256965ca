-- What the octets of a policy's file say: a policy alone, or a whole configuration with its policy.
use Rattle.std.specs.Prelude.{◌≡◌, ◌⊎◌, ℕ, ◌≤◌, Bool, true, false, not, ◌||◌, is_some, codes, List, ◌++◌, Option, Some, None}
use Rattle.toml.specs.Data.{Members, get_member, members_depth}
use Rattle.toml.specs.Parse.{parse_document}
use Rattle.toml.specs.Text.{IsDocumentText}
use Rattle.community_core.specs.Communities.{PolicyTables}
use Rattle.policy_text.specs.Policies.{IsPolicy, TakesMemory as PolicyTakesMemory}
use Rattle.policy_text.specs.Texts.{text_of}
use Rattle.configuration.specs.declared.configuration.Configuration.{Configuration}
use Rattle.configuration.specs.declared.fault.ConfigurationFault.{ConfigurationFault}
use Rattle.configuration.specs.declared.fault.ConfigurationFault.TheVariants.{Memory, BadOctets, BadText, BadAddress, BadPorts, BadPort, BadServe, BadKeys, Policy}
use Rattle.configuration.specs.declared.fault.PolicyKey.TheVariants.{Other}
use Rattle.configuration.specs.declared.known_keys.Part.TheVariants as part
use Rattle.configuration.specs.Lines.{IsBadText}
use Rattle.configuration.specs.Configurations.{policy_members, IsRestFault, IsConfiguration, IsFault, TakesMemory, IsConfigurationIn, IsFaultIn}
use Rattle.configuration.specs.KnownKeys.{unknown_key}
use Rattle.configuration.specs.Details.{members_in, unknown_rule, IsSentenceIn}

-- a key of the top level is there
abbrev pub has_key : List ℕ → Members → Bool
has_key key ms = is_some (get_member key ms)

-- the table is of a whole configuration: it has a key that a policy has not
unfoldable pub is_whole : Members → Bool
is_whole ms =
    has_key (codes "address") ms || (has_key (codes "port") ms || has_key (codes "serve") ms)

-- the table says this policy, as part of a whole configuration, or alone
abbrev pub SaysPolicy : Bool → Members → PolicyTables → Type 0
SaysPolicy true ms policy =
    (c : Configuration) × IsConfiguration ms c × (policy ≡ c.policy)
SaysPolicy false ms policy = IsPolicy ms policy

-- its first fault
abbrev pub HasFault : Bool → Members → ConfigurationFault → Type 0
HasFault true ms e = IsFault ms e
HasFault false ms e = IsRestFault ms e

-- where reading it may take memory
abbrev pub MayTakeMemory : Bool → Members → Type 0
MayTakeMemory true ms = TakesMemory ms
MayTakeMemory false ms = PolicyTakesMemory ms

-- the text is a TOML document that says this policy
abbrev pub IsPolicyText : List ℕ → PolicyTables → Type 0
IsPolicyText text policy =
    (ms : Members) × (parse_document text ≡ Some ms) × SaysPolicy (is_whole ms) ms policy

-- the text is no TOML document, or one with this first fault
abbrev pub IsPolicyTextFault : List ℕ → ConfigurationFault → Type 0
IsPolicyTextFault text e =
    ((parse_document text ≡ None) × IsBadText text e)
    ⊎ ((ms : Members) × (parse_document text ≡ Some ms) × HasFault (is_whole ms) ms e)

-- the octets of a file are a text that says this policy
abbrev pub IsPolicyIn : List ℕ → PolicyTables → Type 0
IsPolicyIn octets policy =
    (text : List ℕ) × (text_of octets ≡ Some text) × IsPolicyText text policy

-- the octets are no text, or one with this first fault
abbrev pub IsPolicyFaultIn : List ℕ → ConfigurationFault → Type 0
IsPolicyFaultIn octets e =
    ((text_of octets ≡ None) × (e ≡ BadOctets))
    ⊎ ((text : List ℕ) × (text_of octets ≡ Some text) × IsPolicyTextFault text e)

-- ---- the policy of a configuration, as a text of its own

-- The text writes what the octets of a configuration have for its policy, and nothing else. Read again it
-- is the same, unless a value stands deeper than TOML's reader goes.
pub record IsPart (octets text : List ℕ) : Type 0 where
  pub members : Members
  pub read : members_in octets ≡ Some members
  pub written : IsDocumentText false (policy_members members) text
  pub reads_back : members_depth (policy_members members) ≤ 80
      → parse_document text ≡ Some (policy_members members)

-- what is a policy alone for the octets of a file: of a configuration the text of its policy; nothing for
-- octets that are no configuration, which stand for themselves
abbrev pub IsPartIn : List ℕ → Option (List ℕ) → Type 0
IsPartIn octets (Some text) =
    (c : Configuration) × IsConfigurationIn octets c × IsPart octets text
IsPartIn octets None = (e : ConfigurationFault) × IsFaultIn octets e

-- ---- what an operator reads

-- the sentence on the keys of a policy alone, where one is unknown
abbrev pub alone_keys_sentence : Members → List ℕ
alone_keys_sentence ms =
    codes "top level: " ++
    unknown_rule (unknown_key part.Top ms)
    (codes "its keys are to be contexts, community, group, access and family, and no others")

-- whether a fault of a table is that of the keys of a policy alone, where one is unknown
abbrev pub is_unknown_alone : Members → ConfigurationFault → Bool
is_unknown_alone ms (BadKeys Other) = not (is_whole ms)
is_unknown_alone ms fault = false

-- the sentence on a fault of octets that write this table, by whether it is that one
abbrev pub IsSentenceOf : Bool → Members → List ℕ → ConfigurationFault → List ℕ → Type 0
IsSentenceOf true ms octets fault text = text ≡ alone_keys_sentence ms
IsSentenceOf false ms octets fault text = IsSentenceIn octets fault text

-- the same of octets that write this table, if they write one
abbrev pub IsSentenceBy : Option Members → List ℕ → ConfigurationFault → List ℕ → Type 0
IsSentenceBy (Some ms) octets fault text =
    IsSentenceOf (is_unknown_alone ms fault) ms octets fault text
IsSentenceBy None octets fault text = IsSentenceIn octets fault text

-- The sentence on this fault of the octets of a policy's file.
abbrev pub IsPolicySentenceIn : List ℕ → ConfigurationFault → List ℕ → Type 0
IsPolicySentenceIn octets fault text = IsSentenceBy (members_in octets) octets fault text
