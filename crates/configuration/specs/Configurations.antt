-- What a TOML table, or a text, says as a configuration, and its first fault.
use Rattle.std.specs.Prelude.{◌≡◌, ◌⊎◌, ℕ, codes, if◌then◌else◌, List, Option, Some, None}
use Rattle.toml.specs.Data.{Members, no_members, member, same_key}
use Rattle.toml.specs.Parse.{parse_document}
use Rattle.frame_core.specs.declared.mac.Mac.{Mac}
use Rattle.policy_text.specs.Policies.{IsPolicy, IsUnread, IsWrongPolicy, TakesMemory as PolicyTakesMemory}
use Rattle.policy_text.specs.Texts.{text_of}
use Rattle.configuration.specs.declared.configuration.Port.{Port}
use Rattle.configuration.specs.declared.configuration.Serve.{Serve}
use Rattle.configuration.specs.declared.configuration.Configuration.{Configuration}
use Rattle.configuration.specs.declared.fault.ConfigurationFault.{ConfigurationFault}
use Rattle.configuration.specs.declared.fault.ConfigurationFault.TheVariants.{Memory, BadOctets, BadText, BadAddress, BadPorts, BadPort, BadServe, BadKeys, Policy}
use Rattle.configuration.specs.Lines.{IsBadText}
use Rattle.configuration.specs.Address.{address_of}
use Rattle.configuration.specs.Ports.{ArePorts, port_rows}
use Rattle.configuration.specs.PortFaults.{IsBadPort}
use Rattle.configuration.specs.Serving.{IsServing, IsServingFault}
use Rattle.configuration.specs.PolicyKeys.{HasKeys, IsKeysFault}

-- the members but the one of this key
abbrev pub without : List ℕ → Members → Members
without key no_members = no_members
without key (member other d ms) = if same_key key other then ms else member other d (without key ms)

-- what is left for the policy
abbrev pub policy_members : Members → Members
policy_members ms = without (codes "serve") (without (codes "port") (without (codes "address") ms))

-- the table says this configuration
pub record IsConfiguration (ms : Members) (c : Configuration) : Type 0 where
  pub address : address_of ms ≡ Some c.address
  pub ports : ArePorts ms c.ports.items
  pub serve : IsServing ms c.serve
  pub policy : IsPolicy (policy_members ms) c.policy

abbrev pub HasAddress : Members → Type 0
HasAddress ms = (address : Mac) × (address_of ms ≡ Some address)

abbrev pub HasPorts : Members → Type 0
HasPorts ms = (ports : List Port) × ArePorts ms ports

abbrev pub HasServing : Members → Type 0
HasServing ms = (serve : Option Serve) × IsServing ms serve

-- this is the first fault of what is left for the policy: of its keys, then of their values
abbrev pub IsRestFault : Members → ConfigurationFault → Type 0
IsRestFault ms Memory = ⊥
IsRestFault ms BadOctets = ⊥
IsRestFault ms (BadText line) = ⊥
IsRestFault ms BadAddress = ⊥
IsRestFault ms BadPorts = ⊥
IsRestFault ms (BadPort n key) = ⊥
IsRestFault ms (BadServe key) = ⊥
IsRestFault ms (BadKeys key) = IsKeysFault ms key
IsRestFault ms (Policy e) = HasKeys ms × (IsUnread ms e ⊎ IsWrongPolicy ms e)

-- this is the first fault of the table: of its address, its ports, its way to serve, its policy
abbrev pub IsFault : Members → ConfigurationFault → Type 0
IsFault ms Memory = ⊥
IsFault ms BadOctets = ⊥
IsFault ms (BadText line) = ⊥
IsFault ms BadAddress = address_of ms ≡ None
IsFault ms BadPorts = HasAddress ms × (port_rows ms ≡ None)
IsFault ms (BadPort n key) = HasAddress ms × IsBadPort ms n key
IsFault ms (BadServe key) = HasAddress ms × HasPorts ms × IsServingFault ms key
IsFault ms (BadKeys key) =
    HasAddress ms × HasPorts ms × HasServing ms × IsRestFault (policy_members ms) (BadKeys key)
IsFault ms (Policy e) =
    HasAddress ms × HasPorts ms × HasServing ms × IsRestFault (policy_members ms) (Policy e)

-- Where reading the table may take memory: its address, its ports and its way to serve are right,
-- and reading its policy takes memory.
pub record TakesMemory (ms : Members) : Type 0 where
  pub address : HasAddress ms
  pub ports : HasPorts ms
  pub serve : HasServing ms
  pub policy : PolicyTakesMemory (policy_members ms)

-- the text is a TOML document that says this configuration
abbrev pub IsConfigurationText : List ℕ → Configuration → Type 0
IsConfigurationText text c = (ms : Members) × (parse_document text ≡ Some ms) × IsConfiguration ms c

-- the text is no TOML document, or one with this first fault
abbrev pub IsTextFault : List ℕ → ConfigurationFault → Type 0
IsTextFault text e =
    ((parse_document text ≡ None) × IsBadText text e)
    ⊎ ((ms : Members) × (parse_document text ≡ Some ms) × IsFault ms e)

-- the octets are a text that says this configuration
abbrev pub IsConfigurationIn : List ℕ → Configuration → Type 0
IsConfigurationIn octets c =
    (text : List ℕ) × (text_of octets ≡ Some text) × IsConfigurationText text c

-- the octets are no text, or one with this first fault
abbrev pub IsFaultIn : List ℕ → ConfigurationFault → Type 0
IsFaultIn octets e =
    ((text_of octets ≡ None) × (e ≡ BadOctets))
    ⊎ ((text : List ℕ) × (text_of octets ≡ Some text) × IsTextFault text e)
