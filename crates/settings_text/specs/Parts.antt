-- The keys that the tables of a text may have.
use Rattle.std.specs.Prelude.{ℕ, Bool, List}
use Rattle.settings_text.specs.declared.known_keys.Part.{Part}
use Rattle.settings_text.specs.declared.known_keys.Part.TheVariants.{Top, Port, Static}
use Rattle.settings_text.specs.PortRows.{is_port_row_key}
use Rattle.settings_text.specs.StaticRows.{is_static_row_key}
use Rattle.settings_text.specs.Reading.{is_settings_key}

abbrev pub is_key_of : Part → List ℕ → Bool
is_key_of Top key = is_settings_key key
is_key_of Port key = is_port_row_key key
is_key_of Static key = is_static_row_key key
