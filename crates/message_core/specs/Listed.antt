-- The bindings that a message lists.
use Rattle.std.specs.Prelude.{List}
use Rattle.message_core.specs.declared.binding.Binding.{Binding}
use Rattle.message_core.specs.declared.writing.Listed.{Listed}
use Rattle.message_core.specs.declared.writing.Listed.TheVariants.{Bindings, Encoded}

abbrev pub listed_bindings : Listed → List Binding
listed_bindings (Bindings bindings) = bindings.now
listed_bindings (Encoded bindings) = bindings.now
