-- The names of a request or a reply that was read can be encoded.
use Rattle.std.proofs.Common.{ℕ, List, [], ◌∷◌, Result, Ok, Err}
use Rattle.std.specs.Prelude.{IfOk}
use Rattle.message_core.specs.declared.cause.DropCause.{DropCause}
use Rattle.message_core.specs.declared.value.Value.{Value}
use Rattle.message_core.specs.declared.value.Value.TheVariants.{Integer, OctetString, Null, ObjectIdentifier, IpAddress, Counter32, Gauge32, TimeTicks, Opaque, Counter64, NoSuchObject, NoSuchInstance, EndOfMibView}
use Rattle.message_core.specs.declared.binding.Binding.{Binding}
use Rattle.message_core.specs.declared.request.Request.{Request}
use Rattle.message_core.specs.declared.reply.Reply.{Reply}
use Rattle.message_core.specs.Message.{IsValue, AreBindings, IsRequest, GivesReply}
use Rattle.message_core.specs.Encodable.{IsEncodableValue, AreEncodable}

value_fits : (octets : List ℕ) (v : Value) → IsValue octets v → IsEncodableValue v
value_fits octets (Integer z) i = tt
value_fits octets (OctetString bytes) i = tt
value_fits octets Null i = tt
value_fits octets (ObjectIdentifier n) i = i.writes.fits.root
value_fits octets (IpAddress bytes) i = tt
value_fits octets (Counter32 n) i = tt
value_fits octets (Gauge32 n) i = tt
value_fits octets (TimeTicks n) i = tt
value_fits octets (Opaque bytes) i = tt
value_fits octets (Counter64 n) i = tt
value_fits octets NoSuchObject i = tt
value_fits octets NoSuchInstance i = tt
value_fits octets EndOfMibView i = tt

bindings_fit : (octets : List ℕ) (bs : List Binding) → AreBindings octets bs → AreEncodable bs
bindings_fit octets [] i = tt
bindings_fit octets (b ∷ bs) i = (record { name = i.2.named.writes.fits.root; value = value_fits i.2.value b.value i.2.valued }, bindings_fit i.1 bs i.4)

pub encodable_by : (d : List ℕ) (r : Result Request DropCause) → IfOk r (λ x. IsRequest d x) → IfOk r (λ x. AreEncodable x.bindings)
encodable_by d (Ok x) i = bindings_fit i.body_is.bindings x.bindings i.body_is.each
encodable_by d (Err e) i = tt

pub reply_encodable_by : (d : List ℕ) (r : Result Reply DropCause) → IfOk r (λ x. GivesReply d x) → IfOk r (λ x. AreEncodable x.bindings)
reply_encodable_by d (Ok x) i = bindings_fit i.body_is.bindings x.bindings i.body_is.each
reply_encodable_by d (Err e) i = tt
