-- No octets encode two things.
use Rattle.std.proofs.Common.{◌≡◌, ℕ, pos, List, [], ◌++◌, length, Result, Ok, refl, sym, ap, ◌∙◌, arith}
use Rattle.message_core.specs.Tags as tags
use Rattle.message_core.specs.Status.{code_of}
use Rattle.message_core.specs.declared.cause.DropCause.{DropCause}
use Rattle.message_core.specs.declared.value.Value.{Value}
use Rattle.message_core.specs.declared.binding.Binding.{Binding}
use Rattle.message_core.specs.declared.request.Request.{Request}
use Rattle.message_core.specs.declared.reply.Reply.{Reply}
use Rattle.message_core.specs.Message.{IsNameTlv, IsValue, IsBinding, AreBindings, IsMessage, IsRequest, IsReply}
use Rattle.ber_core.specs.Reading.{◌>>=◌}
use Rattle.message_core.specs.FirstFault.{any_at, content_at, integer_at, numbers_at, list_of, error_status_of}
use Rattle.message_core.proofs.Readers.{ok_is, any_only, content_reads, integer_reads, nametlv_reads, value_reads, binding_reads, bindings_only}
use Rattle.message_core.proofs.Requests.{alone, content_again, numbers_only, list_only, request_only, status_again}

pub one_name : (octets a b : List ℕ) → IsNameTlv octets a → IsNameTlv octets b → a ≡ b
one_name octets a b i j = ap (λ (p : List ℕ × List ℕ). p.0) (ok_is (a, []) (b, []) (sym (nametlv_reads.only octets a [] i) ∙ nametlv_reads.only octets b [] j))

pub one_value : (octets : List ℕ) (v w : Value) → IsValue octets v → IsValue octets w → v ≡ w
one_value octets v w i j = ap (λ (p : Value × List ℕ). p.0) (ok_is (v, []) (w, []) (sym (value_reads.only octets v [] i) ∙ value_reads.only octets w [] j))

pub one_binding : (octets : List ℕ) (b c : Binding) → IsBinding octets b → IsBinding octets c → b ≡ c
one_binding octets b c i j = ap (λ (p : Binding × List ℕ). p.0) (ok_is (b, []) (c, []) (sym (binding_reads.only octets b [] i) ∙ binding_reads.only octets c [] j))

pub one_list : (octets : List ℕ) (bs cs : List Binding) → AreBindings octets bs → AreBindings octets cs → bs ≡ cs
one_list octets bs cs i j = ok_is bs cs (sym (bindings_only (length octets) octets bs i (omega arith)) ∙ bindings_only (length octets) octets cs j (omega arith))

pub one_request : (octets : List ℕ) (r s : Request) → IsRequest octets r → IsRequest octets s → r ≡ s
one_request octets r s i j = ok_is r s (sym (request_only octets r i) ∙ request_only octets s j)

-- ---- replies: a message of any length, read from left to right

parts_at : List ℕ → Result (List ℕ × List ℕ) DropCause
parts_at octets = content_at tags.sequence octets >>= λ m. integer_at m.0 >>= λ v. content_at tags.octet_string v.1 >>= λ c. any_at c.1 >>= λ p. Ok (c.0, p.1)

parts_only : (octets community : List ℕ) (tag : ℕ) (body : List ℕ) → IsMessage octets community tag body → parts_at octets ≡ Ok (community, body)
unfolding parts_at
parts_only octets community tag body m =
    let e1 = content_again tags.sequence octets (m.version ++ (m.name ++ m.pdu)) [] (alone tags.sequence octets (m.version ++ (m.name ++ m.pdu)) m.framed) in
    let e2 = integer_reads.only m.version (pos 1) (m.name ++ m.pdu) m.version_is in
    let e3 = (content_reads tags.octet_string).only m.name community m.pdu m.community_is in
    let e4 = any_only m.pdu tag body [] (alone tag m.pdu body m.pdu_is) in
    rw (e1, e2, e3, e4) refl

message_at : List ℕ → Result Reply DropCause
message_at octets = parts_at octets >>= λ p. numbers_at p.1 >>= λ n. error_status_of n.1 >>= λ s. list_of n.3 >>= λ bs. Ok (record { id = n.0; status = s; index = n.2; community = p.0; bindings = bs })

message_only : (octets : List ℕ) (r : Reply) → IsReply octets r → message_at octets ≡ Ok r
unfolding message_at
message_only octets r i =
    let e1 = parts_only octets r.community tags.response i.body i.message in
    let e2 = numbers_only i.body r.id (code_of r.status) r.index r.bindings i.body_is in
    let e3 = list_only i.body r.id (code_of r.status) r.index r.bindings i.body_is in
    rw (e1, e2, status_again r.status, e3) refl

pub one_reply : (octets : List ℕ) (r s : Reply) → IsReply octets r → IsReply octets s → r ≡ s
one_reply octets r s i j = ok_is r s (sym (message_only octets r i) ∙ message_only octets s j)
