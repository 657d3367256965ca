-- Acts of a wire in memory, one list behind another.
use Rattle.std.proofs.Common.{◌≡◌, List, [], ◌∷◌, ◌++◌, refl, sym, ap, ◌∙◌, append-nil, append_assoc}
use Rattle.wire_core.specs.declared.wire.WireFault.TheVariants.{Receive, Send}
use Rattle.wire_core.specs.declared.memory.WireInput.{WireInput}
use Rattle.wire_core.specs.Acts.{Act, got, quiet, closed, sent, failed}
use Rattle.wire_core.specs.Memory.{MemoryLine, GivesAll, packets_of, GoesInMemory}

packets_of-append : (xs ys : List Act) → packets_of (xs ++ ys) ≡ packets_of xs ++ packets_of ys
packets_of-append [] ys = refl
packets_of-append (got space peer octets ∷ xs) ys = packets_of-append xs ys
packets_of-append (quiet ∷ xs) ys = packets_of-append xs ys
packets_of-append (closed ∷ xs) ys = packets_of-append xs ys
packets_of-append (sent peer octets ∷ xs) ys =
    ap (λ ps. record { peer = peer; octets = octets } ∷ ps) (packets_of-append xs ys)
packets_of-append (failed fault ∷ xs) ys = packets_of-append xs ys

GivesAll-append : (a b c : List WireInput) (xs ys : List Act) → GivesAll a xs b → GivesAll b ys c → GivesAll a (xs ++ ys) c
GivesAll-append a b c [] ys p q = let P : List WireInput → Type 0 = λ left. GivesAll left ys c in rw (sym p) q
GivesAll-append a b c (got space peer octets ∷ xs) ys p q =
    (p.0, p.1, p.2, p.3, p.4, GivesAll-append p.1 b c xs ys p.5 q)
GivesAll-append a b c (quiet ∷ xs) ys p q = (p.0, p.1, GivesAll-append p.0 b c xs ys p.2 q)
GivesAll-append a b c (closed ∷ xs) ys p q = (p.0, GivesAll-append a b c xs ys p.1 q)
GivesAll-append a b c (sent peer octets ∷ xs) ys p q = GivesAll-append a b c xs ys p q
GivesAll-append a b c (failed Receive ∷ xs) ys p q = (p.0, p.1, GivesAll-append p.0 b c xs ys p.2 q)
GivesAll-append a b c (failed Send ∷ xs) ys p q = GivesAll-append a b c xs ys p q

pub starts : (a : MemoryLine) → GoesInMemory a [] a
starts a = record { gives = refl; keeps = sym (append-nil a.sent) }

pub goes_on : (a b c : MemoryLine) (xs ys : List Act) → GoesInMemory a xs b → GoesInMemory b ys c → GoesInMemory a (xs ++ ys) c
goes_on a b c xs ys p q = record {
  gives = GivesAll-append a.left b.left c.left xs ys p.gives q.gives;
  keeps = q.keeps ∙ ap (λ ps. ps ++ packets_of ys) p.keeps ∙ append_assoc a.sent (packets_of xs) (packets_of ys) ∙ ap (λ ps. a.sent ++ ps) (sym (packets_of-append xs ys));
}
