-- One try more.
use Rattle.std.proofs.Common.{◌≡◌, ℕ, List, [], ◌∷◌, ◌++◌, sym, ap, subst, ◌∙◌, arith, append-nil}
use Rattle.std.specs.Prelude.{All}
use Rattle.std.specs.declared.net.socket_addr.SocketAddr.{SocketAddr}
use Rattle.std.proofs.lemmas.List.Elements.{All-append, All-cons}
use Rattle.std.proofs.lemmas.Grind.{flat_map-append}
use Rattle.wire_core.specs.Acts.{Act}
use Rattle.message_core.specs.Canon.{canon_request}
use Rattle.message_core.specs.declared.request.Request.{Request}
use Rattle.manager_core.specs.Asks.{Try, try_acts, ask_acts}

ask_acts-snoc : (peer : SocketAddr) (r : Request) (ts : List Try) (t : Try) → ask_acts peer r (ts ++ t ∷ []) ≡ ask_acts peer r ts ++ try_acts peer (canon_request r) t
ask_acts-snoc peer r ts t =
    flat_map-append (try_acts peer (canon_request r)) ts (t ∷ []) ∙ ap (λ acts. ask_acts peer r ts ++ acts) (append-nil (try_acts peer (canon_request r) t))

pub All-snoc : {X : Type 0} (P : X → Type 0) → (xs : List X) (x : X) → All P xs → P x → All P (xs ++ x ∷ [])
All-snoc P xs x all one = All-append P xs (x ∷ []) all (All-cons P x [] one (λ k d h. absurd (omega arith)))

pub one_try_more : {W : Type 0} (went : W → List Act → W → Type 0) → ((a b c : W) (xs ys : List Act) → went a xs b → went b ys c → went a (xs ++ ys) c) → (a b c : W) (peer : SocketAddr) (r : Request) (octets : List ℕ) (ts : List Try) (t : Try) → octets ≡ canon_request r → went a (ask_acts peer r ts) b → went b (try_acts peer octets t) c → went a (ask_acts peer r (ts ++ t ∷ [])) c
one_try_more went goes_on a b c peer r octets ts t same before last =
    subst (λ acts. went a acts c) (sym (ask_acts-snoc peer r ts t)) (goes_on a b c _ _ before (subst (λ request. went b (try_acts peer request t) c) same last))
