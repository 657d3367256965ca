-- What is sent by the size rule.
use Rattle.std.proofs.Common.{◌≡◌, ℕ, pos, ◌<◌, ◌≤◌, List, [], ◌+◌, ◌-◌, length, drop, take, take_all, refl, ap, sym, ◌∙◌, subst, arith}
use Rattle.std.proofs.lemmas.Bool.{lt-ltb, le-ltb}
use Rattle.message_core.specs.Canon.{canon_reply}
use Rattle.message_core.specs.declared.limits.TheConstants.{MAX_REPLY}
use Rattle.message_core.specs.declared.reply.Reply.{Reply}
use Rattle.message_core.specs.declared.status.ErrorStatus.TheVariants.{TooBig}
use Rattle.agent_core.specs.Replies.{reply_within_limit}
use Rattle.agent_core.specs.Answers.{IsSent}

-- a reply that fits is sent
pub sized-fits : (r : Reply) → length (canon_reply r) ≤ MAX_REPLY → reply_within_limit r ≡ r
unfolding reply_within_limit
sized-fits r fits = rw (le-ltb _ _ fits) refl

-- a reply that does not fit is sent as tooBig
pub sized-long : (r : Reply) → MAX_REPLY < length (canon_reply r) → reply_within_limit r ≡ record r { status = TooBig; index = pos 0; bindings = [] }
unfolding reply_within_limit
sized-long r long = rw (lt-ltb _ _ long) refl

-- the end of a buffer, from a place on
pub end_of : (start : ℕ) (octets buffer : List ℕ) → start + length octets ≡ MAX_REPLY → drop start buffer ≡ octets → take (MAX_REPLY - start) (drop (MAX_REPLY - (MAX_REPLY - start)) buffer) ≡ octets
end_of start octets buffer at_end is =
    ap (λ (n : ℕ). take (MAX_REPLY - start) (drop n buffer)) (omega (arith, at_end)) ∙ (ap (take (MAX_REPLY - start)) is ∙ take_all (MAX_REPLY - start) octets (omega (arith, at_end)))

-- what is put of a reply that fits
pub sent_fits : (r : Reply) (len : ℕ) (octets : List ℕ) → length (canon_reply r) ≤ MAX_REPLY → octets ≡ canon_reply r → len ≡ length (canon_reply r) →
    IsSent (reply_within_limit r) (record { length = len; status = r.status; index = r.index }) octets
sent_fits r len octets fits o l =
    subst (λ (reply : Reply). IsSent reply (record { length = len; status = r.status; index = r.index }) octets) (sym (sized-fits r fits))
    (record { octets = o; len = l; status = refl; index = refl })

-- what is put in place of one that does not
pub sent_long : (r : Reply) (len : ℕ) (octets : List ℕ) → MAX_REPLY < length (canon_reply r) →
    octets ≡ canon_reply (record r { status = TooBig; index = pos 0; bindings = [] }) → len ≡ length (canon_reply (record r { status = TooBig; index = pos 0; bindings = [] })) →
    IsSent (reply_within_limit r) (record { length = len; status = TooBig; index = pos 0 }) octets
sent_long r len octets long o l =
    subst (λ (reply : Reply). IsSent reply (record { length = len; status = TooBig; index = pos 0 }) octets) (sym (sized-long r long))
    (record { octets = o; len = l; status = refl; index = refl })
