-- What the turns of the line of the control socket are made of.
use Rattle.std.proofs.Common.{◌≡◌, ◌∙◌, ℕ, ◌+◌, List, [], ◌∷◌, ◌++◌, refl, sym, ap, subst, Result, Ok, Err, Vec, Global}
use Rattle.std.specs.Prelude.{Option, None, IsSome, IfOk, OnErr}
use Rattle.std.specs.declared.net.socket_addr.SocketAddr.{SocketAddr}
use Rattle.frame_core.specs.declared.bpdu.Bpdu.{Bpdu}
use Rattle.frame_core.specs.declared.mac.Mac.{Mac}
use Rattle.wire_core.specs.Acts.{Act}
use Rattle.wire_core.specs.declared.wire.WireFault.{WireFault}
use Rattle.history_core.specs.declared.applied.Applied.{Applied}
use Rattle.live_lock.specs.Sharing.{entry_count}
use Rattle.live_sending.specs.Packets.{bpdu_packets}
use Rattle.live_sending.specs.Sending.{Sends}
use Rattle.live_agent.specs.declared.trace.End.{End}
use Rattle.control_text.specs.Commands.{Asked, bad_line, link, counts, policy, cut_policy, long_policy, IsReadAs}
use Rattle.control_text.specs.declared.command.Command.TheVariants.{Counts}
use Rattle.live_control.specs.Answers.{answer_by}
use Rattle.live_control.specs.Deeds.{Deed, all_acted}
use Rattle.live_control.specs.Lines.{HasFinished}
use Rattle.live_control.specs.Turns.{deeds_by, item_of, entered_in, end_after}
use Rattle.live_control.proofs.Running.{entered_one}

pub amount_is : (amount later : ℕ) (applied : Applied) → later ≡ amount + entry_count applied → later ≡ amount + entered_in (item_of applied ∷ [])
amount_is amount later applied is = is ∙ ap (λ (n : ℕ). amount + n) (sym (entered_one applied))

-- an answer of this text was sent, or there was no memory for it
pub answered_by : {W E : Type 0} (did : W → List Deed → W → Type 0) (b c : W) (peer : SocketAddr) (x : List ℕ) (text : Result (Vec ℕ Global) E) (how : Option (Result (Unit {0}) WireFault))
    → IfOk text (λ t. t.items ≡ x) → IfOk text (λ t. IsSome how × did b (deeds_by peer t.items how) c) → OnErr text ((how ≡ None) × did b [] c) → did b (deeds_by peer x how) c
answered_by did b c peer x (Ok t) how says went none =
    subst (λ (l : List ℕ). did b (deeds_by peer l how) c) says went.1
answered_by did b c peer x (Err e) how says went none =
    subst (λ (h : Option (Result (Unit {0}) WireFault)). did b (deeds_by peer x h) c) (sym none.0) none.1

-- what the ports send of an event, and behind it its answer
pub finished : {W : Type 0} (went : W → List Act → W → Type 0) (did : W → List Deed → W → Type 0)
    → ((a b : W) (acts : List Act) → went a acts b → did a (all_acted acts) b)
    → ((a b c : W) (xs ys : List Deed) → did a xs b → did b ys c → did a (xs ++ ys) c)
    → (source : Mac) (peers : List SocketAddr) (peer : SocketAddr) (first : List ℕ) (applied : Applied) (bpdus : List (Option Bpdu)) (a b c : W) (fault : Option WireFault) (how : Option (Result (Unit {0}) WireFault)) (ends : Option End)
    → Sends went a (bpdu_packets source peers bpdus) fault b → did b (deeds_by peer (answer_by source first applied bpdus) how) c
    → ends ≡ end_after applied fault how
    → HasFinished did source peers peer first applied bpdus a c ends
finished went did acts_are on source peers peer first applied bpdus a b c fault how ends sends answered so = record {
  acts = sends.0;
  fault = fault;
  sent = sends.2;
  reply = record { text = answer_by source first applied bpdus; how = how };
  says = refl;
  went = on a b c (all_acted sends.0) (deeds_by peer (answer_by source first applied bpdus) how) (acts_are a b sends.0 sends.1) answered;
  ends_so = so;
}

-- only a command for the counts is read as that
pub asks_counts : (asked : Asked) → IsReadAs asked Counts → asked ≡ counts
asks_counts bad_line is = absurd is
asks_counts (link port up) is = cc
asks_counts counts is = refl
asks_counts (policy text) is = let other = is.2 in cc
asks_counts cut_policy is = absurd is
asks_counts long_policy is = absurd is
