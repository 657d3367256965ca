-- What the turns of each kind of line are made of.
use Rattle.std.proofs.Common.{◌≡◌, ◌∙◌, ℕ, ◌+◌, List, [], ◌∷◌, sym, ap, subst, arith}
use Rattle.std.specs.Prelude.{Option}
use Rattle.wire_core.specs.Acts.{Act}
use Rattle.wire_core.specs.declared.wire.WireFault.{WireFault}
use Rattle.agent_core.specs.Buffered.{Buffered}
use Rattle.history_core.specs.declared.applied.Applied.{Applied}
use Rattle.history_core.specs.declared.event.Event.{Event}
use Rattle.live_lock.specs.Sharing.{entry_count}
use Rattle.live_agent.specs.declared.trace.End.{End}
use Rattle.live_agent.specs.declared.trace.Item.{Item}
use Rattle.live_agent.specs.Turns.{Happening, Turn, items_of, item_of, end_of, entered_in}
use Rattle.live_agent.specs.Runs.{HasTurned, IsBehind}
use Rattle.live_agent.proofs.Running.{entered_one}

-- the event that took its place, with what was sent of it
abbrev pub happening : Event → ℕ → Applied → Buffered → (fault : Option WireFault) → List Act → Happening
happening e made applied buffer fault acts = record { event = e; made = made; applied = applied; buffer = buffer; acts = acts; fault = fault }

pub amount_is : (amount later : ℕ) (applied : Applied) → later ≡ amount + entry_count applied → later ≡ amount + entered_in (item_of applied ∷ [])
amount_is amount later applied is = is ∙ ap (λ (n : ℕ). amount + n) (sym (entered_one applied))

-- a turn of which nothing is recorded
abbrev pub bare_turn : {W D K : Type 0} (went : W → List D → W → Type 0) (kept : K → List Item → K → Type 0) → ((k : K) → kept k [] k) → (does : Turn → List D) (is_turn : Turn → Type 0) (t : Turn) (a b : W) (k : K) (amount : ℕ) (ends : Option End)
    → is_turn t → IsBehind amount t → went a (does t) b → items_of t ≡ [] → ends ≡ end_of t → HasTurned went kept does is_turn a b k k amount amount ends
bare_turn went kept keeps does is_turn t a b k amount ends is behind acts none so =
    let nothing : entered_in (items_of t) ≡ 0 = ap entered_in none in
    record {
      turn = t;
      is = is;
      behind = behind;
      acts = acts;
      recorded = subst (λ (items : List Item). kept k items k) (sym none) (keeps k);
      amount_is = omega (arith, nothing);
      ends_so = so;
    }
