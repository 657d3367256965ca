-- Events that happen one after another.
use Rattle.std.proofs.Common.{◌≡◌, ◌∙◌, ◌⊎◌, ℕ, ◌+◌, ◌<◌, ◌≤◌, ◌==◌, Bool, true, false, not, ◌&&◌, List, [], ◌∷◌, ◌++◌, length, Option, None, Some, ap, sym, refl, subst, inl, inr, arith, append_assoc, append-nil, length-append}
use Rattle.std.specs.List.{list_all}
use Rattle.std.proofs.lemmas.Bool.{cases_Bool}
use Rattle.script_core.specs.Runs.{Adds}
use Rattle.setphase_core.specs.declared.world.World.{World}
use Rattle.frame_core.specs.declared.mac.Mac.{Mac}
use Rattle.audit_core.specs.declared.audit.Audit.{Audit}
use Rattle.decision.specs.declared.choice.Cause.{Cause}
use Rattle.frame_core.specs.declared.bpdu.Bpdu.{Bpdu}
use Rattle.bridge_core.specs.Bridge.{address_of}
use Rattle.agent_core.specs.Buffered.{Buffered}
use Rattle.history_core.specs.History.{History, IsEntered, history_before_entry, next_of, next_step, next_entry, next_receipt, last_number}
use Rattle.history_core.specs.Steps.{Step, MayTakeMemory, cause_of, failure_octets}
use Rattle.history_core.specs.declared.entry.Entry.{Entry}
use Rattle.history_core.specs.declared.event.Event.{Event}
use Rattle.history_core.specs.declared.limits.TheConstants.{MAX_ENTRIES}
use Rattle.history_core.specs.declared.receipt.Receipt.{Receipt}
use Rattle.agent_script.specs.Events.{Met, had_memory, entered, short, is_full, each_met, AreMet, after_event, after_events}
use Rattle.agent_script.specs.Outputs.{receipt_text, bpdu_lines, drop_text, dropped_name, reported_audit, short_text, step_text, event_text, events_text}
use Rattle.agent_script.specs.Sessions.{SaysOfEvents}
use Rattle.agent_script.specs.State.{Agent}

and_true : (a : Bool) → (a && true) ≡ a
and_true true = refl
and_true false = refl

and_assoc : (a b c : Bool) → ((a && b) && c) ≡ (a && (b && c))
and_assoc true b c = refl
and_assoc false b c = refl

-- the agent, with this history
abbrev pub with_history : Agent → History → Agent
with_history a h = record a { history = h }

-- ---- one event

-- whether the last entry's event found all memory
abbrev pub HadSpace : List Entry → Bool → Type 0
HadSpace entries space = (before : List Entry) (last : Entry) → entries ≡ before ++ last ∷ [] → space ≡ had_memory last.no_room last.unnamed

module _ (a : Agent) (e : Event) (receipt : Receipt) (audit : Option Audit) (later : History) (b : Buffered) (p : IsEntered a.history e receipt audit later b) where
  abbrev step : Step
  step = next_step a.history e p.notes

  abbrev bridge_lines : List (Option Bpdu) → List ℕ
  bridge_lines bpdus = bpdu_lines (address_of a.history.world.bridge) 1 bpdus

  entered_by : (cause : Option Cause) (stated : List ℕ) (space : Bool) → cause_of a.history.world e ≡ cause
      → stated ≡ step_text a.is_auditing (address_of a.history.world.bridge) cause e step
      → HadSpace later.entries space → SaysOfEvents e 1 a stated (with_history a later) space
  entered_by cause stated space c text had = record {
    mets = entered p.notes ∷ [];
    count = refl;
    may = ((p.may, p.by_plan), tt);
    text = text
        ∙ ap (λ (x : Option Cause). step_text a.is_auditing (address_of a.history.world.bridge) x e step) (sym c)
        ∙ sym (append-nil (event_text a.is_auditing a.history e (entered p.notes)));
    after = ap (λ (h : History). with_history a h) p.after_is;
    whole_is = had (history_before_entry a.history).entries (next_entry (history_before_entry a.history) e p.notes) (ap (λ (h : History). h.entries) p.after_is)
        ∙ sym (and_true (had_memory p.notes.no_room p.notes.unnamed));
  }

  done_says : (stated : List ℕ) (space : Bool) → cause_of a.history.world e ≡ None
      → stated ≡ receipt_text a.is_auditing receipt audit ++ bridge_lines b.bpdus
      → HadSpace later.entries space → SaysOfEvents e 1 a stated (with_history a later) space
  done_says stated space c text had =
      entered_by None stated space c (text
      ∙ ap (λ (r : Receipt). receipt_text a.is_auditing r audit ++ bridge_lines b.bpdus) p.receipt_is
      ∙ ap (λ (x : Option Audit). receipt_text a.is_auditing (next_receipt a.history e p.notes) x ++ bridge_lines b.bpdus) p.audit_is
      ∙ ap (λ (bs : List (Option Bpdu)). receipt_text a.is_auditing (next_receipt a.history e p.notes) step.audit ++ bridge_lines bs) p.bpdus_are) had

  dropped_says : (cause : Cause) (stated : List ℕ) (space : Bool) → cause_of a.history.world e ≡ Some cause
      → stated ≡ drop_text (dropped_name cause) ++ reported_audit a.is_auditing audit
      → HadSpace later.entries space → SaysOfEvents e 1 a stated (with_history a later) space
  dropped_says cause stated space c text had =
      entered_by (Some cause) stated space c
      (text ∙ ap (λ (x : Option Audit). drop_text (dropped_name cause) ++ reported_audit a.is_auditing x) p.audit_is) had

  -- what was added, by the steps of a body
  pub done_adds : (old reported new : List ℕ) (w : World) (sender : Mac) (bpdus : List (Option Bpdu)) (entries : List Entry) (space : Bool)
      → cause_of a.history.world e ≡ None → w ≡ a.history.world → sender ≡ address_of w.bridge
      → reported ≡ old ++ receipt_text a.is_auditing receipt audit → bpdus ≡ b.bpdus → new ≡ reported ++ bpdu_lines sender 1 bpdus
      → entries ≡ later.entries → HadSpace entries space
      → Adds old new (λ stated. SaysOfEvents e 1 a stated (with_history a later) space)
  done_adds old reported new w sender bpdus entries space c world address first sent second kept had =
      let stated : List ℕ = receipt_text a.is_auditing receipt audit in
      let address_is : sender ≡ address_of a.history.world.bridge = address ∙ ap (λ (x : World). address_of x.bridge) world in
      record {
        stated = stated ++ bridge_lines b.bpdus;
        added = second ∙ ap (λ (l : List ℕ). l ++ bpdu_lines sender 1 bpdus) first
            ∙ append_assoc old stated (bpdu_lines sender 1 bpdus)
            ∙ ap (λ (m : Mac). old ++ (stated ++ bpdu_lines m 1 bpdus)) address_is
            ∙ ap (λ (bs : List (Option Bpdu)). old ++ (stated ++ bridge_lines bs)) sent;
        holds = done_says (stated ++ bridge_lines b.bpdus) space c refl (λ before last is. had before last (kept ∙ is));
      }

  pub dropped_adds : (old new : List ℕ) (cause : Cause) (entries : List Entry) (space : Bool)
      → cause_of a.history.world e ≡ Some cause → new ≡ old ++ (drop_text (dropped_name cause) ++ reported_audit a.is_auditing audit)
      → entries ≡ later.entries → HadSpace entries space
      → Adds old new (λ stated. SaysOfEvents e 1 a stated (with_history a later) space)
  dropped_adds old new cause entries space c added kept had = record {
    stated = drop_text (dropped_name cause) ++ reported_audit a.is_auditing audit;
    added = added;
    holds = dropped_says cause (drop_text (dropped_name cause) ++ reported_audit a.is_auditing audit) space c refl
        (λ before last is. had before last (kept ∙ is));
  }

short_says : (a : Agent) (e : Event) (reply stated : List ℕ) (later : History) → (length a.history.entries ≡ MAX_ENTRIES) ⊎ MayTakeMemory e
    → later ≡ a.history → reply ≡ failure_octets a.history.world e → stated ≡ short_text reply
    → SaysOfEvents e 1 a stated (with_history a later) false
short_says a e reply stated later may same octets text = record {
  mets = short ∷ [];
  count = refl;
  may = (may, tt);
  text = text ∙ ap short_text octets ∙ sym (append-nil (event_text a.is_auditing a.history e short));
  after = ap (λ (h : History). with_history a h) same;
  whole_is = refl;
}

pub short_adds : (a : Agent) (e : Event) (octets reply old new : List ℕ) (later : History) → (length a.history.entries ≡ MAX_ENTRIES) ⊎ MayTakeMemory e
    → later ≡ a.history → reply ≡ failure_octets a.history.world e → octets ≡ reply → new ≡ old ++ short_text octets
    → Adds old new (λ stated. SaysOfEvents e 1 a stated (with_history a later) false)
short_adds a e octets reply old new later may same failure is added = record {
  stated = short_text octets;
  added = added;
  holds = short_says a e octets (short_text octets) later may same (is ∙ failure) refl;
}

-- ---- one more

met_append : (h : History) (e : Event) (ms ns : List Met) → AreMet h (each_met e ms) → AreMet (after_events h (each_met e ms)) (each_met e ns)
    → AreMet h (each_met e (ms ++ ns))
met_append h e [] ns p q = q
met_append h e (m ∷ ms) ns p q = (p.0, met_append (after_event h e m) e ms ns p.1 q)

after_append : (h : History) (e : Event) (ms ns : List Met)
    → after_events h (each_met e (ms ++ ns)) ≡ after_events (after_events h (each_met e ms)) (each_met e ns)
after_append h e [] ns = refl
after_append h e (m ∷ ms) ns = after_append (after_event h e m) e ms ns

text_append : (on : Bool) (h : History) (e : Event) (ms ns : List Met)
    → events_text on h (each_met e (ms ++ ns)) ≡ events_text on h (each_met e ms) ++ events_text on (after_events h (each_met e ms)) (each_met e ns)
text_append on h e [] ns = refl
text_append on h e (m ∷ ms) ns =
    ap (λ (l : List ℕ). event_text on h e m ++ l) (text_append on (after_event h e m) e ms ns)
    ∙ sym (append_assoc (event_text on h e m) (events_text on (after_event h e m) (each_met e ms))
    (events_text on (after_events (after_event h e m) (each_met e ms)) (each_met e ns)))

all_append : (ms ns : List Met) → list_all is_full (ms ++ ns) ≡ (list_all is_full ms && list_all is_full ns)
all_append [] ns = refl
all_append (m ∷ ms) ns = ap (λ (b : Bool). is_full m && b) (all_append ms ns) ∙ sym (and_assoc (is_full m) (list_all is_full ms) (list_all is_full ns))

joined : (e : Event) (n k : ℕ) (a c : Agent) (stated more : List ℕ) (whole full : Bool) (ms : List Met) → length ms ≡ n
    → AreMet a.history (each_met e ms) → stated ≡ events_text a.is_auditing a.history (each_met e ms) → whole ≡ list_all is_full ms
    → SaysOfEvents e k (with_history a (after_events a.history (each_met e ms))) more c full
    → SaysOfEvents e (n + k) a (stated ++ more) c (whole && full)
joined e n k a c stated more whole full ms count may text is q =
    let h : History = after_events a.history (each_met e ms) in
    record {
      mets = ms ++ q.mets;
      count = omega (arith, length-append ms q.mets, count, q.count);
      may = met_append a.history e ms q.mets may q.may;
      text = ap (λ (l : List ℕ). l ++ more) text
          ∙ ap (λ (l : List ℕ). events_text a.is_auditing a.history (each_met e ms) ++ l) q.text
          ∙ sym (text_append a.is_auditing a.history e ms q.mets);
      after = q.after ∙ ap (λ (g : History). with_history a g) (sym (after_append a.history e ms q.mets));
      whole_is = ap (λ (b : Bool). b && full) is
          ∙ ap (λ (b : Bool). list_all is_full ms && b) q.whole_is
          ∙ sym (all_append ms q.mets);
    }

-- an event that happened so many times, and then so many times more
pub says_more : (e : Event) (n k : ℕ) (a b c : Agent) (stated more : List ℕ) (whole full : Bool) → SaysOfEvents e n a stated b whole
    → SaysOfEvents e k b more c full → SaysOfEvents e (n + k) a (stated ++ more) c (whole && full)
says_more e n k a b c stated more whole full p q =
    joined e n k a c stated more whole full p.mets p.count p.may p.text p.whole_is
    (subst (λ (x : Agent). SaysOfEvents e k x more c full) p.after q)

pub says_nothing : (e : Event) (a : Agent) → SaysOfEvents e 0 a [] a true
says_nothing e a = record { mets = []; count = refl; may = tt; text = refl; after = refl; whole_is = refl }

-- ---- numbers

next_moved : (h : History) → next_of (history_before_entry h) ≡ next_of h
next_moved h = elim (cases_Bool (length h.entries == MAX_ENTRIES)) [
  | inl full ↦ rw full (omega arith)
  | inr none ↦ rw none refl
]

next_event : (h : History) (e : Event) (m : Met) → next_of (after_event h e m) ≤ next_of h + 1
next_event h e (entered notes) = omega (arith, next_moved h, length-append (history_before_entry h).entries (next_entry (history_before_entry h) e notes ∷ []))
next_event h e short = omega arith

pub next_events : (h : History) (e : Event) (ms : List Met) → next_of (after_events h (each_met e ms)) ≤ next_of h + length ms
next_events h e [] = omega arith
next_events h e (m ∷ ms) = omega (arith, next_event h e m, next_events (after_event h e m) e ms)

-- no number is left behind so many of more events
pub is_out : (e : Event) (n all : ℕ) (a b : Agent) (stated : List ℕ) (whole : Bool) → SaysOfEvents e n a stated b whole → n < all
    → next_of b.history ≡ last_number → last_number < next_of a.history + all
is_out e n all a b stated whole p lt full =
    omega (arith, lt, full, p.count, next_events a.history e p.mets, ap (λ (x : Agent). next_of x.history) p.after)
