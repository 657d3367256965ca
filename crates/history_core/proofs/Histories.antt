-- One entry more keeps a history legal.
use Rattle.std.proofs.Common.{◌≡◌, ◌≢◌, ◌∙◌, ℕ, ◌+◌, ◌*◌, ◌^◌, ◌<◌, Bool, true, false, List, [], ◌∷◌, ◌++◌, length, map, Option, Some, None, ap, refl, sym, subst, arith, length-append}
use Rattle.std.specs.Prelude.{◌==◌, if◌then◌else◌}
use Rattle.std.proofs.lemmas.Bool.Decides.{nat_tests}
use Rattle.setphase_core.specs.declared.world.World.{World}
use Rattle.setphase_core.specs.Objects.{ObjectRow, ObjectState, object_after_arm}
use Rattle.setphase_core.proofs.Released.{rows_of-armed}
use Rattle.setphase_core.specs.Registry.{rows_of}
use Rattle.history_core.specs.Steps.{Notes, Step, step_of, MayNote, AreAtRest}
use Rattle.history_core.specs.History.{History, undos_in, notes_of, resting, step_at, EventMet, event_met, events_met, replay, IsEntry, IsLegal, next_of, IsHistory, fresh, history_after_arm, history_at_new_base, next_step, next_entry, with_entry, after, last_number}
use Rattle.history_core.specs.Keeping.{Enters}
use Rattle.history_core.specs.declared.entry.Entry.{Entry}
use Rattle.history_core.specs.declared.event.Event.{Event}
use Rattle.history_core.specs.declared.limits.TheConstants.{MAX_ENTRIES}
use Rattle.history_core.proofs.Stepping.{SameStep, step_over, rows_of-resting, step_rests, fresh-at_rest}

pub replay-snoc : (rows : List ObjectRow) (w : World) (es : List Entry) (e : Entry)
    → replay rows w (es ++ e ∷ []) ≡ (step_at rows (replay rows w es) e).world
replay-snoc rows w [] e = refl
replay-snoc rows w (x ∷ es) e = replay-snoc rows (step_at rows w x).world es e

pub IsLegal-snoc : (rows : List ObjectRow) (w : World) (es : List Entry) (e : Entry) → IsLegal rows w es
    → IsEntry rows (replay rows w es) e → IsLegal rows w (es ++ e ∷ [])
IsLegal-snoc rows w [] e legal is = (is, tt)
IsLegal-snoc rows w (x ∷ es) e legal is = (legal.0, IsLegal-snoc rows (step_at rows w x).world es e legal.1 is)

-- An event may be noted so, and its undone settings are those that its audit has.
pub record MayBe (h : History) (e : Event) (n : Notes) : Type 0 where
  pub may : MayNote (rows_of h.objects) h.world e n
  pub undos : undos_in (next_step h e n).audit ≡ n.devices.undos

noted : (h : History) (e : Event) (n : Notes) → MayBe h e n → notes_of (next_entry h e n) ≡ n
noted h e n m = λ i. record { no_room = n.no_room; devices = record { commit = n.devices.commit; undos = m.undos i }; unnamed = n.unnamed }

-- what the entry's own notes make of the world, over resting objects, is the step
pub entry_steps : (h : History) (e : Event) (n : Notes) → MayBe h e n
    → SameStep (next_step h e n) (step_at (rows_of h.objects) h.world (next_entry h e n))
entry_steps h e n m =
    subst (λ (x : Notes). SameStep (next_step h e n) (step_of (resting (rows_of h.objects)) h.world e x)) (sym (noted h e n m))
    (step_over h.objects (resting (rows_of h.objects)) h.world e n (sym (rows_of-resting (rows_of h.objects))))

pub entry_is : (h : History) (e : Event) (n : Notes) → MayBe h e n → IsEntry (rows_of h.objects) h.world (next_entry h e n)
entry_is h e n m =
    let s = entry_steps h e n m in
    record {
      may = subst (λ (x : Notes). MayNote (rows_of h.objects) h.world e x) (sym (noted h e n m)) m.may;
      egress = s.egress;
      reply = s.reply;
      audit = s.audit;
    }

same_legal : (h : History) (e : Event) (n : Notes) (entries : List Entry) → AreAtRest h.objects
    → IsLegal (rows_of h.objects) h.base entries → IsLegal (rows_of (next_step h e n).objects) h.base entries
same_legal h e n entries rest legal =
    subst (λ (rows : List ObjectRow). IsLegal rows h.base entries) (sym (step_rests h.objects h.world e n rest).rows) legal

same_replay : (h : History) (e : Event) (n : Notes) (entries : List Entry) (w : World) → AreAtRest h.objects
    → w ≡ replay (rows_of h.objects) h.base entries → w ≡ replay (rows_of (next_step h e n).objects) h.base entries
same_replay h e n entries w rest is =
    is ∙ ap (λ (rows : List ObjectRow). replay rows h.base entries) (sym (step_rests h.objects h.world e n rest).rows)

-- one entry more, where there is space for it
with_entry-ok : (h : History) (e : Event) (n : Notes) → MayBe h e n → IsLegal (rows_of h.objects) h.base h.entries
    → h.world ≡ replay (rows_of h.objects) h.base h.entries → AreAtRest h.objects → length h.entries < MAX_ENTRIES
    → (k : ℕ) × (h.base_number ≡ h.first + MAX_ENTRIES * k) → next_of h < last_number → IsHistory (with_entry h e n)
with_entry-ok h e n m legal world_is rest space blocks fits =
    let len = length-append h.entries (next_entry h e n ∷ []) in
    let entry = subst (λ (w : World). IsEntry (rows_of h.objects) w (next_entry h e n)) world_is (entry_is h e n m) in
    record {
      legal = same_legal h e n (h.entries ++ next_entry h e n ∷ []) rest (IsLegal-snoc (rows_of h.objects) h.base h.entries (next_entry h e n) legal entry);
      world_is = same_replay h e n (h.entries ++ next_entry h e n ∷ []) (next_step h e n).world rest
          ((entry_steps h e n m).world
          ∙ ap (λ (w : World). (step_at (rows_of h.objects) w (next_entry h e n)).world) world_is
          ∙ sym (replay-snoc (rows_of h.objects) h.base h.entries (next_entry h e n)));
      at_rest = (step_rests h.objects h.world e n rest).at_rest;
      at_most = omega (arith, len);
      fits = omega (arith, len);
      blocks = blocks;
      one_kept = λ none. absurd (omega (arith, len));
    }

after-ok_by : (h : History) (e : Event) (n : Notes) (b : Bool) → (length h.entries == MAX_ENTRIES) ≡ b → IsHistory h
    → MayBe h e n → next_of h < last_number → IsHistory (with_entry (if b then history_at_new_base h else h) e n)
after-ok_by h e n true is ok m fits =
    let full : length h.entries ≡ MAX_ENTRIES = grind (arith, nat_tests) in
    with_entry-ok (history_at_new_base h) e n (record { may = m.may; undos = m.undos }) tt refl ok.at_rest (omega arith)
    (ok.blocks.0 + 1, omega (arith, ok.blocks.1, full)) (omega (arith, fits))
after-ok_by h e n false is ok m fits =
    let other : length h.entries ≢ MAX_ENTRIES = grind (arith, nat_tests) in
    let most = ok.at_most in
    with_entry-ok h e n m ok.legal ok.world_is ok.at_rest (omega (arith, most, other)) ok.blocks fits

-- an event keeps a history legal
pub after-ok : (h : History) (e : Event) (n : Notes) → IsHistory h → MayBe h e n → next_of h < last_number
    → IsHistory (after h e n)
after-ok h e n ok m fits = after-ok_by h e n (length h.entries == MAX_ENTRIES) refl ok m fits

-- a fresh history is one
pub fresh-ok : (objects : List ObjectState) (w : World) (n : ℕ) → n < 2 ^ 64 → IsHistory (fresh objects w n)
fresh-ok objects w n fits = record {
  legal = tt;
  world_is = refl;
  at_rest = fresh-at_rest objects;
  at_most = omega arith;
  fits = omega (arith, fits);
  blocks = (0, omega arith);
  one_kept = λ none. refl;
}

-- ---- what `enter` leaves

-- the history of these fields, in which an event has happened
abbrev pub entered : History → Event → Notes → List Entry → World → ℕ → World → List ObjectState → History
entered h e n entries base base_number world objects = record h {
  entries = entries;
  base = base;
  base_number = base_number;
  world = world;
  objects = objects;
}

entered-is_by : (h : History) (e : Event) (n : Notes) (b : Bool) (new : Option World) (entry : Entry) (entries : List Entry) (base : World) (base_number : ℕ)
    → new ≡ (if b then Some h.world else None)
    → Enters new (next_of h) h.entries h.base h.base_number entry entries base base_number
    → entry ≡ next_entry h e n
    → entered h e n entries base base_number (next_step h e n).world (next_step h e n).objects
    ≡ with_entry (if b then history_at_new_base h else h) e n
entered-is_by h e n true None entry entries base base_number is moves en = cc
entered-is_by h e n true (Some new) entry entries base base_number is moves en =
    let same : new ≡ h.world = cc in
    λ i. entered h e n ((moves.0 ∙ ap (λ (x : Entry). x ∷ []) en) i) ((moves.1 ∙ same) i) (moves.2 i) (next_step h e n).world (next_step h e n).objects
entered-is_by h e n false (Some new) entry entries base base_number is moves en = cc
entered-is_by h e n false None entry entries base base_number is moves en =
    λ i. entered h e n ((moves.0 ∙ ap (λ (x : Entry). h.entries ++ x ∷ []) en) i) (moves.1 i) (moves.2 i) (next_step h e n).world (next_step h e n).objects

space_by : (h : History) (b : Bool) → (length h.entries == MAX_ENTRIES) ≡ b → (new : Option World) → IsHistory h
    → new ≡ (if b then Some h.world else None) → new ≡ None → length h.entries < MAX_ENTRIES
space_by h true test new ok is none = cc
space_by h false test new ok is none =
    let other : length h.entries ≢ MAX_ENTRIES = grind (arith, nat_tests) in
    let most = ok.at_most in omega (arith, most, other)

-- where the base does not move there is space for one more
pub space-is : (h : History) (new : Option World) → IsHistory h
    → new ≡ (if length h.entries == MAX_ENTRIES then Some h.world else None) → new ≡ None → length h.entries < MAX_ENTRIES
space-is h new ok is none = space_by h (length h.entries == MAX_ENTRIES) refl new ok is none

-- what `enter` leaves is the history after the event, and it is legal
pub entered-ok : (h : History) (e : Event) (n : Notes) (next : ℕ) (new : Option World) (entry : Entry) (entries : List Entry) (base : World) (base_number : ℕ) (world : World) (objects : List ObjectState)
    → IsHistory h → MayBe h e n → next ≡ next_of h → next_of h < last_number
    → new ≡ (if length h.entries == MAX_ENTRIES then Some h.world else None)
    → Enters new next h.entries h.base h.base_number entry entries base base_number
    → entry ≡ next_entry h e n → world ≡ (next_step h e n).world → objects ≡ (next_step h e n).objects
    → (entered h e n entries base base_number world objects ≡ after h e n)
    × IsHistory (entered h e n entries base base_number world objects)
entered-ok h e n next new entry entries base base_number world objects ok m number fits is moves en world_is objects_are =
    let moves' = subst (λ (k : ℕ). Enters new k h.entries h.base h.base_number entry entries base base_number) number moves in
    let same : entered h e n entries base base_number world objects ≡ after h e n =
    (λ i. entered h e n entries base base_number (world_is i) (objects_are i))
    ∙ entered-is_by h e n (length h.entries == MAX_ENTRIES) new entry entries base base_number is moves' en in
    (same, subst (λ (x : History). IsHistory x) (sym same) (after-ok h e n ok m fits))

-- ---- one base and the same happenings make one history

entry_same : (rows : List ObjectRow) (w : World) (a b : Entry) → IsEntry rows w a → IsEntry rows w b
    → event_met a ≡ event_met b → a ≡ b
entry_same rows w a b is other e =
    let step : step_at rows w a ≡ step_at rows w b = ap (λ (x : EventMet). step_of (resting rows) w x.event x.notes) e in
    let egress = is.egress ∙ ap (λ (s : Step). s.egress) step ∙ sym other.egress in
    let reply = is.reply ∙ ap (λ (s : Step). s.reply) step ∙ sym other.reply in
    let audit = is.audit ∙ ap (λ (s : Step). s.audit) step ∙ sym other.audit in
    λ i. record {
      event = (e i).event;
      no_room = (e i).notes.no_room;
      failed = (e i).notes.devices.commit;
      unnamed = (e i).notes.unnamed;
      egress = egress i;
      reply = reply i;
      audit = audit i;
    }

head_same : (a b : EventMet) (xs ys : List EventMet) → a ∷ xs ≡ b ∷ ys → (a ≡ b) × (xs ≡ ys)
head_same a b xs ys e = (cc, cc)

pub one_history : (rows : List ObjectRow) (w : World) (es others : List Entry) → IsLegal rows w es → IsLegal rows w others
    → events_met es ≡ events_met others → es ≡ others
one_history rows w [] [] legal other e = refl
one_history rows w [] (b ∷ ys) legal other e = cc
one_history rows w (a ∷ xs) [] legal other e = cc
one_history rows w (a ∷ xs) (b ∷ ys) legal other e =
    let both = head_same (event_met a) (event_met b) (events_met xs) (events_met ys) e in
    let first = entry_same rows w a b legal.0 other.0 both.0 in
    let rest = subst (λ (x : Entry). IsLegal rows (step_at rows w x).world ys) (sym first) other.1 in
    λ i. first i ∷ one_history rows (step_at rows w a).world xs ys legal.1 rest both.1 i

-- ---- a plan

at_rest-armed : (plan : ℕ) (os : List ObjectState) → AreAtRest os
    → AreAtRest (map (object_after_arm plan) os)
at_rest-armed plan [] h = tt
at_rest-armed plan (o ∷ os) h = (h.0, at_rest-armed plan os h.1)

-- Devices that are armed keep a history legal.
pub armed-ok : (h : History) (plan : ℕ) → IsHistory h → IsHistory (history_after_arm plan h)
armed-ok h plan ok =
    let same : rows_of h.objects ≡ rows_of (map (object_after_arm plan) h.objects)
    = sym (rows_of-armed plan h.objects) in
    record {
      legal = subst (λ (rows : List ObjectRow). IsLegal rows h.base h.entries) same ok.legal;
      world_is = ok.world_is ∙ ap (λ (rows : List ObjectRow). replay rows h.base h.entries) same;
      at_rest = at_rest-armed plan h.objects ok.at_rest;
      at_most = ok.at_most;
      fits = ok.fits;
      blocks = ok.blocks;
      one_kept = ok.one_kept;
    }
