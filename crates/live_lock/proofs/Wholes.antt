-- An event keeps what holds of the whole of a history.
use Rattle.std.proofs.Common.{◌≡◌, ◌∙◌, ℕ, ◌+◌, ◌-◌, Bool, true, false, List, [], ◌∷◌, ◌++◌, length, slice_get, Option, Some, None, ap, refl, sym, subst, arith, length-append, append_assoc, append-nil}
use Rattle.std.specs.Prelude.{◌==◌, if◌then◌else◌, unwrap_or}
use mathlib.Core.List.{IsPrefix}
use base.Growing.{prefix_trans}
use Rattle.audit_core.specs.declared.audit.Audit.{Audit}
use Rattle.decision.specs.declared.choice.Cause.{Cause}
use Rattle.setphase_core.specs.declared.world.World.{World}
use Rattle.setphase_core.specs.Objects.{ObjectRow}
use Rattle.setphase_core.specs.Registry.{rows_of}
use Rattle.agent_core.specs.Buffered.{Buffered}
use Rattle.history_core.specs.Steps.{Notes, cause_of, failure_octets}
use Rattle.history_core.specs.History.{History, IsHistory, undos_in, step_at, replay, IsEntry, IsLegal, next_of, history_at_new_base, history_before_entry, next_step, next_entry, with_entry, after, IsEntered, Applies}
use Rattle.history_core.specs.declared.applied.Applied.{Applied}
use Rattle.history_core.specs.declared.applied.Applied.TheVariants.{Done, Dropped, Short, HistoryFull}
use Rattle.history_core.specs.declared.entry.Entry.{Entry}
use Rattle.history_core.specs.declared.event.Event.{Event}
use Rattle.history_core.specs.declared.limits.TheConstants.{MAX_ENTRIES}
use Rattle.history_core.specs.declared.receipt.Receipt.{Receipt}
use Rattle.history_core.proofs.Histories.{MayBe, replay-snoc, IsLegal-snoc, entry_steps, entry_is}
use Rattle.history_core.proofs.Stepping.{SameStep}
use Rattle.live_lock.specs.Whole.{world_after, IsLegalFrom, IsWhole, Stands, StandsIn, GrewBy, Grew}

-- ---- one event

module _ (start h : History) (log : List Entry) (whole : IsWhole start log h) where
  pub length_is : length start.entries + length log ≡ length whole.older + length h.entries
  length_is = sym (length-append start.entries log) ∙ (ap length whole.parted ∙ length-append whole.older h.entries)

  pub next_is : next_of h ≡ next_of start + length log
  next_is = omega (arith, length_is, whole.base_number)

  module _ (same_rows : rows_of h.objects ≡ rows_of start.objects) (e : Event) (n : Notes) (m : MayBe h e n) where
    abbrev R : List ObjectRow
    R = rows_of start.objects

    abbrev x : Entry
    x = next_entry h e n

    abbrev all : List Entry
    all = start.entries ++ log

    -- the rows and the world at the entry's place
    abbrev At : Type 0
    At = List ObjectRow × World

    abbrev met : At
    met = (rows_of h.objects, h.world)

    abbrev due : At
    due = (R, replay R start.base all)

    place : met ≡ due
    place i = (same_rows i, whole.world i)

    entry_here : IsEntry R (replay R start.base all) x
    entry_here = subst (λ (t : List ObjectRow × World). IsEntry t.0 t.1 x) place (entry_is h e n m)

    pub steps_here : SameStep (next_step h e n) (step_at R (replay R start.base all) x)
    steps_here = subst (λ (t : List ObjectRow × World). SameStep (next_step h e n) (step_at t.0 t.1 x)) place (entry_steps h e n m)

    longer : start.entries ++ (log ++ x ∷ []) ≡ all ++ x ∷ []
    longer = sym (append_assoc start.entries log (x ∷ []))

    world_later : (next_step h e n).world ≡ world_after start (log ++ x ∷ [])
    world_later = steps_here.world ∙ (sym (replay-snoc R start.base all x) ∙ ap (replay R start.base) (sym longer))

    legal_later : IsLegalFrom start (log ++ x ∷ [])
    legal_later = subst (IsLegal R start.base) (sym longer) (IsLegal-snoc R start.base all x whole.legal entry_here)

    after_by : (b : Bool) → IsWhole start (log ++ x ∷ []) (with_entry (if b then history_at_new_base h else h) e n)
    after_by true = record {
      older = all;
      parted = longer;
      base_number = omega (arith, length_is, whole.base_number, length-append start.entries log);
      base = whole.world;
      world = world_later;
      legal = legal_later;
    }
    after_by false = record {
      older = whole.older;
      parted = longer ∙ (ap (λ (es : List Entry). es ++ x ∷ []) whole.parted ∙ append_assoc whole.older h.entries (x ∷ []));
      base_number = whole.base_number;
      base = whole.base;
      world = world_later;
      legal = legal_later;
    }

    pub after_whole : IsWhole start (log ++ x ∷ []) (after h e n)
    after_whole = after_by (length h.entries == MAX_ENTRIES)

-- ---- the last entry

same_entry : (h : History) (e : Event) (n : Notes) (b : Bool) → next_entry (if b then history_at_new_base h else h) e n ≡ next_entry h e n
same_entry h e n true = refl
same_entry h e n false = refl

last_of : (xs : List Entry) (x y : Entry) → slice_get (xs ++ x ∷ []) (length xs) ≡ Some y → y ≡ x
last_of [] x y is = ap (λ (o : Option Entry). unwrap_or o x) (sym is)
last_of (z ∷ xs) x y is = last_of xs x y is

last_after : (h later : History) (e : Event) (n : Notes) (y : Entry) → later ≡ after h e n → slice_get later.entries (length later.entries - 1) ≡ Some y → y ≡ next_entry h e n
last_after h later e n y same is =
    let before : History = history_before_entry h in
    let x : Entry = next_entry before e n in
    let at : length later.entries - 1 ≡ length before.entries = omega (arith, ap (λ (k : History). length k.entries) same, length-append before.entries (x ∷ [])) in
    let there : slice_get (before.entries ++ x ∷ []) (length before.entries) ≡ Some y = subst (λ (k : ℕ). slice_get (before.entries ++ x ∷ []) k ≡ Some y) at (subst (λ (k : History). slice_get k.entries (length later.entries - 1) ≡ Some y) same is) in
    last_of before.entries x y there ∙ same_entry h e n (length h.entries == MAX_ENTRIES)

-- ---- what became of an event

module _ (start h later : History) (log grown : List Entry) (e : Event) (b : Buffered) (whole : IsWhole start log h) (same_rows : rows_of h.objects ≡ rows_of start.objects) where
  may_be : (r : Receipt) (audit : Option Audit) (did : IsEntered h e r audit later b) → MayBe h e did.notes
  may_be r audit did = record { may = did.may; undos = ap undos_in (sym did.audit_is) ∙ did.same_undos }

  grown_by : (r : Receipt) (audit : Option Audit) (did : IsEntered h e r audit later b) → GrewBy later.entries log grown → grown ≡ log ++ next_entry h e did.notes ∷ []
  grown_by r audit did g = g.grown_is ∙ ap (λ (z : Entry). log ++ z ∷ []) (last_after h later e did.notes g.last did.after_is g.is_last)

  entered-whole : (r : Receipt) (audit : Option Audit) → IsEntered h e r audit later b → GrewBy later.entries log grown → IsWhole start grown later
  entered-whole r audit did g = subst (λ (t : List Entry × History). IsWhole start t.0 t.1) (λ i. (sym (grown_by r audit did g) i, sym did.after_is i)) (after_whole start h log whole same_rows e did.notes (may_be r audit did))

  entered-stands : (r : Receipt) (audit : Option Audit) (cause : Option Cause) → cause_of h.world e ≡ cause → IsEntered h e r audit later b → GrewBy later.entries log grown → Stands start grown e r audit cause b
  entered-stands r audit cause why did g =
      record {
        before = log;
        entry = next_entry h e did.notes;
        behind = [];
        log_is = grown_by r audit did g;
        number = ap (λ (t : Receipt). t.number) did.receipt_is ∙ next_is start h log whole;
        event = refl;
        reported = ap (λ (t : Receipt). t.event) did.receipt_is;
        egress = ap (λ (t : Receipt). t.egress) did.receipt_is;
        reply = ap (λ (t : Receipt). t.reply) did.receipt_is;
        audit_is = did.audit_is;
        cause_is = ap (λ (w : World). cause_of w e) (sym whole.world) ∙ why;
        reply_is = did.reply_is;
        bpdus = did.bpdus_are ∙ (steps_here start h log whole same_rows e did.notes (may_be r audit did)).bpdus;
      }

  same-whole : later ≡ h → grown ≡ log → IsWhole start grown later
  same-whole same is = subst (λ (t : List Entry × History). IsWhole start t.0 t.1) (λ i. (sym is i, sym same i)) whole

  pub applied-whole : (a : Applied) → Applies h e a later b → Grew a later.entries log grown → IsWhole start grown later
  applied-whole (Done r audit) did g = entered-whole r audit did.2 g
  applied-whole (Dropped r cause audit) did g = entered-whole r (Some audit) did.2 g
  applied-whole (Short back) did g = same-whole did.3 g
  applied-whole (HistoryFull back) did g = same-whole did.2 g

  pub applied-stands : (a : Applied) → Applies h e a later b → Grew a later.entries log grown → StandsIn start grown e a b
  applied-stands (Done r audit) did g = entered-stands r audit None did.1 did.2 g
  applied-stands (Dropped r cause audit) did g = entered-stands r (Some audit) (Some cause) did.1 did.2 g
  applied-stands (Short back) did g = (did.2, did.4 ∙ ap (λ (w : World). failure_octets w e) (whole.world ∙ ap (world_after start) (sym g)), did.5)
  applied-stands (HistoryFull back) did g = (ap (λ (l : List Entry). next_of start + length l) g ∙ (sym (next_is start h log whole) ∙ did.0), did.1, did.3, did.4)

pub grew-prefix : (a : Applied) (entries log grown : List Entry) → Grew a entries log grown → IsPrefix log grown
grew-prefix (Done r audit) entries log grown g = (g.last ∷ [], sym g.grown_is)
grew-prefix (Dropped r cause audit) entries log grown g = (g.last ∷ [], sym g.grown_is)
grew-prefix (Short back) entries log grown g = ([], append-nil log ∙ sym g)
grew-prefix (HistoryFull back) entries log grown g = ([], append-nil log ∙ sym g)

pub seen-grown : (a : Applied) (entries seen log grown : List Entry) → IsPrefix seen log → Grew a entries log grown → IsPrefix seen grown
seen-grown a entries seen log grown p g = prefix_trans seen log grown p (grew-prefix a entries log grown g)

pub start-whole : (start kept : History) (log : List Entry) → IsHistory kept → kept ≡ start → log ≡ [] → IsWhole start log kept
start-whole start kept log is same none =
    subst (λ (l : List Entry). IsWhole start l kept) (sym none) (subst (λ (s : History). IsWhole s [] kept) same (record {
      older = [];
      parted = append-nil kept.entries;
      base_number = omega arith;
      base = refl;
      world = is.world_is ∙ ap (replay (rows_of kept.objects) kept.base) (sym (append-nil kept.entries));
      legal = subst (IsLegal (rows_of kept.objects) kept.base) (sym (append-nil kept.entries)) is.legal;
    }))
