-- What a request leaves of the policy: all but masks and types of view families that a Set writes.
use Rattle.std.proofs.Common.{◌≡◌, ◌≢◌, ℕ, ◌∙◌, refl, sym, ap, Bool, true, false, not, List, [], ◌∷◌, All, Option, Some, None}
use Rattle.std.proofs.lemmas.List.Elements.{All-head, All-tail}
use Rattle.vacm_core.specs.declared.tables.FamilyRow.{FamilyRow}
use Rattle.community_core.specs.Communities.{PolicyTables, with_families}
use Rattle.message_core.specs.declared.request.Kind.{Kind}
use Rattle.message_core.specs.declared.request.Kind.TheVariants.{Get, GetNext, Set, GetBulk}
use Rattle.message_core.specs.declared.request.Request.{Request}
use Rattle.decision.specs.Deciding.{decision_on}
use Rattle.decision.specs.declared.keys.AccessKey.{AccessKey}
use Rattle.decision.specs.declared.choice.Cause.TheVariants.{UnknownCommunity, NoSuchContext}
use Rattle.decision.specs.declared.choice.Decision.{Decision}
use Rattle.decision.specs.declared.choice.Decision.TheVariants.{Drop, Empty, Refused, Allowed}
use Rattle.rstp_settings.specs.declared.key.Key.{Key}
use Rattle.setting_keys.specs.declared.SettingKey.{SettingKey}
use Rattle.setting_keys.specs.declared.SettingKey.TheVariants.{Bridge, Made, Allowed as Ports_of, FamilyMask, FamilyType}
use Rattle.setting_keys.specs.declared.SettingValue.{SettingValue}
use Rattle.setting_keys.specs.declared.SettingValue.TheVariants.{Number, Ports, Mask}
use Rattle.setphase_core.specs.declared.sets.SetRefusal.{SetRefusal}
use Rattle.setphase_core.specs.declared.world.World.{World}
use Rattle.setphase_core.specs.Objects.{ObjectState}
use Rattle.setphase_core.specs.Outcomes.{SetNotes, world_by as left_by, world_after_set}
use Rattle.setphase_core.specs.Registry.{rows_of}
use Rattle.setphase_core.specs.Settings.{families_of, mask_at, type_at, put, included_by, bridge_keys, same_settings_of, with_marks_of}
use Rattle.setphase_core.specs.Together.{assign, assignments, refusal_of}
use Rattle.setphase_core.specs.Variables.{NamedAssignment, writings}
use Rattle.setphase_core.proofs.FamilyPuts.{marks_itself, mask_elsewhere, mask_kept, type_elsewhere, type_kept}
use Rattle.setphase_core.proofs.Kept.{set_keeps, stuck_keeps_policy}
use Rattle.agent_core.specs.Answers.{RequestNotes, world_by, world_after, step_of, step_by, allowed_step}
use Rattle.agent_core.specs.Sets.{is_too_long, settled, settled_world, set_step}

-- ---- each family keeps its view and its subtree

-- The policy has the rows of before, but for masks and types.
abbrev pub KeepsRows : World → World → Type 0
KeepsRows w after =
    after.policy ≡ with_families w.policy (with_marks_of (families_of after) (families_of w))

kept_rows : (w after : World) → after.policy ≡ w.policy → KeepsRows w after
kept_rows w after e =
    e ∙ ap (with_families w.policy)
    (sym (ap (λ (p : PolicyTables). with_marks_of p.vacm.families (families_of w)) e ∙ marks_itself (families_of w)))

-- Settling changes no policy.
settled_policy : (before after : World) → (settled_world before after).policy ≡ after.policy
unfolding settled_world
settled_policy before after = by (not (same_settings_of before after))
  where
    by : (b : Bool) → (settled b after).policy ≡ after.policy
    by true = refl
    by false = refl

settled_rows : (w after : World) → KeepsRows w after → KeepsRows w (settled_world w after)
settled_rows w after h =
    settled_policy w after ∙ h
    ∙ ap (λ (p : PolicyTables). with_families w.policy (with_marks_of p.vacm.families (families_of w))) (sym (settled_policy w after))

set_rows : (refusal : Option SetRefusal) (ws : List NamedAssignment) (w : World) (notes : SetNotes) → KeepsRows w (world_after_set refusal ws w notes)
set_rows refusal ws w notes =
    ap (λ (x : World). x.policy) (set_keeps refusal ws w (world_after_set refusal ws w notes) notes refl)

set_step_rows : (objects : List ObjectState) (world : World) (view : List ℕ) (request : Request) (notes : SetNotes)
    → KeepsRows world (set_step objects world view request notes).world
unfolding set_step
set_step_rows objects world view request notes = by (is_too_long request) refl
  where
    by : (b : Bool) → is_too_long request ≡ b → KeepsRows world (set_step objects world view request notes).world
    by true e = rw e (kept_rows world world refl)
    by false e =
        rw e (settled_rows world _ (set_rows (refusal_of (rows_of objects) world view request.bindings) (writings (rows_of objects) world request.bindings) world notes))

-- A request that writes nothing leaves the policy.
decided_policy : (world : World) (decision : Decision) → (world_by world decision).policy ≡ world.policy
decided_policy world (Drop UnknownCommunity) = refl
decided_policy world (Drop (NoSuchContext name)) = refl
decided_policy world Empty = refl
decided_policy world (Refused why) = refl
decided_policy world (Allowed row view) = refl

read_policy : (world : World) (request : Request) → (world_after world request).policy ≡ world.policy
unfolding world_after
read_policy world request = decided_policy world (decision_on world.policy request)

kind_rows : (objects : List ObjectState) (world : World) (request : Request) (notes : RequestNotes) (row : AccessKey) (view : List ℕ) (kind : Kind)
    → KeepsRows world (allowed_step objects world request notes row view kind).world
kind_rows objects world request notes row view Get = kept_rows world (world_after world request) (read_policy world request)
kind_rows objects world request notes row view GetNext = kept_rows world (world_after world request) (read_policy world request)
kind_rows objects world request notes row view GetBulk = kept_rows world (world_after world request) (read_policy world request)
kind_rows objects world request notes row view Set = set_step_rows objects world view request notes.devices

decided_rows : (objects : List ObjectState) (world : World) (request : Request) (notes : RequestNotes) (decision : Decision)
    → KeepsRows world (step_by objects world request notes decision).world
decided_rows objects world request notes (Drop cause) = kept_rows world (world_after world request) (read_policy world request)
decided_rows objects world request notes Empty = kept_rows world (world_after world request) (read_policy world request)
decided_rows objects world request notes (Refused why) = kept_rows world (world_after world request) (read_policy world request)
decided_rows objects world request notes (Allowed row view) = kind_rows objects world request notes row view request.kind

pub rows_law : (objects : List ObjectState) (world : World) (request : Request) (notes : RequestNotes)
    → KeepsRows world (step_of objects world request notes).world
unfolding step_of
rows_law objects world request notes = decided_rows objects world request notes (decision_on world.policy request)

-- ---- another request than a Set leaves the policy

kind_policy : (objects : List ObjectState) (world : World) (request : Request) (notes : RequestNotes) (row : AccessKey) (view : List ℕ) (kind : Kind)
    → kind ≢ Set → (allowed_step objects world request notes row view kind).world.policy ≡ world.policy
kind_policy objects world request notes row view Get other = read_policy world request
kind_policy objects world request notes row view GetNext other = read_policy world request
kind_policy objects world request notes row view GetBulk other = read_policy world request
kind_policy objects world request notes row view Set other = absurd (other refl)

by_policy : (objects : List ObjectState) (world : World) (request : Request) (notes : RequestNotes) (decision : Decision)
    → request.kind ≢ Set → (step_by objects world request notes decision).world.policy ≡ world.policy
by_policy objects world request notes (Drop cause) other = read_policy world request
by_policy objects world request notes Empty other = read_policy world request
by_policy objects world request notes (Refused why) other = read_policy world request
by_policy objects world request notes (Allowed row view) other =
    kind_policy objects world request notes row view request.kind other

pub reads_law : (objects : List ObjectState) (world : World) (request : Request) (notes : RequestNotes)
    → request.kind ≢ Set → (step_of objects world request notes).world.policy ≡ world.policy
unfolding step_of
reads_law objects world request notes other = by_policy objects world request notes (decision_on world.policy request) other

-- ---- a mask or a type that no variable writes stays

-- The setting is written by none of these.
abbrev pub WritesNot : SettingKey → List NamedAssignment → Type 0
WritesNot k ws = All (λ x. x.assignment.key ≢ k) ws

mask_after_put : (n : ℕ) (w : World) (k : SettingKey) (v : SettingValue) → k ≢ FamilyMask n → mask_at (families_of (put w k v)) n ≡ mask_at (families_of w) n
mask_after_put n w (Bridge k) (Number a) other = refl
mask_after_put n w (Bridge k) (Ports s) other = refl
mask_after_put n w (Bridge k) (Mask m) other = refl
mask_after_put n w (Made i) (Number a) other = refl
mask_after_put n w (Made i) (Ports s) other = refl
mask_after_put n w (Made i) (Mask m) other = refl
mask_after_put n w (Ports_of i) (Number a) other = refl
mask_after_put n w (Ports_of i) (Ports s) other = refl
mask_after_put n w (Ports_of i) (Mask m) other = refl
mask_after_put n w (FamilyMask k) (Number a) other = refl
mask_after_put n w (FamilyMask k) (Ports s) other = refl
mask_after_put n w (FamilyMask k) (Mask m) other =
    mask_elsewhere (families_of w) k n m (λ e. other (ap FamilyMask e))
mask_after_put n w (FamilyType k) (Number t) other = mask_kept (families_of w) k n (included_by t)
mask_after_put n w (FamilyType k) (Ports s) other = refl
mask_after_put n w (FamilyType k) (Mask m) other = refl

type_after_put : (n : ℕ) (w : World) (k : SettingKey) (v : SettingValue) → k ≢ FamilyType n → type_at (families_of (put w k v)) n ≡ type_at (families_of w) n
type_after_put n w (Bridge k) (Number a) other = refl
type_after_put n w (Bridge k) (Ports s) other = refl
type_after_put n w (Bridge k) (Mask m) other = refl
type_after_put n w (Made i) (Number a) other = refl
type_after_put n w (Made i) (Ports s) other = refl
type_after_put n w (Made i) (Mask m) other = refl
type_after_put n w (Ports_of i) (Number a) other = refl
type_after_put n w (Ports_of i) (Ports s) other = refl
type_after_put n w (Ports_of i) (Mask m) other = refl
type_after_put n w (FamilyMask k) (Number a) other = refl
type_after_put n w (FamilyMask k) (Ports s) other = refl
type_after_put n w (FamilyMask k) (Mask m) other = type_kept (families_of w) k n m
type_after_put n w (FamilyType k) (Number t) other =
    type_elsewhere (families_of w) k n (included_by t) (λ e. other (ap FamilyType e))
type_after_put n w (FamilyType k) (Ports s) other = refl
type_after_put n w (FamilyType k) (Mask m) other = refl

mask_after : (n : ℕ) (ws : List NamedAssignment) (w : World) → WritesNot (FamilyMask n) ws → mask_at (families_of (assign (assignments ws) w)) n ≡ mask_at (families_of w) n
mask_after n [] w h = refl
mask_after n (x ∷ ws) w h =
    mask_after n ws (put w x.assignment.key x.assignment.value) (All-tail (λ (y : NamedAssignment). y.assignment.key ≢ FamilyMask n) x ws h)
    ∙ mask_after_put n w x.assignment.key x.assignment.value (All-head (λ (y : NamedAssignment). y.assignment.key ≢ FamilyMask n) x ws h)

type_after : (n : ℕ) (ws : List NamedAssignment) (w : World) → WritesNot (FamilyType n) ws → type_at (families_of (assign (assignments ws) w)) n ≡ type_at (families_of w) n
type_after n [] w h = refl
type_after n (x ∷ ws) w h =
    type_after n ws (put w x.assignment.key x.assignment.value) (All-tail (λ (y : NamedAssignment). y.assignment.key ≢ FamilyType n) x ws h)
    ∙ type_after_put n w x.assignment.key x.assignment.value (All-head (λ (y : NamedAssignment). y.assignment.key ≢ FamilyType n) x ws h)

-- What is read of the policy's families, where the variables that are written leave it.
module _ {A : Type 0} (read : List FamilyRow → A) (ws : List NamedAssignment) (w : World)
    (assigned : read (families_of (assign (assignments ws) w)) ≡ read (families_of w)) where
  left_after : (commit : Option ℕ) (keys : List Key) → read (families_of (left_by ws w commit (bridge_keys keys))) ≡ read (families_of w)
  left_after None keys = assigned
  left_after (Some i) keys = ap (λ (p : PolicyTables). read p.vacm.families) (stuck_keeps_policy ws i keys w)

  left_by_set : (refusal : Option SetRefusal) (notes : SetNotes) → read (families_of (world_after_set refusal ws w notes)) ≡ read (families_of w)
  left_by_set (Some refusal) notes = refl
  left_by_set None notes = left_after notes.commit notes.undos

module _ {A : Type 0} (read : List FamilyRow → A) (objects : List ObjectState) (world : World) (request : Request)
    (assigned : read (families_of (assign (assignments (writings (rows_of objects) world request.bindings)) world)) ≡ read (families_of world)) where
  left_in_view : (view : List ℕ) (notes : SetNotes) → read (families_of (set_step objects world view request notes).world) ≡ read (families_of world)
  unfolding set_step
  left_in_view view notes = by (is_too_long request) refl
    where
      by : (b : Bool) → is_too_long request ≡ b → read (families_of (set_step objects world view request notes).world) ≡ read (families_of world)
      by true e = rw e refl
      by false e =
          rw e
          (ap (λ (p : PolicyTables). read p.vacm.families) (settled_policy world _)
          ∙ left_by_set read (writings (rows_of objects) world request.bindings) world assigned (refusal_of (rows_of objects) world view request.bindings) notes)

  left_by_reading : (after : World) → after.policy ≡ world.policy → read (families_of after) ≡ read (families_of world)
  left_by_reading after e = ap (λ (p : PolicyTables). read p.vacm.families) e

  left_by_kind : (notes : RequestNotes) (row : AccessKey) (view : List ℕ) (kind : Kind) → read (families_of (allowed_step objects world request notes row view kind).world) ≡ read (families_of world)
  left_by_kind notes row view Get = left_by_reading (world_after world request) (read_policy world request)
  left_by_kind notes row view GetNext = left_by_reading (world_after world request) (read_policy world request)
  left_by_kind notes row view GetBulk = left_by_reading (world_after world request) (read_policy world request)
  left_by_kind notes row view Set = left_in_view view notes.devices

  left_by_decision : (notes : RequestNotes) (decision : Decision) → read (families_of (step_by objects world request notes decision).world) ≡ read (families_of world)
  left_by_decision notes (Drop cause) = left_by_reading (world_after world request) (read_policy world request)
  left_by_decision notes Empty = left_by_reading (world_after world request) (read_policy world request)
  left_by_decision notes (Refused why) = left_by_reading (world_after world request) (read_policy world request)
  left_by_decision notes (Allowed row view) = left_by_kind notes row view request.kind

  left_by_step : (notes : RequestNotes) → read (families_of (step_of objects world request notes).world) ≡ read (families_of world)
  unfolding step_of
  left_by_step notes = left_by_decision notes (decision_on world.policy request)

pub masks_law : (objects : List ObjectState) (world : World) (request : Request) (notes : RequestNotes) (n : ℕ)
    → WritesNot (FamilyMask n) (writings (rows_of objects) world request.bindings)
    → mask_at (families_of (step_of objects world request notes).world) n ≡ mask_at (families_of world) n
masks_law objects world request notes n h =
    left_by_step (λ rows. mask_at rows n) objects world request (mask_after n (writings (rows_of objects) world request.bindings) world h) notes

pub types_law : (objects : List ObjectState) (world : World) (request : Request) (notes : RequestNotes) (n : ℕ)
    → WritesNot (FamilyType n) (writings (rows_of objects) world request.bindings)
    → type_at (families_of (step_of objects world request notes).world) n ≡ type_at (families_of world) n
types_law objects world request notes n h =
    left_by_step (λ rows. type_at rows n) objects world request (type_after n (writings (rows_of objects) world request.bindings) world h) notes
