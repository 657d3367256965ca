-- That a history under a lock may be shared by threads, where its objects may go from one to another.
use denote.RattleType.{RattleType}
use denote.Param.Send.{IsSend, IsSync, sendable, recorded_send, struct_send, enum_send, view_send, AllSend}
use denote.Struct.Declared as S
use denote.Enum.Declared as E
use denote.Struct.Struct.{Struct}
use denote.Enum.Enum.{Enum}
use denote.Hole.FixSend.{fix_send, Sends}
use denote.Hole.FixLaws.{layer_row}
use Rattle.std.proofs.Crossing.{crosses}
use Rattle.vacm_core.specs.contracts.radix.Radix as Radix
use Rattle.vacm_core.specs.contracts.radix.Branch as Branch
use Rattle.vacm_core.specs.contracts.radix.Segment as Segment
use Rattle.vacm_core.specs.contracts.radix.Radix.TheKnot as Knot
use Rattle.vacm_core.specs.declared.radix.Radix.TheBlock as block
use Rattle.vacm_core.specs.contracts.bitmaps.Bitmap as Bitmap
use Rattle.vacm_core.specs.contracts.bitmaps.Digit as Digit
use Rattle.vacm_core.specs.contracts.bitmaps.Bitmap.TheKnot as BitKnot
use Rattle.vacm_core.specs.declared.bitmaps.Bitmap.TheBlock as bits
use Rattle.vacm_core.specs.contracts.bitmaps.PlaceBitmap as place_bitmap
use Rattle.vacm_core.specs.contracts.bitmaps.Block as row_block
use Rattle.vacm_core.proofs.bitmaps.Rest.TheSendSync as rest
use Rattle.vacm_core.specs.contracts.families.Families as families
use Rattle.vacm_core.specs.contracts.families.Families.TheInside as families_inside
use Rattle.vacm_core.proofs.rows.Rows.TheSendSync as rows
use Rattle.vacm_core.proofs.tables.FamilyRow.TheSendSync as family_row
use Rattle.vacm_core.proofs.tables.GroupRow.TheSendSync as group_row
use Rattle.vacm_core.proofs.tables.AccessRow.TheSendSync as access_row
use Rattle.vacm_core.proofs.name.Name.TheSendSync as name
use Rattle.vacm_core.specs.contracts.vacm.Vacm as vacm
use Rattle.vacm_core.specs.contracts.vacm.Vacm.TheInside as vacm_inside
use Rattle.community_core.specs.contracts.policy.Policy as policy
use Rattle.community_core.specs.contracts.policy.Policy.TheInside as policy_inside
use Rattle.community_core.proofs.community.CommunityRow.TheSendSync as community_row
use Rattle.setphase_core.specs.contracts.world.World as world
use Rattle.bridge_core.proofs.bridge.Bridge.TheSendSync as bridge
use Rattle.setphase_core.proofs.flat_world.FlatWorld.TheSendSync as flat_world
use Rattle.setphase_core.proofs.registry.Registry.TheSendSync as registry
use Rattle.frame_core.proofs.frame.FrameIn.TheSendSync as frame_in
use Rattle.message_core.proofs.request.Request.TheSendSync as request
use Rattle.message_core.proofs.octets.Octets.TheSendSync as octets
use Rattle.history_core.proofs.egress.Egress.TheSendSync as egress
use Rattle.audit_core.proofs.audit.Audit.TheSendSync as audit
use Rattle.history_core.specs.contracts.event.Event as event
use Rattle.history_core.specs.contracts.entry.Entry as entry
use Rattle.history_core.specs.contracts.kept.Kept as kept
use Rattle.history_core.specs.contracts.kept.Kept.TheInside as kept_inside
use Rattle.live_lock.specs.contracts.held.Held as held
use Rattle.live_lock.specs.contracts.held.Held.TheInside as held_inside
use Rattle.std.proofs.sync.ledger.Book.TheSendSync as book
use Rattle.rising.proofs.LogSent.{log_send}
use Rattle.rising.proofs.Sent.{latest_send}
use Rattle.live_lock.specs.contracts.live.Live as live
use Rattle.setphase_core.specs.declared.object.MibObject.{Ghosts}
use Rattle.live_lock.specs.declared.run.Run.{Ghosts as RunGhosts}
use Rattle.std.specs.declared.sync.ledger.Ledger.{Ghosts as LedgerGhosts}
use Rattle.rising.specs.declared.logs.Naming.{Ghosts as NamingGhosts}
use Rattle.rising.specs.declared.tokens.Rising.{Ghosts as RisingGhosts}

radix_layer : (h : block.the_members → RattleType) → ((j : block.the_members) → IsSend (h j)) → IsSend (layer_row Knot.ring block.member-Radix h)
radix_layer h all = let T = Radix.the_layer h in recorded_send (Enum (E.shape T)) T.D T.to T.to_one (enum_send (E.shape T) (search (sendable, crosses, all) depth 20))

branch_layer : (h : block.the_members → RattleType) → ((j : block.the_members) → IsSend (h j)) → IsSend (layer_row Knot.ring block.member-Branch h)
branch_layer h all = let T = Branch.the_layer h in recorded_send (Struct (S.shape T)) T.D T.to T.to_one (struct_send (S.shape T) (search (sendable, crosses, all) depth 20))

run_layer : (h : block.the_members → RattleType) → ((j : block.the_members) → IsSend (h j)) → IsSend (layer_row Knot.ring block.member-Segment h)
run_layer h all = let T = Segment.the_layer h in recorded_send (Struct (S.shape T)) T.D T.to T.to_one (struct_send (S.shape T) (search (sendable, crosses, all) depth 20))

steps : (i : block.the_members) → Sends Knot.ring i
steps block.member-Radix = record { send = radix_layer }
steps block.member-Branch = record { send = branch_layer }
steps block.member-Segment = record { send = run_layer }

branch_hole_send : IsSend Branch.the_hole
branch_hole_send = fix_send Knot.ring steps block.member-Branch

run_hole_send : IsSend Segment.the_hole
run_hole_send = fix_send Knot.ring steps block.member-Segment

radix_field_send : IsSend (Radix.the_field).row
radix_field_send = enum_send (E.shape Radix.the_type) (search (sendable, crosses, branch_hole_send, run_hole_send) depth 20)

-- A struct is sent where its fields are.
struct_row_send : (T : S.Declared) → AllSend (S.shape T).fields → IsSend (S.row T)
struct_row_send T s = recorded_send (Struct (S.shape T)) T.D T.to T.to_one (struct_send (S.shape T) s)

bitmap_layer : (h : bits.the_members → RattleType) → ((j : bits.the_members) → IsSend (h j)) → IsSend (layer_row BitKnot.ring bits.member-Bitmap h)
bitmap_layer h all = let T = Bitmap.the_layer h in recorded_send (Enum (E.shape T)) T.D T.to T.to_one (enum_send (E.shape T) (search (sendable, crosses, all, rest.the_send) depth 20))

digit_layer : (h : bits.the_members → RattleType) → ((j : bits.the_members) → IsSend (h j)) → IsSend (layer_row BitKnot.ring bits.member-Digit h)
digit_layer h all = let T = Digit.the_layer h in recorded_send (Struct (S.shape T)) T.D T.to T.to_one (struct_send (S.shape T) (search (sendable, crosses, all) depth 20))

bit_steps : (i : bits.the_members) → Sends BitKnot.ring i
bit_steps bits.member-Bitmap = record { send = bitmap_layer }
bit_steps bits.member-Digit = record { send = digit_layer }

digit_hole_send : IsSend Digit.the_hole
digit_hole_send = fix_send BitKnot.ring bit_steps bits.member-Digit

bitmap_field_send : IsSend (Bitmap.the_field).row
bitmap_field_send = enum_send (E.shape Bitmap.the_type) (search (sendable, crosses, digit_hole_send, rest.the_field_send) depth 20)

place_bitmap_send : IsSend place_bitmap.the_row
place_bitmap_send = struct_row_send place_bitmap.the_type (search (sendable, crosses, bitmap_field_send) depth 20)

row_block_send : IsSend row_block.the_row
row_block_send = struct_row_send row_block.the_type (search (sendable, crosses, place_bitmap_send) depth 20)

families_send : IsSend families.the_row
families_send = view_send _ _ _ _ _ (struct_row_send families_inside.the_type (search (sendable, crosses, radix_field_send, row_block_send, rows.the_send, family_row.the_send) depth 20))

vacm_send : IsSend vacm.the_row
vacm_send = view_send _ _ _ _ _ (struct_row_send vacm_inside.the_type (search (sendable, crosses, families_send, rows.the_send, group_row.the_send, access_row.the_send, name.the_send) depth 20))

policy_send : IsSend policy.the_row
policy_send = view_send _ _ _ _ _ (struct_row_send policy_inside.the_type (search (sendable, crosses, vacm_send, rows.the_send, community_row.the_send) depth 20))

world_field_send : IsSend (world.the_field).row
world_field_send = struct_send (S.shape world.the_type) (search (sendable, crosses, policy_send, bridge.the_send) depth 20)

event_field_send : IsSend (event.the_field).row
event_field_send = enum_send (E.shape event.the_type) (search (sendable, crosses, policy_send, request.the_field_send, frame_in.the_field_send) depth 30)

entry_send : IsSend entry.the_row
entry_send = struct_row_send entry.the_type (search (sendable, crosses, event_field_send, egress.the_send, octets.the_send, audit.the_send) depth 20)

kept_send : (O : RattleType) (g : Ghosts O.Denot) → IsSend O → IsSend (kept.the_row O g)
kept_send O g o = view_send _ _ _ _ _ (struct_row_send (kept_inside.the_type O g) (search (sendable, crosses, world_field_send, entry_send, flat_world.the_send, registry.the_send) depth 30))

held_send : (O L : RattleType) (g : Ghosts O.Denot) (r : RunGhosts L.Denot) (l : LedgerGhosts L.Denot) (n : RisingGhosts L.Denot) (m : NamingGhosts L.Denot) → IsSend O → IsSend (held.the_row O L g r l n m)
held_send O L g r l n m o = view_send _ _ _ _ _ (struct_row_send (held_inside.the_type O L g r l n m) (search (sendable, crosses, kept_send, book.the_send, latest_send, log_send) depth 30))

-- A history under a lock is shared where its objects are sent.
pub live_sync : (O L : RattleType) (g : Ghosts O.Denot) (r : RunGhosts L.Denot) (l : LedgerGhosts L.Denot) (n : RisingGhosts L.Denot) (m : NamingGhosts L.Denot) → IsSend O → IsSync (live.the_row O L g r l n m)
live_sync O L g r l n m o = search (sendable, crosses, held_send) depth 30
