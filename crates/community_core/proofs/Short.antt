-- A community name that stands for somebody is short.
use Rattle.std.proofs.Common.{◌≡◌, ℕ, ◌≤◌, true, ◌&&◌, not, nat_le, List, [], length, map, Some, refl, subst, get_or}
use Rattle.std.specs.List.{list_any}
use Rattle.std.proofs.lemmas.List.Quantifiers.{position-Some}
use Rattle.std.proofs.lemmas.Slice.Eq.{bytes_eq-Decides}
use Rattle.vacm_core.specs.Best.{unbeaten, is_unbeaten}
use Rattle.std.proofs.lemmas.Bool.{leb-true}
use Rattle.vacm_core.specs.Rules.{AreRight}
use Rattle.vacm_core.specs.Texts.{has_length}
use Rattle.vacm_core.specs.declared.limits.TheConstants.{MAX_NAME}
use Rattle.vacm_core.proofs.Sound.{and_true, all_of, keys_differ}
use Rattle.community_core.specs.declared.community.CommunityRow.{CommunityRow}
use Rattle.community_core.specs.declared.community.TheConstants.{MAX_COMMUNITY_NAME}
use Rattle.community_core.specs.declared.community.WrittenCommunity.{WrittenCommunity}
use Rattle.vacm_core.specs.Tables.{is_well_formed}
use Rattle.community_core.specs.Communities.{AreSound, written_community, community_lengths, community_fields, community_row, community_rules, has_name, index_before, deciding_community}

short_by : (w : WrittenCommunity) → community_lengths w ≡ true → length w.name ≤ MAX_COMMUNITY_NAME
short_by w h =
    let first = and_true (has_length 1 MAX_NAME w.index && has_length 1 MAX_COMMUNITY_NAME w.name && has_length 1 MAX_NAME w.security) (has_length 0 MAX_NAME w.context) h in
    let second = and_true (has_length 1 MAX_NAME w.index && has_length 1 MAX_COMMUNITY_NAME w.name) (has_length 1 MAX_NAME w.security) first.0 in
    let third = and_true (has_length 1 MAX_NAME w.index) (has_length 1 MAX_COMMUNITY_NAME w.name) second.0 in
    leb-true (length w.name) MAX_COMMUNITY_NAME (and_true (nat_le 1 (length w.name)) (nat_le (length w.name) MAX_COMMUNITY_NAME) third.1).1

community_kept : (w : WrittenCommunity) → community_lengths w ≡ true → community_fields w ≡ true → is_well_formed community_rules (written_community (community_row w)) ≡ true
community_kept w l f = rw (l, f) refl

pub sound : (ws : List WrittenCommunity) → AreRight community_rules ws → AreSound (map community_row ws)
sound ws right = record {
  indexes = keys_differ community_rules ws right;
  well_formed = all_of community_rules (λ (r : CommunityRow). is_well_formed community_rules (written_community r) ≡ true) community_kept ws right;
}

no_row : CommunityRow
no_row = record { index = []; name = []; security = []; context = [] }

-- the name that a row decides on is the row's, and so is short
pub named_short : (rows : List CommunityRow) (name : List ℕ) (n : ℕ) → AreSound rows → deciding_community rows name ≡ Some n → length name ≤ MAX_COMMUNITY_NAME
unfolding unbeaten
named_short rows name n sound is =
    let found = position-Some (is_unbeaten (has_name name) index_before rows) rows n no_row is in
    let row : CommunityRow = get_or rows n no_row in
    let named = and_true (has_name name row) (not (list_any (λ other. has_name name other && index_before other row) rows)) found.1 in
    let same : row.name ≡ name = (bytes_eq-Decides row.name name).0 named.0 in
    let right = and_true (community_lengths (written_community row)) (community_fields (written_community row)) (sound.well_formed n no_row found.0) in
    subst (λ (l : List ℕ). length l ≤ MAX_COMMUNITY_NAME) same (short_by (written_community row) right.0)
