-- A value that says a row is typed as one.
use Rattle.std.specs.Prelude.{ℕ, List, Option, Some, None, is_some, IsSome, option_and_then, refl}
use Rattle.std.proofs.Common.{sym, ap}
use Rattle.toml.specs.Data.{Data, as_table}
use Rattle.vacm_core.specs.declared.written.WrittenGroup.{WrittenGroup}
use Rattle.vacm_core.specs.declared.written.WrittenAccess.{WrittenAccess}
use Rattle.vacm_core.specs.declared.written.WrittenFamily.{WrittenFamily}
use Rattle.community_core.specs.declared.community.WrittenCommunity.{WrittenCommunity}
use Rattle.policy_text.specs.declared.rows.FamilyTexts.{FamilyTexts}
use Rattle.policy_text.specs.Reading.{context_says, IsContext, group_says, IsGroup, access_says, IsAccess, family_members, texts_say, family_says, IsFamily, community_says, IsCommunity}

pub context_typed : (d : Data) (row : List ℕ) → context_says d (Some row) → IsContext d
context_typed d row e = sym (ap is_some e)

pub group_typed : (d : Data) (row : WrittenGroup) → group_says d (Some row) → IsGroup d
group_typed d row e = sym (ap is_some e)

pub access_typed : (d : Data) (row : WrittenAccess) → access_says d (Some row) → IsAccess d
access_typed d row e = sym (ap is_some e)

texts_typed : (texts : Option FamilyTexts) (row : WrittenFamily) → texts_say texts (Some row) →
    IsSome texts
texts_typed (Some t) row s = refl
texts_typed None row s = sym (ap is_some s)

pub family_typed : (d : Data) (row : WrittenFamily) → family_says d (Some row) → IsFamily d
family_typed d row s = texts_typed (option_and_then family_members (as_table d)) row s

pub community_typed : (d : Data) (row : WrittenCommunity) → community_says d (Some row) →
    IsCommunity d
community_typed d row e = sym (ap is_some e)
