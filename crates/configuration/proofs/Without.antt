-- A table that lost a key, beside the members that it stands for.
use Rattle.std.proofs.Common.{◌≡◌, ℕ, List, [], ◌∷◌, String, Global, string_bytes, nat_cmp, is_eq, refl, inl, inr}
use Rattle.std.specs.Cmp.Lexicographic.{slice_cmp}
use Rattle.std.specs.BTreeMap.{is_at}
use Rattle.std.specs.Map.{remove_entry}
use Rattle.std.proofs.lemmas.Bool.{cases_Bool}
use Rattle.toml.specs.View.{members_view}
use Rattle.toml.specs.declared.value.Value.{Value}
use Rattle.configuration.specs.Configurations.{without}

pub without_view : (key : List ℕ) (es : List (String Global × Value)) → members_view (remove_entry (is_at (λ x. slice_cmp nat_cmp key (string_bytes x))) es) ≡ without key (members_view es)
without_view key [] = refl
without_view key (e ∷ es) =
    elim (cases_Bool (is_eq (slice_cmp nat_cmp key (string_bytes e.0)))) [
      | inl same ↦ rw same
      | inr other ↦ rw (other, without_view key es)
    ]
