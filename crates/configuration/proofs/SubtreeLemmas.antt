-- A text is that of a subtree, or it is not.
use Rattle.std.proofs.Common.{◌≡◌, ℕ, ◌≤◌, true, false, List, length, Some, None, refl}
use Rattle.std.specs.Prelude.{is_some}
use Rattle.std.proofs.lemmas.Bool.{le-leb, lt-leb}
use Rattle.oid_core.specs.declared.fault.OidFault.{OidFault}
use Rattle.oid_core.specs.declared.fault.OidFault.TheVariants.{BadText, TooLong}
use Rattle.oid_core.specs.declared.limits.TheConstants.{MAX_NUMBERS}
use Rattle.oid_core.specs.Text.{IsDotted, IsTextFault}
use Rattle.oid_core.specs.TextValue.{name_of_text}
use Rattle.oid_core.proofs.TextValues.{dotted_read, none_dotted}
use Rattle.policy_text.specs.Stated.{subtree_of}

pub subtree_read : (text name : List ℕ) → IsDotted text name → length name ≤ MAX_NUMBERS → true ≡ is_some (subtree_of text)
subtree_read text name dotted few = rw (dotted_read text name dotted, le-leb (length name) MAX_NUMBERS few) refl

pub no_subtree : (text : List ℕ) → IsTextFault text BadText → false ≡ is_some (subtree_of text)
no_subtree text none = rw (none_dotted text none (name_of_text text) refl) refl

pub long_subtree : (text : List ℕ) → IsTextFault text TooLong → false ≡ is_some (subtree_of text)
long_subtree text long = rw (dotted_read text long.0 long.1, lt-leb (length long.0) MAX_NUMBERS long.2) refl
