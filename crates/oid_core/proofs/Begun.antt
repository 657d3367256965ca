-- What stands at the front of a content.
use Rattle.std.proofs.Common.{◌≡◌, ℕ, ◌+◌, ◌-◌, ◌^◌, ◌<◌, List, [], length, refl, sym}
use Rattle.std.proofs.lemmas.List.{append-nil}
use Rattle.std.specs.Prelude.{Ok}
use Rattle.ber_core.proofs.Octets.{EachIsOctet}
use Rattle.oid_core.specs.declared.limits.TheConstants.{INLINE_NUMBERS}
use Rattle.oid_core.specs.Name.{BeginsLong}
use Rattle.oid_core.specs.Reading.{coded_at, all_coded_at, root_of, name_at}
use Rattle.oid_core.proofs.Loop.{with_front}
use Rattle.oid_core.proofs.Names.{name_found}

-- the first two are read
pub same_root : (content items : List ℕ) (n : ℕ) (rest : List ℕ) → coded_at (2 ^ 32 + 80) content ≡ Ok (n, rest) → items ≡ root_of n → length items ≡ 2 → with_front items (all_coded_at (128 - length items) rest) ≡ name_at content
unfolding name_at
same_root content items n rest h root len = rw (len, root, h) refl

-- what was read is long
pub named_long : (content name : List ℕ) → EachIsOctet content → name_at content ≡ Ok name → INLINE_NUMBERS < length name → BeginsLong content
named_long content name fits is long = record {
  name = name;
  rest = [];
  begun = record { front = content; encoded = name_found content name fits is; joined = sym (append-nil content) };
  long = long;
}
