-- What holds of each binding of a list.
use Rattle.std.proofs.Common.{◌≡◌, ℕ, zero, suc, List, [], ◌∷◌, take, get_or, subst}
use Rattle.std.specs.List.{AllByRecursion}
use Rattle.message_core.specs.declared.binding.Binding.{Binding}
use Rattle.message_core.specs.Encodable.{IsEncodableBinding, AreEncodable, HasEncoding}

-- a binding has an encoding if its names have one
abbrev pub MayEncode : Binding → Type 0
MayEncode b = IsEncodableBinding b → HasEncoding b

-- One more binding of which it holds.
pub all_more : (bs : List Binding) (i : ℕ) (b : Binding) → b ≡ get_or bs i b → AllByRecursion MayEncode (take i bs) → MayEncode b → AllByRecursion MayEncode (take (suc i) bs)
all_more [] i b is before has = tt
all_more (a ∷ bs) zero b is before has = (subst MayEncode is has, tt)
all_more (a ∷ bs) (suc i) b is before has = (before.0, all_more bs i b is before.1 has)

pub all_encode : (bs : List Binding) → AllByRecursion MayEncode bs → AreEncodable bs → AllByRecursion HasEncoding bs
all_encode [] each all = tt
all_encode (b ∷ bs) each all = (each.0 all.0, all_encode bs each.1 all.1)
