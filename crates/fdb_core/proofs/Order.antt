-- The order of addresses, around one of them.
use Rattle.std.proofs.Common.{◌≡◌, ℕ, List, ap, ◌∙◌}
use Rattle.std.specs.Ordering.{ordering_reverse}
use Rattle.std.specs.declared.cmp.Ordering.TheVariants.{Less, Equal, Greater}
use Rattle.std.proofs.lemmas.Cmp.{nat_list_cmp_total}
use Rattle.std.proofs.lemmas.Map.Lookups.{exact_bytes}
use Rattle.frame_core.specs.declared.mac.Mac.{Mac}
use Rattle.frame_core.specs.Octets.{mac_cmp}

-- what lies below is above the other way round
pub above_from_below : (a b : Mac) → mac_cmp a b ≡ Less → mac_cmp b a ≡ Greater
above_from_below a b e = nat_list_cmp_total.antisymm b.0 a.0 ∙ ap ordering_reverse e

pub below_from_above : (a b : Mac) → mac_cmp a b ≡ Greater → mac_cmp b a ≡ Less
below_from_above a b e = nat_list_cmp_total.antisymm b.0 a.0 ∙ ap ordering_reverse e

pub below_trans : (a b c : Mac) → mac_cmp a b ≡ Less → mac_cmp b c ≡ Less → mac_cmp a c ≡ Less
below_trans a b c e f = nat_list_cmp_total.trans a.0 b.0 c.0 e f

-- an address that compares equal is the other
pub same_address : (a b : Mac) → mac_cmp a b ≡ Equal → a ≡ b
same_address a b e = let of : List ℕ → Mac = λ octets. record { 0 = octets } in ap of (exact_bytes a.0 b.0 e)
