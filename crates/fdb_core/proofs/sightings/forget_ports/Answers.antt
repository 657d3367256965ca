use Rattle.std.proofs.Common.{◌≡◌, rules, List, [], ◌∷◌, refl, ap, sym, subst, arith}
use Rattle.std.proofs.lemmas.Grind.{common_steps}
use Rattle.std.specs.Prelude.{not, ◌==◌}
use Rattle.std.specs.List.{list_any}
use Rattle.std.proofs.lemmas.Map.Made.{filter_same_pairs}
use Rattle.frame_core.specs.declared.mac.Mac.{Mac}
use Rattle.fdb_core.specs.declared.seen.Seen.{Seen}
use Rattle.fdb_core.specs.Seen.{other_entries}
use Rattle.fdb_core.proofs.sightings.forget_ports.Goals as goal

-- no address is on one of no ports
none_forgotten : (entries : List (Mac × Seen)) → entries ≡ other_entries [] entries
none_forgotten [] = refl
none_forgotten (e ∷ entries) = ap (λ es. e ∷ es) (none_forgotten entries)

pub returns-then-is_empty : goal.returns-then-is_empty
returns-then-is_empty c =
    let none : c.args.ports.now ≡ [] = grind (arith, common_steps) in
    subst (λ ports. c.args.seen.now.entries ≡ other_entries ports c.args.seen.now.entries) (sym none) (none_forgotten c.args.seen.now.entries)

-- the closure asks for the port, and writes nothing
pub returns : goal.returns
returns c = filter_same_pairs _ (λ e. not (list_any (λ n. n == e.1.port) c.args.ports.now)) _ (λ k v b w f' t. search rules) _ _ c.retain.ensures.filtered
