-- One more setting behind others.
use Rattle.std.proofs.Common.{◌≡◌, ℕ, ◌+◌, ◌<◌, List, [], ◌∷◌, ◌++◌, length, get_or, take, sym, ap, ◌∙◌}
use Rattle.std.specs.List.{flat_map}
use Rattle.std.proofs.lemmas.List.{append-nil, take_more}
use Rattle.std.proofs.lemmas.Grind.{flat_map-append}
use Rattle.rstp_settings.specs.declared.key.Key.{Key}
use Rattle.audit_core.specs.Text.{unrestored_text}

pub one_behind : (keys : List Key) (i : ℕ) (d : Key) → i < length keys
    → flat_map unrestored_text (take i keys) ++ unrestored_text (get_or keys i d) ≡ flat_map unrestored_text (take (i + 1) keys)
one_behind keys i d lt =
    let key = get_or keys i d in
    let texts = flat_map unrestored_text (take i keys) in
    sym (ap (flat_map unrestored_text) (take_more keys i d lt)
    ∙ (flat_map-append unrestored_text (take i keys) (key ∷ [])
    ∙ ap (λ t. texts ++ t) (append-nil (unrestored_text key))))
