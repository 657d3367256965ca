-- What variables write, and what is staged of it: the first of each setting.
use Rattle.std.proofs.Common.{◌≡◌, ◌≢◌, ℕ, ◌∙◌, sym, ap, refl, Bool, true, false, not, cond, ◌&&◌, ◌||◌, List, [], ◌∷◌, ◌++◌, Option, Some, None, is_some, append_assoc}
use Rattle.setting_keys.specs.declared.SettingKey.{SettingKey}
use Rattle.setting_keys.specs.declared.SettingValue.{SettingValue}
use Rattle.setting_keys.specs.declared.SettingValue.TheVariants.{Number, Ports, Mask}
use Rattle.std.specs.Bool.{Decides}
use Rattle.std.proofs.lemmas.Bool.Decides.{Decides-eqb, Decides-like}
use Rattle.std.proofs.lemmas.Slice.Eq.{slice_eq-Decides, bytes_eq-Decides}
use Rattle.fdb_core.specs.declared.port_set.PortSet.{PortSet}
use Rattle.setphase_core.specs.declared.world.World.{World}
use Rattle.setphase_core.specs.declared.object.Assignment.{Assignment}
use Rattle.setphase_core.specs.declared.staging.Standing.TheVariants.{First, Repeats, Contradicts}
use Rattle.setphase_core.specs.Settings.{put, HasSetting, IsSettingInRange, same_setting, same_bool, same_ports, same_value}
use Rattle.setphase_core.specs.Variables.{NamedAssignment}
use Rattle.setphase_core.specs.Together.{assign, assignments, contradicts}
use Rattle.setphase_core.specs.Outcomes.{has_key, keys_of, firsts, committed_of}
use Rattle.setphase_core.specs.Staging.{Without, IsDistinct, AreLegal}
use Rattle.setphase_core.specs.Tested.{first_in, value_among, standing_by, is_contradicting}
use Rattle.setphase_core.proofs.FamilyPuts.{same_bool-Decides}
use Rattle.setphase_core.proofs.Puts.{same_number, same_set, same_octets, put-put, puts-commuted, keys-kept, range-kept, same-exact}
use Rattle.setphase_core.proofs.Assigns.{legal_after}

-- ---- numbers

pub first_in-append : (j : Option ℕ) (xs ys : List ℕ) →
    first_in (first_in j xs) ys ≡ first_in j (xs ++ ys)
first_in-append None [] ys = refl
first_in-append None (x ∷ xs) ys = refl
first_in-append (Some n) xs ys = refl

-- ---- equal settings and values

pub same_itself : (k : SettingKey) → same_setting k k ≡ true
same_itself k = (same-exact k k).1 refl

pub same_ports-Decides : (s t : PortSet) → Decides (same_ports s t) (s ≡ t)
same_ports-Decides s t =
    let of : List Bool → PortSet = λ ports. record { 0 = ports } in
    Decides-like _ (ap of) (ap (λ (x : PortSet). x.0)) (slice_eq-Decides {E = same_bool} same_bool-Decides s.0 t.0 _ refl)

pub value-Decides : (u v : SettingValue) → Decides (same_value u v) (u ≡ v)
value-Decides (Number n) (Number m) = Decides-like _ (ap Number) (same_number n m) (Decides-eqb n m)
value-Decides (Number n) (Ports t) = (λ e. absurd cc, λ e. absurd cc)
value-Decides (Number n) (Mask b) = (λ e. absurd cc, λ e. absurd cc)
value-Decides (Ports s) (Number m) = (λ e. absurd cc, λ e. absurd cc)
value-Decides (Ports s) (Ports t) = Decides-like _ (ap Ports) (same_set s t) (same_ports-Decides s t)
value-Decides (Ports s) (Mask b) = (λ e. absurd cc, λ e. absurd cc)
value-Decides (Mask a) (Number m) = (λ e. absurd cc, λ e. absurd cc)
value-Decides (Mask a) (Ports t) = (λ e. absurd cc, λ e. absurd cc)
value-Decides (Mask a) (Mask b) = Decides-like _ (ap Mask) (same_octets a b) (bytes_eq-Decides a b)

pub value-exact : (u v : SettingValue) → same_value u v ≡ true → u ≡ v
value-exact u v e = (value-Decides u v).0 e

pub value-other : (u v : SettingValue) → same_value u v ≡ false → u ≢ v
value-other u v e same = let t : same_value u v ≡ true = (value-Decides u v).1 same in absurd cc

pub differ : (k l : SettingKey) → same_setting k l ≡ false → k ≢ l
differ k l e same = absurd (let t : same_setting k l ≡ true = (same-exact k l).1 same in cc)

-- ---- the value among assignments

abbrev or_value : Option SettingValue → Option SettingValue → Option SettingValue
or_value None u = u
or_value (Some v) u = Some v

value-append : (ps : List Assignment) (a : Assignment) (k : SettingKey) →
    value_among (ps ++ a ∷ []) k ≡ or_value (value_among ps k) (cond (same_setting a.key k) (Some a.value) None)
value-append [] a k = refl
value-append (p ∷ ps) a k = by_first (same_setting p.key k) (value-append ps a k)
  where
    by_first : (b : Bool) → value_among (ps ++ a ∷ []) k ≡ or_value (value_among ps k) (cond (same_setting a.key k) (Some a.value) None) → cond b (Some p.value) (value_among (ps ++ a ∷ []) k)
        ≡ or_value (cond b (Some p.value) (value_among ps k)) (cond (same_setting a.key k) (Some a.value) None)
    by_first true rest = refl
    by_first false rest = rest

pub value_stays : (ps : List Assignment) (a : Assignment) (k : SettingKey) (v : SettingValue) →
    value_among ps k ≡ Some v → value_among (ps ++ a ∷ []) k ≡ Some v
value_stays ps a k v e = value-append ps a k ∙ ap (λ o. or_value o (cond (same_setting a.key k) (Some a.value) None)) e

pub value_last : (ps : List Assignment) (a : Assignment) → value_among ps a.key ≡ None →
    value_among (ps ++ a ∷ []) a.key ≡ Some a.value
value_last ps a e =
    value-append ps a a.key
    ∙ ap (λ o. or_value o (cond (same_setting a.key a.key) (Some a.value) None)) e
    ∙ ap (λ b. cond b (Some a.value) None) (same_itself a.key)

-- What a standing reports of the value among those before.
pub is_first : (o : Option SettingValue) (v : SettingValue) → standing_by o v ≡ First → o ≡ None
is_first None v e = refl
is_first (Some u) v e = absurd (by_same (same_value u v) e)
  where
    by_same : (b : Bool) → cond b Repeats Contradicts ≡ First → ⊥
    by_same true e = cc
    by_same false e = cc

pub is_repeated : (o : Option SettingValue) (v : SettingValue) → standing_by o v ≡ Repeats →
    o ≡ Some v
is_repeated None v e = absurd (cc)
is_repeated (Some u) v e = ap Some (value-exact u v (by_same (same_value u v) e))
  where
    by_same : (b : Bool) → cond b Repeats Contradicts ≡ Repeats → b ≡ true
    by_same true e = refl
    by_same false e = absurd (cc)

pub is_contradicted : (o : Option SettingValue) (v : SettingValue) →
    standing_by o v ≡ Contradicts → is_some o ≡ true
is_contradicted None v e = absurd (cc)
is_contradicted (Some u) v e = refl

-- ---- what is staged knows each setting that was written

abbrev pub IsKnown : List NamedAssignment → List Assignment → Type 0
IsKnown ws ps = (k : SettingKey) → has_key (keys_of ws) k ≡ is_some (value_among ps k)

has-append : (ws : List NamedAssignment) (x : NamedAssignment) (k : SettingKey) →
    has_key (keys_of (ws ++ x ∷ [])) k ≡ (has_key (keys_of ws) k || same_setting x.assignment.key k)
has-append [] x k = or_false (same_setting x.assignment.key k)
  where
    or_false : (b : Bool) → (b || false) ≡ b
    or_false true = refl
    or_false false = refl
has-append (y ∷ ws) x k =
    ap (λ b. same_setting y.assignment.key k || b) (has-append ws x k)
    ∙ or_assoc (same_setting y.assignment.key k) (has_key (keys_of ws) k) (same_setting x.assignment.key k)
  where
    or_assoc : (a b c : Bool) → (a || (b || c)) ≡ ((a || b) || c)
    or_assoc true b c = refl
    or_assoc false b c = refl

some-or : (o : Option SettingValue) (b : Bool) (v : SettingValue) →
    is_some (or_value o (cond b (Some v) None)) ≡ (is_some o || b)
some-or None true v = refl
some-or None false v = refl
some-or (Some u) b v = refl

pub known_first : (ws : List NamedAssignment) (ps : List Assignment) (x : NamedAssignment) → IsKnown ws ps →
    IsKnown (ws ++ x ∷ []) (ps ++ x.assignment ∷ [])
known_first ws ps x known k =
    has-append ws x k
    ∙ ap (λ b. b || same_setting x.assignment.key k) (known k)
    ∙ sym (ap is_some (value-append ps x.assignment k) ∙ some-or (value_among ps k) (same_setting x.assignment.key k) x.assignment.value)

pub known_again : (ws : List NamedAssignment) (ps : List Assignment) (x : NamedAssignment) → IsKnown ws ps →
    is_some (value_among ps x.assignment.key) ≡ true → IsKnown (ws ++ x ∷ []) ps
known_again ws ps x known there k =
    has-append ws x k ∙ ap (λ b. b || same_setting x.assignment.key k) (known k)
    ∙ by_same (same_setting x.assignment.key k) refl
  where
    or_false : (b : Bool) → (b || false) ≡ b
    or_false true = refl
    or_false false = refl

    or_true : (b : Bool) → b ≡ true → (b || true) ≡ b
    or_true true e = refl
    or_true false e = absurd (cc)

    by_same : (b : Bool) → same_setting x.assignment.key k ≡ b →
        (is_some (value_among ps k) || b) ≡ is_some (value_among ps k)
    by_same true e =
        or_true (is_some (value_among ps k))
        (ap (λ l. is_some (value_among ps l)) (sym ((same-exact x.assignment.key k).0 e)) ∙ there)
    by_same false e = or_false (is_some (value_among ps k))

-- ---- what is staged agrees with all that was written

abbrev pub Agrees : List Assignment → List NamedAssignment → Type 0
Agrees ps [] = Unit {0}
Agrees ps (x ∷ ws) = (value_among ps x.assignment.key ≡ Some x.assignment.value) × Agrees ps ws

pub agrees_more : (ps : List Assignment) (ws : List NamedAssignment) (a : Assignment) → Agrees ps ws →
    Agrees (ps ++ a ∷ []) ws
agrees_more ps [] a h = tt
agrees_more ps (x ∷ ws) a h =
    (value_stays ps a x.assignment.key x.assignment.value h.0, agrees_more ps ws a h.1)

pub agrees_last : (ps : List Assignment) (ws : List NamedAssignment) (x : NamedAssignment) → Agrees ps ws →
    value_among ps x.assignment.key ≡ Some x.assignment.value → Agrees ps (ws ++ x ∷ [])
agrees_last ps [] x h e = (e, tt)
agrees_last ps (y ∷ ws) x h e = (h.0, agrees_last ps ws x h.1 e)

-- ---- contradictions

-- All that write a setting give it this value.
abbrev Gives : SettingKey → SettingValue → List NamedAssignment → Type 0
Gives k v [] = Unit {0}
Gives k v (x ∷ ws) = (same_setting x.assignment.key k ≡ true → x.assignment.value ≡ v) × Gives k v ws

gives_from : (ps : List Assignment) (k : SettingKey) (v : SettingValue) (ws : List NamedAssignment) →
    value_among ps k ≡ Some v → Agrees ps ws → Gives k v ws
gives_from ps k v [] e h = tt
gives_from ps k v (x ∷ ws) e h =
    (λ same. one (sym h.0 ∙ ap (value_among ps) ((same-exact x.assignment.key k).0 same) ∙ e), gives_from ps k v ws e h.1)
  where
    one : {u w : SettingValue} → Some u ≡ Some w → u ≡ w
    one e = cc

none_differs : (ws : List NamedAssignment) (a : Assignment) → has_key (keys_of ws) a.key ≡ false →
    contradicts (assignments ws) a ≡ false
none_differs [] a e = refl
none_differs (x ∷ ws) a e = by_same (same_setting x.assignment.key a.key) (λ h. none_differs ws a h) e
  where
    by_same : (b : Bool) → (has_key (keys_of ws) a.key ≡ false → contradicts (assignments ws) a ≡ false) →
        (b || has_key (keys_of ws) a.key) ≡ false →
        ((b && not (same_value x.assignment.value a.value)) || contradicts (assignments ws) a) ≡ false
    by_same true rest e = absurd (cc)
    by_same false rest e = rest e

same_differ : (ws : List NamedAssignment) (a : Assignment) (v : SettingValue) → Gives a.key v ws →
    contradicts (assignments ws) a ≡ (has_key (keys_of ws) a.key && not (same_value v a.value))
same_differ [] a v h = refl
same_differ (x ∷ ws) a v h = by_same (same_setting x.assignment.key a.key) refl (same_differ ws a v h.1)
  where
    again : (n b : Bool) → (n || (b && n)) ≡ n
    again true b = refl
    again false true = refl
    again false false = refl

    by_same : (b : Bool) → same_setting x.assignment.key a.key ≡ b →
        contradicts (assignments ws) a ≡ (has_key (keys_of ws) a.key && not (same_value v a.value)) →
        ((b && not (same_value x.assignment.value a.value)) || contradicts (assignments ws) a)
        ≡ ((b || has_key (keys_of ws) a.key) && not (same_value v a.value))
    by_same true s rest =
        ap (λ u. not (same_value u a.value) || contradicts (assignments ws) a) (h.0 s)
        ∙ ap (λ b. not (same_value v a.value) || b) rest
        ∙ again (not (same_value v a.value)) (has_key (keys_of ws) a.key)
    by_same false s rest = rest

pub contradicts_is : (ws : List NamedAssignment) (ps : List Assignment) (a : Assignment) → IsKnown ws ps →
    Agrees ps ws →
    contradicts (assignments ws) a ≡ is_contradicting (standing_by (value_among ps a.key) a.value)
contradicts_is ws ps a known agrees = by_value (value_among ps a.key) refl
  where
    contradicting_same : (b : Bool) → not b ≡ is_contradicting (cond b Repeats Contradicts)
    contradicting_same true = refl
    contradicting_same false = refl

    by_value : (o : Option SettingValue) → value_among ps a.key ≡ o →
        contradicts (assignments ws) a ≡ is_contradicting (standing_by o a.value)
    by_value None e = none_differs ws a (known a.key ∙ ap is_some e)
    by_value (Some v) e =
        same_differ ws a v (gives_from ps a.key v ws e agrees)
        ∙ ap (λ b. b && not (same_value v a.value)) (known a.key ∙ ap is_some e)
        ∙ contradicting_same (same_value v a.value)

-- ---- assignments

pub assign-append : (ps qs : List Assignment) (w : World) →
    assign (ps ++ qs) w ≡ assign qs (assign ps w)
assign-append [] qs w = refl
assign-append (p ∷ ps) qs w = assign-append ps qs (put w p.key p.value)

put_past : (ps : List Assignment) (w : World) (k : SettingKey) (v : SettingValue) → Without k ps →
    HasSetting w k → IsSettingInRange w k v → AreLegal w ps →
    put (assign ps w) k v ≡ assign ps (put w k v)
put_past [] w k v apart h range all = refl
put_past (p ∷ ps) w k v apart h range all =
    put_past ps (put w p.key p.value) k v apart.1 (keys-kept w p.key k p.value all.0.value h) (range-kept w p.key k p.value v range) (legal_after w ps p.key p.value all.0.value all.1)
    ∙ ap (assign ps) (puts-commuted w p.key k p.value v apart.0 all.0.key h all.0.value range)

-- A value that is among assignments changes nothing where it is put again.
pub put_among : (ps : List Assignment) (w : World) (k : SettingKey) (v : SettingValue) →
    IsDistinct ps → AreLegal w ps → value_among ps k ≡ Some v →
    put (assign ps w) k v ≡ assign ps w
put_among [] w k v distinct all e = absurd (cc)
put_among (p ∷ ps) w k v distinct all e =
    by_same (same_setting p.key k) refl
    (λ h. put_among ps (put w p.key p.value) k v distinct.1 (legal_after w ps p.key p.value all.0.value all.1) h) e
  where
    one : {u x : SettingValue} → Some u ≡ Some x → u ≡ x
    one e = cc

    by_same : (b : Bool) → same_setting p.key k ≡ b →
        (value_among ps k ≡ Some v → put (assign ps (put w p.key p.value)) k v ≡ assign ps (put w p.key p.value)) →
        cond b (Some p.value) (value_among ps k) ≡ Some v →
        put (assign ps (put w p.key p.value)) k v ≡ assign ps (put w p.key p.value)
    by_same true s rest e =
        ap (λ l. put (assign ps (put w p.key p.value)) l v) (sym ((same-exact p.key k).0 s))
        ∙ ap (put (assign ps (put w p.key p.value)) p.key) (sym (one e))
        ∙ put_past ps (put w p.key p.value) p.key p.value distinct.0 (keys-kept w p.key p.key p.value all.0.value all.0.key) (range-kept w p.key p.key p.value p.value all.0.value) (legal_after w ps p.key p.value all.0.value all.1)
        ∙ ap (assign ps) (put-put w p.key p.value p.value all.0.key all.0.value)
    by_same false s rest e = rest e

-- ---- distinct settings

without_last : (k : SettingKey) (ps : List Assignment) (a : Assignment) → Without k ps →
    a.key ≢ k → Without k (ps ++ a ∷ [])
without_last k [] a h ne = (ne, tt)
without_last k (p ∷ ps) a h ne = (h.0, without_last k ps a h.1 ne)

pub distinct_last : (ps : List Assignment) (a : Assignment) → IsDistinct ps →
    value_among ps a.key ≡ None → IsDistinct (ps ++ a ∷ [])
distinct_last [] a h e = (tt, tt)
distinct_last (p ∷ ps) a h e =
    let parts = others (same_setting p.key a.key) refl e in
    (without_last p.key ps a h.0 (λ same. differ p.key a.key parts.0 (sym same)), distinct_last ps a h.1 parts.1)
  where
    others : (b : Bool) → same_setting p.key a.key ≡ b → cond b (Some p.value) (value_among ps a.key) ≡ None →
        (same_setting p.key a.key ≡ false) × (value_among ps a.key ≡ None)
    others true s e = absurd (cc)
    others false s e = (s, e)

-- ---- the first of each setting

firsts-last : (done ws : List NamedAssignment) (x : NamedAssignment) →
    firsts done (ws ++ x ∷ [])
    ≡ firsts done ws ++ cond (has_key (keys_of (done ++ ws)) x.assignment.key) [] (x ∷ [])
firsts-last done [] x =
    append_none (cond (has_key (keys_of done) x.assignment.key) [] (x ∷ []))
    ∙ ap (λ zs. cond (has_key (keys_of zs) x.assignment.key) [] (x ∷ [])) (sym (append_none done))
  where
    append_none : {X : Type 0} (xs : List X) → xs ++ [] ≡ xs
    append_none [] = refl
    append_none (x ∷ xs) = ap (λ ys. x ∷ ys) (append_none xs)
firsts-last done (y ∷ ws) x =
    ap (λ zs. cond (has_key (keys_of done) y.assignment.key) [] (y ∷ []) ++ zs) (firsts-last (done ++ y ∷ []) ws x)
    ∙ sym (append_assoc (cond (has_key (keys_of done) y.assignment.key) [] (y ∷ [])) (firsts (done ++ y ∷ []) ws) _)
    ∙ ap (λ zs. (cond (has_key (keys_of done) y.assignment.key) [] (y ∷ []) ++ firsts (done ++ y ∷ []) ws)
    ++ cond (has_key (keys_of zs) x.assignment.key) [] (x ∷ [])) (append_assoc done (y ∷ []) ws)

pub committed-last : (ws : List NamedAssignment) (x : NamedAssignment) →
    committed_of (ws ++ x ∷ [])
    ≡ committed_of ws ++ cond (has_key (keys_of ws) x.assignment.key) [] (x ∷ [])
committed-last ws x = firsts-last [] ws x
