-- Static settings are a finite map: each reads as it was put, and no other changes.
use Rattle.std.proofs.Common.{◌≡◌, ◌≢◌, ℕ, ◌+◌, ◌-◌, ◌<◌, Bool, true, false, cond, not, ◌||◌, List, length, get_or, take, nat_lt, refl, sym, ap, ◌∙◌, arith}
use Rattle.std.specs.Prelude.{Some, None}
use Rattle.std.proofs.lemmas.List.{get_or-take, length-take}
use Rattle.std.proofs.lemmas.List.Folds.{list_all_at}
use Rattle.std.proofs.lemmas.List.FromFn.{fill_by_all}
use Rattle.std.proofs.lemmas.Bool.Decides.{Decides-ltb}
use Rattle.fdb_core.specs.declared.port_set.PortSet.{PortSet}
use Rattle.fdb_core.specs.declared.static_row.StaticIndex.{StaticIndex}
use Rattle.fdb_core.specs.declared.static_row.StaticRow.{StaticRow}
use Rattle.fdb_core.specs.PortSets.{first_ports, has_all, IsOfPorts}
use Rattle.fdb_core.specs.Statics.{row_of, put_row, without_row}
use Rattle.fdb_core.proofs.StaticFound.{its_own, others_keep, none_left, others_left}
use Rattle.bridge_core.specs.Bridge.{BridgeState, port_count}
use Rattle.bridge_core.specs.Statics.{is_made_in, ports_of, says, rows_with, is_made, allowed, set_made, set_allowed, HasStatics}
use Rattle.bridge_core.proofs.StaticKept.{allowed_ports}

-- a set of ports that has all of so many is that of the first so many
module _ (n : ℕ) (s : PortSet) (of : IsOfPorts n s) (all : has_all n s ≡ true) where
  present : (k : ℕ) (w : Bool) → get_or (take n s.0) k false ≡ w → k < n → k < 32 → w ≡ true
  present k true e lt within = refl
  present k false e lt within =
      let long : k < length (take n s.0) = omega (arith, length-take n s.0, of.size) in
      let bad : has_all n s ≡ false = list_all_at (λ b. b) (take n s.0) k false long e in
      cc

  at : (k : ℕ) (v : Bool) → nat_lt k n ≡ v → k < 32 → get_or s.0 k false ≡ v
  at k true e within =
      let lt : k < n = (Decides-ltb k n).0 e in
      sym (get_or-take n s.0 k false lt) ∙ present k (get_or (take n s.0) k false) refl lt within
  at k false e within =
      let beyond : n < k + 1 = (let no : k < n → ⊥ = λ b. let t : nat_lt k n ≡ true = (Decides-ltb k n).1 b in absurd cc in omega arith) in
      let same : k ≡ (k + 1) - 1 = omega arith in
      ap (λ m. get_or s.0 m false) same ∙ of.within (k + 1) beyond

  all_are_first : s ≡ first_ports n
  all_are_first = ap (λ (l : List Bool). record { 0 = l }) (fill_by_all (λ k. nat_lt k n) s.0 32 false of.size (λ k lt. at k (nat_lt k n) refl lt))

module _ (n : ℕ) (row : StaticRow) (rows : List StaticRow) where
  own_by : (v : Bool) → row_of (cond v (put_row rows row) (without_row rows row.index)) row.index ≡ cond v (Some row) None
  own_by true = its_own rows row
  own_by false = none_left rows row.index

  made_by : (m a : Bool) → m ≡ row.made → is_made_in (cond (m || not a) (Some row) None) ≡ m
  made_by true a e = sym e
  made_by false true e = refl
  made_by false false e = sym e

  pub made_reads : is_made_in (row_of (rows_with n row rows) row.index) ≡ row.made
  made_reads = ap is_made_in (own_by (says n row.made row.ports)) ∙ made_by row.made (has_all n row.ports) refl

  ports_by : IsOfPorts n row.ports → (m a : Bool) → has_all n row.ports ≡ a → ports_of n (cond (m || not a) (Some row) None) ≡ row.ports
  ports_by of true a e = refl
  ports_by of false true e = sym (all_are_first n row.ports of e)
  ports_by of false false e = refl

  pub ports_read : IsOfPorts n row.ports → ports_of n (row_of (rows_with n row rows) row.index) ≡ row.ports
  ports_read of = ap (ports_of n) (own_by (says n row.made row.ports)) ∙ ports_by of row.made (has_all n row.ports) refl

  others_by : (j : StaticIndex) → j ≢ row.index → (v : Bool) → row_of (cond v (put_row rows row) (without_row rows row.index)) j ≡ row_of rows j
  others_by j other true = others_keep rows row j other
  others_by j other false = others_left rows row.index j other

  pub others_read : (j : StaticIndex) → j ≢ row.index → row_of (rows_with n row rows) j ≡ row_of rows j
  others_read j other = others_by j other (says n row.made row.ports)

module _ (b : BridgeState) (i : StaticIndex) where
  pub made_put : (made : Bool) → is_made (set_made i made b) i ≡ made
  made_put made = made_reads (port_count b) (record { index = i; made = made; ports = allowed b i }) b.statics.rows

  pub made_keeps_ports : (made : Bool) → HasStatics b → allowed (set_made i made b) i ≡ allowed b i
  made_keeps_ports made h =
      ports_read (port_count b) (record { index = i; made = made; ports = allowed b i }) b.statics.rows (allowed_ports (port_count b) b.statics.rows i h.rows)

  pub ports_put : (ports : PortSet) → IsOfPorts (port_count b) ports → allowed (set_allowed i ports b) i ≡ ports
  ports_put ports of = ports_read (port_count b) (record { index = i; made = is_made b i; ports = ports }) b.statics.rows of

  pub ports_keep_made : (ports : PortSet) → is_made (set_allowed i ports b) i ≡ is_made b i
  ports_keep_made ports = made_reads (port_count b) (record { index = i; made = is_made b i; ports = ports }) b.statics.rows

  pub made_keeps_others : (made : Bool) (j : StaticIndex) → j ≢ i → (is_made (set_made i made b) j ≡ is_made b j) × (allowed (set_made i made b) j ≡ allowed b j)
  made_keeps_others made j other =
      let same = others_read (port_count b) (record { index = i; made = made; ports = allowed b i }) b.statics.rows j other in
      (ap is_made_in same, ap (ports_of (port_count b)) same)

  pub ports_keep_others : (ports : PortSet) (j : StaticIndex) → j ≢ i → (is_made (set_allowed i ports b) j ≡ is_made b j) × (allowed (set_allowed i ports b) j ≡ allowed b j)
  ports_keep_others ports j other =
      let same = others_read (port_count b) (record { index = i; made = is_made b i; ports = ports }) b.statics.rows j other in
      (ap is_made_in same, ap (ports_of (port_count b)) same)
