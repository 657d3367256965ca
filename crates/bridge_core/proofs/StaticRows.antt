-- Which static row is listed, what settling leaves of static rows, and that learning sees none.
use Rattle.std.proofs.Common.{◌≡◌, ℕ, Bool, true, false, cond, List, [], ◌∷◌, refl, sym, ap, ◌∙◌}
use Rattle.std.specs.Prelude.{Option, Some, None}
use Rattle.std.specs.List.{AllByRecursion}
use Rattle.std.specs.List.Sorted.{IsStrictlySortedBy}
use Rattle.std.specs.declared.cmp.Ordering.{Ordering}
use Rattle.std.specs.declared.cmp.Ordering.TheVariants.{Less, Equal, Greater}
use Rattle.frame_core.specs.declared.bpdu.Bpdu.{Bpdu}
use Rattle.frame_core.specs.declared.frame.FrameIn.{FrameIn}
use Rattle.fdb_core.specs.declared.static_row.StaticIndex.{StaticIndex}
use Rattle.fdb_core.specs.declared.static_row.StaticRow.{StaticRow}
use Rattle.fdb_core.specs.Statics.{Statics, index_cmp, IsRising, row_of, made_rows}
use Rattle.fdb_core.proofs.StaticOrder.{same_index}
use Rattle.fdb_core.proofs.StaticFound.{none_behind}
use Rattle.fdb_core.proofs.StaticKept.{all_made}
use Rattle.bridge_core.specs.Bridge.{BridgeState, is_on}
use Rattle.bridge_core.specs.Statics.{is_made_in, is_made, if_made, made_row, or_row}
use Rattle.bridge_core.specs.Events.{after_tree_step, after_settling, after_reception, after_learning, after_forwarding, data_result, bpdu_result, arrival_of, reception_result, Framed, frame_result}
use Rattle.bridge_core.specs.Relay.{IsListed, IsUnlisted}
use Rattle.bridge_core.proofs.Changes.{framed_on, framed_off}

-- a row that is made, and one that is not
made_is : (o : Option StaticRow) (row : StaticRow) → o ≡ Some row → row.made ≡ true → if_made o ≡ Some row
made_is o row e m = let one : if_made (Some row) ≡ Some row = rw m refl in ap if_made e ∙ one

unmade : (o : Option StaticRow) → is_made_in o ≡ false → if_made o ≡ None
unmade None m = refl
unmade (Some row) m = rw m refl

pub lists_of_port : (b : BridgeState) (p : ℕ) (f : FrameIn) (row : StaticRow) → row_of b.statics.rows (record { address = f.destination; port = p }) ≡ Some row → row.made ≡ true → IsListed b p f row
lists_of_port b p f row e m =
    let other = made_row b.statics.rows (record { address = f.destination; port = 0 }) in
    ap (λ (o : Option StaticRow). or_row o other) (made_is (row_of b.statics.rows (record { address = f.destination; port = p })) row e m)

behind_none : (one two : Option StaticRow) → one ≡ None → or_row one two ≡ two
behind_none one two e = ap (λ (o : Option StaticRow). or_row o two) e

pub lists_of_all : (b : BridgeState) (p : ℕ) (f : FrameIn) (row : StaticRow) → is_made b (record { address = f.destination; port = p }) ≡ false → row_of b.statics.rows (record { address = f.destination; port = 0 }) ≡ Some row → row.made ≡ true → IsListed b p f row
lists_of_all b p f row n e m =
    behind_none (made_row b.statics.rows (record { address = f.destination; port = p })) (made_row b.statics.rows (record { address = f.destination; port = 0 })) (unmade (row_of b.statics.rows (record { address = f.destination; port = p })) n)
    ∙ made_is (row_of b.statics.rows (record { address = f.destination; port = 0 })) row e m

pub lists_none : (b : BridgeState) (p : ℕ) (f : FrameIn) → is_made b (record { address = f.destination; port = p }) ≡ false → is_made b (record { address = f.destination; port = 0 }) ≡ false → IsUnlisted b p f
lists_none b p f n m =
    behind_none (made_row b.statics.rows (record { address = f.destination; port = p })) (made_row b.statics.rows (record { address = f.destination; port = 0 })) (unmade (row_of b.statics.rows (record { address = f.destination; port = p })) n)
    ∙ unmade (row_of b.statics.rows (record { address = f.destination; port = 0 })) m

-- where the rows that are not made went, each index has its row if that was made
at_index : (x : StaticRow) (xs : List StaticRow) (i : StaticIndex) → index_cmp x.index i ≡ Equal → row_of (x ∷ xs) i ≡ Some x
at_index x xs i e = rw e refl

passed_below : (x : StaticRow) (xs : List StaticRow) (i : StaticIndex) → index_cmp x.index i ≡ Less → row_of (x ∷ xs) i ≡ row_of xs i
passed_below x xs i e = rw e refl

passed_above : (x : StaticRow) (xs : List StaticRow) (i : StaticIndex) → index_cmp x.index i ≡ Greater → row_of (x ∷ xs) i ≡ row_of xs i
passed_above x xs i e = rw e refl

kept_step : (x : StaticRow) (xs kept : List StaticRow) (i : StaticIndex) (m : Bool) (o : Ordering) → x.made ≡ m → index_cmp x.index i ≡ o → row_of kept i ≡ if_made (row_of xs i) → (index_cmp x.index i ≡ Equal → row_of kept i ≡ None) → row_of (cond m (x ∷ kept) kept) i ≡ if_made (row_of (x ∷ xs) i)
kept_step x xs kept i true Less e f more none = passed_below x kept i f ∙ more ∙ ap if_made (sym (passed_below x xs i f))
kept_step x xs kept i true Greater e f more none = passed_above x kept i f ∙ more ∙ ap if_made (sym (passed_above x xs i f))
kept_step x xs kept i true Equal e f more none = at_index x kept i f ∙ sym (made_is (row_of (x ∷ xs) i) x (at_index x xs i f) e)
kept_step x xs kept i false Less e f more none = more ∙ ap if_made (sym (passed_below x xs i f))
kept_step x xs kept i false Greater e f more none = more ∙ ap if_made (sym (passed_above x xs i f))
kept_step x xs kept i false Equal e f more none =
    let gone : if_made (Some x) ≡ None = rw e refl in
    none f ∙ sym (ap if_made (at_index x xs i f) ∙ gone)

above_kept : (i : StaticIndex) (xs : List StaticRow) → AllByRecursion (λ y. index_cmp i y.index ≡ Less) xs → AllByRecursion (λ y. index_cmp i y.index ≡ Less) (made_rows xs)
above_kept i [] h = tt
above_kept i (x ∷ xs) h = let more = above_kept i xs h.1 in elim x.made as (λ m. AllByRecursion (λ y. index_cmp i y.index ≡ Less) (cond m (x ∷ made_rows xs) (made_rows xs))) [ true ↦ (h.0, more) | false ↦ more ]

pub made_found : (rows : List StaticRow) (i : StaticIndex) → IsRising rows → row_of (made_rows rows) i ≡ if_made (row_of rows i)
unfolding IsStrictlySortedBy
made_found [] i up = refl
made_found (x ∷ xs) i up =
    let none : index_cmp x.index i ≡ Equal → row_of (made_rows xs) i ≡ None = λ e. ap (row_of (made_rows xs)) (sym (same_index x.index i e)) ∙ none_behind (made_rows xs) x.index (above_kept x.index xs up.0) in
    kept_step x xs (made_rows xs) i x.made (index_cmp x.index i) refl refl (made_found xs i up.1) none

-- what settling leaves
pub settled_made : (b : BridgeState) → AllByRecursion (λ r. r.made ≡ true) (after_settling b).statics.rows
unfolding after_settling after_tree_step
settled_made b = all_made b.statics.rows

pub settled_same : (b : BridgeState) → IsRising b.statics.rows → (i : StaticIndex) → row_of (after_settling b).statics.rows i ≡ made_row b.statics.rows i
unfolding after_settling after_tree_step
settled_same b up i = made_found b.statics.rows i up

-- learning sees no static row
taken_learned : (b : BridgeState) (t : Statics) (p : ℕ) (f : FrameIn) (m : Option Bpdu) (no_room : Bool)
    → (reception_result p f m no_room (after_reception p (record b { statics = t }))).bridge.learned ≡ (reception_result p f m no_room (after_reception p b)).bridge.learned
unfolding data_result after_forwarding after_learning after_reception bpdu_result after_tree_step arrival_of
taken_learned b t p f None no_room = refl
taken_learned b t p f (Some m) no_room = refl

framed_learned : (b : BridgeState) (t : Statics) (p : ℕ) (f : FrameIn) (no_room : Bool) (v : Bool) → is_on b p ≡ v → (frame_result (record b { statics = t }) p f no_room).bridge.learned ≡ (frame_result b p f no_room).bridge.learned
framed_learned b t p f no_room true e =
    ap (λ (g : Framed). g.bridge.learned) (framed_on (record b { statics = t }) p f no_room e) ∙ (taken_learned b t p f f.bpdu no_room ∙ sym (ap (λ (g : Framed). g.bridge.learned) (framed_on b p f no_room e)))
framed_learned b t p f no_room false e =
    ap (λ (g : Framed). g.bridge.learned) (framed_off (record b { statics = t }) p f no_room e) ∙ sym (ap (λ (g : Framed). g.bridge.learned) (framed_off b p f no_room e))

pub learns_alike : (b : BridgeState) (t : Statics) (p : ℕ) (f : FrameIn) (no_room : Bool) → (frame_result (record b { statics = t }) p f no_room).bridge.learned ≡ (frame_result b p f no_room).bridge.learned
learns_alike b t p f no_room = framed_learned b t p f no_room (is_on b p) refl

-- and frames change none
taken_statics : (b : BridgeState) (p : ℕ) (f : FrameIn) (m : Option Bpdu) (no_room : Bool) → (reception_result p f m no_room (after_reception p b)).bridge.statics ≡ b.statics
unfolding data_result after_forwarding after_learning after_reception bpdu_result after_tree_step arrival_of
taken_statics b p f None no_room = refl
taken_statics b p f (Some m) no_room = refl

framed_statics : (b : BridgeState) (p : ℕ) (f : FrameIn) (no_room : Bool) (v : Bool) → is_on b p ≡ v → (frame_result b p f no_room).bridge.statics ≡ b.statics
framed_statics b p f no_room true e = ap (λ (g : Framed). g.bridge.statics) (framed_on b p f no_room e) ∙ taken_statics b p f f.bpdu no_room
framed_statics b p f no_room false e = ap (λ (g : Framed). g.bridge.statics) (framed_off b p f no_room e)

pub keeps_statics : (b : BridgeState) (p : ℕ) (f : FrameIn) (no_room : Bool) → (frame_result b p f no_room).bridge.statics ≡ b.statics
keeps_statics b p f no_room = framed_statics b p f no_room (is_on b p) refl
