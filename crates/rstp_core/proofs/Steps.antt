-- Loops that replace each element by what a rule makes of it leave the list of all of them.
use Rattle.std.proofs.Math.Numerals.{one-add}
use Rattle.rstp_settings.specs.Table.{Table}
use Rattle.rstp_rules.specs.declared.port.Port.{Port}
use Rattle.rstp_rules.specs.declared.row.PortInEvent.{PortInEvent}
use Rattle.rstp_settings.specs.declared.config.PortConfig.{PortConfig}
use Rattle.rstp_rules.specs.Lines.{row_of}
use Rattle.rstp_core.specs.Settled.{SettledValues, settled_port}
use Rattle.rstp_core.specs.Tree.{rows_from}
use Rattle.std.proofs.Common.{◌≡◌, ℕ, ◌+◌, ◌<◌, List, ◌++◌, length, take, drop, map, get_or, set, sym, ap, ◌∙◌, arith, refl, zero, suc, ◌∷◌, []}
use Rattle.std.proofs.lemmas.List.{get_or_default, map_more}
use Rattle.std.proofs.lemmas.List.Edits.{map_over_more}

-- a loop that replaces each element x by f x
pub map_step : {X : Type 0} (f : X → X) (xs ys : List X) (i : ℕ) (d y : X) → i < length ys → length ys ≡ length xs → ys ≡ map f (take i xs) ++ drop i xs → y ≡ f (get_or ys i d) → set ys i y ≡ map f (take (i + 1) xs) ++ drop (i + 1) xs
map_step f xs ys i d y within same inv e =
    ap (set ys i) e ∙ map_over_more f xs ys i (get_or ys i d) (omega arith) inv (get_or_default ys i d (get_or ys i d) within)

-- such a loop has not yet reached element i
unread : {X : Type 0} (f : X → X) (xs : List X) (i : ℕ) (d : X) → get_or (map f (take i xs) ++ drop i xs) i d ≡ get_or xs i d
unread f [] zero d = refl
unread f [] (suc i) d = refl
unread f (x ∷ xs) zero d = refl
unread f (x ∷ xs) (suc i) d = unread f xs i d

-- such a loop that also puts g x at the end of a list
pub out_step : {X Y : Type 0} (f : X → X) (g : X → Y) (xs ys : List X) (out : List Y) (i : ℕ) (d : X) (y : Y) → i < length ys → length ys ≡ length xs → ys ≡ map f (take i xs) ++ drop i xs → out ≡ map g (take i xs) → y ≡ g (get_or ys i d) → out ++ y ∷ [] ≡ map g (take (i + 1) xs)
out_step f g xs ys out i d y within same e o h = rw (o, h, e, unread f xs i d) (sym (map_more g xs i d (omega arith)))

-- a loop that begins each row of an event, one row on
pub rows_from-more : (s : Table) (w : SettledValues) (n : ℕ) (cs : List PortConfig) (ps : List Port) (i : ℕ) (c : PortConfig) (p : Port) → length cs ≡ length ps → i < length ps → rows_from s w n (take (suc i) cs) (take (suc i) ps) ≡ rows_from s w n (take i cs) (take i ps) ++ row_of s (settled_port w (n + i)) (n + i) (get_or cs i c) (get_or ps i p) ∷ []
rows_from-more s w n [] [] i c p e h = absurd (omega arith)
rows_from-more s w n [] (q ∷ ps) i c p e h = absurd (omega arith)
rows_from-more s w n (d ∷ cs) [] i c p e h = absurd (omega arith)
rows_from-more s w n (d ∷ cs) (q ∷ ps) zero c p e h = let m : n + 0 ≡ n = omega arith in rw m
rows_from-more s w n (d ∷ cs) (q ∷ ps) (suc i) c p e h =
    let m : n + suc i ≡ (n + 1) + i = omega arith in
    rw m (ap (λ rs. row_of s (settled_port w n) n d q ∷ rs) (rows_from-more s w (n + 1) cs ps i c p (omega arith) (omega arith)))

pub begin_step : (s : Table) (w : SettledValues) (cs : List PortConfig) (ps : List Port) (i : ℕ) (c : PortConfig) (p : Port) (rs : List PortInEvent) (r : PortInEvent) → length cs ≡ length ps → i < length ps → rs ≡ rows_from s w 1 (take i cs) (take i ps) → c ≡ get_or cs i c → r ≡ row_of s (settled_port w (i + 1)) (i + 1) c (get_or ps i p) → rs ++ r ∷ [] ≡ rows_from s w 1 (take (i + 1) cs) (take (i + 1) ps)
begin_step s w cs ps i c p rs r same h e f g =
    let m : i + 1 ≡ 1 + i = omega arith in
    let row : r ≡ row_of s (settled_port w (i + 1)) (i + 1) (get_or cs i c) (get_or ps i p) = g ∙ ap (λ (d : PortConfig). row_of s (settled_port w (i + 1)) (i + 1) d (get_or ps i p)) f in
    rw (row, e, m, one-add) (rw one-add at (sym (rows_from-more s w 1 cs ps i c p same h)))
