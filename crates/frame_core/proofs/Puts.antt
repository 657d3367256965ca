-- Writing one piece behind another at the front of a slice.
use Rattle.std.proofs.Common.{◌≡◌, ℕ, ◌+◌, ◌-◌, ◌<◌, List, ◌++◌, ◌∷◌, [], length, take, drop, set, get_or, replicate, sym, ap, ap₂, ◌∙◌, arith, append_assoc, append-nil}
use Rattle.std.proofs.lemmas.List.{take_at, drop_at, drop-drop, take_rest, drop_all, drop_more, drop-replicate, set_at, length-drop}
use borrow.Rule.Slice.PartMut.{put_mid, mid_of}

-- a write to a part whose length is known
pub puts_part : (n m : ℕ) (a b old mid : List ℕ) → length a ≡ n → mid ≡ a ++ drop n old → put_mid n m mid b ≡ (a ++ b) ++ drop (n + m) old
puts_part n m a b old mid len e =
    let front : take n mid ≡ a = ap (take n) e ∙ take_at a (drop n old) n len in
    let back : drop n mid ≡ drop n old = ap (drop n) e ∙ drop_at a (drop n old) n len in
    ap₂ (λ x y. x ++ (b ++ drop m y)) front back ∙ ap (λ y. a ++ (b ++ y)) (drop-drop m n old) ∙ sym (append_assoc a b (drop (n + m) old))

-- a write at the front of all that is behind a place
pub puts_rest : (n m : ℕ) (a b old mid new : List ℕ) → length a ≡ n → mid ≡ a ++ drop n old → new ≡ b ++ drop m (mid_of n (length mid - n) mid) → put_mid n (length mid - n) mid new ≡ (a ++ b) ++ drop (n + m) old
puts_rest n m a b old mid new len e w =
    let front : take n mid ≡ a = ap (take n) e ∙ take_at a (drop n old) n len in
    let back : drop n mid ≡ drop n old = ap (drop n) e ∙ drop_at a (drop n old) n len in
    let whole : mid_of n (length mid - n) mid ≡ drop n mid = take_rest mid n in
    let none : drop (length mid - n) (drop n mid) ≡ [] = drop_all (length mid - n) (drop n mid) (omega (arith, length-drop n mid)) in
    let written : new ≡ b ++ drop (n + m) old = w ∙ ap (λ y. b ++ drop m y) (whole ∙ back) ∙ ap (λ y. b ++ y) (drop-drop m n old) in
    ap₂ (λ x y. x ++ (new ++ y)) front none ∙ ap (λ y. a ++ y) (append-nil new ∙ written) ∙ sym (append_assoc a b (drop (n + m) old))

-- an octet behind what was written
pub puts_last : (n x d : ℕ) (front old mid : List ℕ) → length front ≡ n → n < length old → mid ≡ front ++ drop n old → set mid n x ≡ (front ++ x ∷ []) ++ drop (n + 1) old
puts_last n x d front old mid len within e =
    ap (λ l. set l n x) (e ∙ ap (λ l. front ++ l) (drop_more old n d within)) ∙ set_at front (get_or old n d) (drop (n + 1) old) x n len ∙ sym (append_assoc front (x ∷ []) (drop (n + 1) old))

-- a header and what follows it, in 60 octets 00
pub puts_frame : (k : ℕ) (header content filled mid new : List ℕ) → length header ≡ 17 → filled ≡ replicate 60 0 → mid ≡ header ++ drop 17 filled → new ≡ content ++ drop k (mid_of 17 43 mid) → put_mid 17 43 mid new ≡ (header ++ content) ++ replicate (43 - k) 0
puts_frame k header content filled mid new len fill e w =
    let front : take 17 mid ≡ header = ap (take 17) e ∙ take_at header (drop 17 filled) 17 len in
    let back : drop 17 mid ≡ replicate 43 0 = ap (drop 17) e ∙ drop_at header (drop 17 filled) 17 len ∙ ap (drop 17) fill in
    let written : new ≡ content ++ replicate (43 - k) 0 = w ∙ ap (λ l. content ++ drop k (take 43 l)) back ∙ ap (λ l. content ++ l) (drop-replicate k 43 0) in
    ap₂ (λ x y. x ++ (new ++ drop 43 y)) front back ∙ ap (λ l. header ++ l) (append-nil new ∙ written) ∙ sym (append_assoc header content (replicate (43 - k) 0))
