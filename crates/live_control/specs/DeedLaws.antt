-- Deeds, one list behind another, of a wire with a control wire beside it.
use Rattle.std.proofs.Common.{◌≡◌, ◌∙◌, List, [], ◌∷◌, ◌++◌, refl, sym, ap, subst}
use Rattle.wire_core.specs.Acts.{Act}
use Rattle.live_control.specs.declared.control_wire.Controlled.{Controlled}
use Rattle.live_control.specs.Deeds.{Deed, acted, controlled, all_acted, acts_in, controls_in}
use Rattle.live_control.specs.Sides.{ActsBeside, GoesBeside}

acts_in-append : (xs ys : List Deed) → acts_in (xs ++ ys) ≡ acts_in xs ++ acts_in ys
acts_in-append [] ys = refl
acts_in-append (acted act ∷ xs) ys = ap (λ (l : List Act). act ∷ l) (acts_in-append xs ys)
acts_in-append (controlled act ∷ xs) ys = acts_in-append xs ys

controls_in-append : (xs ys : List Deed) → controls_in (xs ++ ys) ≡ controls_in xs ++ controls_in ys
controls_in-append [] ys = refl
controls_in-append (acted act ∷ xs) ys = controls_in-append xs ys
controls_in-append (controlled act ∷ xs) ys = ap (λ (l : List Act). act ∷ l) (controls_in-append xs ys)

acts_in-acted : (acts : List Act) → acts_in (all_acted acts) ≡ acts
acts_in-acted [] = refl
acts_in-acted (act ∷ acts) = ap (λ (l : List Act). act ∷ l) (acts_in-acted acts)

controls_in-acted : (acts : List Act) → controls_in (all_acted acts) ≡ []
controls_in-acted [] = refl
controls_in-acted (act ∷ acts) = controls_in-acted acts

pub beside_starts : {W C : Type 0} (went : W → List Act → W → Type 0) → ((w : W) → went w [] w) → (a : Controlled W C) → ActsBeside went a [] a
beside_starts went same a = record { wire = same a.wire; control = refl }

pub beside_goes_on : {W C : Type 0} (went : W → List Act → W → Type 0) → ((a b c : W) (xs ys : List Act) → went a xs b → went b ys c → went a (xs ++ ys) c) → (a b c : Controlled W C) (xs ys : List Act) → ActsBeside went a xs b → ActsBeside went b ys c → ActsBeside went a (xs ++ ys) c
beside_goes_on went on a b c xs ys p q = record { wire = on a.wire b.wire c.wire xs ys p.wire q.wire; control = q.control ∙ p.control }

pub beside_acts_are : {W C : Type 0} (went : W → List Act → W → Type 0) (control_went : C → List Act → C → Type 0) → ((c : C) → control_went c [] c) → (a b : Controlled W C) (acts : List Act) → ActsBeside went a acts b → GoesBeside went control_went a (all_acted acts) b
beside_acts_are went control_went same a b acts p = record {
  wire = subst (λ (l : List Act). went a.wire l b.wire) (sym (acts_in-acted acts)) p.wire;
  control = subst (λ (l : List Act). control_went a.control l b.control) (sym (controls_in-acted acts)) (subst (λ c. control_went a.control [] c) (sym p.control) (same a.control));
}

pub beside_deeds_go_on : {W C : Type 0} (went : W → List Act → W → Type 0) (control_went : C → List Act → C → Type 0)
    → ((a b c : W) (xs ys : List Act) → went a xs b → went b ys c → went a (xs ++ ys) c)
    → ((a b c : C) (xs ys : List Act) → control_went a xs b → control_went b ys c → control_went a (xs ++ ys) c)
    → (a b c : Controlled W C) (xs ys : List Deed) → GoesBeside went control_went a xs b → GoesBeside went control_went b ys c → GoesBeside went control_went a (xs ++ ys) c
beside_deeds_go_on went control_went on control_on a b c xs ys p q = record {
  wire = subst (λ (l : List Act). went a.wire l c.wire) (sym (acts_in-append xs ys)) (on a.wire b.wire c.wire _ _ p.wire q.wire);
  control = subst (λ (l : List Act). control_went a.control l c.control) (sym (controls_in-append xs ys)) (control_on a.control b.control c.control _ _ p.control q.control);
}

pub beside_deeds_start : {W C : Type 0} (went : W → List Act → W → Type 0) (control_went : C → List Act → C → Type 0) → ((w : W) → went w [] w) → ((c : C) → control_went c [] c) → (a : Controlled W C) → GoesBeside went control_went a [] a
beside_deeds_start went control_went same control_same a = record { wire = same a.wire; control = control_same a.control }
