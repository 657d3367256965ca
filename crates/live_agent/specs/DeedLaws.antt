-- Deeds, one list behind another, of a wire with a gate and of a wire with a pace.
use Rattle.std.proofs.Common.{◌≡◌, ◌∙◌, Bool, List, [], ◌∷◌, ◌++◌, refl, sym, ap, subst}
use Rattle.wire_core.specs.Acts.{Act}
use Rattle.live_agent.specs.declared.gate.Gated.{Gated}
use Rattle.live_agent.specs.declared.paced.Paced.{Paced}
use Rattle.live_agent.specs.Deeds.{Deed, Visit, acted, visited, answered, all_acted, acts_in, visits_in, answers_in}
use Rattle.live_agent.specs.Gates.{ActsGated, GoesGated, ActsPaced, GoesPaced}

acts_in-append : (xs ys : List Deed) → acts_in (xs ++ ys) ≡ acts_in xs ++ acts_in ys
acts_in-append [] ys = refl
acts_in-append (acted act ∷ xs) ys = ap (λ (l : List Act). act ∷ l) (acts_in-append xs ys)
acts_in-append (visited visit ∷ xs) ys = acts_in-append xs ys
acts_in-append (answered more ∷ xs) ys = acts_in-append xs ys

visits_in-append : (xs ys : List Deed) → visits_in (xs ++ ys) ≡ visits_in xs ++ visits_in ys
visits_in-append [] ys = refl
visits_in-append (acted act ∷ xs) ys = visits_in-append xs ys
visits_in-append (visited visit ∷ xs) ys = ap (λ (l : List Visit). visit ∷ l) (visits_in-append xs ys)
visits_in-append (answered more ∷ xs) ys = visits_in-append xs ys

answers_in-append : (xs ys : List Deed) → answers_in (xs ++ ys) ≡ answers_in xs ++ answers_in ys
answers_in-append [] ys = refl
answers_in-append (acted act ∷ xs) ys = answers_in-append xs ys
answers_in-append (visited visit ∷ xs) ys = answers_in-append xs ys
answers_in-append (answered more ∷ xs) ys = ap (λ (l : List Bool). more ∷ l) (answers_in-append xs ys)

acts_in-acted : (acts : List Act) → acts_in (all_acted acts) ≡ acts
acts_in-acted [] = refl
acts_in-acted (act ∷ acts) = ap (λ (l : List Act). act ∷ l) (acts_in-acted acts)

visits_in-acted : (acts : List Act) → visits_in (all_acted acts) ≡ []
visits_in-acted [] = refl
visits_in-acted (act ∷ acts) = visits_in-acted acts

answers_in-acted : (acts : List Act) → answers_in (all_acted acts) ≡ []
answers_in-acted [] = refl
answers_in-acted (act ∷ acts) = answers_in-acted acts

-- ---- a wire with a gate

pub gated_starts : {W G : Type 0} (went : W → List Act → W → Type 0) → ((w : W) → went w [] w) → (a : Gated W G) → ActsGated went a [] a
gated_starts went same a = record { wire = same a.wire; gate = refl }

pub gated_goes_on : {W G : Type 0} (went : W → List Act → W → Type 0) → ((a b c : W) (xs ys : List Act) → went a xs b → went b ys c → went a (xs ++ ys) c) → (a b c : Gated W G) (xs ys : List Act) → ActsGated went a xs b → ActsGated went b ys c → ActsGated went a (xs ++ ys) c
gated_goes_on went on a b c xs ys p q = record { wire = on a.wire b.wire c.wire xs ys p.wire q.wire; gate = q.gate ∙ p.gate }

pub gated_acts_are : {W G : Type 0} (went : W → List Act → W → Type 0) (gate_went : G → List Visit → G → Type 0) → ((g : G) → gate_went g [] g) → (a b : Gated W G) (acts : List Act) → ActsGated went a acts b → GoesGated went gate_went a (all_acted acts) b
gated_acts_are went gate_went same a b acts p = record {
  wire = subst (λ (l : List Act). went a.wire l b.wire) (sym (acts_in-acted acts)) p.wire;
  gate = subst (λ (l : List Visit). gate_went a.gate l b.gate) (sym (visits_in-acted acts)) (subst (λ g. gate_went a.gate [] g) (sym p.gate) (same a.gate));
}

pub gated_deeds_go_on : {W G : Type 0} (went : W → List Act → W → Type 0) (gate_went : G → List Visit → G → Type 0)
    → ((a b c : W) (xs ys : List Act) → went a xs b → went b ys c → went a (xs ++ ys) c)
    → ((a b c : G) (xs ys : List Visit) → gate_went a xs b → gate_went b ys c → gate_went a (xs ++ ys) c)
    → (a b c : Gated W G) (xs ys : List Deed) → GoesGated went gate_went a xs b → GoesGated went gate_went b ys c → GoesGated went gate_went a (xs ++ ys) c
gated_deeds_go_on went gate_went on gate_on a b c xs ys p q = record {
  wire = subst (λ (l : List Act). went a.wire l c.wire) (sym (acts_in-append xs ys)) (on a.wire b.wire c.wire _ _ p.wire q.wire);
  gate = subst (λ (l : List Visit). gate_went a.gate l c.gate) (sym (visits_in-append xs ys)) (gate_on a.gate b.gate c.gate _ _ p.gate q.gate);
}

-- ---- a wire with a pace

pub paced_starts : {W P : Type 0} (went : W → List Act → W → Type 0) → ((w : W) → went w [] w) → (a : Paced W P) → ActsPaced went a [] a
paced_starts went same a = record { wire = same a.wire; pace = refl }

pub paced_goes_on : {W P : Type 0} (went : W → List Act → W → Type 0) → ((a b c : W) (xs ys : List Act) → went a xs b → went b ys c → went a (xs ++ ys) c) → (a b c : Paced W P) (xs ys : List Act) → ActsPaced went a xs b → ActsPaced went b ys c → ActsPaced went a (xs ++ ys) c
paced_goes_on went on a b c xs ys p q = record { wire = on a.wire b.wire c.wire xs ys p.wire q.wire; pace = q.pace ∙ p.pace }

pub paced_acts_are : {W P : Type 0} (went : W → List Act → W → Type 0) (pace_went : P → List Bool → P → Type 0) → ((p : P) → pace_went p [] p) → (a b : Paced W P) (acts : List Act) → ActsPaced went a acts b → GoesPaced went pace_went a (all_acted acts) b
paced_acts_are went pace_went same a b acts p = record {
  wire = subst (λ (l : List Act). went a.wire l b.wire) (sym (acts_in-acted acts)) p.wire;
  pace = subst (λ (l : List Bool). pace_went a.pace l b.pace) (sym (answers_in-acted acts)) (subst (λ q. pace_went a.pace [] q) (sym p.pace) (same a.pace));
}

pub paced_deeds_go_on : {W P : Type 0} (went : W → List Act → W → Type 0) (pace_went : P → List Bool → P → Type 0)
    → ((a b c : W) (xs ys : List Act) → went a xs b → went b ys c → went a (xs ++ ys) c)
    → ((a b c : P) (xs ys : List Bool) → pace_went a xs b → pace_went b ys c → pace_went a (xs ++ ys) c)
    → (a b c : Paced W P) (xs ys : List Deed) → GoesPaced went pace_went a xs b → GoesPaced went pace_went b ys c → GoesPaced went pace_went a (xs ++ ys) c
paced_deeds_go_on went pace_went on pace_on a b c xs ys p q = record {
  wire = subst (λ (l : List Act). went a.wire l c.wire) (sym (acts_in-append xs ys)) (on a.wire b.wire c.wire _ _ p.wire q.wire);
  pace = subst (λ (l : List Bool). pace_went a.pace l c.pace) (sym (answers_in-append xs ys)) (pace_on a.pace b.pace c.pace _ _ p.pace q.pace);
}
