-- The events that the relations allow are those that their functions give.
use Rattle.std.proofs.Common.{◌≡◌, ℕ, ◌<◌, zero, suc, Bool, true, false, ◌||◌, not, List, [], ◌∷◌, length, get_or, All, map, refl, sym, ap, subst, ◌∙◌, arith, ◌↔◌}
use Rattle.std.specs.Prelude.{Option, Some}
use Rattle.std.specs.List.{list_any, find, filter_map, best_of}
use Rattle.std.specs.Option.{unwrap_or}
use Rattle.std.proofs.lemmas.List.{get_or_default}
use Rattle.std.proofs.lemmas.List.Folds.{list_any_none}
use Rattle.std.proofs.lemmas.List.Elements.{All-cons, All-tail}
use Rattle.frame_core.specs.declared.bpdu.Bpdu.{Bpdu}
use Rattle.rstp_settings.specs.Table.{Table}
use Rattle.rstp_rules.specs.declared.row.PortInEvent.{PortInEvent}
use Rattle.rstp_rules.specs.declared.row.Best.{Best}
use Rattle.rstp_rules.specs.declared.row.Context.{Context}
use Rattle.rstp_rules.specs.Lines.{timers_of, times_in_force, context_of}
use Rattle.rstp_rules.specs.Roles.{beats, candidate, candidates, own_best, IsBest}
use Rattle.rstp_rules.specs.Sends.{bpdu_of, after_sending, flushed_ports}
use Rattle.rstp_core.specs.Passes.{rows_with_roles, ready}
use Rattle.rstp_core.specs.Tree.{Tree, ports_of, has_change, facts_after, Ends, Ticks, Arrives, Links, Settles}
use Rattle.rstp_core.specs.Steps.{is_unbeaten, best_candidate, root_of, Step, Event, event_own, fresh_rows, event_root, roled_rows, event_context, ready_rows, left_rows, tree_after, step_of, tick_event, arrival_event, link_event, settling_event, tick_step, arrival_step, link_step, settling_step, IsStep}
use Rattle.rstp_core.specs.declared.rstp.Outcome.{Outcome}
use Rattle.rstp_core.proofs.Bests.{IsBest-unique, IsBest-best_of}

find_case : {X : Type 0} (p : X → Bool) (x : X) (xs : List X) (b : X) (v : Bool) → p x ≡ v → (v ≡ true → x ≡ b) → (v ≡ false → find p xs ≡ Some b) → find p (x ∷ xs) ≡ Some b
find_case p x xs b true q h i = rw q (ap Some (h refl))
find_case p x xs b false q h i = rw q (i refl)

-- where one element passes a test, and no other, it is found
find_only : {X : Type 0} (p : X → Bool) (xs : List X) (b : X) (k : ℕ) → k < length xs → get_or xs k b ≡ b → p b ≡ true → All (λ x. p x ≡ true → x ≡ b) xs → find p xs ≡ Some b
find_only p [] b k h e t all = absurd (omega arith)
find_only p (x ∷ xs) b zero h e t all = rw (e, t)
find_only p (x ∷ xs) b (suc k) h e t all =
    find_case p x xs b (p x) refl (λ q. all 0 x (omega arith) q) (λ _. find_only p xs b k (omega arith) e t (All-tail (λ y. p y ≡ true → y ≡ b) x xs all))

or_false : (a b : Bool) → (a || b) ≡ false → (a ≡ false) × (b ≡ false)
or_false true b e = cc
or_false false b e = (refl, e)

not_true : (a : Bool) → not a ≡ true → a ≡ false
not_true true e = cc
not_true false e = refl

any_none : {X : Type 0} (p : X → Bool) (xs : List X) → list_any p xs ≡ false → All (λ x. p x ≡ false) xs
any_none p [] e = λ k d h. absurd (omega arith)
any_none p (x ∷ xs) e =
    let h = or_false (p x) (list_any p xs) e in
    All-cons (λ y. p y ≡ false) x xs h.0 (any_none p xs h.1)

only_best : (bs : List Best) (b : Best) → IsBest bs b → All (λ x. is_unbeaten bs x ≡ true → x ≡ b) bs
only_best bs b best = λ k d h e.
    let a = get_or bs k d in
    IsBest-unique bs a b (record { one = (k, h, get_or_default bs k a d h); least = any_none (λ c. beats c a) bs (not_true (list_any (λ c. beats c a) bs) e) }) best

-- the candidate that none beats is the least element
unbeaten_is : (none : Best) (bs : List Best) (b : Best) → IsBest bs b → best_candidate none bs ≡ b
unbeaten_is none bs b best =
    ap (λ (o : Option Best). unwrap_or o none) (find_only (is_unbeaten bs) bs b best.one.0 best.one.1 best.one.2 (ap not (list_any_none (λ c. beats c b) bs best.least)) (only_best bs b best))

-- The steps of an event, one by one.
root_is : (e : Event) (b : Best) → IsBest (candidates (event_own e) (fresh_rows e)) b → event_root e ≡ b
unfolding event_root root_of
root_is e b best = unbeaten_is (own_best (event_own e)) (candidates (event_own e) (fresh_rows e)) b best

context_is : (e : Event) (c : Context) → event_root e ≡ c.root → c ≡ context_of e.settings (event_own e) c.root e.was (times_in_force (timers_of e.settings) (rows_with_roles (event_own e) c.root (fresh_rows e))) → event_context e ≡ c
unfolding event_context roled_rows
context_is e c r q =
    ap (λ (b : Best). context_of e.settings (event_own e) b e.was (times_in_force (timers_of e.settings) (rows_with_roles (event_own e) b (fresh_rows e)))) r ∙ sym q

ready_is : (e : Event) (c : Context) → event_root e ≡ c.root → event_context e ≡ c → ready_rows e ≡ ready e.tick c (rows_with_roles (event_own e) c.root (fresh_rows e))
unfolding ready_rows roled_rows
ready_is e c r q =
    ap (λ (x : Context). ready e.tick x (rows_with_roles (event_own e) (event_root e) (fresh_rows e))) q ∙ ap (λ (b : Best). ready e.tick c (rows_with_roles (event_own e) b (fresh_rows e))) r

left_is : (e : Event) (c : Context) (rows : List PortInEvent) → event_context e ≡ c → ready_rows e ≡ rows → left_rows e ≡ map (after_sending c) rows
unfolding left_rows
left_is e c rows q h = ap (λ (x : Context). map (after_sending x) (ready_rows e)) q ∙ ap (map (after_sending c)) h

bpdus_is : (e : Event) (c : Context) (rows : List PortInEvent) → event_context e ≡ c → ready_rows e ≡ rows → map (bpdu_of (event_context e)) (ready_rows e) ≡ map (bpdu_of c) rows
bpdus_is e c rows q h = ap (λ (x : Context). map (bpdu_of x) (ready_rows e)) q ∙ ap (map (bpdu_of c)) h

-- What an event leaves of a tree, by what it left of the rows.
left_tree : Event → Context → List PortInEvent → Tree
left_tree e c left = record e.tree {
  ports = ports_of left;
  facts = facts_after e.tick c (has_change e.tree.ports) (has_change (ports_of left)) e.tree.facts;
}

tree_is : (e : Event) (c : Context) (left : List PortInEvent) → event_context e ≡ c → left_rows e ≡ left → tree_after e ≡ left_tree e c left
unfolding tree_after left_tree
tree_is e c left q h = ap (λ (x : Context). left_tree e x (left_rows e)) q ∙ ap (left_tree e c) h

-- An event that the relation allows is the function's.
pub ends_step : (e : Event) (u : Tree) (out : Outcome) → Ends e.settings e.tick e.was e.rows e.tree u out → IsStep (step_of e) e.tree u out
unfolding step_of left_tree
ends_step e u out h =
    let c = h.context in
    let root : event_root e ≡ c.root = root_is e c.root h.concludes.root in
    let context : event_context e ≡ c = context_is e c root h.concludes.context in
    let rows = ready e.tick c (rows_with_roles (event_own e) c.root (fresh_rows e)) in
    let sends : ready_rows e ≡ rows = ready_is e c root context in
    let left : left_rows e ≡ h.left = left_is e c rows context sends ∙ sym h.concludes.rows in
    let tree : tree_after e ≡ u = tree_is e c h.left context left ∙ sym h.tree in
    let bpdus : map (bpdu_of (event_context e)) (ready_rows e) ≡ out.bpdus.items = bpdus_is e c rows context sends ∙ sym h.concludes.bpdus in
    let flushed : flushed_ports (ready_rows e) ≡ out.flushed.items = ap flushed_ports sends ∙ sym h.concludes.flushed in
    record {
      gives = λ i. record { tree = tree i; bpdus = bpdus i; flushed = flushed i };
      address = ap (λ (t : Tree). t.address) h.tree;
      config = ap (λ (t : Tree). t.config) h.tree;
    }

-- The root vector of an event under way is a least element.
root_best : (e : Event) → IsBest (candidates (event_own e) (fresh_rows e)) (event_root e)
root_best e =
    let bs = candidates (event_own e) (fresh_rows e) in
    let best = IsBest-best_of (event_own e) (fresh_rows e) in
    subst (λ (b : Best). IsBest bs b) (sym (root_is e (best_of beats (own_best (event_own e)) (filter_map (candidate (event_own e)) (fresh_rows e))) best)) best

-- What the function gives, the relation allows.
pub step_ends : (e : Event) (u : Tree) (out : Outcome) → IsStep (step_of e) e.tree u out → Ends e.settings e.tick e.was e.rows e.tree u out
unfolding step_of tree_after left_rows ready_rows event_context roled_rows
step_ends e u out h = record {
  context = event_context e;
  left = left_rows e;
  concludes = record {
    root = root_best e;
    context = refl;
    rows = refl;
    bpdus = sym (ap (λ (x : Step). x.bpdus) h.gives);
    flushed = sym (ap (λ (x : Step). x.flushed) h.gives);
  };
  tree = sym (ap (λ (x : Step). x.tree) h.gives);
}

pub tick_steps : (s : Table) (t u : Tree) (out : Outcome) → Ticks s t u out → IsStep (tick_step s t) t u out
unfolding tick_step
tick_steps s t u out h = ends_step (tick_event s t) u out h

pub arrival_steps : (s : Table) (n : ℕ) (b : Bpdu) (t u : Tree) (out : Outcome) → Arrives s n b t u out → IsStep (arrival_step s n b t) t u out
unfolding arrival_step
arrival_steps s n b t u out h = ends_step (arrival_event s n b t) u out h

pub link_steps : (s : Table) (n : ℕ) (up : Bool) (t u : Tree) (out : Outcome) → Links s n up t u out → IsStep (link_step s n up t) t u out
unfolding link_step
link_steps s n up t u out h = ends_step (link_event s n up t) u out h

pub settling_steps : (s : Table) (t u : Tree) (out : Outcome) → Settles s t u out → IsStep (settling_step s t) t u out
unfolding settling_step
settling_steps s t u out h =
    let e = ends_step (settling_event s t) u out h in
    record { gives = e.gives; address = e.address; config = e.config }

pub tick_exact : (s : Table) (t u : Tree) (out : Outcome) → Ticks s t u out ↔ IsStep (tick_step s t) t u out
unfolding tick_step
tick_exact s t u out = (tick_steps s t u out, λ h. step_ends (tick_event s t) u out h)

pub arrival_exact : (s : Table) (n : ℕ) (b : Bpdu) (t u : Tree) (out : Outcome) → Arrives s n b t u out ↔ IsStep (arrival_step s n b t) t u out
unfolding arrival_step
arrival_exact s n b t u out = (arrival_steps s n b t u out, λ h. step_ends (arrival_event s n b t) u out h)

pub link_exact : (s : Table) (n : ℕ) (up : Bool) (t u : Tree) (out : Outcome) → Links s n up t u out ↔ IsStep (link_step s n up t) t u out
unfolding link_step
link_exact s n up t u out = (link_steps s n up t u out, λ h. step_ends (link_event s n up t) u out h)

settling_back : (s : Table) (t u : Tree) (out : Outcome) → IsStep (settling_step s t) t u out → Settles s t u out
unfolding settling_step
settling_back s t u out h = step_ends (settling_event s t) u out (record { gives = h.gives; address = h.address; config = h.config })

pub settling_exact : (s : Table) (t u : Tree) (out : Outcome) → Settles s t u out ↔ IsStep (settling_step s t) t u out
settling_exact s t u out = (settling_steps s t u out, settling_back s t u out)

-- An outcome whose lists are those of a step is what the step gives.
abbrev pub step_outcome : Step → Outcome
step_outcome e = record { bpdus = record { items = e.bpdus }; flushed = record { items = e.flushed } }

step_given : (e : Event) → Ends e.settings e.tick e.was e.rows e.tree (step_of e).tree (step_outcome (step_of e))
unfolding step_of tree_after
step_given e = step_ends e (step_of e).tree (step_outcome (step_of e)) (record { gives = refl; address = refl; config = refl })

pub tick_given : (s : Table) (t : Tree) → Ticks s t (tick_step s t).tree (step_outcome (tick_step s t))
unfolding tick_step
tick_given s t = step_given (tick_event s t)

pub arrival_given : (s : Table) (n : ℕ) (b : Bpdu) (t : Tree) → Arrives s n b t (arrival_step s n b t).tree (step_outcome (arrival_step s n b t))
unfolding arrival_step
arrival_given s n b t = step_given (arrival_event s n b t)

pub link_given : (s : Table) (n : ℕ) (up : Bool) (t : Tree) → Links s n up t (link_step s n up t).tree (step_outcome (link_step s n up t))
unfolding link_step
link_given s n up t = step_given (link_event s n up t)

pub settling_given : (s : Table) (t : Tree) → Settles s t (settling_step s t).tree (step_outcome (settling_step s t))
unfolding settling_step
settling_given s t = step_given (settling_event s t)
