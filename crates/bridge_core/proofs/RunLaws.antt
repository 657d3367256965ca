-- Every run of a bridge is a run of its spanning tree.
use Rattle.std.proofs.Common.{◌≡◌, ℕ, ◌≤◌, Bool, true, false, List, [], ◌∷◌, length, Contains, refl, sym, ap, subst, ◌∙◌}
use Rattle.std.specs.Prelude.{◌↔◌, Option, Some, None}
use Rattle.frame_core.specs.declared.mac.Mac.{Mac}
use Rattle.frame_core.specs.declared.bpdu.Bpdu.{Bpdu}
use Rattle.frame_core.specs.declared.frame.FrameIn.{FrameIn}
use Rattle.rstp_settings.specs.declared.settings.TheConstants.{MAX_PORTS}
use Rattle.rstp_settings.specs.declared.config.PortConfig.{PortConfig}
use Rattle.rstp_rules.specs.declared.port.State.{State}
use Rattle.rstp_rules.specs.declared.port.State.TheVariants.{Discarding, Learning, Forwarding}
use Rattle.rstp_rules.specs.Ports.{is_discarding, is_forwarding}
use Rattle.rstp_rules.specs.Lines.{own_id}
use Rattle.rstp_core.specs.Tree.{Tree}
use Rattle.rstp_core.specs.Steps.{tick_step, link_step, arrival_step, settling_step}
use Rattle.rstp_core.specs.Runs.{Happening, Runs, IsRootPort}
use Rattle.rstp_core.specs.Legal.{IsLegal}
use Rattle.rstp_core.specs.Runs.Happening.{Tick as TreeTick, Link as TreeLink, Message as TreeMessage, Settle as TreeSettle}
use Rattle.rstp_core.proofs.Functions.{step_outcome, tick_given, link_given, arrival_given, settling_given}
use Rattle.rstp_core.proofs.LegalTrees.{opening_legal, happening_legal}
use Rattle.rstp_core.proofs.RunLaws.{runs_same, runs_few, legal_active}
use Rattle.rstp_core.proofs.TreeLaws.{root_port_zero, own_root, no_root_port}
use Rattle.bridge_core.specs.Bridge.{BridgeState, HasPort, address_of, port_count, port_of, is_on}
use Rattle.bridge_core.specs.Facts.{facts_of}
use Rattle.bridge_core.specs.Opening.{opening_bridge}
use Rattle.bridge_core.specs.Events.{after_tree_step, tick_of, after_tick, link_of, after_link, settling_of, after_settling, set_bridge, after_reception, after_learning, after_forwarding, data_result, arrival_of, bpdu_result, reception_result, Framed, frame_result}
use Rattle.bridge_core.specs.Runs.{Put, Event, with_puts, after, run, IsActive}
use Rattle.bridge_core.specs.Runs.Event.{Tick, Link, Frame, Settle}
use Rattle.bridge_core.specs.Runs.Put.{Setting, Made, Allowed}
use Rattle.bridge_core.specs.Statics.{set_made, set_allowed}
use Rattle.bridge_core.proofs.Changes.{framed_on, framed_off}
use Rattle.bridge_core.proofs.Ways.{framed_goes}

-- Some list of happenings leads to the settings and the spanning tree of a bridge.
record Led (a : Mac) (cs : List PortConfig) (b : BridgeState) : Type 0 where
  past : List Happening
  runs : Runs a cs past b.settings b.tree

opening_led : (a : Mac) (cs : List PortConfig) → Led a cs (opening_bridge a cs)
unfolding opening_bridge
opening_led a cs = record { past = []; runs = (refl, refl) }

tick_led : (a : Mac) (cs : List PortConfig) (b : BridgeState) → Led a cs b → Led a cs (after_tick b)
unfolding after_tick after_tree_step tick_of
tick_led a cs b h = record {
  past = TreeTick ∷ h.past;
  runs = (b.settings, b.tree, step_outcome (tick_step b.settings b.tree), h.runs, (refl, tick_given b.settings b.tree));
}

link_led : (a : Mac) (cs : List PortConfig) (n : ℕ) (up : Bool) (b : BridgeState) → Led a cs b → Led a cs (after_link n up b)
unfolding after_link after_tree_step link_of
link_led a cs n up b h = record {
  past = TreeLink n up ∷ h.past;
  runs = (b.settings, b.tree, step_outcome (link_step b.settings n up b.tree), h.runs, (refl, link_given b.settings n up b.tree));
}

-- settings that are put change nothing of the spanning tree
with_puts-tree : (puts : List Put) (b : BridgeState) → (with_puts puts b).tree ≡ b.tree
with_puts-tree [] b = refl
with_puts-tree (Setting k v ∷ puts) b = with_puts-tree puts (set_bridge k v b)
with_puts-tree (Made i v ∷ puts) b = with_puts-tree puts (set_made i v b)
with_puts-tree (Allowed i v ∷ puts) b = with_puts-tree puts (set_allowed i v b)

settled_led : (a : Mac) (cs : List PortConfig) (b set : BridgeState) → set.tree ≡ b.tree → Led a cs b → Led a cs (after_settling set)
unfolding after_settling after_tree_step settling_of
settled_led a cs b set e h = record {
  past = TreeSettle set.settings ∷ h.past;
  runs = (b.settings, set.tree, step_outcome (settling_step set.settings set.tree), subst (λ (t : Tree). Runs a cs h.past b.settings t) (sym e) h.runs, (refl, settling_given set.settings set.tree));
}

-- a frame that is no BPDU changes neither settings nor spanning tree
taken_led : (a : Mac) (cs : List PortConfig) (p : ℕ) (f : FrameIn) (m : Option Bpdu) (no_room : Bool) (b : BridgeState) → Led a cs b → Led a cs (reception_result p f m no_room (after_reception p b)).bridge
unfolding data_result after_forwarding after_learning after_reception bpdu_result after_tree_step arrival_of
taken_led a cs p f None no_room b h = record { past = h.past; runs = h.runs }
taken_led a cs p f (Some m) no_room b h = record {
  past = TreeMessage p m ∷ h.past;
  runs = (b.settings, b.tree, step_outcome (arrival_step b.settings p m b.tree), h.runs, (refl, arrival_given b.settings p m b.tree));
}

framed_led : (a : Mac) (cs : List PortConfig) (p : ℕ) (f : FrameIn) (no_room : Bool) (b : BridgeState) (v : Bool) → is_on b p ≡ v → Led a cs b → Led a cs (frame_result b p f no_room).bridge
framed_led a cs p f no_room b true e h =
    subst (λ (g : Framed). Led a cs g.bridge) (sym (framed_on b p f no_room e)) (taken_led a cs p f f.bpdu no_room b h)
framed_led a cs p f no_room b false e h =
    subst (λ (g : Framed). Led a cs g.bridge) (sym (framed_off b p f no_room e)) h

after_led : (a : Mac) (cs : List PortConfig) (e : Event) (b : BridgeState) → Led a cs b → Led a cs (after e b)
after_led a cs Tick b h = tick_led a cs b h
after_led a cs (Link n up) b h = link_led a cs n up b h
after_led a cs (Frame n f no_room) b h = framed_led a cs n f no_room b (is_on b n) refl h
after_led a cs (Settle puts) b h = settled_led a cs b (with_puts puts b) (with_puts-tree puts b) h

run_led : (a : Mac) (cs : List PortConfig) (events : List Event) → Led a cs (run a cs events)
run_led a cs [] = opening_led a cs
run_led a cs (e ∷ past) = after_led a cs e (run a cs past) (run_led a cs past)

-- each event keeps settings and spanning tree legal
pub opening_is_legal : (a : Mac) (cs : List PortConfig) → IsLegal (opening_bridge a cs).settings (opening_bridge a cs).tree
unfolding opening_bridge
opening_is_legal a cs = opening_legal a cs

taken_legal : (p : ℕ) (f : FrameIn) (m : Option Bpdu) (no_room : Bool) (b : BridgeState) → IsLegal b.settings b.tree → IsLegal (reception_result p f m no_room (after_reception p b)).bridge.settings (reception_result p f m no_room (after_reception p b)).bridge.tree
unfolding data_result after_forwarding after_learning after_reception bpdu_result after_tree_step arrival_of
taken_legal p f None no_room b h = h
taken_legal p f (Some m) no_room b h =
    happening_legal (TreeMessage p m) b.settings b.settings b.tree _ (step_outcome (arrival_step b.settings p m b.tree)) h (refl, arrival_given b.settings p m b.tree)

framed_legal : (p : ℕ) (f : FrameIn) (no_room : Bool) (b : BridgeState) (v : Bool) → is_on b p ≡ v → IsLegal b.settings b.tree → IsLegal (frame_result b p f no_room).bridge.settings (frame_result b p f no_room).bridge.tree
framed_legal p f no_room b true e h =
    subst (λ (g : Framed). IsLegal g.bridge.settings g.bridge.tree) (sym (framed_on b p f no_room e)) (taken_legal p f f.bpdu no_room b h)
framed_legal p f no_room b false e h =
    subst (λ (g : Framed). IsLegal g.bridge.settings g.bridge.tree) (sym (framed_off b p f no_room e)) h

settled_legal : (b set : BridgeState) → set.tree ≡ b.tree → IsLegal b.settings b.tree → IsLegal (after_settling set).settings (after_settling set).tree
unfolding after_settling after_tree_step settling_of
settled_legal b set e h =
    happening_legal (TreeSettle set.settings) b.settings _ set.tree _ (step_outcome (settling_step set.settings set.tree)) (subst (λ (t : Tree). IsLegal b.settings t) (sym e) h) (refl, settling_given set.settings set.tree)

pub after_legal : (e : Event) (b : BridgeState) → IsLegal b.settings b.tree → IsLegal (after e b).settings (after e b).tree
unfolding after_tick after_link after_tree_step tick_of link_of
after_legal Tick b h = happening_legal TreeTick b.settings b.settings b.tree _ (step_outcome (tick_step b.settings b.tree)) h (refl, tick_given b.settings b.tree)
after_legal (Link n up) b h = happening_legal (TreeLink n up) b.settings b.settings b.tree _ (step_outcome (link_step b.settings n up b.tree)) h (refl, link_given b.settings n up b.tree)
after_legal (Frame n f no_room) b h = framed_legal n f no_room b (is_on b n) refl h
after_legal (Settle puts) b h = settled_legal b (with_puts puts b) (with_puts-tree puts b) h

pub run_legal : (a : Mac) (cs : List PortConfig) (events : List Event) → IsLegal (run a cs events).settings (run a cs events).tree
run_legal a cs [] = opening_is_legal a cs
run_legal a cs (e ∷ past) = after_legal e (run a cs past) (run_legal a cs past)

-- a port that learns or forwards is on
pub bridge_active : (b : BridgeState) → IsLegal b.settings b.tree → (n : ℕ) → HasPort b n → is_discarding (port_of b n).state ≡ false → IsActive b n
bridge_active b h n port f =
    let active = legal_active b.settings b.tree h n port.0 port.1 f in
    record { on = active.0; role = active.1 }

pub run_active : (a : Mac) (cs : List PortConfig) (events : List Event) (n : ℕ) → HasPort (run a cs events) n → is_discarding (port_of (run a cs events) n).state ≡ false → IsActive (run a cs events) n
run_active a cs events n port f = bridge_active (run a cs events) (run_legal a cs events) n port f

not_discarding : (state : State) → is_forwarding state ≡ true → is_discarding state ≡ false
not_discarding Discarding e = cc
not_discarding Learning e = cc
not_discarding Forwarding e = refl

-- and so is each port by which a frame goes out
pub bridge_goes : (b : BridgeState) → IsLegal b.settings b.tree → (p : ℕ) (f : FrameIn) (no_room : Bool) (q : ℕ) → Contains (frame_result b p f no_room).egress q → IsActive b q
bridge_goes b legal p f no_room q h =
    let goes = framed_goes b p f no_room q h in
    bridge_active b legal q goes.has_port (not_discarding (port_of b q).state goes.to)

pub run_goes : (a : Mac) (cs : List PortConfig) (events : List Event) (p : ℕ) (f : FrameIn) (no_room : Bool) (q : ℕ) → Contains (frame_result (run a cs events) p f no_room).egress q → IsActive (run a cs events) q
run_goes a cs events p f no_room q h = bridge_goes (run a cs events) (run_legal a cs events) p f no_room q h

-- no root port is shown exactly where the root is this bridge
pub bridge_root : (b : BridgeState) → IsLegal b.settings b.tree → port_count b ≤ MAX_PORTS → ((facts_of b).root_port ≡ 0) ↔ ((facts_of b).root ≡ own_id b.settings (address_of b))
unfolding facts_of
bridge_root b h few =
    let zero = root_port_zero b.settings b.tree h few in
    let own = own_root b.settings b.tree h in
    (λ e. own.1 (zero.0 e), λ e. zero.1 (own.0 e))

pub bridge_no_root : (b : BridgeState) → IsLegal b.settings b.tree → port_count b ≤ MAX_PORTS → ((facts_of b).root_port ≡ 0) ↔ ((n : ℕ) → ¬ IsRootPort b.tree n)
unfolding facts_of
bridge_no_root b h few =
    let zero = root_port_zero b.settings b.tree h few in
    let none = no_root_port b.settings b.tree h in
    (λ e. none.1 (zero.0 e), λ e. zero.1 (none.0 e))

run_few : (a : Mac) (cs : List PortConfig) (events : List Event) → length cs ≤ MAX_PORTS → port_count (run a cs events) ≤ MAX_PORTS
run_few a cs events small =
    let led = run_led a cs events in
    runs_few a cs led.past (run a cs events).settings (run a cs events).tree small led.runs

pub run_root : (a : Mac) (cs : List PortConfig) (events : List Event) → length cs ≤ MAX_PORTS
    → ((facts_of (run a cs events)).root_port ≡ 0) ↔ ((facts_of (run a cs events)).root ≡ own_id (run a cs events).settings a)
run_root a cs events small =
    let b = run a cs events in
    let led = run_led a cs events in
    let here = bridge_root b (run_legal a cs events) (run_few a cs events small) in
    let address : own_id b.settings b.tree.address ≡ own_id b.settings a = ap (own_id b.settings) (runs_same a cs led.past b.settings b.tree led.runs).address in
    (λ e. here.0 e ∙ address, λ e. here.1 (e ∙ sym address))

pub run_no_root : (a : Mac) (cs : List PortConfig) (events : List Event) → length cs ≤ MAX_PORTS
    → ((facts_of (run a cs events)).root_port ≡ 0) ↔ ((n : ℕ) → ¬ IsRootPort (run a cs events).tree n)
run_no_root a cs events small = bridge_no_root (run a cs events) (run_legal a cs events) (run_few a cs events small)
