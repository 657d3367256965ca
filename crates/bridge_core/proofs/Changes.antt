-- What the bodies leave of a bridge, as the definitions have it.
use Rattle.std.proofs.Common.{◌≡◌, ℕ, ◌-◌, Bool, true, false, List, [], length, get_or, set, sym, ap, ◌∙◌}
use Rattle.std.specs.Prelude.{◌==◌, Option}
use Rattle.std.specs.List.{refill}
use Rattle.std.proofs.lemmas.List.{length-set}
use Rattle.rstp_settings.proofs.Puts.{refill_same}
use Rattle.frame_core.specs.declared.mac.Mac.{Mac}
use Rattle.frame_core.specs.declared.frame.FrameIn.{FrameIn}
use Rattle.fdb_core.specs.declared.row.LearnedRow.{LearnedRow}
use Rattle.fdb_core.specs.Rows.{other_rows}
use Rattle.fdb_core.specs.declared.learnt.Learnt.{Learnt}
use Rattle.fdb_core.specs.Statics.{Statics}
use Rattle.rstp_settings.specs.Table.{Table}
use Rattle.rstp_rules.specs.declared.port.State.{State}
use Rattle.rstp_core.specs.Tree.{Tree, port_at}
use Rattle.rstp_core.specs.Steps.{Step, IsStep}
use Rattle.rstp_core.specs.declared.rstp.Outcome.{Outcome}
use Rattle.bridge_core.specs.declared.bridge.Forwarding.{Forwarding}
use Rattle.bridge_core.specs.declared.counters.PortCounters.{PortCounters}
use Rattle.bridge_core.specs.declared.bridge.TheConstants.{MAX_LEARNED_ROWS}
use Rattle.bridge_core.specs.Bridge.{BridgeState, no_counters, port_count, is_on}
use Rattle.bridge_core.specs.Counting.{with_frame_in, with_discard, sent_where, has_bpdu, discards_after}
use Rattle.bridge_core.specs.Forwarding.{learnt_with, rows_after, is_refused, goes_out, ports_where, egress_of}
use Rattle.bridge_core.specs.Events.{after_tree_step, after_reception, after_learning, after_forwarding, reception_result, Framed, Gives, frame_result, no_bpdus}

-- a bridge of these parts
abbrev pub state : Table → Tree → List LearnedRow → Statics → ℕ → List PortCounters → BridgeState
state s t rows f n cs = record { settings = s; tree = t; learned = rows; statics = f; counters = record { entry_discards = n; ports = cs } }

-- what a slice of all counters leaves
pub counted : (cs ds ws : List PortCounters) (test : ℕ → Bool) → length ws ≡ length ds → ds ≡ cs → ws ≡ sent_where test ds → refill (length cs) cs ws ≡ sent_where test cs
counted cs ds ws test h e g =
    refill_same cs ws (h ∙ ap length e) ∙ (g ∙ ap (sent_where test) e)

pub written : (cs ds : List PortCounters) (i : ℕ) (x : PortCounters) → length ds ≡ length cs → refill (length cs) cs (set ds i x) ≡ set ds i x
written cs ds i x h = refill_same cs (set ds i x) (length-set ds i x ∙ h)

pub received_at : (cs ds : List PortCounters) (i : ℕ) (x : PortCounters) → ds ≡ cs → x ≡ with_frame_in (get_or ds i no_counters) → refill (length cs) cs (set ds i x) ≡ set cs i (with_frame_in (get_or cs i no_counters))
received_at cs ds i x e g =
    written cs ds i x (ap length e) ∙ (ap (set ds i) g ∙ ap (λ (xs : List PortCounters). set xs i (with_frame_in (get_or xs i no_counters))) e)

-- what a step sends
pub step_bpdus : (e : Step) (t u : Tree) (out : Outcome) → IsStep e t u out → out.bpdus.items ≡ e.bpdus
step_bpdus e t u out h = sym (ap (λ (x : Step). x.bpdus) h.gives)

pub after_step : (s z : Table) (t u : Tree) (rows left : List LearnedRow) (st : Statics) (n : ℕ) (cs ds : List PortCounters) (out : Outcome) (e : Step) → IsStep e t u out → z ≡ s → left ≡ other_rows out.flushed.items rows → ds ≡ sent_where (has_bpdu out.bpdus.items) cs → state z u left st n ds ≡ after_tree_step e (state s t rows st n cs)
unfolding after_tree_step
after_step s z t u rows left st n cs ds out e h j f g = rw (h.gives, j, f, g)

pub after_receive : (s : Table) (t : Tree) (rows : List LearnedRow) (st : Statics) (n : ℕ) (cs ds : List PortCounters) (p : ℕ) → ds ≡ set cs (p - 1) (with_frame_in (get_or cs (p - 1) no_counters)) → state s t rows st n ds ≡ after_reception p (state s t rows st n cs)
unfolding after_reception
after_receive s t rows st n cs ds p e = rw e

pub after_learn : (s : Table) (t : Tree) (rows left : List LearnedRow) (st : Statics) (n m : ℕ) (cs : List PortCounters) (p : ℕ) (f : FrameIn) (l : Option Learnt) (no_room : Bool) (limit : ℕ) (at : State) → limit ≡ MAX_LEARNED_ROWS → at ≡ (port_at t p).state → no_room ≡ is_refused l → l ≡ learnt_with rows limit at p f (is_refused l) → left ≡ rows_after l rows f.source p → m ≡ discards_after l n → state s t left st m cs ≡ after_learning p f no_room (state s t rows st n cs)
unfolding after_learning
after_learn s t rows left st n m cs p f l no_room limit at e g h q r d =
    let same : l ≡ learnt_with rows MAX_LEARNED_ROWS (port_at t p).state p f no_room =
    q ∙ (ap (λ (x : ℕ). learnt_with rows x at p f (is_refused l)) e ∙ (ap (λ (x : State). learnt_with rows MAX_LEARNED_ROWS x p f (is_refused l)) g ∙ ap (λ (x : Bool). learnt_with rows MAX_LEARNED_ROWS (port_at t p).state p f x) (sym h))) in
    let rows_same : left ≡ rows_after (learnt_with rows MAX_LEARNED_ROWS (port_at t p).state p f no_room) rows f.source p = r ∙ ap (λ (x : Option Learnt). rows_after x rows f.source p) same in
    let discards_same : m ≡ discards_after (learnt_with rows MAX_LEARNED_ROWS (port_at t p).state p f no_room) n = d ∙ ap (λ (x : Option Learnt). discards_after x n) same in
    λ i. state s t (rows_same i) st (discards_same i) cs

pub after_forward : (s : Table) (t : Tree) (rows : List LearnedRow) (st : Statics) (n : ℕ) (cs sent ds : List PortCounters) (p : ℕ) (d : Mac) (test : ℕ → Bool) (egress : List ℕ) (lost : Bool) → test ≡ goes_out (state s t rows st n cs) p d → egress ≡ ports_where test (length t.ports) → lost ≡ (length egress == 0) → sent ≡ sent_where test cs → ds ≡ set sent (p - 1) (with_discard lost (get_or sent (p - 1) no_counters)) → state s t rows st n ds ≡ after_forwarding p d (state s t rows st n cs)
unfolding after_forwarding egress_of
after_forward s t rows st n cs sent ds p d test egress lost e g l h r =
    let leaves : egress ≡ ports_where (goes_out (state s t rows st n cs) p d) (length t.ports) = g ∙ ap (λ (w : ℕ → Bool). ports_where w (length t.ports)) e in
    let counts : sent ≡ sent_where (goes_out (state s t rows st n cs) p d) cs = h ∙ ap (λ (w : ℕ → Bool). sent_where w cs) e in
    let loses : lost ≡ (length (ports_where (goes_out (state s t rows st n cs) p d) (length t.ports)) == 0) = l ∙ ap (λ (xs : List ℕ). length xs == 0) leaves in
    let both : ds ≡ set (sent_where (goes_out (state s t rows st n cs) p d) cs) (p - 1) (with_discard (length (ports_where (goes_out (state s t rows st n cs) p d) (length t.ports)) == 0) (get_or (sent_where (goes_out (state s t rows st n cs) p d) cs) (p - 1) no_counters)) =
    r ∙ (ap (λ (b : Bool). set sent (p - 1) (with_discard b (get_or sent (p - 1) no_counters))) loses ∙ ap (λ (xs : List PortCounters). set xs (p - 1) (with_discard (length (ports_where (goes_out (state s t rows st n cs) p d) (length t.ports)) == 0) (get_or xs (p - 1) no_counters))) counts) in
    ap (state s t rows st n) both

-- what is given is also what another bridge of as many ports was to give
pub gives_same : (g h : Framed) (b c d : BridgeState) (out : Forwarding) → g ≡ h → port_count b ≡ port_count c → Gives g b d out → Gives h c d out
gives_same g h b c d out e same given = record {
  step = given.step ∙ ap (λ (x : Framed). x.bridge) e;
  egress = given.egress ∙ ap (λ (x : Framed). x.egress) e;
  bpdus = given.bpdus ∙ ap (λ (x : Framed). x.bpdus) e;
  ports = given.ports ∙ same;
  each = given.each ∙ same;
}

pub framed_on : (b : BridgeState) (p : ℕ) (f : FrameIn) (no_room : Bool) → is_on b p ≡ true → frame_result b p f no_room ≡ reception_result p f f.bpdu no_room (after_reception p b)
unfolding frame_result
framed_on b p f no_room e = rw e

abbrev pub unframed : BridgeState → Framed
unframed b = record { bridge = b; egress = []; bpdus = no_bpdus b }

pub framed_off : (b : BridgeState) (p : ℕ) (f : FrameIn) (no_room : Bool) → is_on b p ≡ false → frame_result b p f no_room ≡ unframed b
unfolding frame_result
framed_off b p f no_room e = rw e
