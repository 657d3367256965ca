use Rattle.std.proofs.Common.{◌≡◌, Bool, List, ap, ◌∙◌}
use Rattle.rstp_rules.specs.declared.row.PortInEvent.{PortInEvent}
use Rattle.rstp_rules.specs.declared.row.Timing.{Timing}
use Rattle.rstp_rules.specs.declared.settled.Timers.{Timers}
use Rattle.rstp_rules.specs.Lines.{rstp_version, timers_of, times_in_force, timing_of}
use Rattle.rstp_rules.specs.Arrivals.{after_arrival, after_receptions, after_change_notices}
use Rattle.rstp_core.proofs.events.arrive_all.Goals as goal

pub returns : goal.returns
unfolding after_arrival
returns c =
    let s = c.args.settings.now in
    let own = c.args.own in
    let n = c.args.port in
    let b = c.args.bpdu.now in
    let heard = after_receptions own (rstp_version s) n b c.args.rows.now in
    let rows = c.receive_all.new.rows in
    let h : rows ≡ heard = c.receive_all.ensures ∙ ap (λ (v : Bool). after_receptions own v n b c.args.rows.now) c.has_rstp_version.ensures in
    let t : c.make_timing-timing.result ≡ timing_of s (times_in_force (timers_of s) heard) = c.make_timing-timing.ensures.value ∙ ap (timing_of s) (c.find_times-times.ensures ∙ (ap (λ (m : Timers). times_in_force m rows) c.timers.ensures.value ∙ ap (times_in_force (timers_of s)) h)) in
    c.signal_all.ensures ∙ (ap (λ (x : Timing). after_change_notices x own n b rows) t ∙ ap (λ (rs : List PortInEvent). after_change_notices (timing_of s (times_in_force (timers_of s) heard)) own n b rs) h)
