use Rattle.std.proofs.Common.{◌∙◌, sym, ap}
use Rattle.rstp_rules.specs.Lines.{own_id}
use Rattle.rstp_core.proofs.RunLaws.{runs_legal, runs_same}
use Rattle.rstp_core.proofs.TreeLaws.{own_root, no_root_port}
use Rattle.rstp_core.proofs.laws.root_bridge_has_no_root_port.Goals as goal

pub returns : goal.returns
returns c = λ a cs hs s t run.
    let legal = runs_legal a cs hs s t run in
    let own = ap (own_id s) (runs_same a cs hs s t run).address in (
      λ root. (no_root_port s t legal).1 ((own_root s t legal).0 (root ∙ sym own)),
      λ none. (own_root s t legal).1 ((no_root_port s t legal).0 none) ∙ own,
    )
