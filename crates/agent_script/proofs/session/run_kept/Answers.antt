use Rattle.std.proofs.Common.{refl}
use Rattle.script_core.proofs.RunsLemmas.{if_some_weaker, Reads-weaker, Writes-weaker}
use Rattle.script_core.specs.declared.fault.LineFault.TheVariants.{Memory, Stopped}
use Rattle.agent_script.proofs.Noting.{stated_of, stated_front_of, stated_before_of, given_up_of, out_of}
use Rattle.agent_script.proofs.session.run_kept.Goals as goal

pub returns-in-Ok : goal.returns-in-Ok
returns-in-Ok g c = record {
  written = if_some_weaker _ _ _ c.in-Ok.ensures.written
      (λ input written. Writes-weaker _ written (λ text p. stated_of _ _ c.new.ensures _ _ _ _ refl c.run.ensures p));
  input = tt;
  given_up = tt;
  output = tt;
  stopped = tt;
}

pub returns : goal.returns
returns g c = record {
  written = tt;
  input = λ failed. Reads-weaker _ _ _ _ (c.in-Err.ensures.input failed)
      (λ input rest written. Writes-weaker _ written (λ text p. stated_before_of _ _ c.new.ensures _ _ _ _ p));
  given_up = λ given_up. Reads-weaker _ _ _ _ (c.in-Err.ensures.given_up Memory given_up)
      (λ input rest written. Writes-weaker _ written (λ text p. given_up_of _ _ c.new.ensures _ _ _ _ p));
  output = λ failed. if_some_weaker _ _ _ (c.in-Err.ensures.output failed)
      (λ input written. Writes-weaker _ written (λ text p. stated_front_of _ _ c.new.ensures _ _ refl p));
  stopped = λ stopped. Reads-weaker _ _ _ _ (c.in-Err.ensures.given_up Stopped stopped)
      (λ input rest written. Writes-weaker _ written (λ text p. out_of _ _ c.new.ensures _ _ _ p));
}
