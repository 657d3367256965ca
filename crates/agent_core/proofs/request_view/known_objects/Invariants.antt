use Rattle.std.proofs.Common.{◌≡◌, All}
use Rattle.vacm_core.specs.Hiding.{hides_all}
use Rattle.agent_core.specs.declared.request_view.KnownObject.{KnownObject}
use Rattle.agent_core.proofs.request_view.known_objects.Given as goal

abbrev pub invariant-loop-place : goal.invariant-loop-place
invariant-loop-place g l = All (λ (known : KnownObject). known.is_hidden ≡ hides_all l.vacm.families l.name known.prefix.now) l.objects.items
