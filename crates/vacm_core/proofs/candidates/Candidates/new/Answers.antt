use Rattle.std.proofs.Common.{refl}
use Rattle.vacm_core.proofs.Followed.{followed_none}
use Rattle.vacm_core.proofs.candidates.Candidates.new.Goals as goal

pub returns : goal.returns
returns c blocks = rw (c.new.ensures, c.in_ok-push.ensures.items, c.in_ok-levels.ensures.items) (followed_none blocks refl)
