use Rattle.std.proofs.Common.{length}
use Rattle.settings_text.proofs.writing.+add_statics.Given as goal

abbrev pub decreases-add_statics : goal.decreases-add_statics
decreases-add_statics l = length l.rows.now
