use Rattle.std.proofs.Common.{length}
use Rattle.settings_text.proofs.statics.+read_statics.Given as goal

abbrev pub decreases-read_statics : goal.decreases-read_statics
decreases-read_statics l = length l.values.now
