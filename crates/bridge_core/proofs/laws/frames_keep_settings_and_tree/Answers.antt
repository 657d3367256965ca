use Rattle.bridge_core.proofs.Relayed.{keeps_settings, keeps_tree, sends_none}
use Rattle.bridge_core.proofs.laws.frames_keep_settings_and_tree.Goals as goal

pub returns-clause-settings : goal.returns-clause-settings
returns-clause-settings c = keeps_settings

pub returns-clause-tree : goal.returns-clause-tree
returns-clause-tree c = keeps_tree

pub returns-clause-bpdus : goal.returns-clause-bpdus
returns-clause-bpdus c = sends_none
