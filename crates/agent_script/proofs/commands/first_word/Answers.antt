use Rattle.std.proofs.Common.{◌∙◌, ap, sym}
use Rattle.agent_script.proofs.Plans.{cut_words, words_cut}
use Rattle.agent_script.proofs.commands.first_word.Goals as goal

pub returns-in-Some : goal.returns-in-Some
returns-in-Some c = words_cut c.args.text.now ∙ ap (cut_words c.args.text.now) (sym c.in-Some.ensures.value)

pub returns-in-None : goal.returns-in-None
returns-in-None c = words_cut c.args.text.now ∙ ap (cut_words c.args.text.now) (sym c.in-None.ensures.value)
