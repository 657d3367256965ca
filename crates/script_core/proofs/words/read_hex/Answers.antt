use Rattle.hex.proofs.HexLemmas.{decode_of-ok}
use Rattle.std.proofs.Common.{◌≡◌, None, refl, rules}
use Rattle.script_core.specs.Words.{octets_of}
use Rattle.script_core.proofs.WordsLemmas.{octets_of-none}
use Rattle.script_core.proofs.words.read_hex.Goals as goal

pub returns-in-Ok-clause-reads : goal.returns-in-Ok-clause-reads
returns-in-Ok-clause-reads c =
    let ok = decode_of-ok c.args.text.now c.in-Ok.octets.items c.in-Ok.ensures.ok in
    (λ some. (ok.0, ok.1), λ digits. refl)

pub returns-in-Err-2-clause-reads : goal.returns-in-Err-2-clause-reads
returns-in-Err-2-clause-reads c =
    let none : None ≡ octets_of c.args.text.now = search rules in
    (λ some. absurd (cc some), λ digits. octets_of-none c.args.text.now none digits)
