use Rattle.std.proofs.Common.{◌≡◌, ◌%◌, ℕ, get_or, sym, subst, arith}
use Rattle.std.specs.List.{slice_index}
use Rattle.std.specs.Int.{bit_at}
use Rattle.vacm_core.specs.declared.candidates.Level.{Level}
use Rattle.vacm_core.proofs.Followed.{left_at}
use Rattle.vacm_core.proofs.KeptBits.{full}
use Rattle.vacm_core.proofs.candidates.Candidates.left.Goals as goal

pub returns-then-block-blocks : goal.returns-then-block-blocks
returns-then-block-blocks c rank row is inside has =
    let levels = c.args.self.now.levels.items in
    let at = subst (λ (n : ℕ). c.index.result.now ≡ get_or levels n c.index.result.now) c.len.ensures.value c.index.ensures in
    subst (λ (l : Level). bit_at (slice_index l.rows c.args.block) (rank % 64) ≡ 1) (sym at)
    (left_at c.args.blocks.now c.args.self.now.numbers.items levels c.index.result.now c.args.block rank row c.requires c.if-block-lt-FOLLOWED.true (omega (arith, c.if-block-blocks.true)) is inside has)

pub returns-else-block-lt-FOLLOWED : goal.returns-else-block-lt-FOLLOWED
returns-else-block-lt-FOLLOWED c rank row is inside has = full (rank % 64) (omega arith)
