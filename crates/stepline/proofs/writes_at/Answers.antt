use native.Mathlib.Omega.{arith}
use Rattle.hexdigits.proofs.Laws.Laid.{at_part}
use Rattle.board.specs.Exec.{log_count}
use Rattle.stepline.proofs.Laws.{writes-length}
use Rattle.stepline.proofs.writes_at.Goals as goal

pub overflow_add-result : goal.overflow_add-result
overflow_add-result c = let a = c.args in
    omega (arith, c.put_writes.ensures.count, writes-length a.image.now a.log.now (log_count a.log.now), c.requires.0, c.requires.2)

pub returns : goal.returns
returns c = at_part _ _ _ _ _ (omega (arith, c.requires.0)) c.put_writes.ensures
