use native.Mathlib.Omega.{arith}
use Rattle.job.proofs.Laws.{entry-cut, entry-own}
use Rattle.job.proofs.entry_refusal.Goals as goal

pub returns-then-input-at : goal.returns-then-input-at
returns-then-input-at c = entry-cut _ _ _ _ _ (omega (arith, c.if-input-at.true, c.entry_size.ensures))

pub returns : goal.returns
returns c = entry-own _ _ _ _ _ _ _ c.requires (omega (arith, c.if-input-at.false, c.entry_size.ensures)) c.key_at.ensures c.key_refusal.ensures
