use Prim.Native.Nat.{◌*◌}
use mathlib.Core.Path.{◌≡◌}
use lib.ListN.{length}
use Rattle.hexdigits.specs.Over.{Wrote}
use Rattle.board.specs.Exec.{log_count}
use Rattle.step.specs.Written.{entries}
use Rattle.stepline.specs.Shown.{writes_text}
use Rattle.stepline.proofs.put_writes.Given as goal

abbrev pub invariant-loop-i : goal.invariant-loop-i
invariant-loop-i l = (length l.text ≡ length l.initial.text) × (l.at ≡ l.i * 10) × (l.entries ≡ log_count l.log) × Wrote (writes_text l.image (entries l.i l.log)) l.initial.text l.text l.at
