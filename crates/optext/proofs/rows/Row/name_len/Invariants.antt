use Rattle.std.proofs.Common.{◌≤◌, length}
use Rattle.optext.specs.Rows.{name_of}
use Rattle.optext.proofs.rows.Row.name_len.Given as goal

abbrev pub invariant-loop-i : goal.invariant-loop-i
invariant-loop-i l = (l.i ≤ length (name_of l.fn.self.place))
