use Rattle.std.proofs.Common.{◌≡◌}
use Rattle.shift.specs.Shift.{turns}
use Rattle.shift.proofs.turning.shift.Given as goal

abbrev pub invariant-loop : goal.invariant-loop
invariant-loop l = l.s ≡ turns l.w l.way l.counter l.initial.s
