use Rattle.std.proofs.Common.{length, ◌≡◌, ◌≤◌}
use Rattle.assemble.proofs.pad.Given as goal

abbrev pub invariant-loop-whole : goal.invariant-loop-whole
invariant-loop-whole l = (l.lines ≤ 1025) × (length l.source ≡ length l.initial.source)
