use Rattle.std.proofs.Common.{◌≡◌, ◌&&◌, drop}
use Rattle.refusal.specs.Refusal.{all_of, plain}
use Rattle.refusal.proofs.all_plain.Given as goal

abbrev pub invariant-loop-line : goal.invariant-loop-line
invariant-loop-line l = plain l.seen && all_of plain (drop l.line-index l.lines) ≡ all_of plain l.lines
