use mathlib.Core.Path.{◌≡◌}
use lib.ListN.{drop}
use Rattle.trace.specs.Trace.{fields_from, first_wrong}
use Rattle.trace.proofs.entry_verdict.Given as goal

abbrev pub invariant-loop-field : goal.invariant-loop-field
invariant-loop-field l = (first_wrong l.step l.field (drop l.field l.fn.entry) (drop l.field (fields_from l.trace l.at 10)) ≡ first_wrong l.step 0 l.fn.entry (fields_from l.trace l.at 10))
