use Rattle.std.proofs.Common.{◌≤◌, arith, length, length-take}
use Rattle.printing.proofs.Laws.Lines.{line-fits}
use Rattle.text.proofs.answer.Goals as goal

pub slice_bounds-line-end : goal.slice_bounds-line-end
slice_bounds-line-end g c =
    let fits : c.line_end.result ≤ length c.args.whole.now = rw c.line_end.ensures (line-fits c.args.whole.now 0 (omega arith)) in
    simp length-take (omega (arith, fits))
