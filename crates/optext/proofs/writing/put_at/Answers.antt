use Rattle.std.proofs.Common.{◌≤◌, length, arith}
use Rattle.hexdigits.proofs.Laws.Laid.{at_part}
use Rattle.optext.specs.Line.{sep_text}
use Rattle.optext.proofs.Laws.Forms.{sep-le}
use Rattle.optext.proofs.writing.put_at.Goals as goal

pub overflow_add-result : goal.overflow_add-result
overflow_add-result c = let a = c.args in
    omega (arith, sep-le a.sep a.k a.w a.x)

pub returns : goal.returns
returns c = let a = c.args in
    let h : a.at ≤ length a.out.now = omega arith in
    at_part a.at c.put_sep-n.result (sep_text a.sep a.k a.w a.x) a.out.now c.put_sep-n.new.out h c.put_sep-n.ensures
