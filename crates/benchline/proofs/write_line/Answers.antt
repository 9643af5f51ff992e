use Rattle.hexdigits.proofs.Laws.Laid.{then}
use Rattle.benchline.proofs.Laws.Printed.{printed-is, printed-none}
use Rattle.benchline.proofs.Laws.Lengths.{field-length, fields-length}
use Rattle.benchline.proofs.Laws.{mode-length, line-length}
use Rattle.benchline.specs.Line.{line_text}
use native.Mathlib.Omega.{arith}
use Rattle.benchline.proofs.write_line.Goals as goal

pub returns-then-text-lt61 : goal.returns-then-text-lt61
returns-then-text-lt61 c = let a = c.args in printed-none _ _ (omega (arith, line-length a.regs a.ps a.mode a.blanks a.place a.address, c.if-text-lt61.true))

pub field_at-status-requires : goal.field_at-status-requires
field_at-status-requires c = omega (arith, c.put_registers-registers.ensures.count, fields-length c.args.regs 8, c.if-text-lt61.false)

pub mode_at-digit-requires : goal.mode_at-digit-requires
mode_at-digit-requires c = omega (arith, c.put_registers-registers.ensures.count, simp field-length at c.field_at-status.ensures.count, fields-length c.args.regs 8, c.if-text-lt61.false)

pub field_at-count-requires : goal.field_at-count-requires
field_at-count-requires c = omega (arith, c.put_registers-registers.ensures.count, simp field-length at c.field_at-status.ensures.count, c.mode_at-digit.ensures.count, fields-length c.args.regs 8, mode-length c.args.mode, c.if-text-lt61.false)

pub first_at-requires : goal.first_at-requires
first_at-requires c = omega (arith, c.put_registers-registers.ensures.count, simp field-length at c.field_at-status.ensures.count, c.mode_at-digit.ensures.count, simp field-length at c.field_at-count.ensures.count, fields-length c.args.regs 8, mode-length c.args.mode, c.if-text-lt61.false)

pub returns : goal.returns
unfolding line_text
returns c = let a = c.args in
    printed-is (line_text a.regs a.ps a.mode a.blanks a.place a.address) _ _ _
    (omega (arith, line-length a.regs a.ps a.mode a.blanks a.place a.address, c.if-text-lt61.false))
    (then _ _ _ _ _ _ _ (then _ _ _ _ _ _ _ (then _ _ _ _ _ _ _ (then _ _ _ _ _ _ _
    c.put_registers-registers.ensures c.field_at-status.ensures) c.mode_at-digit.ensures) c.field_at-count.ensures) c.first_at.ensures)
