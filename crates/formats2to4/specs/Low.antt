-- The op codes whose high byte is 00: formats 1 to 4.
use Rattle.std.specs.Prelude.{ℕ, cond, ltb}
use Rattle.board.specs.Work.{Work, give}
use Rattle.state.specs.declared.State.{State}
use Rattle.state.specs.declared.Outside.{Outside}
use Rattle.format1.specs.Format1.{format1}
use Rattle.formats2to4.specs.Format2.{format2, lcc}
use Rattle.formats2to4.specs.Format4.{format4}

unfoldable pub formats2to4 : Outside → State → ℕ → Work State
formats2to4 out s op = cond (ltb op 0x30) (format2 out s op) (cond (ltb op 0x40) (give (lcc s op)) (format4 out s op))

unfoldable pub low_codes : Outside → State → ℕ → Work State
low_codes out s op = cond (ltb op 0x10) (format1 out s op) (formats2to4 out s op)
