-- The theorems that specs/Table.antt states.
use mathlib.Core.Path.{refl}
use Rattle.shift.specs.Shift.{turns}
use Rattle.plate.specs.Plate.{format_of}
use Rattle.board.specs.Work.{run, fitted, writable, even, image_word, with_word, with_byte, ◌>>=◌}
use Rattle.state.specs.Registers.{reg_of, set_reg}
use Rattle.state.specs.State.{reg, with_reg, with_flags, with_i2, with_mode, with_mark, with_status, cleared, ps_of, with_done, with_pair}
use Rattle.state.specs.Stack.{push, push_reg, pop, pop_reg, pop_status, fetch, from_loc, push_both, trap}
use Rattle.operand.specs.Operand.{deferred, increment_deferred, decrement_deferred, indexed, indexed_deferred, locate, moved, decode, read_of, write_to}
use Rattle.formats5to6.specs.Format5.{branch}
use Rattle.formats5to6.specs.Format6.{immediate, single, double, format6}
use Rattle.operand.specs.Destination.{operand_of}
use Rattle.format7.specs.Format7.{modify, test, format7}
use Rattle.format9.specs.Format9.{ash, sob, div, format9}
use Rattle.format10.specs.Format10.{settle, move_byte, settle_byte, on_operands, format10}
use Rattle.hexdigits.specs.Digits.{digits, hex_of, hex4, hex2}
use Rattle.optext.specs.Rows.{the_row, rows}
use Rattle.optext.specs.Line.{registers, reg_a, reg_b, reg_text, up_text, literal_text, down_text, offset_text, plain_text, mode_text, mode_takes, is_reserved, row_of, sep_text, op_text, taken, text_of}
use Rattle.step.specs.Execute.{by_format}
use Rattle.step.specs.Xct.{begun, traced, carry, op_work}
use Rattle.step.specs.Step.{kind_in, work_of, bus_error, error_of, step_of}
use Rattle.examples.specs.Table.{table, Starred}

pub starred : Starred
unfolding table step_of error_of kind_in work_of bus_error op_work begun carry traced by_format format_of run fitted writable even image_word with_word with_byte ◌>>=◌ reg_of set_reg reg with_reg with_flags with_i2 with_mode with_mark with_status cleared ps_of push push_reg pop pop_reg pop_status fetch from_loc push_both trap deferred increment_deferred decrement_deferred indexed indexed_deferred locate moved decode read_of write_to branch with_done with_pair immediate single double format6 operand_of modify test format7 ash sob div format9 settle move_byte settle_byte on_operands format10 turns taken text_of op_text row_of the_row rows sep_text mode_text mode_takes plain_text reg_text literal_text up_text down_text offset_text reg_a reg_b registers hex4 hex2 hex_of digits is_reserved
starred = refl
