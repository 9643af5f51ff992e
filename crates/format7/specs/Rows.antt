-- The op codes of format 7 as the code tells them apart, by column and row: first what modifies its operand, on words, then on bytes, then the rest. It is the same as the two columns (proofs Laws/Columns).
use Rattle.std.specs.Prelude.{ℕ, Bool, cond, eqb, ltb}
use Rattle.wordmath.specs.declared.Flags.{Flags}
use Rattle.wordmath.specs.declared.Done.{Done}
use Rattle.unary.specs.Ops.{iw2_of, sxt_of, adc_of, sbc_of}
use Rattle.unary.specs.Unary.{unary_of}
use Rattle.opcodes.specs.Codes.{unary_at}
use Rattle.opcodes.specs.Fields.{destination_register}
use Rattle.board.specs.Work.{Work, give, Size, word, byte, ◌>>=◌}
use Rattle.state.specs.declared.State.{State}
use Rattle.state.specs.declared.Outside.{Outside}
use Rattle.state.specs.State.{with_flags}
use Rattle.operand.specs.declared.Place.{Place}
use Rattle.operand.specs.Operand.{write_to}
use Rattle.operand.specs.Destination.{destination}
use Rattle.format7.specs.Format7.{in_register, tcall, tjmp, lsts, ssts}

-- IW2 0D00, SXT 0D40; ADC 8D80, SBC 8DC0
abbrev pub further_at : ℕ → ℕ → ℕ → Flags → Done
further_at op row d f =
    cond (ltb op 0x8000) (cond (eqb row 12) (iw2_of d) (sxt_of f)) (cond (eqb row 14) (adc_of d f) (sbc_of d f))

-- on words: ROR to DEC, and these four; on bytes: RORB to DECB, SWAD in SWAB's place
unfoldable pub result_at : Size → ℕ → ℕ → ℕ → Flags → Done
result_at word op row d f = cond (ltb row 12) (unary_of 16 (unary_at row) (in_register op) d f) (further_at op row d f)
result_at byte op row d f = unary_of 8 (unary_at row) (in_register op) d f

-- TST and TSTB write nothing
unfoldable pub stored_at : Size → ℕ → ℕ → State → Place → ℕ → Work State
stored_at z op row s p v = cond (eqb row 2) (give s) (write_to z s (destination_register op) p v)

abbrev settled_at : Size → ℕ → ℕ → State → Place → Done → Work State
settled_at z op row s p d = stored_at z op row (with_flags s d.flags) p d.value

unfoldable pub modify_at : Size → State → ℕ → ℕ → Work State
modify_at z s op row = do
  o ← destination z s op
  settled_at z op row o.state o.place (result_at z op row o.operand o.state.flags)

-- LSTS, SSTS
unfoldable pub status_at : Outside → State → ℕ → ℕ → Work State
status_at out s op row = cond (eqb row 12) (lsts s op) (ssts out s op)

-- these two; TCALL, TJMP
unfoldable pub no_result_at : Outside → State → ℕ → ℕ → Work State
no_result_at out s op row = cond (ltb op 0x8000) (cond (eqb row 14) (tcall s op) (tjmp s op)) (status_at out s op row)

-- 0A00 to 0D7F, and 8D80, 8DC0
abbrev pub on_word_at : ℕ → ℕ → Bool
on_word_at op row = cond (ltb op 0x8000) (ltb row 14) (ltb 13 row)
