-- The mark of a late IEN, over the definitions: what every op code, every trap, every step and every power-up leaves of it, and what a marked state hears.
use Rattle.std.specs.Prelude.{Some, None}
use Prim.Native.Nat.{ℕ, zero, suc, ◌/◌, ◌<◌}
use native.Mathlib.Omega.{arith}
use Rattle.opcodes.proofs.Laws.Past.{Below, below}
use mathlib.Core.Bool.{Bool, true, false, not, ◌&&◌, cond, and-false}
use mathlib.Core.List.{List, [], ◌∷◌}
use mathlib.Core.Path.{◌≡◌, refl, sym, ap, ◌∙◌, subst}
use lib.Dec.{eqb, ltb}
use lib.ListN.{get_or}
use borrow.Author.Tests.{not-true, eqb-true, ne_eqb, ltb-true, ltb-false}
use Rattle.board.specs.Work.{Work, give, Came, value, blank, Size, word, byte, image_word, fitted, run, ◌>>=◌, ◌>>◌}
use Rattle.board.proofs.Laws.Alike.{found-value}
use Rattle.step.proofs.Laws.Late.{begins}
use Rattle.opcodes.specs.Fields.{high_byte, only_register, format2_code, format4_code, argument, register, format9_code, source_mode, source_register, destination_mode, destination_register, block_source, block_destination}
use Rattle.arith.specs.Branch.{branch_taken}
use Rattle.wordmath.specs.Address.{plus, minus}
use Rattle.opcodes.specs.declared.Binary.{Binary}
use Rattle.opcodes.specs.declared.ByteBinary.{ByteBinary}
use Rattle.opcodes.specs.declared.ByteBinary.TheVariants.{Cmpb, Movb, Bisb}
use Rattle.plate.specs.Plate.{format_of}
use Rattle.wordmath.specs.declared.Flags.{Flags}
use Rattle.wordmath.specs.declared.Done.{Done}
use Rattle.state.specs.declared.State.{State}
use Rattle.state.specs.declared.Outside.{Outside}
use Rattle.state.specs.Registers.{set_reg}
use Rattle.state.specs.State.{reg, ps_of, with_pc, with_reg, with_flags, with_i2, with_mode, with_mark, with_status, with_done, with_pair, cleared, heard}
use Rattle.state.specs.Stack.{push, push_reg, pop, pop_reg, pop_status, fetch, from_loc, push_both, trap, tabled, trap_now}
use Rattle.operand.specs.declared.Place.{Place}
use Rattle.operand.specs.declared.Place.TheVariants.{Reg, Mem}
use Rattle.operand.specs.Operand.{Decoded, moved, decode, write_to}
use Rattle.operand.specs.declared.Held.{Held}
use Rattle.operand.specs.Destination.{operand_of, destination}
use Rattle.format1.specs.Format1.{xct_error, bpt, push_three, pop_three, save, savs, rest, rtt, rrtn, rrtt, rsts, rsvc, format1}
use Rattle.formats2to4.specs.Low.{formats2to4, low_codes}
use Rattle.formats2to4.specs.Format2.{rtn, msko, prtn, codes2, lcc, format2}
use Rattle.formats2to4.specs.Format4.{svca, svc, codes4, format4}
use Rattle.formats5to6.specs.Format5.{branch_number, branch}
use Rattle.formats5to6.specs.Format6.{immediate, single, double, format6}
use Rattle.format7.specs.Format7.{tcall, tjmp, lsts, ssts, format7}
use Rattle.format7.specs.Format7 as Seven
use Rattle.format7.specs.Rows.{on_word_at, stored_at, modify_at, status_at, no_result_at}
use Rattle.format7.proofs.Laws.Columns.{columns}
use Rattle.format8.specs.Format8.{move_row, onward, registers_moved, again, element, format8}
use Rattle.format9.specs.Format9.{jsr_at, jsr_to, jsr, lea_to, lea, ash, sob, xch, ashc, mul, div, codes9, format9}
use Rattle.shift.specs.Shifted.{preset}
use Rattle.format10.specs.Format10.{stores, settle, move_byte, settle_byte, on_operands, on_words, on_bytes, binary_code, byte_code, format10}
use Rattle.arith.specs.Binary.{binary_of, byte_binary_of}
use Rattle.step.specs.Execute.{moves, execute, by_format}
use Rattle.step.specs.Xct.{forbidden, traps_alone, chosen, begin_xct, begun, trace, traced, carry, op_work}
use Rattle.step.specs.declared.Begun.TheVariants.{Code, Abort}
use Rattle.laws.proofs.Laws.Always.{Always, AlwaysEach, run-give, always-value, always-then, always-after, always-less, always-cond, always-pick}
use Rattle.laws.specs.Mark.{enables, executed, is_running, mark_after, from_interrupt, from_switch, runs_or_waits}
use Rattle.state.specs.declared.Mode.{Mode}
use Rattle.state.specs.declared.Mode.TheVariants.{Running, Waiting, PowerHalt, SwitchHalt, Locked, Saved}
use Rattle.step.specs.Places.{keep, pick_up, keep_four, pick_up_four, keep_registers, pick_up_registers, save_places as keep_all, restore_places}
use Rattle.step.specs.declared.Kind.{Kind}
use Rattle.step.specs.declared.Kind.TheVariants.{OpCode, HaltEnd, Boots, Saves, LocksUp, Restarts, Restores, NonVectored, Vectored, Waits, Stuck}
use Rattle.step.specs.declared.Cause.{Cause}
use Rattle.step.specs.declared.Cause.TheVariants as Cause
use Rattle.step.specs.declared.Cause.TheVariants.{LockedAt}
use Rattle.step.specs.Step.{after, or_at, cause_number, cause_address, is_blank, is_code, cause_of, power_up_option, or_locked, power_up_of, error_cause_of, halt_option, hears, kind_in, kind_of, non_vectored, vectored, restart, bootstrap, work_of, past, bus_error, error_of, step_of}
use Rattle.state.specs.declared.Settings.{Settings}
use Rattle.step.proofs.Laws.Ends.{step-well, option-no-code}
use Rattle.step.proofs.Laws.Causes.{blank-error, blank-counted}
use Rattle.step.proofs.Laws.Told.{tells}

abbrev Unmarked : State → Type 0
Unmarked s = s.mark ≡ false

-- ---- traps and operands

trap-unmarked : (s : State) (ps at : ℕ) → Always Unmarked (trap s ps at)
unfolding Always trap push_both push from_loc ◌>>=◌ with_reg with_mode with_mark
trap-unmarked s ps at = λ v. refl

moved-unmarked : (s : State) (p : Place) → Unmarked s → Unmarked (moved s p)
unfolding moved with_reg
moved-unmarked s Reg e = e
moved-unmarked s (Mem a which v) e = e

decode-unmarked : (z : Size) (s : State) (mode k : ℕ) → Unmarked s → Always (λ o. Unmarked o.state) (decode z s mode k)
unfolding Always decode
decode-unmarked z s mode k e = always-after (λ o. Unmarked o.state) _ _ (λ p. moved-unmarked s p e)

operand-unmarked : (z : Size) (s : State) (mode k : ℕ) → Unmarked s → Always (λ o. Unmarked o.state) (operand_of z s mode k)
unfolding Always operand_of
operand-unmarked z s mode k e =
    always-then (λ o. Unmarked o.state) (λ o. Unmarked o.state) (decode z s mode k) _ (decode-unmarked z s mode k e)
    (λ to d. always-after (λ o. Unmarked o.state) _ _ (λ v. d))

write-unmarked : (z : Size) (s : State) (k : ℕ) (p : Place) (v : ℕ) → Unmarked s → Always Unmarked (write_to z s k p v)
unfolding Always write_to with_reg ◌>>=◌
write-unmarked word s k Reg v e = e
write-unmarked byte s k Reg v e = e
write-unmarked z s k (Mem a which w) v e = e

-- ---- formats 2 to 4

push-unmarked : (s : State) (v : ℕ) → Unmarked s → Always Unmarked (push s v)
unfolding Always push ◌>>=◌ with_reg
push-unmarked s v e = e

tabled-unmarked : (s : State) (at : ℕ) → Unmarked s → Always Unmarked (tabled s at)
unfolding Always tabled ◌>>=◌ with_reg
tabled-unmarked s at e = λ v. e

two-unmarked : (out : Outside) (s : State) (op : ℕ) → Unmarked s → Always Unmarked (format2 out s op)
unfolding Always AlwaysEach format2 rtn msko prtn pop_reg ◌>>=◌ with_reg
two-unmarked out s op e =
    always-pick Unmarked (codes2 out s (only_register op)) (minus (format2_code op) 2) (prtn s (only_register op)) (e, ((λ v. e), (e, ((λ v w. e), tt)))) (λ v w. e)

four-unmarked : (out : Outside) (s : State) (op : ℕ) → Unmarked s → Always Unmarked (format4 out s op)
unfolding Always AlwaysEach format4 svca svc save push_three push_reg push push_both from_loc tabled ◌>>=◌ with_reg
four-unmarked out s op e =
    always-pick Unmarked (codes4 out s (argument op)) (minus (format4_code op) 1) (svc out s (argument op) 0x26) ((λ v w. e), ((λ v. e), ((λ v. e), tt))) (λ v. e)

low-unmarked : (out : Outside) (s : State) (op : ℕ) → Unmarked s → Always Unmarked (formats2to4 out s op)
unfolding Always formats2to4 with_flags
low-unmarked out s op e =
    always-cond Unmarked (ltb op 0x30) (format2 out s op) _ (two-unmarked out s op e)
    (always-cond Unmarked (ltb op 0x40) (give (lcc s op)) (format4 out s op) e (four-unmarked out s op e))

-- ---- formats 5 to 10

either : (b : Bool) (s t : State) → Unmarked s → Unmarked t → Unmarked (cond b s t)
either true s t e h = e
either false s t e h = h

branch-unmarked : (s : State) (op : ℕ) → Unmarked s → Unmarked (branch s op)
unfolding branch with_reg
branch-unmarked s op e = either (branch_taken (branch_number op) s.flags) _ s e e

six-unmarked : (s : State) (op : ℕ) → Unmarked s → Unmarked (format6 s op)
unfolding format6 immediate single double with_done with_pair with_reg with_flags
six-unmarked s op e = either (ltb op 0x8000) (immediate s op) _ e (either (ltb op 0x8a00) (single s op) (double s op) e e)

stored-unmarked : (z : Size) (op row : ℕ) (s : State) (p : Place) (v : ℕ) → Unmarked s → Always Unmarked (stored_at z op row s p v)
unfolding Always stored_at
stored-unmarked z op row s p v e = always-cond Unmarked (eqb row 2) (give s) _ e (write-unmarked z s (destination_register op) p v e)

-- an operand is decoded and read, and then
with-operand : (z : Size) (s : State) (op : ℕ) (f : Held → Work State) → Unmarked s → ((o : Held) → Unmarked o.state → Always Unmarked (f o)) → Always Unmarked (destination z s op >>= f)
with-operand z s op f e g = always-then (λ o. Unmarked o.state) Unmarked (destination z s op) f (operand-unmarked z s (destination_mode op) (destination_register op) e) g

modify-unmarked : (z : Size) (s : State) (op row : ℕ) → Unmarked s → Always Unmarked (modify_at z s op row)
unfolding modify_at with_flags
modify-unmarked z s op row e = with-operand z s op _ e (λ o d. stored-unmarked z op row _ o.place _ d)

seven-unmarked : (out : Outside) (s : State) (op : ℕ) → Unmarked s → Always Unmarked (format7 out s op)
unfolding Always no_result_at status_at tcall tjmp lsts ssts with_status
seven-unmarked out s op e =
    let row = Seven.column_row op in
    subst (Always Unmarked) (sym (columns out s op))
    (always-cond Unmarked (on_word_at op row) (modify_at word s op row) _ (modify-unmarked word s op row e)
    (always-cond Unmarked (ltb row 12) (modify_at byte s op row) _ (modify-unmarked byte s op row e)
    (always-cond Unmarked (ltb op 0x8000) _ _
    (always-cond Unmarked (eqb row 14) (tcall s op) (tjmp s op)
    (with-operand word s op _ e (λ o d. always-then Unmarked Unmarked (push o.state o.state.regs.pc) _ (push-unmarked o.state _ d) (λ t i. tabled-unmarked t _ i)))
    (with-operand word s op _ e (λ o d. tabled-unmarked o.state _ d)))
    (always-cond Unmarked (eqb row 12) (lsts s op) (ssts out s op)
    (with-operand word s op _ e (λ o d. d))
    (with-operand word s op _ e (λ o d. write-unmarked word o.state (destination_register op) o.place _ d))))))

again-unmarked : (s t : State) → Unmarked t → Unmarked (again s t)
unfolding again with_reg
again-unmarked s t e = either (eqb t.regs.r0 0) t _ e e

eight-unmarked : (s : State) (op : ℕ) → Unmarked s → Always Unmarked (format8 s op)
unfolding Always element registers_moved onward with_reg
eight-unmarked s op e = always-after Unmarked _ _ (λ _. again-unmarked s (registers_moved (move_row op) s (block_source op) (block_destination op)) e)

called-unmarked : (s : State) (r a : ℕ) → Unmarked s → Always Unmarked (jsr_at s r a)
unfolding Always jsr_at push_reg ◌>>=◌ with_reg
called-unmarked s r a e = e

jsr-unmarked : (out : Outside) (s : State) (r : ℕ) (p : Place) → Unmarked s → Always Unmarked (jsr_to out s r p)
unfolding jsr_to
jsr-unmarked out s r Reg e = trap-unmarked s (ps_of out false s) 0x1c
jsr-unmarked out s r (Mem a which v) e = called-unmarked s r a e

lea-unmarked : (out : Outside) (s : State) (r : ℕ) (p : Place) → Unmarked s → Always Unmarked (lea_to out s r p)
unfolding Always lea_to with_reg
lea-unmarked out s r Reg e = trap-unmarked s (ps_of out false s) 0x1c
lea-unmarked out s r (Mem a which v) e = e

sob-unmarked : (s : State) (op : ℕ) → Unmarked s → Unmarked (sob s op)
unfolding sob with_reg
sob-unmarked s op e = either (eqb (minus (reg s (register op)) 1) 0) _ _ e e

-- a place is decoded, and then
with-place : (s : State) (op : ℕ) (f : Decoded → Work State) → Unmarked s → ((o : Decoded) → Unmarked o.state → Always Unmarked (f o))
    → Always Unmarked (decode word s (destination_mode op) (destination_register op) >>= f)
with-place s op f e g = always-then (λ o. Unmarked o.state) Unmarked (decode word s (destination_mode op) (destination_register op)) f (decode-unmarked word s (destination_mode op) (destination_register op) e) g

nine-unmarked : (out : Outside) (s : State) (op : ℕ) → Unmarked s → Always Unmarked (format9 out s op)
unfolding Always AlwaysEach format9 jsr lea ash xch ashc mul div with_done with_pair with_reg with_flags
nine-unmarked out s op e =
    let t = with_flags s preset in
    always-pick Unmarked (codes9 out s t op) (format9_code op) (div t op) (
      with-place t op _ e (λ o d. jsr-unmarked out o.state (register op) o.place d),
      (
        with-place t op _ e (λ o d. lea-unmarked out o.state (register op) o.place d),
        (
          with-operand byte t op _ e (λ o d. d),
          (
            sob-unmarked s op e,
            (
              with-operand word t op _ e (λ o d. write-unmarked word (with_reg o.state (register op) o.operand) (destination_register op) o.place _ d),
              (
                with-operand byte t op _ e (λ o d. d),
                (with-operand word t op _ e (λ o d. d), (with-operand word t op _ e (λ o d. d), tt)),
              ),
            ),
          ),
        ),
      ),
    )
    (with-operand word t op _ e (λ o d. d))

two_operands : (z : Size) (result : ℕ → ℕ → Flags → Done) (f : State → ℕ → Place → ℕ → Work State) (s : State) (op : ℕ) → Unmarked s
    → ((t : State) (k : ℕ) (p : Place) (v : ℕ) → Unmarked t → Always Unmarked (f t k p v)) → Always Unmarked (on_operands z result f s op)
unfolding on_operands with_flags
two_operands z result f s op e g =
    always-then (λ o. Unmarked o.state) Unmarked (operand_of z s (source_mode op) (source_register op)) _ (operand-unmarked z s (source_mode op) (source_register op) e)
    (λ o d. with-operand z o.state op _ d (λ p i. g _ (destination_register op) p.place _ i))

settle-unmarked : (b : Binary) (s : State) (k : ℕ) (p : Place) (v : ℕ) → Unmarked s → Always Unmarked (settle b s k p v)
unfolding Always settle
settle-unmarked b s k p v e = always-cond Unmarked (stores b) (write_to word s k p v) (give s) (write-unmarked word s k p v e) e

settle-byte-unmarked : (b : ByteBinary) (s : State) (k : ℕ) (p : Place) (v : ℕ) → Unmarked s → Always Unmarked (settle_byte b s k p v)
unfolding Always settle_byte move_byte with_reg
settle-byte-unmarked Cmpb s k p v e = e
settle-byte-unmarked Movb s k Reg v e = e
settle-byte-unmarked Movb s k (Mem a which w) v e = write-unmarked byte s k (Mem a which w) v e
settle-byte-unmarked Bisb s k p v e = write-unmarked byte s k p v e

ten-unmarked : (s : State) (op : ℕ) → Unmarked s → Always Unmarked (format10 s op)
unfolding format10
ten-unmarked s op e =
    always-cond Unmarked (ltb op 0xc000) (on_words (binary_code op) s op) (on_bytes (byte_code op) s op)
    (two_operands word (binary_of (binary_code op)) (settle (binary_code op)) s op e (settle-unmarked (binary_code op)))
    (two_operands byte (byte_binary_of (byte_code op)) (settle_byte (byte_code op)) s op e (settle-byte-unmarked (byte_code op)))

-- ---- an op code from 0010 on leaves no mark

high-unmarked : (out : Outside) (f : ℕ) (s : State) (op : ℕ) → ltb op 0x10 ≡ false → Unmarked s → Always Unmarked (by_format out f s op)
unfolding Always by_format low_codes
high-unmarked out f s op h e =
    always-cond Unmarked (eqb f 1) (low_codes out s op) _ (rw h (low-unmarked out s op e))
    (always-cond Unmarked (eqb f 5) (give (branch s op)) _ (branch-unmarked s op e)
    (always-cond Unmarked (eqb f 6) (give (format6 s op)) _ (six-unmarked s op e)
    (always-cond Unmarked (eqb f 7) (format7 out s op) _ (seven-unmarked out s op e)
    (always-cond Unmarked (moves out f) (format8 s op) _ (eight-unmarked s op e)
    (always-cond Unmarked (eqb f 9) (format9 out s op) _ (nine-unmarked out s op e)
    (always-cond Unmarked (eqb f 10) (format10 s op) _ (ten-unmarked s op e)
    (trap-unmarked s (ps_of out false s) 0x1a)))))))

-- ---- formats 1 one by one: IEN and SAVS say whether I2 was clear, the others leave no mark

-- what an op code leaves that began with no mark: the mark says whether it enabled; and where it did, the mode is the same and I2 is set
abbrev Enabled : State → State → Type 0
Enabled s t = (t.mode ≡ s.mode) × (t.i2 ≡ true)

abbrev MarkOf : ℕ → State → State → Type 0
MarkOf op s t = (t.mark ≡ (enables op && not s.i2)) × (enables op ≡ true → Enabled s t)

none : {A : Type 0} → false ≡ true → A
none e = let z : ◌≡◌ {A = ℕ} 0 1 = cc in absurd (omega arith)

low-marks : (out : Outside) (s : State) → Unmarked s → Below (λ op. Always (MarkOf op s) (execute out s op)) 16
unfolding Always Below by_format low_codes format1 format_of bpt push_three pop_three save savs rest rtt rrtn rrtt rsts rsvc push push_reg pop pop_reg pop_status fetch from_loc push_both ◌>>=◌ with_reg with_i2 with_mode with_mark with_status
low-marks out s e = (
  (
    (
      (
        (
          (
            (
              (
                (
                  (
                    (
                      (
                        (
                          (
                            (
                              (
                                tt,
                                (e, none),
                              ),  -- NOP
                              (e, none),
                            ),  -- RESET
                            (refl, λ _. (refl, refl)),
                          ),  -- IEN
                          (e, none),
                        ),  -- IDS
                        (e, none),
                      ),  -- HALT
                      (e, none),
                    ),  -- XCT, which is never executed itself
                    λ _. (e, none),
                  ),  -- BPT
                  (e, none),
                ),  -- WFI
                λ _ _ _ _ _ _ _ _. (e, none),
              ),  -- RSVC
              λ _ _ _ _ _ _ _ _. (e, none),
            ),  -- RRTT
            (e, none),
          ),  -- SAVE
          λ _ _. (refl, λ _. (refl, refl)),
        ),  -- SAVS
        λ _ _ _ _ _ _. (e, none),
      ),  -- REST
      λ _ _ _ _ _ _ _. (e, none),
    ),  -- RRTN
    λ _ _ _ _ _ _ _ _ _. (e, none),
  ),  -- RSTS
  λ _ _. (e, none),
)  -- RTT

no-enable : (op : ℕ) → ltb op 0x10 ≡ false → enables op ≡ false
no-enable op h = let l = ltb-false op 0x10 h in rw (ne_eqb op 2 (λ e. omega arith), ne_eqb op 11 (λ e. omega arith))

-- no mark is the mark of an op code that doesn't enable
unmarked-is : (op : ℕ) (s : State) → enables op ≡ false → (t : State) → Unmarked t → MarkOf op s t
unmarked-is op s h t e = (e ∙ sym (ap (λ x. x && not s.i2) h), λ g. none (sym h ∙ g))

-- EVERY OP CODE
execute-marks : (out : Outside) (s : State) (op : ℕ) → Unmarked s → Always (MarkOf op s) (execute out s op)
execute-marks out s op e = by (ltb op 0x10) refl
  where
    by : (b : Bool) → ltb op 0x10 ≡ b → Always (MarkOf op s) (execute out s op)
    by true h = below (λ k. Always (MarkOf k s) (execute out s k)) 16 (low-marks out s e) op (ltb-true op 0x10 h)
    by false h = always-less Unmarked (MarkOf op s) (execute out s op) (unmarked-is op s (no-enable op h)) (high-unmarked out (format_of (high_byte op)) s op h e)

-- ---- an op code fetched and executed, also under XCT

-- the push to 20's routine keeps it, and so it does I2 and the mode
traced-keeps : (out : Outside) (b : Bool) (s : State) → Always (λ t. (t.mark ≡ s.mark) × (t.mode ≡ s.mode) × (t.i2 ≡ s.i2)) (traced out b s)
unfolding Always traced trace push_both push from_loc ◌>>=◌ with_reg
traced-keeps out true s = λ _. (refl, refl, refl)
traced-keeps out false s = (refl, refl, refl)

carry-marks : (out : Outside) (s : State) (op : ℕ) (b : Bool) → Always (MarkOf op s) (carry out (Code s op b))
unfolding carry with_mark
carry-marks out s op b =
    always-then (MarkOf op s) (MarkOf op s) (execute out (with_mark s false) op) (traced out b) (execute-marks out (with_mark s false) op refl)
    (λ t e. always-less _ (MarkOf op s) (traced out b t) (λ u k. (k.0 ∙ e.0, λ g. (k.1 ∙ (e.1 g).0, k.2 ∙ (e.1 g).1))) (traced-keeps out b t))

-- what XCT doesn't execute is neither IEN nor SAVS
forbidden-not : (op : ℕ) → forbidden op ≡ true → enables op ≡ false
forbidden-not op h = let q = eqb-true (op / 4) 1 h in rw (ne_eqb op 2 (λ e. omega arith), ne_eqb op 11 (λ e. omega arith))

chosen-marks : (out : Outside) (s : State) (op : ℕ) → Always (MarkOf op s) (carry out (chosen out s op))
unfolding carry
chosen-marks out s op = by (forbidden op) refl
  where
    by : (b : Bool) → forbidden op ≡ b → Always (MarkOf op s) (carry out (cond b (Abort s) (Code s op (not (traps_alone out (format_of (high_byte op)) op)))))
    by true h = always-less Unmarked (MarkOf op s) (xct_error out s) (unmarked-is op s (forbidden-not op h)) (trap-unmarked s (ps_of out false s) 0x1e)
    by false h = carry-marks out s op (not (traps_alone out (format_of (high_byte op)) op))

chosen-value : (map : List ℕ) (out : Outside) (s : State) (m : List ℕ) (op : ℕ) {t : State} {n : List ℕ}
    → run map (carry out (chosen out s op)) m ≡ value t n → MarkOf op s t
chosen-value map out s m op h = always-value (MarkOf op s) map (carry out (chosen out s op)) m (chosen-marks out s op) h

begun-marks : (b : Bool) (map : List ℕ) (out : Outside) (s : State) (m : List ℕ) (w : ℕ) {t : State} {n : List ℕ}
    → (let past = with_pc s (plus s.regs.pc 2) in run map (cond b (begin_xct out past) (give (Code past w false)) >>= (λ next. carry out next)) m ≡ value t n)
    → MarkOf (cond b (image_word m (image_word m s.regs.sp)) w) s t
unfolding run begin_xct pop_reg pop fetch ◌>>=◌ with_reg set_reg with_flags
begun-marks false map out s m w h = always-value (MarkOf w s) map _ m (carry-marks out (with_pc s (plus s.regs.pc 2)) w false) h
begun-marks true map out s m w {t} {n} h =
    let sp = s.regs.sp in
    let pc = image_word m sp in
    let one = found-value (fitted map sp) sp _ t n h in
    let two = found-value (fitted map (plus sp 2)) (plus sp 2) _ t n one.1 in
    let three = found-value (fitted map pc) pc _ t n two.1 in
    chosen-value map out _ m (image_word m pc) three.1

-- THE MARK AFTER AN OP CODE
work-marks : (map : List ℕ) (out : Outside) (s : State) (m : List ℕ) {t : State} {n : List ℕ}
    → run map (op_work out s) m ≡ value t n → MarkOf (executed s m) s t
unfolding run op_work fetch begun ◌>>=◌
work-marks map out s m {t} {n} h =
    begun-marks (eqb (image_word m s.regs.pc) 5) map out s m (image_word m s.regs.pc) (found-value (fitted map s.regs.pc) s.regs.pc _ t n h).1

-- ---- the kinds of step

-- the mark after a kind's work, x what an op code leaves, y the mark before
abbrev by_kind : Bool → Bool → Kind → Bool
by_kind x y OpCode = x
by_kind x y HaltEnd = y
by_kind x y Boots = y
by_kind x y Saves = y
by_kind x y LocksUp = y
by_kind x y Restarts = y
by_kind x y Restores = y
by_kind x y NonVectored = false
by_kind x y Vectored = false
by_kind x y Waits = y
by_kind x y Stuck = y

restart-keeps : (s : State) → Always (λ t. t.mark ≡ s.mark) (restart s)
unfolding Always from_loc ◌>>=◌ with_reg with_mode
restart-keeps s = λ _. refl

save-keeps : (out : Outside) (s : State) → Always (λ t. t.mark ≡ s.mark) (keep_all out s)
unfolding Always keep_all keep_registers keep_four keep ◌>>=◌ with_mode
save-keeps out s = refl

restore-keeps : (s : State) → Always (λ t. t.mark ≡ s.mark) (restore_places s)
unfolding Always restore_places pick_up_registers pick_up_four pick_up ◌>>=◌ with_reg with_status with_mode
restore-keeps s = λ _ _ _ _ _ _ _ _ _. refl

vectored-clears : (out : Outside) (s : State) → Always Unmarked (vectored out s)
unfolding vectored
vectored-clears out s = always-then Unmarked Unmarked (trap_now out s 0x28) _ (trap-unmarked s (ps_of out false s) 0x28) (λ t e. tabled-unmarked t _ e)

kind-marks : (map : List ℕ) (k : Kind) (out : Outside) (s : State) (m : List ℕ) {t : State} {n : List ℕ}
    → run map (work_of k out s) m ≡ value t n → t.mark ≡ by_kind (enables (executed s m) && not s.i2) s.mark k
unfolding work_of Always with_reg with_mode
kind-marks map OpCode out s m h = (work-marks map out s m h).0
kind-marks map HaltEnd out s m h = always-value (λ t. t.mark ≡ s.mark) map (restart s) m (restart-keeps s) h
kind-marks map Boots out s m h = always-value (λ t. t.mark ≡ s.mark) map (give (bootstrap out.settings s)) m refl h
kind-marks map Saves out s m h = always-value (λ t. t.mark ≡ s.mark) map (keep_all out s) m (save-keeps out s) h
kind-marks map LocksUp out s m h = always-value (λ t. t.mark ≡ s.mark) map (give (with_mode s Locked)) m refl h
kind-marks map Restarts out s m h = always-value (λ t. t.mark ≡ s.mark) map (restart s) m (restart-keeps s) h
kind-marks map Restores out s m h = always-value (λ t. t.mark ≡ s.mark) map (restore_places s) m (restore-keeps s) h
kind-marks map NonVectored out s m h = always-value Unmarked map (non_vectored out s) m (trap-unmarked s (ps_of out false s) _) h
kind-marks map Vectored out s m h = always-value Unmarked map (vectored out s) m (vectored-clears out s) h
kind-marks map Waits out s m h = always-value (λ t. t.mark ≡ s.mark) map (give s) m refl h
kind-marks map Stuck out s m h = always-value (λ t. t.mark ≡ s.mark) map (give s) m refl h

-- a running processor never ends a halt, and no other executes an op code
abbrev fits : Bool → Kind → Bool
fits r OpCode = r
fits r HaltEnd = not r
fits r Boots = true
fits r Saves = true
fits r LocksUp = true
fits r Restarts = true
fits r Restores = true
fits r NonVectored = true
fits r Vectored = true
fits r Waits = true
fits r Stuck = true

fits-option : (r : Bool) (n : ℕ) → fits r (get_or (Boots ∷ Saves ∷ LocksUp ∷ Restarts ∷ []) n Restarts) ≡ true
fits-option r zero = refl
fits-option r (suc zero) = refl
fits-option r (suc (suc zero)) = refl
fits-option r (suc (suc (suc zero))) = refl
fits-option r (suc (suc (suc (suc n)))) = refl

fits_one : (r b : Bool) (k j : Kind) → fits r k ≡ true → fits r j ≡ true → fits r (cond b k j) ≡ true
fits_one r true k j e h = e
fits_one r false k j e h = h

fits-kind : (mode : Mode) (hearing : Bool) (out : Outside) → fits (is_running mode) (kind_in mode hearing out) ≡ true
unfolding kind_in halt_option
fits-kind Running hearing out =
    fits_one true out.i3 _ _ (fits-option true out.settings.halt)
    (fits_one true hearing _ _ (fits_one true out.i1 _ _ refl (fits_one true out.i0 _ _ refl refl)) refl)
fits-kind Waiting hearing out =
    fits_one false out.i3 _ _ (fits-option false out.settings.halt)
    (fits_one false hearing _ _ (fits_one false out.i1 _ _ refl (fits_one false out.i0 _ _ refl refl)) refl)
fits-kind PowerHalt hearing out = fits_one false out.fail Waits HaltEnd refl refl
fits-kind SwitchHalt hearing out = fits_one false out.i3 _ _ (fits-option false out.settings.halt) refl
fits-kind Locked hearing out = refl
fits-kind Saved hearing out = fits_one false out.i3 Waits Restores refl refl

by-cause : (s : State) (m : List ℕ) (k : Kind) → fits (is_running s.mode) k ≡ true
    → mark_after s m (cause_of k) ≡ by_kind (enables (executed s m) && not s.i2) s.mark k
by-cause s m OpCode e = ap (λ r. cond r (enables (executed s m) && not s.i2) s.mark) e
by-cause s m HaltEnd e = ap (λ r. cond r (enables (executed s m) && not s.i2) s.mark) (not-true (is_running s.mode) e)
by-cause s m Boots e = refl
by-cause s m Saves e = refl
by-cause s m LocksUp e = refl
by-cause s m Restarts e = refl
by-cause s m Restores e = refl
by-cause s m NonVectored e = refl
by-cause s m Vectored e = refl
by-cause s m Waits e = refl
by-cause s m Stuck e = refl

blank-clear : (s : State) (m : List ℕ) (c : Cause) → is_blank c ≡ true → mark_after s m c ≡ false
blank-clear s m Cause.OpCode e = none e
blank-clear s m Cause.Switch e = none e
blank-clear s m Cause.NonVectored e = refl
blank-clear s m Cause.Vectored e = refl
blank-clear s m Cause.Nothing e = none e
blank-clear s m (Cause.OpCodeBlank a) e = refl
blank-clear s m (Cause.InterruptBlank a) e = refl
blank-clear s m (Cause.SaveBlank a) e = refl
blank-clear s m (Cause.LockedAt a) e = none e
blank-clear s m Cause.Locked e = none e

module _ (map : List ℕ) (out : Outside) (s : State) (m : List ℕ) where
  -- THE MARK AFTER A STEP
  pub step-marks : (step_of map out s m).state.mark ≡ mark_after s m (step_of map out s m).cause
  unfolding error_of bus_error with_mode
  step-marks = came (run map (work_of (kind_of s out) out s) m) refl
    where
      trapped : (a : ℕ) → run map (work_of (kind_of s out) out s) m ≡ blank a → (c : Came State) → run map (bus_error (kind_of s out) out s) m ≡ c → (step_of map out s m).state.mark ≡ mark_after s m (step_of map out s m).cause
      trapped a r (value t n) g =
          let k = kind_of s out in
          let e : step_of map out s m ≡ after t n (error_cause_of k a) = blank-error map out s m r ∙ ap (λ c. or_at c (error_cause_of k a) (λ _. after (with_mode s Locked) m (LockedAt a))) g in
          ap (λ a. a.state.mark) e ∙ always-value Unmarked map (bus_error k out s) m (trap-unmarked (past k s) (ps_of out true (past k s)) 0x12) g
          ∙ sym (blank-clear s m (step_of map out s m).cause ((blank-counted map out s m {b = 0} r).0 t n g))
      trapped a r (blank b) g =
          let e : step_of map out s m ≡ after (with_mode s Locked) m (LockedAt a) = (blank-counted map out s m r).1 g in
          ap (λ a. a.state.mark) e ∙ sym (ap (λ a. mark_after s m a.cause) e)

      came : (c : Came State) → run map (work_of (kind_of s out) out s) m ≡ c → (step_of map out s m).state.mark ≡ mark_after s m (step_of map out s m).cause
      came (value t n) r =
          let k = kind_of s out in
          let e : step_of map out s m ≡ after t n (cause_of k) = sym (step-well map out s m refl r refl) in
          ap (λ a. a.state.mark) e ∙ kind-marks map k out s m r ∙ sym (by-cause s m k (fits-kind s.mode (hears s) out)) ∙ sym (ap (λ a. mark_after s m a.cause) e)
      came (blank a) r = trapped a r (run map (bus_error (kind_of s out) out s) m) refl

  -- what a step's cause is, by its kind
  pub cause-by : (f : Cause → Bool) (b : Bool) → f (cause_of (kind_of s out)) ≡ b → ((a : ℕ) → f (error_cause_of (kind_of s out) a) ≡ b) → ((a : ℕ) → f (LockedAt a) ≡ b)
      → f (step_of map out s m).cause ≡ b
  unfolding error_of
  cause-by f b e g l = came (run map (work_of (kind_of s out) out s) m) refl
    where
      trapped : (a : ℕ) (c : Came State) → f (or_at c (error_cause_of (kind_of s out) a) (λ _. after (with_mode s Locked) m (LockedAt a))).cause ≡ b
      trapped a (value t n) = g a
      trapped a (blank d) = l a

      came : (c : Came State) → run map (work_of (kind_of s out) out s) m ≡ c → f (step_of map out s m).cause ≡ b
      came (value t n) r = sym (ap (λ a. f a.cause) (step-well map out s m refl r refl)) ∙ e
      came (blank a) r = ap (λ a. f a.cause) (blank-error map out s m r) ∙ trapped a (run map (bus_error (kind_of s out) out s) m)

-- ---- what a marked state hears

abbrev is_interrupt : Kind → Bool
is_interrupt OpCode = false
is_interrupt HaltEnd = false
is_interrupt Boots = false
is_interrupt Saves = false
is_interrupt LocksUp = false
is_interrupt Restarts = false
is_interrupt Restores = false
is_interrupt NonVectored = true
is_interrupt Vectored = true
is_interrupt Waits = false
is_interrupt Stuck = false

abbrev is_option : Kind → Bool
is_option OpCode = false
is_option HaltEnd = false
is_option Boots = true
is_option Saves = true
is_option LocksUp = true
is_option Restarts = true
is_option Restores = false
is_option NonVectored = false
is_option Vectored = false
is_option Waits = false
is_option Stuck = false

one_of : (f : Kind → Bool) (x b : Bool) (k j : Kind) → f k ≡ x → f j ≡ x → f (cond b k j) ≡ x
one_of f x true k j e h = e
one_of f x false k j e h = h

options : (n : ℕ) → (let k = get_or (Boots ∷ Saves ∷ LocksUp ∷ Restarts ∷ []) n Restarts in (is_option k ≡ true) × (is_interrupt k ≡ false))
options zero = (refl, refl)
options (suc zero) = (refl, refl)
options (suc (suc zero)) = (refl, refl)
options (suc (suc (suc zero))) = (refl, refl)
options (suc (suc (suc (suc n)))) = (refl, refl)

deaf : (mode : Mode) (out : Outside) → is_interrupt (kind_in mode false out) ≡ false
unfolding kind_in halt_option
deaf Running out = one_of is_interrupt false out.i3 _ OpCode (options out.settings.halt).1 refl
deaf Waiting out = one_of is_interrupt false out.i3 _ Waits (options out.settings.halt).1 refl
deaf PowerHalt out = one_of is_interrupt false out.fail Waits HaltEnd refl refl
deaf SwitchHalt out = one_of is_interrupt false out.i3 _ Waits (options out.settings.halt).1 refl
deaf Locked out = refl
deaf Saved out = one_of is_interrupt false out.i3 Waits Restores refl refl

marked-deaf : (s : State) (out : Outside) → s.mark ≡ true → is_interrupt (kind_of s out) ≡ false
marked-deaf s out e = ap (λ z. is_interrupt (kind_in s.mode z out)) (ap (λ z. s.i2 && not z) e ∙ and-false s.i2) ∙ deaf s.mode out

-- no interrupt's cause without its kind
no-interrupt : (k : Kind) → is_interrupt k ≡ false → (from_interrupt (cause_of k) ≡ false) × ((a : ℕ) → from_interrupt (error_cause_of k a) ≡ false)
no-interrupt OpCode e = (refl, λ a. refl)
no-interrupt HaltEnd e = (refl, λ a. refl)
no-interrupt Boots e = (refl, λ a. refl)
no-interrupt Saves e = (refl, λ a. refl)
no-interrupt LocksUp e = (refl, λ a. refl)
no-interrupt Restarts e = (refl, λ a. refl)
no-interrupt Restores e = (refl, λ a. refl)
no-interrupt NonVectored e = none (sym e)
no-interrupt Vectored e = none (sym e)
no-interrupt Waits e = (refl, λ a. refl)
no-interrupt Stuck e = (refl, λ a. refl)

-- NEITHER I0 NOR I1
pub held-off : (map : List ℕ) (out : Outside) (s : State) (m : List ℕ) → s.mark ≡ true → from_interrupt (step_of map out s m).cause ≡ false
held-off map out s m e =
    let k = no-interrupt (kind_of s out) (marked-deaf s out e) in
    cause-by map out s m from_interrupt false k.0 k.1 (λ a. refl)

switch_asks : (mode : Mode) (hearing : Bool) (out : Outside) → runs_or_waits mode ≡ true → out.i3 ≡ true → is_option (kind_in mode hearing out) ≡ true
unfolding kind_in halt_option
switch_asks Running hearing out r e = rw e (options out.settings.halt).0
switch_asks Waiting hearing out r e = rw e (options out.settings.halt).0
switch_asks PowerHalt hearing out r e = none r
switch_asks SwitchHalt hearing out r e = none r
switch_asks Locked hearing out r e = none r
switch_asks Saved hearing out r e = none r

option-cause : (k : Kind) → is_option k ≡ true → (from_switch (cause_of k) ≡ true) × ((a : ℕ) → from_switch (error_cause_of k a) ≡ true)
option-cause OpCode e = none e
option-cause HaltEnd e = none e
option-cause Boots e = (refl, λ a. refl)
option-cause Saves e = (refl, λ a. refl)
option-cause LocksUp e = (refl, λ a. refl)
option-cause Restarts e = (refl, λ a. refl)
option-cause Restores e = none e
option-cause NonVectored e = none e
option-cause Vectored e = none e
option-cause Waits e = none e
option-cause Stuck e = none e

-- I3 IS HEARD
pub switch-heard : (map : List ℕ) (out : Outside) (s : State) (m : List ℕ) → runs_or_waits s.mode ≡ true → out.i3 ≡ true → from_switch (step_of map out s m).cause ≡ true
switch-heard map out s m r e =
    let k = option-cause (kind_of s out) (switch_asks s.mode (hears s) out r e) in
    cause-by map out s m from_switch true k.0 k.1 (λ a. refl)

-- ---- power-up

cleared-stays : (x : Bool) (k : Kind) → is_code k ≡ false → by_kind x false k ≡ false
cleared-stays x OpCode e = none (sym e)
cleared-stays x HaltEnd e = refl
cleared-stays x Boots e = refl
cleared-stays x Saves e = refl
cleared-stays x LocksUp e = refl
cleared-stays x Restarts e = refl
cleared-stays x Restores e = refl
cleared-stays x NonVectored e = refl
cleared-stays x Vectored e = refl
cleared-stays x Waits e = refl
cleared-stays x Stuck e = refl

pub power-clears : (settings : Settings) (map m : List ℕ) → (power_up_of settings map m).state.mark ≡ false
unfolding power_up_of cleared with_mode
power-clears settings map m = came (run map (work_of (power_up_option settings) (heard settings 0) cleared) m) refl
  where
    came : (c : Came State) → run map (work_of (power_up_option settings) (heard settings 0) cleared) m ≡ c → (or_locked c m).state.mark ≡ false
    came (value t n) r = kind-marks map (power_up_option settings) (heard settings 0) cleared m r ∙ cleared-stays _ (power_up_option settings) (option-no-code settings refl)
    came (blank a) r = refl

-- ---- an op code that enabled

unlike : {n : ℕ} (c : Cause) → c ≡ Cause.OpCode → cause_number c ≡ suc n → ⊥
unlike c e h = let z : 0 ≡ suc _ = sym (ap cause_number e) ∙ h in omega arith

-- cause 0 of a running processor is an op code's
code-kind : (k : Kind) → fits true k ≡ true → cause_of k ≡ Cause.OpCode → k ≡ OpCode
code-kind OpCode f e = refl
code-kind HaltEnd f e = none f
code-kind Boots f e = absurd (unlike _ e refl)
code-kind Saves f e = absurd (unlike _ e refl)
code-kind LocksUp f e = absurd (unlike _ e refl)
code-kind Restarts f e = absurd (unlike _ e refl)
code-kind Restores f e = absurd (unlike _ e refl)
code-kind NonVectored f e = absurd (unlike _ e refl)
code-kind Vectored f e = absurd (unlike _ e refl)
code-kind Waits f e = absurd (unlike _ e refl)
code-kind Stuck f e = absurd (unlike _ e refl)

-- A RUNNING PROCESSOR'S STEP WITH CAUSE 0 is what the op code's work came to
pub code-work : (map : List ℕ) (out : Outside) (s : State) (m : List ℕ) → s.mode ≡ Running → (step_of map out s m).cause ≡ Cause.OpCode
    → run map (op_work out s) m ≡ value (step_of map out s m).state (step_of map out s m).image
unfolding work_of
code-work map out s m runs c = came (run map (work_of (kind_of s out) out s) m) refl
  where
    came : (x : Came State) → run map (work_of (kind_of s out) out s) m ≡ x → run map (op_work out s) m ≡ value (step_of map out s m).state (step_of map out s m).image
    came (value t n) r =
        let well : after t n (cause_of (kind_of s out)) ≡ step_of map out s m = step-well map out s m refl r refl in
        let code : kind_of s out ≡ OpCode =
        code-kind (kind_of s out) (subst (λ (b : Bool). fits b (kind_of s out) ≡ true) (ap is_running runs) (fits-kind s.mode (hears s) out)) (ap (λ a. a.cause) well ∙ c) in
        (rw code at r) ∙ ap (λ a. value a.state a.image) well
    came (blank a) r =
        let z : None ≡ Some a = sym (ap cause_address c) ∙ tells map out s m r in
        let w : ◌≡◌ {A = ℕ} 0 1 = cc in
        absurd (omega arith)

-- an op code that isn't XCT, from where it is fetched on
pub plain-run : (map : List ℕ) (out : Outside) (s : State) (m : List ℕ) (t : State) (n : List ℕ) → eqb (image_word m s.regs.pc) 5 ≡ false
    → run map (op_work out s) m ≡ value t n → run map (execute out (begins s) (image_word m s.regs.pc)) m ≡ value t n
unfolding run op_work fetch begun carry traced ◌>>=◌
plain-run map out s m t n other h =
    sym (run-give map (execute out (begins s) (image_word m s.regs.pc)) m) ∙ (rw other at (found-value (fitted map s.regs.pc) s.regs.pc _ t n h).1)

-- it is running with I2 set after it
pub enabled-runs : (map : List ℕ) (out : Outside) (s : State) (m : List ℕ) → s.mode ≡ Running → enables (executed s m) ≡ true → (step_of map out s m).cause ≡ Cause.OpCode
    → Enabled s (step_of map out s m).state
enabled-runs map out s m runs e c = (work-marks map out s m (code-work map out s m runs c)).1 e
