-- ONE OUTCOME: a page keeps all of its answer, so two outcomes of a call that meet its contract are the same.
use Rattle.std.specs.Prelude.{ℕ, List, [], ◌∷◌, eqb, get_or}
use Rattle.wordmath.specs.Status.{flags_of}
use Rattle.state.specs.declared.State.{State}
use Rattle.state.specs.declared.Mode.{Mode}
use Rattle.state.specs.declared.Mode.TheVariants.{Running, Waiting, PowerHalt, SwitchHalt, Locked, Saved}
use Rattle.state.specs.State.{cleared, with_reg, with_flags, with_i2, with_mode, with_mark}
use Rattle.machine.specs.Numbers.{StatePage}

-- ---- a state, from its page

-- the modes in the order of their numbers
abbrev pub modes : List Mode
modes = Running ∷ Waiting ∷ PowerHalt ∷ SwitchHalt ∷ Locked ∷ Saved ∷ []

abbrev pub mode_of : ℕ → Mode
mode_of k = get_or modes k Saved

-- R0 to R5, SP and PC of a list
unfoldable pub from_registers : List ℕ → State
from_registers l =
    let s = with_reg cleared 0 (get_or l 0 0) in
    let s = with_reg s 1 (get_or l 1 0) in
    let s = with_reg s 2 (get_or l 2 0) in
    let s = with_reg s 3 (get_or l 3 0) in
    let s = with_reg s 4 (get_or l 4 0) in
    let s = with_reg s 5 (get_or l 5 0) in
    let s = with_reg s 6 (get_or l 6 0) in
    with_reg s 7 (get_or l 7 0)

unfoldable pub state_of : StatePage → State
state_of p = with_mark (with_mode (with_i2 (with_flags (from_registers p.registers) (flags_of p.indicators)) (eqb p.i2 1)) (mode_of p.mode)) (eqb p.mark 1)
