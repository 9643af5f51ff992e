-- What a call leaves, the next one takes: a state's bytes are a state's, and give it back.
use Prim.Native.Nat.{ℕ, ◌≤◌}
use mathlib.Core.Bool.{false}
use mathlib.Core.Path.{◌≡◌, ap, ◌∙◌}
use native.Mathlib.Omega.{arith}
use borrow.Author.Tests.{le-ltb}
use Rattle.wordmath.specs.declared.Flags.{Flags}
use Rattle.wordmath.specs.Number.{digit}
use Rattle.wordbytes.proofs.Laws.{word-again}
use Rattle.state.specs.declared.State.{State}
use Rattle.state.specs.declared.Mode.{Mode}
use Rattle.state.specs.declared.Mode.TheVariants.{Running, Waiting, PowerHalt, SwitchHalt, Locked, Saved}
use Rattle.state.specs.State.{mode_number}
use Rattle.machine.specs.Numbers.{indicators, state_page, Address, address, nowhere}
use Rattle.machine.specs.Back.{state_of}
use Rattle.machine.proofs.Laws.Back.{state-back}
use Rattle.machine_c.specs.Layout.{address_told, state_bytes, page_from, state_from, refused_state}
use Rattle.wordmath.proofs.Laws.Digit.{digit-le}

page-again : (s : State) (cause : ℕ) (told : Address) → page_from (state_bytes (state_page s) cause told) ≡ state_page s
unfolding page_from state_bytes state_page
page-again s cause told = simp word-again

-- THE SAME STATE COMES BACK
pub state-again : (s : State) (cause : ℕ) (told : Address) → state_from (state_bytes (state_page s) cause told) ≡ s
state-again s cause told = ap state_of (page-again s cause told) ∙ state-back s

mode-le : (m : Mode) → mode_number m ≤ 5
mode-le Running = omega arith
mode-le Waiting = omega arith
mode-le PowerHalt = omega arith
mode-le SwitchHalt = omega arith
mode-le Locked = omega arith
mode-le Saved = omega arith

tells-le : (told : Address) → address_told told ≤ 1
tells-le (address a) = omega arith
tells-le nowhere = omega arith

indicators-le : (f : Flags) → indicators f ≤ 15
indicators-le f = omega (arith, digit-le f.n, digit-le f.z, digit-le f.v, digit-le f.c)

-- AND ITS BYTES ARE NOT REFUSED
pub state-taken : (s : State) (cause : ℕ) (told : Address) → cause ≤ 9 → refused_state (state_bytes (state_page s) cause told) ≡ false
unfolding refused_state state_bytes state_page
state-taken s cause told h =
    rw (
      le-ltb 15 (indicators s.flags) (indicators-le s.flags),
      le-ltb 1 (digit s.i2) (digit-le s.i2),
      le-ltb 5 (mode_number s.mode) (mode-le s.mode),
      le-ltb 9 cause h,
      le-ltb 1 (digit s.mark) (digit-le s.mark),
      le-ltb 1 (address_told told) (tells-le told),
    )
