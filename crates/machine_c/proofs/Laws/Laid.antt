-- A buffer that is not refused for its length holds all that is laid over it.
use Prim.Native.Nat.{ℕ}
use mathlib.Core.List.{List}
use mathlib.Core.Path.{◌≡◌, refl}
use lib.ListN.{length}
use borrow.Author.Tests.{eq-eqb}
use Rattle.state.specs.declared.State.{State}
use Rattle.machine.specs.Numbers.{state_page, Address, FirstPage}
use Rattle.machine_c.specs.Layout.{state_bytes, tally_bytes, laid}

pub laid-all : (bytes b : List ℕ) → length b ≡ length bytes → laid bytes b ≡ bytes
unfolding laid
laid-all bytes b e = rw (eq-eqb (length b) (length bytes) e) refl

pub laid-state : (b : List ℕ) (s : State) (cause : ℕ) (told : Address) → length b ≡ 24 → laid (state_bytes (state_page s) cause told) b ≡ state_bytes (state_page s) cause told
unfolding state_bytes state_page
laid-state b s cause told e = laid-all _ b e

pub laid-tally : (b : List ℕ) (blanks : ℕ) (first : FirstPage) → length b ≡ 6 → laid (tally_bytes blanks first) b ≡ tally_bytes blanks first
unfolding tally_bytes
laid-tally b blanks first e = laid-all _ b e
