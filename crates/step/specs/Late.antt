-- IEN is one op code late: where it found I2 clear, exactly one more op code is executed before I0 or I1 is heard; where it found I2 set, none.
use Rattle.std.specs.Prelude.{ℕ, true, false, ◌||◌, cond, List, ◌≡◌}
use Rattle.board.specs.Work.{fitted, image_word}
use Rattle.state.specs.declared.State.{State}
use Rattle.state.specs.declared.Outside.{Outside}
use Rattle.state.specs.declared.Mode.TheVariants.{Running}
use Rattle.step.specs.declared.Kind.{Kind}
use Rattle.step.specs.declared.Kind.TheVariants.{OpCode, NonVectored, Vectored}
use Rattle.step.specs.Step.{kind_of}

-- a running processor comes to the op code that stands at its PC
pub record Comes (op : ℕ) (map : List ℕ) (out : Outside) (s : State) (m : List ℕ) : Type 0 where
  pub runs : s.mode ≡ Running
  pub kind : kind_of s out ≡ OpCode
  pub there : fitted map s.regs.pc ≡ true
  pub code : image_word m s.regs.pc ≡ op

-- I0 or I1 asks, and I3 does not
pub record Asks (out : Outside) : Type 0 where
  pub quiet : out.i3 ≡ false
  pub asks : (out.i1 || out.i0) ≡ true

-- the interrupt that is heard
abbrev pub interrupt_heard : Outside → Kind
interrupt_heard out = cond out.i1 NonVectored Vectored
