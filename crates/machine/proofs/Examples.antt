-- What the law of the block moves asks for can be met: MBWU R1,R2 at 0100 with R0 2, R1 0200, R2 0300.
use Prim.Native.Nat.{ℕ, zero, suc, ◌/◌, ◌<◌}
use native.Mathlib.Omega.{arith}
use mathlib.Core.Bool.{true}
use mathlib.Core.List.{List, [], ◌∷◌, ◌++◌}
use mathlib.Core.Path.{◌≡◌, refl}
use lib.ListN.{replicate}
use Rattle.board.specs.Work.{fitted, writable, even, image_word, with_word}
use Rattle.state.specs.declared.State.{State}
use Rattle.state.specs.declared.Settings.{Settings}
use Rattle.state.specs.Registers.{reg_of, set_reg}
use Rattle.state.specs.State.{reg, with_reg, with_mark, with_pc, cleared}
use Rattle.format8.specs.Page.{Plain, along}
use Rattle.step.specs.declared.Cause.TheVariants as Cause
use Rattle.step.specs.Step.{after, kind_in}
use Rattle.step.specs.Block.{Ready}
use Rattle.machine.specs.Trail.{trail_of}
use Rattle.machine.specs.Block.{none, also, TrailEndsAt, block_move}
use Rattle.machine.proofs.Laws.Block.{block-move}

abbrev board : List ℕ
board = replicate 4 1 ++ replicate 252 0

unfoldable image : List ℕ
image = with_word (with_word (with_word (replicate 65536 0) 0x100 0x0e0a) 0x200 0x1234) 0x202 0x5678

unfoldable before : State
before = with_pc (with_reg (with_reg (with_reg cleared 0 2) 1 0x200) 2 0x300) 0x100

fitted-setting : Settings
fitted-setting = record { blocks = true; powerup = 3; halt = 3; register = 0 }

ready : Ready board 0x0e0a 2 before image
unfolding before image cleared with_reg set_reg reg reg_of along fitted writable image_word with_word even
ready =
    record {
      running = refl;
      address = omega arith;
      here = refl;
      code = refl;
      reads = reads;
      writes = writes;
      apart = apart;
    }
  where
    reads : (k : ℕ) → k < 2 → fitted board (along 2 k 0x200) ≡ true
    reads zero l = refl
    reads (suc zero) l = refl
    reads (suc (suc k)) l = absurd (omega arith)

    writes : (k : ℕ) → k < 2 → writable board (along 2 k 0x300) ≡ true
    writes zero l = refl
    writes (suc zero) l = refl
    writes (suc (suc k)) l = absurd (omega arith)

    apart : (k : ℕ) → k < 2 → along 2 k 0x300 / 2 ≡ 0x80 → ⊥
    apart zero l e = omega arith
    apart (suc zero) l e = omega arith
    apart (suc (suc k)) l e = absurd (omega arith)

plain : Plain 1 2
plain = record { source-some = omega arith; source-few = omega arith; destination-some = omega arith; destination-few = omega arith }

both : TrailEndsAt (after before image Cause.Nothing) (trail_of fitted-setting board (0 ∷ 0 ∷ []) before image) (block_move 0x0e0a before image)
unfolding before cleared with_reg with_mark set_reg reg reg_of kind_in fitted-setting
both = block-move fitted-setting refl board 0x0e0a refl plain (0 ∷ 0 ∷ []) before image Cause.Nothing (omega arith) ready refl (also refl (also refl none))
