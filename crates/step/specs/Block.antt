-- A block move's steps, where its microm is fitted, nothing is heard, no element meets a blank, nothing is written over the op code, and
-- neither register is R0 or PC.
use Rattle.std.specs.Prelude.{ℕ, ◌/◌, ◌<◌, Bool, true, List, ◌≡◌}
use Rattle.board.specs.Work.{fitted, writable, image_word}
use Rattle.state.specs.declared.State.{State}
use Rattle.state.specs.declared.Outside.{Outside}
use Rattle.state.specs.declared.Mode.TheVariants.{Running}
use Rattle.state.specs.State.{reg}
use Rattle.format8.specs.Format8.{move_row}
use Rattle.opcodes.specs.Fields.{block_source, block_destination}
use Rattle.format8.specs.Page.{source_by, destination_by, along}
use Rattle.step.specs.declared.Kind.TheVariants.{OpCode}
use Rattle.step.specs.Step.{kind_in}

-- ---- the addresses of the elements

-- the source's address at the element k from here on, and the destination's
abbrev pub reads_at : ℕ → State → ℕ → ℕ
reads_at op s k = along (source_by (move_row op) (block_source op) (block_destination op)) k (reg s (block_source op))

abbrev pub writes_at : ℕ → State → ℕ → ℕ
writes_at op s k = along (destination_by (move_row op) (block_source op) (block_destination op)) k (reg s (block_destination op))

-- A running state at the op code with n elements to go, on an image where none of them meets a blank or writes over the op code.
pub record Ready (map : List ℕ) (op n : ℕ) (s : State) (m : List ℕ) : Type 0 where
  pub running : s.mode ≡ Running
  pub address : s.regs.pc < 65536
  pub here : fitted map s.regs.pc ≡ true
  pub code : image_word m s.regs.pc ≡ op
  pub reads : (k : ℕ) → k < n → fitted map (reads_at op s k) ≡ true
  pub writes : (k : ℕ) → k < n → writable map (writes_at op s k) ≡ true
  pub apart : (k : ℕ) → k < n → writes_at op s k / 2 ≡ s.regs.pc / 2 → ⊥

-- nothing is heard in the step of a running processor: no I3, and neither I1 nor I0 where they are heard
abbrev pub Unheard : Bool → Outside → Type 0
Unheard hearing out = kind_in Running hearing out ≡ OpCode
