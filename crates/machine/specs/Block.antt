-- THE END IS THE PAGE'S: the steps of a whole block move end where the manual's page says.
use Rattle.std.specs.Prelude.{ℕ, Bool, List, [], ◌∷◌, ◌≡◌}
use Rattle.state.specs.declared.State.{State}
use Rattle.state.specs.declared.Settings.{Settings}
use Rattle.state.specs.State.{heard, reg}
use Rattle.format8.specs.Format8.{move_row}
use Rattle.opcodes.specs.Fields.{block_source, block_destination}
use Rattle.format8.specs.Page.{element_count, image_moved, state_moved}
use Rattle.step.specs.declared.Cause.{Cause}
use Rattle.step.specs.Step.{After, after}
use Rattle.step.specs.Block.{Unheard}
use Rattle.machine.specs.Run.{no_blanks}
use Rattle.machine.specs.Trail.{last_after, tally_in}

-- line words in which nothing is heard
pub data AllUnheard (settings : Settings) (hearing : Bool) : List ℕ → Type 0 where
  none : AllUnheard settings hearing []
  also : {line : ℕ} {lines : List ℕ} → Unheard hearing (heard settings line) → AllUnheard settings hearing lines → AllUnheard settings hearing (line ∷ lines)

-- n elements as the manual's page has them: the state and the image after, with cause 0
abbrev pub elements_of : ℕ → ℕ → State → List ℕ → After
elements_of op n s m = after (state_moved (move_row op) (block_source op) (block_destination op) n s) (image_moved (move_row op) (block_source op) (block_destination op) n s m) Cause.OpCode

-- THE WHOLE BLOCK MOVE: as many elements as R0 says, 65,536 where it is 0
abbrev pub block_move : ℕ → State → List ℕ → After
block_move op s m = elements_of op (element_count (reg s 0)) s m

-- a trail that ends here, with no blank on it
pub record TrailEndsAt (b : After) (rs : List After) (e : After) : Type 0 where
  pub last : last_after b rs ≡ e
  pub tally : tally_in rs ≡ no_blanks
