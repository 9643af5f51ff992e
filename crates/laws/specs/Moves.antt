-- WISH 1. BLOCK MOVES, over the runs that users call: "Here one element is one step. .. With quiet lines, no blank, nothing written over
-- the op code and neither register R0 or PC, the end is the page's. A blank drops only its own element. Under XCT the one element is the
-- executed op code." Whatever runs and steps answer and leave, as their contracts promise.
use Rattle.std.specs.Prelude.{ℕ, ◌+◌, ◌/◌, ◌<◌, Bool, true, false, not, ◌||◌, List, [], ◌++◌, ◌≡◌, length, Ok}
use Rattle.board.specs.Work.{value, run, image_word, with_word}
use Rattle.wordmath.specs.Number.{bit}
use Rattle.wordmath.specs.Address.{plus, minus}
use Rattle.wordmath.specs.Status.{flags_of}
use Rattle.state.specs.declared.State.{State}
use Rattle.state.specs.declared.Settings.{Settings}
use Rattle.state.specs.declared.Mode.TheVariants.{Running}
use Rattle.state.specs.State.{reg, heard, ps_of, with_sp, with_pc, with_flags, with_mark}
use Rattle.format8.specs.Format8.{move_row, element}
use Rattle.opcodes.specs.Fields.{block_source, block_destination}
use Rattle.format8.specs.Page.{Plain, element_count}
use Rattle.step.specs.declared.Turn.{Turn}
use Rattle.step.specs.declared.Cause.TheVariants as Cause
use Rattle.step.specs.Xct.{trace}
use Rattle.step.specs.Block.{Ready}
use Rattle.refusal.specs.Page.{left, told}
use Rattle.refusal.specs.Refusal.{all_of}
use Rattle.machine.specs.declared.Ran.{Ran}
use Rattle.machine.specs.Run.{no_blanks}
use Rattle.machine.specs.Block.{block_move}
use Rattle.machine.specs.Entry.{finished_page, run_page}
use Rattle.machine_c.specs.Layout.{state_from, settings_from}
use Rattle.machine_c.specs.Calls.{run_call}
use Rattle.wordbytes.specs.Words.{byte_at}
use Rattle.wordbytes.specs.Words as Words
use Rattle.laws.specs.Mark.{StepCall, LentSteps}

-- ---- runs one after another, each from where the last ended: `lines` are the line words of all, `blanks` the blanks of all

pub data RunsOn (settings : Settings) (map : List ℕ) : State → List ℕ → List ℕ → ℕ → State → List ℕ → Type 0 where
  none : {s : State} {m : List ℕ} → RunsOn settings map s m [] 0 s m
  runs : {s : State} {m : List ℕ} (lines rest : List ℕ) {blanks : ℕ} {s' : State} {m' : List ℕ} (a : Ran) (m₁ : List ℕ)
      → left (finished_page (Ok a)) m₁ ≡ run_page settings m map lines s → RunsOn settings map a.state m₁ rest blanks s' m'
      → RunsOn settings map s m (lines ++ rest) (a.tally.blanks + blanks) s' m'

-- the same for C, w the settings' bytes: each call is lent the state and the image that the last left
pub data LentRuns (w map : List ℕ) : List ℕ → List ℕ → List ℕ → List ℕ → List ℕ → Type 0 where
  none : {b m : List ℕ} → LentRuns w map b m [] b m
  runs : {b m : List ℕ} (lines rest : List ℕ) {b' m' : List ℕ} (t b₁ t₁ m₁ : List ℕ)
      → told 0 (b₁, t₁, m₁) ≡ run_call b t m map w lines → LentRuns w map b₁ m₁ rest b' m'
      → LentRuns w map b m (lines ++ rest) b' m'

-- ---- "the end is the page's"

-- no I0, no I1, no I3
abbrev pub quiet : ℕ → Bool
quiet line = not ((bit 0 line || bit 1 line) || bit 3 line)

-- What is asked: the microm is fitted; a block move, 0E00 to 0FFF, with neither register R0 or PC; it stands at PC of a running processor,
-- and no element meets a blank or writes over it (`Ready`); a quiet line word for each element, as many as R0 says, 65,536 where it is 0.
pub record Moves (settings : Settings) (map : List ℕ) (op : ℕ) (lines : List ℕ) (s : State) (m : List ℕ) : Type 0 where
  pub microm : settings.blocks ≡ true
  pub eight : op / 512 ≡ 7
  pub plain : Plain (block_source op) (block_destination op)
  pub word : reg s 0 < 65536
  pub ready : Ready map op (element_count (reg s 0)) s m
  pub count : length lines ≡ element_count (reg s 0)
  pub unasked : all_of quiet lines ≡ true

-- One run, where R0 is up to 4,096.
abbrev pub RunMoves : Type 0
RunMoves = (settings : Settings) (map : List ℕ) (op : ℕ) (lines : List ℕ) (s : State) (m : List ℕ) (a : Ran) (m' : List ℕ) → Moves settings map op lines s m
    → left (finished_page (Ok a)) m' ≡ run_page settings m map lines s
    → (let end = block_move op (with_mark s false) m in (a.state ≡ end.state) × (m' ≡ end.image) × (a.tally ≡ no_blanks))

-- Any number of runs, so that any count is covered.
abbrev pub RunsMove : Type 0
RunsMove = (settings : Settings) (map : List ℕ) (op : ℕ) (lines : List ℕ) (s : State) (m : List ℕ) (blanks : ℕ) (s' : State) (m' : List ℕ) → Moves settings map op lines s m
    → RunsOn settings map s m lines blanks s' m'
    → (let end = block_move op (with_mark s false) m in (s' ≡ end.state) × (m' ≡ end.image) × (blanks ≡ 0))

-- The same for C: the state that the bytes hold.
abbrev pub Wd16RunsMove : Type 0
Wd16RunsMove = (w map : List ℕ) (op : ℕ) (lines b m b' m' : List ℕ) → Moves (settings_from w) map op lines (state_from b) m
    → LentRuns w map b m lines b' m'
    → (let end = block_move op (with_mark (state_from b) false) m in (state_from b' ≡ end.state) × (m' ≡ end.image))

-- ---- "A blank drops only its own element": the step of an element that meets a blank leaves R0 to R5 as they were before it, so that the
-- count and the addresses are those of the element that is missing; of the image only what the bus error pushed is new, so that every
-- element before stays. (That holds of any op code's blank, whether a block move stands at PC or not.)
abbrev pub ElementDropped : Type 0
ElementDropped = (settings : Settings) (m map : List ℕ) (line : ℕ) (s : State) (t : Turn) (n : List ℕ) (a : ℕ) → StepCall settings m map line s t n
    → t.cause ≡ Cause.OpCodeBlank a
    → (let sp = minus s.regs.sp 2 in let past = plus s.regs.pc 2 in
    ((k : ℕ) → k < 6 → reg t.state k ≡ reg s k) × (n ≡ with_word (with_word m sp (ps_of (heard settings line) true s)) (minus sp 2) past))

-- ---- "Under XCT the one element is the executed op code": PC and PS are popped, the op code there is fetched, one element is moved, and
-- then comes the push to 20's routine

-- PC and PS popped, I2 kept; PC past the op code; the mark cleared
abbrev pub opened : State → List ℕ → State
opened s m =
    let sp = s.regs.sp in
    let pc = image_word m sp in
    with_mark (with_pc (with_flags (with_sp (with_pc s pc) (plus (plus sp 2) 2)) (flags_of (image_word m (plus sp 2)))) (plus pc 2)) false

pub record OneElement (settings : Settings) (map : List ℕ) (line op : ℕ) (s : State) (m : List ℕ) (t : State) (n : List ℕ) : Type 0 where
  pub moved : State
  pub image : List ℕ
  pub once : run map (element (move_row op) (opened s m) (block_source op) (block_destination op)) m ≡ value moved image
  pub traced : run map (trace (heard settings line) moved) image ≡ value t n

abbrev pub XctElement : Type 0
XctElement = (settings : Settings) (m map : List ℕ) (line : ℕ) (s : State) (t : Turn) (n : List ℕ) → StepCall settings m map line s t n
    → settings.blocks ≡ true → s.mode ≡ Running → t.cause ≡ Cause.OpCode → image_word m s.regs.pc ≡ 0x5
    → (let op = image_word m (image_word m s.regs.sp) in op / 512 ≡ 7 → OneElement settings map line op s m t.state n)

-- ---- the same for C: a step that leaves cause 5 drops only its own element; and under XCT a step that leaves cause 0

abbrev pub Wd16ElementDropped : Type 0
Wd16ElementDropped = (w b m map : List ℕ) (line : ℕ) (b' m' : List ℕ) → LentSteps w b m map line b' m' → byte_at b' 19 ≡ 5
    → (let s = state_from b in let sp = minus s.regs.sp 2 in let past = plus s.regs.pc 2 in
    ((k : ℕ) → k < 6 → reg (state_from b') k ≡ reg s k) × (m' ≡ with_word (with_word m sp (ps_of (heard (settings_from w) line) true s)) (minus sp 2) past))

abbrev pub Wd16XctElement : Type 0
Wd16XctElement = (w b m map : List ℕ) (line : ℕ) (b' m' : List ℕ) → LentSteps w b m map line b' m'
    → (let s = state_from b in (settings_from w).blocks ≡ true → s.mode ≡ Running → byte_at b' 19 ≡ 0 → image_word m s.regs.pc ≡ 0x5
    → (let op = image_word m (image_word m s.regs.sp) in op / 512 ≡ 7 → OneElement (settings_from w) map line op s m (state_from b') m'))

-- ---- and no blank is counted on the way: the first words of the tallies that the calls leave, added up

unfoldable pub blanks_told : {w map b m lines b' m' : List ℕ} → LentRuns w map b m lines b' m' → ℕ
blanks_told none = 0
blanks_told (runs lines rest t b₁ t₁ m₁ e more) = Words.word_at t₁ 0 + blanks_told more

abbrev pub Wd16MovesCounted : Type 0
Wd16MovesCounted = (w map : List ℕ) (op : ℕ) (lines b m b' m' : List ℕ) → Moves (settings_from w) map op lines (state_from b) m
    → (r : LentRuns w map b m lines b' m') → blanks_told r ≡ 0
