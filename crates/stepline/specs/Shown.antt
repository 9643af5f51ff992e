-- THE LINE OF A STEP: what stands at PC where the step is an op code, as a listing has it, and a tab; then columns of four hex digits and
-- a space: the step's number, the line word; R0 to R5, SP, PC, PS and the mode after the step, each where it changed; the cause's number,
-- the address that is told and the map's byte for its page; then the even address and the word after the step of every word that the step wrote, in its order.
use Rattle.std.specs.Prelude.{ℕ, zero, suc, ◌*◌, ◌/◌, ◌%◌, Bool, false, cond, List, [], ◌∷◌, ◌++◌, length, get_or, eqb, ltb, Option, Some, None, Result}
use Rattle.hexdigits.specs.Digits.{hex_of}
use Rattle.hexdigits.specs.Over.{in_front_of}
use Rattle.wordbytes.specs.Words.{byte_at, word_at}
use Rattle.state.specs.declared.State.{State}
use Rattle.state.specs.declared.Settings.{Settings}
use Rattle.state.specs.State.{mode_number, ps_of, heard}
use Rattle.step.specs.declared.Turn.{Turn}
use Rattle.step.specs.declared.Cause.{Cause}
use Rattle.step.specs.Step.{After, kind_of, is_code, cause_number, cause_address, step_of}
use Rattle.step.specs.Written.{step_writes}
use Rattle.refusal.specs.Numbers.{text_short}
use Rattle.refusal.specs.Page.{Page, answered, Left, left, call, first}
use Rattle.refusal.specs.Refusal.{step_refusal}
use Rattle.machine.specs.Numbers.{TurnPage, turn_page}
use Rattle.listing.specs.Listing.{listing_line}
use Rattle.stepline.specs.declared.Shown.{Shown}
use Rattle.refusal.specs.declared.Refusal.{Refusal}
use Rattle.refusal.specs.Answer.{page_of}

-- ---- columns

-- a column that says nothing
abbrev pub none : ℕ
none = 65536

-- a digit, or a dash where there is none
abbrev pub mark : Bool → ℕ → ℕ
mark there d = cond there (hex_of d) 45

-- four digits and a space, or four dashes and a space
unfoldable pub column : ℕ → List ℕ
column x =
    let v = x % 65536 in
    let there = ltb x none in
    mark there (v / 4096) ∷ mark there (v / 256 % 16) ∷ mark there (v / 16 % 16) ∷ mark there (v % 16) ∷ 32 ∷ []

-- the first n of the values
unfoldable pub columns : List ℕ → ℕ → List ℕ
columns values zero = []
columns values (suc n) = columns values n ++ column (get_or values n 0)

-- ---- what changed, and why

-- the value after, where it is another
abbrev pub changed : ℕ → ℕ → ℕ
changed before after = cond (eqb before after) none after

abbrev pub cause_word : Option ℕ → ℕ
cause_word None = none
cause_word (Some a) = a

-- the map's byte for the page of that address
abbrev pub page_told : List ℕ → Option ℕ → ℕ
page_told map None = none
page_told map (Some a) = byte_at map (a / 256)

-- PS as it is formed on a quiet line
abbrev pub status : Settings → State → ℕ
status settings s = ps_of (heard settings 0) false s

abbrev pub mode : State → ℕ
mode s = mode_number s.mode

-- fifteen columns
unfoldable pub figures : Settings → List ℕ → ℕ → ℕ → State → State → Cause → List ℕ
figures settings map number line s t cause =
    number
    ∷ line
    ∷ changed s.regs.r0 t.regs.r0
    ∷ changed s.regs.r1 t.regs.r1
    ∷ changed s.regs.r2 t.regs.r2
    ∷ changed s.regs.r3 t.regs.r3
    ∷ changed s.regs.r4 t.regs.r4
    ∷ changed s.regs.r5 t.regs.r5
    ∷ changed s.regs.sp t.regs.sp
    ∷ changed s.regs.pc t.regs.pc
    ∷ changed (status settings s) (status settings t)
    ∷ changed (mode s) (mode t)
    ∷ cause_number cause
    ∷ cause_word (cause_address cause)
    ∷ page_told map (cause_address cause)
    ∷ []

-- ---- the words that were written

-- a word access drops bit 0 of its address, and a byte is shown with its word
abbrev pub written_word : List ℕ → ℕ → List ℕ
written_word m a = column (a / 2 * 2) ++ column (word_at m (a / 2 * 2))

unfoldable pub writes_text : List ℕ → List ℕ → List ℕ
writes_text m [] = []
writes_text m (a ∷ xs) = written_word m a ++ writes_text m xs

-- ---- the line

abbrev pub tab : List ℕ
tab = 9 ∷ []

-- the op code at PC, where the step is one
unfoldable pub code_text : List ℕ → Bool → State → List ℕ → List ℕ
code_text map code s m = cond code (listing_line map m 65534 (s.regs.pc / 2 * 2)) []

-- of a step from the state s and the image m that came to `a` and wrote at the addresses ws
unfoldable pub step_line : Settings → List ℕ → ℕ → ℕ → State → List ℕ → After → List ℕ → List ℕ
step_line settings map line number s m a ws =
    ((code_text map (is_code (kind_of s (heard settings line))) s m ++ tab) ++ columns (figures settings map number line s a.state a.cause) 15) ++ writes_text a.image ws

unfoldable pub step_text : Settings → List ℕ → ℕ → ℕ → State → List ℕ → List ℕ
step_text settings map line number s m =
    let out = heard settings line in
    step_line settings map line number s m (step_of map out s m) (step_writes map out s m)

-- ---- the call

-- a listing's line has at most 52 characters, a tab one, the columns 75, and fifteen words at most are written
abbrev step_room : ℕ
step_room = 278

-- 1, 2, 3, 35 or 5; 8, the text is under 278
unfoldable pub show_why : Settings → ℕ → List ℕ → ℕ → ℕ → ℕ
show_why settings size map line text =
    first (step_refusal size map settings.powerup settings.halt settings.register line)
    (cond (ltb text step_room) text_short 0)

-- the line's length, and what the step answers
pub record ShownPage : Type 0 where
  pub count : ℕ
  pub turn : TurnPage

abbrev pub step_shown : ℕ → Turn → ShownPage
step_shown n t = record { count = n; turn = turn_page t }

abbrev pub shown_line : Shown → ShownPage
shown_line s = step_shown s.length s.turn

abbrev pub shown_page : Result Shown Refusal → Page ShownPage
shown_page r = page_of shown_line r

-- the image after the step; the line at the front of the text, and the rest of it as it was
abbrev pub shown_as : After → List ℕ → List ℕ → Left ShownPage (List ℕ × List ℕ)
shown_as a t b = left (answered (step_shown (length t) (record { state = a.state; cause = a.cause }))) (a.image, in_front_of t b)

unfoldable pub show_of : Settings → List ℕ → List ℕ → ℕ → ℕ → State → List ℕ → Left ShownPage (List ℕ × List ℕ)
show_of settings image map line number s b =
    call (show_why settings (length image) map line (length b))
    (shown_as (step_of map (heard settings line) s image) (step_text settings map line number s image) b)
    (image, b)
