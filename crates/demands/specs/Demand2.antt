-- DEMAND 2. THE MANUAL, STEP BY STEP. Whatever calls answer and leave, as their contracts promise, where they are not refused.
use Rattle.std.specs.Prelude.{ℕ, ◌*◌, ◌≤◌, ◌<◌, false, List, ◌≡◌, length, get_or, take, Result, Ok}
use Rattle.hexdigits.specs.Over.{in_front_of}
use Rattle.wordbytes.specs.Words.{word_at}
use Rattle.answer.specs.Answer.{three_words}
use Rattle.state.specs.declared.State.{State}
use Rattle.state.specs.declared.Settings.{Settings}
use Rattle.state.specs.State.{heard}
use Rattle.step.specs.declared.Cause.TheVariants as Cause
use Rattle.step.specs.Step.{After, after, step_of, power_up_of, cause_number, cause_address}
use Rattle.refusal.specs.Page.{answered, left, told}
use Rattle.machine.specs.Entry.{Powered, Stepped, Finished, powered_page, powered, power_up_page, stepped_page, turned, step_page, finished_page, run_page}
use Rattle.machine.specs.Numbers.{StatePage, state_page, nowhere, told_of, TurnPage, first_page, RanPage}
use Rattle.machine.specs.Trail.{trail_of, last_after, blanks_in, first_blank_in, run_shown}
use Rattle.machine_c.specs.Layout.{state_bytes, tally_bytes, state_from, settings_from}
use Rattle.machine_c.specs.Calls.{power_up_call, step_call, run_call}
use Rattle.optext.specs.declared.Written.{Written}
use Rattle.optext.specs.declared.WriteRefusal.{WriteRefusal}
use Rattle.optext.specs.declared.ReadRefusal.{ReadRefusal}
use Rattle.optext.specs.Answer.{Writes, read_page}
use Rattle.optext.specs.Words.{Reads}
use Rattle.optext_c.specs.Calls.{odd_length, write_call, ReadCall}
use Rattle.demands.specs.Terms.{AllWords, AllBytes, before_at, written_line}

-- ---- "Each step does what the WD16 Programmer's Reference Manual says, odd corners included, with the board's rules of document 01."
-- `step_of` (step Step) is one step: its kind, its work op code by op code, the bus error; `power_up_of` is the power-up. Here: a call is what the
-- definition says, in 01's numbers

-- POWER-UP: the state and the image after it
abbrev pub PowerUpIs : Type 0
PowerUpIs = (settings : Settings) (m map : List ℕ) (r : Powered) (m' : List ℕ) (p : StatePage) → left (powered_page r) m' ≡ power_up_page settings m map → powered_page r ≡ answered p
    → left (answered p) m' ≡ powered (power_up_of settings map m)

-- A STEP: the state, the cause, the address that it tells, and the image after it
abbrev pub StepIs : Type 0
StepIs = (settings : Settings) (m map : List ℕ) (line : ℕ) (s : State) (r : Stepped) (m' : List ℕ) (p : TurnPage) → left (stepped_page r) m' ≡ step_page settings m map line s → stepped_page r ≡ answered p
    → left (answered p) m' ≡ turned (step_of map (heard settings line) s m)

-- A RUN: what its trail shows, the state and the image at its end, and its blanks
abbrev pub RunIs : Type 0
RunIs = (settings : Settings) (m map lines : List ℕ) (s : State) (r : Finished) (m' : List ℕ) (p : RanPage) → left (finished_page r) m' ≡ run_page settings m map lines s → finished_page r ≡ answered p
    → left (answered p) m' ≡ run_shown settings map lines s m

-- ITS TRAIL has a step for each line word, and each is the step over its line word from where the steps before it end
abbrev pub TrailIs : Type 0
TrailIs = (settings : Settings) (map lines : List ℕ) (s : State) (m : List ℕ)
    → (length (trail_of settings map lines s m) ≡ length lines)
    × ((k : ℕ) → k < length lines → (let b = before_at settings map lines s m k in
    (d : After) → get_or (trail_of settings map lines s m) k d ≡ step_of map (heard settings (get_or lines k 0)) b.state b.image))

-- THE SAME FOR C, byte by byte: b are the state's bytes, t the tally's, w the settings'. 0 is no refusal
abbrev pub Wd16PowerUpIs : Type 0
Wd16PowerUpIs = (b m map w b' m' : List ℕ) → told 0 (b', m') ≡ power_up_call b m map w
    → (let u = power_up_of (settings_from w) map m in
    (b' ≡ state_bytes (state_page u.state) 0 nowhere) × (m' ≡ u.image))

abbrev pub Wd16StepIs : Type 0
Wd16StepIs = (b m map w : List ℕ) (line : ℕ) (b' m' : List ℕ) → told 0 (b', m') ≡ step_call b m map w line
    → (let x = step_of map (heard (settings_from w) line) (state_from b) m in
    (b' ≡ state_bytes (state_page x.state) (cause_number x.cause) (told_of (cause_address x.cause))) × (m' ≡ x.image))

abbrev pub Wd16RunIs : Type 0
Wd16RunIs = (b t m map w lines b' t' m' : List ℕ) → told 0 (b', t', m') ≡ run_call b t m map w lines
    → (let rs = trail_of (settings_from w) map lines (state_from b) m in
    let x = last_after (after (state_from b) m Cause.Nothing) rs in
    (b' ≡ state_bytes (state_page x.state) 0 nowhere) × (t' ≡ tally_bytes (blanks_in rs) (first_page (first_blank_in rs))) × (m' ≡ x.image))

-- ---- "The text of an op code, read again, gives the same words,"

-- what a call of the writer left, given to a call of the reader with room for three words: the words that were taken, in front, and no other
abbrev pub TextAgain : Type 0
TextAgain = (words text : List ℕ) (n m : ℕ) (text' room room' : List ℕ) (r : Result ℕ ReadRefusal) → AllWords words
    → Writes words text (Ok (written_line n m)) text' → 3 ≤ length room → Reads (read_page r) (take n text') room room'
    → (r ≡ Ok m) × (room' ≡ in_front_of (take m words) room)

-- for C: b are the words' bytes, a the writer's answer; c and d are lent to the reader for the words and for its answer
abbrev pub Wd16TextAgain : Type 0
Wd16TextAgain = (b t a t' a' c d : List ℕ) (number : ℕ) (c' d' : List ℕ) → AllBytes b → told 0 (t', a') ≡ write_call b t a
    → length d ≡ 6 → odd_length c ≡ false → 6 ≤ length c → ReadCall (take (word_at a' 0) t') c d (told number (c', d'))
    → (number ≡ 0) × (c' ≡ in_front_of (take (word_at a' 2 * 2) b) c) × (d' ≡ three_words (word_at a' 2) 0 0)

-- ---- "and the reader takes only the texts that the writer makes."

-- what a call of the writer with room for a line makes of the words that were read is the text that was read
abbrev pub TextMade : Type 0
TextMade = (t room room' : List ℕ) (n : ℕ) (text text' : List ℕ) (r : Result Written WriteRefusal)
    → Reads (read_page (Ok n)) t room room' → 32 ≤ length text → Writes (take n room') text r text' → (r ≡ Ok (written_line (length t) n)) × (text' ≡ in_front_of t text)

abbrev pub Wd16TextMade : Type 0
Wd16TextMade = (t c d c' d' u a : List ℕ) (number : ℕ) (u' a' : List ℕ) → ReadCall t c d (told 0 (c', d'))
    → length a ≡ 6 → 32 ≤ length u → told number (u', a') ≡ write_call (take (word_at d' 0 * 2) c') u a
    → (number ≡ 0) × (u' ≡ in_front_of t u) × (a' ≡ three_words (length t) (word_at d' 0) 0)

-- ---- document 01: "words lent past these are ignored."

-- other words with the same ones in front that were taken: the same answer, and the same text
abbrev pub TextIgnores : Type 0
TextIgnores = (words others text : List ℕ) (n m : ℕ) (text' text'' : List ℕ) (r : Result Written WriteRefusal)
    → Writes words text (Ok (written_line n m)) text' → take m others ≡ take m words → Writes others text r text'' → (r ≡ Ok (written_line n m)) × (text'' ≡ text')

abbrev pub Wd16TextIgnores : Type 0
Wd16TextIgnores = (b v t a t' a' : List ℕ) (number : ℕ) (t'' a'' : List ℕ) → told 0 (t', a') ≡ write_call b t a → odd_length v ≡ false → take (word_at a' 2 * 2) v ≡ take (word_at a' 2 * 2) b
    → told number (t'', a'') ≡ write_call v t a → (number ≡ 0) × (t'' ≡ t') × (a'' ≡ a')
