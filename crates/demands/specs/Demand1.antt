-- DEMAND 1. ALWAYS AN ANSWER: wrong input is refused under a fixed number, and a refused call changes nothing.
-- That every call comes back is proved of each function; none has a `requires`. Here: whatever a call answers and leaves, as its
-- contract promises, it is refused exactly where a refusal applies, under the number of the first that does, alone; and then
-- everything that was lent for writing is as it was lent. It is ONE THEOREM, over the shape that every call has (refusal Page), and of
-- each call a line that says which refusals it has. Numbers 24 to 28 of the assembler tell a line beside, 9 and 30 to 32 of
-- the text's reader a column.
use Rattle.std.specs.Prelude.{ℕ, Bool, false, cond, List, ◌≡◌, length}
use Rattle.state.specs.declared.State.{State}
use Rattle.state.specs.declared.Settings.{Settings}
use Rattle.refusal.specs.Numbers.{no_state}
use Rattle.refusal.specs.Page.{Page, refused, refused_at, answered, Left, left, call, first, Told, reading_at}
use Rattle.answer.specs.Answer.{answer_why, place_words}
use Rattle.machine.specs.declared.Until.{Until}
use Rattle.machine.specs.Entry.{power_why, step_why, run_why, power_up_page, step_page, run_page}
use Rattle.machine.specs.Same.{run_same_page}
use Rattle.machine.specs.Until.{run_until_page}
use Rattle.machine_c.specs.Layout.{settings_from, refused_up, refused_step, refused_run}
use Rattle.machine_c.specs.Calls.{power_up_call, step_call, run_call}
use Rattle.machine_c.specs.Runs.{refused_until, run_same_call, run_until_call}
use Rattle.job.specs.Job.{why_job, why_read, job_of}
use Rattle.job_c.specs.Calls.{read_call}
use Rattle.optext.specs.Answer.{room_why, write_why, write_of, write_word_of}
use Rattle.optext.specs.Column.{Column}
use Rattle.optext.specs.Words.{Reads}
use Rattle.benchline.specs.Line.{print_why, print_of}
use Rattle.runjob.specs.Bench.{job_run, bench_why, bench_of}
use Rattle.listing.specs.Calls.{line_why, line_call}
use Rattle.listjob.specs.Stretch.{list_why, list_of}
use Rattle.listing_c.specs.Calls.{list_call}
use Rattle.stepline.specs.Shown.{show_why, show_of}
use Rattle.optext_c.specs.Calls.{words_in, write_call, ReadCall, lent_why}
use Rattle.assembler.specs.Answer.{asm_of}
use Rattle.assembler.specs.Labels.{labels_page}
use Rattle.assembler.specs.Ends.{assemble_why, labels_why, tells_line, FaultLine}
use Rattle.assembler_c.specs.Call.{assemble_call, labels_call}
use Rattle.trace.specs.Trace.{why_trace, why_check, check_of, why_make, make_of}
use Rattle.trace_c.specs.Calls.{check_call}
use Rattle.demands.specs.Terms.{OrPlace, words_why, OwnWhy, tells_column}

-- ---- the theorem. `why` is the number of the first refusal that applies, 0 where there is none; `promised` is what the contract says

pub data IsAnswer {A : Type 0} : Page A → Type 0 where
  is_answer : (a : A) → IsAnswer (answered a)

-- refused: that number alone, and everything as lent; not refused: an answer
pub record Kept {A B : Type 0} (why : ℕ) (lent : B) (x : Left A B) : Type 0 where
  pub refused_alone : (why ≡ 0 → ⊥) → x ≡ left (refused why) lent
  pub not_refused : why ≡ 0 → IsAnswer x.page

abbrev pub Keeps : {A B : Type 0} → ℕ → B → Left A B → Type 0
Keeps {A} {B} why lent promised = (x : Left A B) → x ≡ promised → Kept why lent x

abbrev pub CallKeeps : Type 1
CallKeeps = (A B : Type 0) (why : ℕ) (right : Left A B) (lent : B) → IsAnswer right.page → Keeps why lent (call why right lent)

-- for C: the number is `why`, and where it is not 0, everything is as lent
pub record KeptC {B : Type 0} (why : ℕ) (lent : B) (x : Told B) : Type 0 where
  pub number_is : x.number ≡ why
  pub unchanged : (x.number ≡ 0 → ⊥) → x.lent ≡ lent

abbrev pub KeepsC : {B : Type 0} → ℕ → B → Told B → Type 0
KeepsC {B} why lent promised = (x : Told B) → x ≡ promised → KeptC why lent x

abbrev pub ReadingKeeps : Type 1
ReadingKeeps = (A B C : Type 0) (bytes : A → B → C) (beside : ℕ → B → C) (kept : B → C) (why : ℕ) (right : Left A B) (lent : B) → IsAnswer right.page
    → KeepsC why (kept lent) (reading_at bytes beside kept (call why right lent))

-- ---- the same of calls with a number that tells a place beside, a line or a column: `tells` says whether a number does, `IsPlace` what its place is

pub record KeptAt {A B : Type 0} (why : ℕ) (tells : ℕ → Bool) (IsPlace : ℕ → ℕ → Type 0) (lent : B) (x : Left A B) : Type 0 where
  pub refused_only : (why ≡ 0 → ⊥) → OrPlace (tells why) (IsPlace why) (left (refused why) lent) (λ place. left (refused_at why place) lent) x
  pub not_refused : why ≡ 0 → IsAnswer x.page

abbrev KeepsAt : {A B : Type 0} → ℕ → (ℕ → Bool) → (ℕ → ℕ → Type 0) → B → Left A B → Type 0
KeepsAt {A} {B} why tells IsPlace lent promised = (x : Left A B) → x ≡ promised → KeptAt why tells IsPlace lent x

-- for C the place is in what is left of a refusal
pub record KeptCAt {B : Type 0} (why : ℕ) (tells : ℕ → Bool) (IsPlace : ℕ → ℕ → Type 0) (lent : B) (beside : ℕ → B) (x : Told B) : Type 0 where
  pub number_is : x.number ≡ why
  pub unchanged : (x.number ≡ 0 → ⊥) → OrPlace (tells why) (IsPlace why) lent beside x.lent

abbrev pub KeepsCAt : {B : Type 0} → ℕ → (ℕ → Bool) → (ℕ → ℕ → Type 0) → B → (ℕ → B) → Told B → Type 0
KeepsCAt {B} why tells IsPlace lent beside promised = (x : Told B) → x ≡ promised → KeptCAt why tells IsPlace lent beside x

-- a first refusal that tells no place, before a call that keeps; and what is read in bytes of a call that keeps
abbrev pub CallKeepsAt : Type 1
CallKeepsAt = (A B : Type 0) (why later : ℕ) (tells : ℕ → Bool) (IsPlace : ℕ → ℕ → Type 0) (right : Left A B) (lent : B) → tells why ≡ false
    → KeptAt later tells IsPlace lent right → KeptAt (first why later) tells IsPlace lent (call why right lent)

abbrev pub ReadingKeepsAt : Type 1
ReadingKeepsAt = (A B C : Type 0) (bytes : A → B → C) (beside : ℕ → B → C) (kept : B → C) (why : ℕ) (tells : ℕ → Bool) (IsPlace : ℕ → ℕ → Type 0) (lent : B) (l : Left A B)
    → KeptAt why tells IsPlace lent l → KeepsCAt why tells IsPlace (kept lent) (λ place. beside place lent) (reading_at bytes beside kept l)

-- ---- the calls, with their refusals in their order

-- POWER-UP: 1, 2, 3, 35
abbrev pub PowerUpAnswers : Type 0
PowerUpAnswers = (settings : Settings) (m map : List ℕ) → Keeps (power_why settings m map) m (power_up_page settings m map)

-- A STEP: 1, 2, 3, 35, 5
abbrev pub StepAnswers : Type 0
StepAnswers = (settings : Settings) (m map : List ℕ) (line : ℕ) (s : State) → Keeps (step_why settings m map line) m (step_page settings m map line s)

-- A RUN: 1, 2, 3, 35, 4, 5
abbrev pub RunAnswers : Type 0
RunAnswers = (settings : Settings) (m map lines : List ℕ) (s : State) → Keeps (run_why settings m map lines) m (run_page settings m map lines s)

-- A RUN OVER ONE LINE WORD: 1, 2, 3, 35, 5
abbrev pub RunSameAnswers : Type 0
RunSameAnswers = (settings : Settings) (m map : List ℕ) (line n : ℕ) (s : State) → Keeps (step_why settings m map line) m (run_same_page settings m map line n s)

-- A RUN UNTIL SOMETHING HAPPENS: 1, 2, 3, 35, 4, 5
abbrev pub RunUntilAnswers : Type 0
RunUntilAnswers = (settings : Settings) (m map lines : List ℕ) (u : Until) (s : State) → Keeps (run_why settings m map lines) m (run_until_page settings m map lines u s)

-- THE JOB READER: 1, 2, 4, then 11 to 20 and 22 in reading order; and a job's run
abbrev pub JobAnswers : Type 0
JobAnswers = (input image map lines : List ℕ) → Keeps (why_read (length image) (length map) (length lines) input) (image, map, lines) (job_of input image map lines)

abbrev pub JobRunAnswers : Type 0
JobRunAnswers = (input image map lines : List ℕ) → Keeps (why_read (length image) (length map) (length lines) input) (image, map, lines) (job_run input image map lines)

-- BENCH, from the job's bytes to the line: 8, then the job's own
abbrev pub BenchAnswers : Type 0
BenchAnswers = (input text image map lines : List ℕ) → Keeps (bench_why input text image map lines) (text, image, map, lines) (bench_of input text image map lines)

-- A LINE of bench's, a run's end or REFUSED: 8
abbrev pub LineAnswers : Type 0
LineAnswers = (line text : List ℕ) → Keeps (print_why (length line) (length text)) text (print_of line text)

-- A LINE OF A LISTING: 1, 2, 3, 23, 8
abbrev pub ListLineAnswers : Type 0
ListLineAnswers = (image map : List ℕ) (a last : ℕ) (text : List ℕ) → Keeps (line_why (length image) map a last (length text)) text (line_call image map a last text)

-- A LISTING, from the bytes of two addresses and a job to its lines: 8, 11, the job's own, 23
abbrev pub ListAnswers : Type 0
ListAnswers = (input text image map lines : List ℕ) → Keeps (list_why input (length text) (length image) (length map) (length lines)) (text, image, map, lines) (list_of input text image map lines)

-- A STEP WITH ITS LINE: 1, 2, 3, 35, 5, 8
abbrev pub WriteStepAnswers : Type 0
WriteStepAnswers = (settings : Settings) (image map : List ℕ) (line number : ℕ) (s : State) (text : List ℕ)
    → Keeps (show_why settings (length image) map line (length text)) (image, text) (show_of settings image map line number s text)

-- A TRACE CHECKED: the job's own, 29
abbrev pub CheckAnswers : Type 0
CheckAnswers = (input t image map lines : List ℕ) → Keeps (why_check input t (length image) (length map) (length lines)) (image, map, lines) (check_of input t image map lines)

-- A TRACE MADE: the job's own, 10
abbrev pub MakeAnswers : Type 0
MakeAnswers = (input out image map lines : List ℕ) → Keeps (why_make input (length out) (length image) (length map) (length lines)) (out, image, map, lines) (make_of input out image map lines)

-- THE TEXT OF AN OP CODE, written: 8, 6, 7
abbrev pub WriteAnswers : Type 0
WriteAnswers = (words text : List ℕ) → Keeps (write_why words (length text)) text (write_of words text)

-- .WORD of any word: 8
abbrev pub WriteWordAnswers : Type 0
WriteWordAnswers = (x : ℕ) (text : List ℕ) → Keeps (room_why (length text)) text (write_word_of x text)

-- and read: 10, then 32, 31, 9 or 30 with its column
abbrev pub ReadAnswers : Type 0
ReadAnswers = (text words : List ℕ) (x : Left ℕ (List ℕ)) → Reads x.page text words x.lent → OwnWhy (words_why words) text (λ why. KeptAt why tells_column (λ n. Column text) words x)

-- THE ASSEMBLER: 10, 36, then 24, 25, 26, 28, 27 with the lowest line that has it
abbrev pub AssembleAnswers : Type 0
AssembleAnswers = (s out : List ℕ) → KeepsAt (assemble_why s out) tells_line (FaultLine s) out (asm_of s out)

-- THE LABELS OF A SOURCE: 10, 36, then 24, 25 with the lowest line that has it
abbrev pub LabelsAnswers : Type 0
LabelsAnswers = (s out : List ℕ) → KeepsAt (labels_why s out) tells_line (FaultLine s) out (labels_page s out)

-- THE SAME FOR C, whose answer is the number, with 21 before the others. w are the settings' bytes

-- power-up: 21, 1, 2, 3, 35
abbrev pub Wd16PowerUpAnswers : Type 0
Wd16PowerUpAnswers = (b m map w : List ℕ) → KeepsC (first (cond (refused_up b w) no_state 0) (power_why (settings_from w) m map)) (b, m) (power_up_call b m map w)

-- a step: 21, 1, 2, 3, 35, 5
abbrev pub Wd16StepAnswers : Type 0
Wd16StepAnswers = (b m map w : List ℕ) (line : ℕ) → KeepsC (first (cond (refused_step b w) no_state 0) (step_why (settings_from w) m map line)) (b, m) (step_call b m map w line)

-- a run: 21, 1, 2, 3, 35, 4, 5
abbrev pub Wd16RunAnswers : Type 0
Wd16RunAnswers = (b t m map w lines : List ℕ) → KeepsC (first (cond (refused_run b t w) no_state 0) (run_why (settings_from w) m map lines)) (b, t, m) (run_call b t m map w lines)

-- over one line word: 21, 1, 2, 3, 35, 5
abbrev pub Wd16RunSameAnswers : Type 0
Wd16RunSameAnswers = (b t m map w : List ℕ) (line n : ℕ) → KeepsC (first (cond (refused_run b t w) no_state 0) (step_why (settings_from w) m map line)) (b, t, m) (run_same_call b t m map w line n)

-- until something happens: 21, 1, 2, 3, 35, 4, 5
abbrev pub Wd16RunUntilAnswers : Type 0
Wd16RunUntilAnswers = (b t m map w lines : List ℕ) (asked : ℕ) → KeepsC (first (cond (refused_until b t w asked) no_state 0) (run_why (settings_from w) m map lines)) (b, t, m) (run_until_call b t m map w lines asked)

-- the job reader: 21, 1, 2, 4, then 11 to 20 and 22 in reading order. a is the answer's buffer, here and below
abbrev pub Wd16ReadJobAnswers : Type 0
Wd16ReadJobAnswers = (input image map lines a : List ℕ) → KeepsC (first (answer_why a) (why_read (length image) (length map) (length lines) input)) (image, map, lines, a) (read_call input image map lines a)

-- a line of a listing: 21, 1, 2, 3, 23, 8
abbrev pub Wd16ListLineAnswers : Type 0
Wd16ListLineAnswers = (image map : List ℕ) (x last : ℕ) (text a : List ℕ) → KeepsC (first (answer_why a) (line_why (length image) map x last (length text))) (text, a) (list_call image map x last text a)

-- a trace checked: 21, the job's own but for 1, 2 and 4, as its buffers are the call's own; 29
abbrev pub Wd16CheckTraceAnswers : Type 0
Wd16CheckTraceAnswers = (job t a : List ℕ) → KeepsC (first (answer_why a) (first (why_job job) (why_trace t))) a (check_call job t a)

-- the text written: 21, 38, 8, 6, 7
abbrev pub Wd16WriteTextAnswers : Type 0
Wd16WriteTextAnswers = (b t a : List ℕ) → KeepsC (first (lent_why a b) (write_why (words_in b) (length t))) (t, a) (write_call b t a)

-- and read: 21, 38, 10, then 32, 31, 9 or 30, which tell their column in the answer
abbrev pub Wd16ReadTextAnswers : Type 0
Wd16ReadTextAnswers = (t b a : List ℕ) (x : Told (List ℕ × List ℕ)) → ReadCall t b a x
    → OwnWhy (first (lent_why a b) (words_why (words_in b))) t (λ why. KeptCAt why tells_column (λ n. Column t) (b, a) (λ column. (b, place_words column)) x)

-- the assembler: 21, 10, 36, then 24, 25, 26, 28, 27, which tell their line in the answer
abbrev pub Wd16AssembleAnswers : Type 0
Wd16AssembleAnswers = (s out a : List ℕ) → KeepsCAt (first (answer_why a) (assemble_why s out)) tells_line (FaultLine s) (out, a) (λ line. (out, place_words line)) (assemble_call s out a)

-- the labels: 21, 10, 36, then 24, 25, which tell their line in the answer
abbrev pub Wd16LabelsAnswers : Type 0
Wd16LabelsAnswers = (s out a : List ℕ) → KeepsCAt (first (answer_why a) (labels_why s out)) tells_line (FaultLine s) (out, a) (λ line. (out, place_words line)) (labels_call s out a)
