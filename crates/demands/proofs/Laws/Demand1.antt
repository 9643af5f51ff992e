-- The theorems that specs/Demand1.antt states.
use Prim.Native.Nat.{ℕ, zero, suc}
use mathlib.Core.Bool.{Bool, true, false, cond}
use mathlib.Core.List.{List}
use mathlib.Core.Path.{◌≡◌, refl, sym, ap, ◌∙◌}
use native.Mathlib.Omega.{arith}
use lib.Dec.{eqb}
use lib.ListN.{length, take, get_or, replicate}
use Rattle.state.specs.declared.State.{State}
use Rattle.state.specs.declared.Settings.{Settings}
use Rattle.state.specs.State.{heard}
use Rattle.step.specs.declared.Cause.{Cause}
use Rattle.step.specs.Step.{step_of, power_up_of}
use Rattle.refusal.specs.Numbers.{no_state}
use Rattle.wordbytes.specs.Words.{word_at, bytes_in}
use Rattle.refusal.specs.Page.{Page, refused, refused_at, answered, Left, left, call, nothing, first, tells, reading_at, reading}
use Rattle.refusal.proofs.Laws.Page.{call-first}
use Rattle.machine.specs.declared.Until.{Until}
use Rattle.machine.specs.Run.{End, end, run_of, last_cause}
use Rattle.machine.specs.Same.{run_same_page}
use Rattle.machine.specs.Until.{steps_to, stopped, until_of, run_until_page}
use Rattle.machine.specs.Entry.{power_why, step_why, run_why, powered, power_up_page, turned, step_page, run_end, run_page}
use Rattle.machine_c.specs.Layout.{state_from, settings_from, refused_up, refused_step, refused_run}
use Rattle.machine_c.specs.Calls.{up_in, step_in, run_laid, power_up_call, step_call, run_call}
use Rattle.machine_c.specs.Runs.{until_from, refused_until, stop_in, run_same_call, run_until_call}
use Rattle.answer.specs.Answer.{three_words, answer_why, place_words, answering}
use Rattle.job.specs.Job.{lines_at, buffers_of, why_job, why_read, job_of}
use Rattle.job_c.specs.Calls.{job_laid, read_call}
use Rattle.hexdigits.specs.Over.{in_front_of}
use Rattle.optext.specs.Line.{word_text, taken, text_of}
use Rattle.optext.specs.Answer.{room_why, write_why, in_front, write_of, write_word_of}
use Rattle.optext.specs.Column.{Column}
use Rattle.optext.specs.Words.{Reads}
use Rattle.benchline.specs.Line.{print_why, print_of}
use Rattle.runjob.specs.Bench.{ran_at, job_run, end_line, bench_why, bench_of}
use Rattle.runjob.specs.Bench as Bench
use Rattle.listing.specs.Calls.{line_why, line_in, line_call}
use Rattle.listjob.specs.Stretch.{list_why, listed_in, list_of}
use Rattle.listing_c.specs.Calls.{list_call}
use Rattle.stepline.specs.Shown.{step_text, show_why, shown_as, show_of}
use Rattle.optext_c.specs.Calls.{words_in, write_call, lent_why, text_words}
use Rattle.listing_c.specs.Calls as Listed
use Rattle.optext_c.specs.Calls as Textc
use Rattle.assembler.specs.Answer.{asm_of}
use Rattle.assembler.specs.Labels.{labels_page}
use Rattle.assembler.specs.Ends.{assemble_why, labels_why, tells_line, FaultLine}
use Rattle.assembler.proofs.Laws.Ends.{AssemblyEnds, assemble-ends, labels-ends}
use Rattle.assembler_c.specs.Call.{size_words, assemble_call, labels_call}
use Rattle.trace.specs.Trace.{why_trace, verdict_of, verdict_page, why_check, buffers_after, check_of, why_make, made_of, make_of}
use Rattle.trace_c.specs.Calls.{verdict_in, check_call}
use Rattle.demands.specs.Terms.{OrPlace, number_alone, place_too, words_why, OwnWhy, tells_column}
use Rattle.demands.proofs.Laws.Texts.{reads_kept, lent-alone}
use Rattle.demands.proofs.Laws.Sources.{ends-kept}
use Rattle.demands.specs.Demand1.{IsAnswer, is_answer, KeepsC, CallKeeps, ReadingKeeps, PowerUpAnswers, StepAnswers, RunAnswers, JobAnswers, JobRunAnswers, BenchAnswers, LineAnswers, ListLineAnswers, ListAnswers, CheckAnswers, MakeAnswers, WriteAnswers, WriteWordAnswers, ReadAnswers, AssembleAnswers, Wd16PowerUpAnswers, Wd16StepAnswers, Wd16RunAnswers, Wd16CheckTraceAnswers, Wd16WriteTextAnswers, Wd16ReadTextAnswers, Wd16AssembleAnswers, KeptAt, KeptCAt, KeepsCAt, CallKeepsAt, ReadingKeepsAt, RunSameAnswers, RunUntilAnswers, LabelsAnswers, Wd16RunSameAnswers, Wd16RunUntilAnswers, Wd16ReadJobAnswers, Wd16ListLineAnswers, Wd16LabelsAnswers, WriteStepAnswers}

-- ---- THE THEOREM

pub call-keeps : CallKeeps
call-keeps A B zero right lent a x e = record { refused_alone = λ n. absurd (n refl); not_refused = λ z. rw e a }
call-keeps A B (suc why) right lent a x e = record { refused_alone = λ n. e; not_refused = λ z. absurd (omega (arith, z)) }

-- for C
number-none : {A B C : Type 0} (bytes : A → B → C) (beside : ℕ → B → C) (kept : B → C) {p : Page A} (b : B) → IsAnswer p → (tells bytes beside kept p b).number ≡ 0
number-none bytes beside kept b (is_answer a) = refl

pub reading-keeps : ReadingKeeps
reading-keeps A B C bytes beside kept zero right lent a x e =
    let none : x.number ≡ 0 = ap (λ z. z.number) e ∙ number-none bytes beside kept right.lent a in
    record { number_is = none; unchanged = λ n. absurd (n none) }
reading-keeps A B C bytes beside kept (suc why) right lent a x e = record { number_is = ap (λ z. z.number) e; unchanged = λ n. ap (λ z. z.lent) e }

-- of two refusals in a row
module _ {A B C : Type 0} (bytes : A → B → C) (beside : ℕ → B → C) (kept : B → C) (bad why : ℕ) (right : Left A B) (lent : B) (a : IsAnswer right.page) where
  pub twice-keeps-beside : KeepsC (first bad why) (kept lent) (reading_at bytes beside kept (call bad (call why right lent) lent))
  twice-keeps-beside x e =
      reading-keeps _ _ _ bytes beside kept (first bad why) right lent a x (e ∙ ap (λ l. reading_at bytes beside kept l) (sym (call-first bad why right lent)))

pub twice-keeps : {A B C : Type 0} (bytes : A → B → C) (kept : B → C) (bad why : ℕ) (right : Left A B) (lent : B) → IsAnswer right.page
    → KeepsC (first bad why) (kept lent) (reading bytes kept (call bad (call why right lent) lent))
twice-keeps bytes kept bad why right lent a = twice-keeps-beside bytes (λ place. kept) kept bad why right lent a

-- with a place
pub call-keeps-at : CallKeepsAt
call-keeps-at A B zero later tells IsPlace right lent t h = h
call-keeps-at A B (suc why) later tells IsPlace right lent t h = record { refused_only = λ n. number_alone t refl; not_refused = λ z. absurd (omega (arith, z)) }

pub reading-keeps-at : ReadingKeepsAt
reading-keeps-at A B C bytes beside kept why tells IsPlace lent l h x e = by why h
  where
    told_of : (number : ℕ) → (number ≡ 0 → ⊥) → OrPlace (tells number) (IsPlace number) (left (refused number) lent) (λ place. left (refused_at number place) lent) l
        → KeptCAt number tells IsPlace (kept lent) (λ place. beside place lent) x
    told_of number some (number_alone t d) = record { number_is = ap (λ z. z.number) (e ∙ ap (λ z. reading_at bytes beside kept z) d); unchanged = λ n. number_alone t (ap (λ z. z.lent) (e ∙ ap (λ z. reading_at bytes beside kept z) d)) }
    told_of number some (place_too t place i d) = record { number_is = ap (λ z. z.number) (e ∙ ap (λ z. reading_at bytes beside kept z) d); unchanged = λ n. place_too t place i (ap (λ z. z.lent) (e ∙ ap (λ z. reading_at bytes beside kept z) d)) }

    by : (number : ℕ) → KeptAt number tells IsPlace lent l → KeptCAt number tells IsPlace (kept lent) (λ place. beside place lent) x
    by zero k =
        let none : x.number ≡ 0 = ap (λ z. z.number) e ∙ number-none bytes beside kept l.lent (k.not_refused refl) in
        record { number_is = none; unchanged = λ n. absurd (n none) }
    by (suc number) k = told_of (suc number) (λ z. omega (arith, z)) (k.refused_only (λ z. omega (arith, z)))

-- ---- the calls

run-is-answer : (x : End) → IsAnswer (run_end x).page
run-is-answer (end s m t) = is_answer _

job-run-is-answer : (input : List ℕ) (x : End) → IsAnswer (ran_at input x).page
job-run-is-answer input (end s m t) = is_answer _

line-is-answer : (input text : List ℕ) (x : End) → IsAnswer (end_line input text x).page
line-is-answer input text (end s m t) = is_answer _

pub power-up-answers : PowerUpAnswers
unfolding power_up_page
power-up-answers settings m map = call-keeps _ _ (power_why settings m map) (powered (power_up_of settings map m)) m (is_answer _)

pub step-answers : StepAnswers
unfolding step_page
step-answers settings m map line s = call-keeps _ _ (step_why settings m map line) (turned (step_of map (heard settings line) s m)) m (is_answer _)

pub run-answers : RunAnswers
unfolding run_page
run-answers settings m map lines s = let x = run_of settings map lines s m in call-keeps _ _ (run_why settings m map lines) (run_end x) m (run-is-answer x)

pub run-same-answers : RunSameAnswers
unfolding run_same_page
run-same-answers settings m map line n s = let x = run_of settings map (replicate n line) s m in call-keeps _ _ (step_why settings m map line) (run_end x) m (run-is-answer x)

until-is-answer : (x : End) (c : Cause) (n : ℕ) → IsAnswer (stopped x c n).page
until-is-answer (end s m t) c n = is_answer _

until-answers : (settings : Settings) (map lines : List ℕ) (u : Until) (s : State) (m : List ℕ) → IsAnswer (until_of settings map lines u s m).page
until-answers settings map lines u s m =
    let k = steps_to settings map u lines s m in
    until-is-answer (run_of settings map (take k lines) s m) (last_cause settings map (take k lines) s m Cause.Nothing) k

pub run-until-answers : RunUntilAnswers
unfolding run_until_page
run-until-answers settings m map lines u s = call-keeps _ _ (run_why settings m map lines) (until_of settings map lines u s m) m (until-answers settings map lines u s m)

pub job-answers : JobAnswers
unfolding job_of
job-answers input image map lines =
    call-keeps _ _ (why_read (length image) (length map) (length lines) input) (left (answered (word_at input (lines_at input))) (buffers_of input)) (image, map, lines) (is_answer _)

pub job-run-answers : JobRunAnswers
unfolding job_run
job-run-answers input image map lines =
    call-keeps _ _ (why_read (length image) (length map) (length lines) input) (ran_at input (Bench.run_in input)) (image, map, lines) (job-run-is-answer input (Bench.run_in input))

pub bench-answers : BenchAnswers
unfolding bench_of
bench-answers input text image map lines =
    call-keeps _ _ (bench_why input text image map lines) (end_line input text (Bench.run_in input)) (text, image, map, lines) (line-is-answer input text (Bench.run_in input))

pub line-answers : LineAnswers
unfolding print_of
line-answers line text = call-keeps _ _ (print_why (length line) (length text)) (left (answered (length line)) (in_front_of line text)) text (is_answer _)

pub list-line-answers : ListLineAnswers
unfolding line_call
list-line-answers image map a last text = call-keeps _ _ (line_why (length image) map a last (length text)) (line_in image map a last text) text (is_answer _)

pub list-answers : ListAnswers
unfolding list_of
list-answers input text image map lines =
    call-keeps _ _ (list_why input (length text) (length image) (length map) (length lines)) (listed_in input text) (text, image, map, lines) (is_answer _)

pub write-step-answers : WriteStepAnswers
unfolding show_of
write-step-answers settings image map line number s text =
    call-keeps _ _ (show_why settings (length image) map line (length text)) (shown_as (step_of map (heard settings line) s image) (step_text settings map line number s image) text) (image, text) (is_answer _)

pub check-answers : CheckAnswers
unfolding check_of
check-answers input t image map lines =
    call-keeps _ _ (why_check input t (length image) (length map) (length lines)) (left (answered (verdict_page (verdict_of input t))) (buffers_after input)) (image, map, lines) (is_answer _)

pub make-answers : MakeAnswers
unfolding make_of
make-answers input out image map lines = call-keeps _ _ (why_make input (length out) (length image) (length map) (length lines)) (made_of input out) (out, image, map, lines) (is_answer _)

pub write-answers : WriteAnswers
unfolding write_of
write-answers words text = call-keeps _ _ (write_why words (length text)) (in_front (text_of words) (taken (get_or words 0 0)) text) text (is_answer _)

pub write-word-answers : WriteWordAnswers
unfolding write_word_of
write-word-answers x text = call-keeps _ _ (room_why (length text)) (in_front (word_text x) 1 text) text (is_answer _)

pub read-answers : ReadAnswers
read-answers text words x w = reads_kept text words x.lent x.page w

pub assemble-answers : AssembleAnswers
assemble-answers s out x e = rw e (ends-kept s out (assemble_why s out) (asm_of s out) (assemble-ends s out))

pub labels-answers : LabelsAnswers
labels-answers s out x e = rw e (ends-kept s out (labels_why s out) (labels_page s out) (labels-ends s out))

-- ---- the same for C

pub wd16-power-up-answers : Wd16PowerUpAnswers
unfolding power_up_call power_up_page
wd16-power-up-answers b m map w =
    twice-keeps up_in (λ k. (b, k)) (cond (refused_up b w) no_state 0) (power_why (settings_from w) m map) (powered (power_up_of (settings_from w) map m)) m (is_answer _)

pub wd16-step-answers : Wd16StepAnswers
unfolding step_call step_page
wd16-step-answers b m map w line =
    twice-keeps step_in (λ k. (b, k)) (cond (refused_step b w) no_state 0) (step_why (settings_from w) m map line) (turned (step_of map (heard (settings_from w) line) (state_from b) m)) m (is_answer _)

pub wd16-run-answers : Wd16RunAnswers
unfolding run_call run_page
wd16-run-answers b t m map w lines =
    let x = run_of (settings_from w) map lines (state_from b) m in
    twice-keeps run_laid (λ k. (b, t, k)) (cond (refused_run b t w) no_state 0) (run_why (settings_from w) m map lines) (run_end x) m (run-is-answer x)

pub wd16-run-same-answers : Wd16RunSameAnswers
unfolding run_same_call run_same_page
wd16-run-same-answers b t m map w line n =
    let x = run_of (settings_from w) map (replicate n line) (state_from b) m in
    twice-keeps run_laid (λ k. (b, t, k)) (cond (refused_run b t w) no_state 0) (step_why (settings_from w) m map line) (run_end x) m (run-is-answer x)

pub wd16-run-until-answers : Wd16RunUntilAnswers
unfolding run_until_call run_until_page
wd16-run-until-answers b t m map w lines asked =
    twice-keeps stop_in (λ k. (b, t, k)) (cond (refused_until b t w asked) no_state 0) (run_why (settings_from w) m map lines) (until_of (settings_from w) map lines (until_from asked) (state_from b) m) m
    (until-answers (settings_from w) map lines (until_from asked) (state_from b) m)

pub wd16-read-job-answers : Wd16ReadJobAnswers
unfolding read_call job_of
wd16-read-job-answers input image map lines a =
    twice-keeps job_laid (λ l. (l.0, l.1, l.2, a)) (answer_why a) (why_read (length image) (length map) (length lines) input) (left (answered (word_at input (lines_at input))) (buffers_of input)) (image, map, lines) (is_answer _)

pub wd16-list-line-answers : Wd16ListLineAnswers
unfolding list_call line_call
wd16-list-line-answers image map x last text a =
    twice-keeps-beside (λ p t. (t, Listed.next_words_of p)) (λ place t. (t, place_words place)) (λ t. (t, a)) (answer_why a) (line_why (length image) map x last (length text)) (line_in image map x last text) text (is_answer _)

pub wd16-check-trace-answers : Wd16CheckTraceAnswers
unfolding check_call
wd16-check-trace-answers job t a =
    twice-keeps verdict_in (λ none. a) (answer_why a) (first (why_job job) (why_trace t)) (left (answered (verdict_page (verdict_of job t))) nothing) nothing (is_answer _)

-- 21 tells no line
answer-alone : (a : List ℕ) → tells_line (answer_why a) ≡ false
unfolding answer_why
answer-alone a = by (eqb (length a) 6)
  where
    by : (six : Bool) → tells_line (cond six 0 no_state) ≡ false
    by true = refl
    by false = refl

-- a call over a source, with its answer
source-kept : (s out a : List ℕ) (why : ℕ) (l : Left ℕ (List ℕ)) → AssemblyEnds s out why l
    → KeepsCAt (first (answer_why a) why) tells_line (FaultLine s) (out, a) (λ line. (out, place_words line)) (answering size_words a (call (answer_why a) l out))
source-kept s out a why l h =
    reading-keeps-at _ _ _ (λ n o. (o, size_words n)) (λ line o. (o, place_words line)) (λ o. (o, a)) (first (answer_why a) why) tells_line (FaultLine s) out (call (answer_why a) l out)
    (call-keeps-at _ _ (answer_why a) why tells_line (FaultLine s) l out (answer-alone a) (ends-kept s out why l h))

pub wd16-assemble-answers : Wd16AssembleAnswers
unfolding assemble_call
wd16-assemble-answers s out a = source-kept s out a (assemble_why s out) (asm_of s out) (assemble-ends s out)

pub wd16-labels-answers : Wd16LabelsAnswers
unfolding labels_call
wd16-labels-answers s out a = source-kept s out a (labels_why s out) (labels_page s out) (labels-ends s out)

pub wd16-write-text-answers : Wd16WriteTextAnswers
unfolding write_call write_of
wd16-write-text-answers b t a =
    let ws = words_in b in
    twice-keeps-beside (λ p o. (o, text_words p)) (λ column o. (o, place_words column)) (λ o. (o, a)) (lent_why a b) (write_why ws (length t)) (in_front (text_of ws) (taken (get_or ws 0 0)) t) t (is_answer _)

pub wd16-read-text-answers : Wd16ReadTextAnswers
wd16-read-text-answers t b a x p = by (lent_why a b) (lent-alone a b) p.reads p.leaves
  where
    by : (bad : ℕ) → tells_column bad ≡ false → (bad ≡ 0 → Reads p.page t (words_in b) p.words) → x ≡ Textc.words_read b a (call bad (left p.page p.words) (words_in b))
        → OwnWhy (first bad (words_why (words_in b))) t (λ why. KeptCAt why tells_column (λ n. Column t) (b, a) (λ column. (b, place_words column)) x)
    by zero alone r e =
        let h = reads_kept t (words_in b) p.words p.page (r refl) in
        record {
          own = h.own;
          of_text = h.of_text;
          holds =
              reading-keeps-at _ _ _ (λ n e. (in_front_of (bytes_in (take n e)) b, three_words n 0 0)) (λ column e. (b, place_words column)) (λ e. (b, a)) (first (words_why (words_in b)) h.own) tells_column (λ n. Column t) (words_in b) (left p.page p.words) h.holds x e;
        }
    by (suc bad) alone r e = record {
      own = 0;
      of_text = λ z. absurd (omega (arith, z));
      holds = record { number_is = ap (λ z. z.number) e; unchanged = λ n. number_alone alone (ap (λ z. z.lent) e) };
    }
