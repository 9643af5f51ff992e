-- WISH 13. THE PLUG RECORDER ITSELF: "Over up to 4,096 such scans report for each channel: readings, blanks, lowest, highest, and the
-- average as sum and number, never rounded. A channel without its card in a scan adds to its blanks and to nothing else; a present one
-- counts, missing neighbours or not. A channel with no reading has no lowest, highest or average."
-- Over any calls of `scan`, from a fresh recorder on, each lent what the last left of it: whatever states, images, maps, settings and
-- lines the calls are lent, and whatever refused calls stand among them. The same for C, where 194 zero bytes are a fresh recorder.
use Rattle.std.specs.Prelude.{ℕ, ◌<◌, ◌≤◌, List, [], ◌∷◌, ◌++◌, ◌≡◌, length, replicate, Some, None, Ok, Err}
use Rattle.state.specs.declared.State.{State}
use Rattle.state.specs.declared.Settings.{Settings}
use Rattle.wordbytes.specs.Words.{word_at}
use Rattle.refusal.specs.declared.Refusal.{Refusal}
use Rattle.refusal.specs.Page.{left, nothing, told}
use Rattle.machine.specs.declared.Tally.{Tally}
use Rattle.plugs.specs.Plugs.{Channel}
use Rattle.plugs.specs.declared.Readings.{Readings}
use Rattle.plugs.specs.declared.Plug.{Plug}
use Rattle.plugs.specs.Report.{readings_of, blanks_of, report_of, column_of, reading_count, Spans}
use Rattle.plugs.specs.Sum.{SumIs}
use Rattle.recorder.specs.declared.Recorder.{Recorder}
use Rattle.recorder.specs.Scan.{Reported, new_recorder, answer_page, plug_page, reported_page, scan_of, report_page, most_scans}
use Rattle.recorder_c.specs.Layout.{channels_from, report_bytes}
use Rattle.recorder_c.specs.Calls.{scan_call, report_call}

-- ---- calls of `scan`, one after another

-- the recorder with another state of the processor
abbrev pub in_state : State → Recorder → Recorder
in_state s r = record { state = s; scans = r.scans; plugs = r.plugs }

-- The recorder r has come from a fresh one by calls of `scan`; `scans` are the channels of those that were not refused, in order.
pub data Recorded : Recorder → List (List Channel) → Type 0 where
  -- as `begin` gives it
  fresh : (s : State) → Recorded (new_recorder s) []
  -- a scan that was done: the recorder that it answers
  done : {r : Recorder} {scans : List (List Channel)} → Recorded r scans
      → (s : State) (channels : List Channel) (m map : List ℕ) (settings : Settings) (lines : List ℕ) (t : Tally) (r' : Recorder) (m' : List ℕ) → length channels ≡ 16
      → left (answer_page (Ok t)) (r', m') ≡ scan_of (in_state s r) channels m map settings lines
      → Recorded r' (scans ++ (channels ∷ []))
  -- one that was refused
  turned_away : {r : Recorder} {scans : List (List Channel)} → Recorded r scans
      → (s : State) (channels : List Channel) (m map : List ℕ) (settings : Settings) (lines : List ℕ) (why : Refusal) (r' : Recorder) (m' : List ℕ)
      → left (answer_page (Err why)) (r', m') ≡ scan_of (in_state s r) channels m map settings lines
      → Recorded r' scans

-- ---- the report of a channel, by what it was in each scan

pub record ReadsColumn (p : Plug) (column : List Channel) : Type 0 where
  -- "A channel without its card in a scan adds to its blanks and to nothing else"
  pub blanks : p.blanks ≡ blanks_of column
  pub readings : reading_count p.seen ≡ length (readings_of column)
  -- "A channel with no reading has no lowest, highest or average"
  pub nothing : readings_of column ≡ [] → p.seen ≡ None
  -- "lowest, highest, and the average as sum and number, never rounded"
  pub spans : (r : Readings) → p.seen ≡ Some r → Spans r (readings_of column) × SumIs r.sum (readings_of column)

-- a call of `report` that answered q
pub record Reports (q : Reported) (column : List Channel) : Type 0 where
  pub plug : Plug
  pub answer : q ≡ Ok plug
  pub is : plug ≡ report_of column
  pub reads : ReadsColumn plug column

abbrev pub ScansReported : Type 0
ScansReported = (r : Recorder) (scans : List (List Channel)) (k : ℕ) (q : Reported) → Recorded r scans → k < 16
    → left (reported_page q) nothing ≡ report_page r k → Reports q (column_of k scans)

-- "Over up to 4,096 such scans": the scans counted are those that were not refused, and there are no more
abbrev pub ScansCounted : Type 0
ScansCounted = (r : Recorder) (scans : List (List Channel)) → Recorded r scans → (r.scans ≡ length scans) × (length scans ≤ most_scans)

-- ---- the same for C

-- The recorder's bytes d have come from 194 zeros by calls of `wd16_scan`; the state, the tally, the image and whatever else is lent in
-- each are any bytes.
pub data LentRecorder : List ℕ → List (List Channel) → Type 0 where
  zeros : LentRecorder (replicate 194 0) []
  done : {d : List ℕ} {scans : List (List Channel)} → LentRecorder d scans
      → (b t m map w lines cards readings b' t' m' d' : List ℕ)
      → told 0 (b', t', m', d') ≡ scan_call b t m map w lines cards readings d
      → LentRecorder d' (scans ++ (channels_from cards readings ∷ []))
  turned_away : {d : List ℕ} {scans : List (List Channel)} → LentRecorder d scans
      → (b t m map w lines cards readings : List ℕ) (why : ℕ) (b' t' m' d' : List ℕ) → (why ≡ 0 → ⊥)
      → told why (b', t', m', d') ≡ scan_call b t m map w lines cards readings d
      → LentRecorder d' scans

-- a call of `wd16_report` for the channel k, lent 12 bytes, is not refused and leaves the bytes of the report over that channel's column
abbrev pub Wd16ScansReported : Type 0
Wd16ScansReported = (d : List ℕ) (scans : List (List Channel)) (k : ℕ) (b : List ℕ) (number : ℕ) (b' : List ℕ) → LentRecorder d scans → k < 16 → length b ≡ 12
    → told number b' ≡ report_call d (k ∷ []) b
    → (number ≡ 0) × (b' ≡ report_bytes (plug_page (report_of (column_of k scans)))) × ReadsColumn (report_of (column_of k scans)) (column_of k scans)

-- "Over up to 4,096 such scans": the first word of the recorder's 194 bytes counts the scans that were not refused, and there are no more
abbrev pub Wd16ScansCounted : Type 0
Wd16ScansCounted = (d : List ℕ) (scans : List (List Channel)) → LentRecorder d scans → (length d ≡ 194) × (word_at d 0 ≡ length scans) × (length scans ≤ 4096)
