-- THE DEMANDS FOR THE PLUG RECORDER, in this code and for C: whatever its calls answer and leave, as their contracts promise.
use Rattle.std.specs.Prelude.{ℕ, cond, List, ◌≡◌, length}
use Rattle.board.specs.Work.{Agree, Blind}
use Rattle.state.specs.declared.Settings.{Settings}
use Rattle.step.specs.declared.Cause.TheVariants as Cause
use Rattle.step.specs.Step.{after}
use Rattle.wordbytes.specs.Words.{byte_at}
use Rattle.refusal.specs.Numbers.{no_state}
use Rattle.refusal.specs.Page.{answered, left, nothing, first, told}
use Rattle.machine.specs.Numbers.{state_page, nowhere, first_page}
use Rattle.machine.specs.Trail.{trail_of, last_after, blanks_in, first_blank_in}
use Rattle.machine_c.specs.Layout.{state_bytes, tally_bytes, state_from, settings_from}
use Rattle.plugs.specs.Plugs.{Channel}
use Rattle.recorder.specs.declared.Recorder.{Recorder}
use Rattle.recorder.specs.declared.Scanned.{Scanned}
use Rattle.recorder.specs.Scan.{TallyPage, answer_page, scan_why, scan_map, scan_image, scan_of, report_why, report_page}
use Rattle.recorder_c.specs.Layout.{channels_from, recorder_from, refused_scan, refused_report}
use Rattle.recorder_c.specs.Calls.{scan_call, report_call}
use Rattle.demands.specs.Terms.{Counted, TallyBytes}
use Rattle.demands.specs.Demand1.{Keeps, KeepsC}

-- ---- demand 1

-- A SCAN: 1, 2, 3, 35, 4, 5, 33, 37; a refused one leaves the recorder as it was and the image as lent
abbrev pub ScanAnswers : Type 0
ScanAnswers = (r : Recorder) (cs : List Channel) (m map : List ℕ) (settings : Settings) (lines : List ℕ) → Keeps (scan_why r cs m map settings lines) (r, m) (scan_of r cs m map settings lines)

-- A REPORT: 34; nothing is lent for writing
abbrev pub ReportAnswers : Type 0
ReportAnswers = (r : Recorder) (k : ℕ) → Keeps (report_why k) nothing (report_page r k)

-- a scan for C: 21, 1, 2, 3, 35, 4, 5, 33, 37
abbrev pub Wd16ScanAnswers : Type 0
Wd16ScanAnswers = (b t m map w lines cards readings d : List ℕ)
    → KeepsC (first (cond (refused_scan b t w cards readings d) no_state 0) (scan_why (recorder_from (state_from b) d) (channels_from cards readings) m map (settings_from w) lines)) (b, t, m, d) (scan_call b t m map w lines cards readings d)

-- a report for C: 21, 34
abbrev pub Wd16ReportAnswers : Type 0
Wd16ReportAnswers = (d channel b : List ℕ) → KeepsC (first (cond (refused_report d channel b) no_state 0) (report_why (byte_at channel 0))) b (report_call d channel b)

-- ---- demand 3: page FE is fitted by the cards, and both scans share the sixteen channels

abbrev pub ScanBlind : Type 0
ScanBlind = (r : Recorder) (cs : List Channel) (map : List ℕ) (settings : Settings) (lines m n m' n' : List ℕ) (p q : Scanned) → length cs ≡ 16
    → left (answer_page p.answer) (p.recorder, m') ≡ scan_of r cs m map settings lines → left (answer_page q.answer) (q.recorder, n') ≡ scan_of r cs n map settings lines
    → length m ≡ length n → Agree (scan_map cs map) m n → Blind (scan_map cs map) m n p q m' n'

-- for C
module _ (w cards readings map lines m n : List ℕ) (l : length m ≡ length n) (g : Agree (scan_map (channels_from cards readings) map) m n) where
  abbrev pub Wd16ScanBlind : Type 0
  Wd16ScanBlind = (b t d : List ℕ) (k j : ℕ) (b₁ b₂ t₁ t₂ d₁ d₂ m' n' : List ℕ) → told k (b₁, t₁, m', d₁) ≡ scan_call b t m map w lines cards readings d → told j (b₂, t₂, n', d₂) ≡ scan_call b t n map w lines cards readings d
      → Blind {A = ℕ × List ℕ × List ℕ × List ℕ} (scan_map (channels_from cards readings) map) m n (k, b₁, t₁, d₁) (j, b₂, t₂, d₂) m' n'

-- the count of a scan's blanks, and the first of them, over the cards' map and image
abbrev pub ScanCounted : Type 0
ScanCounted = (r : Recorder) (cs : List Channel) (m map : List ℕ) (settings : Settings) (lines : List ℕ) (x : Scanned) (m' : List ℕ) (p : TallyPage)
    → left (answer_page x.answer) (x.recorder, m') ≡ scan_of r cs m map settings lines → answer_page x.answer ≡ answered p
    → Counted settings (scan_map cs map) lines r.state (scan_image cs m) p.blanks p.first

abbrev pub Wd16ScanCounted : Type 0
Wd16ScanCounted = (b t m map w lines cards readings d b' t' m' d' : List ℕ) → told 0 (b', t', m', d') ≡ scan_call b t m map w lines cards readings d
    → (let cs = channels_from cards readings in
    TallyBytes t' (λ blanks place. Counted (settings_from w) (scan_map cs map) lines (state_from b) (scan_image cs m) blanks place))

-- ---- demand 2: "the processor's state goes on from scan to scan"

-- A SCAN is the manual's run from the recorder's state over the cards' map and image: the recorder's state after it, the blanks and the image are those
-- where the run's trail ends (Demand2 `TrailIs`); the next scan is lent that recorder
abbrev pub ScanIs : Type 0
ScanIs = (r : Recorder) (cs : List Channel) (m map : List ℕ) (settings : Settings) (lines : List ℕ) (x : Scanned) (m' : List ℕ) (p : TallyPage)
    → left (answer_page x.answer) (x.recorder, m') ≡ scan_of r cs m map settings lines → answer_page x.answer ≡ answered p
    → (let rs = trail_of settings (scan_map cs map) lines r.state (scan_image cs m) in
    let y = last_after (after r.state (scan_image cs m) Cause.Nothing) rs in
    (x.recorder.state ≡ y.state) × (p.blanks ≡ blanks_in rs) × (p.first ≡ first_page (first_blank_in rs)) × (m' ≡ y.image))

-- for C: the state's bytes go on
abbrev pub Wd16ScanIs : Type 0
Wd16ScanIs = (b t m map w lines cards readings d b' t' m' d' : List ℕ) → told 0 (b', t', m', d') ≡ scan_call b t m map w lines cards readings d
    → (let cs = channels_from cards readings in
    let rs = trail_of (settings_from w) (scan_map cs map) lines (state_from b) (scan_image cs m) in
    let y = last_after (after (state_from b) (scan_image cs m) Cause.Nothing) rs in
    (b' ≡ state_bytes (state_page y.state) 0 nowhere) × (t' ≡ tally_bytes (blanks_in rs) (first_page (first_blank_in rs))) × (m' ≡ y.image))
