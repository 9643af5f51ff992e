-- WISH 13. WHAT A SCAN DOES TO THE IMAGE: "Page FE is fitted (as map value 1, whatever the lent map says), and two's complement readings stand at FE00 + 2
-- times the channel before the run, only if all 16 are present; otherwise the page is unfitted and stays as lent." "A scan changes the image only in page FE
-- and where the run's steps write." Whatever a call of `scan` answers and leaves, as its contract promises; the same for C.
use Rattle.std.specs.Prelude.{ℕ, ◌+◌, ◌*◌, ◌/◌, ◌<◌, true, false, List, ◌≡◌, length, get_or, Some, None}
use Rattle.board.specs.Work.{image_word}
use Rattle.wordbytes.specs.Words.{byte_at}
use Rattle.state.specs.declared.Settings.{Settings}
use Rattle.refusal.specs.Page.{answered, left, told}
use Rattle.plugs.specs.Plugs.{Channel, present}
use Rattle.refusal.specs.Refusal.{all_of}
use Rattle.recorder.specs.declared.Recorder.{Recorder}
use Rattle.recorder.specs.declared.Scanned.{Scanned}
use Rattle.recorder.specs.Scan.{TallyPage, answer_page, scan_map, scan_image, scan_of}
use Rattle.recorder.specs.Writes.{run_writes}
use Rattle.machine_c.specs.Layout.{state_from, settings_from}
use Rattle.recorder_c.specs.Layout.{channels_from}
use Rattle.recorder_c.specs.Calls.{scan_call}

-- ---- the map and the image that the run begins on (demands Scans `ScanIs`), by the channels cs, the lent image m and the lent map

pub record Carded (cs : List Channel) (m map : List ℕ) : Type 0 where
  -- all 16 are present: w is the reading of the channel k, a two's complement word
  pub fitted : all_of present cs ≡ true → byte_at (scan_map cs map) 0xFE ≡ 1
  pub readings : all_of present cs ≡ true → (k w : ℕ) → k < 16 → get_or cs k None ≡ Some w → image_word (scan_image cs m) (0xFE00 + 2 * k) ≡ w
  -- otherwise
  pub unfitted : all_of present cs ≡ false → byte_at (scan_map cs map) 0xFE ≡ 0
  pub as_lent : all_of present cs ≡ false → scan_image cs m ≡ m
  -- every other page
  pub other_pages : (p : ℕ) → (p ≡ 0xFE → ⊥) → byte_at (scan_map cs map) p ≡ byte_at map p

-- of a scan that is not refused
abbrev pub ScanCarded : Type 0
ScanCarded = (r : Recorder) (cs : List Channel) (m map : List ℕ) (settings : Settings) (lines : List ℕ) (x : Scanned) (m' : List ℕ) (p : TallyPage) → length cs ≡ 16
    → left (answer_page x.answer) (x.recorder, m') ≡ scan_of r cs m map settings lines → answer_page x.answer ≡ answered p → Carded cs m map

abbrev pub Wd16ScanCarded : Type 0
Wd16ScanCarded = (b t m map w lines cards readings d b' t' m' d' : List ℕ) → told 0 (b', t', m', d') ≡ scan_call b t m map w lines cards readings d
    → Carded (channels_from cards readings) m map

-- so where every card is there, a byte 1 for each channel, the lent readings stand there, channel by channel
abbrev pub Wd16ReadingsStand : Type 0
Wd16ReadingsStand = (b t m map w lines cards readings d b' t' m' d' : List ℕ) → told 0 (b', t', m', d') ≡ scan_call b t m map w lines cards readings d
    → ((k : ℕ) → k < 16 → byte_at cards k ≡ 1) → (k : ℕ) → k < 16 → image_word (scan_image (channels_from cards readings) m) (0xFE00 + 2 * k) ≡ get_or readings k 0

-- ---- what it changes: a byte outside page FE, at which no step of the run writes, is as lent; also where the scan is refused

abbrev pub ScanChanges : Type 0
ScanChanges = (r : Recorder) (cs : List Channel) (m map : List ℕ) (settings : Settings) (lines : List ℕ) (x : Scanned) (m' : List ℕ) (a : ℕ) → length cs ≡ 16
    → left (answer_page x.answer) (x.recorder, m') ≡ scan_of r cs m map settings lines → (a / 256 ≡ 0xFE → ⊥)
    → run_writes settings (scan_map cs map) lines r.state (scan_image cs m) a ≡ false → byte_at m' a ≡ byte_at m a

abbrev pub Wd16ScanChanges : Type 0
Wd16ScanChanges = (b t m map w lines cards readings d : List ℕ) (number : ℕ) (b' t' m' d' : List ℕ) (a : ℕ)
    → told number (b', t', m', d') ≡ scan_call b t m map w lines cards readings d → (a / 256 ≡ 0xFE → ⊥)
    → (let cs = channels_from cards readings in
    run_writes (settings_from w) (scan_map cs map) lines (state_from b) (scan_image cs m) a ≡ false → byte_at m' a ≡ byte_at m a)
