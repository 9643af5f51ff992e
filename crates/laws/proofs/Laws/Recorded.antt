-- The theorems that specs/Recorded.antt states.
use Rattle.std.proofs.Common.{Ok, Err}
use Prim.Native.Nat.{ℕ, zero, suc, ◌+◌, ◌*◌, ◌<◌, ◌≤◌}
use native.Mathlib.Omega.{arith}
use mathlib.Core.Bool.{Bool, true, false, cond}
use mathlib.Core.List.{List, [], ◌∷◌, ◌++◌}
use mathlib.Core.Path.{◌≡◌, refl, sym, ap, ◌∙◌, subst}
use lib.Dec.{ltb}
use lib.ListN.{length, get_or, replicate, length-append}
use borrow.Author.Tests.{ltb-true}
use Rattle.wordbytes.specs.Words.{word_at}
use Rattle.state.specs.declared.State.{State}
use Rattle.state.specs.declared.Settings.{Settings}
use Rattle.refusal.specs.Answer.{number}
use Rattle.refusal.specs.Page.{refused, answered, left, call, nothing, told, reading}
use Rattle.refusal.specs.Page as Page
use Rattle.refusal.proofs.Laws.Page.{apart, answered-one, call-right}
use Rattle.machine.specs.declared.Tally.{Tally}
use Rattle.machine.specs.Run.{End, end}
use Rattle.plugs.specs.declared.Plug.{Plug}
use Rattle.plugs.specs.Plugs.{Channel, in_range, new_plug, new_plugs, note_all}
use Rattle.refusal.specs.Refusal.{all_of}
use Rattle.plugs.specs.Report.{readings_of, seen_of, report_of, column_of, reading_count}
use Rattle.plugs.specs.Sum.{AllIn, nil, cons}
use Rattle.plugs.proofs.Laws.Report.{note_scans, Sixteen, none, more, scans-length, scans-report, column-length, both-counted, report-spans}
use Rattle.plugs.proofs.Laws.Sum.{report-sum}
use Rattle.recorder.specs.declared.Recorder.{Recorder}
use Rattle.recorder.specs.Scan.{Reported, tally_page, plug_page, scan_end, scan_why, scan_run, scan_done, scan_of, reported_page, report_page}
use Rattle.recorder.proofs.Laws.Blind.{plug-one}
use Rattle.recorder.proofs.Laws.Record.{at-range}
use Rattle.recorder.proofs.Laws.Sound.{scan-sound}
use Rattle.recorder_c.specs.Layout.{channels_from, report_bytes, recorder_bytes, recorder_from, plugs_at, plug_from, plugs_from, seen_from, reports_bytes, scans_bytes, refused_scan, refused_report}
use Rattle.recorder_c.specs.Calls.{ScanBuffers, scan_in, scan_call, report_call}
use Rattle.recorder_c.proofs.Laws.Again.{HasReadings, AllTold, report-told, report-length, recorder-again, all_told}
use Rattle.laws.specs.Recorded.{in_state, Recorded, fresh, ReadsColumn, Reports, ScansReported, ScansCounted, LentRecorder, zeros, Wd16ScansReported, Wd16ScansCounted}
use Rattle.recorder_c.proofs.Laws.Sound.{sixteen}
use Rattle.machine_c.specs.Layout.{state_from, settings_from}
use Rattle.refusal.specs.Numbers.{no_state}
use Rattle.laws.specs.Recorded as Spec

-- ---- one scan more, behind the others

note-more : (ss : List (List Channel)) (ps : List Plug) (s : List Channel) → note_scans ps (ss ++ (s ∷ [])) ≡ note_all (note_scans ps ss) s
unfolding note_scans
note-more [] ps s = refl
note-more (x ∷ ss) ps s = note-more ss (note_all ps x) s

sixteen-more : (ss : List (List Channel)) (s : List Channel) → Sixteen ss → length s ≡ 16 → Sixteen (ss ++ (s ∷ []))
sixteen-more [] s none l = more l none
sixteen-more (x ∷ ss) s (more h w) l = more h (sixteen-more ss s w l)

range-more : (k : ℕ) (ss : List (List Channel)) (s : List Channel) → AllIn (column_of k ss) → all_of in_range s ≡ true → AllIn (column_of k (ss ++ (s ∷ [])))
unfolding column_of
range-more k [] s nil e = cons (at-range s k e) nil
range-more k (x ∷ ss) s (cons h w) e = cons h (range-more k ss s w e)

-- ---- what is held after some scans

record Held (n : ℕ) (ps : List Plug) (ss : List (List Channel)) : Type 0 where
  scans : n ≡ length ss
  few : length ss ≤ 4096
  plugs : ps ≡ note_scans new_plugs ss
  sixteen : Sixteen ss
  range : (k : ℕ) → AllIn (column_of k ss)

held_none : Held 0 new_plugs []
unfolding note_scans column_of
held_none = record { scans = refl; few = omega arith; plugs = refl; sixteen = none; range = λ k. nil }

held_more : {n : ℕ} {ps : List Plug} {ss : List (List Channel)} (s : List Channel) → Held n ps ss → n < 4096 → all_of in_range s ≡ true → length s ≡ 16
    → Held (n + 1) (note_all ps s) (ss ++ (s ∷ []))
held_more {n} {ps} {ss} s h l e w =
    let long : length (ss ++ (s ∷ [])) ≡ length ss + 1 = length-append ss (s ∷ []) in
    record {
      scans = omega (arith, long, h.scans);
      few = omega (arith, long, h.scans);
      plugs = ap (λ (x : List Plug). note_all x s) h.plugs ∙ sym (note-more ss new_plugs s);
      sixteen = sixteen-more ss s h.sixteen w;
      range = λ k. range-more k ss s (h.range k) e;
    }

held-report : {n : ℕ} {ps : List Plug} {ss : List (List Channel)} → Held n ps ss → (k : ℕ) → k < 16 → get_or ps k new_plug ≡ report_of (column_of k ss)
held-report {ss = ss} h k l = ap (λ (x : List Plug). get_or x k new_plug) h.plugs ∙ scans-report ss k h.sixteen h.few l

-- what a report over a column says
reads_of : (column : List Channel) → AllIn column → length column ≤ 4096 → ReadsColumn (report_of column) column
unfolding report_of seen_of
reads_of column w l = record {
  blanks = refl;
  readings = number (readings_of column);
  nothing = λ e. rw e;
  spans = λ r e. (report-spans column r e, report-sum column r w (omega (arith, both-counted column, l)) e);
}
  where
    number : (ws : List ℕ) → reading_count (seen_of ws) ≡ length ws
    number [] = refl
    number (x ∷ ws) = omega arith

held_reads : {n : ℕ} {ps : List Plug} {ss : List (List Channel)} → Held n ps ss → (k : ℕ) → ReadsColumn (report_of (column_of k ss)) (column_of k ss)
held_reads {ss = ss} h k = reads_of (column_of k ss) (h.range k) (omega (arith, column-length k ss, h.few))

-- ---- a call of `scan`

module _ (r : Recorder) (channels : List Channel) (m map : List ℕ) (settings : Settings) (lines : List ℕ) where
  -- what a scan leaves that was done
  record ScanDone (r' : Recorder) : Type 0 where
    pub scans : r'.scans ≡ r.scans + 1
    pub plugs : r'.plugs ≡ note_all r.plugs channels
    pub room : r.scans < 4096
    pub range : all_of in_range channels ≡ true

  scan-done : (r' : Recorder) (t : Tally) (m' : List ℕ) → left (answered (tally_page t)) (r', m') ≡ scan_of r channels m map settings lines → ScanDone r'
  unfolding scan_of scan_done
  scan-done r' t m' e =
      let x = scan_run r channels m map settings lines in
      let h = call-right (scan_why r channels m map settings lines) (scan_end r channels x) (r, m) e in
      let known = scan-sound r.scans channels (length m) map settings lines h.0 in
      let is = at x h.1 in
      record { scans = is.0; plugs = is.1; room = known.room; range = known.range }
    where
      at : (x : End) → left (answered (tally_page t)) (r', m') ≡ scan_end r channels x → (r'.scans ≡ r.scans + 1) × (r'.plugs ≡ note_all r.plugs channels)
      at (end s n y) e = (ap (λ z. z.lent.0.scans) e, ap (λ z. z.lent.0.plugs) e)

  scan-refused : (r' : Recorder) (why : ℕ) (m' : List ℕ) → left (refused why) (r', m') ≡ scan_of r channels m map settings lines → r' ≡ r
  unfolding scan_of scan_done
  scan-refused r' why m' e = by (scan_why r channels m map settings lines) e
    where
      at : (x : End) → left (refused why) (r', m') ≡ scan_end r channels x → r' ≡ r
      at (end s n y) e = absurd (apart (sym (ap (λ z. z.page) e)))

      by : (n : ℕ) → left (refused why) (r', m') ≡ call n (scan_done r channels m map settings lines) (r, m) → r' ≡ r
      by zero e = at (scan_run r channels m map settings lines) e
      by (suc n) e = ap (λ z. z.lent.0) e

held-is : {n n' : ℕ} {ps ps' : List Plug} {ss : List (List Channel)} → n ≡ n' → ps ≡ ps' → Held n' ps' ss → Held n ps ss
held-is e f h = rw (e, f) h

held-recorded : (r : Recorder) (ss : List (List Channel)) → Recorded r ss → Held r.scans r.plugs ss
held-recorded r ss (fresh s) = held_none
held-recorded r ss (Spec.Recorded.done {r = q} {scans = qs} w s channels m map settings lines t r' m' l e) =
    let is = scan-done (in_state s q) channels m map settings lines r t m' e in
    held-is is.scans is.plugs (held_more channels (held-recorded q qs w) is.room is.range l)
held-recorded r ss (Spec.Recorded.turned_away {r = q} w s channels m map settings lines why r' m' e) =
    let same : r ≡ in_state s q = scan-refused (in_state s q) channels m map settings lines r (number why) m' e in
    subst (λ (x : Recorder). Held x.scans x.plugs ss) (sym same) (held-recorded q ss w)

pub scans-counted : ScansCounted
scans-counted r ss w = let h = held-recorded r ss w in (h.scans, h.few)

not-over : (k : ℕ) → k < 16 → ltb 15 k ≡ false
not-over k l = by (ltb 15 k) refl
  where
    by : (b : Bool) → ltb 15 k ≡ b → ltb 15 k ≡ false
    by true e = absurd (omega (arith, ltb-true 15 k e, l))
    by false e = e

pub scans-reported : ScansReported
unfolding report_page
scans-reported r ss k q w l e =
    let h = held-recorded r ss w in
    let low : ltb 15 k ≡ false = not-over k l in
    let page : left (reported_page q) nothing ≡ left (answered (plug_page (report_of (column_of k ss)))) nothing = e ∙ rw (low, held-report h k l) in
    channel q (ap (λ z. z.page) page) (held_reads h k)
  where
    channel : (q : Reported) → reported_page q ≡ answered (plug_page (report_of (column_of k ss))) → ReadsColumn (report_of (column_of k ss)) (column_of k ss) → Reports q (column_of k ss)
    channel (Ok p) e w =
        let same : p ≡ report_of (column_of k ss) = plug-one p (report_of (column_of k ss)) (answered-one e) in
        record { plug = p; answer = refl; is = same; reads = subst (λ (x : Plug). ReadsColumn x (column_of k ss)) (sym same) w }
    channel (Err why) e w = absurd (apart (sym e))

-- ---- a call of `wd16_scan`

-- what a call leaves that answered 0
record LentDone (d d' : List ℕ) (channels : List Channel) : Type 0 where
  state : State
  sixteen : length channels ≡ 16
  room : word_at d 0 < 4096
  range : all_of in_range channels ≡ true
  bytes : d' ≡ recorder_bytes (record { state = state; scans = word_at d 0 + 1; plugs = note_all (plugs_from d) channels })

module _ (b t m map w lines cards readings d : List ℕ) where
  -- a call, refused as 21 or by the scan's own number
  abbrev lent_scan : Bool → ℕ → Page.Told ScanBuffers
  lent_scan bad why =
      let r = recorder_from (state_from b) d in
      reading scan_in (λ l. (b, t, l.1, d)) (call (cond bad no_state 0) (call why (scan_done r (channels_from cards readings) m map (settings_from w) lines) (r, m)) (r, m))

  lent-done : (b' t' m' d' : List ℕ) → told 0 (b', t', m', d') ≡ scan_call b t m map w lines cards readings d → LentDone d d' (channels_from cards readings)
  unfolding scan_call scan_of scan_done recorder_from
  lent-done b' t' m' d' e =
      let r = recorder_from (state_from b) d in
      by (refused_scan b t w cards readings d) (scan_why r (channels_from cards readings) m map (settings_from w) lines) refl refl e
    where
      at : (x : End) → (let r = recorder_from (state_from b) d in told 0 (b', t', m', d') ≡ reading scan_in (λ l. (b, t, l.1, d)) (scan_end r (channels_from cards readings) x))
          → length (channels_from cards readings) ≡ 16 → word_at d 0 < 4096 → all_of in_range (channels_from cards readings) ≡ true → LentDone d d' (channels_from cards readings)
      at (end s n y) e l room range = record { state = s; sixteen = l; room = room; range = range; bytes = ap (λ z. z.lent.3) e }

      by : (bad : Bool) (why : ℕ) → refused_scan b t w cards readings d ≡ bad → scan_why (recorder_from (state_from b) d) (channels_from cards readings) m map (settings_from w) lines ≡ why
          → told 0 (b', t', m', d') ≡ lent_scan bad why → LentDone d d' (channels_from cards readings)
      by true why h k e = let z : 0 ≡ no_state = ap (λ z. z.number) e in absurd (omega arith)
      by false zero h k e =
          let r = recorder_from (state_from b) d in
          let known = scan-sound r.scans (channels_from cards readings) (length m) map (settings_from w) lines k in
          at (scan_run r (channels_from cards readings) m map (settings_from w) lines) e (sixteen b t w cards readings d h) known.room known.range
      by false (suc why) h k e = let z : 0 ≡ suc why = ap (λ z. z.number) e in absurd (omega arith)

  lent-refused : (why : ℕ) (b' t' m' d' : List ℕ) → (why ≡ 0 → ⊥) → told why (b', t', m', d') ≡ scan_call b t m map w lines cards readings d → d' ≡ d
  unfolding scan_call scan_of scan_done
  lent-refused why b' t' m' d' some e = by (refused_scan b t w cards readings d) (scan_why (recorder_from (state_from b) d) (channels_from cards readings) m map (settings_from w) lines) e
    where
      at : (x : End) → told why (b', t', m', d') ≡ reading scan_in (λ l. (b, t, l.1, d)) (scan_end (recorder_from (state_from b) d) (channels_from cards readings) x) → d' ≡ d
      at (end s n y) e = absurd (some (ap (λ z. z.number) e))

      by : (bad : Bool) (n : ℕ) → told why (b', t', m', d') ≡ lent_scan bad n → d' ≡ d
      by true n e = ap (λ z. z.lent.3) e
      by false zero e = at (scan_run (recorder_from (state_from b) d) (channels_from cards readings) m map (settings_from w) lines) e
      by false (suc n) e = ap (λ z. z.lent.3) e

-- ---- a recorder's bytes

reports-length : (ps : List Plug) → length (reports_bytes ps) ≡ 12 * length ps
unfolding reports_bytes
reports-length [] = refl
reports-length (p ∷ ps) = length-append (report_bytes (plug_page p)) (reports_bytes ps) ∙ omega (arith, report-length (plug_page p), reports-length ps)

recorder-length : (r : Recorder) → length r.plugs ≡ 16 → length (recorder_bytes r) ≡ 194
unfolding recorder_bytes
recorder-length r l = length-append (scans_bytes r.scans) (reports_bytes r.plugs) ∙ omega (arith, reports-length r.plugs, l)

held-sixteen : {n : ℕ} {ps : List Plug} {ss : List (List Channel)} → Held n ps ss → length ps ≡ 16
held-sixteen {ss = ss} h = ap length h.plugs ∙ scans-length ss new_plugs

held-told : {n : ℕ} {ps : List Plug} {ss : List (List Channel)} → Held n ps ss → AllTold ps
held-told {ps = ps} {ss = ss} h = all_told ps (λ k l. subst (λ (p : Plug). HasReadings p.seen) (sym (held-report h k (omega (arith, l, held-sixteen h)))) (report-told (column_of k ss)))

record HeldBytes (d : List ℕ) (ss : List (List Channel)) : Type 0 where
  size : length d ≡ 194
  held : Held (word_at d 0) (plugs_from d) ss

-- 194 ZERO BYTES ARE A FRESH RECORDER
held-zeros : HeldBytes (replicate 194 0) []
unfolding plugs_at plug_from seen_from
held-zeros = record { size = refl; held = held_none }

-- what a scan left, the next one takes
held_bytes : (r : Recorder) (ss : List (List Channel)) → Held r.scans r.plugs ss → HeldBytes (recorder_bytes r) ss
unfolding recorder_from
held_bytes r ss h =
    let back : recorder_from r.state (recorder_bytes r) ≡ r = recorder-again r (held-sixteen h) (held-told h) in
    record { size = recorder-length r (held-sixteen h); held = held-is (ap (λ z. z.scans) back) (ap (λ z. z.plugs) back) h }

held-lent : (d : List ℕ) (ss : List (List Channel)) → LentRecorder d ss → HeldBytes d ss
held-lent d ss zeros = held-zeros
held-lent d ss (Spec.LentRecorder.done {d = d₀} {scans = ss₀} l b t m map w lines cards readings b' t' m' d' e) =
    let is = lent-done b t m map w lines cards readings d₀ b' t' m' d e in
    subst (λ (x : List ℕ). HeldBytes x ss) (sym is.bytes)
    (held_bytes _ ss (held_more (channels_from cards readings) (held-lent d₀ ss₀ l).held is.room is.range is.sixteen))
held-lent d ss (Spec.LentRecorder.turned_away {d = d₀} l b t m map w lines cards readings why b' t' m' d' some e) =
    subst (λ (x : List ℕ). HeldBytes x ss) (sym (lent-refused b t m map w lines cards readings d₀ why b' t' m' d some e)) (held-lent d₀ ss l)

pub wd16-scans-reported : Wd16ScansReported
unfolding report_call refused_report report_page recorder_from
wd16-scans-reported d ss k b number b' l h r e =
    let bytes = held-lent d ss l in
    let page : told number b' ≡ told 0 (report_bytes (plug_page (report_of (column_of k ss)))) =
    e ∙ rw (bytes.size, r, not-over k h, held-report bytes.held k h) in
    (ap (λ z. z.number) page, ap (λ z. z.lent) page, held_reads bytes.held k)

pub wd16-scans-counted : Wd16ScansCounted
wd16-scans-counted d ss l = let h = held-lent d ss l in (h.size, h.held.scans, h.held.few)
