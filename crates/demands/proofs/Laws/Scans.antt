-- The theorems that specs/Scans.antt states.
use Prim.Native.Nat.{ℕ, zero, suc}
use mathlib.Core.Bool.{Bool, true, false, cond}
use mathlib.Core.List.{List}
use mathlib.Core.Path.{◌≡◌, refl, sym, ap, ◌∙◌}
use native.Mathlib.Omega.{arith}
use lib.ListN.{length, get_or}
use Rattle.board.specs.Work.{Agree, Untouched, Blind}
use Rattle.state.specs.declared.State.{State}
use Rattle.state.specs.declared.Settings.{Settings}
use Rattle.step.specs.declared.Cause.TheVariants as Cause
use Rattle.step.specs.Step.{after}
use Rattle.wordbytes.specs.Words.{byte_at}
use Rattle.state.specs.State.{cleared}
use Rattle.refusal.specs.Numbers.{no_state}
use Rattle.refusal.specs.Page.{Page, refused, refused_at, answered, Left, left, call, nothing, Told, told, tells, reading}
use Rattle.refusal.proofs.Laws.Page.{answered-one, call-right}
use Rattle.machine.specs.declared.Tally.{Tally}
use Rattle.machine.specs.Run.{End, end, run_of}
use Rattle.machine.specs.Trail.{trail_of, last_after, tally_in}
use Rattle.machine.proofs.Laws.Counted.{run-trail}
use Rattle.machine_c.specs.Layout.{tally_bytes, state_from, settings_from}
use Rattle.plugs.specs.Plugs.{Channel, new_plug}
use Rattle.recorder.specs.declared.Recorder.{Recorder}
use Rattle.recorder.specs.Scan.{TallyPage, tally_page, plug_page, scan_why, scan_map, scan_image, advanced, scan_end, scan_run, scan_done, scan_of, report_why, report_page}
use Rattle.recorder.proofs.Laws.Blind.{SameScan, scan-same, scan-kept}
use Rattle.recorder.proofs.Laws.Blind as Scan
use Rattle.recorder_c.specs.Layout.{channels_from, recorder_from, refused_scan, refused_report}
use Rattle.recorder_c.proofs.Laws.Sound.{sixteen}
use Rattle.recorder_c.specs.Calls.{ScanBuffers, scan_in, scan_call, report_in, report_call}
use Rattle.demands.specs.Demand1.{IsAnswer, is_answer}
use Rattle.demands.proofs.Laws.Demand1.{call-keeps, twice-keeps}
use Rattle.demands.proofs.Laws.Blanks.{counted}
use Rattle.demands.specs.Scans.{ScanAnswers, ReportAnswers, Wd16ScanAnswers, Wd16ReportAnswers, ScanBlind, Wd16ScanBlind, ScanCounted, Wd16ScanCounted, ScanIs, Wd16ScanIs}

-- ---- demand 1

scan-is-answer : (r : Recorder) (cs : List Channel) (x : End) → IsAnswer (scan_end r cs x).page
scan-is-answer r cs (end s m t) = is_answer _

pub scan-answers : ScanAnswers
unfolding scan_of scan_done
scan-answers r cs m map settings lines =
    let x = scan_run r cs m map settings lines in
    call-keeps _ _ (scan_why r cs m map settings lines) (scan_end r cs x) (r, m) (scan-is-answer r cs x)

pub report-answers : ReportAnswers
unfolding report_page
report-answers r k = call-keeps _ _ (report_why k) (left (answered (plug_page (get_or r.plugs k new_plug))) nothing) nothing (is_answer _)

pub wd16-scan-answers : Wd16ScanAnswers
unfolding scan_call scan_of scan_done
wd16-scan-answers b t m map w lines cards readings d =
    let r = recorder_from (state_from b) d in
    let cs = channels_from cards readings in
    let x = scan_run r cs m map (settings_from w) lines in
    twice-keeps scan_in (λ l. (b, t, l.1, d)) (cond (refused_scan b t w cards readings d) no_state 0) (scan_why r cs m map (settings_from w) lines) (scan_end r cs x) (r, m) (scan-is-answer r cs x)

pub wd16-report-answers : Wd16ReportAnswers
unfolding report_call report_page
wd16-report-answers d channel b =
    let r = recorder_from cleared d in
    let k = byte_at channel 0 in
    twice-keeps report_in (λ none. b) (cond (refused_report d channel b) no_state 0) (report_why k) (left (answered (plug_page (get_or r.plugs k new_plug))) nothing) nothing (is_answer _)

-- ---- demand 3

pub scan-blind : ScanBlind
scan-blind = Scan.scan-blind

-- for C

module _ (map m n b t d : List ℕ) (r : Recorder) (g : Agree map m n) where
  abbrev BothBlind : Told ScanBuffers → Told ScanBuffers → Type 0
  BothBlind v w =
      Blind {A = ℕ × List ℕ × List ℕ × List ℕ} map m n (v.number, v.lent.0, v.lent.1, v.lent.3) (w.number, w.lent.0, w.lent.1, w.lent.3) v.lent.2 w.lent.2

  abbrev as_lent : Recorder × List ℕ → ScanBuffers
  as_lent l = (b, t, l.1, d)

  page-blind : (p : Page TallyPage) (k l : Recorder × List ℕ) → k.0 ≡ l.0 → Agree map k.1 l.1 → Untouched map m k.1 → Untouched map n l.1
      → BothBlind (tells scan_in (λ place. as_lent) as_lent p k) (tells scan_in (λ place. as_lent) as_lent p l)
  page-blind (answered u) k l e h i j = record { answer = rw e; fitted_agree = h; unfitted_stay = i; unfitted_stay_too = j }
  page-blind (refused why) k l e h i j = record { answer = refl; fitted_agree = h; unfitted_stay = i; unfitted_stay_too = j }
  page-blind (refused_at why place) k l e h i j = record { answer = refl; fitted_agree = h; unfitted_stay = i; unfitted_stay_too = j }

  calls-blind : (bad : Bool) (x y : Left TallyPage (Recorder × List ℕ)) → (bad ≡ false → SameScan map x y) → (bad ≡ false → Untouched map m x.lent.1) → (bad ≡ false → Untouched map n y.lent.1)
      → BothBlind (reading scan_in as_lent (call (cond bad no_state 0) x (r, m))) (reading scan_in as_lent (call (cond bad no_state 0) y (r, n)))
  calls-blind true x y same i j = page-blind (refused no_state) (r, m) (r, n) refl g (λ a e. refl) (λ a e. refl)
  calls-blind false x y same i j = let s = same refl in rw (← s.page) (page-blind x.page x.lent y.lent s.recorder s.agree (i refl) (j refl))

module _ (w cards readings map lines m n : List ℕ) (l : length m ≡ length n) (g : Agree (scan_map (channels_from cards readings) map) m n) where
  pub wd16-scan-blind : Wd16ScanBlind w cards readings map lines m n l g
  unfolding scan_call
  wd16-scan-blind b t d k j b₁ b₂ t₁ t₂ d₁ d₂ m' n' e f =
      let r = recorder_from (state_from b) d in
      let cs = channels_from cards readings in
      rw (
        ap (λ z. z.number) e,
        ap (λ z. z.lent.0) e,
        ap (λ z. z.lent.1) e,
        ap (λ z. z.lent.2) e,
        ap (λ z. z.lent.3) e,
        ap (λ z. z.number) f,
        ap (λ z. z.lent.0) f,
        ap (λ z. z.lent.1) f,
        ap (λ z. z.lent.2) f,
        ap (λ z. z.lent.3) f,
      )
      (calls-blind (scan_map cs map) m n b t d r g (refused_scan b t w cards readings d) (scan_of r cs m map (settings_from w) lines) (scan_of r cs n map (settings_from w) lines)
      (λ h. scan-same r cs map (settings_from w) lines m n l g)
      (λ h. scan-kept r cs map (settings_from w) lines (sixteen b t w cards readings d h) m)
      (λ h. scan-kept r cs map (settings_from w) lines (sixteen b t w cards readings d h) n))

-- ---- the count of a scan's blanks

tallied : End → TallyPage
tallied (end s m t) = tally_page t

end-tallied : (r : Recorder) (cs : List Channel) (x : End) → (scan_end r cs x).page ≡ answered (tallied x)
unfolding tallied
end-tallied r cs (end s m t) = refl

scan-tally : (settings : Settings) (map lines : List ℕ) (s : State) (m : List ℕ) → tallied (run_of settings map lines s m) ≡ tally_page (tally_in (trail_of settings map lines s m))
unfolding tallied
scan-tally settings map lines s m = ap tallied (run-trail settings map lines s m Cause.Nothing)

pub scan-counted : ScanCounted
unfolding scan_of scan_done
scan-counted r cs m map settings lines x m' p e d =
    let y = scan_run r cs m map settings lines in
    let done = (call-right (scan_why r cs m map settings lines) (scan_end r cs y) (r, m) (ap (λ z. left z (x.recorder, m')) (sym d) ∙ e)).1 in
    let h : p ≡ tally_page (tally_in (trail_of settings (scan_map cs map) lines r.state (scan_image cs m))) =
    answered-one (ap (λ z. z.page) done ∙ end-tallied r cs y) ∙ scan-tally settings (scan_map cs map) lines r.state (scan_image cs m) in
    rw (ap (λ z. z.blanks) h, ap (λ z. z.first) h) (counted settings (scan_map cs map) lines r.state (scan_image cs m))

call-took : (bad : Bool) (b t m d : List ℕ) (r : Recorder) (cs : List Channel) (why : ℕ) (y : End) (b' t' m' d' : List ℕ)
    → told 0 (b', t', m', d') ≡ reading scan_in (λ l. (b, t, l.1, d)) (call (cond bad no_state 0) (call why (scan_end r cs y) (r, m)) (r, m))
    → t' ≡ tally_bytes (tallied y).blanks (tallied y).first
unfolding tallied
call-took true b t m d r cs why y b' t' m' d' e = absurd (omega (arith, ap (λ z. z.number) e))
call-took false b t m d r cs zero (end s n u) b' t' m' d' e = ap (λ z. z.lent.1) e
call-took false b t m d r cs (suc why) y b' t' m' d' e = absurd (omega (arith, ap (λ z. z.number) e))

pub wd16-scan-counted : Wd16ScanCounted
unfolding scan_call scan_of scan_done recorder_from
wd16-scan-counted b t m map w lines cards readings d b' t' m' d' e =
    let r = recorder_from (state_from b) d in
    let cs = channels_from cards readings in
    let h = scan-tally (settings_from w) (scan_map cs map) lines (state_from b) (scan_image cs m) in
    record {
      blanks = _;
      place = _;
      bytes = call-took (refused_scan b t w cards readings d) b t m d r cs (scan_why r cs m map (settings_from w) lines) (scan_run r cs m map (settings_from w) lines) b' t' m' d' e ∙ ap (λ (z : TallyPage). tally_bytes z.blanks z.first) h;
      holds = counted (settings_from w) (scan_map cs map) lines (state_from b) (scan_image cs m);
    }

-- ---- demand 2

pub scan-is : ScanIs
unfolding scan_of scan_done
scan-is r cs m map settings lines x m' p e d =
    let done = (call-right (scan_why r cs m map settings lines) (scan_end r cs (scan_run r cs m map settings lines)) (r, m) (ap (λ z. left z (x.recorder, m')) (sym d) ∙ e)).1 in
    let h = done ∙ ap (λ (y : End). scan_end r cs y) (run-trail settings (scan_map cs map) lines r.state (scan_image cs m) Cause.Nothing) in
    let page = answered-one (ap (λ z. z.page) h) in
    (ap (λ z. z.lent.0.state) h, ap (λ z. z.blanks) page, ap (λ z. z.first) page, ap (λ z. z.lent.1) h)

-- what a call for C leaves that answers 0
scan-took : (bad : Bool) (b t m d : List ℕ) (r : Recorder) (cs : List Channel) (why : ℕ) (y : End) (s : State) (n : List ℕ) (u : Tally) {c : ScanBuffers} → y ≡ end s n u
    → told 0 c ≡ reading scan_in (λ l. (b, t, l.1, d)) (call (cond bad no_state 0) (call why (scan_end r cs y) (r, m)) (r, m)) → c ≡ scan_in (tally_page u) (advanced r cs s, n)
scan-took true b t m d r cs why y s n u h e = absurd (omega (arith, ap (λ z. z.number) e))
scan-took false b t m d r cs zero y s n u h e = ap (λ z. z.lent) (e ∙ ap (λ (x : End). reading scan_in (λ l. (b, t, l.1, d)) (scan_end r cs x)) h)
scan-took false b t m d r cs (suc why) y s n u h e = absurd (omega (arith, ap (λ z. z.number) e))

pub wd16-scan-is : Wd16ScanIs
unfolding scan_call scan_of scan_done recorder_from
wd16-scan-is b t m map w lines cards readings d b' t' m' d' e =
    let r = recorder_from (state_from b) d in
    let cs = channels_from cards readings in
    let rs = trail_of (settings_from w) (scan_map cs map) lines (state_from b) (scan_image cs m) in
    let y = last_after (after (state_from b) (scan_image cs m) Cause.Nothing) rs in
    let h = scan-took (refused_scan b t w cards readings d) b t m d r cs (scan_why r cs m map (settings_from w) lines) (scan_run r cs m map (settings_from w) lines) y.state y.image (tally_in rs)
    (run-trail (settings_from w) (scan_map cs map) lines (state_from b) (scan_image cs m) Cause.Nothing) e in
    (ap (λ z. z.0) h, ap (λ z. z.1) h, ap (λ z. z.2) h)
