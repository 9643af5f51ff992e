-- The theorems that specs/CardPage.antt states.
use Rattle.std.proofs.Common.{Some, None}
use Prim.Native.Nat.{ℕ, zero, suc, ◌+◌, ◌*◌, ◌/◌, ◌%◌, ◌≤◌, ◌<◌}
use native.Mathlib.Omega.{arith}
use mathlib.Core.Bool.{Bool, true, false, cond}
use mathlib.Core.List.{List, [], ◌∷◌}
use mathlib.Core.Path.{◌≡◌, refl, sym, ap, ◌∙◌, subst}
use lib.ListN.{length, get_or, set, length-set}
use lib.Seq.{get_or-set_same, get_or-set_other}
use Rattle.board.specs.Work.{even, image_word}
use Rattle.wordbytes.specs.Words.{byte_at}
use Rattle.wordbytes.specs.Words as Words
use Rattle.refusal.specs.Numbers.{no_state}
use Rattle.refusal.specs.Page.{Page, refused, refused_at, answered, Left, left, call, told, tells, reading}
use Rattle.refusal.proofs.Laws.Page.{first-both, call-right}
use Rattle.machine_c.specs.Layout.{state_from, settings_from}
use Rattle.plugs.specs.Plugs.{Channel, in_range, present}
use Rattle.refusal.specs.Refusal.{all_of}
use Rattle.plugs.proofs.Laws.Sum.{range-word}
use Rattle.recorder.specs.declared.Recorder.{Recorder}
use Rattle.recorder.specs.Scan.{TallyPage, scan_why, with_channel, channels_placed, scan_done, scan_of}
use Rattle.recorder.proofs.Laws.Record.{at-range}
use Rattle.recorder.proofs.Laws.Sound.{scan-sound}
use Rattle.recorder.proofs.Laws.Writes.{scan-only}
use Rattle.recorder_c.specs.Layout.{channels_from, recorder_from, refused_scan}
use Rattle.recorder_c.specs.Calls.{scan_in, scan_call}
use Rattle.recorder_c.proofs.Laws.Sound.{scan-lengths, sixteen}
use Rattle.demands.proofs.Laws.Scans.{wd16-scan-answers}
use Rattle.laws.proofs.Laws.Calls.{told_none}
use Rattle.laws.specs.CardPage.{Carded, ScanCarded, Wd16ScanCarded, Wd16ReadingsStand, ScanChanges, Wd16ScanChanges}

-- ---- where the readings stand

channel-long : (a : ℕ) (c : Channel) (m : List ℕ) → length (with_channel a c m) ≡ length m
channel-long a None m = refl
channel-long a (Some w) m = simp length-set

channel-below : (b : ℕ) (c : Channel) (m : List ℕ) (a : ℕ) → a < b → get_or (with_channel b c m) a 0 ≡ get_or m a 0
channel-below b None m a h = refl
channel-below b (Some w) m a h = get_or-set_other (set m b (w % 256)) (b + 1) a (w / 256 % 256) 0 (λ e. omega (arith, e, h)) ∙ get_or-set_other m b a (w % 256) 0 (λ e. omega (arith, e, h))

-- the channels from a place on leave what stands before it
placed_below : (cs : List Channel) (b : ℕ) (m : List ℕ) (a : ℕ) → a < b → get_or (channels_placed b cs m) a 0 ≡ get_or m a 0
unfolding channels_placed
placed_below [] b m a h = refl
placed_below (c ∷ cs) b m a h = placed_below cs (b + 2) (with_channel b c m) a (omega (arith, h)) ∙ channel-below b c m a h

reading-at : (m : List ℕ) (a w : ℕ) → a + 2 ≤ length m → w < 65536 → Words.word_at (with_channel a (Some w) m) a ≡ w
reading-at m a w l h =
    let low : get_or (set (set m a (w % 256)) (a + 1) (w / 256 % 256)) a 0 ≡ w % 256 =
    get_or-set_other (set m a (w % 256)) (a + 1) a (w / 256 % 256) 0 (λ e. omega (arith, e)) ∙ get_or-set_same m a (w % 256) 0 (omega (arith, l)) in
    let long : length (set m a (w % 256)) ≡ length m = simp length-set in
    let high : get_or (set (set m a (w % 256)) (a + 1) (w / 256 % 256)) (a + 1) 0 ≡ w / 256 % 256 = get_or-set_same (set m a (w % 256)) (a + 1) (w / 256 % 256) 0 (omega (arith, l, long)) in
    rw (low, high) (omega (arith, h))

placed_at : (cs : List Channel) (a : ℕ) (m : List ℕ) (k w : ℕ) → k < length cs → a + length cs * 2 ≤ length m → get_or cs k None ≡ Some w → w < 65536
    → Words.word_at (channels_placed a cs m) (a + 2 * k) ≡ w
unfolding channels_placed
placed_at [] a m k w i l e h = absurd (omega (arith, i))
placed_at (c ∷ cs) a m zero w i l e h =
    let start : a + 2 * 0 ≡ a = omega arith in
    let low = placed_below cs (a + 2) (with_channel a c m) a (omega arith) in
    let high = placed_below cs (a + 2) (with_channel a c m) (a + 1) (omega arith) in
    let here : Words.word_at (with_channel a c m) a ≡ w = ap (λ (z : Channel). Words.word_at (with_channel a z m) a) e ∙ reading-at m a w (omega (arith, l)) h in
    rw (start, low, high) here
placed_at (c ∷ cs) a m (suc k) w i l e h =
    let next : a + 2 * suc k ≡ a + 2 + 2 * k = omega arith in
    let room : a + 2 + length cs * 2 ≤ length (with_channel a c m) = rw (channel-long a c m) (omega (arith, l)) in
    rw next (placed_at cs (a + 2) (with_channel a c m) k w (omega (arith, i)) room e h)

even_is : (k : ℕ) → (0xFE00 + 2 * k) / 2 * 2 ≡ 0xFE00 + 2 * k
even_is k = omega arith

carded : (cs : List Channel) (m map : List ℕ) → length cs ≡ 16 → length m ≡ 65536 → length map ≡ 256 → all_of in_range cs ≡ true → Carded cs m map
unfolding image_word even
carded cs m map l bytes pages range = record {
  fitted = λ e. rw e (get_or-set_same map 0xFE 1 0 (omega (arith, pages)));
  readings = λ e k w h is. rw (e, even_is k) (placed_at cs 0xFE00 m k w (omega (arith, l, h)) (omega (arith, l, bytes)) is
      (range-word w (subst (λ (c : Channel). in_range c ≡ true) is (at-range cs k range))).0);
  unfitted = λ e. rw e (get_or-set_same map 0xFE 0 0 (omega (arith, pages)));
  as_lent = λ e. rw e refl;
  other_pages = λ p n. get_or-set_other map 0xFE p _ 0 n;
}

pub scan-carded : ScanCarded
unfolding scan_of
scan-carded r cs m map settings lines x m' p l e d =
    let free = (call-right (scan_why r cs m map settings lines) (scan_done r cs m map settings lines) (r, m) (ap (λ z. left z (x.recorder, m')) (sym d) ∙ e)).0 in
    let known = scan-sound r.scans cs (length m) map settings lines free in
    carded cs m map l known.bytes known.pages known.range

-- ---- what it changes

pub scan-changes : ScanChanges
scan-changes r cs m map settings lines x m' a l e n h = ap (λ z. get_or z.lent.1 a 0) e ∙ scan-only r cs m map settings lines a l n h

-- ---- for C

-- the image that is read of a call
read-image : (b t d : List ℕ) (x : Left TallyPage (Recorder × List ℕ)) → (reading scan_in (λ l. (b, t, l.1, d)) x).lent.2 ≡ x.lent.1
read-image b t d x = by x.page
  where
    by : (p : Page TallyPage) → (tells scan_in (λ place l. (b, t, l.1, d)) (λ l. (b, t, l.1, d)) p x.lent).lent.2 ≡ x.lent.1
    by (answered p) = refl
    by (refused why) = refl
    by (refused_at why place) = refl

pub wd16-scan-changes : Wd16ScanChanges
unfolding scan_call recorder_from
wd16-scan-changes b t m map w lines cards readings d number b' t' m' d' a e n h =
    by (refused_scan b t w cards readings d) refl (ap (λ z. get_or z.lent.2 a 0) e)
  where
    by : (bad : Bool) → refused_scan b t w cards readings d ≡ bad
        → (let r = recorder_from (state_from b) d in
        get_or m' a 0 ≡ get_or (reading scan_in (λ l. (b, t, l.1, d)) (call (cond bad no_state 0) (scan_of r (channels_from cards readings) m map (settings_from w) lines) (r, m))).lent.2 a 0) → byte_at m' a ≡ byte_at m a
    by true q e = e
    by false q e =
        let r = recorder_from (state_from b) d in
        let cs = channels_from cards readings in
        e ∙ ap (λ (z : List ℕ). get_or z a 0) (read-image b t d (scan_of r cs m map (settings_from w) lines))
        ∙ scan-only r cs m map (settings_from w) lines a (sixteen b t w cards readings d q) n h

scan-not-refused : (b t m map w lines cards readings d b' t' m' d' : List ℕ) → told 0 (b', t', m', d') ≡ scan_call b t m map w lines cards readings d
    → (refused_scan b t w cards readings d ≡ false) × (scan_why (recorder_from (state_from b) d) (channels_from cards readings) m map (settings_from w) lines ≡ 0)
scan-not-refused b t m map w lines cards readings d b' t' m' d' e =
    let why = scan_why (recorder_from (state_from b) d) (channels_from cards readings) m map (settings_from w) lines in
    let both = first-both (cond (refused_scan b t w cards readings d) no_state 0) why (sym (wd16-scan-answers b t m map w lines cards readings d (told 0 (b', t', m', d')) e).number_is) in
    (told_none (refused_scan b t w cards readings d) both.0, both.1)

pub wd16-scan-carded : Wd16ScanCarded
wd16-scan-carded b t m map w lines cards readings d b' t' m' d' e =
    let cs = channels_from cards readings in
    let free = scan-not-refused b t m map w lines cards readings d b' t' m' d' e in
    let known = scan-sound (recorder_from (state_from b) d).scans cs (length m) map (settings_from w) lines free.1 in
    carded cs m map (sixteen b t w cards readings d free.0) known.bytes known.pages known.range

-- the lent channels, one by one
channel-at : (cs ws : List ℕ) (k : ℕ) → length cs ≡ length ws → k < length cs → byte_at cs k ≡ 1 → get_or (channels_from cs ws) k None ≡ Some (get_or ws k 0)
unfolding channels_from
channel-at [] ws k l h e = absurd (omega (arith, h))
channel-at (c ∷ cs) [] k l h e = absurd (omega (arith, l))
channel-at (c ∷ cs) (w ∷ ws) zero l h e = rw e refl
channel-at (c ∷ cs) (w ∷ ws) (suc k) l h e = channel-at cs ws k (omega (arith, l)) (omega (arith, h)) e

all-present : (cs ws : List ℕ) → length cs ≡ length ws → ((k : ℕ) → k < length cs → byte_at cs k ≡ 1) → all_of present (channels_from cs ws) ≡ true
unfolding channels_from all_of
all-present [] ws l h = refl
all-present (c ∷ cs) [] l h = absurd (omega (arith, l))
all-present (c ∷ cs) (w ∷ ws) l h = rw (h 0 (omega arith)) (all-present cs ws (omega (arith, l)) (λ k i. h (suc k) (omega (arith, i))))

pub wd16-readings-stand : Wd16ReadingsStand
wd16-readings-stand b t m map w lines cards readings d b' t' m' d' e all k h =
    let lengths = scan-lengths b t w cards readings d (scan-not-refused b t m map w lines cards readings d b' t' m' d' e).0 in
    let even : length cards ≡ length readings = lengths.cards ∙ sym lengths.readings in
    (wd16-scan-carded b t m map w lines cards readings d b' t' m' d' e).readings
    (all-present cards readings even (λ j i. all j (omega (arith, i, lengths.cards)))) k (get_or readings k 0) h (channel-at cards readings k even (omega (arith, h, lengths.cards)) (all k h))
