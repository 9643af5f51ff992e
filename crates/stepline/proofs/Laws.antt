-- How long the parts of a step's line are, one part more, and from the code's facts to the line.
use Prim.Native.Nat.{ℕ, zero, suc, ◌+◌, ◌*◌, ◌/◌, ◌%◌, ◌≤◌, ◌<◌}
use mathlib.Core.Bool.{Bool, true, false, not, cond}
use mathlib.Core.List.{List, [], ◌∷◌, ◌++◌, append_assoc, append-nil}
use mathlib.Core.Path.{◌≡◌, refl, sym, ap, ◌∙◌, subst}
use native.Mathlib.Numerals.{add-one}
use native.Mathlib.Omega.{arith}
use borrow.Author.Tests.{le-ltb, lt-ltb, ltb-false, not-true, not-false}
use lib.Dec.{ltb}
use lib.ListN.{length, get_or, take, length-append}
use Rattle.hexdigits.specs.Over.{Wrote, WroteAt}
use Rattle.hexdigits.proofs.Laws.Laid.{wrote_none, then}
use Rattle.wordbytes.specs.Words.{word_at}
use Rattle.board.specs.Work.{fitted}
use Rattle.refusal.specs.Numbers.{text_short}
use Rattle.refusal.specs.Page.{refused, answered, Left, left, call}
use Rattle.refusal.specs.Refusal.{board_refusal, power_refusal, step_refusal}
use Rattle.refusal.proofs.Laws.Page.{first_some, first-both, apart, answered-one, call-refused, call-answered}
use Rattle.refusal.proofs.Laws.Refusal.{SoundBoard, step-sound}
use Rattle.benchline.specs.Line.{fields, dashes}
use Rattle.benchline.proofs.Laws.Lengths.{fields-length}
use Rattle.optext.specs.Line.{taken, text_of, word_text}
use Rattle.optext.proofs.Laws.Longest.{text-le}
use Rattle.optext.proofs.Laws.Meets.{taken-le}
use Rattle.listing.specs.declared.CodeFound.TheVariants.{Nothing, Cut, Whole}
use Rattle.listing.specs.declared.Listed.{Listed}
use Rattle.std.specs.Prelude.{Result, Ok, Err}
use Rattle.refusal.specs.declared.Refusal.{Refusal}
use Rattle.listing.specs.Listing.{all_stand, found_at, listing_line, words_at}
use Rattle.listing.specs.Listing as Listing
use Rattle.listing.specs.Calls.{Lined, listed_page, bad_stretch, line_why, line_in, line_call}
use Rattle.listing.proofs.Laws.{word-length}
use Rattle.listing.proofs.Laws.Joined.{cond-none}
use Rattle.state.specs.declared.State.{State}
use Rattle.state.specs.declared.Settings.{Settings}
use Rattle.state.specs.declared.Outside.{Outside}
use Rattle.state.specs.State.{heard}
use Rattle.step.specs.declared.Turn.{Turn}
use Rattle.step.specs.declared.Kind.{Kind}
use Rattle.step.specs.Step.{kind_of, is_code, step_of, turn_of}
use Rattle.step.specs.Written.{entries, step_writes}
use Rattle.stepline.specs.declared.Shown.{Shown}
use Rattle.stepline.specs.Shown.{column, columns, figures, writes_text, tab, code_text, step_line, step_text, show_why, shown_as, show_of, step_shown}
use Rattle.stepline.specs.Shown as Spec

-- ---- columns

pub column-length : (x : ℕ) → length (column x) ≡ 5
unfolding column
column-length x = refl

pub columns-length : (values : List ℕ) (n : ℕ) → length (columns values n) ≡ n * 5
unfolding columns
columns-length values zero = refl
columns-length values (suc n) =
    length-append (columns values n) (column (get_or values n 0))
    ∙ omega (arith, columns-length values n, column-length (get_or values n 0))

pub columns-more : (values : List ℕ) (n : ℕ) → columns values n ++ column (get_or values n 0) ≡ columns values (n + 1)
unfolding columns
columns-more values n = rw (add-one n) refl

-- ---- words

pub pair-length : (m : List ℕ) (a : ℕ) → length (Spec.written_word m a) ≡ 10
pair-length m a =
    length-append (column (a / 2 * 2)) (column (word_at m (a / 2 * 2)))
    ∙ omega (arith, column-length (a / 2 * 2), column-length (word_at m (a / 2 * 2)))

writes-snoc : (m xs : List ℕ) (a : ℕ) → writes_text m (xs ++ (a ∷ [])) ≡ writes_text m xs ++ Spec.written_word m a
unfolding writes_text
writes-snoc m [] a = append-nil (Spec.written_word m a)
writes-snoc m (b ∷ xs) a = rw (writes-snoc m xs a) (sym (append_assoc (Spec.written_word m b) (writes_text m xs) (Spec.written_word m a)))

pub writes-none : (m l b : List ℕ) → Wrote (writes_text m (entries 0 l)) b b 0
unfolding writes_text entries
writes-none m l b = wrote_none b

pub writes_more : (m l : List ℕ) (i : ℕ) → writes_text m (entries i l) ++ Spec.written_word m (get_or l (i * 2 + 1) 0) ≡ writes_text m (entries (i + 1) l)
unfolding entries
writes_more m l i = rw (add-one i) (sym (writes-snoc m (entries i l) (get_or l (i * 2 + 1) 0)))

pub writes-length : (m l : List ℕ) (n : ℕ) → length (writes_text m (entries n l)) ≡ n * 10
unfolding entries writes_text
writes-length m l zero = refl
writes-length m l (suc n) =
    let a = get_or l (n * 2 + 1) 0 in
    ap length (writes-snoc m (entries n l) a)
    ∙ length-append (writes_text m (entries n l)) (Spec.written_word m a)
    ∙ omega (arith, writes-length m l n, pair-length m a)

-- ---- what stands at PC

module _ (map m : List ℕ) (last a : ℕ) where
  found-length : (p q : Bool) → length (Listing.line_of a (words_at m a) (cond p (cond q (Whole (taken (word_at m a))) Cut) Nothing)) ≤ 52
  unfolding Listing.line_of
  found-length true true =
      let n = taken (word_at m a) in
      rw (length-append (fields (a ∷ words_at m a) (n + 1)) (text_of (take n (words_at m a))), fields-length (a ∷ words_at m a) (n + 1))
      (omega (arith, taken-le (word_at m a), text-le (take n (words_at m a))))
  found-length true false =
      rw (length-append (fields (a ∷ words_at m a) 2) (word_text (word_at m a)), fields-length (a ∷ words_at m a) 2, word-length (word_at m a)) (omega arith)
  found-length false q =
      rw (length-append (fields (a ∷ words_at m a) 1) dashes, fields-length (a ∷ words_at m a) 1) (omega arith)

  line-length : length (listing_line map m last a) ≤ 52
  unfolding listing_line found_at
  line-length = found-length (fitted map a) (all_stand map last a (taken (word_at m a)))

no-stretch : (p : ℕ) → p < 65536 → bad_stretch (p / 2 * 2) 65534 ≡ false
no-stretch p h =
    let e : p / 2 * 2 % 2 ≡ 0 = omega arith in
    let l : p / 2 * 2 ≤ 65534 = omega arith in
    rw (e, le-ltb 65534 (p / 2 * 2) l) refl

code_here : (map m : List ℕ) (s : State) (c : Bool) → not c ≡ false → code_text map c s m ≡ listing_line map m 65534 (s.regs.pc / 2 * 2)
unfolding code_text
code_here map m s c y = rw (not-false c y) refl

module _ (map m b e : List ℕ) (s : State) (r : Result Listed Refusal) (c : Bool) (low : s.regs.pc < 65536) (h : 52 ≤ length b) (k : board_refusal (length m) map ≡ 0)
    (g : left (listed_page r) e ≡ line_call m map (s.regs.pc / 2 * 2) 65534 b) (y : not c ≡ false) where
  not-refused : line_why (length m) map (s.regs.pc / 2 * 2) 65534 (length b) ≡ 0
  unfolding line_why
  not-refused = rw (k, no-stretch s.regs.pc low, le-ltb (length b) 52 h) refl

  called : left (listed_page r) e ≡ line_in m map (s.regs.pc / 2 * 2) 65534 b
  unfolding line_call
  called = g ∙ ap (λ n. call n (line_in m map (s.regs.pc / 2 * 2) 65534 b) b) not-refused

  pub code_wrote : (n : ℕ) (x : Lined) → listed_page r ≡ answered x → x.count ≡ n → Wrote (code_text map c s m) b e n × (n ≤ 52)
  code_wrote n x q d =
      let z = answered-one (sym q ∙ ap (λ (u : Left Lined (List ℕ)). u.page) called) in
      let size : n ≡ length (listing_line map m 65534 (s.regs.pc / 2 * 2)) = sym d ∙ ap (λ (u : Lined). u.count) z in (
        rw (code_here map m s c y) (record { bytes = ap (λ (u : Left Lined (List ℕ)). u.lent) called; count = size }),
        rw size (line-length map m 65534 (s.regs.pc / 2 * 2)),
      )

  pub code-never : {A : Type 0} (why : ℕ) → listed_page r ≡ refused why → A
  code-never why q = absurd (apart (sym (ap (λ (u : Left Lined (List ℕ)). u.page) called) ∙ q))

pub code-none : (map m b : List ℕ) (s : State) (c : Bool) → not c ≡ true → Wrote (code_text map c s m) b b 0 × (0 ≤ 52)
unfolding code_text
code-none map m b s c y = (rw (not-true c y) (wrote_none b), omega arith)

-- ---- refusals

module _ (settings : Settings) (size : ℕ) (map : List ℕ) (line text k : ℕ) (e : k ≡ step_refusal size map settings.powerup settings.halt settings.register line) where
  pub why-step : (k ≡ 0 → ⊥) → k ≡ show_why settings size map line text
  unfolding show_why
  why-step n = rw (← e) (first_some k _ n)

  pub why-short : k ≡ 0 → text < 278 → text_short ≡ show_why settings size map line text
  unfolding show_why
  why-short z h = rw (← e, z, lt-ltb text 278 h) refl

  pub why-nothing : k ≡ 0 → 278 ≤ text → 0 ≡ show_why settings size map line text
  unfolding show_why
  why-nothing z h = rw (← e, z, le-ltb text 278 h) refl

-- what is known where nothing is refused
pub record ShowTaken (size : ℕ) (map : List ℕ) (text : ℕ) : Type 0 where
  pub sound : SoundBoard size map
  pub board : board_refusal size map ≡ 0
  pub room : 278 ≤ text

pub ready : (settings : Settings) (size : ℕ) (map : List ℕ) (line text : ℕ) → show_why settings size map line text ≡ 0 → ShowTaken size map text
unfolding show_why step_refusal power_refusal
ready settings size map line text e =
    let both = first-both (step_refusal size map settings.powerup settings.halt settings.register line) _ e in
    let power = (first-both (power_refusal size map settings.powerup settings.halt settings.register) _ both.0).0 in
    record {
      sound = step-sound size map settings.powerup settings.halt settings.register line both.0;
      board = (first-both (board_refusal size map) _ power).0;
      room = ltb-false text 278 (cond-none (ltb text 278) text_short (λ h. omega arith) both.1);
    }

-- ---- the call

module _ (settings : Settings) (image map : List ℕ) (line number : ℕ) (s : State) (b : List ℕ) where
  pub show-refused : (k : ℕ) → k ≡ show_why settings (length image) map line (length b) → (k ≡ 0 → ⊥) → left (refused k) (image, b) ≡ show_of settings image map line number s b
  unfolding show_of
  show-refused k e n =
      call-refused (show_why settings (length image) map line (length b)) (shown_as (step_of map (heard settings line) s image) (step_text settings map line number s image) b) (image, b) k e n

  pub show-answered : (x : Left Spec.ShownPage (List ℕ × List ℕ)) → show_why settings (length image) map line (length b) ≡ 0
      → x ≡ shown_as (step_of map (heard settings line) s image) (step_text settings map line number s image) b → x ≡ show_of settings image map line number s b
  unfolding show_of
  show-answered x e h =
      call-answered (show_why settings (length image) map line (length b)) (shown_as (step_of map (heard settings line) s image) (step_text settings map line number s image) b) (image, b) x e h

  -- the line of the turn, the image and the addresses that the step came to
  shown-is : (r : Turn) (n : ℕ) (m e ws : List ℕ) → turn_of r m ≡ step_of map (heard settings line) s image → ws ≡ step_writes map (heard settings line) s image
      → Wrote (step_line settings map line number s image (turn_of r m) ws) b e n
      → left (answered (step_shown n r)) (m, e) ≡ shown_as (step_of map (heard settings line) s image) (step_text settings map line number s image) b
  unfolding step_text
  shown-is r n m e ws d q w = rw (← d, ← q, w.bytes, w.count) refl

  -- the same from what the code got on the way
  pub line-is : (r : Turn) (out : Outside) (k : Kind) (code : Bool) (values m ws b1 b2 b3 e : List ℕ) (n1 n2 n3 n : ℕ)
      → out ≡ heard settings line → k ≡ kind_of s out → code ≡ is_code k → turn_of r m ≡ step_of map out s image → ws ≡ step_writes map out s image
      → values ≡ figures settings map number line s r.state r.cause
      → Wrote (code_text map code s image) b b1 n1 → WroteAt n1 tab b1 b2 n2 → WroteAt n2 (columns values 15) b2 b3 n3 → WroteAt n3 (writes_text m ws) b3 e n
      → left (answered (step_shown n r)) (m, e) ≡ shown_as (step_of map (heard settings line) s image) (step_text settings map line number s image) b
  unfolding step_line
  line-is r out k code values m ws b1 b2 b3 e n1 n2 n3 n ho hk hc turn wrote hv w1 w2 w3 w4 =
      let code_is : code ≡ is_code (kind_of s (heard settings line)) = hc ∙ ap is_code (hk ∙ ap (λ (o : Outside). kind_of s o) ho) in
      shown-is r n m e ws (turn ∙ ap (λ (o : Outside). step_of map o s image) ho) (wrote ∙ ap (λ (o : Outside). step_writes map o s image) ho)
      (then _ _ _ _ _ _ _
      (then _ _ _ _ _ _ _ (then _ _ _ _ _ _ _ (subst (λ (x : Bool). Wrote (code_text map x s image) b b1 n1) code_is w1) w2)
      (subst (λ (x : List ℕ). WroteAt n2 (columns x 15) b2 b3 n3) hv w3))
      w4)
