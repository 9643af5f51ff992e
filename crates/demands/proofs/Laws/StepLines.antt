-- Demand 3 for a step's line: what it shows of memory stands at fitted addresses.
use Rattle.std.specs.Prelude.{Result}
use Prim.Native.Nat.{ℕ, zero, suc, ◌+◌, ◌*◌, ◌/◌}
use native.Mathlib.Omega.{arith}
use mathlib.Core.Bool.{Bool, true, false, not, cond, true≢false}
use mathlib.Core.List.{List, [], ◌∷◌}
use mathlib.Core.Path.{◌≡◌, refl, sym, ap, ◌∙◌}
use lib.ListN.{length, get_or}
use lib.Dec.{eqb, leb}
use Rattle.wordbytes.specs.Words.{word_at}
use Rattle.board.specs.Work.{Work, give, read_at, write_at, Size, Came, value, blank, fitted, writable, get, put, run, write, Agree, Untouched, Blind}
use Rattle.board.proofs.Laws.Alike.{Alike, both, neither, alike, found-value, unfitted-unwritable}
use Rattle.state.specs.declared.State.{State}
use Rattle.state.specs.declared.Settings.{Settings}
use Rattle.state.specs.declared.Outside.{Outside}
use Rattle.state.specs.State.{heard}
use Rattle.step.specs.Step.{kind_of, work_of, bus_error, step_of}
use Rattle.step.specs.Told.{Access, reads, writes, accesses}
use Rattle.step.specs.Written.{writes_of, written_by, or_else_writes, error_writes, step_writes}
use Rattle.step.proofs.Laws.Alike.{step-alike, step-untouched}
use Rattle.refusal.specs.Page.{Left, left, call}
use Rattle.machine.proofs.Laws.Blind.{SameLeft, blind}
use Rattle.benchline.specs.Line.{fields}
use Rattle.listing.specs.declared.CodeFound.TheVariants.{Nothing, Cut}
use Rattle.listing.specs.Listing.{all_stand, words_at, found_at, listing_line, lines_from, listing_of}
use Rattle.listing.specs.Listing as Listing
use Rattle.listing.proofs.Laws.Alike.{listing-alike}
use Rattle.refusal.specs.declared.Refusal.{Refusal}
use Rattle.stepline.specs.declared.Shown.{Shown}
use Rattle.stepline.specs.Shown.{writes_text, code_text, step_line, step_text, ShownPage, shown_page, shown_as, show_why, show_of}
use Rattle.stepline.proofs.Once.{one-shown}

-- ---- two images that agree on fitted bytes: the same work makes the same accesses

both-same : {A : Type 0} {map : List ℕ} {x y : A} {m n : List ℕ} → Alike map (value x m) (value y n) → (x ≡ y) × (length m ≡ length n) × Agree map m n
both-same (both l g) = (refl, l, g)

go_on : (b : Bool) (xs ys : List Access) → (b ≡ true → xs ≡ ys) → cond b xs [] ≡ cond b ys []
go_on true xs ys h = h refl
go_on false xs ys h = refl

module _ (map : List ℕ) where
  -- one access
  get-same : (z : Size) (a : ℕ) (m n : List ℕ) → length m ≡ length n → Agree map m n → fitted map a ≡ true → get z m a ≡ get z n a
  unfolding run
  get-same z a m n l g f = (both-same (rw f at (alike map (read_at z a (λ v. give v)) m n l g))).0

  put_same : (z : Size) (a v : ℕ) (m n : List ℕ) → length m ≡ length n → Agree map m n → writable map a ≡ true
      → (length (put z m a v) ≡ length (put z n a v)) × Agree map (put z m a v) (put z n a v)
  unfolding run
  put_same z a v m n l g f = let h = both-same (rw f at (alike map (write z a v) m n l g)) in (h.1, h.2)

  -- and all of them
  accesses-alike : {A : Type 0} (w : Work A) (m n : List ℕ) → length m ≡ length n → Agree map m n → accesses map w m ≡ accesses map w n
  unfolding accesses
  accesses-alike (give x) m n l g = refl
  accesses-alike (read_at z a k) m n l g =
      ap (λ (xs : List Access). reads a ∷ xs) (go_on (fitted map a) _ _ (λ f. rw (get-same z a m n l g f) (accesses-alike (k (get z n a)) m n l g)))
  accesses-alike (write_at z a v w) m n l g =
      ap (λ (xs : List Access). writes a ∷ xs) (go_on (writable map a) _ _ (λ f.
      accesses-alike w (put z m a v) (put z n a v) (put_same z a v m n l g f).0 (put_same z a v m n l g f).1))

  -- a step writes at the same addresses
  or_same : {x y : Came State} {ws us vs zs : List ℕ} → Alike map x y → ws ≡ us → vs ≡ zs → or_else_writes x ws vs ≡ or_else_writes y us zs
  or_same (both l g) e d = e
  or_same neither e d = d

  step-writes-alike : (out : Outside) (s : State) (m n : List ℕ) → length m ≡ length n → Agree map m n → step_writes map out s m ≡ step_writes map out s n
  unfolding step_writes error_writes
  step-writes-alike out s m n l g =
      let k = kind_of s out in
      or_same (alike map (work_of k out s) m n l g) (ap writes_of (accesses-alike (work_of k out s) m n l g))
      (or_same (alike map (bus_error k out s) m n l g) (ap writes_of (accesses-alike (bus_error k out s) m n l g)) refl)

-- ---- what is written is fitted

data Fits (map : List ℕ) : List ℕ → Type 0 where
  none : Fits map []
  more : {a : ℕ} {ws : List ℕ} → fitted map a ≡ true → Fits map ws → Fits map (a ∷ ws)

module _ (map : List ℕ) where
  written-fitted : (a : ℕ) → writable map a ≡ true → fitted map a ≡ true
  written-fitted a h = go (fitted map a) refl
    where
      go : (f : Bool) → fitted map a ≡ f → f ≡ true
      go true e = refl
      go false e = absurd (true≢false (sym h ∙ unfitted-unwritable map a e))

  work-fits : {A : Type 0} (w : Work A) (m : List ℕ) (x : A) (n : List ℕ) → run map w m ≡ value x n → Fits map (written_by map w m)
  unfolding run accesses writes_of
  work-fits (give y) m x n h = none
  work-fits (read_at z a k) m x n h =
      let f = found-value (fitted map a) a (run map (k (get z m a)) m) x n h in
      rw f.0 (work-fits (k (get z m a)) m x n f.1)
  work-fits (write_at z a v w) m x n h =
      let f = found-value (writable map a) a (run map w (put z m a v)) x n h in
      rw f.0 (more (written-fitted a f.0) (work-fits w (put z m a v) x n f.1))

  or-fits : (w : Work State) (m others : List ℕ) → Fits map others → Fits map (or_else_writes (run map w m) (written_by map w m) others)
  or-fits w m others h = came (run map w m) refl
    where
      came : (c : Came State) → run map w m ≡ c → Fits map (or_else_writes c (written_by map w m) others)
      came (value t n) r = work-fits w m t n r
      came (blank a) r = h

  step_fits : (out : Outside) (s : State) (m : List ℕ) → Fits map (step_writes map out s m)
  unfolding step_writes error_writes
  step_fits out s m =
      let k = kind_of s out in
      or-fits (work_of k out s) m _ (or-fits (bus_error k out s) m _ none)

-- ---- what is shown is the same

module _ (map m n : List ℕ) (g : Agree map m n) where
  same-page : (a b : ℕ) → b / 256 ≡ a / 256 → fitted map b ≡ fitted map a
  unfolding fitted
  same-page a b e = ap (λ (p : ℕ). not (eqb (get_or map p 0) 0)) e

  low-fitted : (a : ℕ) → fitted map (a / 2 * 2) ≡ fitted map a
  low-fitted a = same-page a (a / 2 * 2) (omega arith)

  high-fitted : (a : ℕ) → fitted map (a / 2 * 2 + 1) ≡ fitted map a
  high-fitted a = same-page a (a / 2 * 2 + 1) (omega arith)

  word_same : (a : ℕ) → fitted map a ≡ true → word_at m (a / 2 * 2) ≡ word_at n (a / 2 * 2)
  word_same a f = rw (g (a / 2 * 2) (low-fitted a ∙ f), g (a / 2 * 2 + 1) (high-fitted a ∙ f)) refl

  -- the words that were written
  writes-same : (ws : List ℕ) → Fits map ws → writes_text m ws ≡ writes_text n ws
  unfolding writes_text
  writes-same [] none = refl
  writes-same (a ∷ ws) (more f h) = rw (word_same a f, writes-same ws h) refl

  -- the op code at an even address: the first line of a listing from there to the last, or a word past the last
  module _ (last a : ℕ) where
    first-line : (k : ℕ) (i : List ℕ) → leb (a / 2 * 2) last ≡ true → listing_line map i last (a / 2 * 2) ≡ get_or (lines_from map i last (suc k) (a / 2 * 2)) 0 []
    unfolding lines_from
    first-line k i e = rw e refl

    within : leb (a / 2 * 2) last ≡ true → listing_line map m last (a / 2 * 2) ≡ listing_line map n last (a / 2 * 2)
    unfolding listing_of
    within e =
        first-line 32767 m e
        ∙ ap (λ (ls : List (List ℕ)). get_or ls 0 []) (listing-alike map m n g last (a / 2 * 2) (omega arith))
        ∙ sym (first-line 32767 n e)

    past : leb (a / 2 * 2) last ≡ false → listing_line map m last (a / 2 * 2) ≡ listing_line map n last (a / 2 * 2)
    unfolding listing_line found_at all_stand Listing.line_of fields
    past e = rw e (go (fitted map (a / 2 * 2)) (λ f. word_same a (sym (low-fitted a) ∙ f)))
      where
        go : (f : Bool) → (f ≡ true → word_at m (a / 2 * 2) ≡ word_at n (a / 2 * 2))
            → Listing.line_of (a / 2 * 2) (words_at m (a / 2 * 2)) (cond f Cut Nothing) ≡ Listing.line_of (a / 2 * 2) (words_at n (a / 2 * 2)) (cond f Cut Nothing)
        go true h = rw (h refl) refl
        go false h = refl

    line_same : listing_line map m last (a / 2 * 2) ≡ listing_line map n last (a / 2 * 2)
    line_same = go (leb (a / 2 * 2) last) refl
      where
        go : (b : Bool) → leb (a / 2 * 2) last ≡ b → listing_line map m last (a / 2 * 2) ≡ listing_line map n last (a / 2 * 2)
        go true e = within e
        go false e = past e

  code_same : (code : Bool) (s : State) → code_text map code s m ≡ code_text map code s n
  unfolding code_text
  code_same code s = ap (λ (t : List ℕ). cond code t []) (line_same 65534 s.regs.pc)

-- ---- the call

-- its answer and its image, without the text
abbrev no_text : Left ShownPage (List ℕ × List ℕ) → Left ShownPage (List ℕ)
no_text x = left x.page x.lent.0

-- the same answer and text, images that agree on fitted bytes, and bytes that can't be written as lent
pub record ShownAlike (map m n : List ℕ) (x y : Left ShownPage (List ℕ × List ℕ)) : Type 0 where
  pub same : SameLeft map (no_text x) (no_text y)
  pub text : x.lent.1 ≡ y.lent.1
  pub stay : Untouched map m x.lent.0
  pub stay_too : Untouched map n y.lent.0

module _ (settings : Settings) (map m n : List ℕ) (l : length m ≡ length n) (g : Agree map m n) (line number : ℕ) (s : State) where
  text_same : step_text settings map line number s m ≡ step_text settings map line number s n
  unfolding step_text step_line
  text_same =
      let out = heard settings line in
      let h = step-alike map out s m n l g in
      let shown = writes-same map (step_of map out s m).image (step_of map out s n).image h.agree (step_writes map out s n) (step_fits map out s n) in
      rw (code_same map m n g _ s, h.state, h.cause, step-writes-alike map out s m n l g, shown) refl

  pub show-alike : (b : List ℕ) → ShownAlike map m n (show_of settings m map line number s b) (show_of settings n map line number s b)
  unfolding show_of
  show-alike b = rw l (split (show_why settings (length n) map line (length b)))
    where
      shows : List ℕ → Left ShownPage (List ℕ × List ℕ)
      shows i = shown_as (step_of map (heard settings line) s i) (step_text settings map line number s i) b

      split : (why : ℕ) → ShownAlike map m n (call why (shows m) (m, b)) (call why (shows n) (n, b))
      split zero =
          let out = heard settings line in
          let h = step-alike map out s m n l g in
          record {
            same = record { page = rw (text_same, h.state, h.cause) refl; agree = h.agree };
            text = rw text_same refl;
            stay = step-untouched map out s m;
            stay_too = step-untouched map out s n;
          }
      split (suc why) = record { same = record { page = refl; agree = g }; text = refl; stay = λ a e. refl; stay_too = λ a e. refl }

pub line-blind : {map m n m' n' text₁ text₂ : List ℕ} (r q : Result Shown Refusal) {x y : Left ShownPage (List ℕ × List ℕ)} → left (shown_page r) (m', text₁) ≡ x → left (shown_page q) (n', text₂) ≡ y
    → ShownAlike map m n x y → Blind {A = Result Shown Refusal × List ℕ} map m n (r, text₁) (q, text₂) m' n'
line-blind {map} {m} {n} {m'} {n'} {text₁} {text₂} r q e d h =
    let once : shown_page r ≡ shown_page q → r ≡ q = λ p. (one-shown r q (m', text₁) (m', text₁) (ap (λ z. left z (m', text₁)) p)).0 in
    let b : Blind map m n r q m' n' = blind shown_page r q once (ap no_text e) (ap no_text d) h.same h.stay h.stay_too in
    let text : text₁ ≡ text₂ = ap (λ z. z.lent.1) e ∙ h.text ∙ sym (ap (λ z. z.lent.1) d) in
    record { answer = rw (b.answer, text) refl; fitted_agree = b.fitted_agree; unfitted_stay = b.unfitted_stay; unfitted_stay_too = b.unfitted_stay_too }
