-- From the callees' promises to the listing.
pub mod Follow
use Prim.Native.Nat.{ℕ, ◌+◌, ◌-◌, ◌*◌, ◌≤◌, ◌<◌}
use mathlib.Core.Bool.{Bool, true, false, cond}
use mathlib.Core.List.{List, [], ◌∷◌, ◌++◌, append_assoc, append-nil}
use mathlib.Core.Path.{◌≡◌, refl, ap, sym, ◌∙◌, subst}
use native.Mathlib.Omega.{arith}
use borrow.Author.Tests.{le-ltb, lt-ltb, le-leb, lt-leb, leb-true, ltb-false}
use lib.Dec.{ltb, leb}
use lib.ListN.{length, length-append, take, drop, get_or}
use Rattle.hexdigits.specs.Over.{in_front_of, Wrote, WroteAt}
use Rattle.hexdigits.proofs.Laws.Laid.{then, wrote_none, part_room}
use borrow.Rule.Slice.PartMut.{mid_of}
use Rattle.refusal.specs.Numbers.{job_ends, no_stretch, text_short}
use Rattle.refusal.specs.Page.{refused, answered, left, call, first}
use Rattle.refusal.proofs.Laws.Page.{first_some, first-both, answered-one, refused-one, apart, call-right, call-refused}
use Rattle.wordbytes.specs.Words.{word_at}
use Rattle.board.specs.Work.{fitted}
use Rattle.refusal.specs.Refusal.{board_refusal, power_refusal, run_refusal}
use Rattle.job.proofs.Laws.Sound.{job-taken}
use Rattle.job.specs.Job.{image_of, map_of, lines_of, Filled, why_read}
use Rattle.benchline.specs.Line.{fields, dashes, print_why}
use Rattle.benchline.proofs.Laws.Lengths.{fields-length}
use Rattle.optext.specs.Line.{word_text, taken, text_of}
use Rattle.optext.proofs.Laws.Meets.{taken-le}
use Rattle.optext.proofs.Laws.Longest.{text-le}
use Rattle.listing.specs.declared.CodeFound.{CodeFound}
use Rattle.listing.specs.declared.CodeFound.TheVariants.{Nothing, Cut, Whole}
use Rattle.listing.specs.declared.Listed.{Listed}
use Rattle.std.proofs.Common.{Result, Ok, Err}
use Rattle.refusal.specs.declared.Refusal.{Refusal}
use Rattle.listing.specs.Listing.{all_stand, words_at, found_at, line, line_of, moves_on, listing_line, next_at, listing_of}
use Rattle.listing.specs.Calls.{Next, goes_on, ends, next_told, lined, listed_page, bad_stretch, line_why, next_of, line_in, line_call}
use Rattle.listing.proofs.Laws.{word-length, room-there}
use Rattle.listing.proofs.Laws as ListingLaws
use Rattle.listing.proofs.Laws.Joined.{taken-some, cond-none, GoodStretch, good, next-further, goes-on, ends-past, listing-more, listing-end}
use Rattle.listjob.specs.Stretch.{first_address, last_address, job_in, line_end, ended, listing_on, listing_in, stretch_room, stretch_why, list_why, listed_in, list_of, LineFits, Lists, ended_at}
use Rattle.listjob.proofs.Laws.Follow.{goes-within, next-good, other-taken}

-- ---- how long a line is: 44 characters at most, and with its end 35 for each of its words

few-of : (a : ℕ) (ws : List ℕ) (f : CodeFound) → 1 ≤ moves_on f → moves_on f ≤ 3 → (length (line_of a ws f) ≤ 44) × (length (line_of a ws f) + 1 ≤ moves_on f * 35)
unfolding line_of
few-of a ws Nothing h k = let e = length-append (fields (a ∷ ws) 1) dashes ∙ refl in (omega (arith, e, fields-length (a ∷ ws) 1), omega (arith, e, fields-length (a ∷ ws) 1))
few-of a ws Cut h k = let e = length-append (fields (a ∷ ws) 2) (word_text (get_or ws 0 0)) in (omega (arith, e, fields-length (a ∷ ws) 2, word-length (get_or ws 0 0)), omega (arith, e, fields-length (a ∷ ws) 2, word-length (get_or ws 0 0)))
few-of a ws (Whole n) h k =
    let e = length-append (fields (a ∷ ws) (n + 1)) (text_of (take n ws)) in
    (omega (arith, h, k, e, fields-length (a ∷ ws) (n + 1), text-le (take n ws)), omega (arith, h, k, e, fields-length (a ∷ ws) (n + 1), text-le (take n ws)))

module _ (map image : List ℕ) (last a : ℕ) where
  moves-few : (1 ≤ moves_on (found_at map image last a)) × (moves_on (found_at map image last a) ≤ 3)
  unfolding found_at
  moves-few = by (fitted map a) (all_stand map last a (taken (word_at image a)))
    where
      by : (f s : Bool) → (1 ≤ moves_on (cond f (cond s (Whole (taken (word_at image a))) Cut) Nothing)) × (moves_on (cond f (cond s (Whole (taken (word_at image a))) Cut) Nothing) ≤ 3)
      by true true = (taken-some (word_at image a), taken-le (word_at image a))
      by true false = (omega arith, omega arith)
      by false s = (omega arith, omega arith)

  line-short : length (listing_line map image last a) ≤ 44
  unfolding listing_line
  line-short = (few-of a (words_at image a) (found_at map image last a) moves-few.0 moves-few.1).0

  line-few : length (ended_at image map a last) * 2 + a * 35 ≤ next_at map image last a * 35
  unfolding listing_line next_at
  line-few =
      let m = moves-few in
      let f = (few-of a (words_at image a) (found_at map image last a) m.0 m.1).1 in
      omega (arith, f, length-append (listing_line map image last a) line_end)

-- ---- a line and its end

module _ (image map : List ℕ) (a last : ℕ) (b : List ℕ) (z : line_why (length image) map a last (length b) ≡ 0) where
  line-is : (r : Result Listed Refusal) (e : List ℕ) → left (listed_page r) e ≡ line_call image map a last b → left (listed_page r) e ≡ line_in image map a last b
  unfolding line_call
  line-is r e h = rw z at h

  abbrev l : List ℕ
  l = listing_line map image last a

  abbrev p : ℕ
  p = next_at map image last a

  -- what is left where a line was listed
  pub record Listing (n : ℕ) (x : Next) (e : List ℕ) : Type 0 where
    pub wrote : Wrote l b e n
    pub next : x ≡ next_of last p

  listing : (n : ℕ) (x : Next) (e : List ℕ) → left (answered (lined n x)) e ≡ line_in image map a last b → Listing n x e
  listing n x e h =
      let t = answered-one (ap (λ z. z.page) h) in
      record { wrote = record { bytes = ap (λ z. z.lent) h; count = ap (λ z. z.count) t }; next = ap (λ z. z.next) t }

  pub listing-line : (k : Listed) (r : Result Listed Refusal) (e : List ℕ) → r ≡ Ok k → left (listed_page r) e ≡ line_call image map a last b → Listing k.length (next_told k.next) e
  listing-line k r e d h = listing k.length (next_told k.next) e (ap (λ z. left (listed_page z) e) (sym d) ∙ line-is r e h)

  pub listing-never : (why : Refusal) (r : Result Listed Refusal) (e : List ℕ) → r ≡ Err why → left (listed_page r) e ≡ line_call image map a last b → ⊥
  listing-never why r e d h = apart (sym (ap (λ z. z.page) (ap (λ z. left (listed_page z) e) (sym d) ∙ line-is r e h)))

  pub fits-end : (n : ℕ) (x : Next) (e : List ℕ) → Listing n x e → n + 1 ≤ length b
  fits-end n x e g = omega (arith, g.wrote.count, line-short map image last a, room-there (length image) map a last (length b) z)

  pub line-ended : (n : ℕ) (x : Next) (e e' : List ℕ) (r : ℕ) → Listing n x e → WroteAt n line_end e e' r → Wrote (ended_at image map a last) b e' r
  line-ended n x e e' r g w = then l line_end b e e' n r g.wrote w

-- ---- from a place of the text on

pub ended-short : (image map : List ℕ) (a last : ℕ) → length (ended_at image map a last) ≤ 45
ended-short image map a last = omega (arith, length-append (listing_line map image last a) line_end, line-short map image last a)

pub part-taken : (image map : List ℕ) (a last at : ℕ) (text : List ℕ) → LineFits image map a last at text → line_why (length image) map a last (length (mid_of at (length text - at) text)) ≡ 0
part-taken image map a last at text f =
    other-taken (length image) map a last 52 a (length (mid_of at (length text - at) text)) f.none (good (length image) map a last 52 f.none) (part_room at 52 text f.there)

-- ---- all of a stretch

module _ (image map : List ℕ) (first last : ℕ) (start : List ℕ) where
  -- what was written so far, and that the listing is that and what is left from the address a on
  pub record Begun (text : List ℕ) (a at : ℕ) : Type 0 where
    pub before : List ℕ
    pub wrote : Wrote before start text at
    pub whole : listing_on image map first last ≡ before ++ listing_on image map a last
    pub none : line_why (length image) map a last 52 ≡ 0
    pub low : at * 2 ≤ a * 35
    pub size : length text ≡ length start

  pub begun-none : line_why (length image) map first last 52 ≡ 0 → Begun start first 0
  begun-none z = record { before = []; wrote = wrote_none start; whole = refl; none = z; low = omega arith; size = refl }

  module _ (k : last < 65536) (text : List ℕ) (a at : ℕ) (b : Begun text a at) where
    stretch : GoodStretch a last
    stretch = good (length image) map a last 52 b.none

    pub begun-low : a < 65536
    begun-low = omega (arith, k, stretch.within)

    pub begun-fits : stretch_room ≤ length start → LineFits image map a last at text
    begun-fits h = record { none = b.none; there = omega (arith, h, k, b.low, b.size, stretch.within, stretch.even); low = omega (arith, k, b.low, stretch.within) }

    -- the listing from here on is a line, and the listing from the next address on
    from-here : listing_on image map a last ≡ ended_at image map a last ++ listing_on image map (next_at map image last a) last
    unfolding ended
    from-here = ap ended (listing-more map image last a stretch.within (omega (arith, k, stretch.last_even)))

    module _ (e : List ℕ) (n : ℕ) (w : WroteAt at (ended_at image map a last) text e n) where
      pub begun_more : (next : ℕ) → length e ≡ length text → goes_on next ≡ next_of last (next_at map image last a) → Begun e next n
      begun_more next l g =
          let q = g in
          let p = goes-on image map last (next_at map image last a) next q in
          let within = goes-within image map last (next_at map image last a) next q in
          rw p
          record {
            before = b.before ++ ended_at image map a last;
            wrote = then b.before (ended_at image map a last) start text e at n b.wrote w;
            whole = b.whole ∙ ap (λ (z : List ℕ). b.before ++ z) from-here ∙ sym (append_assoc b.before (ended_at image map a last) (listing_on image map (next_at map image last a) last));
            none = other-taken (length image) map a last 52 (next_at map image last a) 52 b.none (next-good image map last a stretch within) (omega arith);
            low = omega (arith, w.count, b.low, line-few map image last a);
            size = l ∙ b.size;
          }

      pub begun-further : (next : ℕ) → goes_on next ≡ next_of last (next_at map image last a) → a < next
      begun-further next g = omega (arith, goes-on image map last (next_at map image last a) next g, next-further map image last a)

      pub begun-last : ends ≡ next_of last (next_at map image last a) → Wrote (listing_on image map first last) start e n
      unfolding ended
      begun-last g =
          let z = ap ended (listing-end map image last (next_at map image last a) (ends-past image map last (next_at map image last a) g)) in
          rw (b.whole, from-here, z, append-nil (ended_at image map a last)) (then b.before (ended_at image map a last) start text e at n b.wrote w)

-- ---- refusals

module _ (input : List ℕ) (text image map lines : ℕ) where
  pub why-short : text < 1146932 → text_short ≡ list_why input text image map lines
  unfolding list_why
  why-short h = rw (lt-leb stretch_room text h) refl

  module _ (h : 1146932 ≤ text) where
    pub why-cut : length input < 4 → job_ends ≡ list_why input text image map lines
    unfolding list_why
    why-cut c = rw (le-leb stretch_room text h, lt-ltb (length input) 4 c) refl

    module _ (i : 4 ≤ length input) (k : ℕ) (e : k ≡ why_read image map lines (job_in input)) where
      pub why-job : (k ≡ 0 → ⊥) → k ≡ list_why input text image map lines
      unfolding list_why
      why-job n = rw (le-leb stretch_room text h, le-ltb (length input) 4 i, ← e) (first_some k _ n)

      module _ (z : k ≡ 0) (s : Bool) (b : s ≡ bad_stretch (first_address input) (last_address input)) where
        pub why-stretch : s ≡ true → no_stretch ≡ list_why input text image map lines
        unfolding list_why
        why-stretch t = rw (le-leb stretch_room text h, le-ltb (length input) 4 i, ← e, z, ← b, t) refl

        pub why-none : s ≡ false → 0 ≡ list_why input text image map lines
        unfolding list_why
        why-none t = rw (le-leb stretch_room text h, le-ltb (length input) 4 i, ← e, z, ← b, t) refl

-- ---- the call

-- what is known where nothing is refused
pub record ListingTaken (input : List ℕ) (text image map lines : ℕ) : Type 0 where
  pub there : stretch_room ≤ text
  pub some : 4 ≤ length input
  pub read : why_read image map lines (job_in input) ≡ 0
  pub stretch : bad_stretch (first_address input) (last_address input) ≡ false

pub taken-all : (input : List ℕ) (text image map lines : ℕ) → list_why input text image map lines ≡ 0 → ListingTaken input text image map lines
unfolding list_why
taken-all input text image map lines e =
    let a = first-both (print_why stretch_room text) _ e in
    let b = first-both (cond (ltb (length input) 4) job_ends 0) _ a.1 in
    let c = first-both (why_read image map lines (job_in input)) _ b.1 in
    record {
      there = leb-true stretch_room text (told_none (leb stretch_room text) text_short (λ h. omega (arith, h)) a.0);
      some = ltb-false (length input) 4 (cond-none (ltb (length input) 4) job_ends (λ h. omega (arith, h)) b.0);
      read = c.0;
      stretch = cond-none (bad_stretch (first_address input) (last_address input)) no_stretch (λ h. omega (arith, h)) c.1;
    }
  where
    told_none : (t : Bool) (k : ℕ) → (k ≡ 0 → ⊥) → cond t 0 k ≡ 0 → t ≡ true
    told_none true k n q = refl
    told_none false k n q = absurd (n q)

-- an accepted job's image and map are not refused
job-board : (job : List ℕ) (image map lines : ℕ) → why_read image map lines job ≡ 0 → board_refusal (length (image_of job)) (map_of job) ≡ 0
unfolding run_refusal power_refusal
job-board job image map lines e =
    let run = (job-taken job 3 3 0 image map lines refl e).1 in
    let power = (first-both (power_refusal (length (image_of job)) (map_of job) 3 3 0) _ run).0 in
    (first-both (board_refusal (length (image_of job)) (map_of job)) _ power).0

module _ (input text image map lines : List ℕ) where
  pub list-refused : (why : ℕ) → why ≡ list_why input (length text) (length image) (length map) (length lines) → (why ≡ 0 → ⊥) → left (refused why) (text, image, map, lines) ≡ list_of input text image map lines
  unfolding list_of
  list-refused why e n = call-refused (list_why input (length text) (length image) (length map) (length lines)) (listed_in input text) (text, image, map, lines) why e n

  module _ (z : list_why input (length text) (length image) (length map) (length lines) ≡ 0) where
    pub taken_is : ListingTaken input (length text) (length image) (length map) (length lines)
    taken_is = taken-all input (length text) (length image) (length map) (length lines) z

    pub lists-is : (image' map' lines' : List ℕ) (count first last : ℕ) → Filled (job_in input) image' map' lines' count → first ≡ first_address input → last ≡ last_address input → Lists image' map' first last text
    lists-is image' map' lines' count first last f p q =
        let t = taken_is in
        let board = job-board (job_in input) (length image) (length map) (length lines) t.read in
        let none = ListingLaws.why-none (length (image_of (job_in input))) (map_of (job_in input)) (first_address input) (last_address input) 52 (board_refusal (length (image_of (job_in input))) (map_of (job_in input))) refl board (bad_stretch (first_address input) (last_address input)) refl t.stretch (omega arith) in
        rw (f.image-is, f.map_is, p, q) (record { none = sym none; there = t.there })

    pub list_done : (image' map' lines' text' : List ℕ) (count first last n : ℕ) → Filled (job_in input) image' map' lines' count → first ≡ first_address input → last ≡ last_address input
        → Wrote (listing_on image' map' first last) text text' n → left (answered n) (text', image', map', lines') ≡ list_of input text image map lines
    unfolding list_of listing_in
    list_done image' map' lines' text' count first last n f p q w = rw (z, w.bytes, w.count, f.image-is, f.map_is, f.lines-is, p, q) refl
