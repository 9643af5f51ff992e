-- Laws of the job's definitions, in the order in which the proofs use them.
pub mod Longest
pub mod Sound
use Prim.Native.Nat.{ℕ, zero, suc, ◌+◌, ◌-◌, ◌*◌, ◌<◌, ◌≤◌}
use mathlib.Core.Bool.{true, false, cond}
use mathlib.Core.List.{List}
use mathlib.Core.Path.{◌≡◌, refl, sym, ap, ◌∙◌}
use lib.ListN.{length, get_or, set, drop, replicate}
use Rattle.job.specs.declared.Section.{Section}
use Rattle.job.specs.declared.Section.TheVariants as section
use Rattle.std.proofs.Common.{Result}
use native.Mathlib.Omega.{arith}
use native.Mathlib.Numerals.{add-one}
use native.Mathlib.Nat.{suc-mul}
use borrow.Author.Tests.{le-leb, lt-leb, leb-true, eqb-true}
use lib.Dec.{leb, eqb}
use lib.Seq.{drop-cons}
use Rattle.wordbytes.specs.Words.{byte_at, word_at}
use Rattle.refusal.specs.Numbers.{image_length, map_length, lines_length, job_ends}
use Rattle.refusal.specs.Page.{refused, answered, left, first}
use Rattle.refusal.specs.declared.Refusal.{Refusal}
use Rattle.refusal.proofs.Laws.Answer.{page-one}
use Rattle.refusal.proofs.Laws.Page.{first_some, first-both, call-refused, one-call}
use Rattle.refusal.proofs.Laws.Refusal.{cond-none}
use Rattle.job.specs.Job.{sections, entry_size, most_of, over_of, key_at, fit_page, cut, why_key, why_entry, why_entries, fit_pages, why_count, why_left, after_section, why_sections, words_stored, listed, marked, absent, words_section, lines_at, read_only_at, image_of, map_of, lines_of, Filled, JobRoom, job_page, buffers_of, why_read, job_of}

-- an entry or a count of this size is cut short, or is not
cut_short : (input : List ℕ) (at size : ℕ) → length input - at < size → cut input at size ≡ job_ends
cut_short input at size h = simp (lt-leb (at + size) (length input) (omega arith))

cut-none : (input : List ℕ) (at size : ℕ) → at ≤ length input → size ≤ length input - at → cut input at size ≡ 0
cut-none input at size b h = simp (le-leb (at + size) (length input) (omega arith))

-- the refusal of an entry
pub entry-cut : (s : Section) (input : List ℕ) (at low : ℕ) (map : List ℕ) → length input - at < entry_size s
    → job_ends ≡ why_entry s input at low map
unfolding why_entry
entry-cut s input at low map h = rw (cut_short input at (entry_size s) h) refl

pub entry-own : (s : Section) (input : List ℕ) (at low : ℕ) (map : List ℕ) (key why : ℕ) → at ≤ length input → entry_size s ≤ length input - at
    → key ≡ key_at s input at → why ≡ why_key s map low key → why ≡ why_entry s input at low map
unfolding why_entry
entry-own s input at low map key why b h k e =
    rw (cut-none input at (entry_size s) b h) (e ∙ ap (λ (x : ℕ). why_key s map low x) k)

-- the refusal of a count
pub count_cut : (s : Section) (input : List ℕ) (at : ℕ) → length input - at < 2 → job_ends ≡ why_count s input at
unfolding why_count
count_cut s input at h = rw (cut_short input at 2 h) refl

pub count-over : (s : Section) (input : List ℕ) (at : ℕ) → at ≤ length input → 2 ≤ length input - at → most_of s < word_at input at
    → over_of s ≡ why_count s input at
unfolding why_count
count-over s input at b h m = rw (cut-none input at 2 b h, lt-leb (word_at input at) (most_of s) m) refl

pub count-good : (s : Section) (input : List ℕ) (at : ℕ) → at ≤ length input → 2 ≤ length input - at → word_at input at ≤ most_of s
    → 0 ≡ why_count s input at
unfolding why_count
count-good s input at b h m = rw (cut-none input at 2 b h, le-leb (word_at input at) (most_of s) m) refl

pub first-first : (a b later : ℕ) → first (first a b) later ≡ first a (first b later)
first-first zero b later = refl
first-first (suc a) b later = refl

cut-zero : (input : List ℕ) (at size : ℕ) → cut input at size ≡ 0 → at + size ≤ length input
cut-zero input at size e =
    leb-true (at + size) (length input) (cond-none (leb (at + size) (length input)) job_ends (λ h. omega arith) e)

-- what is not cut short is there
pub count_room : (s : Section) (input : List ℕ) (at : ℕ) → why_count s input at ≡ 0 → at + 2 ≤ length input
unfolding why_count
count_room s input at e = cut-zero input at 2 (first-both (cut input at 2) _ e).0

pub entry-room : (s : Section) (input : List ℕ) (at low : ℕ) (map : List ℕ) → why_entry s input at low map ≡ 0 → at + entry_size s ≤ length input
unfolding why_entry
entry-room s input at low map e = cut-zero input at (entry_size s) (first-both (cut input at (entry_size s)) _ e).0

-- ---- the entries of a section, as the loop counts them: n are left, and m after this one

module _ (s : Section) (input : List ℕ) (n m at low : ℕ) (map : List ℕ) (e : n ≡ suc m) where
  pub entry-refused : (why : ℕ) → why ≡ why_entry s input at low map → (why ≡ 0 → ⊥) → why ≡ why_entries s input n at low map
  unfolding why_entries
  entry-refused why w some = rw (e, ← w) (first_some why _ some)

  pub entry-taken : {at' low' : ℕ} {map' : List ℕ} → 0 ≡ why_entry s input at low map → at' ≡ at + entry_size s → low' ≡ key_at s input at + 1 → map' ≡ fit_page s (key_at s input at) map
      → why_entries s input m at' low' map' ≡ why_entries s input n at low map
  unfolding why_entries
  entry-taken w a l k = rw (e, ← w, a, l, k) refl

  pub page-noted : {at' : ℕ} {map' : List ℕ} → at' ≡ at + entry_size s → map' ≡ fit_page s (key_at s input at) map → fit_pages s input m at' map' ≡ fit_pages s input n at map
  unfolding fit_pages
  page-noted a k = rw (e, a, k) refl

  pub entry-passed : {at' : ℕ} → at' ≡ at + entry_size s → at' + m * entry_size s ≡ at + n * entry_size s
  entry-passed a = let k : suc m * entry_size s ≡ m * entry_size s + entry_size s = suc-mul m (entry_size s) in rw (e, a) (omega (arith, k))

module _ (s : Section) (input : List ℕ) (n at low : ℕ) (map : List ℕ) (e : n ≡ 0) where
  pub entries-end : why_entries s input n at low map ≡ 0
  unfolding why_entries
  entries-end = rw e refl

  pub pages-end : fit_pages s input n at map ≡ map
  unfolding fit_pages
  pages-end = rw e refl

-- ---- the sections: what is left from here on comes to the whole job's refusal, `whole`

sections-from : (i : ℕ) (input : List ℕ) (at : ℕ) (map : List ℕ) → i < 4 → why_sections (drop i sections) input at map
    ≡ cond (absent (get_or sections i section.Pages) input at) 0
    (first (first (why_count (get_or sections i section.Pages) input at) (why_entries (get_or sections i section.Pages) input (word_at input at) (at + 2) 0 map))
    (why_sections (drop (i + 1) sections) input (after_section (get_or sections i section.Pages) input at) (fit_pages (get_or sections i section.Pages) input (word_at input at) (at + 2) map)))
unfolding why_sections sections
sections-from i input at map h =
    rw (drop-cons sections i section.Pages h, add-one i) (ap (λ (x : ℕ). cond (absent (get_or sections i section.Pages) input at) 0 x) (sym (first-first (why_count (get_or sections i section.Pages) input at) _ _)))

module _ (input : List ℕ) (whole i at : ℕ) (map : List ℕ) (met : why_sections (drop i sections) input at map ≡ whole) where
  -- past the last section nothing may be left over
  pub sections-end : (why : ℕ) → i ≡ 4 → why ≡ why_left input at → why ≡ whole
  unfolding why_sections sections
  sections-end why e w = w ∙ (rw e at met)

  module _ (s : Section) (l : i < 4) (e : s ≡ get_or sections i section.Pages) where
    -- a section that is missing
    pub section-absent : absent s input at ≡ true → 0 ≡ whole
    section-absent a = rw (← e, a) at (sym (sections-from i input at map l)) ∙ met

    -- one that is there, and refused or taken
    there : absent s input at ≡ false
        → first (first (why_count s input at) (why_entries s input (word_at input at) (at + 2) 0 map))
        (why_sections (drop (i + 1) sections) input (after_section s input at) (fit_pages s input (word_at input at) (at + 2) map)) ≡ whole
    there a = rw (← e, a) at (sym (sections-from i input at map l)) ∙ met

    pub section-refused : absent s input at ≡ false → (why : ℕ) → why ≡ first (why_count s input at) (why_entries s input (word_at input at) (at + 2) 0 map) → (why ≡ 0 → ⊥) → why ≡ whole
    section-refused a why w some = first_some why _ some ∙ rw (← w) at there a

    pub section-taken : absent s input at ≡ false → {end : ℕ} {map' : List ℕ} → 0 ≡ first (why_count s input at) (why_entries s input (word_at input at) (at + 2) 0 map)
        → end ≡ after_section s input at → map' ≡ fit_pages s input (word_at input at) (at + 2) map → why_sections (drop (i + 1) sections) input end map' ≡ whole
    section-taken a w k n = rw (k, n) (rw (← w) at there a)

-- one more entry of each section, as the filling loops go over them: n are left, and m after this one
pub marked_more : (value : ℕ) (input : List ℕ) {n m at' : ℕ} (at : ℕ) (map : List ℕ) (page : ℕ) → n ≡ suc m → at' ≡ at + 1 → page ≡ byte_at input at
    → marked value input m at' (set map page value) ≡ marked value input n at map
unfolding marked
marked_more value input at map page k a e = rw (k, a, e) refl

pub stored_more : (input : List ℕ) {n m at' : ℕ} (at : ℕ) (image : List ℕ) {image' image'' : List ℕ} {address low high : ℕ} → n ≡ suc m → at' ≡ at + 4
    → address ≡ word_at input at → low ≡ byte_at input (at + 2) → high ≡ byte_at input (at + 3)
    → image' ≡ set image address low → image'' ≡ set image' (address + 1) high
    → words_stored input m at' image'' ≡ words_stored input n at image
unfolding words_stored
stored_more input at image k b a l g e f = rw (k, b, f, e, a, l, g) refl

pub listed_more : (input : List ℕ) {n m at' k' : ℕ} (at k : ℕ) (lines : List ℕ) {lines' : List ℕ} {line : ℕ} → n ≡ suc m → at' ≡ at + 2 → k' ≡ k + 1 → line ≡ word_at input at
    → lines' ≡ set lines k line → listed input m at' k' lines' ≡ listed input n at k lines
unfolding listed
listed_more input at k lines h a g l e = rw (h, a, g, e, l) refl

-- nothing is left of a section
pub marked-end : (value : ℕ) (input : List ℕ) (n at : ℕ) (map : List ℕ) → n ≡ 0 → map ≡ marked value input n at map
unfolding marked
marked-end value input n at map e = rw e refl

pub stored-end : (input : List ℕ) (n at : ℕ) (image : List ℕ) → n ≡ 0 → image ≡ words_stored input n at image
unfolding words_stored
stored-end input n at image e = rw e refl

pub listed-end : (input : List ℕ) (n at k : ℕ) (lines : List ℕ) → n ≡ 0 → lines ≡ listed input n at k lines
unfolding listed
listed-end input n at k lines e = rw e refl

-- what the filling pass leaves
zeros : (b d : List ℕ) (size : ℕ) → length d ≡ size → b ≡ replicate (length d) 0 → b ≡ replicate size 0
zeros b d size e h = h ∙ ap (λ (n : ℕ). replicate n 0) e

pub map-filled : (input lent clean pages map : List ℕ) (n at k : ℕ) → length lent ≡ 256 → clean ≡ replicate (length lent) 0
    → n ≡ word_at input 0 → pages ≡ marked 1 input n 2 clean
    → at ≡ read_only_at input → k ≡ word_at input at → map ≡ marked 2 input k (at + 2) pages → map ≡ map_of input
unfolding map_of
map-filled input lent clean pages map n at k l z e p a w h = rw (h, p, zeros clean lent 256 l z, e, w, a)

pub image-filled : (input lent clean image : List ℕ) (at n : ℕ) → length lent ≡ 65536 → clean ≡ replicate (length lent) 0
    → at ≡ words_section input → n ≡ word_at input at → image ≡ words_stored input n (at + 2) clean → image ≡ image_of input
unfolding image_of
image-filled input lent clean image at n l z a e h =
    h ∙ ap (λ (b : List ℕ). words_stored input n (at + 2) b) (zeros clean lent 65536 l z)
    ∙ ap (λ (k : ℕ). words_stored input k (at + 2) (replicate 65536 0)) e
    ∙ ap (λ (x : ℕ). words_stored input (word_at input x) (x + 2) (replicate 65536 0)) a

pub lines-filled : (input lent clean lines : List ℕ) (at n : ℕ) → length lent ≡ 4096 → clean ≡ replicate (length lent) 0
    → at ≡ lines_at input → n ≡ word_at input at → lines ≡ listed input n (at + 2) 0 clean → lines ≡ lines_of input
unfolding lines_of
lines-filled input lent clean lines at n l z a e h =
    h ∙ ap (λ (b : List ℕ). listed input n (at + 2) 0 b) (zeros clean lent 4096 l z)
    ∙ ap (λ (k : ℕ). listed input k (at + 2) 0 (replicate 4096 0)) e
    ∙ ap (λ (x : ℕ). listed input (word_at input x) (x + 2) 0 (replicate 4096 0)) a

-- where the sections start, as the filling pass reckons it
pub words-at : (input : List ℕ) (n : ℕ) → n ≡ word_at input 0 → 2 + n ≡ words_section input
words-at input n e = omega (arith, e)

pub lines-at : (input : List ℕ) (at n : ℕ) → at ≡ words_section input → n ≡ word_at input at → at + 2 + n * 4 ≡ lines_at input
lines-at input at n a e = rw e (ap (λ (x : ℕ). x + 2 + word_at input x * 4) a)

pub read-only-at : (input : List ℕ) (at n : ℕ) → at ≡ lines_at input → n ≡ word_at input at → at + 2 + n * 2 ≡ read_only_at input
read-only-at input at n a e = rw e (ap (λ (x : ℕ). x + 2 + word_at input x * 2) a)

-- where nothing is refused, the lent buffers have their lengths
pub read-lengths : (image map lines : List ℕ) (input : List ℕ) → why_read (length image) (length map) (length lines) input ≡ 0 → JobRoom image map lines
unfolding why_read
read-lengths image map lines input e =
    let a = first-both (cond (eqb (length image) 65536) 0 image_length) _ e in
    let b = first-both (cond (eqb (length map) 256) 0 map_length) _ a.1 in
    let c = first-both (cond (eqb (length lines) 4096) 0 lines_length) _ b.1 in
    record {
      bytes = eqb-true _ _ (cond-none (eqb (length image) 65536) image_length (λ h. omega arith) a.0);
      pages = eqb-true _ _ (cond-none (eqb (length map) 256) map_length (λ h. omega arith) b.0);
      words = eqb-true _ _ (cond-none (eqb (length lines) 4096) lines_length (λ h. omega arith) c.0);
    }

-- a refused job, and an accepted one
module _ (input image map lines : List ℕ) where
  pub read-refused : (why : ℕ) → why ≡ why_read (length image) (length map) (length lines) input → (why ≡ 0 → ⊥) → left (refused why) (image, map, lines) ≡ job_of input image map lines
  unfolding job_of
  read-refused why e n = call-refused (why_read (length image) (length map) (length lines) input) (left (answered (word_at input (lines_at input))) (buffers_of input)) (image, map, lines) why e n

  pub read-filled : {image' map' lines' : List ℕ} {count : ℕ} → why_read (length image) (length map) (length lines) input ≡ 0 → Filled input image' map' lines' count
      → left (answered count) (image', map', lines') ≡ job_of input image map lines
  unfolding job_of
  read-filled e f = rw (e, f.image-is, f.map_is, f.lines-is, f.count-is) refl

-- ---- ONE OUTCOME
pub one_answer : (a b : Result ℕ Refusal) → job_page a ≡ job_page b → a ≡ b
one_answer = page-one (λ x y e. e)

pub one-outcome : (a b : Result ℕ Refusal) (x y : List ℕ × List ℕ × List ℕ) → left (job_page a) x ≡ left (job_page b) y → (a ≡ b) × (x ≡ y)
one-outcome = one-call job_page one_answer
