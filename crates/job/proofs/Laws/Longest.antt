-- A job has at most 25,096 bytes. One that is longer is refused for what its first 25,097 bytes say, whatever follows them.
use Prim.Native.Nat.{ℕ, zero, suc, ◌+◌, ◌*◌, ◌<◌, ◌≤◌}
use native.Mathlib.Omega.{arith}
use native.Mathlib.Decide.{dec_le}
use native.Mathlib.Nat.{suc-mul}
use mathlib.Core.Bool.{Bool, true, false, cond}
use mathlib.Core.List.{List, [], ◌∷◌}
use mathlib.Core.Path.{◌≡◌, refl, sym, ap, ◌∙◌}
use lib.Dec.{leb, eqb}
use lib.ListN.{length, take, replicate}
use lib.Seq.{take_all, length-take-le, get_or-take}
use borrow.Author.Tests.{le-leb, leb-true, eqb-true, ne_eqb}
use Rattle.wordbytes.specs.Words.{word_at}
use Rattle.refusal.specs.Numbers.{image_length, map_length, lines_length}
use Rattle.refusal.specs.Page.{first}
use Rattle.refusal.proofs.Laws.Page.{first-both}
use Rattle.refusal.proofs.Laws.Refusal.{cond-none}
use Rattle.job.specs.declared.Section.{Section}
use Rattle.job.specs.declared.Section.TheVariants as section
use Rattle.job.specs.Job.{sections, absent, entry_size, most_of, over_of, key_at, fit_page, cut, why_entry, why_entries, fit_pages, why_count, after_section, why_sections, why_job, why_read}

-- the most bytes of these sections
abbrev longest_of : List Section → ℕ
longest_of [] = 0
longest_of (s ∷ rest) = 2 + most_of s * entry_size s + longest_of rest

-- what follows a refusal doesn't count
first-same : (why x y : ℕ) → (why ≡ 0 → x ≡ y) → first why x ≡ first why y
first-same zero x y h = h refl
first-same (suc why) x y h = refl

over-some : (s : Section) → over_of s ≡ 0 → ⊥
over-some section.Pages e = omega (arith, e)
over-some section.Words e = omega (arith, e)
over-some section.Lines e = omega (arith, e)
over-some section.ReadOnly e = omega (arith, e)

-- a count that is not refused, and the bytes of its entries
count-few : (s : Section) (input : List ℕ) (at : ℕ) → why_count s input at ≡ 0 → word_at input at * entry_size s ≤ most_of s * entry_size s
unfolding why_count
count-few s input at e = bytes s (leb-true (word_at input at) (most_of s) (cond-none (leb (word_at input at) (most_of s)) (over_of s) (over-some s) (first-both (cut input at 2) (cond (leb (word_at input at) (most_of s)) 0 (over_of s)) e).1))
  where
    bytes : (s : Section) → word_at input at ≤ most_of s → word_at input at * entry_size s ≤ most_of s * entry_size s
    bytes section.Pages h = omega (arith, h)
    bytes section.Words h = omega (arith, h)
    bytes section.Lines h = omega (arith, h)
    bytes section.ReadOnly h = omega (arith, h)

-- ---- the first n bytes of a longer input

module _ (input : List ℕ) (n : ℕ) (l : n ≤ length input) where
  cut-none : (b : List ℕ) (at size : ℕ) → at + size ≤ length b → cut b at size ≡ 0
  cut-none b at size h = rw (le-leb (at + size) (length b) h) refl

  cut-same : (at size : ℕ) → at + size ≤ n → cut (take n input) at size ≡ cut input at size
  cut-same at size h = cut-none (take n input) at size (rw (length-take-le n input l) h) ∙ sym (cut-none input at size (omega arith))

  word_same : (at : ℕ) → at + 2 ≤ n → word_at (take n input) at ≡ word_at input at
  word_same at h = rw (get_or-take n input at 0 (omega arith), get_or-take n input (at + 1) 0 (omega arith)) refl

  key-same : (s : Section) (at : ℕ) → at + entry_size s ≤ n → key_at s (take n input) at ≡ key_at s input at
  key-same section.Pages at h = get_or-take n input at 0 (omega arith)
  key-same section.Words at h = word_same at (omega arith)
  key-same section.Lines at h = word_same at h
  key-same section.ReadOnly at h = get_or-take n input at 0 (omega arith)

  entry-same : (s : Section) (at low : ℕ) (map : List ℕ) → at + entry_size s ≤ n → why_entry s (take n input) at low map ≡ why_entry s input at low map
  unfolding why_entry
  entry-same s at low map h = rw (cut-same at (entry_size s) h, key-same s at h) refl

  entries-same : (s : Section) (k at low : ℕ) (map : List ℕ) → at + k * entry_size s ≤ n → why_entries s (take n input) k at low map ≡ why_entries s input k at low map
  unfolding why_entries
  entries-same s zero at low map h = refl
  entries-same s (suc k) at low map h =
      let one : at + entry_size s ≤ n = omega (arith, suc-mul k (entry_size s)) in
      let more : at + entry_size s + k * entry_size s ≤ n = omega (arith, suc-mul k (entry_size s)) in
      rw (entry-same s at low map one, key-same s at one, entries-same s k (at + entry_size s) (key_at s input at + 1) (fit_page s (key_at s input at) map) more) refl

  noted-same : (s : Section) (k at : ℕ) (map : List ℕ) → at + k * entry_size s ≤ n → fit_pages s (take n input) k at map ≡ fit_pages s input k at map
  unfolding fit_pages
  noted-same s zero at map h = refl
  noted-same s (suc k) at map h =
      let one : at + entry_size s ≤ n = omega (arith, suc-mul k (entry_size s)) in
      let more : at + entry_size s + k * entry_size s ≤ n = omega (arith, suc-mul k (entry_size s)) in
      rw (key-same s at one, noted-same s k (at + entry_size s) (fit_page s (key_at s input at) map) more) refl

  present : (b : List ℕ) (s : Section) (at : ℕ) → at < length b → absent s b at ≡ false
  present b section.Pages at h = refl
  present b section.Words at h = refl
  present b section.Lines at h = refl
  present b section.ReadOnly at h = ne_eqb at (length b) (λ e. omega (arith, e))

  count_same : (s : Section) (at : ℕ) → at + 2 ≤ n → why_count s (take n input) at ≡ why_count s input at
  unfolding why_count
  count_same s at h = rw (cut-same at 2 h, word_same at h) refl

  sections-same : (rest : List Section) (at : ℕ) (map : List ℕ) → at + longest_of rest < n → why_sections rest (take n input) at map ≡ why_sections rest input at map
  unfolding why_sections
  sections-same [] at map h = rw (length-take-le n input l, ne_eqb at n (λ e. omega (arith, e)), ne_eqb at (length input) (λ e. omega (arith, e))) refl
  sections-same (s ∷ rest) at map h =
      let short : length (take n input) ≡ n = length-take-le n input l in
      rw (present (take n input) s at (omega (arith, short)), present input s at (omega arith), count_same s at (omega arith))
      (first-same (why_count s input at) _ _ (λ e. after (count-few s input at e) (λ a map k. sections-same rest a map k)))
    where
      after : word_at input at * entry_size s ≤ most_of s * entry_size s
          → ((a : ℕ) (map : List ℕ) → a + longest_of rest < n → why_sections rest (take n input) a map ≡ why_sections rest input a map)
          → first (why_entries s (take n input) (word_at (take n input) at) (at + 2) 0 map) (why_sections rest (take n input) (after_section s (take n input) at) (fit_pages s (take n input) (word_at (take n input) at) (at + 2) map))
          ≡ first (why_entries s input (word_at input at) (at + 2) 0 map) (why_sections rest input (after_section s input at) (fit_pages s input (word_at input at) (at + 2) map))
      after few same =
          let within : at + 2 + word_at input at * entry_size s ≤ n = omega arith in
          rw (word_same at (omega arith), entries-same s (word_at input at) (at + 2) 0 map within, noted-same s (word_at input at) (at + 2) map within, same (after_section s input at) (fit_pages s input (word_at input at) (at + 2) map) (omega arith)) refl

-- A JOB'S REFUSAL DOESN'T DEPEND ON BYTES PAST THE FIRST 25,097
pub job-front : (input : List ℕ) (n : ℕ) → 25096 < n → why_job (take n input) ≡ why_job input
unfolding why_job sections
job-front input n h = elim (dec_le n (length input)) [
  | yes l ↦ sections-same input n l (section.Pages ∷ section.Words ∷ section.Lines ∷ section.ReadOnly ∷ []) 0 (replicate 256 0) (omega arith)
  | no m ↦ ap why_job (take_all n input (omega arith))
]

-- ---- a job that is not refused is no longer

absent-end : (s : Section) (input : List ℕ) (at : ℕ) → absent s input at ≡ true → at ≡ length input
absent-end section.Pages input at e = let z : ◌≡◌ {A = ℕ} 0 1 = cc in absurd (omega arith)
absent-end section.Words input at e = let z : ◌≡◌ {A = ℕ} 0 1 = cc in absurd (omega arith)
absent-end section.Lines input at e = let z : ◌≡◌ {A = ℕ} 0 1 = cc in absurd (omega arith)
absent-end section.ReadOnly input at e = eqb-true at (length input) e

sections-long : (rest : List Section) (input : List ℕ) (at : ℕ) (map : List ℕ) → why_sections rest input at map ≡ 0 → length input ≤ at + longest_of rest
unfolding why_sections
sections-long [] input at map e = let h = eqb-true at (length input) (cond-none (eqb at (length input)) _ (λ z. omega (arith, z)) e) in omega (arith, h)
sections-long (s ∷ rest) input at map e = by (λ a map k. sections-long rest input a map k) (absent s input at) refl e
  where
    by : ((a : ℕ) (map : List ℕ) → why_sections rest input a map ≡ 0 → length input ≤ a + longest_of rest) → (b : Bool) → absent s input at ≡ b
        → cond b 0 (first (why_count s input at) (first (why_entries s input (word_at input at) (at + 2) 0 map) (why_sections rest input (after_section s input at) (fit_pages s input (word_at input at) (at + 2) map)))) ≡ 0
        → length input ≤ at + longest_of (s ∷ rest)
    by long true a e = let h = absent-end s input at a in omega (arith, h)
    by long false a e =
        let one = first-both (why_count s input at) _ e in
        let two = first-both (why_entries s input (word_at input at) (at + 2) 0 map) _ one.1 in
        let rec = long (after_section s input at) (fit_pages s input (word_at input at) (at + 2) map) two.1 in
        omega (arith, rec, count-few s input at one.0)

job-long : (input : List ℕ) → why_job input ≡ 0 → length input ≤ 25096
unfolding why_job sections
job-long input e = sections-long (section.Pages ∷ section.Words ∷ section.Lines ∷ section.ReadOnly ∷ []) input 0 (replicate 256 0) e

-- the same with the lent buffers' lengths before it
pub read-front : (image map lines : ℕ) (input : List ℕ) (n : ℕ) → 25096 < n → why_read image map lines (take n input) ≡ why_read image map lines input
unfolding why_read
read-front image map lines input n h = rw (job-front input n h) refl

pub read-long : (image map lines : ℕ) (input : List ℕ) → why_read image map lines input ≡ 0 → length input ≤ 25096
unfolding why_read
read-long image map lines input e =
    let one = first-both (cond (eqb image 65536) 0 image_length) _ e in
    let two = first-both (cond (eqb map 256) 0 map_length) _ one.1 in
    let three = first-both (cond (eqb lines 4096) 0 lines_length) _ two.1 in
    job-long input three.1
