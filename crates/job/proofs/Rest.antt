-- What is left of a job from inside a section on: n entries, then the other sections. Each step of a reader that goes entry by entry
-- keeps it: from any place of the job it comes to the whole job's refusal.
use Prim.Native.Nat.{ℕ, suc, ◌+◌, ◌*◌, ◌-◌, ◌<◌}
use native.Mathlib.Omega.{arith}
use native.Mathlib.Numerals.{add-one}
use native.Mathlib.Nat.{suc-mul}
use mathlib.Core.Bool.{false, cond}
use mathlib.Core.List.{List}
use mathlib.Core.Path.{◌≡◌, refl, sym, ap, ◌∙◌}
use lib.ListN.{length, get_or, drop}
use lib.Seq.{drop-cons}
use Rattle.wordbytes.specs.Words.{word_at}
use Rattle.refusal.specs.Page.{first}
use Rattle.refusal.proofs.Laws.Page as PageLaws
use Rattle.job.specs.declared.Section.{Section}
use Rattle.job.specs.declared.Section.TheVariants as section
use Rattle.job.proofs.Laws.{first-first}
use Rattle.job.specs.Job.{sections, entry_size, key_at, fit_page, why_entry, why_entries, fit_pages, why_count, why_sections, absent}

-- the first of two refusals
first_some : {why k : ℕ} (later : ℕ) → why ≡ k → (why ≡ 0 → ⊥) → why ≡ first k later
first_some {why} {k} later e n = PageLaws.first_some why later n ∙ ap (λ (x : ℕ). first x later) e

first-none : (why later : ℕ) → why ≡ 0 → first why later ≡ later
first-none why later e = rw e refl

-- what is left from inside a section on: n entries, then the other sections
unfoldable pub why_rest : Section → List Section → List ℕ → ℕ → ℕ → ℕ → List ℕ → ℕ
why_rest s rest input n at low map =
    first (why_entries s input n at low map) (why_sections rest input (at + n * entry_size s) (fit_pages s input n at map))

in-sections : (i : ℕ) → i < 4 → i < length sections
unfolding sections
in-sections i h = h

rest-starts : (i : ℕ) (input : List ℕ) (at : ℕ) (map : List ℕ) → i < 4
    → why_sections (drop i sections) input at map
    ≡ cond (absent (get_or sections i section.ReadOnly) input at) 0
    (first (why_count (get_or sections i section.ReadOnly) input at)
    (why_rest (get_or sections i section.ReadOnly) (drop (i + 1) sections) input (word_at input at) (at + 2) 0 map))
unfolding why_rest why_sections
rest-starts i input at map h = rw (drop-cons sections i section.ReadOnly (in-sections i h), add-one i) refl

-- a section that is there starts with its count
rest-present : (i : ℕ) (input : List ℕ) (at : ℕ) (map : List ℕ) (s : Section) → i < 4 → s ≡ get_or sections i section.ReadOnly → absent s input at ≡ false
    → why_sections (drop i sections) input at map ≡ first (why_count s input at) (why_rest s (drop (i + 1) sections) input (word_at input at) (at + 2) 0 map)
rest-present i input at map s l e h =
    rest-starts i input at map l
    ∙ rw (← e, h) refl

rest-suc : (s : Section) (rest : List Section) (input : List ℕ) (n at low : ℕ) (map : List ℕ)
    → why_rest s rest input (suc n) at low map
    ≡ first (why_entry s input at low map)
    (why_rest s rest input n (at + entry_size s) (key_at s input at + 1) (fit_page s (key_at s input at) map))
unfolding why_rest why_entries fit_pages
rest-suc s rest input n at low map =
    let e : at + suc n * entry_size s ≡ at + entry_size s + n * entry_size s = omega (arith, suc-mul n (entry_size s)) in
    rw e (first-first (why_entry s input at low map) _ _)

rest-entry : (s : Section) (rest : List Section) (input : List ℕ) (n at low : ℕ) (map : List ℕ) → 0 < n
    → why_rest s rest input n at low map
    ≡ first (why_entry s input at low map)
    (why_rest s rest input (n - 1) (at + entry_size s) (key_at s input at + 1) (fit_page s (key_at s input at) map))
rest-entry s rest input n at low map h =
    let e : n ≡ suc (n - 1) = omega arith in
    ap (λ (m : ℕ). why_rest s rest input m at low map) e ∙ rest-suc s rest input (n - 1) at low map

-- the steps: what is left from here comes to the whole job's refusal, `whole`
module _ (input : List ℕ) (whole : ℕ) where
  -- a count
  pub count-refused : (i at : ℕ) (map : List ℕ) (s : Section) (why : ℕ) → i < 4 → s ≡ get_or sections i section.ReadOnly → absent s input at ≡ false
      → why ≡ why_count s input at → (why ≡ 0 → ⊥) → why_sections (drop i sections) input at map ≡ whole → why ≡ whole
  count-refused i at map s why l e a w n h = first_some _ w n ∙ sym (rest-present i input at map s l e a) ∙ h

  pub count-taken : (i at : ℕ) (map : List ℕ) (s : Section) (why n : ℕ) → i < 4 → s ≡ get_or sections i section.ReadOnly → absent s input at ≡ false
      → why ≡ why_count s input at → why ≡ 0 → n ≡ word_at input at → why_sections (drop i sections) input at map ≡ whole
      → why_rest s (drop (i + 1) sections) input n (at + 2) 0 map ≡ whole
  count-taken i at map s why n l e a w z k h =
      rw k (sym (first-none _ _ (sym w ∙ z)) ∙ sym (rest-present i input at map s l e a) ∙ h)

  -- an entry
  pub entry-refused : (s : Section) (rest : List Section) (n at low : ℕ) (map : List ℕ) (why : ℕ) → 0 < n
      → why ≡ why_entry s input at low map → (why ≡ 0 → ⊥) → why_rest s rest input n at low map ≡ whole → why ≡ whole
  entry-refused s rest n at low map why l w m h =
      first_some _ w m ∙ sym (rest-entry s rest input n at low map l) ∙ h

  pub entry-taken : (s : Section) (rest : List Section) (n at low : ℕ) (map : List ℕ) (why key size : ℕ) (map' : List ℕ) → 0 < n
      → why ≡ why_entry s input at low map → why ≡ 0 → key ≡ key_at s input at → size ≡ entry_size s → map' ≡ fit_page s (key_at s input at) map
      → why_rest s rest input n at low map ≡ whole → why_rest s rest input (n - 1) (at + size) (key + 1) map' ≡ whole
  entry-taken s rest n at low map why key size map' l w z k e m h =
      rw (k, e, m) (sym (first-none _ _ (sym w ∙ z)) ∙ sym (rest-entry s rest input n at low map l) ∙ h)

  -- the end of a section
  pub entries-end : (s : Section) (rest : List Section) (n at low : ℕ) (map : List ℕ) → n ≡ 0
      → why_rest s rest input n at low map ≡ whole → why_sections rest input at map ≡ whole
  unfolding why_rest why_entries fit_pages
  entries-end s rest n at low map e h =
      let z : at ≡ at + 0 * entry_size s = omega arith in
      rw z (rw e at h)
