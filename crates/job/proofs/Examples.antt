-- Small jobs and the refusal that the definition gives each, computed.
use mathlib.Core.Path.{◌≡◌, refl}
use mathlib.Core.List.{List, [], ◌∷◌, ◌++◌}
use Prim.Native.Nat.{ℕ}
use Rattle.job.specs.Job.{sections, why_address, why_read_only, why_entry, why_entries, fit_pages, why_count, why_sections, why_job}

-- page 00; 0012=0090, 0016=0080; line words 0000 and 0080
pages : List ℕ
pages = 1 ∷ 0 ∷ 0 ∷ []

words : List ℕ
words = 2 ∷ 0 ∷ 18 ∷ 0 ∷ 144 ∷ 0 ∷ 22 ∷ 0 ∷ 128 ∷ 0 ∷ []

lines : List ℕ
lines = 2 ∷ 0 ∷ 0 ∷ 0 ∷ 128 ∷ 0 ∷ []

none : List ℕ
none = 0 ∷ 0 ∷ []

-- a job and its refusal, 0 for none
record Case : Type 0 where
  job : List ℕ
  why : ℕ

abbrev gives : List ℕ → ℕ → Case
gives job why = record { job = job; why = why }

answers : List Case → List ℕ
answers [] = []
answers (c ∷ cs) = why_job c.job ∷ answers cs

expected : List Case → List ℕ
expected [] = []
expected (c ∷ cs) = c.why ∷ expected cs

-- in the order of 01's numbers
cases : List Case
cases =
    gives (pages ++ (words ++ lines)) 0
    ∷ gives (none ++ (none ++ none)) 0
    -- ends inside a count; inside an entry whose first bytes are odd
    ∷ gives (pages ++ (2 ∷ [])) 11
    ∷ gives (pages ++ (1 ∷ 0 ∷ 19 ∷ 0 ∷ 0 ∷ [])) 11
    -- 257 pages
    ∷ gives (1 ∷ 1 ∷ []) 12
    -- equal is not rising
    ∷ gives (2 ∷ 0 ∷ 3 ∷ 3 ∷ (none ++ none)) 13
    -- 4,097 words; odd; equal; page 01
    ∷ gives (pages ++ (1 ∷ 16 ∷ [])) 14
    ∷ gives (pages ++ (1 ∷ 0 ∷ 19 ∷ 1 ∷ 0 ∷ 0 ∷ none)) 15
    ∷ gives (pages ++ (2 ∷ 0 ∷ 18 ∷ 0 ∷ 0 ∷ 0 ∷ 18 ∷ 0 ∷ 0 ∷ 0 ∷ none)) 16
    ∷ gives (pages ++ (1 ∷ 0 ∷ 18 ∷ 1 ∷ 0 ∷ 0 ∷ none)) 17
    -- 4,097 line words; bit 2
    ∷ gives (pages ++ (none ++ (1 ∷ 16 ∷ []))) 18
    ∷ gives (pages ++ (none ++ (1 ∷ 0 ∷ 4 ∷ 0 ∷ []))) 19
    -- a fourth section: a count cut short, none, page 00, a page that is not fitted, one that doesn't rise, 257; a byte left over
    ∷ gives (pages ++ (none ++ (none ++ (0 ∷ [])))) 11
    ∷ gives (pages ++ (none ++ (none ++ none))) 0
    ∷ gives (pages ++ (words ++ (lines ++ pages))) 0
    ∷ gives (pages ++ (none ++ (none ++ (1 ∷ 0 ∷ 3 ∷ [])))) 22
    ∷ gives (pages ++ (none ++ (none ++ (2 ∷ 0 ∷ 0 ∷ 0 ∷ [])))) 22
    ∷ gives (pages ++ (none ++ (none ++ (1 ∷ 1 ∷ [])))) 12
    ∷ gives (pages ++ (none ++ (none ++ (none ++ (0 ∷ []))))) 20
    ∷ []

as-the-page-says : answers cases ≡ expected cases
unfolding cases answers expected pages words lines none why_job why_sections sections why_count why_entries why_entry why_address why_read_only fit_pages
as-the-page-says = refl
