-- What a job leaves that was accepted, the processor does not refuse.
use Prim.Native.Nat.{ℕ, zero, suc, ◌+◌, ◌≤◌}
use mathlib.Core.Bool.{Bool, true, false, cond}
use mathlib.Core.List.{List, [], ◌∷◌}
use mathlib.Core.Path.{◌≡◌, refl, ◌∙◌}
use native.Mathlib.Omega.{arith}
use lib.Dec.{eqb, leb}
use lib.ListN.{length, set, take, replicate, length-set, length-replicate}
use lib.Seq.{length-take-le}
use borrow.Author.Tests.{eq-eqb, le-leb, leb-true}
use Rattle.wordbytes.specs.Words.{byte_at, word_at}
use Rattle.refusal.specs.Numbers.{image_length, map_length, lines_length, many_lines, job_line_bit}
use Rattle.refusal.proofs.Laws.Page.{first-both}
use Rattle.refusal.specs.Refusal.{all_of, flat, plain, board_refusal, jumpers_fit, power_refusal, lines_refusal, run_refusal}
use Rattle.job.specs.declared.Section.TheVariants as section
use Rattle.job.specs.Job.{sections, entry_size, cut, why_entry, why_entries, why_count, why_sections, why_job, words_stored, listed, marked, read_only_at, words_section, lines_at, image_of, map_of, lines_of, line_words, why_read}
use Rattle.refusal.proofs.Laws.Refusal.{all_take}

-- ---- a test that every element passes

all_cons : (p : ℕ → Bool) (x : ℕ) (xs : List ℕ) → p x ≡ true → all_of p xs ≡ true → all_of p (x ∷ xs) ≡ true
unfolding all_of
all_cons p x xs h k = rw (h, k)

all_head : (b : Bool) (y : Bool) → cond b y false ≡ true → (b ≡ true) × (y ≡ true)
all_head true y e = (refl, e)
all_head false y e = let z : ◌≡◌ {A = ℕ} 0 1 = cc in absurd (omega arith)

all_set : (p : ℕ → Bool) (l : List ℕ) (k v : ℕ) → p v ≡ true → all_of p l ≡ true → all_of p (set l k v) ≡ true
unfolding all_of
all_set p [] k v h e = refl
all_set p (x ∷ xs) zero v h e = all_cons p v xs h (all_head (p x) (all_of p xs) e).1
all_set p (x ∷ xs) (suc k) v h e = all_cons p x (set xs k v) (all_head (p x) (all_of p xs) e).0 (all_set p xs k v h (all_head (p x) (all_of p xs) e).1)

all_same : (p : ℕ → Bool) (n v : ℕ) → p v ≡ true → all_of p (replicate n v) ≡ true
unfolding all_of
all_same p zero v h = refl
all_same p (suc n) v h = all_cons p v (replicate n v) h (all_same p n v h)

-- ---- the three buffers

module _ (input : List ℕ) where
  marked-flat : (value : ℕ) → flat value ≡ true → (n at : ℕ) (map : List ℕ) → all_of flat map ≡ true → all_of flat (marked value input n at map) ≡ true
  unfolding marked
  marked-flat value f zero at map e = e
  marked-flat value f (suc n) at map e = marked-flat value f n (at + 1) (set map (byte_at input at) value) (all_set flat map (byte_at input at) value f e)

  marked-length : (value n at : ℕ) (map : List ℕ) → length (marked value input n at map) ≡ length map
  unfolding marked
  marked-length value zero at map = refl
  marked-length value (suc n) at map = marked-length value n (at + 1) (set map (byte_at input at) value) ∙ length-set map (byte_at input at) value

  stored-length : (n at : ℕ) (image : List ℕ) → length (words_stored input n at image) ≡ length image
  unfolding words_stored
  stored-length zero at image = refl
  stored-length (suc n) at image =
      let low = set image (word_at input at) (byte_at input (at + 2)) in
      stored-length n (at + 4) (set low (word_at input at + 1) (byte_at input (at + 3))) ∙ length-set low (word_at input at + 1) (byte_at input (at + 3)) ∙ length-set image (word_at input at) (byte_at input (at + 2))

  listed-length : (n at k : ℕ) (lines : List ℕ) → length (listed input n at k lines) ≡ length lines
  unfolding listed
  listed-length zero at k lines = refl
  listed-length (suc n) at k lines = listed-length n (at + 2) (k + 1) (set lines k (word_at input at)) ∙ length-set lines k (word_at input at)

  pub lines-length : length (lines_of input) ≡ 4096
  unfolding lines_of
  lines-length = listed-length (word_at input (lines_at input)) (lines_at input + 2) 0 (replicate 4096 0) ∙ length-replicate {A = ℕ} 4096 0

  -- ---- a line word that is not refused has no unused bit

  plain-line : (b : Bool) → cond b 0 job_line_bit ≡ 0 → b ≡ true
  plain-line true e = refl
  plain-line false e = absurd (omega (arith, e))

  entry-plain : (at low : ℕ) (map : List ℕ) → why_entry section.Lines input at low map ≡ 0 → plain (word_at input at) ≡ true
  unfolding why_entry
  entry-plain at low map e = plain-line (plain (word_at input at)) (first-both (cut input at (entry_size section.Lines)) _ e).1

  listed_plain : (n at k low : ℕ) (map lines : List ℕ) → why_entries section.Lines input n at low map ≡ 0 → all_of plain lines ≡ true → all_of plain (listed input n at k lines) ≡ true
  unfolding why_entries listed
  listed_plain zero at k low map lines e h = h
  listed_plain (suc n) at k low map lines e h =
      let both = first-both (why_entry section.Lines input at low map) _ e in
      listed_plain n (at + 2) (k + 1) (word_at input at + 1) map (set lines k (word_at input at)) both.1 (all_set plain lines k (word_at input at) (entry-plain at low map both.0) h)

  most-lines : (at : ℕ) → why_count section.Lines input at ≡ 0 → word_at input at ≤ 4096
  unfolding why_count
  most-lines at e = leb-true (word_at input at) 4096 (few (leb (word_at input at) 4096) (first-both (cut input at 2) _ e).1)
    where
      few : (b : Bool) → cond b 0 many_lines ≡ 0 → b ≡ true
      few true e = refl
      few false e = absurd (omega (arith, e))

  -- ---- an accepted job

  -- the count of its line words, and their checks
  lines-taken : why_job input ≡ 0 → (word_at input (lines_at input) ≤ 4096) × (all_of plain (lines_of input) ≡ true)
  unfolding why_job why_sections sections lines_of
  lines-taken e =
      let a = first-both (why_count section.Pages input 0) _ e in
      let b = first-both (why_entries section.Pages input (word_at input 0) 2 0 (replicate 256 0)) _ a.1 in
      let c = first-both (why_count section.Words input (words_section input)) _ b.1 in
      let d = first-both (why_entries section.Words input (word_at input (words_section input)) (words_section input + 2) 0 _) _ c.1 in
      let f = first-both (why_count section.Lines input (lines_at input)) _ d.1 in
      let g = first-both (why_entries section.Lines input (word_at input (lines_at input)) (lines_at input + 2) 0 _) _ f.1 in
      (most-lines (lines_at input) f.0, listed_plain (word_at input (lines_at input)) (lines_at input + 2) 0 0 _ (replicate 4096 0) g.0 (all_same plain 4096 0 refl))

  board-taken : board_refusal (length (image_of input)) (map_of input) ≡ 0
  unfolding board_refusal image_of map_of
  board-taken =
      rw (
        eq-eqb _ _ (stored-length (word_at input (words_section input)) (words_section input + 2) (replicate 65536 0) ∙ length-replicate {A = ℕ} 65536 0),
        eq-eqb _ _ (marked-length 2 (word_at input (read_only_at input)) (read_only_at input + 2) pages ∙ marked-length 1 (word_at input 0) 2 (replicate 256 0) ∙ length-replicate {A = ℕ} 256 0),
        marked-flat 2 refl (word_at input (read_only_at input)) (read_only_at input + 2) pages (marked-flat 1 refl (word_at input 0) 2 (replicate 256 0) (all_same flat 256 0 refl)),
      )
    where
      pages : List ℕ
      pages = marked 1 input (word_at input 0) 2 (replicate 256 0)

  -- on a board that is set up right
  pub job-taken : (p h r image map lines : ℕ) → jumpers_fit p h r ≡ true → why_read image map lines input ≡ 0
      → (word_at input (lines_at input) ≤ length (lines_of input)) × (run_refusal (length (image_of input)) (map_of input) p h r (line_words input) ≡ 0)
  unfolding why_read power_refusal run_refusal lines_refusal line_words
  job-taken p h r image map lines right e =
      let a = first-both (cond (eqb image 65536) 0 image_length) _ e in
      let b = first-both (cond (eqb map 256) 0 map_length) _ a.1 in
      let c = first-both (cond (eqb lines 4096) 0 lines_length) _ b.1 in
      let l = lines-taken c.1 in
      let short : word_at input (lines_at input) ≤ length (lines_of input) = omega (arith, l.0, lines-length) in
      let few : length (take (word_at input (lines_at input)) (lines_of input)) ≤ 4096 = omega (arith, length-take-le (word_at input (lines_at input)) (lines_of input) short, l.0) in
      (short, rw (board-taken, right, le-leb (length (take (word_at input (lines_at input)) (lines_of input))) 4096 few, all_take plain (word_at input (lines_at input)) (lines_of input) l.1))
