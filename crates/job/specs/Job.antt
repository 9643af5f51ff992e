-- A job: three sections, each after its count, and perhaps a fourth. What is refused, and what an accepted job leaves in the lent buffers.
use Rattle.std.specs.Prelude.{ℕ, zero, suc, ◌+◌, ◌*◌, ◌/◌, ◌%◌, Bool, false, cond, List, [], ◌∷◌, Result, ◌≡◌, length, get_or, set, take, replicate, eqb, leb}
use Rattle.wordbytes.specs.Words.{byte_at, word_at}
use Rattle.refusal.specs.Numbers.{image_length, map_length, lines_length, job_ends, many_pages, page_not_rising, many_words, address_odd, address_not_rising, address_unfitted, many_lines, job_line_bit, bytes_left, read_only_page}
use Rattle.refusal.specs.declared.Refusal.{Refusal}
use Rattle.refusal.specs.Answer.{page_of}
use Rattle.refusal.specs.Page.{Page, answered, Left, left, call, first}
use Rattle.refusal.specs.Refusal.{plain, most_line_words}
use Rattle.job.specs.declared.Section.{Section}
use Rattle.job.specs.declared.Section.TheVariants as section

-- "Three sections": fitted pages, words, line words. "A job may have a fourth section": read-only pages
unfoldable pub sections : List Section
sections = section.Pages ∷ section.Words ∷ section.Lines ∷ section.ReadOnly ∷ []

-- "a job that ends after the third has none"
abbrev pub absent : Section → List ℕ → ℕ → Bool
absent section.Pages input at = false
absent section.Words input at = false
absent section.Lines input at = false
absent section.ReadOnly input at = eqb at (length input)

-- an entry's bytes
abbrev pub entry_size : Section → ℕ
entry_size section.Pages = 1
entry_size section.Words = 4
entry_size section.Lines = 2
entry_size section.ReadOnly = 1

-- the most entries, and the refusal of more
abbrev pub most_of : Section → ℕ
most_of section.Pages = 256
most_of section.Words = 4096
most_of section.Lines = most_line_words
most_of section.ReadOnly = 256

abbrev pub over_of : Section → ℕ
over_of section.Pages = many_pages
over_of section.Words = many_words
over_of section.Lines = many_lines
over_of section.ReadOnly = many_pages

-- what an entry's checks look at: the page, the address, the line word
abbrev pub key_at : Section → List ℕ → ℕ → ℕ
key_at section.Pages input at = byte_at input at
key_at section.Words input at = word_at input at
key_at section.Lines input at = word_at input at
key_at section.ReadOnly input at = byte_at input at

-- the map with this entry's page fitted, or read-only
abbrev pub fit_page : Section → ℕ → List ℕ → List ℕ
fit_page section.Pages page map = set map page 1
fit_page section.Words page map = map
fit_page section.Lines page map = map
fit_page section.ReadOnly page map = set map page 2

-- the job ends inside a count or entry of this size
abbrev pub cut : List ℕ → ℕ → ℕ → ℕ
cut input at size = cond (leb (at + size) (length input)) 0 job_ends

-- an entry's own checks, by number. `low` is the least that rises above the entry before
abbrev pub why_page : ℕ → ℕ → ℕ
why_page low page = cond (leb low page) 0 page_not_rising

unfoldable pub why_address : List ℕ → ℕ → ℕ → ℕ
why_address map low address =
    first (cond (eqb (address % 2) 0) 0 address_odd)
    (first (cond (leb low address) 0 address_not_rising)
    (cond (eqb (get_or map (address / 256) 0) 1) 0 address_unfitted))

-- a read-only page, a byte, is already in the first section
unfoldable pub why_read_only : List ℕ → ℕ → ℕ → ℕ
why_read_only map low page = first (cond (leb low page) 0 read_only_page) (cond (eqb (get_or map (page % 256) 0) 1) 0 read_only_page)

abbrev pub why_line : ℕ → ℕ
why_line line = cond (plain line) 0 job_line_bit

abbrev pub why_key : Section → List ℕ → ℕ → ℕ → ℕ
why_key section.Pages map low page = why_page low page
why_key section.Words map low address = why_address map low address
why_key section.Lines map low line = why_line line
why_key section.ReadOnly map low page = why_read_only map low page

unfoldable pub why_entry : Section → List ℕ → ℕ → ℕ → List ℕ → ℕ
why_entry s input at low map = first (cut input at (entry_size s)) (why_key s map low (key_at s input at))

-- n entries from a place on; the first of a section has nothing to rise above
unfoldable pub why_entries : Section → List ℕ → ℕ → ℕ → ℕ → List ℕ → ℕ
why_entries s input zero at low map = 0
why_entries s input (suc n) at low map =
    first (why_entry s input at low map)
    (why_entries s input n (at + entry_size s) (key_at s input at + 1) (fit_page s (key_at s input at) map))

-- the map with the pages of n entries fitted
unfoldable pub fit_pages : Section → List ℕ → ℕ → ℕ → List ℕ → List ℕ
fit_pages s input zero at map = map
fit_pages s input (suc n) at map = fit_pages s input n (at + entry_size s) (fit_page s (key_at s input at) map)

-- a count: two bytes; its own check as soon as it is read
unfoldable pub why_count : Section → List ℕ → ℕ → ℕ
why_count s input at = first (cut input at 2) (cond (leb (word_at input at) (most_of s)) 0 (over_of s))

-- the place after a section that starts with its count
abbrev pub after_section : Section → List ℕ → ℕ → ℕ
after_section s input at = at + 2 + word_at input at * entry_size s

-- bytes left over
abbrev pub why_left : List ℕ → ℕ → ℕ
why_left input at = cond (eqb at (length input)) 0 bytes_left

-- each section after its count, unless it is absent; then nothing is left over
unfoldable pub why_sections : List Section → List ℕ → ℕ → List ℕ → ℕ
why_sections [] input at map = why_left input at
why_sections (s ∷ rest) input at map =
    cond (absent s input at) 0
    (first (why_count s input at)
    (first (why_entries s input (word_at input at) (at + 2) 0 map)
    (why_sections rest input (after_section s input at) (fit_pages s input (word_at input at) (at + 2) map))))

-- why a job is refused, or 0
unfoldable pub why_job : List ℕ → ℕ
why_job input = why_sections sections input 0 (replicate 256 0)

-- What an accepted job leaves in the lent buffers.
-- the image with n words at their addresses, low byte at the even address
unfoldable pub words_stored : List ℕ → ℕ → ℕ → List ℕ → List ℕ
words_stored input zero at image = image
words_stored input (suc n) at image =
    words_stored input n (at + 4)
    (set (set image (word_at input at) (byte_at input (at + 2))) (word_at input at + 1) (byte_at input (at + 3)))

-- the map with the pages of n entries set to a value
unfoldable pub marked : ℕ → List ℕ → ℕ → ℕ → List ℕ → List ℕ
marked value input zero at map = map
marked value input (suc n) at map = marked value input n (at + 1) (set map (byte_at input at) value)

-- the line buffer with n line words from place k on
unfoldable pub listed : List ℕ → ℕ → ℕ → ℕ → List ℕ → List ℕ
listed input zero at k lines = lines
listed input (suc n) at k lines = listed input n (at + 2) (k + 1) (set lines k (word_at input at))

-- where the sections start
abbrev pub words_section : List ℕ → ℕ
words_section input = after_section section.Pages input 0

abbrev pub lines_at : List ℕ → ℕ
lines_at input = after_section section.Words input (words_section input)

abbrev pub read_only_at : List ℕ → ℕ
read_only_at input = after_section section.Lines input (lines_at input)

-- every byte of the buffers: what the job names, all else 0. Past the job's end a count is 0
unfoldable pub map_of : List ℕ → List ℕ
map_of input = marked 2 input (word_at input (read_only_at input)) (read_only_at input + 2) (marked 1 input (word_at input 0) 2 (replicate 256 0))

unfoldable pub image_of : List ℕ → List ℕ
image_of input = words_stored input (word_at input (words_section input)) (words_section input + 2) (replicate 65536 0)

unfoldable pub lines_of : List ℕ → List ℕ
lines_of input = listed input (word_at input (lines_at input)) (lines_at input + 2) 0 (replicate most_line_words 0)

-- the job's line words, without the unused rest of the line buffer
unfoldable pub line_words : List ℕ → List ℕ
line_words input = take (word_at input (lines_at input)) (lines_of input)

-- the lent buffers have their lengths
pub record JobRoom (image map lines : List ℕ) : Type 0 where
  pub bytes : length image ≡ 65536
  pub pages : length map ≡ 256
  pub words : length lines ≡ most_line_words

-- the buffers and the number of line words of an accepted job
pub record Filled (input image map lines : List ℕ) (count : ℕ) : Type 0 where
  pub image-is : image ≡ image_of input
  pub map_is : map ≡ map_of input
  pub lines-is : lines ≡ lines_of input
  pub count-is : count ≡ word_at input (lines_at input)

-- an answer in 01's numbers: the number of line words, or the refusal's number alone
abbrev pub job_page : Result ℕ Refusal → Page ℕ
job_page = page_of (λ n. n)

-- the first refusal that applies, or 0: the lent buffers' lengths, then the job in reading order
unfoldable pub why_read : ℕ → ℕ → ℕ → List ℕ → ℕ
why_read image map lines input =
    first (cond (eqb image 65536) 0 image_length)
    (first (cond (eqb map 256) 0 map_length)
    (first (cond (eqb lines most_line_words) 0 lines_length)
    (why_job input)))

-- the image, the map and the line buffer of an accepted job
abbrev pub buffers_of : List ℕ → List ℕ × List ℕ × List ℕ
buffers_of input = (image_of input, map_of input, lines_of input)

-- a refusal returns its number alone and changes no buffer
unfoldable pub job_of : List ℕ → List ℕ → List ℕ → List ℕ → Left ℕ (List ℕ × List ℕ × List ℕ)
job_of input image map lines =
    call (why_read (length image) (length map) (length lines) input)
    (left (answered (word_at input (lines_at input))) (buffers_of input))
    (image, map, lines)
