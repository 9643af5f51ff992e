-- A listing from end to end: the bytes of two addresses and a job in, the stretch's lines out.
use Rattle.std.specs.Prelude.{ℕ, ◌+◌, ◌≤◌, cond, List, [], ◌∷◌, ◌++◌, ◌≡◌, ltb, length, drop}
use Rattle.wordbytes.specs.Words.{word_at}
use Rattle.hexdigits.specs.Over.{in_front_of}
use Rattle.refusal.specs.Numbers.{job_ends, no_stretch}
use Rattle.refusal.specs.Page.{answered, Left, left, call, first}
use Rattle.job.specs.Job.{image_of, map_of, lines_of, why_read}
use Rattle.benchline.specs.Line.{print_why}
use Rattle.listing.specs.Listing.{listing_line, next_at, listing_of}
use Rattle.listing.specs.declared.Listed.{Listed}
use Rattle.listing.specs.Calls.{next_told, bad_stretch, line_why, next_of}

-- ---- what is read: "the two addresses, two bytes each, low first, and then a job"

abbrev pub first_address : List ℕ → ℕ
first_address input = word_at input 0

abbrev pub last_address : List ℕ → ℕ
last_address input = word_at input 2

abbrev pub job_in : List ℕ → List ℕ
job_in input = drop 4 input

-- ---- what is written: every line with its end

abbrev pub line_end : List ℕ
line_end = 10 ∷ []

unfoldable pub ended : List (List ℕ) → List ℕ
ended [] = []
ended (l ∷ ls) = (l ++ line_end) ++ ended ls

abbrev pub listing_on : List ℕ → List ℕ → ℕ → ℕ → List ℕ
listing_on image map first last = ended (listing_of first last map image)

unfoldable pub listing_in : List ℕ → List ℕ
listing_in input = listing_on (image_of (job_in input)) (map_of (job_in input)) (first_address input) (last_address input)

-- ---- refusals: 8, the text is too short; 11, the addresses are cut; the job's own; 23

-- a line has at most 35 characters for each of its words, its end among them; an image has 32,768 words; and a line's writer asks for 52
abbrev pub stretch_room : ℕ
stretch_room = 1146932

abbrev pub stretch_why : ℕ → ℕ → ℕ
stretch_why first last = cond (bad_stretch first last) no_stretch 0

unfoldable pub list_why : List ℕ → ℕ → ℕ → ℕ → ℕ → ℕ
list_why input text image map lines =
    first (print_why stretch_room text)
    (first (cond (ltb (length input) 4) job_ends 0)
    (first (why_read image map lines (job_in input))
    (stretch_why (first_address input) (last_address input))))

-- ---- the call: the listing's length; the listing in front of the text, and the job's image, map and line words

abbrev pub listed_in : List ℕ → List ℕ → Left ℕ (List ℕ × List ℕ × List ℕ × List ℕ)
listed_in input text =
    let job = job_in input in
    left (answered (length (listing_in input))) (in_front_of (listing_in input) text, image_of job, map_of job, lines_of job)

unfoldable pub list_of : List ℕ → List ℕ → List ℕ → List ℕ → List ℕ → Left ℕ (List ℕ × List ℕ × List ℕ × List ℕ)
list_of input text image map lines = call (list_why input (length text) (length image) (length map) (length lines)) (listed_in input text) (text, image, map, lines)

-- ---- the words of inner functions: a line from a place of the text on, and all of a stretch

-- what is asked for: the line is not refused, there is room for it, and the place is low
pub record LineFits (image map : List ℕ) (a last at : ℕ) (text : List ℕ) : Type 0 where
  pub none : line_why (length image) map a last 52 ≡ 0
  pub there : at + 52 ≤ length text
  pub low : at ≤ stretch_room

-- where the next line is
abbrev pub Goes : List ℕ → List ℕ → ℕ → ℕ → Listed → Type 0
Goes image map a last l = next_told l.next ≡ next_of last (next_at map image last a)

abbrev pub ended_at : List ℕ → List ℕ → ℕ → ℕ → List ℕ
ended_at image map a last = listing_line map image last a ++ line_end

-- of a stretch: its first line is not refused, and there is room for the longest listing
pub record Lists (image map : List ℕ) (a last : ℕ) (text : List ℕ) : Type 0 where
  pub none : line_why (length image) map a last 52 ≡ 0
  pub there : stretch_room ≤ length text
