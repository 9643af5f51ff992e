-- A source of lines of 32 bytes: origins, the values of labels, and why it is refused.
use Rattle.std.specs.Prelude.{Bool, true, false, cond, not, ◌&&◌, ◌||◌, ◌≡◌, List, ℕ, zero, suc, ◌+◌, ◌*◌, ◌/◌, ◌%◌, ◌≤◌, ◌<◌, ltb, leb, eqb, length, take, drop, get_or}
use Rattle.optext.specs.declared.Op.{Op}
use Rattle.optext.specs.First.{first_from}
use Rattle.patchline.specs.Text.{gives, label_of, rest_of}
use Rattle.patchline.specs.Line.{first_in, second_in, label_in, said_of, reaches, with_label}
use Rattle.patchline.specs.declared.oneline.How.{How}
use Rattle.patchline.specs.declared.oneline.How.TheVariants.{Unknown, Origin, Plain, Branch, Sob, Relative}
use Rattle.patchline.specs.declared.oneline.Said.{Said}
use Rattle.assembler.specs.declared.source.Fault.{Fault}
use Rattle.assembler.specs.declared.source.Fault.TheVariants.{Text, Given, Missing, Place, Far}

abbrev pub line_count : List ℕ → ℕ
line_count s = length s / 32

-- the most lines of a source
abbrev pub most_lines : ℕ
most_lines = 1024

unfoldable pub line_at : List ℕ → ℕ → List ℕ
line_at s i = take 32 (drop (32 * i) s)

unfoldable pub text_at : List ℕ → ℕ → List ℕ
text_at s i = rest_of (line_at s i)

unfoldable pub said_at : List ℕ → ℕ → Said
said_at s i = said_of (text_at s i)

-- the origin after a line that begins at o
abbrev pub is_origin : How → Bool
is_origin Unknown = false
is_origin Origin = true
is_origin Plain = false
is_origin Branch = false
is_origin Sob = false
is_origin Relative = false

abbrev pub end_after : ℕ → Said → ℕ
end_after o said = o + 2 * said.op.count

abbrev pub next_from : ℕ → Said → ℕ
next_from o said = cond (is_origin said.how) said.op.a (end_after o said)

-- the origin that a line begins at, "0000 at first", and the place after its words
unfoldable pub origin_at : List ℕ → ℕ → ℕ
origin_at s zero = 0
origin_at s (suc i) = next_from (origin_at s i) (said_at s i)

unfoldable pub end_at : List ℕ → ℕ → ℕ
end_at s i = end_after (origin_at s i) (said_at s i)

-- the first line that gives a label, or the number of lines, and the label's value
unfoldable pub gives_at : List ℕ → List ℕ → ℕ → Bool
gives_at s u k = gives u (line_at s k)

unfoldable pub giver_of : List ℕ → List ℕ → ℕ
giver_of s u = first_from (gives_at s u) (line_count s) 0

unfoldable pub value_of : List ℕ → List ℕ → ℕ
value_of s u = origin_at s (giver_of s u) % 65536

abbrev pub here_of : List ℕ → ℕ → ℕ
here_of s i = origin_at s i % 65536

-- 24: unknown text
abbrev pub is_unknown : How → Bool
is_unknown Unknown = true
is_unknown Origin = false
is_unknown Plain = false
is_unknown Branch = false
is_unknown Sob = false
is_unknown Relative = false

-- 25: its label is already given
unfoldable pub is_given : List ℕ → ℕ → List ℕ → Bool
is_given s i u = cond (eqb (length u) 0) false (ltb (giver_of s u) i)

-- 26: a label that stands in it is missing
abbrev pub has_labels : How → Bool
has_labels Unknown = false
has_labels Origin = false
has_labels Plain = false
has_labels Branch = true
has_labels Sob = true
has_labels Relative = true

unfoldable pub is_missing : List ℕ → List ℕ → Bool
is_missing s u = cond (eqb (length u) 0) false (leb (line_count s) (giver_of s u))

unfoldable pub lacks : List ℕ → List ℕ → Bool
lacks s t = cond (has_labels (said_of t).how) (is_missing s (label_in (first_in t)) || is_missing s (label_in (second_in t))) false

-- 28: an odd origin, or words that run past FFFF or overlap an earlier line's
abbrev pub overlaps : List ℕ → ℕ → ℕ → Bool
overlaps s i k = ltb (origin_at s i) (end_at s k) && (ltb (origin_at s k) (end_at s i) && (ltb (origin_at s i) (end_at s i) && ltb (origin_at s k) (end_at s k)))

abbrev pub is_odd : Said → Bool
is_odd said = is_origin said.how && eqb (said.op.a % 2) 1

unfoldable pub misplaced : List ℕ → ℕ → Bool
misplaced s i = cond (is_odd (said_at s i)) true (cond (ltb 65536 (end_at s i)) true (ltb (first_from (overlaps s i) i 0) i))

-- 27: a branch or SOB that can't reach its label
unfoldable pub is_far : List ℕ → How → ℕ → List ℕ → Bool
is_far s how h u = cond (eqb (length u) 0) false (not (reaches how (value_of s u) h))

unfoldable pub far : List ℕ → ℕ → List ℕ → Bool
far s h t = is_far s (said_of t).how h (label_in (first_in t)) || is_far s (said_of t).how h (label_in (second_in t))

abbrev pub fails : Fault → List ℕ → ℕ → Bool
fails Text s i = is_unknown (said_at s i).how
fails Given s i = is_given s i (label_of (line_at s i))
fails Missing s i = lacks s (text_at s i)
fails Place s i = misplaced s i
fails Far s i = far s (here_of s i) (text_at s i)

-- the lowest line with this fault, or the number of lines
unfoldable pub lowest : Fault → List ℕ → ℕ
lowest f s = first_from (fails f s) (line_count s) 0

-- the words of a line, with its labels in them
unfoldable pub with_labels : List ℕ → How → Bool → ℕ → List ℕ → Op → Op
with_labels s how third h u o = cond (eqb (length u) 0) o (with_label how third (value_of s u) h o)

unfoldable pub line_op : List ℕ → ℕ → List ℕ → Op
line_op s h t =
    with_labels s (said_of t).how (eqb (said_of t).op.count 3) h (label_in (second_in t)) (with_labels s (said_of t).how false h (label_in (first_in t)) (said_of t).op)

-- tables of the origins and of the ends
pub record Starts (s table : List ℕ) : Type 0 where
  pub few : line_count s ≤ most_lines
  pub at : (k : ℕ) → k < line_count s + 1 → get_or table k 0 ≡ origin_at s k

pub record LineEnds (s table : List ℕ) : Type 0 where
  pub at : (k : ℕ) → k < line_count s → get_or table k 0 ≡ end_at s k
