-- What the writer of one line of a listing must answer and leave.
use Rattle.std.specs.Prelude.{Option, Some, None, Result, ℕ, ◌%◌, Bool, ◌||◌, cond, List, [], ◌∷◌, ◌≡◌, length, take, eqb, ltb}
use Rattle.hexdigits.specs.Over.{in_front_of}
use Rattle.refusal.specs.Numbers.{no_stretch, text_short}
use Rattle.refusal.specs.Page.{Page, answered, Left, left, call, first}
use Rattle.refusal.specs.Refusal.{board_refusal}
use Rattle.listing.specs.declared.Listed.{Listed}
use Rattle.refusal.specs.declared.Refusal.{Refusal}
use Rattle.refusal.specs.Answer.{page_of}
use Rattle.listing.specs.Listing.{listing_line, next_at}

-- ---- the answer: the line's length, and the address of the next line or that it is the last

pub data Next : Type 0 where
  goes_on : ℕ → Next
  ends : Next

pub record Lined : Type 0 where
  pub count : ℕ
  pub next : Next

abbrev pub lined : ℕ → Next → Lined
lined n x = record { count = n; next = x }

abbrev pub next_told : Option ℕ → Next
next_told (Some a) = goes_on a
next_told None = ends

abbrev pub lined_of : Listed → Lined
lined_of l = lined l.length (next_told l.next)

abbrev pub listed_page : Result Listed Refusal → Page Lined
listed_page r = page_of lined_of r

-- ---- refusals: 1, 2 and 3 of the image and the map; 23, an odd address, or a last below the first; 8, the text is under 52

-- the longest line's own text begins at character 20, and its writer asks for 32 more
abbrev pub line_room : ℕ
line_room = 52

abbrev pub bad_stretch : ℕ → ℕ → Bool
bad_stretch a last = (eqb (a % 2) 1 || eqb (last % 2) 1) || ltb last a

unfoldable pub line_why : ℕ → List ℕ → ℕ → ℕ → ℕ → ℕ
line_why size map a last text =
    first (board_refusal size map)
    (first (cond (bad_stretch a last) no_stretch 0)
    (cond (ltb text line_room) text_short 0))

-- ---- the call: the line at the address a of a stretch that ends at last

abbrev pub next_of : ℕ → ℕ → Next
next_of last a = cond (ltb last a) ends (goes_on a)

-- the line at the front of the text, and the rest of it as it was
abbrev pub line_in : List ℕ → List ℕ → ℕ → ℕ → List ℕ → Left Lined (List ℕ)
line_in image map a last b =
    let l = listing_line map image last a in
    left (answered (lined (length l) (next_of last (next_at map image last a)))) (in_front_of l b)

unfoldable pub line_call : List ℕ → List ℕ → ℕ → ℕ → List ℕ → Left Lined (List ℕ)
line_call image map a last b = call (line_why (length image) map a last (length b)) (line_in image map a last b) b

-- ---- calls one after the other

module _ (image map : List ℕ) (last : ℕ) where
  -- the lines of calls one after the other, from the address a on: each into any text
  pub data Lines : ℕ → List (List ℕ) → Type 0 where
    final : (a n : ℕ) (b e : List ℕ) → left (answered (lined n ends)) e ≡ line_call image map a last b → Lines a (take n e ∷ [])
    more : (a n a' : ℕ) (b e : List ℕ) (ls : List (List ℕ)) → left (answered (lined n (goes_on a'))) e ≡ line_call image map a last b → Lines a' ls → Lines a (take n e ∷ ls)
