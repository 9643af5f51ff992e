-- From the code's facts to what the exported call leaves.
use Prim.Native.Nat.{ℕ, zero, suc, ◌+◌, ◌≤◌, ◌<◌}
use native.Mathlib.Omega.{arith}
use mathlib.Core.Bool.{Bool, true, false, cond}
use mathlib.Core.List.{List, [], ◌∷◌}
use mathlib.Core.Path.{◌≡◌, refl, ap}
use lib.ListN.{length, take, get_or, length-append}
use Rattle.wordbytes.specs.Words.{word_at}
use Rattle.refusal.specs.Page.{Page, refused, refused_at, answered, left, call, told}
use Rattle.hexdigits.specs.Over.{in_front_of}
use Rattle.board.specs.Work.{fitted}
use Rattle.benchline.specs.Line.{dashes, fields}
use Rattle.benchline.proofs.Laws.Lengths.{fields-length}
use Rattle.optext.specs.Line.{word_text, taken, text_of}
use Rattle.optext.proofs.Laws.Longest.{text-le}
use Rattle.optext.proofs.Laws.Meets.{taken-le}
use Rattle.listing.specs.declared.CodeFound.TheVariants.{Nothing, Cut, Whole}
use Rattle.listing.specs.declared.Listed.{Listed}
use Rattle.std.proofs.Common.{Result, Ok, Err}
use Rattle.refusal.specs.declared.Refusal.{Refusal}
use Rattle.refusal.specs.Answer.{number}
use Rattle.listing.specs.Listing.{all_stand, words_at, found_at, line_of, listing_line, next_at}
use Rattle.listing.specs.Calls.{Lined, lined, lined_of, listed_page, line_why, next_of, line_call}
use Rattle.listing.proofs.Laws.{word-length}
use Rattle.answer.specs.Answer.{three_words, place_words, answer_why}
use Rattle.answer.proofs.Laws.{bad, given}
use Rattle.listing_c.specs.Calls.{next_words_of, list_call}

-- ---- a line is short

line-short : (a : ℕ) (ws : List ℕ) (n : ℕ) (f s : Bool) → n ≤ 3 → length (line_of a ws (cond f (cond s (Whole n) Cut) Nothing)) ≤ 44
unfolding line_of
line-short a ws n true true h = simp length-append (omega (arith, fields-length (a ∷ ws) (n + 1), text-le (take n ws)))
line-short a ws n true false h = simp length-append (omega (arith, fields-length (a ∷ ws) 2, word-length (get_or ws 0 0)))
line-short a ws n false s h = simp length-append (omega (arith, fields-length (a ∷ ws) 1))

line-few : (map image : List ℕ) (last a : ℕ) → length (listing_line map image last a) ≤ 44
unfolding listing_line found_at
line-few map image last a = line-short a (words_at image a) (taken (word_at image a)) (fitted map a) (all_stand map last a (taken (word_at image a))) (taken-le (word_at image a))

abbrev count_in : Page Lined → ℕ
count_in (answered p) = p.count
count_in (refused why) = 0
count_in (refused_at why place) = 0

-- what is answered tells a short line
told-short : (image map : List ℕ) (a last : ℕ) (b e : List ℕ) (p : Page Lined) → left p e ≡ line_call image map a last b → count_in p < 65536
unfolding line_call
told-short image map a last b e p h = by (line_why (length image) map a last (length b)) (in_front_of (listing_line map image last a) b) h
  where
    by : (why : ℕ) (t : List ℕ) → left p e ≡ call why (left (answered (lined (length (listing_line map image last a)) (next_of last (next_at map image last a)))) t) b → count_in p < 65536
    by zero t d = let q : count_in p ≡ length (listing_line map image last a) = ap (λ z. count_in z.page) d in omega (arith, q, line-few map image last a)
    by (suc why) t d = let q : count_in p ≡ 0 = ap (λ z. count_in z.page) d in omega (arith, q)

pub line-told : (image map : List ℕ) (a last : ℕ) (b e : List ℕ) (r : Result Listed Refusal) (l : Listed) → r ≡ Ok l → left (listed_page r) e ≡ line_call image map a last b → l.length < 65536
line-told image map a last b e r l q h = told-short image map a last b e (listed_page (Ok l)) (rw q at h)

-- ---- the call

module _ (image map : List ℕ) (a last : ℕ) (t b : List ℕ) (n : ℕ) (h : n ≡ answer_why b) where
  abbrev beside : ℕ → List ℕ → List ℕ × List ℕ
  beside place t = (t, place_words place)

  pub list-bad : (n ≡ 0 → ⊥) → told n (t, b) ≡ list_call image map a last t b
  unfolding list_call
  list-bad some = bad (λ p t. (t, next_words_of p)) beside (λ t. (t, b)) (answer_why b) n (line_call image map a last t) t h some

  module _ (none : n ≡ 0) (t' : List ℕ) (r : Result Listed Refusal) (e : left (listed_page r) t' ≡ line_call image map a last t) where
    pub goes_on : (l : Listed) (b' : List ℕ) → r ≡ Ok l → b' ≡ next_words_of (lined_of l) → told 0 (t', b') ≡ list_call image map a last t b
    unfolding list_call
    goes_on l b' q p = given (λ p t. (t, next_words_of p)) beside (λ t. (t, b)) (answer_why b) n (line_call image map a last t) t h none _ (rw (← e, q, p) refl)

    pub stopped : (why : Refusal) (k : ℕ) → r ≡ Err why → k ≡ number why → told k (t', b) ≡ list_call image map a last t b
    unfolding list_call
    stopped why k q d = given (λ p t. (t, next_words_of p)) beside (λ t. (t, b)) (answer_why b) n (line_call image map a last t) t h none _ (rw (← e, q, d) refl)
