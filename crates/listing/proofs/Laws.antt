-- From the code's facts to a line of a listing.
pub mod Alike
pub mod Calls
pub mod Joined
use Prim.Native.Nat.{ℕ, zero, suc, ◌+◌, ◌*◌, ◌≤◌, ◌<◌}
use mathlib.Core.Bool.{Bool, true, false, not, cond}
use mathlib.Core.List.{List, [], ◌∷◌}
use mathlib.Core.Path.{◌≡◌, refl, ap, sym, ◌∙◌, subst}
use native.Mathlib.Omega.{arith}
use borrow.Author.Tests.{le-ltb, lt-ltb, ltb-false, not-true, not-false}
use lib.Dec.{ltb}
use lib.ListN.{length, take, get_or}
use lib.Seq.{length-take-le}
use Rattle.hexdigits.specs.Digits.{hex4}
use Rattle.hexdigits.specs.Over.{in_front_of, Wrote}
use Rattle.refusal.specs.Numbers.{no_stretch, text_short}
use Rattle.refusal.specs.Page.{refused, answered, left}
use Rattle.refusal.proofs.Laws.Page.{first_some, first-both}
use Rattle.refusal.proofs.Laws.Page as PageLaws
use Rattle.refusal.specs.Refusal.{board_refusal}
use Rattle.wordbytes.specs.Words.{word_at}
use Rattle.board.specs.Work.{fitted}
use Rattle.optext.specs.declared.Written.{Written}
use Rattle.std.proofs.Common.{Result, Ok, Err}
use Rattle.optext.specs.declared.WriteRefusal.{WriteRefusal}
use Rattle.optext.specs.declared.WriteRefusal.TheVariants.{TextShort, NoWords, WordMissing}
use Rattle.optext.specs.Rows.{rows, the_row}
use Rattle.optext.specs.Line.{sep_text, word_text, taken, text_of}
use Rattle.optext.specs.Answer.{line, LinePage, written_page, in_front, Writes, write_word_of}
use Rattle.optext.proofs.Laws.Calls.{line-written}
use Rattle.listing.specs.declared.CodeFound.{CodeFound}
use Rattle.listing.specs.declared.CodeFound.TheVariants.{Nothing, Cut, Whole}
use Rattle.listing.specs.declared.Listed.{Listed}
use Rattle.listing.specs.Listing.{all_stand, found_at, line_of, moves_on, FoundFits, listing_line, next_at}
use Rattle.listing.specs.Calls.{lined, lined_of, listed_page, bad_stretch, line_why, next_of, line_in, line_call}
use Rattle.listing.proofs.Laws.Joined.{taken-some, cond-none}

-- ---- what is found

module _ (map image : List ℕ) (last a : ℕ) (f : Bool) (e : f ≡ fitted map a) where
  pub found_nothing : not f ≡ true → (Nothing ≡ found_at map image last a) × FoundFits (word_at image a) Nothing
  unfolding found_at
  found_nothing h = (rw (← e, not-true f h) refl, tt)

  module _ (h : not f ≡ false) (n w : ℕ) (p : w ≡ word_at image a) (t : (n ≡ taken w) × (n ≤ 3)) (s : Bool) (g : s ≡ all_stand map last a n) where
    own : n ≡ taken (word_at image a)
    own = t.0 ∙ ap taken p

    pub found-whole : s ≡ true → (Whole n ≡ found_at map image last a) × FoundFits (word_at image a) (Whole n)
    unfolding found_at
    found-whole k = (rw (← e, not-false f h, ← own, ← g, k) refl, (own, t.1))

    pub found-cut : s ≡ false → (Cut ≡ found_at map image last a) × FoundFits (word_at image a) Cut
    unfolding found_at
    found-cut k = (rw (← e, not-false f h, ← own, ← g, k) refl, tt)

pub fits_whole : (w : ℕ) (f : CodeFound) (n : ℕ) → FoundFits w f → f ≡ Whole n → (n ≡ taken w) × (n ≤ 3)
fits_whole w f n h e = subst (λ (z : CodeFound). FoundFits w z) e h

pub fits_word : (w v : ℕ) (f : CodeFound) → w ≡ v → FoundFits v f → FoundFits w f
fits_word w v f e h = subst (λ (z : ℕ). FoundFits z f) (sym e) h

pub moves-few : (w : ℕ) (f : CodeFound) → FoundFits w f → moves_on f ≤ 3
moves-few w Nothing h = omega arith
moves-few w Cut h = omega arith
moves-few w (Whole n) h = h.1

-- ---- the address and the words

-- ---- the text, where there is room for it

-- a refusal is no line
not_line : {p : LinePage} (why : WriteRefusal) → written_page (Err why) ≡ answered p → ⊥
not_line TextShort q = PageLaws.apart (sym q)
not_line NoWords q = PageLaws.apart (sym q)
not_line WordMissing q = PageLaws.apart (sym q)

wrote : (s b e : List ℕ) (n m k : ℕ) → left (written_page (line n m)) e ≡ in_front s k b → Wrote s b e n
wrote s b e n m k h = record { bytes = ap (λ z. z.lent) h; count = ap (λ z. z.count) (PageLaws.answered-one (ap (λ z. z.page) h)) }

module _ (w : ℕ) (b e : List ℕ) (r : Result Written WriteRefusal) (h : 32 ≤ length b) (v : left (written_page r) e ≡ write_word_of w b) where
  word-met : left (written_page r) e ≡ in_front (word_text w) 1 b
  unfolding write_word_of
  word-met = v ∙ rw (le-ltb (length b) 32 h) refl

  pub word-wrote : (n m : ℕ) → r ≡ line n m → Wrote (word_text w) b e n
  word-wrote n m d = wrote (word_text w) b e n m 1 (ap (λ z. left (written_page z) e) (sym d) ∙ word-met)

  pub word-never : (why : WriteRefusal) → r ≡ Err why → ⊥
  word-never why d = not_line why (ap written_page (sym d) ∙ ap (λ z. z.page) word-met)

pub word-length : (w : ℕ) → length (word_text w) ≡ 10
unfolding word_text the_row rows sep_text hex4
word-length w = refl

module _ (ws b e : List ℕ) (r : Result Written WriteRefusal) (h : 32 ≤ length b) (l : length ws ≡ taken (get_or ws 0 0)) (v : Writes ws b r e) where
  enough : taken (get_or ws 0 0) ≤ length ws
  enough = omega (arith, l)

  op-met : left (written_page r) e ≡ in_front (text_of ws) (taken (get_or ws 0 0)) b
  op-met = v.met ∙ line-written ws b h enough

  pub op-wrote : (n m : ℕ) → r ≡ line n m → Wrote (text_of ws) b e n × (n ≤ 24)
  op-wrote n m d =
      let c = wrote (text_of ws) b e n m (taken (get_or ws 0 0)) (ap (λ z. left (written_page z) e) (sym d) ∙ op-met) in
      (c, omega (arith, c.count, v.short))

  pub op-never : (why : WriteRefusal) → r ≡ Err why → ⊥
  op-never why d = not_line why (ap written_page (sym d) ∙ ap (λ z. z.page) op-met)

-- as many of the three words as the op code has
pub whole-count : (w x y n : ℕ) → n ≡ taken w → n ≤ 3 → length (take n (w ∷ x ∷ y ∷ [])) ≡ taken (get_or (take n (w ∷ x ∷ y ∷ [])) 0 0)
whole-count w x y zero q h = absurd (omega (arith, q, taken-some w))
whole-count w x y (suc n) q h = length-take-le (suc n) (w ∷ x ∷ y ∷ []) h ∙ q

-- ---- refusals

module _ (size : ℕ) (map : List ℕ) (a last text k : ℕ) (e : k ≡ board_refusal size map) where
  pub why-board : (k ≡ 0 → ⊥) → k ≡ line_why size map a last text
  unfolding line_why
  why-board n = rw (← e) (first_some k _ n)

  module _ (z : k ≡ 0) (s : Bool) (b : s ≡ bad_stretch a last) where
    pub why-stretch : s ≡ true → no_stretch ≡ line_why size map a last text
    unfolding line_why
    why-stretch t = rw (← e, z, ← b, t) refl

    pub why-text : s ≡ false → text < 52 → text_short ≡ line_why size map a last text
    unfolding line_why
    why-text t h = rw (← e, z, ← b, t, lt-ltb text 52 h) refl

    pub why-none : s ≡ false → 52 ≤ text → 0 ≡ line_why size map a last text
    unfolding line_why
    why-none t h = rw (← e, z, ← b, t, le-ltb text 52 h) refl

pub room-there : (size : ℕ) (map : List ℕ) (a last text : ℕ) → line_why size map a last text ≡ 0 → 52 ≤ text
unfolding line_why
room-there size map a last text e =
    let b = (first-both (board_refusal size map) _ e).1 in
    let d = (first-both (cond (bad_stretch a last) no_stretch 0) _ b).1 in
    ltb-false text 52 (cond-none (ltb text 52) text_short (λ h. omega arith) d)

-- ---- the call

module _ (image map : List ℕ) (a last : ℕ) (b : List ℕ) where
  pub call-refused : (k : ℕ) → k ≡ line_why (length image) map a last (length b) → (k ≡ 0 → ⊥) → left (refused k) b ≡ line_call image map a last b
  unfolding line_call
  call-refused k e n = PageLaws.call-refused (line_why (length image) map a last (length b)) (line_in image map a last b) b k e n

  pub call_line : (w x y n m : ℕ) (e : List ℕ) (f : CodeFound) (r : Listed) → line_why (length image) map a last (length b) ≡ 0 → f ≡ found_at map image last a
      → w ≡ word_at image a → x ≡ word_at image (a + 2) → y ≡ word_at image (a + 4) → Wrote (line_of a (w ∷ x ∷ y ∷ []) f) b e n → m ≡ moves_on f
      → lined_of r ≡ lined n (next_of last (a + m * 2)) → left (listed_page (Ok r)) e ≡ line_call image map a last b
  unfolding line_call listing_line next_at
  call_line w x y n m e f r z g p q s v u t = rw (z, t, v.bytes, v.count, u, p, q, s, g) refl
