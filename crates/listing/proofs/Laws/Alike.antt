-- Two images equal on fitted bytes list alike: a line by itself, and a whole stretch.
use Prim.Native.Nat.{ℕ, zero, suc, ◌+◌, ◌*◌, ◌/◌, ◌%◌}
use mathlib.Core.Bool.{Bool, true, false, not, ◌&&◌, ◌||◌, cond}
use mathlib.Core.List.{List, [], ◌∷◌}
use mathlib.Core.Path.{◌≡◌, refl, ap, ◌∙◌}
use native.Mathlib.Omega.{arith}
use borrow.Author.Tests.{le-ltb}
use lib.Dec.{eqb, leb, ltb}
use lib.ListN.{length, get_or}
use Rattle.refusal.specs.Page.{call}
use Rattle.wordbytes.specs.Words.{word_at}
use Rattle.board.specs.Work.{fitted, Agree}
use Rattle.benchline.specs.Line.{fields}
use Rattle.optext.specs.Line.{taken}
use Rattle.listing.specs.declared.CodeFound.{CodeFound}
use Rattle.listing.specs.declared.CodeFound.TheVariants.{Nothing, Cut, Whole}
use Rattle.listing.specs.Listing.{stands, all_stand, words_at, found_at, line_of, moves_on, listing_line, next_at, lines_from, listing_of}
use Rattle.listing.specs.Calls.{line_why, line_in, line_call}
use Rattle.listing.proofs.Laws.Joined.{good}

pub and-true : (p q : Bool) → (p && q) ≡ true → (p ≡ true) × (q ≡ true)
and-true true q e = (refl, e)
and-true false q e = let z : ◌≡◌ {A = ℕ} 0 1 = ap (λ (b : Bool). cond b 1 0) e in absurd (omega arith)

pub or_right : (p q : Bool) → p ≡ false → (p || q) ≡ true → q ≡ true
or_right true q n e = let z : ◌≡◌ {A = ℕ} 1 0 = ap (λ (b : Bool). cond b 1 0) n in absurd (omega arith)
or_right false q n e = e

-- a line shows the words that its op code has
line-words : (a k w x y w' x' y' : ℕ) → w ≡ w' → (ltb k 2 ≡ false → x ≡ x') → (ltb k 3 ≡ false → y ≡ y') → line_of a (w ∷ x ∷ y ∷ []) (Whole k) ≡ line_of a (w' ∷ x' ∷ y' ∷ []) (Whole k)
unfolding line_of fields
line-words a zero w x y w' x' y' p q r = refl
line-words a (suc zero) w x y w' x' y' p q r = rw p refl
line-words a (suc (suc zero)) w x y w' x' y' p q r = rw (p, q refl) refl
line-words a (suc (suc (suc j))) w x y w' x' y' p q r = rw (p, q (le-ltb (suc (suc (suc j))) 2 (omega arith)), r (le-ltb (suc (suc (suc j))) 3 (omega arith))) refl

cut-words : (a w x y w' x' y' : ℕ) → w ≡ w' → line_of a (w ∷ x ∷ y ∷ []) Cut ≡ line_of a (w' ∷ x' ∷ y' ∷ []) Cut
unfolding line_of fields
cut-words a w x y w' x' y' p = rw p refl

no_words : (a w x y w' x' y' : ℕ) → line_of a (w ∷ x ∷ y ∷ []) Nothing ≡ line_of a (w' ∷ x' ∷ y' ∷ []) Nothing
unfolding line_of fields
no_words a w x y w' x' y' = refl

module _ (map m n : List ℕ) (g : Agree map m n) where
  beside : (a : ℕ) → a % 2 ≡ 0 → fitted map (a + 1) ≡ fitted map a
  unfolding fitted
  beside a h = let q : (a + 1) / 256 ≡ a / 256 = omega arith in ap (λ (p : ℕ). not (eqb (get_or map p 0) 0)) q

  word_same : (a : ℕ) → a % 2 ≡ 0 → fitted map a ≡ true → word_at m a ≡ word_at n a
  word_same a h f = rw (g a f, g (a + 1) (beside a h ∙ f)) refl

  module _ (last : ℕ) where
    standing-same : (a : ℕ) → a % 2 ≡ 0 → stands map last a ≡ true → word_at m a ≡ word_at n a
    standing-same a h s = word_same a h (and-true (leb a last) (fitted map a) s).1

    found-same : (a : ℕ) → a % 2 ≡ 0 → found_at map m last a ≡ found_at map n last a
    unfolding found_at
    found-same a h = go (fitted map a) (λ e. word_same a h e)
      where
        go : (f : Bool) → (f ≡ true → word_at m a ≡ word_at n a)
            → cond f (cond (all_stand map last a (taken (word_at m a))) (Whole (taken (word_at m a))) Cut) Nothing ≡ cond f (cond (all_stand map last a (taken (word_at n a))) (Whole (taken (word_at n a))) Cut) Nothing
        go true k = rw (k refl) refl
        go false k = refl

    -- a whole op code's words are all fitted
    whole_same : (a k : ℕ) → a % 2 ≡ 0 → all_stand map last a k ≡ true → line_of a (words_at m a) (Whole k) ≡ line_of a (words_at n a) (Whole k)
    unfolding all_stand
    whole_same a k h s =
        let b = and-true (stands map last a && (ltb k 2 || stands map last (a + 2))) (ltb k 3 || stands map last (a + 4)) s in
        let c = and-true (stands map last a) (ltb k 2 || stands map last (a + 2)) b.0 in
        line-words a k _ _ _ _ _ _ (standing-same a h c.0)
        (λ e. standing-same (a + 2) (omega arith) (or_right (ltb k 2) (stands map last (a + 2)) e c.1))
        (λ e. standing-same (a + 4) (omega arith) (or_right (ltb k 3) (stands map last (a + 4)) e b.1))

    shown-same : (a : ℕ) → a % 2 ≡ 0 → line_of a (words_at m a) (found_at map n last a) ≡ line_of a (words_at n a) (found_at map n last a)
    unfolding found_at
    shown-same a h = go (fitted map a) (all_stand map last a (taken (word_at n a))) refl refl
      where
        go : (f s : Bool) → fitted map a ≡ f → all_stand map last a (taken (word_at n a)) ≡ s
            → line_of a (words_at m a) (cond f (cond s (Whole (taken (word_at n a))) Cut) Nothing) ≡ line_of a (words_at n a) (cond f (cond s (Whole (taken (word_at n a))) Cut) Nothing)
        go true true e i = whole_same a (taken (word_at n a)) h i
        go true false e i = cut-words a _ _ _ _ _ _ (word_same a h e)
        go false s e i = no_words a _ _ _ _ _ _

    line_same : (a : ℕ) → a % 2 ≡ 0 → listing_line map m last a ≡ listing_line map n last a
    unfolding listing_line
    line_same a h = ap (λ (f : CodeFound). line_of a (words_at m a) f) (found-same a h) ∙ shown-same a h

    next-same : (a : ℕ) → a % 2 ≡ 0 → next_at map m last a ≡ next_at map n last a
    unfolding next_at
    next-same a h = ap (λ (f : CodeFound). a + moves_on f * 2) (found-same a h)

    next-even : (a : ℕ) → a % 2 ≡ 0 → next_at map n last a % 2 ≡ 0
    unfolding next_at
    next-even a h = omega arith

    lines_same : (k a : ℕ) → a % 2 ≡ 0 → lines_from map m last k a ≡ lines_from map n last k a
    unfolding lines_from
    lines_same zero a h = refl
    lines_same (suc k) a h = rw (line_same a h, next-same a h, lines_same k (next_at map n last a) (next-even a h)) refl

    -- TWO IMAGES EQUAL ON FITTED BYTES LIST ALIKE
    pub listing-alike : (first : ℕ) → first % 2 ≡ 0 → listing_of first last map m ≡ listing_of first last map n
    unfolding listing_of
    listing-alike first h = lines_same 32768 first h

    -- and so does each call
    pub call-alike : length m ≡ length n → (a : ℕ) (b : List ℕ) → line_call m map a last b ≡ line_call n map a last b
    unfolding line_call
    call-alike l a b = rw l (split (line_why (length n) map a last (length b)) refl)
      where
        split : (why : ℕ) → line_why (length n) map a last (length b) ≡ why
            → call why (line_in m map a last b) b ≡ call why (line_in n map a last b) b
        split zero e = let h = (good (length n) map a last (length b) e).even in rw (line_same a h, next-same a h) refl
        split (suc why) e = refl
