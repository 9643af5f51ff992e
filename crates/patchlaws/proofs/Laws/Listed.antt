-- The theorems that specs/Listed.antt states.
use mathlib.Core.Path.{◌≡◌, refl, ap, sym, ◌∙◌}
use mathlib.Core.Bool.{Bool, true, false, cond, ◌&&◌, ◌||◌}
use mathlib.Core.List.{List, [], ◌∷◌, ◌++◌}
use Prim.Native.Nat.{ℕ, zero, suc, ◌+◌, ◌*◌, ◌%◌, ◌≤◌, ◌<◌}
use native.Mathlib.Omega.{arith}
use lib.Dec.{leb, ltb}
use borrow.Author.Tests.{leb-true, leb-false, le-leb, lt-leb}
use lib.ListN.{length, take, get_or}
use Rattle.wordbytes.specs.Words.{byte_at, word_at}
use Rattle.board.specs.Work.{fitted}
use Rattle.benchline.specs.Line.{fields}
use Rattle.optext.specs.Line.{word_text, taken, text_of}
use Rattle.optext.proofs.Laws.Meets.{taken-le}
use Rattle.optext.proofs.Laws.Shown.{text-stands, word_stands}
use Rattle.listing.specs.declared.CodeFound.{CodeFound}
use Rattle.listing.specs.declared.CodeFound.TheVariants.{Nothing, Cut, Whole}
use Rattle.listing.specs.Listing.{stands, all_stand, words_at, found_at, line_of, moves_on, listing_line, next_at, lines_from, listing_of}
use Rattle.listing.proofs.Laws.Alike.{and-true, or_right}
use Rattle.listing.proofs.Laws.Joined.{taken-some}
use Rattle.assembler.specs.Section.{section_entry, section_of}
use Rattle.assembler.specs.Answer.{section_written}
use Rattle.patchlaws.proofs.Laws.Again.{text-said, word-said}
use Rattle.patchlaws.specs.Pieces.{Piece, entries_of_words, entries_of_pieces, GoodPiece, Rise}
use Rattle.patchlaws.proofs.Laws.Pieces.{pieces-again}
use Rattle.patchlaws.specs.Listed.{piece, shown_by, pieces_from, words_from, pieces_of, fitted_words, Shows, ended, unfitted, shown, ListingShows, ListingAgain}

-- ---- they are what the listing's lines show

shows-line : (a w x y : ℕ) (f : CodeFound) (ls : List (List ℕ)) (ps : List Piece) → moves_on f ≤ 3 → Shows ls ps
    → Shows (line_of a (w ∷ x ∷ y ∷ []) f ∷ ls) (shown_by a (w ∷ x ∷ y ∷ []) f ++ ps)
unfolding line_of shown_by fields
shows-line a w x y Nothing ls ps h s = unfitted a ls ps s
shows-line a w x y Cut ls ps h s = shown a (w ∷ []) (word_text w) ls ps s
shows-line a w x y (Whole zero) ls ps h s = shown a [] (text_of []) ls ps s
shows-line a w x y (Whole (suc zero)) ls ps h s = shown a (w ∷ []) (text_of (w ∷ [])) ls ps s
shows-line a w x y (Whole (suc (suc zero))) ls ps h s = shown a (w ∷ x ∷ []) (text_of (w ∷ x ∷ [])) ls ps s
shows-line a w x y (Whole (suc (suc (suc zero)))) ls ps h s = shown a (w ∷ x ∷ y ∷ []) (text_of (w ∷ x ∷ y ∷ [])) ls ps s
shows-line a w x y (Whole (suc (suc (suc (suc n))))) ls ps h s = absurd (omega arith)

-- ---- what is found at an address

module _ (map image : List ℕ) (last : ℕ) where
  -- a whole op code's words all stand there
  record AllThere (a n : ℕ) : Type 0 where
    pub count : n ≡ taken (word_at image a)
    pub first : stands map last a ≡ true
    pub second : ltb n 2 ≡ false → stands map last (a + 2) ≡ true
    pub third : ltb n 3 ≡ false → stands map last (a + 4) ≡ true

  abbrev At : ℕ → CodeFound → Type 0
  At a Nothing = fitted map a ≡ false
  At a Cut = fitted map a ≡ true
  At a (Whole n) = AllThere a n

  at : (a : ℕ) → At a (found_at map image last a)
  unfolding found_at all_stand
  at a = go (fitted map a) (all_stand map last a n) refl refl
    where
      n : ℕ
      n = taken (word_at image a)

      go : (f s : Bool) → fitted map a ≡ f → all_stand map last a n ≡ s → At a (cond f (cond s (Whole n) Cut) Nothing)
      go true true e i =
          let b = and-true (stands map last a && (ltb n 2 || stands map last (a + 2))) (ltb n 3 || stands map last (a + 4)) i in
          let c = and-true (stands map last a) (ltb n 2 || stands map last (a + 2)) b.0 in
          record {
            count = refl;
            first = c.0;
            second = λ q. or_right (ltb n 2) (stands map last (a + 2)) q c.1;
            third = λ q. or_right (ltb n 3) (stands map last (a + 4)) q b.1;
          }
      go true false e i = e
      go false s e i = e

  few : (a : ℕ) (f : CodeFound) → At a f → moves_on f ≤ 3
  few a Nothing h = omega arith
  few a Cut h = omega arith
  few a (Whole n) h = let t = taken-le (word_at image a) in let c = h.count in omega arith

  -- THE PIECES ARE WHAT THE LISTING SHOWS, line by line
  shows-from : (n a : ℕ) → Shows (lines_from map image last n a) (pieces_from map image last n a)
  unfolding lines_from pieces_from listing_line
  shows-from zero a = ended
  shows-from (suc n) a = go (leb a last) (shows-line a (word_at image a) (word_at image (a + 2)) (word_at image (a + 4)) (found_at map image last a) _ _ (few a (found_at map image last a) (at a)) (shows-from n (next_at map image last a)))
    where
      go : (b : Bool) {ls : List (List ℕ)} {ps : List Piece} → Shows ls ps → Shows (cond b ls []) (cond b ps [])
      go true s = s
      go false s = ended

  -- ---- they rise

  inside : (a : ℕ) → stands map last a ≡ true → a ≤ last
  inside a e = leb-true a last (and-true (leb a last) (fitted map a) e).0

  module _ (bytes : (k : ℕ) → byte_at image k < 256) (small : last < 65536) where
    word_small : (a : ℕ) → word_at image a < 65536
    word_small a = let x = bytes a in let y = bytes (a + 1) in omega arith

    words_small : (a n i : ℕ) → get_or (take n (words_at image a)) i 0 < 65536
    words_small a zero i = omega arith
    words_small a (suc n) zero = word_small a
    words_small a (suc zero) (suc i) = omega arith
    words_small a (suc (suc n)) (suc zero) = word_small (a + 2)
    words_small a (suc (suc zero)) (suc (suc i)) = omega arith
    words_small a (suc (suc (suc n))) (suc (suc zero)) = word_small (a + 4)
    words_small a (suc (suc (suc n))) (suc (suc (suc i))) = none n i
      where
        none : (n i : ℕ) → get_or (take n []) i 0 < 65536
        none zero i = omega arith
        none (suc n) i = omega arith

    few_words : (a n : ℕ) → n ≤ 3 → length (take n (words_at image a)) ≡ n
    few_words a zero h = refl
    few_words a (suc zero) h = refl
    few_words a (suc (suc zero)) h = refl
    few_words a (suc (suc (suc zero))) h = refl
    few_words a (suc (suc (suc (suc n)))) h = absurd (omega arith)

    first_word : (a n : ℕ) → 1 ≤ n → get_or (take n (words_at image a)) 0 0 ≡ word_at image a
    first_word a zero h = absurd (omega arith)
    first_word a (suc n) h = refl

    whole-good : (a n : ℕ) → a % 2 ≡ 0 → AllThere a n → GoodPiece (piece a (take n (words_at image a)) (text_of (take n (words_at image a))))
    whole-good a n e h =
        let t = taken-le (word_at image a) in
        let s = taken-some (word_at image a) in
        let c = h.count in
        let l = few_words a n (omega arith) in
        let ws : List ℕ = take n (words_at image a) in
        record {
          even = e;
          some = omega arith;
          few = omega arith;
          within = room n (omega arith) h l;
          stands = text-stands ws;
          said = text-said ws (record { count = l ∙ c ∙ ap taken (sym (first_word a n (omega arith))); words = words_small a n });
        }
      where
        room : (n : ℕ) → 1 ≤ n → AllThere a n → length (take n (words_at image a)) ≡ n → a + 2 * length (take n (words_at image a)) ≤ 65536
        room zero i h l = absurd (omega arith)
        room (suc zero) i h l = let z = inside a h.first in omega arith
        room (suc (suc zero)) i h l = let z = inside (a + 2) (h.second refl) in omega arith
        room (suc (suc (suc zero))) i h l = let z = inside (a + 4) (h.third refl) in omega arith
        room (suc (suc (suc (suc n)))) i h l = absurd (let t = taken-le (word_at image a) in let c = h.count in omega arith)

    cut-good : (a : ℕ) → a % 2 ≡ 0 → a ≤ last → GoodPiece (piece a (word_at image a ∷ []) (word_text (word_at image a)))
    cut-good a e h = record {
      even = e;
      some = omega arith;
      few = omega arith;
      within = omega arith;
      stands = word_stands (word_at image a);
      said = word-said (word_at image a) (word_small a);
    }

    module _ (n : ℕ) (rise : (a low : ℕ) → a % 2 ≡ 0 → low ≤ a → Rise low (pieces_from map image last n a)) (a low : ℕ) (e : a % 2 ≡ 0) (h : low ≤ a) where
      rise-found : (f : CodeFound) → At a f → a ≤ last → Rise low (shown_by a (words_at image a) f ++ pieces_from map image last n (a + moves_on f * 2))
      unfolding Rise shown_by
      rise-found Nothing z l = rise (a + 1 * 2) low (omega arith) (omega arith)
      rise-found Cut z l = (h, cut-good a e l, rise (a + 1 * 2) (a + 2 * 1) (omega arith) (omega arith))
      rise-found (Whole k) z l = (h, whole-good a k e z, rise (a + k * 2) _ (omega arith) (let c = few_words a k (few a (Whole k) z) in omega arith))

      rise-more : (b : Bool) → leb a last ≡ b → Rise low (cond b (shown_by a (words_at image a) (found_at map image last a) ++ pieces_from map image last n (next_at map image last a)) [])
      unfolding Rise next_at
      rise-more true q = rise-found (found_at map image last a) (at a) (leb-true a last q)
      rise-more false q = tt

    rise-from : (n a low : ℕ) → a % 2 ≡ 0 → low ≤ a → Rise low (pieces_from map image last n a)
    unfolding Rise pieces_from
    rise-from zero a low e h = tt
    rise-from (suc n) a low e h = rise-more n (rise-from n) a low e h (leb a last) refl

  -- ---- their words are the fitted words

  words-past : (m a : ℕ) → last < a → words_from map image last m a ≡ []
  unfolding words_from
  words-past zero a h = refl
  words-past (suc m) a h = rw (lt-leb a last h) (words-past m (a + 2) (omega arith))

  word-here : (m a : ℕ) → stands map last a ≡ true → words_from map image last (suc m) a ≡ section_entry a (word_at image a) ∷ words_from map image last m (a + 2)
  unfolding words_from
  word-here m a s = rw s refl

  no_word : (m a : ℕ) → fitted map a ≡ false → words_from map image last (suc m) a ≡ words_from map image last m (a + 2)
  unfolding words_from
  no_word m a f = rw f (go (leb a last))
    where
      go : (b : Bool) → cond (b && false) (section_entry a (word_at image a) ∷ words_from map image last m (a + 2)) (words_from map image last m (a + 2)) ≡ words_from map image last m (a + 2)
      go true = refl
      go false = refl

  standing : (a : ℕ) → a ≤ last → fitted map a ≡ true → stands map last a ≡ true
  standing a l f = rw (le-leb a last l, f) refl

  -- enough words to reach the end of the stretch
  abbrev Reaches : ℕ → ℕ → Type 0
  Reaches m a = last < a + m * 2

  -- es are the words from b on, however many are asked for
  abbrev Same : List ℕ → ℕ → Type 0
  Same es b = (m : ℕ) → Reaches m b → es ≡ words_from map image last m b

  one_more : (a : ℕ) (es : List ℕ) → stands map last a ≡ true → Same es (a + 2) → Same (section_entry a (word_at image a) ∷ es) a
  one_more a es s f zero h = absurd (let z = inside a s in omega arith)
  one_more a es s f (suc m) h = ap (λ (l : List ℕ). section_entry a (word_at image a) ∷ l) (f m (omega arith)) ∙ sym (word-here m a s)

  none_more : (a : ℕ) (es : List ℕ) → a ≤ last → fitted map a ≡ false → Same es (a + 2) → Same es a
  none_more a es l e f zero h = absurd (omega arith)
  none_more a es l e f (suc m) h = f m (omega arith) ∙ sym (no_word m a e)

  whole-more : (k a : ℕ) (es : List ℕ) → AllThere a k → Same es (a + k * 2) → Same (entries_of_words a (take k (words_at image a)) ++ es) a
  whole-more zero a es z f = absurd (let t = taken-some (word_at image a) in let c = z.count in omega arith)
  whole-more (suc zero) a es z f = one_more a es z.first f
  whole-more (suc (suc zero)) a es z f =
      let e : a + 2 + 2 ≡ a + 4 = omega arith in
      one_more a _ z.first (one_more (a + 2) es (z.second refl) (rw e f))
  whole-more (suc (suc (suc zero))) a es z f =
      let e : a + 2 + 2 ≡ a + 4 = omega arith in
      let g : a + 4 + 2 ≡ a + 6 = omega arith in
      one_more a _ z.first (one_more (a + 2) _ (z.second refl) (rw e (one_more (a + 4) es (z.third refl) (rw g f))))
  whole-more (suc (suc (suc (suc k)))) a es z f = absurd (let t = taken-le (word_at image a) in let c = z.count in omega arith)

  module _ (n : ℕ) (same : (a : ℕ) → Reaches n a → Same (entries_of_pieces (pieces_from map image last n a)) a) (a : ℕ) (h : Reaches (suc n) a) where
    same-found : (f : CodeFound) → At a f → a ≤ last → Same (entries_of_pieces (shown_by a (words_at image a) f ++ pieces_from map image last n (a + moves_on f * 2))) a
    unfolding shown_by entries_of_pieces
    same-found Nothing z l = none_more a _ l z (same (a + 1 * 2) (omega arith))
    same-found Cut z l = one_more a _ (standing a l z) (same (a + 1 * 2) (omega arith))
    same-found (Whole k) z l =
        whole-more k a _ z (same (a + k * 2) (let t = taken-some (word_at image a) in let c = z.count in omega arith))

    same_more : (b : Bool) → leb a last ≡ b
        → Same (entries_of_pieces (cond b (shown_by a (words_at image a) (found_at map image last a) ++ pieces_from map image last n (next_at map image last a)) [])) a
    unfolding entries_of_pieces next_at
    same_more true q = same-found (found_at map image last a) (at a) (leb-true a last q)
    same_more false q = λ m r. sym (words-past m a (leb-false a last q))

  same_from : (n a : ℕ) → Reaches n a → Same (entries_of_pieces (pieces_from map image last n a)) a
  unfolding pieces_from entries_of_pieces
  same_from zero a h = λ m r. sym (words-past m a (omega arith))
  same_from (suc n) a h = same_more n (same_from n) a h (leb a last) refl

module _ (first last : ℕ) (map image : List ℕ) where
  pub listing-shows : ListingShows first last map image
  unfolding listing_of pieces_of
  listing-shows = shows-from map image last 32768 first

  entries-are : last < 65536 → entries_of_pieces (pieces_of first last map image) ≡ fitted_words first last map image
  unfolding pieces_of fitted_words
  entries-are h = same_from map image last 32768 first (omega arith) 32768 (omega arith)

  module _ (bytes : (k : ℕ) → byte_at image k < 256) (even : first % 2 ≡ 0) (small : last < 65536) where
    rises : Rise 0 (pieces_of first last map image)
    unfolding pieces_of
    rises = rise-from map image last bytes small 32768 first 0 even (omega arith)

    pub listing-again : ListingAgain first last map image bytes even small
    listing-again out n r =
        pieces-again (pieces_of first last map image) rises out r n
        ∙ ap (λ (ws : List ℕ). section_written (section_of ws) out) (entries-are small)
