-- The theorems that specs/Pieces.antt states.
use mathlib.Core.Path.{◌≡◌, refl, ap, sym, ◌∙◌}
use mathlib.Core.Bool.{Bool, true, false, cond, ◌&&◌}
use mathlib.Core.List.{List, [], ◌∷◌, ◌++◌, append-nil, append_assoc}
use mathlib.Core.Logic.{◌⊎◌, inl, inr, ⊎_elim}
use Prim.Native.Nat.{ℕ, zero, suc, ◌+◌, ◌*◌, ◌≤◌, ◌<◌}
use native.Mathlib.Omega.{arith}
use lib.Dec.{ltb, eqb}
use borrow.Author.Tests.{le-ltb}
use lib.ListN.{length, take, get_or}
use lib.Seq.{take-length}
use Rattle.hexdigits.specs.Digits.{letters}
use Rattle.wordmath.specs.Address.{plus}
use Rattle.optext.specs.declared.Op.{Op}
use Rattle.optext.specs.Read.{op_of}
use Rattle.optext.proofs.Laws.Shown.{number-stands}
use Rattle.patchline.specs.declared.oneline.How.{How}
use Rattle.patchline.specs.declared.oneline.How.TheVariants.{Origin, Plain}
use Rattle.patchline.specs.Line.{op, says, said_of, reaches}
use Rattle.assembler.specs.Source.{line_count, text_at, said_at, origin_at, end_at, here_of, is_unknown, is_given, has_labels, lacks, overlaps, is_odd, misplaced, is_far, far, value_of}
use Rattle.assembler.specs.Section.{inserted, section_entry, entered, words_placed, section_of}
use Rattle.assembler.specs.Answer.{section_written, assembled}
use Rattle.assembler.specs.Ends.{Right}
use Rattle.assembler.proofs.Laws.Good.{no-first, nothing-wrong}
use Rattle.patchlaws.specs.Again.{origin_line}
use Rattle.patchlaws.proofs.Laws.Again.{origin-again, origin-words, plain-words}
use Rattle.patchlaws.specs.Padded.{source_of}
use Rattle.patchlaws.proofs.Laws.Padded.{AllStand}
use Rattle.patchlaws.proofs.Laws.Padded.{source_lines, count-is, label-none, text-is}
use Rattle.patchlaws.specs.Pieces.{Piece, piece_end, piece_lines, entries_of_words, entries_of_pieces, GoodPiece, Rise, PiecesAgain}

-- ---- pieces: words from an address on, and the text that gives them

abbrev nowhere : Piece
nowhere = record { at = 0; words = []; text = [] }

-- ---- pieces by their place

abbrev piece : List Piece → ℕ → Piece
piece ps k = get_or ps k nowhere

good-at : (low : ℕ) (ps : List Piece) (k : ℕ) → Rise low ps → k < length ps → GoodPiece (piece ps k)
unfolding Rise
good-at low [] k r h = absurd (omega arith)
good-at low (p ∷ ps) zero r h = r.1
good-at low (p ∷ ps) (suc k) r h = good-at (piece_end p) ps k r.2 (omega arith)

rises-from : (low : ℕ) (ps : List Piece) (k : ℕ) → Rise low ps → k < length ps → low ≤ (piece ps k).at
unfolding Rise
rises-from low [] k r h = absurd (omega arith)
rises-from low (p ∷ ps) zero r h = r.0
rises-from low (p ∷ ps) (suc k) r h = let z = rises-from (piece_end p) ps k r.2 (omega arith) in let l = r.0 in omega arith

-- an earlier piece ends before a later one begins
ends-before : (low : ℕ) (ps : List Piece) (j k : ℕ) → Rise low ps → j < k → k < length ps → piece_end (piece ps j) ≤ (piece ps k).at
unfolding Rise
ends-before low [] j k r h l = absurd (omega arith)
ends-before low (p ∷ ps) j zero r h l = absurd (omega arith)
ends-before low (p ∷ ps) zero (suc k) r h l = rises-from (piece_end p) ps k r.2 (omega arith)
ends-before low (p ∷ ps) (suc j) (suc k) r h l = ends-before (piece_end p) ps j k r.2 (omega arith) (omega arith)

-- ---- lines by their place: the piece k has the lines twice k and the one after

abbrev twice : ℕ → ℕ
twice zero = zero
twice (suc k) = suc (suc (twice k))

twice-is : (k : ℕ) → twice k ≡ 2 * k
twice-is zero = refl
twice-is (suc k) = let h = twice-is k in omega arith

twice-length : (ps : List Piece) → length (piece_lines ps) ≡ twice (length ps)
unfolding piece_lines
twice-length [] = refl
twice-length (p ∷ ps) = ap (λ (n : ℕ). suc (suc n)) (twice-length ps)

origin-line : (ps : List Piece) (k : ℕ) → k < length ps → get_or (piece_lines ps) (twice k) [] ≡ origin_line (piece ps k).at
unfolding piece_lines
origin-line [] k h = absurd (omega arith)
origin-line (p ∷ ps) zero h = refl
origin-line (p ∷ ps) (suc k) h = origin-line ps k (omega arith)

text-line : (ps : List Piece) (k : ℕ) → k < length ps → get_or (piece_lines ps) (suc (twice k)) [] ≡ (piece ps k).text
unfolding piece_lines
text-line [] k h = absurd (omega arith)
text-line (p ∷ ps) zero h = refl
text-line (p ∷ ps) (suc k) h = text-line ps k (omega arith)

-- what holds of both lines of each piece holds of each line
each_line : (Q : ℕ → Type 0) (n : ℕ) → ((k : ℕ) → k < n → Q (twice k) × Q (suc (twice k))) → (i : ℕ) → i < twice n → Q i
each_line Q zero f i h = absurd (omega arith)
each_line Q (suc n) f zero h = (f 0 (omega arith)).0
each_line Q (suc n) f (suc zero) h = (f 0 (omega arith)).1
each_line Q (suc n) f (suc (suc i)) h = each_line (λ j. Q (suc (suc j))) n (λ k l. f (suc k) (omega arith)) i (omega arith)

all-stand : (low : ℕ) (ps : List Piece) → Rise low ps → AllStand (piece_lines ps)
unfolding Rise piece_lines AllStand origin_line
all-stand low [] r = tt
all-stand low (p ∷ ps) r = (number-stands (letters ".ORG ") p.at (omega arith) tt, (r.1.stands, all-stand (piece_end p) ps r.2))

-- ---- entries one after the other

-- every entry's address is below m
abbrev Below : ℕ → List ℕ → Type 0
Below m [] = Unit {0}
Below m (e ∷ l) = (e < m * 65536) × Below m l

below-append : (m : ℕ) (k l : List ℕ) → Below m k → Below m l → Below m (k ++ l)
below-append m [] l p q = q
below-append m (e ∷ k) l p q = (p.0, below-append m k l p.1 q)

below-entries : (m a : ℕ) (ws : List ℕ) → a + 2 * length ws ≤ m → Below m (entries_of_words a ws)
below-entries m a [] h = tt
below-entries m a (w ∷ ws) h = (omega arith, below-entries m (a + 2) ws (omega arith))

below-pieces : (low : ℕ) (ps : List Piece) (k : ℕ) → Rise low ps → k < length ps → Below (piece ps k).at (entries_of_pieces (take k ps))
unfolding Rise entries_of_pieces
below-pieces low [] k r h = absurd (omega arith)
below-pieces low (p ∷ ps) zero r h = tt
below-pieces low (p ∷ ps) (suc k) r h =
    below-append (piece ps k).at (entries_of_words p.at p.words) (entries_of_pieces (take k ps))
    (below-entries (piece ps k).at p.at p.words (rises-from (piece_end p) ps k r.2 (omega arith)))
    (below-pieces (piece_end p) ps k r.2 (omega arith))

-- an entry above all others comes last
inserted-last : (a w : ℕ) (l : List ℕ) → Below a l → inserted (section_entry a w) l ≡ l ++ (section_entry a w ∷ [])
unfolding inserted
inserted-last a w [] b = refl
inserted-last a w (e ∷ l) b = let z = b.0 in rw (le-ltb (section_entry a w) e (omega arith)) (ap (λ (k : List ℕ). e ∷ k) (inserted-last a w l b.1))

below_more : (a w : ℕ) (l : List ℕ) → Below a l → Below (a + 2) (l ++ (section_entry a w ∷ []))
below_more a w [] b = (omega arith, tt)
below_more a w (e ∷ l) b = let z = b.0 in (omega arith, below_more a w l b.1)

entered-last : (a : ℕ) (ws l : List ℕ) → Below a l → length ws ≤ 3 → a + 2 * length ws ≤ 65536 → entered (op_of ws) a l ≡ l ++ entries_of_words a ws
unfolding entered
entered-last a [] l b h k = sym (append-nil l)
entered-last a (x ∷ []) l b h k = inserted-last a x l b
entered-last a (x ∷ y ∷ []) l b h k =
    let p : plus a 2 ≡ a + 2 = omega arith in
    rw (p, inserted-last a x l b, inserted-last (a + 2) y (l ++ (section_entry a x ∷ [])) (below_more a x l b))
    (append_assoc l (section_entry a x ∷ []) (section_entry (a + 2) y ∷ []))
entered-last a (x ∷ y ∷ z ∷ []) l b h k =
    let p : plus a 2 ≡ a + 2 = omega arith in
    let q : plus a 4 ≡ a + 2 + 2 = omega arith in
    let c = below_more a x l b in
    rw (
      p,
      q,
      inserted-last a x l b,
      inserted-last (a + 2) y (l ++ (section_entry a x ∷ [])) c,
      inserted-last (a + 2 + 2) z (l ++ (section_entry a x ∷ []) ++ (section_entry (a + 2) y ∷ [])) (below_more (a + 2) y (l ++ (section_entry a x ∷ [])) c),
      append_assoc l (section_entry a x ∷ []) (section_entry (a + 2) y ∷ []),
    )
    (append_assoc l (section_entry a x ∷ section_entry (a + 2) y ∷ []) (section_entry (a + 2 + 2) z ∷ []))
entered-last a (x ∷ y ∷ z ∷ w ∷ ws) l b h k = absurd (omega arith)

entries_next : (ps : List Piece) (k : ℕ) → k < length ps → entries_of_pieces (take (suc k) ps) ≡ entries_of_pieces (take k ps) ++ entries_of_words (piece ps k).at (piece ps k).words
unfolding entries_of_pieces
entries_next [] k h = absurd (omega arith)
entries_next (p ∷ ps) zero h = append-nil (entries_of_words p.at p.words)
entries_next (p ∷ ps) (suc k) h =
    ap (λ (l : List ℕ). entries_of_words p.at p.words ++ l) (entries_next ps k (omega arith))
    ∙ sym (append_assoc (entries_of_words p.at p.words) (entries_of_pieces (take k ps)) (entries_of_words (piece ps k).at (piece ps k).words))

-- ---- the source of the pieces

-- two lines don't overlap where the one ends before the other begins, or one has no words
free : (s : List ℕ) (i m : ℕ) → ((end_at s m ≤ origin_at s i) ⊎ (end_at s i ≤ origin_at s i)) ⊎ (end_at s m ≤ origin_at s m) → overlaps s i m ≡ false
free s i m h =
    ⊎_elim
    (λ g. ⊎_elim (λ l. rw (le-ltb (origin_at s i) (end_at s m) l) refl)
    (λ l. rw (le-ltb (origin_at s i) (end_at s i) l) (third (ltb (origin_at s i) (end_at s m)) (ltb (origin_at s m) (end_at s i)))) g)
    (λ l. rw (le-ltb (origin_at s m) (end_at s m) l) (fourth (ltb (origin_at s i) (end_at s m)) (ltb (origin_at s m) (end_at s i)) (ltb (origin_at s i) (end_at s i)))) h
  where
    third : (a b : Bool) → (a && (b && false)) ≡ false
    third true true = refl
    third true false = refl
    third false b = refl

    fourth : (a b c : Bool) → (a && (b && (c && false))) ≡ false
    fourth true b true = third true b
    fourth true b false = third true b
    fourth false b c = refl

never-far : (s u : List ℕ) (how : How) (h : ℕ) → ((v h : ℕ) → reaches how v h ≡ true) → is_far s how h u ≡ false
unfolding is_far
never-far s u how h f = rw (f (value_of s u) h) (go (eqb (length u) 0))
  where
    go : (b : Bool) → cond b false false ≡ false
    go true = refl
    go false = refl

module _ (ps : List Piece) (r : Rise 0 ps) where
  abbrev source : List ℕ
  source = source_of (piece_lines ps)

  size : length source ≡ 32 * twice (length ps)
  size = source_lines (piece_lines ps) (all-stand 0 ps r) ∙ ap (λ (n : ℕ). 32 * n) (twice-length ps)

  count : line_count source ≡ twice (length ps)
  count = count-is (piece_lines ps) (all-stand 0 ps r) ∙ twice-length ps

  module _ (k : ℕ) (h : k < length ps) where
    abbrev here : Piece
    here = piece ps k

    good : GoodPiece here
    good = good-at 0 ps k r h

    line_of : suc (twice k) < length (piece_lines ps)
    line_of = let a = twice-is k in let b = twice-is (length ps) in let c = twice-length ps in omega arith

    below : here.at < 65536
    below = let a = good.some in let b = good.within in omega arith

    origin-said : said_at source (twice k) ≡ says Origin (op 0 here.at)
    unfolding said_at
    origin-said =
        let l = line_of in
        ap said_of (text-is (piece_lines ps) (all-stand 0 ps r) (twice k) (omega arith) ∙ origin-line ps k h) ∙ origin-again here.at below

    text-said : said_at source (suc (twice k)) ≡ says Plain (op_of here.words)
    unfolding said_at
    text-said = ap said_of (text-is (piece_lines ps) (all-stand 0 ps r) (suc (twice k)) line_of ∙ text-line ps k h) ∙ good.said

    -- the text begins at the piece's address, and the next line at its end
    begins : origin_at source (suc (twice k)) ≡ here.at
    unfolding origin_at
    begins = rw origin-said refl

    goes_on : origin_at source (suc (suc (twice k))) ≡ piece_end here
    unfolding origin_at
    goes_on = rw (text-said, begins) refl

    origin-ends : end_at source (twice k) ≡ origin_at source (twice k)
    unfolding end_at
    origin-ends = rw origin-said (omega arith)

    text-ends : end_at source (suc (twice k)) ≡ piece_end here
    unfolding end_at
    text-ends = rw (text-said, begins) refl

  -- ---- nothing is wrong with it

  reached : (k : ℕ) → k < length ps → origin_at source (twice k) ≤ 65536
  unfolding origin_at
  reached zero h = omega arith
  reached (suc k) h = let e = goes_on k (omega arith) in let w = (good k (omega arith)).within in omega (arith, e, w)

  no_words : (k : ℕ) → k < length ps → end_at source (twice k) ≤ origin_at source (twice k)
  no_words k h = let e = origin-ends k h in omega (arith, e)

  text-free : (k : ℕ) → k < length ps → (m : ℕ) → m < suc (twice k) → overlaps source (suc (twice k)) m ≡ false
  text-free k h m l =
      each_line (λ m. m < suc (twice k) → overlaps source (suc (twice k)) m ≡ false) (suc k)
      (λ j g. (λ l. free source (suc (twice k)) (twice j) (inr (no_words j (omega arith))), λ l. free source (suc (twice k)) (suc (twice j)) (inl (inl (earlier j g l)))))
      m (omega arith) l
    where
      earlier : (j : ℕ) → j < suc k → suc (twice j) < suc (twice k) → end_at source (suc (twice j)) ≤ origin_at source (suc (twice k))
      earlier j g l =
          let a = twice-is j in
          let b = twice-is k in
          let q = ends-before 0 ps j k r (omega arith) h in
          let e = text-ends j (omega arith) in
          let f = begins k h in
          omega (arith, q, e, f)

  not-misplaced : (i : ℕ) → is_odd (said_at source i) ≡ false → end_at source i ≤ 65536 → ((m : ℕ) → m < i → overlaps source i m ≡ false) → misplaced source i ≡ false
  unfolding misplaced
  not-misplaced i o e f = rw (o, le-ltb 65536 (end_at source i) e, no-first (overlaps source i) i f) refl

  module _ (i : ℕ) (l : i < length (piece_lines ps)) (how : How) (o : Op) (q : said_at source i ≡ says how o) where
    right : is_unknown how ≡ false → has_labels how ≡ false → ((v h : ℕ) → reaches how v h ≡ true) → misplaced source i ≡ false → Right source i
    unfolding is_given lacks far said_at
    right u n c p = record {
      known = rw q u;
      new = rw (label-none (piece_lines ps) (all-stand 0 ps r) i l) refl;
      found = rw (q, n) refl;
      in_place = p;
      near = rw (q, never-far source _ how _ c, never-far source _ how _ c) refl;
    }

  origin-right : (k : ℕ) → k < length ps → Right source (twice k)
  origin-right k h =
      let l = line_of k h in
      right (twice k) (omega arith) Origin (op 0 (here k h).at) (origin-said k h) refl refl (λ v h. refl)
      (not-misplaced (twice k) (rw (origin-said k h, (good k h).even) refl) (let e = no_words k h in let b = reached k h in omega (arith, e, b)) (λ m g. free source (twice k) m (inl (inr (no_words k h)))))

  text-right : (k : ℕ) → k < length ps → Right source (suc (twice k))
  text-right k h =
      right (suc (twice k)) (line_of k h) Plain (op_of (here k h).words) (text-said k h) refl refl (λ v h. refl)
      (not-misplaced (suc (twice k)) (rw (text-said k h) refl) (let e = text-ends k h in let b = (good k h).within in omega (arith, e, b)) (text-free k h))

  all_right : (i : ℕ) → i < line_count source → Right source i
  all_right i l = each_line (λ i. Right source i) (length ps) (λ k h. (origin-right k h, text-right k h)) i (let c = count in omega (arith, c, l))

  -- ---- its words

  origin-placed : (k : ℕ) → k < length ps → words_placed source (suc (twice k)) ≡ words_placed source (twice k)
  unfolding words_placed entered said_at
  origin-placed k h = rw (origin-words source (text_at source (twice k)) (here_of source (twice k)) (op 0 (here k h).at) (origin-said k h)) refl

  text-placed : (k : ℕ) (l : List ℕ) → k < length ps → Below (piece ps k).at l → words_placed source (suc (twice k)) ≡ l
      → words_placed source (suc (suc (twice k))) ≡ l ++ entries_of_words (piece ps k).at (piece ps k).words
  unfolding words_placed said_at
  text-placed k l h b e =
      let p : here_of source (suc (twice k)) ≡ (here k h).at = let a = begins k h in let c = below k h in omega (arith, a, c) in
      rw (plain-words source (text_at source (suc (twice k))) (here_of source (suc (twice k))) (op_of (here k h).words) (text-said k h), p, e)
      (entered-last (here k h).at (here k h).words l b (good k h).few (good k h).within)

  placed-is : (k : ℕ) → k ≤ length ps → words_placed source (twice k) ≡ entries_of_pieces (take k ps)
  unfolding entries_of_pieces words_placed
  placed-is zero h = refl
  placed-is (suc k) h =
      text-placed k (entries_of_pieces (take k ps)) (omega arith) (below-pieces 0 ps k r (omega arith)) (origin-placed k (omega arith) ∙ placed-is k (omega arith))
      ∙ sym (entries_next ps k (omega arith))

  words_are : words_placed source (line_count source) ≡ entries_of_pieces ps
  words_are = ap (words_placed source) count ∙ placed-is (length ps) (omega arith) ∙ ap entries_of_pieces (take-length ps)

  pub pieces-again : PiecesAgain ps r
  unfolding assembled
  pieces-again out l n =
      let z = size in
      let t = twice-is (length ps) in
      nothing-wrong source out l (omega arith) (omega arith) all_right
      ∙ ap (λ (e : List ℕ). section_written (section_of e) out) words_are
