-- Which first words have no row of their own: the reserved op codes, and JSR and LEA with mode 0.
use Rattle.std.proofs.Common.{◌≡◌, ℕ, zero, suc, ◌+◌, ◌-◌, ◌/◌, ◌%◌, ◌<◌, ◌≤◌, Bool, true, false, cond, T, eqb, ltb, leb, List, [], ◌∷◌, length, get_or, take, sym, refl, ◌∙◌, subst, ⊎_elim, arith, eqb→eq, leb→le, get_or-take, eq-eqb, ne_eqb, eqb-true, le-leb}
use borrow.Author.Tests.{lt-leb}
use Rattle.optext.specs.First.{first_from}
use Rattle.optext.specs.Rows.{Row, place_of, row_count, word_row, rows, the_row, no_row, base_of, first_of, second_of}
use Rattle.optext.specs.Line.{field_of, is_reserved, fits_row, row_of}
use Rattle.optext.proofs.Laws.Choose.{no, eq-cases, bool_cases, lt-cases, both, both_left, both_right, first-le, first-hit, first-at}
use Rattle.optext.proofs.Laws.Places.{block, grows, row-fit}

-- the two kinds of reserved words
pub reserved-elim : (w : ℕ) (P : Type 0) → is_reserved w ≡ true → (240 ≤ w / 256 → P) → (w / 1024 ≡ 28 → w / 8 % 8 ≡ 0 → P) → P
unfolding is_reserved
reserved-elim w P r b c =
    ⊎_elim (λ h. ⊎_elim (λ e. c e (mode h e r)) (λ e. absurd (none h e r)) (eq-cases (w / 1024) 28)) b (lt-cases (w / 256) 240)
  where
    mode : w / 256 < 240 → w / 1024 ≡ 28 → is_reserved w ≡ true → w / 8 % 8 ≡ 0
    mode h e r = eqb-true (w / 8 % 8) 0 (rw (lt-leb 240 (w / 256) h, eq-eqb (w / 1024) 28 e) at r)

    none : w / 256 < 240 → (w / 1024 ≡ 28 → ⊥) → is_reserved w ≡ true → ⊥
    none h e r = no (sym (rw (lt-leb 240 (w / 256) h, ne_eqb (w / 1024) 28 e) at r))

pub reserved-high : (w : ℕ) → 240 ≤ w / 256 → is_reserved w ≡ true
unfolding is_reserved
reserved-high w e = rw (le-leb 240 (w / 256) e) refl

pub reserved-mode : (w : ℕ) → w / 1024 ≡ 28 → w / 8 % 8 ≡ 0 → is_reserved w ≡ true
unfolding is_reserved
reserved-mode w e f = rw (lt-leb 240 (w / 256) (omega arith), eq-eqb (w / 1024) 28 e, eq-eqb (w / 8 % 8) 0 f) refl

-- the row of a word, by the two ways of its definition
module _ (w : ℕ) where
  pub row_word : is_reserved w ≡ true → row_of w ≡ word_row
  unfolding row_of
  row_word e = rw e refl

  pub row-found : is_reserved w ≡ false → row_of w ≡ first_from (fits_row w) word_row 0
  unfolding row_of
  row-found e = rw e refl

  pub row_lt : row_of w < row_count
  row_lt =
      ⊎_elim (λ e. rw (row-found e) (let h = first-le (fits_row w) word_row 0 in omega arith)) (λ e. rw (row_word e) (omega arith)) (bool_cases (is_reserved w))

  -- a word is the base op code of its row with the operands in it
  last : w < 65536 → row_of w ≡ word_row → base_of (row_of w) + field_of (first_of (row_of w)) w + field_of (second_of (row_of w)) w ≡ w
  unfolding the_row rows
  last l e = rw e (omega arith)

  found : is_reserved w ≡ false → first_from (fits_row w) word_row 0 < word_row → base_of (row_of w) + field_of (first_of (row_of w)) w + field_of (second_of (row_of w)) w ≡ w
  found e h = rw (row-found e) (eqb-true _ w (first-hit (fits_row w) word_row 0 (omega arith)))

  pub word_back : w < 65536 → base_of (row_of w) + field_of (first_of (row_of w)) w + field_of (second_of (row_of w)) w ≡ w
  word_back l =
      ⊎_elim (λ e. ⊎_elim (found e) (λ h. last l (row-found e ∙ (let g = first-le (fits_row w) word_row 0 in omega arith))) (lt-cases (first_from (fits_row w) word_row 0) word_row))
      (λ e. last l (row_word e)) (bool_cases (is_reserved w))

abbrev fits_in : ℕ → Row → Bool
fits_in z r = eqb (r.base + field_of r.first z + field_of r.second z) z

abbrev block_of : Row → ℕ
block_of r = block (place_of r.first) (place_of r.second) r.base

-- the size of the block that begins at z
abbrev block_in : List Row → ℕ → ℕ
block_in [] z = 0
block_in (r ∷ rs) z = cond (fits_in z r) (block_of r) (block_in rs z)

-- all rows but the last
abbrev pub codes : List Row
codes = take word_row rows

-- from z on, n blocks one after the other cover all words below format 11
abbrev covered : ℕ → ℕ → Bool
covered zero z = leb 0xF000 z
covered (suc n) z = cond (leb 0xF000 z) true (both (ltb 0 (block_in codes z)) (both (eqb (z % block_in codes z) 0) (covered n (z + block_in codes z))))

all-covered : T (covered 300 0)
unfolding rows
all-covered = tt

-- the row that makes the block at z, where z + d is in the block
record Block (rs : List Row) (z d : ℕ) : Type 0 where
  row : ℕ
  lt : row < length rs
  fits : T (fits_in z (get_or rs row no_row))
  within : d < block_of (get_or rs row no_row)
  even : z % block_of (get_or rs row no_row) ≡ 0

block_at : (rs : List Row) (z d : ℕ) → d < block_in rs z → z % block_in rs z ≡ 0 → Block rs z d
block_at [] z d h e = absurd (omega arith)
block_at (r ∷ rs) z d h e = go (λ p q. block_at rs z d p q) (fits_in z r) refl h e
  where
    later : Block rs z d → Block (r ∷ rs) z d
    later b = record { row = suc b.row; lt = let l = b.lt in omega arith; fits = b.fits; within = b.within; even = b.even }

    go : (d < block_in rs z → z % block_in rs z ≡ 0 → Block rs z d) → (t : Bool) → fits_in z r ≡ t
        → d < cond t (block_of r) (block_in rs z) → z % cond t (block_of r) (block_in rs z) ≡ 0 → Block (r ∷ rs) z d
    go f true q h e = record { row = 0; lt = omega arith; fits = subst (λ (b : Bool). T b) (sym q) tt; within = h; even = e }
    go f false q h e = later (f h e)

pub few : length codes ≡ word_row
unfolding rows
few = refl

in_block : (z d : ℕ) → d < block_in codes z → z % block_in codes z ≡ 0 → first_from (fits_row (z + d)) word_row 0 < word_row
unfolding the_row
in_block z d h e =
    let b = block_at codes z d h e in
    let k : ℕ = b.row in
    let l : k < word_row = rw few at b.lt in
    let r : get_or codes k no_row ≡ the_row k = get_or-take word_row rows k no_row l in
    let f : T (fits_in z (the_row k)) = rw r at b.fits in
    let m : z % block_of (the_row k) ≡ 0 = rw r at b.even in
    let n : d < block_of (the_row k) = rw r at b.within in
    let g = grows (place_of (first_of k)) (place_of (second_of k)) (base_of k) (row-fit k (omega arith)) z d m n (eqb→eq (base_of k + field_of (first_of k) z + field_of (second_of k) z) z f) in
    let i = first-at (fits_row (z + d)) word_row 0 k (omega arith) (omega arith) (eq-eqb (base_of k + field_of (first_of k) (z + d) + field_of (second_of k) (z + d)) (z + d) g) in
    omega arith

-- a first word that is neither reserved nor illegal has a row of its own
has-from : (n z w : ℕ) → T (covered n z) → z ≤ w → w < 0xF000 → first_from (fits_row w) word_row 0 < word_row
has-from zero z w t l h = absurd (let g = leb→le 0xF000 z t in omega arith)
has-from (suc n) z w t l h = go (λ u m. has-from n (z + block_in codes z) w u m h) (leb 0xF000 z) refl t
  where
    here : w - z < block_in codes z → z % block_in codes z ≡ 0 → first_from (fits_row w) word_row 0 < word_row
    here k e = let sum : z + (w - z) ≡ w = omega arith in rw sum at (in_block z (w - z) k e)

    go : (T (covered n (z + block_in codes z)) → z + block_in codes z ≤ w → first_from (fits_row w) word_row 0 < word_row)
        → (b : Bool) → leb 0xF000 z ≡ b → T (cond b true (both (ltb 0 (block_in codes z)) (both (eqb (z % block_in codes z) 0) (covered n (z + block_in codes z))))) → first_from (fits_row w) word_row 0 < word_row
    go f true q t = absurd (let g = leb→le 0xF000 z (subst (λ (b : Bool). T b) (sym q) tt) in omega arith)
    go f false q t =
        let u = both_right (ltb 0 (block_in codes z)) (both (eqb (z % block_in codes z) 0) (covered n (z + block_in codes z))) t in
        let e = eqb→eq (z % block_in codes z) 0 (both_left (eqb (z % block_in codes z) 0) (covered n (z + block_in codes z)) u) in
        ⊎_elim (λ k. here k e)
        (λ k. f (both_right (eqb (z % block_in codes z) 0) (covered n (z + block_in codes z)) u) (omega arith)) (lt-cases (w - z) (block_in codes z))

pub has-row : (w : ℕ) → w < 65536 → is_reserved w ≡ false → row_of w < word_row
has-row w h r =
    rw (row-found w r) (⊎_elim (has-from 300 0 w all-covered (omega arith)) (λ l. absurd (no (sym (reserved-high w (omega arith)) ∙ r))) (lt-cases w 0xF000))

-- so the word of the last row is reserved
pub last-reserved : (w : ℕ) → w < 65536 → row_of w ≡ word_row → is_reserved w ≡ true
last-reserved w h e = ⊎_elim (λ r. absurd (let l = has-row w h r in omega arith)) (λ r. r) (bool_cases (is_reserved w))
