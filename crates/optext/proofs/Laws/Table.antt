-- Laws of the table of op codes: each is one test over its rows.
use Rattle.std.proofs.Common.{◌≡◌, ℕ, zero, suc, ◌+◌, ◌*◌, ◌<◌, ◌≤◌, Bool, true, false, cond, T, eqb, ltb, leb, List, [], ◌∷◌, ◌++◌, length, get_or, take, drop, sym, refl, ap, ◌∙◌, ⊎_elim, arith, eqb→eq, ltb→lt, leb→le, get_or-drop, eq-eqb}
use lib.ListN.{get_or-append, get_or-eq_default}
use lib.Seq.{drop-append-add}
use Rattle.optext.specs.declared.rows.OperandKind.{OperandKind}
use Rattle.optext.specs.declared.rows.OperandKind.TheVariants.{None, Mask, Disp, Reg, Arg4, Arg6, Count, High, Mid, Dst, Addr, Src, Word}
use Rattle.hexdigits.specs.Digits.{hex4}
use Rattle.optext.specs.Rows.{Row, row_count, row_width, rows, the_row, no_row, name_of, base_of, first_of, second_of, row_bytes, letter_of, kind_as}
use Rattle.optext.specs.Line.{is_shown}
use Rattle.optext.proofs.Laws.Choose.{no, lt-cases, at}

-- the rows one after another, as the program has them
abbrev pub table_bytes : List Row → List ℕ
table_bytes [] = []
table_bytes (r ∷ rs) = row_bytes r ++ table_bytes rs

-- from a row's place on, the flat table begins with the row
pub flat-drop : (rs : List Row) (k : ℕ) → k < length rs → drop (k * row_width) (table_bytes rs) ≡ row_bytes (get_or rs k no_row) ++ drop (k * row_width + row_width) (table_bytes rs)
unfolding hex4
flat-drop [] k h = absurd (omega arith)
flat-drop (r ∷ rs) zero h = refl
flat-drop (r ∷ rs) (suc k) h =
    let e : suc k * row_width ≡ row_width + k * row_width = omega arith in
    let g : suc k * row_width + row_width ≡ row_width + (k * row_width + row_width) = omega arith in
    rw (g, e) (drop-append-add (row_bytes r) (table_bytes rs) (k * row_width) ∙ flat-drop rs k (omega arith)
    ∙ ap (λ (l : List ℕ). row_bytes (get_or rs k no_row) ++ l) (sym (drop-append-add (row_bytes r) (table_bytes rs) (k * row_width + row_width))))

pub row-count : length rows ≡ row_count
unfolding rows
row-count = refl

pub flat-length : length (table_bytes rows) ≡ row_count * row_width
unfolding rows hex4
flat-length = refl

pub table_at : (k i : ℕ) → k < row_count → i < row_width → get_or (table_bytes rows) (k * row_width + i) 0 ≡ get_or (row_bytes (the_row k)) i 0
unfolding the_row hex4
table_at k i h g =
    sym (get_or-drop (k * row_width) (table_bytes rows) i 0) ∙ ap (λ (l : List ℕ). get_or l i 0) (flat-drop rows k (rw row-count h))
    ∙ get_or-append (row_bytes (get_or rows k no_row)) (drop (k * row_width + row_width) (table_bytes rows)) 0 i g

-- the five places of a mnemonic
line-name : (r : Row) (i : ℕ) → i < 5 → get_or (row_bytes r) i 0 ≡ get_or r.name i 32
line-name r zero h = refl
line-name r (suc zero) h = refl
line-name r (suc (suc zero)) h = refl
line-name r (suc (suc (suc zero))) h = refl
line-name r (suc (suc (suc (suc zero)))) h = refl
line-name r (suc (suc (suc (suc (suc i))))) h = absurd (omega arith)

-- the letters of the operands
pub kind-back : (k : OperandKind) → kind_as (letter_of k) ≡ k
unfolding kind_as
kind-back None = refl
kind-back Mask = refl
kind-back Disp = refl
kind-back Reg = refl
kind-back Arg4 = refl
kind-back Arg6 = refl
kind-back Count = refl
kind-back High = refl
kind-back Mid = refl
kind-back Dst = refl
kind-back Addr = refl
kind-back Src = refl
kind-back Word = refl

abbrev pub is_kind : OperandKind → OperandKind → Bool
is_kind z k = eqb (letter_of k) (letter_of z)

pub is-kind : (z k : OperandKind) → T (is_kind z k) → k ≡ z
is-kind z k t = sym (kind-back k) ∙ ap kind_as (eqb→eq (letter_of k) (letter_of z) t) ∙ kind-back z

-- what is not shown is none
pub none_is : (k : OperandKind) → is_shown k ≡ false → k ≡ None
none_is None e = refl
none_is Mask e = absurd (no e)
none_is Disp e = absurd (no e)
none_is Reg e = absurd (no e)
none_is Arg4 e = absurd (no e)
none_is Arg6 e = absurd (no e)
none_is Count e = absurd (no e)
none_is High e = absurd (no e)
none_is Mid e = absurd (no e)
none_is Dst e = absurd (no e)
none_is Addr e = absurd (no e)
none_is Src e = absurd (no e)
none_is Word e = absurd (no e)

-- a mnemonic has one to five letters, and none of them is a space
short : ℕ → Bool
short k = leb (length (name_of k)) 5

pub name-le : (k : ℕ) → k < row_count → length (name_of k) ≤ 5
unfolding short the_row rows
name-le k h = leb→le (length (name_of k)) 5 (at short row_count tt k h)

no_space : List ℕ → Bool
no_space [] = true
no_space (x ∷ l) = cond (eqb x 32) false (no_space l)

no-space : (l : List ℕ) (i : ℕ) → T (no_space l) → i < length l → get_or l i 32 ≡ 32 → ⊥
unfolding no_space
no-space [] i t h e = omega arith
no-space (x ∷ l) zero t h e = rw (eq-eqb x 32 e) at t
no-space (x ∷ l) (suc i) t h e = go (eqb x 32) t (λ u. no-space l i u (omega arith) e)
  where
    go : (b : Bool) → T (cond b false (no_space l)) → (T (no_space l) → ⊥) → ⊥
    go true t f = t
    go false t f = f t

pub name-space : (k i : ℕ) → k < row_count → i < length (name_of k) → get_or (name_of k) i 32 ≡ 32 → ⊥
unfolding no_space the_row rows
name-space k i h g e = no-space (name_of k) i (at (λ k. no_space (name_of k)) row_count tt k h) g e

-- the mnemonic stands in front of its row
name-take : (l s : List ℕ) → length l ≤ 5 → take (length l) (get_or l 0 32 ∷ get_or l 1 32 ∷ get_or l 2 32 ∷ get_or l 3 32 ∷ get_or l 4 32 ∷ s) ≡ l
name-take [] s h = refl
name-take (a ∷ []) s h = refl
name-take (a ∷ b ∷ []) s h = refl
name-take (a ∷ b ∷ c ∷ []) s h = refl
name-take (a ∷ b ∷ c ∷ d ∷ []) s h = refl
name-take (a ∷ b ∷ c ∷ d ∷ e ∷ []) s h = refl
name-take (a ∷ b ∷ c ∷ d ∷ e ∷ f ∷ l) s h = absurd (omega arith)

pub name-part : (k n : ℕ) (t : List ℕ) → k < row_count → t ≡ table_bytes rows → n ≡ length (name_of k) → take n (drop (k * row_width) t) ≡ name_of k
unfolding the_row
name-part k n t h e q = rw (e, q, flat-drop rows k (rw row-count h)) (name-take (name_of k) _ (name-le k h))

-- where a mnemonic ends: at the first space of its five places
pub name-ends : (k i c : ℕ) → k < row_count → i ≤ length (name_of k) → i < 5 → c ≡ get_or (row_bytes (the_row k)) i 0 → c ≡ 32 → i ≡ length (name_of k)
name-ends k i c h l g e q =
    ⊎_elim (λ m. absurd (name-space k i h m (sym (line-name (the_row k) i g) ∙ sym e ∙ q))) (λ m. omega arith) (lt-cases i (length (name_of k)))

pub name-goes : (k i c : ℕ) → i < 5 → c ≡ get_or (row_bytes (the_row k)) i 0 → (c ≡ 32 → ⊥) → i < length (name_of k)
name-goes k i c g e n =
    ⊎_elim (λ m. m) (λ m. absurd (n (e ∙ line-name (the_row k) i g ∙ get_or-eq_default (name_of k) 32 m))) (lt-cases i (length (name_of k)))

-- a base op code is a word
pub base-lt : (k : ℕ) → k < row_count → base_of k < 65536
unfolding the_row rows
base-lt k h = ltb→lt (base_of k) 65536 (at (λ k. ltb (base_of k) 65536) row_count tt k h)

-- a row without a first operand has no second, and with a second the mnemonic has at most four letters
no_second : ℕ → Bool
no_second k = cond (is_shown (first_of k)) true (cond (is_shown (second_of k)) false true)

pub none_both : (k : ℕ) → k < row_count → is_shown (first_of k) ≡ false → is_shown (second_of k) ≡ false
unfolding no_second the_row rows
none_both k h e = go (is_shown (second_of k)) (rw e at (at no_second row_count tt k h))
  where
    go : (b : Bool) → T (cond b false true) → b ≡ false
    go true t = absurd t
    go false t = refl

shorter : ℕ → Bool
shorter k = cond (is_shown (second_of k)) (leb (length (name_of k)) 4) true

pub two-le : (k : ℕ) → k < row_count → is_shown (second_of k) ≡ true → length (name_of k) ≤ 4
unfolding shorter the_row rows
two-le k h e = leb→le (length (name_of k)) 4 (rw e at (at shorter row_count tt k h))
