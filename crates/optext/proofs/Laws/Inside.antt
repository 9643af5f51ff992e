-- A row's base op code with any operands of its kinds in it is a word of that row: the guess is always an op code of the row that it was read as.
use Rattle.std.proofs.Common.{◌≡◌, ℕ, ◌+◌, ◌*◌, ◌/◌, ◌%◌, ◌<◌, ◌≤◌, Bool, true, false, cond, T, eqb, ltb, leb, sym, refl, ap, ◌∙◌, subst, ⊎_elim, arith, eqb→eq, ltb→lt, leb→le, get_or-take, eq-eqb, eqb-true}
use Rattle.optext.specs.First.{first_from}
use Rattle.optext.specs.declared.rows.OperandKind.{OperandKind}
use Rattle.optext.specs.declared.rows.OperandKind.TheVariants.{None, Mask, Disp, Reg, Arg4, Arg6, Count, High, Mid, Dst, Addr, Src, Word}
use Rattle.optext.specs.Rows.{Row, OperandPlace, place_of, row_count, word_row, rows, the_row, no_row, base_of, first_of, second_of}
use Rattle.optext.specs.Line.{bits_of, is_reserved, field_of, fits_row, row_of, operand_text}
use Rattle.optext.proofs.Laws.Choose.{lt-cases, bool_cases, all_below, at, both, both_left, both_right, either, either-elim, first-at, first-hit}
use Rattle.optext.proofs.Laws.Table.{is_kind, is-kind}
use Rattle.optext.proofs.Laws.Heads.{pairs, pairs-at}
use Rattle.optext.proofs.Laws.Places.{PartIn, most, bits-le, part-le, fields, sizes, row-fit}
use Rattle.optext.proofs.Laws.Reserved.{codes, few, reserved-elim, reserved-mode, row_word, row-found, row_lt, word_back, last-reserved}

-- a word that a row makes
abbrev pub Fits : ℕ → ℕ → Type 0
Fits w k = base_of k + field_of (first_of k) w + field_of (second_of k) w ≡ w

-- what an operand's bits may be: of JSR and LEA a mode but 0, of .WORD a reserved word
abbrev Legal : Bool → Bool → ℕ → Type 0 → Type 0
Legal true w a P = (8 ≤ a) × P
Legal false true a P = (is_reserved a ≡ true) × P
Legal false false a P = P

abbrev pub PartOk : OperandKind → ℕ → Type 0
PartOk k a = Legal (is_kind Addr k) (is_kind Word k) a (PartIn (place_of k) a)

part_in : (k : OperandKind) (a : ℕ) → PartOk k a → PartIn (place_of k) a
part_in k a = go (is_kind Addr k) (is_kind Word k)
  where
    go : (b c : Bool) → Legal b c a (PartIn (place_of k) a) → PartIn (place_of k) a
    go true c h = h.1
    go false true h = h.1
    go false false h = h

-- the operands are found again in the word that they are put into
row-fields : (k a b : ℕ) → k < row_count → PartOk (first_of k) a → PartOk (second_of k) b → (field_of (first_of k) (base_of k + a + b) ≡ a) × (field_of (second_of k) (base_of k + a + b) ≡ b)
row-fields k a b h p q = fields (place_of (first_of k)) (place_of (second_of k)) (base_of k) (row-fit k h) a b (part_in (first_of k) a p) (part_in (second_of k) b q)

-- the words of a row stand between its base op code and this
abbrev top : Row → ℕ
top r = r.base + most (place_of r.first) + most (place_of r.second)

top_at : ℕ → Bool
top_at k = ltb (top (the_row k)) 65536

top_lt : (k : ℕ) → k < row_count → top (the_row k) < 65536
unfolding top_at the_row rows
top_lt k h = ltb→lt (top (the_row k)) 65536 (at top_at row_count tt k h)

below_top : (w k : ℕ) → k < row_count → Fits w k → (base_of k ≤ w) × (w ≤ top (the_row k))
below_top w k h e =
    let s = sizes (place_of (first_of k)) (place_of (second_of k)) (base_of k) (row-fit k h) in
    let a = bits-le (place_of (first_of k)) w s.0 in
    let b = bits-le (place_of (second_of k)) w s.1 in
    (omega arith, omega arith)

pub guess-lt : (k a b : ℕ) → k < row_count → PartOk (first_of k) a → PartOk (second_of k) b → base_of k + a + b < 65536
guess-lt k a b h p q =
    let x = part-le (place_of (first_of k)) a (part_in (first_of k) a p) in
    let y = part-le (place_of (second_of k)) b (part_in (second_of k) b q) in
    let z = top_lt k h in
    omega arith

-- two rows have no word in common: their words lie apart, or have the same bits for operands and other bits else
abbrev same_place : OperandPlace → OperandPlace → Bool
same_place p q = both (eqb p.unit q.unit) (eqb p.size q.size)

same_bits : (p q : OperandPlace) (w : ℕ) → T (same_place p q) → bits_of p w ≡ bits_of q w
same_bits p q w t =
    rw (eqb→eq p.unit q.unit (both_left (eqb p.unit q.unit) _ t), eqb→eq p.size q.size (both_right (eqb p.unit q.unit) _ t)) refl

abbrev same_places : OperandPlace → OperandPlace → OperandPlace → OperandPlace → Bool
same_places p q p' q' = either (both (same_place p p') (same_place q q')) (both (same_place p q') (same_place q p'))

same_sum : (p q p' q' : OperandPlace) (w : ℕ) → T (same_places p q p' q') → bits_of p w + bits_of q w ≡ bits_of p' w + bits_of q' w
same_sum p q p' q' w =
    either-elim (both (same_place p p') (same_place q q')) (both (same_place p q') (same_place q p')) _
    (λ t. rw (same_bits p p' w (both_left (same_place p p') _ t), same_bits q q' w (both_right (same_place p p') _ t)) refl)
    (λ t. rw (same_bits p q' w (both_left (same_place p q') _ t), same_bits q p' w (both_right (same_place p q') _ t)) (omega arith))

abbrev other : ℕ → ℕ → Bool
other m n = cond (eqb m n) false true

abbrev rows_apart : Row → Row → Bool
rows_apart r s =
    either (ltb (top r) s.base) (either (ltb (top s) r.base)
    (both (same_places (place_of r.first) (place_of r.second) (place_of s.first) (place_of s.second)) (other r.base s.base)))

all_apart : T (pairs rows_apart codes)
unfolding rows
all_apart = tt

apart-or : (w i j : ℕ) → i < word_row → j < word_row → Fits w i → Fits w j → T (rows_apart (the_row i) (the_row j)) → ⊥
apart-or w i j l g p q =
    let a = below_top w i (omega arith) p in
    let b = below_top w j (omega arith) q in
    let a0 = a.0 in
    let a1 = a.1 in
    let b0 = b.0 in
    let b1 = b.1 in
    let S : Bool = same_places (place_of (first_of i)) (place_of (second_of i)) (place_of (first_of j)) (place_of (second_of j)) in
    let D : Bool = other (base_of i) (base_of j) in
    either-elim (ltb (top (the_row i)) (base_of j)) (either (ltb (top (the_row j)) (base_of i)) (both S D)) ⊥ (λ u. let z = ltb→lt (top (the_row i)) (base_of j) u in omega arith)
    (either-elim (ltb (top (the_row j)) (base_of i)) (both S D) ⊥ (λ u. let z = ltb→lt (top (the_row j)) (base_of i) u in omega arith)
    (λ u. let z = same_sum (place_of (first_of i)) (place_of (second_of i)) (place_of (first_of j)) (place_of (second_of j)) w (both_left S D u) in
    let e : base_of i ≡ base_of j = omega arith in
    rw (eq-eqb (base_of i) (base_of j) e) at (both_right S D u)))

fits-twice : (w i j : ℕ) → i < j → j < word_row → Fits w i → Fits w j → ⊥
unfolding the_row
fits-twice w i j l g p q =
    apart-or w i j (omega arith) g p q
    (rw (get_or-take word_row rows i no_row (omega arith), get_or-take word_row rows j no_row g) at (pairs-at rows_apart codes all_apart i j l (rw few g)))

-- the words of JSR and LEA, where mode 0 is illegal; and .WORD's row is the last
abbrev legal : (ℕ → OperandKind) → ℕ → Bool
legal of k =
    both (cond (is_kind Addr (of k)) (both (leb 0x7000 (base_of k)) (ltb (top (the_row k)) 0x7400)) true) (cond (is_kind Word (of k)) (eqb k word_row) true)

-- what a first word must be, beside its row's base op code, to have an operand of a kind
abbrev pub Allowed : OperandKind → ℕ → Type 0
Allowed k w = (T (is_kind Addr k) → 8 ≤ w % 64) × (T (is_kind Word k) → is_reserved w ≡ true)

mode-0 : (w : ℕ) → w % 64 < 8 → w / 8 % 8 ≡ 0
mode-0 w h = let z : w % 64 / 8 ≡ w / 8 % 8 = omega arith in omega arith

not_last : {k : ℕ} → k ≡ word_row → 0x7000 ≤ base_of k → ⊥
unfolding the_row rows
not_last e = subst (λ (k : ℕ). 0x7000 ≤ base_of k → ⊥) (sym e) (λ h. omega arith)

module _ (of : ℕ → OperandKind) (all : T (all_below (legal of) row_count)) (w : ℕ) (h : w < 65536) where
  if-so : (b c : Bool) → T (cond b c true) → T b → T c
  if-so true c t u = t
  if-so false c t u = absurd u

  allowed : Allowed (of (row_of w)) w
  allowed =
      let k : ℕ = row_of w in
      let l = at (legal of) row_count all k (row_lt w) in
      let A : Bool = cond (is_kind Addr (of k)) (both (leb 0x7000 (base_of k)) (ltb (top (the_row k)) 0x7400)) true in
      let last : T (is_kind Word (of k)) → is_reserved w ≡ true = λ t. last-reserved w h (eqb→eq k word_row (if-so (is_kind Word (of k)) _ (both_right A _ l) t)) in (
        λ t. let z = if-so (is_kind Addr (of k)) _ (both_left A _ l) t in
            let a = leb→le 0x7000 (base_of k) (both_left (leb 0x7000 (base_of k)) _ z) in
            let b = ltb→lt (top (the_row k)) 0x7400 (both_right (leb 0x7000 (base_of k)) _ z) in
            let d = below_top w k (row_lt w) (word_back w h) in
            let d0 = d.0 in
            let d1 = d.1 in
            ⊎_elim (λ m. absurd (not_last (row_word w (reserved-mode w (omega arith) (mode-0 w m))) a)) (λ m. m) (lt-cases (w % 64) 8),
        last,
      )

pub allowed-1 : (w : ℕ) → w < 65536 → Allowed (first_of (row_of w)) w
unfolding the_row rows
allowed-1 = allowed first_of tt

pub allowed-2 : (w : ℕ) → w < 65536 → Allowed (second_of (row_of w)) w
unfolding the_row rows
allowed-2 = allowed second_of tt

-- a word that a row makes is not reserved, but for mode 0 of JSR and LEA
free_at : ℕ → Bool
free_at k = both (ltb (top (the_row k)) 0xF000) (either (ltb (top (the_row k)) 0x7000) (either (leb 0x7400 (base_of k)) (is_kind Addr (second_of k))))

free-at : (k : ℕ) → k < word_row → T (free_at k)
unfolding free_at the_row rows
free-at k h = at free_at word_row tt k h

not-reserved : (w k : ℕ) → k < word_row → Fits w k → (T (is_kind Addr (second_of k)) → 8 ≤ w % 64) → is_reserved w ≡ false
unfolding free_at
not-reserved w k g e m =
    let a = below_top w k (omega arith) e in
    let a0 = a.0 in
    let a1 = a.1 in
    let t = free-at k g in
    let z = ltb→lt (top (the_row k)) 0xF000 (both_left (ltb (top (the_row k)) 0xF000) _ t) in
    ⊎_elim (λ r. r) (λ r. absurd (reserved-elim w ⊥ r (λ q. omega arith) (λ q d.
    either-elim (ltb (top (the_row k)) 0x7000) (either (leb 0x7400 (base_of k)) (is_kind Addr (second_of k))) ⊥ (λ x. let y = ltb→lt (top (the_row k)) 0x7000 x in omega arith)
    (either-elim (leb 0x7400 (base_of k)) (is_kind Addr (second_of k)) ⊥ (λ x. let y = leb→le 0x7400 (base_of k) x in omega arith) (λ x. let y = m x in mode-1 w y d))
    (both_right (ltb (top (the_row k)) 0xF000) _ t)))) (bool_cases (is_reserved w))
  where
    mode-1 : (w : ℕ) → 8 ≤ w % 64 → w / 8 % 8 ≡ 0 → ⊥
    mode-1 w h e = let z : w % 64 / 8 ≡ w / 8 % 8 = omega arith in omega arith

-- THE GUESS IS AN OP CODE OF ITS ROW
late : (a b : ℕ) → PartOk (first_of word_row) a → PartOk (second_of word_row) b → row_of (base_of word_row + a + b) ≡ word_row
unfolding the_row rows
late a b p q = let z : 0 + a + b ≡ a = omega arith in rw z (row_word a p.0)

early : (k a b : ℕ) → k < word_row → PartOk (first_of k) a → PartOk (second_of k) b → row_of (base_of k + a + b) ≡ k
early k a b l p q =
    let w : ℕ = base_of k + a + b in
    let f = row-fields k a b (omega arith) p q in
    let e : Fits w k = rw (f.0, f.1) refl in
    let r : is_reserved w ≡ false = not-reserved w k l e (λ t. address (second_of k) w (is-kind Addr (second_of k) t) f.1 q) in
    let m = first-at (fits_row w) word_row 0 k (omega arith) (omega arith) (eq-eqb (base_of k + field_of (first_of k) w + field_of (second_of k) w) w e) in
    row-found w r
    ∙ ⊎_elim (λ n. absurd (fits-twice w (first_from (fits_row w) word_row 0) k n l (eqb-true _ w (first-hit (fits_row w) word_row 0 (omega arith))) e)) (λ n. omega arith) (lt-cases (first_from (fits_row w) word_row 0) k)
  where
    address : (s : OperandKind) (w : ℕ) → s ≡ Addr → field_of s w ≡ b → PartOk s b → 8 ≤ w % 64
    address s w e = subst (λ (s : OperandKind). field_of s w ≡ b → PartOk s b → 8 ≤ w % 64) (sym e) (λ f q. rw f q.0)

pub inside : (k a b : ℕ) → k < row_count → PartOk (first_of k) a → PartOk (second_of k) b → row_of (base_of k + a + b) ≡ k
inside k a b h p q =
    ⊎_elim (λ l. early k a b l p q) (λ l. last (omega arith) p q) (lt-cases k word_row)
  where
    last : k ≡ word_row → PartOk (first_of k) a → PartOk (second_of k) b → row_of (base_of k + a + b) ≡ k
    last e = subst (λ (k : ℕ). PartOk (first_of k) a → PartOk (second_of k) b → row_of (base_of k + a + b) ≡ k) (sym e) (late a b)

-- the text of an operand shows its own bits of the word alone
op-field : (k : OperandKind) (w x : ℕ) → w < 65536 → operand_text k w x ≡ operand_text k (field_of k w) x
op-field None w x h = refl
op-field Mask w x h = refl
op-field Disp w x h = let e : w % 256 % 256 ≡ w % 256 = omega arith in rw e refl
op-field Reg w x h = let e : w % 8 % 8 ≡ w % 8 = omega arith in rw e refl
op-field Arg4 w x h = let e : w % 16 % 16 ≡ w % 16 = omega arith in rw e refl
op-field Arg6 w x h = let e : w % 64 % 64 ≡ w % 64 = omega arith in rw e refl
op-field Count w x h = let e : w % 16 % 16 ≡ w % 16 = omega arith in rw e refl
op-field High w x h = let e : w / 64 % 8 * 64 / 64 % 8 ≡ w / 64 % 8 = omega arith in rw e refl
op-field Mid w x h = let e : w / 8 % 8 * 8 / 8 % 8 ≡ w / 8 % 8 = omega arith in rw e refl
op-field Dst w x h = let e : w % 64 % 64 ≡ w % 64 = omega arith in rw e refl
op-field Addr w x h = let e : w % 64 % 64 ≡ w % 64 = omega arith in rw e refl
op-field Src w x h = let e : w / 64 % 64 * 64 / 64 % 64 ≡ w / 64 % 64 = omega arith in rw e refl
op-field Word w x h = let e : w % 65536 ≡ w = omega arith in rw e refl

-- so each operand of the guess is written as it was read
module _ (k a b x : ℕ) (h : k < row_count) (p : PartOk (first_of k) a) (q : PartOk (second_of k) b) where
  pub part-1 : operand_text (first_of k) (base_of k + a + b) x ≡ operand_text (first_of k) a x
  part-1 = op-field (first_of k) (base_of k + a + b) x (guess-lt k a b h p q) ∙ ap (λ (m : ℕ). operand_text (first_of k) m x) (row-fields k a b h p q).0

  pub part-2 : operand_text (second_of k) (base_of k + a + b) x ≡ operand_text (second_of k) b x
  part-2 = op-field (second_of k) (base_of k + a + b) x (guess-lt k a b h p q) ∙ ap (λ (m : ℕ). operand_text (second_of k) m x) (row-fields k a b h p q).1
