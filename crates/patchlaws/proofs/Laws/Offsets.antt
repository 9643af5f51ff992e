-- Labels as operands A and @A of the op codes with two operands, the theorems of specs/Labels.antt.
use mathlib.Core.Path.{◌≡◌, refl, ap, sym, ◌∙◌, subst}
use mathlib.Core.Bool.{Bool, true, false, cond}
use mathlib.Core.List.{List, [], ◌∷◌, ◌++◌, append_assoc}
use Prim.Native.Nat.{ℕ, zero, suc, ◌+◌, ◌-◌, ◌*◌, ◌/◌, ◌%◌, ◌≤◌, ◌<◌}
use native.Mathlib.Omega.{arith}
use borrow.Author.Tests.{lt-ltb, eqb-false, eq-eqb, ne_eqb}
use lib.Dec.{T, ltb, eqb, eqb→eq, ltb→lt}
use lib.ListN.{length, drop, get_or, set, length-set}
use lib.Seq.{get_or-set_same, get_or-set_other}
use Rattle.hexdigits.specs.Digits.{letters}
use Rattle.wordmath.specs.Address.{plus, minus}
use Rattle.opcodes.specs.Fields.{high_byte}
use Rattle.plate.specs.Plate.{format_of}
use Rattle.optext.specs.declared.Op.{Op}
use Rattle.optext.specs.Digits.{un_hex4}
use Rattle.optext.specs.Rows.{rows, the_row, name_of, first_of, second_of}
use Rattle.optext.specs.Line.{mode_text, mode_takes, takes, taken, row_of, sep_text, row_text, op_text, text_of}
use Rattle.optext.specs.Shown.{Without}
use Rattle.optext.specs.Column.{Whole}
use Rattle.optext.specs.Read.{words_of_text, op_of}
use Rattle.optext.proofs.Laws.Shown.{without-append}
use Rattle.optext.proofs.Laws.Choose.{both, both_left, both_right, at}
use Rattle.optext.proofs.Laws.Back.{op-ignores}
use Rattle.optext.proofs.Laws.Forms.{mode-takes-le}
use Rattle.optext.proofs.Laws.Inside.{inside}
use Rattle.optext.proofs.Laws.Reader.{read-of-words}
use Rattle.patchline.specs.Text.{slice, is_name}
use Rattle.patchline.specs.declared.oneline.How.TheVariants.{Unknown, Origin, Plain, Branch, Sob, Relative}
use Rattle.patchline.specs.Line.{operands_at, comma_at, first_in, second_in, at_of, bare_operand, label_in, filled_in, alias_of, tail_of, filled, is_directive, is_branch, is_sob, says, op, op_in, said_with, said_of, with_label}
use Rattle.assembler.specs.Source.{value_of, with_labels, line_op}
use Rattle.patchlaws.specs.Labels.{filled_twice, FirstRead, SecondRead, BothRead}
use Rattle.patchlaws.proofs.Laws.Modes.{computed, mode-commas, comma-same, offset_pc, zeros-are, mode-end}
use Rattle.patchlaws.proofs.Laws.Labels.{unlike, zeros, offsets, is_label, no_label, before_first, before_second, second-filled, put-none, put_some, has-comma}
use Rattle.opcodes.proofs.Laws.Past.{Below, below}

-- ---- the rows of format 10

abbrev digit_of : ℕ → ℕ
digit_of j = cond (ltb j 6) (j + 1) (j + 3)

record Row (j : ℕ) : Type 0 where
  row : (a b : ℕ) → a / 64 * 64 ≡ a → a < 4096 → b < 64 → row_of (digit_of j * 4096 + a + b) ≡ 99 + j
  text : (w x y : ℕ) → row_text (99 + j) w x y ≡ ((name_of (99 + j) ++ (32 ∷ [])) ++ mode_text (w / 64 % 64) x) ++ (44 ∷ mode_text (w % 64) y)
  first : (w : ℕ) → takes (first_of (99 + j)) w ≡ mode_takes (w / 64 % 64)
  second : (w : ℕ) → takes (second_of (99 + j)) w ≡ mode_takes (w % 64)
  free : Without 44 (name_of (99 + j) ++ (32 ∷ []))

ten-rows : Below Row 12
unfolding Below the_row rows sep_text
ten-rows = ((((((((((((tt, record { row = λ a b e l h. inside 99 a b (omega arith) (e, l) h; text = λ w x y. refl; first = λ w. refl; second = λ w. refl; free = computed 44 (letters "ADD ") tt }), record { row = λ a b e l h. inside 100 a b (omega arith) (e, l) h; text = λ w x y. refl; first = λ w. refl; second = λ w. refl; free = computed 44 (letters "SUB ") tt }), record { row = λ a b e l h. inside 101 a b (omega arith) (e, l) h; text = λ w x y. refl; first = λ w. refl; second = λ w. refl; free = computed 44 (letters "AND ") tt }), record { row = λ a b e l h. inside 102 a b (omega arith) (e, l) h; text = λ w x y. refl; first = λ w. refl; second = λ w. refl; free = computed 44 (letters "BIC ") tt }), record { row = λ a b e l h. inside 103 a b (omega arith) (e, l) h; text = λ w x y. refl; first = λ w. refl; second = λ w. refl; free = computed 44 (letters "BIS ") tt }), record { row = λ a b e l h. inside 104 a b (omega arith) (e, l) h; text = λ w x y. refl; first = λ w. refl; second = λ w. refl; free = computed 44 (letters "XOR ") tt }), record { row = λ a b e l h. inside 105 a b (omega arith) (e, l) h; text = λ w x y. refl; first = λ w. refl; second = λ w. refl; free = computed 44 (letters "CMP ") tt }), record { row = λ a b e l h. inside 106 a b (omega arith) (e, l) h; text = λ w x y. refl; first = λ w. refl; second = λ w. refl; free = computed 44 (letters "BIT ") tt }), record { row = λ a b e l h. inside 107 a b (omega arith) (e, l) h; text = λ w x y. refl; first = λ w. refl; second = λ w. refl; free = computed 44 (letters "MOV ") tt }), record { row = λ a b e l h. inside 108 a b (omega arith) (e, l) h; text = λ w x y. refl; first = λ w. refl; second = λ w. refl; free = computed 44 (letters "CMPB ") tt }), record { row = λ a b e l h. inside 109 a b (omega arith) (e, l) h; text = λ w x y. refl; first = λ w. refl; second = λ w. refl; free = computed 44 (letters "MOVB ") tt }), record { row = λ a b e l h. inside 110 a b (omega arith) (e, l) h; text = λ w x y. refl; first = λ w. refl; second = λ w. refl; free = computed 44 (letters "BISB ") tt })

-- by the plate
abbrev number_of : ℕ → ℕ
number_of d = cond (ltb d 7) (d - 1) (d - 3)

abbrev ten_test : ℕ → Bool
ten_test h = cond (eqb (format_of h) 10) (both (ltb (number_of (h / 16)) 12) (eqb (digit_of (number_of (h / 16))) (h / 16))) true

ten-number : (h : ℕ) → h < 256 → format_of h ≡ 10 → (number_of (h / 16) < 12) × (digit_of (number_of (h / 16)) ≡ h / 16)
unfolding format_of
ten-number h l e = by (at ten_test 256 tt h l)
  where
    by : T (ten_test h) → (number_of (h / 16) < 12) × (digit_of (number_of (h / 16)) ≡ h / 16)
    by t =
        let u = subst (λ (x : ℕ). T (cond (eqb x 10) (both (ltb (number_of (h / 16)) 12) (eqb (digit_of (number_of (h / 16))) (h / 16))) true)) e t in
        (ltb→lt (number_of (h / 16)) 12 (both_left (ltb (number_of (h / 16)) 12) _ u), eqb→eq (digit_of (number_of (h / 16))) (h / 16) (both_right (ltb (number_of (h / 16)) 12) _ u))

record Ten (w : ℕ) : Type 0 where
  name : List ℕ
  text : (x y : ℕ) → op_text w x y ≡ (name ++ mode_text (w / 64 % 64) x) ++ (44 ∷ mode_text (w % 64) y)
  first : takes (first_of (row_of w)) w ≡ mode_takes (w / 64 % 64)
  count : taken w ≡ 1 + mode_takes (w / 64 % 64) + mode_takes (w % 64)
  free : Without 44 name

ten : (w : ℕ) → w < 65536 → format_of (high_byte w) ≡ 10 → Ten w
unfolding op_text taken
ten w l e =
    let n = ten-number (w / 256) (omega (arith, l)) e in
    let j = number_of (w / 256 / 16) in
    let r = below Row 12 ten-rows j n.0 in
    let q : digit_of j * 4096 + w / 64 % 64 * 64 + w % 64 ≡ w = rw n.1 (parts w) in
    let k : row_of w ≡ 99 + j = ap row_of (sym q) ∙ r.row (w / 64 % 64 * 64) (w % 64) (omega arith) (omega arith) (omega arith) in
    record {
      name = name_of (99 + j) ++ (32 ∷ []);
      text = λ x y. rw k (r.text w x y);
      first = rw k (r.first w);
      count = rw (k, r.first w, r.second w) refl;
      free = r.free;
    }
  where
    parts : (w : ℕ) → w / 256 / 16 * 4096 + w / 64 % 64 * 64 + w % 64 ≡ w
    parts w =
        let a : w / 64 / 64 ≡ w / 256 / 16 = omega arith in
        let b : w / 64 ≡ w / 256 / 16 * 64 + w / 64 % 64 = omega (arith, a) in
        omega (arith, b)

-- ---- how the line was taken

taken-relative : (a b c d e f g : Bool) (p q r u v w z : Op)
    → (cond a (says Plain p) (cond b (says Plain q) (cond c (says Origin r) (cond d (says Plain u) (cond e (says Branch v) (cond f (says Sob v) (cond g (says Unknown w) (says Relative z)))))))).how ≡ Relative
    → (g ≡ false) × (cond a (says Plain p) (cond b (says Plain q) (cond c (says Origin r) (cond d (says Plain u) (cond e (says Branch v) (cond f (says Sob v) (cond g (says Unknown w) (says Relative z))))))) ≡ says Relative z)
taken-relative true b c d e f g p q r u v w z h = unlike Plain Relative refl h
taken-relative false true c d e f g p q r u v w z h = unlike Plain Relative refl h
taken-relative false false true d e f g p q r u v w z h = unlike Origin Relative refl h
taken-relative false false false true e f g p q r u v w z h = unlike Plain Relative refl h
taken-relative false false false false true f g p q r u v w z h = unlike Branch Relative refl h
taken-relative false false false false false true g p q r u v w z h = unlike Sob Relative refl h
taken-relative false false false false false false true p q r u v w z h = unlike Unknown Relative refl h
taken-relative false false false false false false false p q r u v w z h = (refl, refl)

pub said-relative : (t : List ℕ) → (said_of t).how ≡ Relative → (eqb (op_in (offsets t)).count 0 ≡ false) × (said_of t ≡ says Relative (op_in (offsets t)))
unfolding said_of said_with
said-relative t h =
    taken-relative (eqb (length t) 0) (ltb 0 (op_in t).count) (is_directive (letters ".ORG ") t) (is_directive (letters ".WORD ") t) (is_branch (op_in (zeros t)).a) (is_sob (op_in (zeros t)).a) (eqb (op_in (offsets t)).count 0)
    (op 0 0) (op_in t) (op 0 (un_hex4 (drop 5 t))) (op 1 (un_hex4 (drop 6 t))) (op_in (zeros t)) (op 0 0) (op_in (offsets t)) h

-- the first operand's label, before a second operand
first-of-two : (t d : List ℕ) → comma_at t < length t → is_name (bare_operand (first_in t)) ≡ true → is_name (bare_operand (second_in t)) ≡ false → filled d t ≡ (before_first t ++ d) ++ (44 ∷ second_in t)
unfolding filled filled_in tail_of
first-of-two t d c f e =
    rw (f, e, lt-ltb (comma_at t) (length t) c)
    (ap (λ (z : List ℕ). z ++ (44 ∷ second_in t)) (sym (append_assoc (alias_of (slice 0 (operands_at t) t)) (slice 0 (at_of (first_in t)) (first_in t)) d)))

-- ---- a word put into others

-- the text of words, by the words that it shows
pub shown : (l : List ℕ) (n : ℕ) → takes (first_of (row_of (get_or l 0 0))) (get_or l 0 0) ≡ n → text_of l ≡ op_text (get_or l 0 0) (get_or l 1 0) (get_or l (1 + n) 0)
unfolding text_of
shown l n e = rw e refl

small-set : (l : List ℕ) (i o : ℕ) → o < 65536 → ((k : ℕ) → get_or l k 0 < 65536) → (k : ℕ) → get_or (set l i o) k 0 < 65536
small-set [] i o h s k = s k
small-set (x ∷ l) zero o h s zero = h
small-set (x ∷ l) zero o h s (suc k) = s (suc k)
small-set (x ∷ l) (suc i) o h s zero = s zero
small-set (x ∷ l) (suc i) o h s (suc k) = small-set l i o h (λ j. s (suc j)) k

pub record Put (l : List ℕ) (i o : ℕ) : Type 0 where
  pub first : get_or (set l i o) 0 0 ≡ get_or l 0 0
  pub there : get_or (set l i o) i 0 ≡ o
  pub size : length (set l i o) ≡ length l
  pub rest : (k : ℕ) → (k ≡ i → ⊥) → get_or (set l i o) k 0 ≡ get_or l k 0

pub put_in : (l : List ℕ) (i o : ℕ) → 0 < i → i < length l → Put l i o
put_in l i o p h = record {
  first = get_or-set_other l i 0 o 0 (λ e. omega (arith, e, p));
  there = get_or-set_same l i o 0 h;
  size = length-set l i o;
  rest = λ k n. get_or-set_other l i k o 0 n;
}

pub put_whole : (l : List ℕ) (i o : ℕ) → 0 < i → i < length l → o < 65536 → Whole l → Whole (set l i o)
put_whole l i o p h s w =
    let q = put_in l i o p h in
    record { count = q.size ∙ w.count ∙ ap taken (sym q.first); words = small-set l i o s w.words }

pub put-op : (l : List ℕ) (i o : ℕ) (b c : ℕ) → 0 < i → i < length l → get_or (set l i o) 1 0 ≡ b → get_or (set l i o) 2 0 ≡ c
    → op_of (set l i o) ≡ record { count = length l; a = get_or l 0 0; b = b; c = c }
put-op l i o b c p h e f = let q = put_in l i o p h in rw (q.size, q.first, e, f) refl

pub some-count : (l : List ℕ) → eqb (length l) 0 ≡ false → 0 < length l
some-count l e = let n = eqb-false (length l) 0 e in omega (arith, n)

pub zero-offset : letters "0000(PC)" ≡ offset_pc 0
zero-offset = sym zeros-are

pub low_word : (v h n : ℕ) → minus v (plus h n) < 65536
low_word v h n = omega arith

-- the line of a first operand that has no word of its own
line-ignores : (w x' x y : ℕ) → takes (first_of (row_of w)) w ≡ 0 → op_text w x' y ≡ op_text w x y
unfolding op_text sep_text
line-ignores w x' x y e = rw (op-ignores (first_of (row_of w)) w x' x e) refl

-- ---- THE STATEMENTS

pub first_read : FirstRead
unfolding op_in line_op
first_read s t h how ten-op comma label other =
    let sr = said-relative t how in
    let vs = words_of_text (offsets t) in
    let w = get_or vs 0 0 in
    let read = read-of-words (offsets t) (some-count vs sr.0) in
    let r = ten w (read.0.words 0) (ap (λ z. format_of (high_byte z.op.a)) (sym sr.1) ∙ ten-op) in
    let x = get_or vs 1 0 in
    let y = get_or vs (1 + mode_takes (w / 64 % 64)) 0 in
    let fill : (d : List ℕ) → filled d t ≡ (before_first t ++ d) ++ (44 ∷ second_in t) = λ d. first-of-two t d comma (is_label (first_in t) label) (no_label (second_in t) other) in
    let line = sym (fill (offset_pc 0)) ∙ sym (ap (λ (z : List ℕ). filled z t) zero-offset) ∙ sym read.1 ∙ shown vs (mode_takes (w / 64 % 64)) r.first ∙ r.text x y in
    let parts = comma-same (before_first t ++ offset_pc 0) (second_in t) (r.name ++ mode_text (w / 64 % 64) x) (mode_text (w % 64) y) (without-append r.free (mode-commas (w / 64 % 64) x)) (mode-commas (w % 64) y) line in
    let m = mode-end r.name (before_first t) (w / 64 % 64) x (omega arith) (sym parts.0) in
    let v = value_of s (label_in (first_in t)) in
    let o = minus v (plus h 4) in
    let n : length vs ≡ 2 + mode_takes (w % 64) = read.0.count ∙ r.count ∙ rw m.takes (omega arith) in
    let p = put_in vs 1 o (omega arith) (omega (arith, n)) in
    let first : takes (first_of (row_of (get_or (set vs 1 o) 0 0))) (get_or (set vs 1 o) 0 0) ≡ 1 = ap (λ (z : ℕ). takes (first_of (row_of z)) z) p.first ∙ r.first ∙ m.takes in
    let third : get_or (set vs 1 o) 2 0 ≡ y = p.rest 2 (λ e. omega (arith, e)) ∙ ap (λ (k : ℕ). get_or vs k 0) (sym (ap (λ (k : ℕ). 1 + k) m.takes)) in
    let text : text_of (set vs 1 o) ≡ filled (offset_pc o) t =
    shown (set vs 1 o) 1 first ∙ rw (p.first, p.there, third) (r.text o y ∙ rw (m.other o, ← parts.1) (sym (fill (offset_pc o)))) in
    let words : with_label Relative false v h (op_of vs) ≡ op_of (set vs 1 o) = sym (put-op vs 1 o o (get_or vs 2 0) (omega arith) (omega (arith, n)) p.there (p.rest 2 (λ e. omega (arith, e)))) in (
      set vs 1 o,
      record { whole = put_whole vs 1 o (omega arith) (omega (arith, n)) (low_word v h 4) read.0; text = text },
      rw sr.1
          (put-none s Relative (eqb (length vs) 3) h (label_in (second_in t)) (with_labels s Relative false h (label_in (first_in t)) (op_of vs)) other ∙ put_some s Relative false h (label_in (first_in t)) (op_of vs) label ∙ words),
    )

pub second-read : SecondRead
unfolding op_in line_op
second-read s t h how ten-op other label =
    let sr = said-relative t how in
    let vs = words_of_text (offsets t) in
    let w = get_or vs 0 0 in
    let read = read-of-words (offsets t) (some-count vs sr.0) in
    let r = ten w (read.0.words 0) (ap (λ z. format_of (high_byte z.op.a)) (sym sr.1) ∙ ten-op) in
    let m1 = mode_takes (w / 64 % 64) in
    let x = get_or vs 1 0 in
    let y = get_or vs (1 + m1) 0 in
    let fill : (d : List ℕ) → filled d t ≡ before_second t ++ d = λ d. second-filled t d (has-comma t label) (no_label (first_in t) other) (is_label (second_in t) label) in
    let before : List ℕ = (r.name ++ mode_text (w / 64 % 64) x) ++ (44 ∷ []) in
    let own : op_text w x y ≡ before ++ mode_text (w % 64) y = r.text x y ∙ sym (append_assoc (r.name ++ mode_text (w / 64 % 64) x) (44 ∷ []) (mode_text (w % 64) y)) in
    let line : before ++ mode_text (w % 64) y ≡ before_second t ++ offset_pc 0 =
    sym own ∙ sym (shown vs m1 r.first) ∙ read.1 ∙ ap (λ (z : List ℕ). filled z t) zero-offset ∙ fill (offset_pc 0) in
    let m = mode-end before (before_second t) (w % 64) y (omega arith) line in
    let v = value_of s (label_in (second_in t)) in
    let o = minus v (plus h (cond (eqb (length vs) 3) 6 4)) in
    let n : length vs ≡ 2 + m1 = read.0.count ∙ r.count ∙ rw m.takes (omega arith) in
    let few = mode-takes-le (w / 64 % 64) in
    let i : ℕ = 1 + m1 in
    let p = put_in vs i o (omega arith) (omega (arith, n)) in
    let first : takes (first_of (row_of (get_or (set vs i o) 0 0))) (get_or (set vs i o) 0 0) ≡ m1 = ap (λ (z : ℕ). takes (first_of (row_of z)) z) p.first ∙ r.first in
    let text : text_of (set vs i o) ≡ filled (offset_pc o) t =
    shown (set vs i o) m1 first ∙ rw (p.first, p.there)
    (kept w x (get_or (set vs i o) 1 0) o m1 r.first few (λ e. p.rest 1 (λ z. omega (arith, z, e)))
    ∙ r.text x o ∙ sym (append_assoc (r.name ++ mode_text (w / 64 % 64) x) (44 ∷ []) (mode_text (w % 64) o)) ∙ m.other o ∙ sym (fill (offset_pc o))) in
    let words : with_label Relative (eqb (length vs) 3) v h (op_of vs) ≡ op_of (set vs i o) = placed vs m1 v h n few p in (
      set vs i o,
      record { whole = put_whole vs i o (omega arith) (omega (arith, n)) (low_word v h (cond (eqb (length vs) 3) 6 4)) read.0; text = rw sr.1 text },
      rw sr.1
          (ap (λ (z : Op). with_labels s Relative (eqb (length vs) 3) h (label_in (second_in t)) z) (put-none s Relative false h (label_in (first_in t)) (op_of vs) other) ∙ put_some s Relative (eqb (length vs) 3) h (label_in (second_in t)) (op_of vs) label ∙ words),
    )
  where
    -- the first operand's own word is as it was, or it has none
    kept : (w x x' y n : ℕ) → takes (first_of (row_of w)) w ≡ n → n ≤ 1 → (n ≡ 1 → x' ≡ x) → op_text w x' y ≡ op_text w x y
    kept w x x' y zero e l f = line-ignores w x' x y e
    kept w x x' y (suc zero) e l f = ap (λ (z : ℕ). op_text w z y) (f refl)
    kept w x x' y (suc (suc n)) e l f = absurd (omega (arith, l))

    -- the second or the third word, by their number
    placed : (vs : List ℕ) (n v h : ℕ) → length vs ≡ 2 + n → n ≤ 1 → Put vs (1 + n) (minus v (plus h (cond (eqb (length vs) 3) 6 4)))
        → with_label Relative (eqb (length vs) 3) v h (op_of vs) ≡ op_of (set vs (1 + n) (minus v (plus h (cond (eqb (length vs) 3) 6 4))))
    placed vs zero v h e l p =
        let three : eqb (length vs) 3 ≡ false = ne_eqb (length vs) 3 (λ z. omega (arith, z, e)) in
        subst (λ (t : Bool). Put vs 1 (minus v (plus h (cond t 6 4))) → with_label Relative t v h (op_of vs) ≡ op_of (set vs 1 (minus v (plus h (cond t 6 4))))) (sym three)
        (λ q. sym (put-op vs 1 (minus v (plus h 4)) (minus v (plus h 4)) (get_or vs 2 0) (omega arith) (omega (arith, e)) q.there (q.rest 2 (λ z. omega (arith, z))))) p
    placed vs (suc zero) v h e l p =
        let three : eqb (length vs) 3 ≡ true = eq-eqb (length vs) 3 e in
        subst (λ (t : Bool). Put vs 2 (minus v (plus h (cond t 6 4))) → with_label Relative t v h (op_of vs) ≡ op_of (set vs 2 (minus v (plus h (cond t 6 4))))) (sym three)
        (λ q. sym (put-op vs 2 (minus v (plus h 6)) (get_or vs 1 0) (minus v (plus h 6)) (omega arith) (omega (arith, e)) (q.rest 1 (λ z. omega (arith, z))) q.there)) p
    placed vs (suc (suc n)) v h e l p = absurd (omega (arith, l))

-- ---- both operands are labels

abbrev at_second : List ℕ → List ℕ
at_second t = slice 0 (at_of (second_in t)) (second_in t)

twice-filled : (t d e : List ℕ) → comma_at t < length t → is_name (bare_operand (first_in t)) ≡ true → is_name (bare_operand (second_in t)) ≡ true
    → filled_twice d e t ≡ (before_first t ++ d) ++ (44 ∷ (at_second t ++ e))
unfolding filled_in tail_of
twice-filled t d e c f g =
    rw (f, g, lt-ltb (comma_at t) (length t) c)
    (ap (λ (z : List ℕ). z ++ (44 ∷ (at_second t ++ e))) (sym (append_assoc (alias_of (slice 0 (operands_at t) t)) (slice 0 (at_of (first_in t)) (first_in t)) d)))

once-twice : (t d : List ℕ) → filled d t ≡ filled_twice d d t
unfolding filled
once-twice t d = refl

three-words : (a b c : ℕ) → a < 65536 → b < 65536 → c < 65536 → (i : ℕ) → get_or (a ∷ b ∷ c ∷ []) i 0 < 65536
three-words a b c la lb lc zero = la
three-words a b c la lb lc (suc zero) = lb
three-words a b c la lb lc (suc (suc zero)) = lc
three-words a b c la lb lc (suc (suc (suc i))) = omega arith

pub both_read : BothRead
unfolding op_in line_op
both_read s t h how ten-op label label' =
    let sr = said-relative t how in
    let vs = words_of_text (offsets t) in
    let w = get_or vs 0 0 in
    let read = read-of-words (offsets t) (some-count vs sr.0) in
    let r = ten w (read.0.words 0) (ap (λ z. format_of (high_byte z.op.a)) (sym sr.1) ∙ ten-op) in
    let x = get_or vs 1 0 in
    let y = get_or vs (1 + mode_takes (w / 64 % 64)) 0 in
    let fill : (d e : List ℕ) → filled_twice d e t ≡ (before_first t ++ d) ++ (44 ∷ (at_second t ++ e)) = λ d e. twice-filled t d e (has-comma t label') (is_label (first_in t) label) (is_label (second_in t) label') in
    let line = sym (fill (offset_pc 0) (offset_pc 0)) ∙ sym (once-twice t (offset_pc 0)) ∙ sym (ap (λ (z : List ℕ). filled z t) zero-offset) ∙ sym read.1 ∙ shown vs (mode_takes (w / 64 % 64)) r.first ∙ r.text x y in
    let parts = comma-same (before_first t ++ offset_pc 0) (at_second t ++ offset_pc 0) (r.name ++ mode_text (w / 64 % 64) x) (mode_text (w % 64) y) (without-append r.free (mode-commas (w / 64 % 64) x)) (mode-commas (w % 64) y) line in
    let m = mode-end r.name (before_first t) (w / 64 % 64) x (omega arith) (sym parts.0) in
    let k = mode-end [] (at_second t) (w % 64) y (omega arith) (sym parts.1) in
    let v = value_of s (label_in (first_in t)) in
    let u = value_of s (label_in (second_in t)) in
    let o = minus v (plus h 4) in
    let p = minus u (plus h 6) in
    let three : taken w ≡ 3 = r.count ∙ rw (m.takes, k.takes) refl in
    let n : length vs ≡ 3 = read.0.count ∙ three in
    let ws : List ℕ = w ∷ o ∷ p ∷ [] in
    let text : text_of ws ≡ filled_twice (offset_pc o) (offset_pc p) t = shown ws 1 (r.first ∙ m.takes) ∙ r.text o p ∙ rw (m.other o, k.other p) (sym (fill (offset_pc o) (offset_pc p))) in
    let words : with_label Relative (eqb (length vs) 3) u h (with_label Relative false v h (op_of vs)) ≡ op_of ws = rw n refl in (
      ws,
      record { count = sym three; words = three-words w o p (read.0.words 0) (low_word v h 4) (low_word u h 6) },
      text,
      rw sr.1
          (put_some s Relative (eqb (length vs) 3) h (label_in (second_in t)) (with_labels s Relative false h (label_in (first_in t)) (op_of vs)) label'
          ∙ ap (λ (z : Op). with_label Relative (eqb (length vs) 3) u h z) (put_some s Relative false h (label_in (first_in t)) (op_of vs) label) ∙ words),
    )
