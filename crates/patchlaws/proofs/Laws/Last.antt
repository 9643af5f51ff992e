-- Labels as the one operand A or @A of formats 7 and 9, the theorems of specs/Labels.antt: JMP and CALL are among them.
use mathlib.Core.Path.{◌≡◌, refl, ap, sym, ◌∙◌, subst}
use mathlib.Core.Bool.{Bool, true, false, cond, not, ◌&&◌, ◌||◌}
use mathlib.Core.List.{List, [], ◌∷◌, ◌++◌, append-nil}
use Prim.Native.Nat.{ℕ, ◌+◌, ◌-◌, ◌*◌, ◌/◌, ◌%◌, ◌≤◌, ◌<◌}
use native.Mathlib.Omega.{arith}
use borrow.Author.Tests.{lt-ltb, eqb-true, eqb-false, eq-eqb, ne_eqb}
use lib.Dec.{T, ltb, leb, eqb, eqb→eq, ltb→lt}
use lib.ListN.{length, get_or, set}
use Rattle.wordmath.specs.Address.{plus, minus}
use Rattle.opcodes.specs.Fields.{high_byte}
use Rattle.plate.specs.Plate.{format_of}
use Rattle.optext.specs.declared.Op.{Op}
use Rattle.optext.specs.Rows.{rows, the_row, name_of, first_of, second_of}
use Rattle.optext.specs.Line.{reg_text, mode_text, mode_takes, takes, taken, is_reserved, row_of, sep_text, row_text, op_text, text_of}
use Rattle.optext.specs.Read.{words_of_text, op_of}
use Rattle.optext.proofs.Laws.Choose.{both, both_left, both_right, at}
use Rattle.optext.proofs.Laws.Inside.{inside}
use Rattle.optext.proofs.Laws.Reader.{read-of-words}
use Rattle.patchline.specs.declared.oneline.How.TheVariants.{Relative}
use Rattle.patchline.specs.Line.{first_in, second_in, label_in, filled, is_sob, op_in, said_of, with_label}
use Rattle.assembler.specs.Source.{value_of, with_labels, line_op}
use Rattle.patchlaws.specs.Labels.{ReadsLine, takes_one, OnlyRead, LastRead}
use Rattle.patchlaws.proofs.Laws.Modes.{offset_pc, mode-end}
use Rattle.patchlaws.proofs.Laws.Labels.{differ, offsets, is_label, no_label, before_first, before_second, first-filled, second-filled, put-none, put_some, no_second, has-comma}
use Rattle.patchlaws.proofs.Laws.Offsets.{said-relative, shown, put_in, put_whole, put-op, some-count, zero-offset, low_word}
use Rattle.listing.proofs.Laws.Alike.{and-true}
use Rattle.opcodes.proofs.Laws.Past.{Below, below}

-- ---- the last operand is of a mode, and its word the second

record Last (w : ℕ) : Type 0 where
  head : List ℕ
  text : (l : List ℕ) → get_or l 0 0 ≡ w → text_of l ≡ head ++ mode_text (w % 64) (get_or l 1 0)
  count : taken w ≡ 1 + mode_takes (w % 64)

-- ---- format 7

abbrev base_seven : ℕ → ℕ
base_seven j = cond (ltb j 16) (40 + j) (536 + j)

record Seven (j : ℕ) : Type 0 where
  row : (a : ℕ) → a < 64 → row_of (base_seven j * 64 + a + 0) ≡ 51 + j
  text : (w x y : ℕ) → row_text (51 + j) w x y ≡ (name_of (51 + j) ++ (32 ∷ [])) ++ (mode_text (w % 64) x ++ [])
  first : (w : ℕ) → takes (first_of (51 + j)) w ≡ mode_takes (w % 64)
  second : (w : ℕ) → takes (second_of (51 + j)) w ≡ 0

seven-rows : Below Seven 32
unfolding Below the_row rows sep_text
seven-rows = ((((((((((((((((((((((((((((((((tt, record { row = λ a h. inside 51 a 0 (omega arith) h refl; text = λ w x y. refl; first = λ w. refl; second = λ w. refl }), record { row = λ a h. inside 52 a 0 (omega arith) h refl; text = λ w x y. refl; first = λ w. refl; second = λ w. refl }), record { row = λ a h. inside 53 a 0 (omega arith) h refl; text = λ w x y. refl; first = λ w. refl; second = λ w. refl }), record { row = λ a h. inside 54 a 0 (omega arith) h refl; text = λ w x y. refl; first = λ w. refl; second = λ w. refl }), record { row = λ a h. inside 55 a 0 (omega arith) h refl; text = λ w x y. refl; first = λ w. refl; second = λ w. refl }), record { row = λ a h. inside 56 a 0 (omega arith) h refl; text = λ w x y. refl; first = λ w. refl; second = λ w. refl }), record { row = λ a h. inside 57 a 0 (omega arith) h refl; text = λ w x y. refl; first = λ w. refl; second = λ w. refl }), record { row = λ a h. inside 58 a 0 (omega arith) h refl; text = λ w x y. refl; first = λ w. refl; second = λ w. refl }), record { row = λ a h. inside 59 a 0 (omega arith) h refl; text = λ w x y. refl; first = λ w. refl; second = λ w. refl }), record { row = λ a h. inside 60 a 0 (omega arith) h refl; text = λ w x y. refl; first = λ w. refl; second = λ w. refl }), record { row = λ a h. inside 61 a 0 (omega arith) h refl; text = λ w x y. refl; first = λ w. refl; second = λ w. refl }), record { row = λ a h. inside 62 a 0 (omega arith) h refl; text = λ w x y. refl; first = λ w. refl; second = λ w. refl }), record { row = λ a h. inside 63 a 0 (omega arith) h refl; text = λ w x y. refl; first = λ w. refl; second = λ w. refl }), record { row = λ a h. inside 64 a 0 (omega arith) h refl; text = λ w x y. refl; first = λ w. refl; second = λ w. refl }), record { row = λ a h. inside 65 a 0 (omega arith) h refl; text = λ w x y. refl; first = λ w. refl; second = λ w. refl }), record { row = λ a h. inside 66 a 0 (omega arith) h refl; text = λ w x y. refl; first = λ w. refl; second = λ w. refl }), record { row = λ a h. inside 67 a 0 (omega arith) h refl; text = λ w x y. refl; first = λ w. refl; second = λ w. refl }), record { row = λ a h. inside 68 a 0 (omega arith) h refl; text = λ w x y. refl; first = λ w. refl; second = λ w. refl }), record { row = λ a h. inside 69 a 0 (omega arith) h refl; text = λ w x y. refl; first = λ w. refl; second = λ w. refl }), record { row = λ a h. inside 70 a 0 (omega arith) h refl; text = λ w x y. refl; first = λ w. refl; second = λ w. refl }), record { row = λ a h. inside 71 a 0 (omega arith) h refl; text = λ w x y. refl; first = λ w. refl; second = λ w. refl }), record { row = λ a h. inside 72 a 0 (omega arith) h refl; text = λ w x y. refl; first = λ w. refl; second = λ w. refl }), record { row = λ a h. inside 73 a 0 (omega arith) h refl; text = λ w x y. refl; first = λ w. refl; second = λ w. refl }), record { row = λ a h. inside 74 a 0 (omega arith) h refl; text = λ w x y. refl; first = λ w. refl; second = λ w. refl }), record { row = λ a h. inside 75 a 0 (omega arith) h refl; text = λ w x y. refl; first = λ w. refl; second = λ w. refl }), record { row = λ a h. inside 76 a 0 (omega arith) h refl; text = λ w x y. refl; first = λ w. refl; second = λ w. refl }), record { row = λ a h. inside 77 a 0 (omega arith) h refl; text = λ w x y. refl; first = λ w. refl; second = λ w. refl }), record { row = λ a h. inside 78 a 0 (omega arith) h refl; text = λ w x y. refl; first = λ w. refl; second = λ w. refl }), record { row = λ a h. inside 79 a 0 (omega arith) h refl; text = λ w x y. refl; first = λ w. refl; second = λ w. refl }), record { row = λ a h. inside 80 a 0 (omega arith) h refl; text = λ w x y. refl; first = λ w. refl; second = λ w. refl }), record { row = λ a h. inside 81 a 0 (omega arith) h refl; text = λ w x y. refl; first = λ w. refl; second = λ w. refl }), record { row = λ a h. inside 82 a 0 (omega arith) h refl; text = λ w x y. refl; first = λ w. refl; second = λ w. refl })

-- by the plate, and bits 7 and 6
abbrev number_seven : ℕ → ℕ
number_seven q = cond (ltb q 512) (q - 40) (q - 536)

abbrev seven_test : ℕ → Bool
seven_test q = cond (eqb (format_of (q / 4)) 7) (both (ltb (number_seven q) 32) (eqb (base_seven (number_seven q)) q)) true

seven-number : (q : ℕ) → q < 1024 → format_of (q / 4) ≡ 7 → (number_seven q < 32) × (base_seven (number_seven q) ≡ q)
unfolding format_of
seven-number q l e = by (at seven_test 1024 tt q l)
  where
    by : T (seven_test q) → (number_seven q < 32) × (base_seven (number_seven q) ≡ q)
    by t =
        let u = subst (λ (x : ℕ). T (cond (eqb x 7) (both (ltb (number_seven q) 32) (eqb (base_seven (number_seven q)) q)) true)) e t in
        (ltb→lt (number_seven q) 32 (both_left (ltb (number_seven q) 32) _ u), eqb→eq (base_seven (number_seven q)) q (both_right (ltb (number_seven q) 32) _ u))

seven : (w : ℕ) → w < 65536 → format_of (high_byte w) ≡ 7 → Last w
unfolding op_text taken
seven w l e =
    let high : w / 64 / 4 ≡ w / 256 = omega arith in
    let n = seven-number (w / 64) (omega (arith, l)) (ap format_of high ∙ e) in
    let j = number_seven (w / 64) in
    let r = below Seven 32 seven-rows j n.0 in
    let q : base_seven j * 64 + w % 64 + 0 ≡ w = rw n.1 (omega arith) in
    let k : row_of w ≡ 51 + j = ap row_of (sym q) ∙ r.row (w % 64) (omega arith) in
    record {
      head = name_of (51 + j) ++ (32 ∷ []);
      text = λ l z.
          shown l (mode_takes (w % 64)) (ap (λ (v : ℕ). takes (first_of (row_of v)) v) z ∙ ap (λ (i : ℕ). takes (first_of i) w) k ∙ r.first w)
          ∙ ap (λ (v : ℕ). op_text v (get_or l 1 0) (get_or l (1 + mode_takes (w % 64)) 0)) z
          ∙ rw k (r.text w (get_or l 1 0) (get_or l (1 + mode_takes (w % 64)) 0) ∙ ap (λ (m : List ℕ). (name_of (51 + j) ++ (32 ∷ [])) ++ m) (append-nil (mode_text (w % 64) (get_or l 1 0))));
      count = rw (k, r.first w, r.second w) (omega arith);
    }

-- ---- format 9 without SOB

abbrev base_nine : ℕ → ℕ
base_nine i = cond (ltb i 3) (56 + i) (57 + i)

abbrev row_nine : ℕ → ℕ
row_nine i = cond (ltb i 3) (91 + i) (92 + i)

record Nine (i : ℕ) : Type 0 where
  row : (a b : ℕ) → a / 64 * 64 ≡ a → a < 512 → (i < 2 → 8 ≤ b) → b < 64 → row_of (base_nine i * 512 + a + b) ≡ row_nine i
  text : (w x y : ℕ) → row_text (row_nine i) w x y ≡ ((name_of (row_nine i) ++ (32 ∷ reg_text (w / 64 % 8))) ++ (44 ∷ [])) ++ mode_text (w % 64) y
  first : (w : ℕ) → takes (first_of (row_nine i)) w ≡ 0
  second : (w : ℕ) → takes (second_of (row_nine i)) w ≡ mode_takes (w % 64)

nine-rows : Below Nine 7
unfolding Below the_row rows sep_text reg_text
nine-rows = (((((((tt, record { row = λ a b e l m h. inside 91 a b (omega arith) (e, l) (m (omega arith), h); text = λ w x y. refl; first = λ w. refl; second = λ w. refl }), record { row = λ a b e l m h. inside 92 a b (omega arith) (e, l) (m (omega arith), h); text = λ w x y. refl; first = λ w. refl; second = λ w. refl }), record { row = λ a b e l m h. inside 93 a b (omega arith) (e, l) h; text = λ w x y. refl; first = λ w. refl; second = λ w. refl }), record { row = λ a b e l m h. inside 95 a b (omega arith) (e, l) h; text = λ w x y. refl; first = λ w. refl; second = λ w. refl }), record { row = λ a b e l m h. inside 96 a b (omega arith) (e, l) h; text = λ w x y. refl; first = λ w. refl; second = λ w. refl }), record { row = λ a b e l m h. inside 97 a b (omega arith) (e, l) h; text = λ w x y. refl; first = λ w. refl; second = λ w. refl }), record { row = λ a b e l m h. inside 98 a b (omega arith) (e, l) h; text = λ w x y. refl; first = λ w. refl; second = λ w. refl })

abbrev number_nine : ℕ → ℕ
number_nine d = cond (ltb d 59) (d - 56) (d - 57)

abbrev nine_at : ℕ → Bool
nine_at d = cond (eqb d 59) true (both (ltb (number_nine d) 7) (eqb (base_nine (number_nine d)) d))

abbrev nine_test : ℕ → Bool
nine_test h = cond (eqb (format_of h) 9) (nine_at (h / 2)) true

nine-number : (h : ℕ) → h < 256 → format_of h ≡ 9 → (h / 2 ≡ 59 → ⊥) → (number_nine (h / 2) < 7) × (base_nine (number_nine (h / 2)) ≡ h / 2)
unfolding format_of
nine-number h l e n = by (at nine_test 256 tt h l)
  where
    by : T (nine_test h) → (number_nine (h / 2) < 7) × (base_nine (number_nine (h / 2)) ≡ h / 2)
    by t =
        let u = subst (λ (x : ℕ). T (cond (eqb x 9) (nine_at (h / 2)) true)) e t in
        let v = subst (λ (x : Bool). T (cond x true (both (ltb (number_nine (h / 2)) 7) (eqb (base_nine (number_nine (h / 2))) (h / 2))))) (ne_eqb (h / 2) 59 n) u in
        (ltb→lt (number_nine (h / 2)) 7 (both_left (ltb (number_nine (h / 2)) 7) _ v), eqb→eq (base_nine (number_nine (h / 2))) (h / 2) (both_right (ltb (number_nine (h / 2)) 7) _ v))

low-nine : (i d : ℕ) → base_nine i ≡ d → i < 2 → d / 2 ≡ 28
low-nine i d e l = by (rw (lt-ltb i 3 (omega (arith, l))) at e)
  where
    by : 56 + i ≡ d → d / 2 ≡ 28
    by q = omega (arith, q, l)

nine : (w : ℕ) → w < 65536 → format_of (high_byte w) ≡ 9 → (w / 512 ≡ 59 → ⊥) → (w / 1024 ≡ 28 → 8 ≤ w % 64) → Last w
unfolding op_text taken
nine w l e sob mode =
    let half : w / 256 / 2 ≡ w / 512 = omega arith in
    let n = nine-number (w / 256) (omega (arith, l)) e (λ z. sob (omega (arith, half, z))) in
    let i = number_nine (w / 256 / 2) in
    let r = below Nine 7 nine-rows i n.0 in
    let q : base_nine i * 512 + w / 64 % 8 * 64 + w % 64 ≡ w = rw n.1 (parts w) in
    let k : row_of w ≡ row_nine i = ap row_of (sym q) ∙ r.row (w / 64 % 8 * 64) (w % 64) (omega arith) (omega arith) (λ z. mode (quarter w (low-nine i (w / 256 / 2) n.1 z))) (omega arith) in
    record {
      head = (name_of (row_nine i) ++ (32 ∷ reg_text (w / 64 % 8))) ++ (44 ∷ []);
      text = λ l z.
          shown l 0 (ap (λ (v : ℕ). takes (first_of (row_of v)) v) z ∙ ap (λ (i : ℕ). takes (first_of i) w) k ∙ r.first w)
          ∙ ap (λ (v : ℕ). op_text v (get_or l 1 0) (get_or l 1 0)) z
          ∙ rw k (r.text w (get_or l 1 0) (get_or l 1 0));
      count = rw (k, r.first w, r.second w) (omega arith);
    }
  where
    parts : (w : ℕ) → w / 256 / 2 * 512 + w / 64 % 8 * 64 + w % 64 ≡ w
    parts w =
        let a : w / 64 / 8 ≡ w / 256 / 2 = omega arith in
        let b : w / 64 ≡ w / 256 / 2 * 8 + w / 64 % 8 = omega (arith, a) in
        omega (arith, b)

    quarter : (w : ℕ) → w / 256 / 2 / 2 ≡ 28 → w / 1024 ≡ 28
    quarter w z = omega (arith, z)

-- ---- by the op code

neither-is : (a b : Bool) → not (a || b) ≡ true → (a ≡ false) × (b ≡ false)
neither-is true b q = differ q
neither-is false true q = differ q
neither-is false false q = (refl, refl)

no-mode-0 : (w : ℕ) → is_reserved w ≡ false → w / 1024 ≡ 28 → 8 ≤ w % 64
unfolding is_reserved
no-mode-0 w e q = by (leb 240 (w / 256)) (rw (eq-eqb (w / 1024) 28 q) at e)
  where
    by : (t : Bool) → cond t true (eqb (w / 8 % 8) 0) ≡ false → 8 ≤ w % 64
    by true z = differ (sym z)
    by false z = let n = eqb-false (w / 8 % 8) 0 z in omega (arith, n)

last_of : (w : ℕ) → w < 65536 → takes_one w ≡ true → Last w
last_of w l e = by (eqb (format_of (high_byte w)) 7) refl e
  where
    by : (t : Bool) → eqb (format_of (high_byte w)) 7 ≡ t → (t || (eqb (format_of (high_byte w)) 9 && not (is_reserved w || is_sob w))) ≡ true → Last w
    by true q z = seven w l (eqb-true (format_of (high_byte w)) 7 q)
    by false q z =
        let b = and-true (eqb (format_of (high_byte w)) 9) (not (is_reserved w || is_sob w)) z in
        let n = neither-is (is_reserved w) (is_sob w) b.1 in
        nine w l (eqb-true (format_of (high_byte w)) 9 b.0) (eqb-false (w / 512) 59 n.1) (no-mode-0 w n.0)

-- ---- THE STATEMENTS

record One (t : List ℕ) (v h : ℕ) : Type 0 where
  words : List ℕ
  reads : ReadsLine t (offset_pc (minus v (plus h 4))) words
  put : with_label Relative false v h (op_in (offsets t)) ≡ op_of words
  third : eqb (op_in (offsets t)).count 3 ≡ false

one : (t q : List ℕ) (v h : ℕ) → (said_of t).how ≡ Relative → takes_one (said_of t).op.a ≡ true → ((d : List ℕ) → filled d t ≡ q ++ d) → One t v h
unfolding op_in
one t q v h how takes fill =
    let sr = said-relative t how in
    let vs = words_of_text (offsets t) in
    let w = get_or vs 0 0 in
    let read = read-of-words (offsets t) (some-count vs sr.0) in
    let r = last_of w (read.0.words 0) (ap (λ z. takes_one z.op.a) (sym sr.1) ∙ takes) in
    let line = sym (r.text vs refl) ∙ read.1 ∙ ap (λ (z : List ℕ). filled z t) zero-offset ∙ fill (offset_pc 0) in
    let m = mode-end r.head q (w % 64) (get_or vs 1 0) (omega arith) line in
    let n : length vs ≡ 2 = read.0.count ∙ r.count ∙ rw m.takes refl in
    let o = minus v (plus h 4) in
    let p = put_in vs 1 o (omega arith) (omega (arith, n)) in
    record {
      words = set vs 1 o;
      reads = record {
        whole = put_whole vs 1 o (omega arith) (omega (arith, n)) (low_word v h 4) read.0;
        text = r.text (set vs 1 o) p.first ∙ rw p.there (m.other o ∙ sym (fill (offset_pc o)));
      };
      put = sym (put-op vs 1 o o (get_or vs 2 0) (omega arith) (omega (arith, n)) p.there (p.rest 2 (λ e. omega (arith, e))));
      third = ne_eqb (length vs) 3 (λ e. omega (arith, e, n));
    }

pub only-read : OnlyRead
unfolding line_op
only-read s t h how takes comma label =
    let sr = said-relative t how in
    let x = one t (before_first t) (value_of s (label_in (first_in t))) h how takes (λ d. first-filled t d comma (is_label (first_in t) label)) in (
      x.words,
      x.reads,
      rw sr.1
          (put-none s Relative (eqb (op_in (offsets t)).count 3) h (label_in (second_in t)) (with_labels s Relative false h (label_in (first_in t)) (op_in (offsets t))) (no_second t comma)
          ∙ put_some s Relative false h (label_in (first_in t)) (op_in (offsets t)) label ∙ x.put),
    )

pub last-read : LastRead
unfolding line_op
last-read s t h how takes other label =
    let sr = said-relative t how in
    let u = label_in (second_in t) in
    let x = one t (before_second t) (value_of s u) h how takes (λ d. second-filled t d (has-comma t label) (no_label (first_in t) other) (is_label (second_in t) label)) in (
      x.words,
      x.reads,
      rw sr.1
          (ap (λ (z : Op). with_labels s Relative (eqb (op_in (offsets t)).count 3) h u z) (put-none s Relative false h (label_in (first_in t)) (op_in (offsets t)) other)
          ∙ put_some s Relative (eqb (op_in (offsets t)).count 3) h u (op_in (offsets t)) label ∙ ap (λ (b : Bool). with_label Relative b (value_of s u) h (op_in (offsets t))) x.third ∙ x.put),
    )
