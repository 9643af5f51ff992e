-- The theorems that specs/Labels.antt states.
use mathlib.Core.Path.{◌≡◌, refl, ap, sym, ◌∙◌, subst}
use mathlib.Core.Bool.{Bool, true, false, cond}
use mathlib.Core.Logic.{⊎_elim}
use mathlib.Core.List.{List, [], ◌∷◌, ◌++◌, append-nil, append_assoc}
use Prim.Native.Nat.{ℕ, zero, suc, ◌+◌, ◌-◌, ◌*◌, ◌/◌, ◌%◌, ◌≤◌, ◌<◌}
use native.Mathlib.Omega.{arith}
use borrow.Author.Tests.{le-ltb, lt-ltb, eqb-true, eq-eqb, ne_eqb}
use lib.Dec.{ltb, eqb}
use lib.ListN.{length, drop, get_or, length-append, length-drop}
use Rattle.hexdigits.specs.Digits.{letters, digits, hex_of, hex2}
use Rattle.wordmath.specs.Address.{plus}
use Rattle.optext.specs.declared.Op.{Op}
use Rattle.optext.specs.Digits.{un_hex2, un_hex4}
use Rattle.optext.specs.Rows.{rows, the_row, name_of, base_of, first_of, second_of}
use Rattle.optext.specs.Line.{reg_text, reg_a, reg_b, field_of, takes, taken, row_of, sep_text, row_text, op_text, text_of}
use Rattle.optext.specs.Column.{Whole}
use Rattle.optext.specs.Read.{words_of_text, op_of}
use Rattle.optext.proofs.Laws.Choose.{lt-cases}
use Rattle.optext.proofs.Laws.Back.{hex2-back}
use Rattle.optext.proofs.Laws.Inside.{inside}
use Rattle.optext.proofs.Laws.Reserved.{word_back}
use Rattle.optext.proofs.Laws.Reader.{read-of-words}
use Rattle.plate.specs.Plate.{format_of}
use Rattle.plate.proofs.Laws.Plate.{Five, from-01, from-80, five}
use Rattle.patchline.specs.Text.{slice, past_of, is_name}
use Rattle.patchline.specs.declared.oneline.How.{How}
use Rattle.patchline.specs.declared.oneline.How.TheVariants.{Unknown, Origin, Plain, Branch, Sob, Relative}
use Rattle.patchline.specs.Line.{operands_at, comma_at, first_in, second_in, at_of, bare_operand, label_in, filled_in, alias_of, tail_of, filled, is_directive, is_branch, is_sob, says, op, op_in, said_with, said_of, ahead, behind, with_label}
use Rattle.assembler.specs.Source.{value_of, with_labels, line_op}
use Rattle.patchlaws.specs.Labels.{ReadsLine, BranchRead, SobRead, SobIsRow}
use Rattle.opcodes.proofs.Laws.Past.{Below, below}

-- ---- texts with two digits at their end

pub differ : {A : Type 0} → false ≡ true → A
differ e = let z : ◌≡◌ {A = ℕ} 0 1 = ap (λ (b : Bool). cond b 1 0) e in absurd (omega (arith, z))

long-end : (y : ℕ) (ys : List ℕ) (a b c d : ℕ) → (a ∷ b ∷ []) ≡ y ∷ (ys ++ (c ∷ d ∷ [])) → ⊥
long-end y ys a b c d e =
    let n : ◌≡◌ {A = ℕ} 2 (suc (length (ys ++ (c ∷ d ∷ [])))) = ap length e in
    omega (arith, n, length-append ys (c ∷ d ∷ []))

-- the same text before and the same two at the end
end_same : (xs ys : List ℕ) (a b c d : ℕ) → xs ++ (a ∷ b ∷ []) ≡ ys ++ (c ∷ d ∷ []) → (xs ≡ ys) × ((a ∷ b ∷ []) ≡ (c ∷ d ∷ []))
end_same [] [] a b c d e = (refl, e)
end_same [] (y ∷ ys) a b c d e = absurd (long-end y ys a b c d e)
end_same (x ∷ xs) [] a b c d e = absurd (long-end x xs c d a b (sym e))
end_same (x ∷ xs) (y ∷ ys) a b c d e =
    let tails = ap (λ (l : List ℕ). drop 1 l) e in
    let heads : x ≡ y = ap (λ (l : List ℕ). get_or l 0 0) e in
    let s = end_same xs ys a b c d tails in
    (rw (heads, s.0) refl, s.1)

digits_same : (xs ys : List ℕ) (a b : ℕ) → a < 256 → b < 256 → xs ++ hex2 a ≡ ys ++ hex2 b → (xs ≡ ys) × (a ≡ b)
unfolding hex2
digits_same xs ys a b la lb e =
    let s = end_same xs ys _ _ _ _ e in
    (s.0, sym (hex2-back a [] la) ∙ ap (λ (l : List ℕ). un_hex2 (l ++ [])) s.1 ∙ hex2-back b [] lb)

-- ---- op codes whose text ends with two digits, those of their lowest bits

record Tailed (w m : ℕ) : Type 0 where
  head : List ℕ
  line : (d x y : ℕ) → d < m → op_text (w / m * m + d) x y ≡ head ++ hex2 d
  one : (d : ℕ) → d < m → taken (w / m * m + d) ≡ 1
  small : w / m * m + m ≤ 65536

-- a branch's row, by its number among the branches
abbrev high_of : ℕ → ℕ
high_of j = cond (ltb j 7) (j + 1) (j + 121)

record Row (j : ℕ) : Type 0 where
  row : (a : ℕ) → a < 256 → row_of (high_of j * 256 + a + 0) ≡ 24 + j
  text : (w x y : ℕ) → row_text (24 + j) w x y ≡ name_of (24 + j) ++ (32 ∷ hex2 (w % 256))
  one : (w : ℕ) → 1 + takes (first_of (24 + j)) w + takes (second_of (24 + j)) w ≡ 1

branch-rows : Below Row 15
unfolding Below the_row rows sep_text hex2
branch-rows = (((((((((((((((tt, record { row = λ a h. inside 24 a 0 (omega arith) h refl; text = λ w x y. refl; one = λ w. refl }), record { row = λ a h. inside 25 a 0 (omega arith) h refl; text = λ w x y. refl; one = λ w. refl }), record { row = λ a h. inside 26 a 0 (omega arith) h refl; text = λ w x y. refl; one = λ w. refl }), record { row = λ a h. inside 27 a 0 (omega arith) h refl; text = λ w x y. refl; one = λ w. refl }), record { row = λ a h. inside 28 a 0 (omega arith) h refl; text = λ w x y. refl; one = λ w. refl }), record { row = λ a h. inside 29 a 0 (omega arith) h refl; text = λ w x y. refl; one = λ w. refl }), record { row = λ a h. inside 30 a 0 (omega arith) h refl; text = λ w x y. refl; one = λ w. refl }), record { row = λ a h. inside 31 a 0 (omega arith) h refl; text = λ w x y. refl; one = λ w. refl }), record { row = λ a h. inside 32 a 0 (omega arith) h refl; text = λ w x y. refl; one = λ w. refl }), record { row = λ a h. inside 33 a 0 (omega arith) h refl; text = λ w x y. refl; one = λ w. refl }), record { row = λ a h. inside 34 a 0 (omega arith) h refl; text = λ w x y. refl; one = λ w. refl }), record { row = λ a h. inside 35 a 0 (omega arith) h refl; text = λ w x y. refl; one = λ w. refl }), record { row = λ a h. inside 36 a 0 (omega arith) h refl; text = λ w x y. refl; one = λ w. refl }), record { row = λ a h. inside 37 a 0 (omega arith) h refl; text = λ w x y. refl; one = λ w. refl }), record { row = λ a h. inside 38 a 0 (omega arith) h refl; text = λ w x y. refl; one = λ w. refl })

-- the branch of a high byte
abbrev number_of : ℕ → ℕ
number_of h = cond (ltb h 8) (h - 1) (h - 121)

record Numbered (h : ℕ) : Type 0 where
  few : number_of h < 15
  back : high_of (number_of h) ≡ h

numbered : (w : ℕ) → is_branch w ≡ true → Numbered (w / 256)
numbered w e = by (five (w / 256) (eqb-true _ 5 e))
  where
    by : Five (w / 256) → Numbered (w / 256)
    by (from-01 a b) =
        record {
          few = rw (lt-ltb (w / 256) 8 b) (omega (arith, b));
          back = rw (lt-ltb (w / 256) 8 b, lt-ltb (w / 256 - 1) 7 (omega (arith, a, b))) (omega (arith, a));
        }
    by (from-80 j q l) =
        record {
          few = rw (le-ltb (w / 256) 8 (omega (arith, q))) (omega (arith, q, l));
          back = rw (le-ltb (w / 256) 8 (omega (arith, q)), le-ltb (w / 256 - 121) 7 (omega (arith, q))) (omega (arith, q));
        }

branch-tailed : (w : ℕ) → w < 65536 → is_branch w ≡ true → Tailed w 256
unfolding op_text taken
branch-tailed w l e =
    let n = numbered w e in
    let j = number_of (w / 256) in
    let r = below Row 15 branch-rows j n.few in
    let at : (d : ℕ) → d < 256 → row_of (w / 256 * 256 + d) ≡ 24 + j = λ d h.
    let q : w / 256 * 256 + d ≡ high_of j * 256 + d + 0 = rw n.back (omega arith) in
    ap row_of q ∙ r.row d h in
    record {
      head = name_of (24 + j) ++ (32 ∷ []);
      line = λ d x y h.
          let low : (w / 256 * 256 + d) % 256 ≡ d = omega (arith, h) in
          rw (at d h, r.text (w / 256 * 256 + d) x y, low) (sym (append_assoc (name_of (24 + j)) (32 ∷ []) (hex2 d)));
      one = λ d h. rw (at d h) (r.one (w / 256 * 256 + d));
      small = omega (arith, l);
    }

-- SOB's row is the ninety-fifth
sob-row : (a d : ℕ) → a / 64 * 64 ≡ a → a < 512 → d < 64 → row_of (0x7600 + a + d) ≡ 94
unfolding the_row rows
sob-row a d e l h = inside 94 a d (omega arith) (e, l) h

sob-text : (w x y : ℕ) → row_text 94 w x y ≡ (letters "SOB " ++ (reg_a (w / 64 % 8) ∷ reg_b (w / 64 % 8) ∷ 44 ∷ [])) ++ hex2 (w % 64)
unfolding the_row rows sep_text reg_text hex2
sob-text w x y = refl

sob-one : (w : ℕ) → 1 + takes (first_of 94) w + takes (second_of 94) w ≡ 1
unfolding the_row rows
sob-one w = refl

sob-tailed : (w : ℕ) → is_sob w ≡ true → Tailed w 64
unfolding op_text taken
sob-tailed w e =
    let h : w / 512 ≡ 59 = eqb-true (w / 512) 59 e in
    let r = w / 64 % 8 in
    let at : (d : ℕ) → d < 64 → row_of (w / 64 * 64 + d) ≡ 94 = λ d k.
    let q : w / 64 * 64 + d ≡ 0x7600 + r * 64 + d = parts (w / 64) d (omega (arith, h)) in
    ap row_of q ∙ sob-row (r * 64) d (omega arith) (omega arith) k in
    record {
      head = letters "SOB " ++ (reg_a r ∷ reg_b r ∷ 44 ∷ []);
      line = λ d x y k.
          let low : (w / 64 * 64 + d) % 64 ≡ d = omega (arith, k) in
          let high : (w / 64 * 64 + d) / 64 ≡ w / 64 = omega (arith, k) in
          rw (at d k, sob-text (w / 64 * 64 + d) x y, low, high) refl;
      one = λ d k. rw (at d k) (sob-one (w / 64 * 64 + d));
      small = omega (arith, h);
    }
  where
    parts : (q d : ℕ) → q / 8 ≡ 59 → q * 64 + d ≡ 0x7600 + q % 8 * 64 + d
    parts q d h = omega (arith, h)

-- ---- a text with a label at its end: with digits for it

pub is_label : (o : List ℕ) → 0 < length (label_in o) → is_name (bare_operand o) ≡ true
unfolding label_in
is_label o h = by (is_name (bare_operand o)) h
  where
    by : (t : Bool) → 0 < length (cond t (bare_operand o) []) → t ≡ true
    by true k = refl
    by false k = absurd (omega (arith, k))

no_name : is_name [] ≡ false
unfolding is_name past_of
no_name = refl

pub no_label : (o : List ℕ) → label_in o ≡ [] → is_name (bare_operand o) ≡ false
unfolding label_in
no_label o e = by (is_name (bare_operand o)) refl e
  where
    by : (t : Bool) → is_name (bare_operand o) ≡ t → cond t (bare_operand o) [] ≡ [] → t ≡ false
    by true q z = sym q ∙ ap is_name z ∙ no_name
    by false q z = refl

abbrev pub before_first : List ℕ → List ℕ
before_first t = alias_of (slice 0 (operands_at t) t) ++ slice 0 (at_of (first_in t)) (first_in t)

abbrev pub before_second : List ℕ → List ℕ
before_second t = (alias_of (slice 0 (operands_at t) t) ++ first_in t) ++ (44 ∷ slice 0 (at_of (second_in t)) (second_in t))

-- its only operand
pub first-filled : (t d : List ℕ) → length t ≤ comma_at t → is_name (bare_operand (first_in t)) ≡ true
    → filled d t ≡ before_first t ++ d
unfolding filled filled_in tail_of
first-filled t d c e =
    rw (e, le-ltb (comma_at t) (length t) c)
    (append-nil (alias_of (slice 0 (operands_at t) t) ++ (slice 0 (at_of (first_in t)) (first_in t) ++ d)) ∙ sym (append_assoc (alias_of (slice 0 (operands_at t) t)) (slice 0 (at_of (first_in t)) (first_in t)) d))

-- its second operand
pub second-filled : (t d : List ℕ) → comma_at t < length t → is_name (bare_operand (first_in t)) ≡ false → is_name (bare_operand (second_in t)) ≡ true
    → filled d t ≡ before_second t ++ d
unfolding filled filled_in tail_of
second-filled t d c f e =
    rw (f, e, lt-ltb (comma_at t) (length t) c)
    (sym (append_assoc (alias_of (slice 0 (operands_at t) t) ++ first_in t) (44 ∷ slice 0 (at_of (second_in t)) (second_in t)) d))

-- ---- the digits in their place give the op code with the field in it

record Digits (t vs : List ℕ) (m d : ℕ) : Type 0 where
  single : vs ≡ get_or vs 0 0 ∷ []
  empty : get_or vs 0 0 % m ≡ 0
  small : get_or vs 0 0 + d < 65536
  reads : ReadsLine t (hex2 d) ((get_or vs 0 0 + d) ∷ [])

alone : (l : List ℕ) → length l ≡ 1 → l ≡ get_or l 0 0 ∷ []
alone [] e = absurd (omega (arith, e))
alone (a ∷ []) e = refl
alone (a ∷ b ∷ l) e = absurd (omega (arith, e))

text-line : (l : List ℕ) → (y : ℕ) × (text_of l ≡ op_text (get_or l 0 0) (get_or l 1 0) y)
unfolding text_of
text-line l = (_, refl)

digits-read : (t q vs : List ℕ) (m d : ℕ) → get_or vs 0 0 ≡ get_or vs 0 0 / m * m + get_or vs 0 0 % m → get_or vs 0 0 % m < m → m ≤ 256 → d < m → ((e : List ℕ) → filled e t ≡ q ++ e) → Whole vs → text_of vs ≡ filled (hex2 0) t → Tailed (get_or vs 0 0) m → Digits t vs m d
digits-read t q vs m d parts low l k fill whole text r =
    let w = get_or vs 0 0 in
    let line = text-line vs in
    let own : op_text w (get_or vs 1 0) line.0 ≡ r.head ++ hex2 (w % m) = ap (λ (x : ℕ). op_text x (get_or vs 1 0) line.0) parts ∙ r.line (w % m) (get_or vs 1 0) line.0 low in
    let same = digits_same q r.head 0 (w % m) (omega arith) (omega (arith, low, l)) (sym (fill (hex2 0)) ∙ sym text ∙ line.1 ∙ own) in
    let base : w / m * m ≡ w = omega (arith, parts, same.1) in
    let new = text-line ((w + d) ∷ []) in
    let is : w + d ≡ w / m * m + d = omega (arith, base) in
    record {
      single = alone vs (whole.count ∙ ap taken parts ∙ r.one (w % m) low);
      empty = sym same.1;
      small = omega (arith, is, r.small, k);
      reads = record {
        whole = record { count = sym (ap taken is ∙ r.one d k); words = one_word (w + d) (omega (arith, is, r.small, k)) };
        text = new.1 ∙ ap (λ (x : ℕ). op_text x 0 new.0) is ∙ r.line d 0 new.0 k ∙ ap (λ (z : List ℕ). z ++ hex2 d) (sym same.0) ∙ sym (fill (hex2 d));
      };
    }
  where
    one_word : (w : ℕ) → w < 65536 → (i : ℕ) → get_or (w ∷ []) i 0 < 65536
    one_word w l zero = l
    one_word w l (suc i) = omega arith

-- ---- how a line was taken

abbrev kind : How → ℕ
kind Unknown = 0
kind Origin = 1
kind Plain = 2
kind Branch = 3
kind Sob = 4
kind Relative = 5

pub unlike : {A : Type 0} (x y : How) → eqb (kind x) (kind y) ≡ false → x ≡ y → A
unlike x y n e = differ (sym n ∙ eq-eqb (kind x) (kind y) (ap kind e))

-- by the tests in their order
taken_as : (a b c d e f g : Bool) (p q r u v w z : Op) (how : How)
    → (cond a (says Plain p) (cond b (says Plain q) (cond c (says Origin r) (cond d (says Plain u) (cond e (says Branch v) (cond f (says Sob v) (cond g (says Unknown w) (says Relative z)))))))).how ≡ how
    → (how ≡ Branch → (e ≡ true) × (cond a (says Plain p) (cond b (says Plain q) (cond c (says Origin r) (cond d (says Plain u) (cond e (says Branch v) (cond f (says Sob v) (cond g (says Unknown w) (says Relative z))))))) ≡ says Branch v))
    × (how ≡ Sob → (f ≡ true) × (cond a (says Plain p) (cond b (says Plain q) (cond c (says Origin r) (cond d (says Plain u) (cond e (says Branch v) (cond f (says Sob v) (cond g (says Unknown w) (says Relative z))))))) ≡ says Sob v))
taken_as true b c d e f g p q r u v w z how h = (λ k. unlike Plain Branch refl (h ∙ k), λ k. unlike Plain Sob refl (h ∙ k))
taken_as false true c d e f g p q r u v w z how h = (λ k. unlike Plain Branch refl (h ∙ k), λ k. unlike Plain Sob refl (h ∙ k))
taken_as false false true d e f g p q r u v w z how h = (λ k. unlike Origin Branch refl (h ∙ k), λ k. unlike Origin Sob refl (h ∙ k))
taken_as false false false true e f g p q r u v w z how h = (λ k. unlike Plain Branch refl (h ∙ k), λ k. unlike Plain Sob refl (h ∙ k))
taken_as false false false false true f g p q r u v w z how h = (λ k. (refl, refl), λ k. unlike Branch Sob refl (h ∙ k))
taken_as false false false false false true g p q r u v w z how h = (λ k. unlike Sob Branch refl (h ∙ k), λ k. (refl, refl))
taken_as false false false false false false true p q r u v w z how h = (λ k. unlike Unknown Branch refl (h ∙ k), λ k. unlike Unknown Sob refl (h ∙ k))
taken_as false false false false false false false p q r u v w z how h = (λ k. unlike Relative Branch refl (h ∙ k), λ k. unlike Relative Sob refl (h ∙ k))

abbrev pub zeros : List ℕ → List ℕ
zeros t = filled (letters "00") t

abbrev pub offsets : List ℕ → List ℕ
offsets t = filled (letters "0000(PC)") t

said-branch : (t : List ℕ) → (said_of t).how ≡ Branch → (is_branch (op_in (zeros t)).a ≡ true) × (said_of t ≡ says Branch (op_in (zeros t)))
unfolding said_of said_with
said-branch t h = (taken_as (eqb (length t) 0) (ltb 0 (op_in t).count) (is_directive (letters ".ORG ") t) (is_directive (letters ".WORD ") t) (is_branch (op_in (zeros t)).a) (is_sob (op_in (zeros t)).a) (eqb (op_in (offsets t)).count 0) (op 0 0) (op_in t) (op 0 (un_hex4 (drop 5 t))) (op 1 (un_hex4 (drop 6 t))) (op_in (zeros t)) (op 0 0) (op_in (offsets t)) Branch h).0 refl

said-sob : (t : List ℕ) → (said_of t).how ≡ Sob → (is_sob (op_in (zeros t)).a ≡ true) × (said_of t ≡ says Sob (op_in (zeros t)))
unfolding said_of said_with
said-sob t h = (taken_as (eqb (length t) 0) (ltb 0 (op_in t).count) (is_directive (letters ".ORG ") t) (is_directive (letters ".WORD ") t) (is_branch (op_in (zeros t)).a) (is_sob (op_in (zeros t)).a) (eqb (op_in (offsets t)).count 0) (op 0 0) (op_in t) (op 0 (un_hex4 (drop 5 t))) (op 1 (un_hex4 (drop 6 t))) (op_in (zeros t)) (op 0 0) (op_in (offsets t)) Sob h).1 refl

-- the words of the line with zeros are some, and an op code's
zero-digits : letters "00" ≡ hex2 0
unfolding hex2 hex_of digits
zero-digits = refl

some_words : (l : List ℕ) → (get_or l 0 0 ≡ 0 → ⊥) → 0 < length l
some_words [] n = absurd (n refl)
some_words (x ∷ l) n = omega arith

-- ---- what is put into its words

pub put-none : (s : List ℕ) (how : How) (third : Bool) (h : ℕ) (u : List ℕ) (o : Op) → u ≡ [] → with_labels s how third h u o ≡ o
unfolding with_labels
put-none s how third h u o e = rw e refl

pub put_some : (s : List ℕ) (how : How) (third : Bool) (h : ℕ) (u : List ℕ) (o : Op) → 0 < length u → with_labels s how third h u o ≡ with_label how third (value_of s u) h o
unfolding with_labels
put_some s how third h u o l = rw (ne_eqb (length u) 0 (λ e. omega (arith, e, l))) refl

nothing-in : label_in [] ≡ []
unfolding label_in bare_operand is_name past_of
nothing-in = refl

past_end : (n : ℕ) (t : List ℕ) → length t ≤ n → drop n t ≡ []
past_end n t l = by (drop n t) (length-drop n t)
  where
    by : (u : List ℕ) → length u ≡ length t - n → u ≡ []
    by [] e = refl
    by (x ∷ u) e = absurd (omega (arith, e, l))

pub no_second : (t : List ℕ) → length t ≤ comma_at t → label_in (second_in t) ≡ []
unfolding second_in
no_second t l = ap label_in (past_end (comma_at t + 1) t (omega (arith, l))) ∙ nothing-in

pub has-comma : (t : List ℕ) → 0 < length (label_in (second_in t)) → comma_at t < length t
has-comma t h =
    ⊎_elim (λ l. l) (λ l. let z : length (label_in (second_in t)) ≡ 0 = ap length (no_second t l) in absurd (omega (arith, z, h))) (lt-cases (comma_at t) (length t))

-- ---- THE STATEMENTS

pub branch_read : BranchRead
unfolding op_in line_op format_of
branch_read s t h how comma label =
    let sb = said-branch t how in
    let vs = words_of_text (zeros t) in
    let w = get_or vs 0 0 in
    let some = some_words vs (λ e. differ (subst (λ (x : ℕ). is_branch x ≡ true) e sb.0)) in
    let read = read-of-words (zeros t) some in
    let u = label_in (first_in t) in
    let d = ahead (value_of s u) h / 2 % 256 in
    let text = read.1 ∙ ap (λ (z : List ℕ). filled z t) zero-digits in
    let g = digits-read t (before_first t) vs 256 d (omega arith) (omega arith) (omega arith) (omega arith) (λ e. first-filled t e comma (is_label (first_in t) label)) read.0 text (branch-tailed w (read.0.words 0) sb.0) in
    let a : plus w d ≡ w + d = omega (arith, g.small) in
    let words : with_label Branch false (value_of s u) h (op_of vs) ≡ op_of ((w + d) ∷ []) = ap (λ (l : List ℕ). with_label Branch false (value_of s u) h (op_of l)) g.single ∙ ap (λ (x : ℕ). op_of (x ∷ [])) a in (
      (w + d) ∷ [],
      g.reads,
      rw sb.1 (put-none s Branch (eqb (length vs) 3) h (label_in (second_in t)) (with_labels s Branch false h u (op_of vs)) (no_second t comma) ∙ put_some s Branch false h u (op_of vs) label ∙ words),
    )

pub sob-read : SobRead
unfolding op_in line_op
sob-read s t h how first label =
    let sb = said-sob t how in
    let vs = words_of_text (zeros t) in
    let w = get_or vs 0 0 in
    let some = some_words vs (λ e. differ (subst (λ (x : ℕ). is_sob x ≡ true) e sb.0)) in
    let read = read-of-words (zeros t) some in
    let u = label_in (second_in t) in
    let d = behind (value_of s u) h / 2 % 64 in
    let text = read.1 ∙ ap (λ (z : List ℕ). filled z t) zero-digits in
    let g = digits-read t (before_second t) vs 64 d (omega arith) (omega arith) (omega arith) (omega arith) (λ e. second-filled t e (has-comma t label) (no_label (first_in t) first) (is_label (second_in t) label)) read.0 text (sob-tailed w sb.0) in
    let a : plus w d ≡ w + d = omega (arith, g.small) in
    let words : with_label Sob (eqb (length vs) 3) (value_of s u) h (op_of vs) ≡ op_of ((w + d) ∷ []) = ap (λ (l : List ℕ). with_label Sob (eqb (length vs) 3) (value_of s u) h (op_of l)) g.single ∙ ap (λ (x : ℕ). op_of (x ∷ [])) a in (
      (w + d) ∷ [],
      g.reads,
      rw sb.1 (ap (λ (o : Op). with_labels s Sob (eqb (length vs) 3) h u o) (put-none s Sob false h (label_in (first_in t)) (op_of vs) first) ∙ put_some s Sob (eqb (length vs) 3) h u (op_of vs) label ∙ words),
    )

-- SOB is its row
in-sob : (w : ℕ) → base_of 94 + field_of (first_of 94) w + field_of (second_of 94) w ≡ w → w / 512 ≡ 59
unfolding the_row rows
in-sob w e = half w (w / 64 % 8) (w % 64) (omega arith) (omega arith) e
  where
    half : (w r x : ℕ) → r < 8 → x < 64 → 0x7600 + r * 64 + x ≡ w → w / 512 ≡ 59
    half w r x lr lx e = omega (arith, lr, lx, e)

sob-name : name_of 94 ≡ letters "SOB"
unfolding the_row rows
sob-name = refl

pub sob-is-row : SobIsRow
sob-is-row = (
  sob-name,
  λ w l. (
    λ e.
        let h = eqb-true (w / 512) 59 e in
        let q : w ≡ 0x7600 + w / 64 % 8 * 64 + w % 64 = parts w h in
        ap row_of q ∙ sob-row (w / 64 % 8 * 64) (w % 64) (omega arith) (omega arith) (omega arith),
    λ r. eq-eqb (w / 512) 59 (in-sob w (subst (λ (k : ℕ). base_of k + field_of (first_of k) w + field_of (second_of k) w ≡ w) r (word_back w l))),
  ),
)
  where
    parts : (w : ℕ) → w / 512 ≡ 59 → w ≡ 0x7600 + w / 64 % 8 * 64 + w % 64
    parts w h =
        let a : w / 64 / 8 ≡ 59 = omega (arith, h) in
        let b : w / 64 ≡ 472 + w / 64 % 8 = omega (arith, a) in
        omega (arith, b)
