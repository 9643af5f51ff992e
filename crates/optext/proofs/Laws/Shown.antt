-- THE TEXT OF AN OP CODE STANDS IN A LINE OF A SOURCE AS IT IS: it fits the line, has no colon, and does not end with a space.
use Rattle.std.proofs.Common.{◌≡◌, ℕ, zero, suc, ◌+◌, ◌*◌, ◌/◌, ◌%◌, ◌<◌, ◌≤◌, Bool, true, T, eqb, List, [], ◌∷◌, ◌++◌, length, get_or, refl, arith, length-append}
use Rattle.hexdigits.specs.Digits.{letters, digits, hex_of, hex4, hex2}
use Rattle.optext.specs.declared.rows.OperandKind.{OperandKind}
use Rattle.optext.specs.declared.rows.OperandKind.TheVariants.{None, Mask, Disp, Reg, Arg4, Arg6, Count, High, Mid, Dst, Addr, Src, Word}
use Rattle.optext.specs.Rows.{row_count, rows, the_row, name_of, first_of, second_of}
use Rattle.optext.specs.Line.{registers, reg_a, reg_b, reg_text, up_text, literal_text, down_text, offset_text, plain_text, mode_text, row_of, sep_text, row_text, word_text, op_text, text_of}
use Rattle.optext.proofs.Laws.Choose.{choose, both, both_left, both_right, at}
use Rattle.optext.proofs.Laws.Forms.{plain-elim}
use Rattle.optext.proofs.Laws.Longest.{text-le}
use Rattle.optext.proofs.Laws.Reader.{any-word-text}
use Rattle.optext.proofs.Laws.Reserved.{row_lt}
use Rattle.optext.specs.Shown.{other, OtherLetter, Without, none, more, last_letter, Stands}

-- ---- laws of these

pub without-append : {c : ℕ} {s t : List ℕ} → Without c s → Without c t → Without c (s ++ t)
without-append none q = q
without-append (more o p) q = more o (without-append p q)

pub without_at : (c : ℕ) (t : List ℕ) (k : ℕ) → OtherLetter c 0 → Without c t → OtherLetter c (get_or t k 0)
without_at c [] k z p = z
without_at c (x ∷ t) zero z (more o p) = o
without_at c (x ∷ t) (suc k) z (more o p) = without_at c t k z p

-- that a known text has none of c is computed
abbrev pub lacks : ℕ → List ℕ → Bool
lacks c [] = true
lacks c (x ∷ t) = both (other c x) (lacks c t)

computed : (c : ℕ) (t : List ℕ) → T (lacks c t) → Without c t
computed c [] h = none
computed c (x ∷ t) h = more (record { is = both_left (other c x) (lacks c t) h }) (computed c t (both_right (other c x) (lacks c t) h))

last-append : (d : ℕ) (s t : List ℕ) → last_letter d (s ++ t) ≡ last_letter (last_letter d s) t
last-append d [] t = refl
last-append d (x ∷ s) t = last-append x s t

last-other : (c d : ℕ) (t : List ℕ) → OtherLetter c d → Without c t → OtherLetter c (last_letter d t)
last-other c d [] p q = p
last-other c d (x ∷ t) p (more o q) = last-other c x t o q

-- ---- digits and registers are neither a colon nor a space

digit : (d : ℕ) → OtherLetter 58 (hex_of d)
unfolding hex_of digits
digit d = without_at 58 digits d (record { is = tt }) (computed 58 digits tt)

last-digit : (d : ℕ) → OtherLetter 32 (hex_of d)
unfolding hex_of digits
last-digit d = without_at 32 digits d (record { is = tt }) (computed 32 digits tt)

first-letter : (r : ℕ) → OtherLetter 58 (reg_a r)
unfolding reg_a registers
first-letter r = without_at 58 registers (r * 2) (record { is = tt }) (computed 58 registers tt)

second-letter : (r : ℕ) → OtherLetter 58 (reg_b r)
unfolding reg_b registers
second-letter r = without_at 58 registers (r * 2 + 1) (record { is = tt }) (computed 58 registers tt)

last-letter : (r : ℕ) → OtherLetter 32 (reg_b r)
unfolding reg_b registers
last-letter r = without_at 32 registers (r * 2 + 1) (record { is = tt }) (computed 32 registers tt)

-- ---- operands: no colon, and the last character no space, whatever stands before

record Plain (t : List ℕ) : Type 0 where
  pub colon : Without 58 t
  pub ending : (d : ℕ) → OtherLetter 32 (last_letter d t)

two_digits : (x : ℕ) → Plain (hex2 x)
unfolding hex2
two_digits x = record { colon = more (digit _) (more (digit _) none); ending = λ d. last-digit _ }

four-digits : (x : ℕ) → Plain (hex4 x)
unfolding hex4
four-digits x = record { colon = more (digit _) (more (digit _) (more (digit _) (more (digit _) none))); ending = λ d. last-digit _ }

register : (r : ℕ) → Plain (reg_text r)
unfolding reg_text
register r = record { colon = more (first-letter r) (more (second-letter r) none); ending = λ d. last-letter r }

-- a sign before, and signs after a register
signed : (x : ℕ) (t : List ℕ) → T (other 58 x) → Plain t → Plain (x ∷ t)
signed x t o p = record { colon = more (record { is = o }) p.colon; ending = λ d. p.ending x }

closed : (r : ℕ) (t : List ℕ) → T (lacks 58 t) → T (other 32 (last_letter 32 t)) → Plain (reg_a r ∷ reg_b r ∷ t)
closed r t o e = record { colon = more (first-letter r) (more (second-letter r) (computed 58 t o)); ending = λ d. last (reg_b r) t e }
  where
    last : (d : ℕ) (t : List ℕ) → T (other 32 (last_letter 32 t)) → OtherLetter 32 (last_letter d t)
    last d [] e = absurd e
    last d (x ∷ t) e = record { is = e }

plain : (p r x : ℕ) → Plain (plain_text p r x)
unfolding up_text literal_text down_text offset_text
plain p r x =
    plain-elim Plain p r x (register r) (signed 35 _ tt (four-digits x)) (signed 40 _ tt (closed r _ tt tt)) (signed 45 _ tt (signed 40 _ tt (closed r _ tt tt)))
    (offset x (signed 40 _ tt (closed r _ tt tt)))
  where
    offset : {t : List ℕ} (x : ℕ) → Plain t → Plain (hex4 x ++ t)
    offset {t} x p = record { colon = without-append (four-digits x).colon p.colon; ending = λ d. rw (last-append d (hex4 x) t) (p.ending _) }

mode : (f x : ℕ) → Plain (mode_text f x)
unfolding mode_text
mode f x = choose Plain (eqb (f / 8 % 2) 0) _ _ (plain (f / 16) (f % 8) x) (signed 64 _ tt (plain (f / 16) (f % 8) x))

-- an operand after its separator s, or nothing: no space ends both where none ends what stands before
record Behind (t : List ℕ) : Type 0 where
  pub colon : Without 58 t
  pub ending : (d : ℕ) → OtherLetter 32 d → OtherLetter 32 (last_letter d t)

module _ (s : ℕ) (o : T (other 58 s)) where
  after : {t : List ℕ} → Plain t → Behind (s ∷ t)
  after p = record { colon = more (record { is = o }) p.colon; ending = λ d h. p.ending s }

  behind : (k : OperandKind) (w x : ℕ) → Behind (sep_text s k w x)
  unfolding sep_text
  behind None w x = record { colon = none; ending = λ d h. h }
  behind Mask w x = after (four-digits x)
  behind Disp w x = after (two_digits (w % 256))
  behind Reg w x = after (register (w % 8))
  behind Arg4 w x = after (record { colon = more (digit _) none; ending = λ d. last-digit _ })
  behind Arg6 w x = after (two_digits (w % 64))
  behind Count w x = after (two_digits (w % 16 + 1))
  behind High w x = after (register (w / 64 % 8))
  behind Mid w x = after (register (w / 8 % 8))
  behind Dst w x = after (mode (w % 64) x)
  behind Addr w x = after (mode (w % 64) x)
  behind Src w x = after (mode (w / 64 % 64) x)
  behind Word w x = after (four-digits w)

-- ---- mnemonics

tidy : ℕ → Bool
tidy k = both (lacks 58 (name_of k)) (lacks 32 (name_of k))

tidy-row : (k : ℕ) → k < row_count → T (tidy k)
unfolding tidy the_row rows
tidy-row k h = at tidy row_count tt k h

name-colon : (k : ℕ) → k < row_count → Without 58 (name_of k)
unfolding tidy
name-colon k h = computed 58 (name_of k) (both_left (lacks 58 (name_of k)) (lacks 32 (name_of k)) (tidy-row k h))

name-space : (k : ℕ) → k < row_count → Without 32 (name_of k)
unfolding tidy
name-space k h = computed 32 (name_of k) (both_right (lacks 58 (name_of k)) (lacks 32 (name_of k)) (tidy-row k h))

-- ---- lines

row-stands : (k w x y : ℕ) → k < row_count → length (row_text k w x y) ≤ 32 → Stands (row_text k w x y)
row-stands k w x y h l =
    let a = behind 32 tt (first_of k) w x in
    let b = behind 44 tt (second_of k) w y in
    record {
      size = l;
      colon = without-append (without-append (name-colon k h) a.colon) b.colon;
      ending =
          rw (last-append 0 (name_of k ++ sep_text 32 (first_of k) w x) (sep_text 44 (second_of k) w y), last-append 0 (name_of k) (sep_text 32 (first_of k) w x))
          (b.ending _ (a.ending _ (last-other 32 0 (name_of k) (record { is = tt }) (name-space k h))));
    }

four-long : (x : ℕ) → length (hex4 x) ≡ 4
unfolding hex4
four-long x = refl

-- the text of any op code; digits after any text, as in .WORD of any word
pub text-stands : (vs : List ℕ) → Stands (text_of vs)
unfolding text_of op_text
text-stands vs = row-stands (row_of (get_or vs 0 0)) _ _ _ (row_lt (get_or vs 0 0)) (let h = text-le vs in omega arith)

pub number-stands : (t : List ℕ) (x : ℕ) → length t ≤ 28 → T (lacks 58 t) → Stands (t ++ hex4 x)
number-stands t x l h = record {
  size = simp length-append (let z = four-long x in omega arith);
  colon = without-append (computed 58 t h) (four-digits x).colon;
  ending = rw (last-append 0 t (hex4 x)) ((four-digits x).ending _);
}

pub word_stands : (w : ℕ) → Stands (word_text w)
word_stands w = rw (any-word-text w) (number-stands (letters ".WORD ") w (omega arith) tt)
