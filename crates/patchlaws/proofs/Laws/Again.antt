-- The theorems that specs/Again.antt states.
use mathlib.Core.Path.{◌≡◌, refl, ap, sym, ◌∙◌}
use mathlib.Core.Bool.{Bool, true, false, cond}
use mathlib.Core.List.{List, [], ◌∷◌, ◌++◌, append-nil}
use mathlib.Core.Logic.{⊎_elim}
use Prim.Native.Nat.{ℕ, ◌<◌}
use native.Mathlib.Omega.{arith}
use lib.Dec.{eqb}
use borrow.Author.Tests.{ne_eqb, lt-ltb}
use lib.ListN.{length, drop}
use Rattle.hexdigits.specs.Digits.{letters, hex4}
use Rattle.optext.specs.declared.Op.{Op}
use Rattle.optext.specs.Digits.{un_hex4}
use Rattle.optext.specs.Line.{word_text, taken, text_of}
use Rattle.optext.proofs.Laws.Back.{hex4-back}
use Rattle.optext.specs.Column.{Whole}
use Rattle.optext.specs.Read.{words_of_text, op_of}
use Rattle.optext.proofs.Laws.Read.{same_refl}
use Rattle.optext.proofs.Laws.Reader.{read-of-text, read_word, read-origin, read-nothing, any-word-text}
use Rattle.patchline.specs.declared.oneline.How.{How}
use Rattle.patchline.specs.declared.oneline.How.TheVariants.{Origin, Plain}
use Rattle.patchline.specs.Line.{second_in, label_in, op_in, op, says, is_number, is_directive, said_of, with_label}
use Rattle.assembler.specs.Source.{text_at, value_of, here_of, with_labels, line_op}
use Rattle.assembler.specs.Section.{words_placed}
use Rattle.patchlaws.specs.Again.{origin_line, ReaderWords, ReaderPlaced, ListedAgain, WordAgain, OriginAgain}

-- a line that is taken so that no label is put into it keeps the words that it says
abbrev Fixed : How → Type 0
Fixed how = (third : Bool) (v h : ℕ) (o : Op) → with_label how third v h o ≡ o

put-fixed : (s u : List ℕ) (how : How) (third : Bool) (h : ℕ) (o : Op) → Fixed how → with_labels s how third h u o ≡ o
unfolding with_labels
put-fixed s u how third h o f = rw (f third (value_of s u) h o) (go (eqb (length u) 0))
  where
    go : (b : Bool) → cond b o o ≡ o
    go true = refl
    go false = refl

fixed-words : (s t : List ℕ) (how : How) (h : ℕ) (o : Op) → Fixed how → said_of t ≡ says how o → line_op s h t ≡ o
unfolding line_op
fixed-words s t how h o f q = rw q (ap (λ (p : Op). with_labels s how (eqb o.count 3) h (label_in (second_in t)) p) (put-fixed s _ how false h o f) ∙ put-fixed s _ how _ h o f)

pub plain-words : (s t : List ℕ) (h : ℕ) (o : Op) → said_of t ≡ says Plain o → line_op s h t ≡ o
plain-words s t h o q = fixed-words s t Plain h o (λ third v h o. refl) q

pub origin-words : (s t : List ℕ) (h : ℕ) (o : Op) → said_of t ≡ says Origin o → line_op s h t ≡ o
origin-words s t h o q = fixed-words s t Origin h o (λ third v h o. refl) q

some : (t : List ℕ) → 0 < length t → length t ≡ 0 → ⊥
some t h e = omega arith

-- "A line that 01's reader takes gives exactly that reader's words"
reader-said : (t : List ℕ) → 0 < length t → 0 < length (words_of_text t) → said_of t ≡ says Plain (op_of (words_of_text t))
unfolding said_of op_in
reader-said t l p = rw (ne_eqb (length t) 0 (some t l), lt-ltb 0 (length (words_of_text t)) p) refl

pub reader-words : ReaderWords
reader-words s t h l p = plain-words s t h (op_of (words_of_text t)) (reader-said t l p)

pub reader-placed : ReaderPlaced
unfolding words_placed
reader-placed s i l p = rw (reader-words s (text_at s i) (here_of s i) l p) refl

-- ".WORD here takes any word": the word that its digits are, where the reader takes no such line
any-said : (t : List ℕ) → 0 < length t → words_of_text t ≡ [] → is_directive (letters ".ORG ") t ≡ false → is_directive (letters ".WORD ") t ≡ true
    → said_of t ≡ says Plain (op 1 (un_hex4 (drop 6 t)))
unfolding said_of op_in
any-said t l e f g = rw (ne_eqb (length t) 0 (some t l), e, f, g) refl

-- ---- the lines of a listing

-- an op code has words, and its text characters: no text reads as nothing
whole-some : (vs : List ℕ) → Whole vs → 0 < length vs
unfolding taken
whole-some vs h = omega (arith, h.count)

text-some : (vs : List ℕ) → Whole vs → 0 < length (text_of vs)
text-some vs h = go (text_of vs) (read-of-text vs h)
  where
    go : (t : List ℕ) → words_of_text t ≡ vs → 0 < length t
    go [] e = let z : length vs ≡ 0 = ap length (sym e ∙ read-nothing) in absurd (omega (arith, whole-some vs h))
    go (x ∷ t) e = omega arith

-- the text of a whole op code says its words, and gives them back
pub text-said : (vs : List ℕ) → Whole vs → said_of (text_of vs) ≡ says Plain (op_of vs)
text-said vs w =
    let e = read-of-text vs w in
    reader-said (text_of vs) (text-some vs w) (rw e (whole-some vs w)) ∙ ap (λ (ws : List ℕ). says Plain (op_of ws)) e

pub listed-again : ListedAgain
listed-again s vs h w = plain-words s (text_of vs) h (op_of vs) (text-said vs w)

-- .WORD and .ORG with the four digits of a word
unfoldable word_line : ℕ → List ℕ
word_line w = letters ".WORD " ++ hex4 w

-- the writer's.WORD is that line
word-line : (w : ℕ) → word_text w ≡ word_line w
unfolding word_line
word-line w = any-word-text w

four-back : (w : ℕ) → w < 65536 → un_hex4 (hex4 w) ≡ w
four-back w h = ap un_hex4 (sym (append-nil (hex4 w))) ∙ hex4-back w [] h

is-number : (w : ℕ) → w < 65536 → is_number (hex4 w) ≡ true
unfolding is_number
is-number w h = rw (four-back w h) (same_refl (hex4 w))

module _ (w : ℕ) (l : w < 65536) where
  -- any word after .WORD comes back, whether the reader takes the line or not
  word-line-said : said_of (word_line w) ≡ says Plain (op_of (w ∷ []))
  unfolding word_line is_directive
  word-line-said =
      ⊎_elim (λ e. any-said (word_line w) (omega arith) e refl (is-number w l) ∙ ap (λ (x : ℕ). says Plain (op 1 x)) (four-back w l))
      (λ e. reader-said (word_line w) (omega arith) (rw e (omega arith)) ∙ ap (λ (ws : List ℕ). says Plain (op_of ws)) e) (read_word w l)

  pub word-said : said_of (word_text w) ≡ says Plain (op_of (w ∷ []))
  word-said = ap said_of (word-line w) ∙ word-line-said

  pub word-again : WordAgain w l
  word-again s h = plain-words s (word_text w) h (op_of (w ∷ [])) word-said

  pub origin-again : OriginAgain w l
  unfolding origin_line said_of op_in is_directive hex4
  origin-again = rw (read-origin w, is-number w l, four-back w l) refl
