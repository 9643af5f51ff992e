-- The theorems that specs/WordLines.antt states.
use Rattle.std.specs.Prelude.{Result, Ok, Err}
use Prim.Native.Nat.{ℕ, zero, suc, ◌/◌, ◌≤◌, ◌<◌}
use Prim.Native.Char.{code}
use native.Mathlib.Omega.{arith}
use mathlib.Core.Bool.{Bool, true, false, cond}
use mathlib.Core.List.{List, [], ◌∷◌, ◌++◌}
use mathlib.Core.Logic.{⊎_elim}
use mathlib.Core.Path.{◌≡◌, refl, sym, ap, ◌∙◌, subst}
use borrow.Author.Tests.{ltb-true, eqb-false, le-ltb}
use lib.Dec.{T, eqb, ltb}
use lib.ListN.{length, take, get_or, length-append, get_or-append}
use lib.Seq.{get_or-take}
use Rattle.hexdigits.specs.Digits.{letters, hex4}
use Rattle.optext.specs.declared.ReadRefusal.{ReadRefusal}
use Rattle.optext.specs.declared.ReadRefusal.TheVariants.{WordsShort, EarlyEnd, AfterText, UnknownName, BadOperand}
use Rattle.optext.specs.Rows.{Row, word_row, rows, the_row, no_row, name_of, first_of, second_of}
use Rattle.optext.specs.Line.{is_reserved, row_of, sep_text, op_text, taken, text_of, word_text}
use Rattle.optext.specs.Answer.{read_page}
use Rattle.optext.specs.Words.{Reads}
use Rattle.optext.specs.Read.{words_of_text}
use Rattle.optext.specs.Theorems.{has_column}
use Rattle.optext.proofs.Laws.Reserved.{has-row}
use Rattle.optext.proofs.Laws.Reader.{read-of-text, read_word, any-word-text}
use Rattle.refusal.specs.Page.{Page, refused, refused_at, answered, left, call, told}
use Rattle.answer.specs.Answer.{answer_why}
use Rattle.optext_c.specs.Calls.{words_in, odd_length, lent_why, words_read}
use Rattle.demands.specs.Terms.{tells_column}
use Rattle.demands.proofs.Laws.Texts.{why-tells}
use Rattle.demands.specs.WordLines.{WordNoText, WordNotRead, Wd16WordNotRead}

-- ---- no row but the last has a name that begins with a point

abbrev plain_name : Row → Bool
plain_name r = cond (ltb 0 (length r.name)) (cond (eqb (get_or r.name 0 0) 46) false true) false

plain_names : List Row → Bool
plain_names [] = true
plain_names (r ∷ rs) = cond (plain_name r) (plain_names rs) false

names_at : (rs : List Row) (k : ℕ) → T (plain_names rs) → k < length rs → T (plain_name (get_or rs k no_row))
unfolding plain_names
names_at [] k t h = absurd (omega (arith, h))
names_at (r ∷ rs) k t h = by (plain_name r) refl t k h (λ j u l. names_at rs j u l)
  where
    by : (b : Bool) → plain_name r ≡ b → T (cond b (plain_names rs) false) → (k : ℕ) → k < suc (length rs)
        → ((j : ℕ) → T (plain_names rs) → j < length rs → T (plain_name (get_or rs j no_row))) → T (plain_name (get_or (r ∷ rs) k no_row))
    by true e t zero h next = subst (λ (b : Bool). T b) (sym e) tt
    by true e t (suc j) h next = next j t (omega (arith, h))
    by false e t k h next = absurd t

names-plain : T (plain_names (take word_row rows))
unfolding plain_names rows
names-plain = tt

rows_long : length (take word_row rows) ≡ word_row
unfolding rows
rows_long = refl

name-plain : (k : ℕ) → k < word_row → (0 < length (name_of k)) × (get_or (name_of k) 0 0 ≡ 46 → ⊥)
unfolding the_row
name-plain k h =
    let t = names_at (take word_row rows) k names-plain (omega (arith, h, rows_long)) in
    let u : T (plain_name (the_row k)) = subst (λ (r : Row). T (plain_name r)) (get_or-take word_row rows k no_row h) t in
    by (ltb 0 (length (name_of k))) refl (eqb (get_or (name_of k) 0 0) 46) refl u
  where
    by : (a : Bool) → ltb 0 (length (name_of k)) ≡ a → (b : Bool) → eqb (get_or (name_of k) 0 0) 46 ≡ b → T (cond a (cond b false true) false)
        → (0 < length (name_of k)) × (get_or (name_of k) 0 0 ≡ 46 → ⊥)
    by true p false q t = (ltb-true _ _ p, eqb-false _ 46 q)
    by true p true q t = absurd t
    by false p b q t = absurd t

-- ---- so the text of a word that is not reserved begins with no point

first-letter : (w x y : ℕ) → 0 < length (name_of (row_of w)) → get_or (op_text w x y) 0 0 ≡ get_or (name_of (row_of w)) 0 0
unfolding op_text
first-letter w x y h =
    get_or-append (name_of (row_of w) ++ sep_text (code " ") (first_of (row_of w)) w x) (sep_text (code ",") (second_of (row_of w)) w y) 0 0 (simp length-append (omega arith))
    ∙ get_or-append (name_of (row_of w)) (sep_text (code " ") (first_of (row_of w)) w x) 0 0 h

not-pointed : (w : ℕ) (ws : List ℕ) → w < 65536 → is_reserved w ≡ false → text_of (w ∷ ws) ≡ letters ".WORD " ++ hex4 w → ⊥
unfolding text_of
not-pointed w ws h r e =
    let n = name-plain (row_of w) (has-row w h r) in
    n.1 (sym (first-letter w _ _ n.0) ∙ ap (λ (t : List ℕ). get_or t 0 0) e)

some_words : (vs : List ℕ) → length vs ≡ taken (get_or vs 0 0) → vs ≡ [] → ⊥
unfolding taken
some_words vs n e = omega (arith, n, ap length e)

pub word-no-text : WordNoText
word-no-text w h r i =
    let vs = i.words in
    let text : text_of vs ≡ letters ".WORD " ++ hex4 w = i.text ∙ any-word-text w in
    let same : vs ≡ words_of_text (letters ".WORD " ++ hex4 w) = sym (read-of-text vs i.whole) ∙ ap words_of_text text in
    ⊎_elim (λ e. some_words vs i.whole.count (same ∙ e))
    (λ e. not-pointed w [] h r (ap text_of (sym e) ∙ ap text_of (sym same) ∙ text)) (read_word w h)

-- ---- the calls

pub word-not-read : WordNotRead
word-not-read w ws e r h k room p = by r p
  where
    by : (r : Result ℕ ReadRefusal) → Reads (read_page r) (word_text w) ws e → (has_column r ≡ true) × (e ≡ ws)
    by (Ok n) p = absurd (word-no-text w h k (record { words = take n e; whole = p.whole; text = p.text }))
    by (Err WordsShort) p = absurd (omega (arith, room, p.1.room))
    by (Err (EarlyEnd c)) p = (refl, p.same)
    by (Err (AfterText c)) p = (refl, p.same)
    by (Err (UnknownName c)) p = (refl, p.same)
    by (Err (BadOperand c)) p = (refl, p.same)

lent_none : (a b : List ℕ) → length a ≡ 6 → odd_length b ≡ false → lent_why a b ≡ 0
unfolding lent_why answer_why
lent_none a b h k = rw (h, k) refl

words-three : (b : List ℕ) → 6 ≤ length b → length (words_in b) ≡ 3
unfolding words_in
words-three b h = let k : 3 ≤ length b / 2 = omega (arith, h) in rw (le-ltb (length b / 2) 3 k) refl

pub wd16-word-not-read : Wd16WordNotRead
wd16-word-not-read w b a number b' a' h k six even room c =
    let none = lent_none a b six even in
    by c.page (c.reads none) (c.leaves ∙ ap (λ (z : ℕ). words_read b a (call z (left c.page c.words) (words_in b))) none)
  where
    by : (p : Page ℕ) → Reads p (word_text w) (words_in b) c.words → told number (b', a') ≡ words_read b a (left p c.words) → (tells_column number ≡ true) × (b' ≡ b)
    by (answered n) p e = absurd (word-no-text w h k (record { words = take n c.words; whole = p.whole; text = p.text }))
    by (refused n) p e = absurd (omega (arith, words-three b room, p.1.room))
    by (refused_at n column) p e = (ap tells_column (ap (λ z. z.number) e) ∙ (why-tells n p.why).1, ap (λ z. z.lent.0) e)
