-- The theorems that specs/Theorems.antt states.
use Rattle.std.proofs.Common.{◌≡◌, ℕ, ◌+◌, ◌≤◌, cond, eqb, List, [], ◌∷◌, ◌++◌, Result, Ok, Err, length, get_or, take, drop, sym, refl, ap, ◌∙◌, subst, arith}
use Rattle.optext.specs.declared.reading.Guess.{Guess}
use Rattle.optext.specs.declared.Written.{Written}
use Rattle.optext.specs.declared.WriteRefusal.{WriteRefusal}
use Rattle.optext.specs.declared.WriteRefusal.TheVariants.{TextShort, NoWords, WordMissing}
use Rattle.optext.specs.declared.ReadRefusal.{ReadRefusal}
use Rattle.optext.specs.declared.ReadRefusal.TheVariants.{WordsShort, EarlyEnd, AfterText, UnknownName, BadOperand}
use lib.Seq.{take-append_seam}
use Rattle.hexdigits.specs.Over.{in_front_of}
use Rattle.optext.specs.First.{agree}
use Rattle.optext.specs.Rows.{first_of, second_of}
use Rattle.optext.specs.Line.{row_of, takes, op_text, taken, text_of}
use Rattle.optext.specs.Guess.{guess, guess_of}
use Rattle.refusal.specs.Page.{Page, refused, refused_at, answered}
use Rattle.refusal.proofs.Laws.Page.{one, one-call}
use Rattle.optext.specs.Answer.{LinePage, written_page, read_page}
use Rattle.optext.specs.Column.{Whole}
use Rattle.optext.specs.Words.{Reads, own, words_of}
use Rattle.optext.proofs.Laws.Once.{not-less, reads-one}
use Rattle.optext.proofs.Laws.Choose.{no}
use Rattle.optext.proofs.Laws.Meets.{by-taken}
use Rattle.optext.proofs.Laws.Back.{word_of, word-taken}
use Rattle.optext.proofs.Laws.Trip.{guess-back}
use Rattle.optext.proofs.Laws.Near.{agree-self}
use Rattle.optext.proofs.Laws.Columns.{near-text, own_line}
use Rattle.optext.specs.Theorems.{OneText, NoneBegins, OneLine, OneWordText, OneAnswer, RefusedLines, ReadAgain}

-- the words of the guess at an op code's text are the op code's words
unfoldable pub words_in : Guess → List ℕ
words_in g = words_of g.w g.x g.y

-- up to three words, one by one
pub take-three : (l : List ℕ) → length l ≤ 3 → take (length l) (get_or l 0 0 ∷ get_or l 1 0 ∷ get_or l 2 0 ∷ []) ≡ l
take-three [] h = refl
take-three (a ∷ []) h = refl
take-three (a ∷ b ∷ []) h = refl
take-three (a ∷ b ∷ c ∷ []) h = refl
take-three (a ∷ b ∷ c ∷ d ∷ l) h = absurd (omega arith)

pub words-of : (n : ℕ) (l : List ℕ) → length l ≡ n → n ≤ 3 → take n (get_or l 0 0 ∷ get_or l 1 0 ∷ get_or l 2 0 ∷ []) ≡ l
words-of n l e h = subst (λ (m : ℕ). take m (get_or l 0 0 ∷ get_or l 1 0 ∷ get_or l 2 0 ∷ []) ≡ l) e (take-three l (omega arith))

guess-words : (vs : List ℕ) → Whole vs → words_in (guess_of (text_of vs)) ≡ vs
unfolding text_of words_in words_of own taken
guess-words vs h =
    by-taken w (words_in (guess_of (text_of vs)) ≡ vs)
    (λ e f. rw (back, e, f) (words-of 1 vs (count 0 0 e f) (omega arith)))
    (λ e f. rw (back, word-taken (second_of (row_of w)) w y f, e, f) (words-of 2 vs (count 0 1 e f) (omega arith)))
    (λ e f. rw (back, word-taken (first_of (row_of w)) w x e, e, f) (words-of 2 vs (count 1 0 e f) (omega arith)))
    (λ e f. rw (back, word-taken (first_of (row_of w)) w x e, word-taken (second_of (row_of w)) w y f, e, f) (words-of 3 vs (count 1 1 e f) (omega arith)))
  where
    w : ℕ
    w = get_or vs 0 0

    x : ℕ
    x = get_or vs 1 0

    y : ℕ
    y = get_or vs (1 + takes (first_of (row_of w)) w) 0

    back : guess_of (op_text w x y) ≡ guess w (word_of (first_of (row_of w)) w x) (word_of (second_of (row_of w)) w y)
    back = guess-back w x y (h.words 0) (h.words 1) (h.words (1 + takes (first_of (row_of w)) w))

    count : (m n : ℕ) → takes (first_of (row_of w)) w ≡ m → takes (second_of (row_of w)) w ≡ n → length vs ≡ 1 + m + n
    count m n e f = h.count ∙ rw (e, f) refl

-- and the only words whose text it is
pub only-guess : (t : List ℕ) (g : Guess) → g ≡ guess_of t → (vs : List ℕ) → Whole vs → text_of vs ≡ t → vs ≡ words_of g.w g.x g.y
unfolding words_in
only-guess t g e vs h q = sym (guess-words vs h) ∙ ap (λ (s : List ℕ). words_in (guess_of s)) q ∙ ap words_in (sym e)

pub one-text : OneText
one-text us vs g h e = sym (guess-words us g) ∙ ap (λ (t : List ℕ). words_in (guess_of t)) e ∙ guess-words vs h

pub none-begins : NoneBegins
none-begins us vs s g h e =
    let w : agree (text_of vs) (text_of us) ≡ length (text_of us) = subst (λ (t : List ℕ). agree t (text_of us) ≡ length (text_of us)) (sym e) (agree-self (text_of us) s) in
    sym ((near-text (text_of vs) us g).whole w) ∙ own_line (text_of vs) (record { words = vs; whole = h; text = refl })

-- 01's numbers tell the answers apart
abbrev written_of : Page LinePage → Result Written WriteRefusal
written_of (answered p) = Ok (record { length = p.count; taken = p.words })
written_of (refused r) = Err (cond (eqb r 8) TextShort (cond (eqb r 7) WordMissing NoWords))
written_of (refused_at r c) = Err NoWords

written_back : (r : Result Written WriteRefusal) → written_of (written_page r) ≡ r
written_back (Ok line) = refl
written_back (Err TextShort) = refl
written_back (Err NoWords) = refl
written_back (Err WordMissing) = refl

pub written_one : (r q : Result Written WriteRefusal) → written_page r ≡ written_page q → r ≡ q
written_one = one written_of written_back

abbrev read_back_of : Page ℕ → Result ℕ ReadRefusal
read_back_of (answered n) = Ok n
read_back_of (refused r) = Err WordsShort
read_back_of (refused_at r c) = Err (cond (eqb r 32) (EarlyEnd c) (cond (eqb r 31) (AfterText c) (cond (eqb r 9) (UnknownName c) (BadOperand c))))

read_back : (r : Result ℕ ReadRefusal) → read_back_of (read_page r) ≡ r
read_back (Ok n) = refl
read_back (Err WordsShort) = refl
read_back (Err (EarlyEnd c)) = refl
read_back (Err (AfterText c)) = refl
read_back (Err (UnknownName c)) = refl
read_back (Err (BadOperand c)) = refl

pub read_one : (r q : Result ℕ ReadRefusal) → read_page r ≡ read_page q → r ≡ q
read_one = one read_back_of read_back

pub one_line : OneLine
one_line ws b e e' r r' p q = one-call written_page written_one r r' e e' (p.met ∙ sym q.met)

pub one_word : OneWordText
one_word w b e e' r r' p q = one-call written_page written_one r r' e e' (p ∙ sym q)

pub one_answer : OneAnswer
one_answer t ws e e' r r' p q =
    let z = reads-one t ws e e' (read_page r) (read_page r') p q in
    (read_one r r' z.0, z.1)

pub refused-lines : RefusedLines
refused-lines t ws e (Ok n) h p = (λ q. absurd (no (sym q)), λ q. record { words = take n e; whole = p.whole; text = p.text })
refused-lines t ws e (Err WordsShort) h p = (λ q. absurd (no (sym q)), λ q. absurd (not-less (length ws) h p.1.room))
refused-lines t ws e (Err (EarlyEnd c)) h p = (λ q. p.none, λ q. absurd (no q))
refused-lines t ws e (Err (AfterText c)) h p = (λ q. p.none, λ q. absurd (no q))
refused-lines t ws e (Err (UnknownName c)) h p = (λ q. p.none, λ q. absurd (no q))
refused-lines t ws e (Err (BadOperand c)) h p = (λ q. p.none, λ q. absurd (no q))

-- what the reader may answer to the text of an op code: its words, and the other words as they were
pub reads-text : (vs ws : List ℕ) → Whole vs → 3 ≤ length ws → Reads (answered (length vs)) (text_of vs) ws (in_front_of vs ws)
unfolding in_front_of
reads-text vs ws h g =
    let s : take (length vs) (vs ++ drop (length vs) ws) ≡ vs = take-append_seam vs (drop (length vs) ws) in
    record {
      room = g;
      count = ap length (sym s);
      whole = subst (λ (l : List ℕ). Whole l) (sym s) h;
      text = ap text_of s;
      only = λ us w q. one-text us vs w h q ∙ sym s;
      rest = ap (λ (l : List ℕ). l ++ drop (length l) ws) (sym s);
    }

pub read_again : ReadAgain
read_again vs ws e r h g p = one_answer (text_of vs) ws e (in_front_of vs ws) r (Ok (length vs)) p (reads-text vs ws h g)
