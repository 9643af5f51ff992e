-- The round trip over the two calls for C, from optext's (its Laws Calls).
use Prim.Native.Nat.{ℕ, zero, suc, ◌*◌, ◌/◌, ◌%◌, ◌≤◌, ◌<◌}
use mathlib.Core.Bool.{Bool, true, false, cond}
use mathlib.Core.List.{List, [], ◌∷◌}
use mathlib.Core.Path.{◌≡◌, refl, sym, ap, ◌∙◌, subst}
use native.Mathlib.Omega.{arith}
use lib.Dec.{ltb}
use lib.ListN.{length, take, drop, get_or, length-take}
use lib.Seq.{take-take, take_at, length-take-le, get_or-take}
use borrow.Author.Tests.{eq-eqb, ltb-true, ltb-false, le-ltb}
use Rattle.hexdigits.specs.Over.{in_front_of}
use Rattle.wordbytes.specs.Words.{word_at, bytes_in}
use Rattle.wordbytes.proofs.Laws.{word-again, low_of, high-of, bytes-length}
use Rattle.refusal.specs.Numbers.{words_odd}
use Rattle.refusal.specs.Page.{Page, refused, refused_at, answered, left, call, told}
use Rattle.refusal.proofs.Laws.Page.{first-both}
use Rattle.answer.specs.Answer.{three_words, answer_why, answering}
use Rattle.optext.specs.Line.{taken, text_of}
use Rattle.optext.specs.Answer.{line_page, write_why, in_front, write_of}
use Rattle.optext.specs.Column.{Why, early, after, name, operand}
use Rattle.optext.specs.Words.{Accepts, Reads}
use Rattle.optext.proofs.Laws.Meets.{taken-le}
use Rattle.optext.proofs.Laws.Calls.{some-taken, lined, line-written, same-front, again}
use Rattle.optext_c.specs.Calls.{lent, words_in, odd_length, lent_why, text_words, write_call, words_read, ReadCall}

-- ---- what is lent

-- the words of so many bytes, and no more than three of them
words_long : (b : List ℕ) → length (words_in b) ≡ lent (length b / 2)
unfolding words_in
words_long b = length-take-le (lent (length b / 2)) (word_at b 0 ∷ word_at b 2 ∷ word_at b 4 ∷ []) (by (ltb (length b / 2) 3) refl)
  where
    by : (small : Bool) → ltb (length b / 2) 3 ≡ small → cond small (length b / 2) 3 ≤ 3
    by true e = omega (arith, ltb-true (length b / 2) 3 e)
    by false e = omega arith

words-front : (b : List ℕ) (m : ℕ) → m ≤ length (words_in b) → take m (words_in b) ≡ take m (word_at b 0 ∷ word_at b 2 ∷ word_at b 4 ∷ [])
unfolding words_in
words-front b m h = take-take m (lent (length b / 2)) (word_at b 0 ∷ word_at b 2 ∷ word_at b 4 ∷ []) (subst (λ (k : ℕ). m ≤ k) (words_long b) h)

-- they lie in the bytes
words-within : (b : List ℕ) (m : ℕ) → m ≤ length (words_in b) → m ≤ 3 → m * 2 ≤ length b
words-within b m h k = by (ltb (length b / 2) 3) refl
  where
    by : (small : Bool) → ltb (length b / 2) 3 ≡ small → m * 2 ≤ length b
    by true e = let l : m ≤ length b / 2 = subst (λ (z : ℕ). m ≤ z) (words_long b ∙ rw e refl) h in omega (arith, l)
    by false e = omega (arith, ltb-false (length b / 2) 3 e)

-- words are under 65,536 where bytes are under 256
words_small : (b : List ℕ) → ((i : ℕ) → get_or b i 0 < 256) → (i : ℕ) → get_or (words_in b) i 0 < 65536
unfolding words_in
words_small b h i = part (lent (length b / 2)) i
  where
    part : (n i : ℕ) → get_or (take n (word_at b 0 ∷ word_at b 2 ∷ word_at b 4 ∷ [])) i 0 < 65536
    part zero i = omega arith
    part (suc n) zero = omega (arith, h 0, h 1)
    part (suc zero) (suc i) = omega arith
    part (suc (suc n)) (suc zero) = omega (arith, h 2, h 3)
    part (suc (suc zero)) (suc (suc i)) = omega arith
    part (suc (suc (suc n))) (suc (suc zero)) = omega (arith, h 4, h 5)
    part (suc (suc (suc zero))) (suc (suc (suc i))) = omega arith
    part (suc (suc (suc (suc n)))) (suc (suc (suc i))) = omega arith

-- the bytes of the words in front are the bytes in front
pairs : (b : List ℕ) (k : ℕ) → ((i : ℕ) → get_or b i 0 < 256) → k ≤ 3 → k * 2 ≤ length b → bytes_in (take k (word_at b 0 ∷ word_at b 2 ∷ word_at b 4 ∷ [])) ≡ take (k * 2) b
pairs b zero h l g = refl
pairs [] (suc k) h l g = absurd (omega arith)
pairs (a ∷ []) (suc k) h l g = absurd (omega arith)
pairs (a ∷ c ∷ b) (suc zero) h l g = rw (low_of a c (h 0), high-of a c (h 0)) refl
pairs (a ∷ c ∷ []) (suc (suc k)) h l g = absurd (omega arith)
pairs (a ∷ c ∷ d ∷ []) (suc (suc k)) h l g = absurd (omega arith)
pairs (a ∷ c ∷ d ∷ e ∷ b) (suc (suc zero)) h l g = rw (low_of a c (h 0), high-of a c (h 0), low_of d e (h 2), high-of d e (h 2)) refl
pairs (a ∷ c ∷ d ∷ e ∷ []) (suc (suc (suc k))) h l g = absurd (omega arith)
pairs (a ∷ c ∷ d ∷ e ∷ f ∷ []) (suc (suc (suc k))) h l g = absurd (omega arith)
pairs (a ∷ c ∷ d ∷ e ∷ f ∷ i ∷ b) (suc (suc (suc zero))) h l g = rw (low_of a c (h 0), high-of a c (h 0), low_of d e (h 2), high-of d e (h 2), low_of f i (h 4), high-of f i (h 4)) refl
pairs (a ∷ c ∷ d ∷ e ∷ f ∷ i ∷ b) (suc (suc (suc (suc k)))) h l g = absurd (omega arith)

front_bytes : (b : List ℕ) (m : ℕ) → ((i : ℕ) → get_or b i 0 < 256) → m ≤ length (words_in b) → m ≤ 3 → bytes_in (take m (words_in b)) ≡ take (m * 2) b
front_bytes b m h k l = ap bytes_in (words-front b m k) ∙ pairs b m h l (words-within b m k l)

-- and the words of an op code's bytes are its words
words-again : (ws : List ℕ) → 0 < length ws → length ws ≤ 3 → words_in (bytes_in ws) ≡ ws
unfolding words_in
words-again [] h l = absurd (omega arith)
words-again (x ∷ []) h l = rw (word-again x) refl
words-again (x ∷ y ∷ []) h l = rw (word-again x, word-again y) refl
words-again (x ∷ y ∷ z ∷ []) h l = rw (word-again x, word-again y, word-again z) refl
words-again (x ∷ y ∷ z ∷ w ∷ ws) h l = absurd (omega arith)

-- bytes that are the same in front have the same words in front
three-words : (b v : List ℕ) (m : ℕ) → m ≤ 3 → take (m * 2) v ≡ take (m * 2) b → take m (word_at v 0 ∷ word_at v 2 ∷ word_at v 4 ∷ []) ≡ take m (word_at b 0 ∷ word_at b 2 ∷ word_at b 4 ∷ [])
three-words b v m l e = by m l (λ i h. sym (get_or-take (m * 2) v i 0 h) ∙ ap (λ (z : List ℕ). get_or z i 0) e ∙ get_or-take (m * 2) b i 0 h)
  where
    by : (n : ℕ) → n ≤ 3 → ((i : ℕ) → i < n * 2 → get_or v i 0 ≡ get_or b i 0) → take n (word_at v 0 ∷ word_at v 2 ∷ word_at v 4 ∷ []) ≡ take n (word_at b 0 ∷ word_at b 2 ∷ word_at b 4 ∷ [])
    by zero l h = refl
    by (suc zero) l h = rw (h 0 (omega arith), h 1 (omega arith)) refl
    by (suc (suc zero)) l h = rw (h 0 (omega arith), h 1 (omega arith), h 2 (omega arith), h 3 (omega arith)) refl
    by (suc (suc (suc zero))) l h = rw (h 0 (omega arith), h 1 (omega arith), h 2 (omega arith), h 3 (omega arith), h 4 (omega arith), h 5 (omega arith)) refl
    by (suc (suc (suc (suc n)))) l h = absurd (omega arith)

words-many : (v : List ℕ) (m : ℕ) → m * 2 ≤ length v → m ≤ 3 → m ≤ length (words_in v)
words-many v m h k = by (ltb (length v / 2) 3) refl
  where
    by : (small : Bool) → ltb (length v / 2) 3 ≡ small → m ≤ length (words_in v)
    by true e = let n : length (words_in v) ≡ length v / 2 = words_long v ∙ rw e refl in omega (arith, n)
    by false e = let n : length (words_in v) ≡ 3 = words_long v ∙ rw e refl in omega (arith, n)

same-words : (b v : List ℕ) (m : ℕ) → m ≤ 3 → m ≤ length (words_in b) → take (m * 2) v ≡ take (m * 2) b → take m (words_in v) ≡ take m (words_in b)
same-words b v m few room g =
    let long : m * 2 ≤ length v = omega (arith, length-take (m * 2) v, ap length g ∙ length-take-le (m * 2) b (words-within b m room few)) in
    words-front v m (words-many v m long few) ∙ three-words b v m few g ∙ sym (words-front b m room)

-- ---- refused for what is lent, or not

lent-sound : (a b : List ℕ) → lent_why a b ≡ 0 → (answer_why a ≡ 0) × (odd_length b ≡ false)
unfolding lent_why
lent-sound a b e = let h = first-both (answer_why a) (cond (odd_length b) words_odd 0) e in (h.0, by (odd_length b) h.1)
  where
    by : (uneven : Bool) → cond uneven words_odd 0 ≡ 0 → uneven ≡ false
    by true k = absurd (omega (arith, k))
    by false k = refl

lent_fits : (a b : List ℕ) → answer_why a ≡ 0 → odd_length b ≡ false → lent_why a b ≡ 0
unfolding lent_why
lent_fits a b h k = rw (h, k) refl

-- ---- a call of the writer that answers 0

-- the line's length and the words taken stand in the answer
pub record WroteText (b t a t' a' : List ℕ) : Type 0 where
  pub six : answer_why a ≡ 0
  pub even : odd_length b ≡ false
  pub long : ℕ
  pub many : ℕ
  pub line : left (answered (line_page long many)) t' ≡ write_of (words_in b) t
  pub first : word_at a' 0 ≡ long
  pub second : word_at a' 2 ≡ many
  pub answer : a' ≡ three_words long many 0

pub wrote : (b t a t' a' : List ℕ) → told 0 (t', a') ≡ write_call b t a → WroteText b t a t' a'
unfolding write_call write_of
wrote b t a t' a' h = by (lent_why a b) (write_why (words_in b) (length t)) refl refl h
  where
    by : (bad why : ℕ) → lent_why a b ≡ bad → write_why (words_in b) (length t) ≡ why
        → told 0 (t', a') ≡ answering text_words a (call bad (call why (in_front (text_of (words_in b)) (taken (get_or (words_in b) 0 0)) t) t) t) → WroteText b t a t' a'
    by (suc bad) why e f g = absurd (omega (arith, ap (λ z. z.number) g))
    by zero (suc why) e f g = absurd (omega (arith, ap (λ z. z.number) g))
    by zero zero e f g =
        let ws = words_in b in
        let known = lent-sound a b e in
        record {
          six = known.0;
          even = known.1;
          long = length (text_of ws);
          many = taken (get_or ws 0 0);
          line = rw (f, ap (λ z. z.lent.0) g) refl;
          first = ap (λ z. word_at z.lent.1 0) g ∙ word-again (length (text_of ws));
          second = ap (λ z. word_at z.lent.1 2) g ∙ word-again (taken (get_or ws 0 0));
          answer = ap (λ z. z.lent.1) g;
        }

-- a call of the writer with room, over bytes that have every word that the op code takes
writes_line : (b t a : List ℕ) (k : ℕ) (t' a' : List ℕ) → answer_why a ≡ 0 → odd_length b ≡ false → 32 ≤ length t → taken (get_or (words_in b) 0 0) ≤ length (words_in b) → told k (t', a') ≡ write_call b t a
    → told {B = List ℕ × List ℕ} k (t', a') ≡ told 0 (in_front_of (text_of (words_in b)) t, three_words (length (text_of (words_in b))) (taken (get_or (words_in b) 0 0)) 0)
unfolding write_call
writes_line b t a k t' a' six even h l e = e ∙ rw (lent_fits a b six even, line-written (words_in b) t h l) refl

-- ---- a call of the reader that answers 0 took the text
pub record Took (t c d c' d' : List ℕ) : Type 0 where
  pub words : List ℕ
  pub accepts : Accepts t (words_in c) words (word_at d' 0)
  pub left : c' ≡ in_front_of (bytes_in (take (word_at d' 0) words)) c

why-not-0 : {t : List ℕ} {c n : ℕ} → Why t c n → 0 ≡ n → ⊥
why-not-0 (early e p) h = omega (arith, e, h)
why-not-0 (after e p i) h = omega (arith, e, h)
why-not-0 (name e p i s) h = omega (arith, e, h)
why-not-0 (operand e p i s) h = omega (arith, e, h)

took-with : (t c d c' d' : List ℕ) (a : Page ℕ) (e : List ℕ) → Reads a t (words_in c) e → told 0 (c', d') ≡ words_read c d (left a e) → Took t c d c' d'
took-with t c d c' d' (answered n) e p h =
    let one : word_at d' 0 ≡ n = ap (λ z. word_at z.lent.1 0) h ∙ word-again n in
    record {
      words = e;
      accepts = subst (λ (k : ℕ). Accepts t (words_in c) e k) (sym one) p;
      left = ap (λ z. z.lent.0) h ∙ ap (λ (k : ℕ). in_front_of (bytes_in (take k e)) c) (sym one);
    }
took-with t c d c' d' (refused r) e p h = absurd (omega (arith, p.0, ap (λ z. z.number) h))
took-with t c d c' d' (refused_at r k) e p h = absurd (why-not-0 p.why (ap (λ z. z.number) h))

pub took : (t c d c' d' : List ℕ) → ReadCall t c d (told 0 (c', d')) → Took t c d c' d'
took t c d c' d' p = by (lent_why d c) p.reads p.leaves
  where
    by : (bad : ℕ) → (bad ≡ 0 → Reads p.page t (words_in c) p.words) → told 0 (c', d') ≡ words_read c d (call bad (left p.page p.words) (words_in c)) → Took t c d c' d'
    by zero r e = took-with t c d c' d' p.page p.words (r refl) e
    by (suc bad) r e = absurd (omega (arith, ap (λ z. z.number) e))

-- ---- the two calls

is-answer : (a : List ℕ) → length a ≡ 6 → answer_why a ≡ 0
unfolding answer_why
is-answer a h = rw (eq-eqb (length a) 6 h) refl

three : (c : List ℕ) → 6 ≤ length c → 3 ≤ length (words_in c)
three c h = let n : length (words_in c) ≡ 3 = words_long c ∙ rw (le-ltb (length c / 2) 3 (omega arith)) refl in omega (arith, n)

over-front : (xs c : List ℕ) (m : ℕ) → length xs ≡ m → take m (in_front_of xs c) ≡ xs
unfolding in_front_of
over-front xs c m e = take_at xs (drop (length xs) c) m e

-- WHAT THE WRITER LEFT, THE READER GIVES BACK
pub text-again : (b t a t' a' c d : List ℕ) (k : ℕ) (c' d' : List ℕ) → ((i : ℕ) → get_or b i 0 < 256) → told 0 (t', a') ≡ write_call b t a
    → length d ≡ 6 → odd_length c ≡ false → 6 ≤ length c → ReadCall (take (word_at a' 0) t') c d (told k (c', d'))
    → (k ≡ 0) × (c' ≡ in_front_of (take (word_at a' 2 * 2) b) c) × (d' ≡ three_words (word_at a' 2) 0 0)
text-again b t a t' a' c d k c' d' bytes e six even room p =
    let w = wrote b t a t' a' e in
    let m = w.many in
    let ws = words_in b in
    let l = lined ws t w.long m t' w.line in
    let r = subst (λ (z : ℕ). ReadCall (take z t') c d (told k (c', d'))) w.first p in
    let fits = lent_fits d c (is-answer d six) even in
    let z = again ws t w.long m t' (words_in c) r.words r.page (words_small b bytes) w.line (three c room) (r.reads fits) in
    let x : told k (c', d') ≡ words_read c d (left (answered m) (in_front_of (take m ws) (words_in c))) =
    r.leaves ∙ ap (λ (y : ℕ). words_read c d (call y (left r.page r.words) (words_in c))) fits ∙ ap (λ (y : Page ℕ). words_read c d (left y r.words)) z.0 ∙ ap (λ (y : List ℕ). words_read c d (left (answered m) y)) z.1 in
    let few : m ≤ 3 = omega (arith, l.many, taken-le (get_or ws 0 0)) in
    let front : bytes_in (take m (in_front_of (take m ws) (words_in c))) ≡ take (m * 2) b = ap bytes_in (over-front (take m ws) (words_in c) m (length-take-le m ws l.room)) ∙ front_bytes b m bytes l.room few in
    rw w.second (ap (λ y. y.number) x, ap (λ y. y.lent.0) x ∙ ap (λ (y : List ℕ). in_front_of y c) front, ap (λ y. y.lent.1) x)

-- WHAT THE READER GAVE, THE WRITER MAKES THE TEXT OF that was read
pub text-made : (t c d c' d' u a : List ℕ) (k : ℕ) (u' a' : List ℕ) → ReadCall t c d (told 0 (c', d'))
    → length a ≡ 6 → 32 ≤ length u → told k (u', a') ≡ write_call (take (word_at d' 0 * 2) c') u a
    → (k ≡ 0) × (u' ≡ in_front_of t u) × (a' ≡ three_words (length t) (word_at d' 0) 0)
text-made t c d c' d' u a k u' a' p six room e =
    let w = took t c d c' d' p in
    let n = word_at d' 0 in
    let ws = take n w.words in
    let count : length ws ≡ n = sym w.accepts.count in
    let many : taken (get_or ws 0 0) ≡ n = sym (w.accepts.count ∙ w.accepts.whole.count) in
    let some : 0 < n = subst (λ (z : ℕ). 0 < z) many (some-taken (get_or ws 0 0)) in
    let few : n ≤ 3 = subst (λ (z : ℕ). z ≤ 3) many (taken-le (get_or ws 0 0)) in
    let bytes : take (n * 2) c' ≡ bytes_in ws = ap (λ (z : List ℕ). take (n * 2) z) w.left ∙ over-front (bytes_in ws) c (n * 2) (bytes-length ws ∙ ap (λ (z : ℕ). z * 2) count) in
    let again : words_in (bytes_in ws) ≡ ws = words-again ws (rw count some) (rw count few) in
    let even : odd_length (bytes_in ws) ≡ false = even-bytes ws in
    let x = writes_line (bytes_in ws) u a k u' a' (is-answer a six) even room (rw (again, many, count) (le_refl n)) (e ∙ ap (λ (z : List ℕ). write_call z u a) bytes) in
    let y : told {B = List ℕ × List ℕ} k (u', a') ≡ told 0 (in_front_of t u, three_words (length t) n 0) = x ∙ rw (again, w.accepts.text, many) refl in
    (ap (λ z. z.number) y, ap (λ z. z.lent.0) y, ap (λ z. z.lent.1) y)
  where
    le_refl : (n : ℕ) → n ≤ n
    le_refl n = omega arith

    even-bytes : (ws : List ℕ) → odd_length (bytes_in ws) ≡ false
    even-bytes ws = rw (bytes-length ws, eq-eqb (length ws * 2 % 2) 0 (omega arith)) refl

-- WORDS LENT PAST THOSE TAKEN ARE IGNORED
pub text-ignores : (b v t a t' a' : List ℕ) (k : ℕ) (t'' a'' : List ℕ) → told 0 (t', a') ≡ write_call b t a → odd_length v ≡ false → take (word_at a' 2 * 2) v ≡ take (word_at a' 2 * 2) b
    → told k (t'', a'') ≡ write_call v t a → (k ≡ 0) × (t'' ≡ t') × (a'' ≡ a')
text-ignores b v t a t' a' k t'' a'' e even f d =
    let w = wrote b t a t' a' e in
    let m = w.many in
    let l = lined (words_in b) t w.long m t' w.line in
    let few : m ≤ 3 = omega (arith, l.many, taken-le (get_or (words_in b) 0 0)) in
    let g : take (m * 2) v ≡ take (m * 2) b = subst (λ (z : ℕ). take (z * 2) v ≡ take (z * 2) b) w.second f in
    let front : take m (words_in v) ≡ take m (words_in b) = same-words b v m few l.room g in
    let h = same-front (words_in b) (words_in v) m l.many l.room front in
    let x = writes_line v t a k t'' a'' w.six even l.wide (rw h.0 h.2) d in
    let y : told {B = List ℕ × List ℕ} k (t'', a'') ≡ told 0 (t', a') = x ∙ rw (h.1, h.0, ← l.long, ← l.left) (ap (λ (z : List ℕ). told 0 (t', z)) (sym w.answer)) in
    (ap (λ z. z.number) y, ap (λ z. z.lent.0) y, ap (λ z. z.lent.1) y)
