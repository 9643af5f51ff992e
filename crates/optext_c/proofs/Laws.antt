-- From the code's facts to what the exported calls leave.
pub mod Once
pub mod Trip
use Prim.Native.Nat.{ℕ, ◌/◌, ◌%◌, ◌≤◌, ◌<◌}
use mathlib.Core.List.{List, [], ◌∷◌}
use mathlib.Core.Path.{◌≡◌, refl, sym, ap, ◌∙◌, subst}
use native.Mathlib.Omega.{arith}
use lib.ListN.{length, take, get_or, length-take}
use lib.Seq.{sets, length-take-le}
use borrow.Author.Tests.{eq-eqb, ne_eqb, lt-ltb, le-ltb}
use Rattle.hexdigits.specs.Over.{in_front_of}
use Rattle.hexdigits.proofs.Laws.Laid.{over-sets}
use Rattle.wordbytes.specs.Words.{word_at, low, high, bytes_in}
use Rattle.refusal.specs.Numbers.{words_odd, output_short}
use Rattle.refusal.specs.Page.{Page, refused, refused_at, answered, left, Told, told}
use Rattle.refusal.proofs.Laws.Page.{first_some}
use Rattle.answer.specs.Answer.{three_words, answer_why, place_words, answering}
use Rattle.answer.proofs.Laws.{bad}
use Rattle.optext.specs.declared.Written.{Written}
use Rattle.optext.specs.declared.WriteRefusal.{WriteRefusal}
use Rattle.std.proofs.Common.{Result, Ok, Err}
use Rattle.optext.specs.declared.ReadRefusal.{ReadRefusal}
use Rattle.optext.specs.declared.ReadRefusal.TheVariants.{WordsShort}
use Rattle.optext.specs.Line.{taken}
use Rattle.optext.specs.Answer.{line, written_page, write_of, Writes, read_page}
use Rattle.optext.specs.Words.{Accepts, RefusedText, Reads}
use Rattle.optext.proofs.Laws.Theorems.{words-of}
use Rattle.optext.proofs.Laws.Calls.{lined}
use Rattle.optext_c.specs.Calls.{lent, words_in, lent_why, text_words, write_call, words_read, ReadCall}

-- ---- the words that are lent

pub lent-small : (n : ℕ) → n < 3 → n ≡ lent n
lent-small n h = rw (lt-ltb n 3 h) refl

pub lent-large : (n : ℕ) → 3 ≤ n → 3 ≡ lent n
lent-large n h = rw (le-ltb n 3 h) refl

pub given-words : (b : List ℕ) (n w x y : ℕ) → n ≡ lent (length b / 2) → w ≡ word_at b 0 → x ≡ word_at b 2 → y ≡ word_at b 4 → take n (w ∷ x ∷ y ∷ []) ≡ words_in b
unfolding words_in
given-words b n w x y q p r s = rw (q, p, r, s) refl

-- ---- writing

-- the answer's numbers are small
pub line_small : (ws b e : List ℕ) (r : Result Written WriteRefusal) (n m : ℕ) → Writes ws b r e → r ≡ line n m → (n < 65536) × (m < 65536)
line_small ws b e r n m w d =
    let l = lined ws b n m e (ap (λ z. left (written_page z) e) (sym d) ∙ w.met) in
    (omega (arith, l.long, w.short), omega (arith, l.many, w.few))

-- 21, and 38
module _ (a b : List ℕ) where
  lent-21 : (n : ℕ) → n ≡ answer_why a → (n ≡ 0 → ⊥) → n ≡ lent_why a b
  unfolding lent_why
  lent-21 n h some = h ∙ first_some (answer_why a) _ (λ z. some (h ∙ z))

  lent-38 : answer_why a ≡ 0 → (length b % 2 ≡ 0 → ⊥) → words_odd ≡ lent_why a b
  unfolding lent_why
  lent-38 h k = rw (h, ne_eqb (length b % 2) 0 k) refl

  lent_none : answer_why a ≡ 0 → length b % 2 ≡ 0 → lent_why a b ≡ 0
  unfolding lent_why
  lent_none h k = rw (h, eq-eqb (length b % 2) 0 k) refl

odd-some : words_odd ≡ 0 → ⊥
odd-some e = omega (arith, e)

module _ (b t a : List ℕ) where
  lent-bad : (n : ℕ) → n ≡ lent_why a b → (n ≡ 0 → ⊥) → told n (t, a) ≡ write_call b t a
  unfolding write_call
  lent-bad n h some = bad (λ p o. (o, text_words p)) (λ column o. (o, place_words column)) (λ o. (o, a)) (lent_why a b) n (write_of (words_in b) t) t h some

  pub write-21 : (n : ℕ) → n ≡ answer_why a → (n ≡ 0 → ⊥) → told n (t, a) ≡ write_call b t a
  write-21 n h some = lent-bad n (lent-21 a b n h some) some

  pub write-38 : answer_why a ≡ 0 → (length b % 2 ≡ 0 → ⊥) → told words_odd (t, a) ≡ write_call b t a
  write-38 h k = lent-bad words_odd (lent-38 a b h k) odd-some

  pub written : (ws e : List ℕ) (r r' : Result Written WriteRefusal) → answer_why a ≡ 0 → length b % 2 ≡ 0 → ws ≡ words_in b → Writes ws t r e → r ≡ r' → answering text_words a (left (written_page r') e) ≡ write_call b t a
  unfolding write_call
  written ws e r r' h k q w d = rw (lent_none a b h k, ← q, ← w.met, ← d) refl

  pub written-line : (ws e a' : List ℕ) (r : Result Written WriteRefusal) (n m : ℕ) → answer_why a ≡ 0 → length b % 2 ≡ 0 → ws ≡ words_in b → Writes ws t r e → r ≡ line n m
      → a' ≡ three_words n m 0 → told 0 (e, a') ≡ write_call b t a
  written-line ws e a' r n m h k q w d z = rw z (written ws e r (line n m) h k q w d)

-- ---- reading

-- the first n of three words, stored byte by byte
module _ (b : List ℕ) (n w x y : ℕ) (h : 6 ≤ length b) where
  pub put_1 : n ≡ 1 → {l u : ℕ} → l ≡ low w → u ≡ high w → sets b 0 (l ∷ u ∷ []) ≡ in_front_of (bytes_in (take n (w ∷ x ∷ y ∷ []))) b
  put_1 q e f = rw (q, e, f) (over-sets (low w ∷ high w ∷ []) b (omega arith))

  pub put_2 : n ≡ 2 → {l u l' u' : ℕ} → l ≡ low w → u ≡ high w → l' ≡ low x → u' ≡ high x → sets b 0 (l ∷ u ∷ l' ∷ u' ∷ []) ≡ in_front_of (bytes_in (take n (w ∷ x ∷ y ∷ []))) b
  put_2 q e f e' f' = rw (q, e, f, e', f') (over-sets (low w ∷ high w ∷ low x ∷ high x ∷ []) b (omega arith))

  pub put_3 : n ≡ 3 → {l u l' u' l'' u'' : ℕ} → l ≡ low w → u ≡ high w → l' ≡ low x → u' ≡ high x → l'' ≡ low y → u'' ≡ high y
      → sets b 0 (l ∷ u ∷ l' ∷ u' ∷ l'' ∷ u'' ∷ []) ≡ in_front_of (bytes_in (take n (w ∷ x ∷ y ∷ []))) b
  put_3 q e f e' f' e'' f'' = rw (q, e, f, e', f', e'', f'') (over-sets (low w ∷ high w ∷ low x ∷ high x ∷ low y ∷ high y ∷ []) b (omega arith))

-- an op code has one to three words
count-some : (t ws e : List ℕ) (n : ℕ) → Accepts t ws e n → 1 ≤ n
unfolding taken
count-some t ws e n p = omega (arith, p.count, p.whole.count)

take-few : (n : ℕ) (l : List ℕ) → n ≡ length (take n l) → n ≤ length l
take-few n l e = omega (arith, e, length-take n l)

pub count_small : (t ws e : List ℕ) (r : Result ℕ ReadRefusal) (n : ℕ) → Reads (read_page r) t ws e → r ≡ Ok n → length e ≡ 3 → (1 ≤ n) × (n ≤ 3)
count_small t ws e r n p d l =
    let q : Accepts t ws e n = subst (λ (z : Result ℕ ReadRefusal). Reads (read_page z) t ws e) d p in
    (count-some t ws e n q, omega (arith, take-few n e q.count, l))

pub column-small : (t ws e : List ℕ) (r r' : Result ℕ ReadRefusal) (n c : ℕ) → Reads (read_page r) t ws e → r ≡ r' → read_page r' ≡ refused_at n c → c < 65536
column-small t ws e r r' n c p d q =
    let s : RefusedText n c t ws e = subst (λ (z : Page ℕ). Reads z t ws e) (ap read_page d ∙ q) p in
    omega (arith, s.short)

module _ (t b a : List ℕ) where
  -- refused for what is lent, whatever the reader would say
  lent-read : (n : ℕ) → n ≡ lent_why a b → (n ≡ 0 → ⊥) → ReadCall t b a (told n (b, a))
  lent-read n h some = record {
    page = answered 0;
    words = [];
    reads = λ z. absurd (some (h ∙ z));
    leaves = bad (λ n e. (in_front_of (bytes_in (take n e)) b, three_words n 0 0)) (λ column e. (b, place_words column)) (λ e. (b, a)) (lent_why a b) n (left (answered 0) []) (words_in b) h some;
  }

  pub read-21 : (n : ℕ) → n ≡ answer_why a → (n ≡ 0 → ⊥) → ReadCall t b a (told n (b, a))
  read-21 n h some = lent-read n (lent-21 a b n h some) some

  pub read-38 : answer_why a ≡ 0 → (length b % 2 ≡ 0 → ⊥) → ReadCall t b a (told words_odd (b, a))
  read-38 h k = lent-read words_odd (lent-38 a b h k) odd-some

  read-with : (p : Page ℕ) (e : List ℕ) (x : Told (List ℕ × List ℕ)) → answer_why a ≡ 0 → length b % 2 ≡ 0 → Reads p t (words_in b) e → x ≡ words_read b a (left p e) → ReadCall t b a x
  read-with p e x h k q l = record { page = p; words = e; reads = λ z. q; leaves = rw (lent_none a b h k) l }

  words-short : length b < 6 → length (words_in b) < 3
  unfolding words_in
  words-short h =
      let k : length b / 2 < 3 = omega arith in
      rw (lt-ltb (length b / 2) 3 k, length-take-le (length b / 2) (word_at b 0 ∷ word_at b 2 ∷ word_at b 4 ∷ []) (omega arith)) k

  pub read-10 : answer_why a ≡ 0 → length b % 2 ≡ 0 → length b < 6 → ReadCall t b a (told output_short (b, a))
  read-10 h k l = read-with (refused output_short) (words_in b) (told output_short (b, a)) h k (refl, record { room = words-short l; same = refl }) refl

  -- the three words that the reader is lent
  pub given-three : (w x y : ℕ) → 6 ≤ length b → w ≡ word_at b 0 → x ≡ word_at b 2 → y ≡ word_at b 4 → w ∷ x ∷ y ∷ [] ≡ words_in b
  given-three w x y h p q r = given-words b 3 w x y (lent-large (length b / 2) (omega arith)) p q r

  -- what it answers is what is left
  pub read_done : (ws e b' a' : List ℕ) (r : Result ℕ ReadRefusal) (n : ℕ) → answer_why a ≡ 0 → length b % 2 ≡ 0 → ws ≡ words_in b → Reads (read_page r) t ws e → r ≡ Ok n → length e ≡ 3
      → b' ≡ in_front_of (bytes_in (take n (get_or e 0 0 ∷ get_or e 1 0 ∷ get_or e 2 0 ∷ []))) b → a' ≡ three_words n 0 0 → ReadCall t b a (told 0 (b', a'))
  read_done ws e b' a' r n h k q p d l u v =
      read-with (read_page (Ok n)) e (told 0 (b', a')) h k (subst (λ (z : List ℕ). Reads (read_page (Ok n)) t z e) q (subst (λ (z : Result ℕ ReadRefusal). Reads (read_page z) t ws e) d p)) (rw (u, v, words-of 3 e l (omega arith)) refl)

  pub read_short : {A : Type 0} (ws e : List ℕ) (r : Result ℕ ReadRefusal) → Reads (read_page r) t ws e → r ≡ Err WordsShort → length ws ≡ 3 → A
  read_short ws e r p d l = absurd (no_room (subst (λ (z : Result ℕ ReadRefusal). Reads (read_page z) t ws e) d p))
    where
      no_room : Reads (refused output_short) t ws e → ⊥
      no_room q = omega (arith, q.1.room, l)

  pub read-refused : (ws e a' : List ℕ) (r r' : Result ℕ ReadRefusal) (n n' c : ℕ) → answer_why a ≡ 0 → length b % 2 ≡ 0 → ws ≡ words_in b → Reads (read_page r) t ws e → r ≡ r' → read_page r' ≡ refused_at n c
      → (n' ≡ n) × (a' ≡ place_words c) → ReadCall t b a (told n' (b, a'))
  read-refused ws e a' r r' n n' c h k q p d z v =
      read-with (refused_at n c) e (told n' (b, a')) h k (subst (λ (l : List ℕ). Reads (refused_at n c) t l e) q (subst (λ (y : Page ℕ). Reads y t ws e) (ap read_page d ∙ z) p)) (rw (v.0, v.1) refl)
