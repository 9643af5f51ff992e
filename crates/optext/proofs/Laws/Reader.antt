-- Theorems of the reader as a function: it undoes the writer, and is what the reader answers.
use Rattle.std.proofs.Common.{◌≡◌, ℕ, zero, suc, ◌+◌, ◌*◌, ◌/◌, ◌%◌, ◌^◌, ◌<◌, ◌≤◌, Bool, true, false, cond, T, eqb, ltb, ◌⊎◌, List, [], ◌∷◌, ◌++◌, length, get_or, take, drop, sym, refl, ap, ◌∙◌, subst, inl, inr, ⊎_elim, arith, eqb→eq, length-append, ltb-true}
use borrow.Author.Tests.{eqb-false}
use lib.ListN.{get_or-append}
use Rattle.hexdigits.specs.Digits.{letters, hex4}
use Rattle.optext.specs.Digits.{un_hex4}
use Rattle.optext.specs.Rows.{word_row, row_count, rows, the_row, name_of, first_of, second_of}
use Rattle.optext.specs.Line.{row_of, takes, taken, sep_text, op_text, text_of, word_text}
use Rattle.refusal.specs.Page.{answered}
use Rattle.optext.specs.Column.{Whole, IsText}
use Rattle.optext.specs.Words.{Reads}
use Rattle.optext.specs.Read.{same_text, op_code, found_below, words_of_text}
use Rattle.optext.proofs.Laws.Read.{same_refl, same-eq}
use Rattle.optext.proofs.Laws.Choose.{no, eq-cases, at}
use Rattle.optext.proofs.Laws.Back.{hex4-back}
use Rattle.optext.proofs.Laws.Reserved.{row_lt}
use Rattle.optext.proofs.Laws.Meets.{taken-le, three}
use Rattle.optext.proofs.Laws.Theorems.{take-three, words-of, one-text}
use Rattle.optext.proofs.Laws.Calls.{some-taken, whole_take}

-- ---- the op codes by their numbers

whole_code : (n : ℕ) → n < 2 ^ 48 → Whole (op_code n)
unfolding op_code
whole_code n h =
    whole_take (n / 2 ^ 32 ∷ n / 2 ^ 16 % 2 ^ 16 ∷ n % 2 ^ 16 ∷ []) (taken (n / 2 ^ 32)) (three (n / 2 ^ 32) (n / 2 ^ 16 % 2 ^ 16) (n % 2 ^ 16) (omega arith) (omega arith) (omega arith)) refl
    (taken-le (n / 2 ^ 32))

-- every op code has a number
abbrev number_of : ℕ → ℕ → ℕ → ℕ
number_of w x y = (w * 2 ^ 16 + x) * 2 ^ 16 + y

number-parts : (w x y : ℕ) → w < 65536 → x < 65536 → y < 65536
    → (number_of w x y / 2 ^ 32 ≡ w) × (number_of w x y / 2 ^ 16 % 2 ^ 16 ≡ x) × (number_of w x y % 2 ^ 16 ≡ y) × (number_of w x y < 2 ^ 48)
number-parts w x y a b c =
    let q : number_of w x y / 2 ^ 16 ≡ w * 2 ^ 16 + x = omega arith in
    (omega arith, rw q (omega arith), omega arith, omega arith)

code_of : (vs : List ℕ) → Whole vs → op_code (number_of (get_or vs 0 0) (get_or vs 1 0) (get_or vs 2 0)) ≡ vs
unfolding op_code
code_of vs h =
    let n = number-parts (get_or vs 0 0) (get_or vs 1 0) (get_or vs 2 0) (h.words 0) (h.words 1) (h.words 2) in
    let l = taken-le (get_or vs 0 0) in
    let k = h.count in
    rw (n.0, n.1, n.2, ← h.count) (take-three vs (omega arith))

found_some : (n m : ℕ) (t : List ℕ) → m < n → n ≤ 2 ^ 48 → text_of (op_code m) ≡ t → 0 < length (found_below n t)
unfolding found_below
found_some zero m t l h e = absurd (omega arith)
found_some (suc n) m t l h e = go (λ k. found_some n m t k (omega arith) e) (same_text (text_of (op_code n)) t) refl
  where
    go : (m < n → 0 < length (found_below n t)) → (b : Bool) → same_text (text_of (op_code n)) t ≡ b → 0 < length (cond b (op_code n) (found_below n t))
    go r true q = let c = (whole_code n (omega arith)).count in let s = some-taken (get_or (op_code n) 0 0) in omega arith
    go r false q =
        ⊎_elim (λ p. absurd (no (sym (ap (λ (s : List ℕ). same_text s t) (subst (λ (k : ℕ). text_of (op_code k) ≡ t) p e) ∙ same_refl t) ∙ q))) (λ p. r (omega arith)) (eq-cases m n)

found-is : (n : ℕ) (t : List ℕ) → n ≤ 2 ^ 48 → 0 < length (found_below n t) → Whole (found_below n t) × (text_of (found_below n t) ≡ t)
unfolding found_below
found-is zero t h l = absurd (omega arith)
found-is (suc n) t h l = go (λ k. found-is n t (omega arith) k) (same_text (text_of (op_code n)) t) refl l
  where
    go : (0 < length (found_below n t) → Whole (found_below n t) × (text_of (found_below n t) ≡ t)) → (b : Bool) → same_text (text_of (op_code n)) t ≡ b
        → 0 < length (cond b (op_code n) (found_below n t)) → Whole (cond b (op_code n) (found_below n t)) × (text_of (cond b (op_code n) (found_below n t)) ≡ t)
    go r true q l = (whole_code n (omega arith), same-eq _ t q)
    go r false q l = r l

-- a text that gives words is theirs
pub read-of-words : (t : List ℕ) → 0 < length (words_of_text t) → Whole (words_of_text t) × (text_of (words_of_text t) ≡ t)
unfolding words_of_text
read-of-words t h = found-is (2 ^ 48) t (omega arith) h

-- THE TEXT OF AN OP CODE GIVES ITS WORDS
pub read-of-text : (vs : List ℕ) → Whole vs → words_of_text (text_of vs) ≡ vs
unfolding words_of_text
read-of-text vs h =
    let n = number-parts (get_or vs 0 0) (get_or vs 1 0) (get_or vs 2 0) (h.words 0) (h.words 1) (h.words 2) in
    let z = found-is (2 ^ 48) (text_of vs) (omega arith) (found_some (2 ^ 48) _ (text_of vs) n.3 (omega arith) (ap text_of (code_of vs h))) in
    one-text (found_below (2 ^ 48) (text_of vs)) vs z.0 h z.1

-- the reader answers these words, and a refusal where there are none
pub read-answers : (t ws e : List ℕ) (n : ℕ) → Reads (answered n) t ws e → words_of_text t ≡ take n e
read-answers t ws e n p = ap words_of_text (sym p.text) ∙ read-of-text (take n e) p.whole

pub read-refuses : (t : List ℕ) → (IsText t → ⊥) → words_of_text t ≡ []
read-refuses t d = go (words_of_text t) refl
  where
    go : (l : List ℕ) → words_of_text t ≡ l → words_of_text t ≡ []
    go [] e = e
    go (x ∷ l) e =
        let k : length (words_of_text t) ≡ suc (length l) = ap length e in
        let z = read-of-words t (omega arith) in
        absurd (d (record { words = words_of_text t; whole = z.0; text = z.1 }))

-- ---- .WORD and .ORG before four digits

-- a mnemonic has a first letter, and only .WORD's is a point
dotted : ℕ → Bool
dotted k = cond (ltb 0 (length (name_of k))) (cond (eqb (get_or (name_of k) 0 0) 46) (eqb k word_row) true) false

dot-row : (k : ℕ) → k < row_count → (0 < length (name_of k)) × (get_or (name_of k) 0 0 ≡ 46 → k ≡ word_row)
unfolding dotted the_row rows
dot-row k h = go (ltb 0 (length (name_of k))) refl (eqb (get_or (name_of k) 0 0) 46) refl (at dotted row_count tt k h)
  where
    go : (a : Bool) → ltb 0 (length (name_of k)) ≡ a → (b : Bool) → eqb (get_or (name_of k) 0 0) 46 ≡ b → T (cond a (cond b (eqb k word_row) true) false)
        → (0 < length (name_of k)) × (get_or (name_of k) 0 0 ≡ 46 → k ≡ word_row)
    go true p true q t = (ltb-true _ _ p, λ e. eqb→eq k word_row t)
    go true p false q t = (ltb-true _ _ p, λ e. absurd (eqb-false _ 46 q e))
    go false p b q t = absurd t

first-letter : (w x y : ℕ) → get_or (op_text w x y) 0 0 ≡ get_or (name_of (row_of w)) 0 0
unfolding op_text
first-letter w x y =
    let h = (dot-row (row_of w) (row_lt w)).0 in
    get_or-append (name_of (row_of w) ++ sep_text 32 (first_of (row_of w)) w x) (sep_text 44 (second_of (row_of w)) w y) 0 0 (simp length-append (omega arith))
    ∙ get_or-append (name_of (row_of w)) (sep_text 32 (first_of (row_of w)) w x) 0 0 h

word-text : (w x y : ℕ) → row_of w ≡ word_row → op_text w x y ≡ letters ".WORD " ++ hex4 w
unfolding op_text sep_text the_row rows hex4
word-text w x y e = rw e refl

none-taken : (w : ℕ) → 1 + takes (first_of word_row) w + takes (second_of word_row) w ≡ 1
unfolding the_row rows
none-taken w = refl

-- words whose text begins with a point are one word, after .WORD
pointed : (vs : List ℕ) → Whole vs → get_or (text_of vs) 0 0 ≡ 46 → (vs ≡ get_or vs 0 0 ∷ []) × (text_of vs ≡ letters ".WORD " ++ hex4 (get_or vs 0 0))
unfolding text_of taken
pointed vs h e =
    let w : ℕ = get_or vs 0 0 in
    let k : row_of w ≡ word_row = (dot-row (row_of w) (row_lt w)).1 (sym (first-letter w _ _) ∙ e) in
    (sym (words-of 1 vs (h.count ∙ alone w k) (omega arith)), word-text w _ _ k)
  where
    alone : (w : ℕ) → row_of w ≡ word_row → 1 + takes (first_of (row_of w)) w + takes (second_of (row_of w)) w ≡ 1
    alone w k = rw k (none-taken w)

same_digits : (v w : ℕ) → v < 65536 → w < 65536 → letters ".WORD " ++ hex4 v ≡ letters ".WORD " ++ hex4 w → v ≡ w
same_digits v w lv lw e =
    let d : hex4 v ++ [] ≡ hex4 w ++ [] = ap (λ (l : List ℕ). drop 6 l ++ []) e in
    sym (hex4-back v [] lv) ∙ ap un_hex4 d ∙ hex4-back w [] lw

-- .WORD of any word is no text, or its own word's
pub read_word : (w : ℕ) → w < 65536 → (words_of_text (letters ".WORD " ++ hex4 w) ≡ []) ⊎ (words_of_text (letters ".WORD " ++ hex4 w) ≡ w ∷ [])
read_word w h = go (words_of_text t) refl
  where
    t : List ℕ
    t = letters ".WORD " ++ hex4 w

    go : (l : List ℕ) → words_of_text t ≡ l → (words_of_text t ≡ []) ⊎ (words_of_text t ≡ w ∷ [])
    go [] e = inl e
    go (x ∷ l) e =
        let k : length (words_of_text t) ≡ suc (length l) = ap length e in
        let z = read-of-words t (omega arith) in
        let p = pointed (words_of_text t) z.0 (ap (λ (s : List ℕ). get_or s 0 0) z.1) in
        let q : get_or (words_of_text t) 0 0 ≡ w = same_digits _ w (z.0.words 0) h (sym p.1 ∙ z.1) in
        inr (p.0 ∙ ap (λ (v : ℕ). v ∷ []) q)

-- .ORG is none
pub read-origin : (a : ℕ) → words_of_text (letters ".ORG " ++ hex4 a) ≡ []
read-origin a = read-refuses t (λ i. no-letter (other i))
  where
    t : List ℕ
    t = letters ".ORG " ++ hex4 a

    other : (i : IsText t) → get_or (letters ".WORD " ++ hex4 (get_or i.words 0 0)) 1 0 ≡ get_or t 1 0
    other i =
        let p = pointed i.words i.whole (ap (λ (s : List ℕ). get_or s 0 0) i.text) in
        ap (λ (s : List ℕ). get_or s 1 0) (sym p.1 ∙ i.text)

    no-letter : ◌≡◌ {A = ℕ} 87 79 → ⊥
    no-letter e = omega (arith, e)

-- no characters are no text
text-some : (w x y : ℕ) → 0 < length (op_text w x y)
unfolding op_text
text-some w x y = let h = (dot-row (row_of w) (row_lt w)).0 in simp length-append (omega arith)

some-text : (vs : List ℕ) → 0 < length (text_of vs)
unfolding text_of
some-text vs = text-some _ _ _

pub read-nothing : words_of_text [] ≡ []
read-nothing = read-refuses [] (λ i. let l = some-text i.words in let e = ap length i.text in omega arith)

-- the writer's.WORD of any word is the name and four digits
pub any-word-text : (w : ℕ) → word_text w ≡ letters ".WORD " ++ hex4 w
unfolding word_text sep_text the_row rows hex4
any-word-text w = refl
