-- Two memories that agree on fitted bytes: the same work comes to the same.
use Prim.Native.Nat.{ℕ, zero, suc, ◌+◌, ◌/◌, ◌%◌, ◌<◌}
use native.Mathlib.Omega.{arith}
use native.Mathlib.Decide.{ℕ_discrete, dec_lt}
use mathlib.Core.Path.{◌≡◌, refl, sym, ap, ◌∙◌, subst}
use mathlib.Core.Bool.{Bool, true, false, not, true≢false}
use mathlib.Core.List.{List}
use lib.ListN.{get_or, set, length, length-set}
use lib.Seq.{get_or-set_same, get_or-set_other, set_out}
use lib.Dec.{eqb}
use borrow.Author.Tests.{ne_eqb}
use Rattle.board.specs.Work.{Work, give, read_at, write_at, Size, word, byte, Came, value, fitted, writable, even, image_word, with_word, with_byte, get, put, found, run, blank, Agree}
use Rattle.board.proofs.Laws.{size-put}

-- both blank at the same address, or the same value over images that agree
pub data Alike {A : Type 0} (map : List ℕ) : Came A → Came A → Type 0 where
  both : {x : A} {m n : List ℕ} → length m ≡ length n → Agree map m n → Alike map (value x m) (value x n)
  neither : {a : ℕ} → Alike map (blank a) (blank a)

even-page : (a : ℕ) → even a / 256 ≡ a / 256
unfolding even
even-page a = omega arith

odd-page : (a : ℕ) → (even a + 1) / 256 ≡ a / 256
unfolding even
odd-page a = omega arith

fitted-even : (map : List ℕ) (a : ℕ) → fitted map (even a) ≡ fitted map a
unfolding fitted
fitted-even map a = ap (λ (p : ℕ). not (eqb (get_or map p 0) 0)) (even-page a)

fitted-odd : (map : List ℕ) (a : ℕ) → fitted map (even a + 1) ≡ fitted map a
unfolding fitted
fitted-odd map a = ap (λ (p : ℕ). not (eqb (get_or map p 0) 0)) (odd-page a)

word_same : (map m n : List ℕ) (a : ℕ) → Agree map m n → fitted map a ≡ true → image_word m a ≡ image_word n a
unfolding image_word
word_same map m n a g h =
    let lo : get_or m (even a) 0 ≡ get_or n (even a) 0 = g (even a) (fitted-even map a ∙ h) in
    let hi : get_or m (even a + 1) 0 ≡ get_or n (even a + 1) 0 = g (even a + 1) (fitted-odd map a ∙ h) in
    cc

pub set-agree : (map m n : List ℕ) (i v : ℕ) → length m ≡ length n → Agree map m n → Agree map (set m i v) (set n i v)
set-agree map m n i v l g a h = elim (ℕ_discrete a i) [ yes e ↦ here e (dec_lt i (length m)) | no d ↦ get_or-set_other m i a v 0 d ∙ g a h ∙ sym (get_or-set_other n i a v 0 d) ]
  where
    here : a ≡ i → Dec (i < length m) → get_or (set m i v) a 0 ≡ get_or (set n i v) a 0
    here e (yes k) = rw e (get_or-set_same m i v 0 k ∙ sym (get_or-set_same n i v 0 (subst (λ (z : ℕ). i < z) l k)))
    here e (no k) =
        rw (set_out m i v (omega arith), set_out n i v (omega arith)) (g a h)

word-agree : (map m n : List ℕ) (a v : ℕ) → length m ≡ length n → Agree map m n → Agree map (with_word m a v) (with_word n a v)
unfolding with_word
word-agree map m n a v l g =
    let lo = v % 256 in
    let hi = v / 256 % 256 in
    set-agree map (set m (even a) lo) (set n (even a) lo) (even a + 1) hi (length-set m (even a) lo ∙ l ∙ sym (length-set n (even a) lo)) (set-agree map m n (even a) lo l g)

get-same : (map m n : List ℕ) (z : Size) (a : ℕ) → Agree map m n → fitted map a ≡ true → get z m a ≡ get z n a
get-same map m n word a g h = word_same map m n a g h
get-same map m n byte a g h = g a h

put-agree : (map m n : List ℕ) (z : Size) (a v : ℕ) → length m ≡ length n → Agree map m n → Agree map (put z m a v) (put z n a v)
unfolding with_byte
put-agree map m n word a v l g = word-agree map m n a v l g
put-agree map m n byte a v l g = set-agree map m n a (v % 256) l g

found_alike : {A : Type 0} (map : List ℕ) (b : Bool) (a : ℕ) (x y : Came A) → (b ≡ true → Alike map x y) → Alike map (found b a x) (found b a y)
found_alike map true a x y h = h refl
found_alike map false a x y h = neither

pub alike : {A : Type 0} (map : List ℕ) (w : Work A) (m n : List ℕ) → length m ≡ length n → Agree map m n → Alike map (run map w m) (run map w n)
unfolding run
alike map (give x) m n l g = both l g
alike map (read_at z a k) m n l g =
    found_alike map (fitted map a) a _ _ λ e.
    rw (get-same map m n z a g e) (alike map (k (get z n a)) m n l g)
alike map (write_at z a v w) m n l g =
    found_alike map (writable map a) a _ _ λ e.
    alike map w (put z m a v) (put z n a v) (size-put z m a v ∙ l ∙ sym (size-put z n a v)) (put-agree map m n z a v l g)

-- ---- a byte that can't be written, on an unfitted or a read-only page, stays as it was

writable-even : (map : List ℕ) (a : ℕ) → writable map (even a) ≡ writable map a
unfolding writable
writable-even map a = ap (λ (p : ℕ). eqb (get_or map p 0) 1) (even-page a)

writable-odd : (map : List ℕ) (a : ℕ) → writable map (even a + 1) ≡ writable map a
unfolding writable
writable-odd map a = ap (λ (p : ℕ). eqb (get_or map p 0) 1) (odd-page a)

set-kept : (map m : List ℕ) (i v a : ℕ) → writable map i ≡ true → writable map a ≡ false → get_or (set m i v) a 0 ≡ get_or m a 0
set-kept map m i v a h e = get_or-set_other m i a v 0 (λ d. true≢false (sym h ∙ ap (writable map) (sym d) ∙ e))

put-kept : (map m : List ℕ) (z : Size) (b v a : ℕ) → writable map b ≡ true → writable map a ≡ false → get_or (put z m b v) a 0 ≡ get_or m a 0
unfolding with_word with_byte
put-kept map m word b v a h e =
    set-kept map (set m (even b) (v % 256)) (even b + 1) (v / 256 % 256) a (writable-odd map b ∙ h) e
    ∙ set-kept map m (even b) (v % 256) a (writable-even map b ∙ h) e
put-kept map m byte b v a h e = set-kept map m b (v % 256) a h e

pub found-value : {A : Type 0} (b : Bool) (a : ℕ) (y : Came A) (x : A) (n : List ℕ) → found b a y ≡ value x n → (b ≡ true) × (y ≡ value x n)
found-value true a y x n e = (refl, e)
found-value false a y x n e = let z : ◌≡◌ {A = ℕ} 0 1 = cc in absurd (omega arith)

-- work that came to a value left every byte that can't be written as it was
pub kept : {A : Type 0} (map : List ℕ) (w : Work A) (m : List ℕ) (x : A) (n : List ℕ) → run map w m ≡ value x n → (a : ℕ) → writable map a ≡ false → get_or n a 0 ≡ get_or m a 0
unfolding run
kept map (give y) m x n h a e = let same : m ≡ n = cc in rw same
kept map (read_at z b k) m x n h a e =
    kept map (k (get z m b)) m x n (found-value (fitted map b) b (run map (k (get z m b)) m) x n h).1 a e
kept map (write_at z b v w) m x n h a e =
    let f = found-value (writable map b) b (run map w (put z m b v)) x n h in
    kept map w (put z m b v) x n f.1 a e ∙ put-kept map m z b v a f.0 e

-- ---- an unfitted page can't be written

unwritten-page : (p : ℕ) → not (eqb p 0) ≡ false → eqb p 1 ≡ false
unwritten-page zero e = refl
unwritten-page (suc p) e = absurd (true≢false (rw (ne_eqb (suc p) 0 (λ z. omega arith)) at e))

pub unfitted-unwritable : (map : List ℕ) (a : ℕ) → fitted map a ≡ false → writable map a ≡ false
unfolding fitted writable
unfitted-unwritable map a e = unwritten-page (get_or map (a / 256) 0) e
