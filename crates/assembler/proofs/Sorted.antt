-- Laws of insertion, and of the section that is written.
use mathlib.Core.Path.{◌≡◌, refl, ap, sym, ◌∙◌}
use mathlib.Core.List.{List, [], ◌∷◌, ◌++◌}
use Prim.Native.Nat.{ℕ, suc, ◌+◌, ◌*◌, ◌≤◌, ◌<◌}
use native.Mathlib.Numerals.{add-one}
use native.Mathlib.Omega.{arith}
use borrow.Author.Tests.{lt-ltb, le-ltb}
use lib.ListN.{length, take, drop, get_or, set, length-take}
use lib.Seq.{take-suc-set, take-set-lt, drop-set-lt, drop-cons, get_or-take, append_snoc, take-suc, length-take-le, drop-length}
use Rattle.wordmath.specs.Address.{plus}
use Rattle.optext.specs.declared.Op.{Op}
use Rattle.hexdigits.specs.Over.{Wrote, WroteAt}
use Rattle.hexdigits.proofs.Laws.Laid.{then}
use Rattle.patchline.proofs.Laws.Joined.{then_at, none-at}
use Rattle.assembler.specs.Source.{text_at, here_of, line_op}
use Rattle.assembler.specs.Section.{lower_of, higher_of, inserted, section_entry, entered, words_placed, pair, entry_bytes, section_bytes, section_of, Inserts, Enters}
use Rattle.assembler.proofs.Laws.Section.{flat-length}

-- the loop of an insertion: the places before i are done, the carried entry goes into those from i on
pub insert-none : (t : List ℕ) (n x : ℕ) → take 0 t ++ inserted x (drop 0 (take n t)) ≡ inserted x (take n t)
insert-none t n x = refl

module _ (t w : List ℕ) (n i x : ℕ) (l : i < n) (m : n ≤ length t) where
  pub insert-more : (y low high : ℕ) → y ≡ get_or t i 0 → low ≡ lower_of x y → high ≡ higher_of x y
      → take i t ++ inserted x (drop i (take n t)) ≡ w
      → take (i + 1) (set t i low) ++ inserted high (drop (i + 1) (take n (set t i low))) ≡ w
  unfolding inserted
  insert-more y low high e a b h =
      let k : i < length t = omega arith in
      let j : i < length (take n t) = simp length-take (omega arith) in
      let q : drop i (take n t) ≡ y ∷ drop (suc i) (take n t) = drop-cons (take n t) i 0 j ∙ rw (get_or-take n t i 0 l, e) refl in
      rw (add-one i, take-suc-set t i low k, take-set-lt n t i low l) (rw (drop-set-lt (suc i) (take n t) i low (omega arith), append_snoc) (rw (a, b) (rw q at h)))

pub insert-end : (t w : List ℕ) (n i x : ℕ) → i ≡ n → n < length t → take i t ++ inserted x (drop i (take n t)) ≡ w → take (n + 1) (set t n x) ≡ w
unfolding inserted
insert-end t w n i x e l h =
    let k : length (take n t) ≡ n = length-take-le n t (omega arith) in
    let q : drop n (take n t) ≡ [] = ap (λ (m : ℕ). drop m (take n t)) (sym k) ∙ drop-length (take n t) in
    rw (add-one n, take-suc-set t n x l) (rw (e, q) at h)

-- the words of a line
module _ (o : Op) (h : ℕ) (l : List ℕ) where
  pub entered-0 : o.count < 1 → l ≡ entered o h l
  unfolding entered
  entered-0 c = rw (le-ltb 2 o.count (omega arith), le-ltb 1 o.count (omega arith), le-ltb 0 o.count (omega arith)) refl

  entered-1 : 1 ≤ o.count → o.count < 2 → inserted (section_entry h o.a) l ≡ entered o h l
  unfolding entered
  entered-1 b c = rw (le-ltb 2 o.count (omega arith), le-ltb 1 o.count (omega arith), lt-ltb 0 o.count (omega arith)) refl

  entered-2 : 2 ≤ o.count → o.count < 3 → inserted (section_entry (plus h 2) o.b) (inserted (section_entry h o.a) l) ≡ entered o h l
  unfolding entered
  entered-2 b c = rw (le-ltb 2 o.count (omega arith), lt-ltb 1 o.count (omega arith)) refl

  entered-3 : 3 ≤ o.count
      → inserted (section_entry (plus h 4) o.c) (inserted (section_entry (plus h 2) o.b) (inserted (section_entry h o.a) l)) ≡ entered o h l
  unfolding entered
  entered-3 b = rw (lt-ltb 2 o.count (omega arith)) refl

pub placed-none : (s : List ℕ) → [] ≡ words_placed s 0
unfolding words_placed
placed-none s = refl

pub placed-more : (s : List ℕ) (i h : ℕ) (t : List ℕ) (o : Op) → h ≡ here_of s i → t ≡ text_at s i → o ≡ line_op s h t
    → entered o h (words_placed s i) ≡ words_placed s (i + 1)
unfolding words_placed
placed-more s i h t o a b c = rw (add-one i, c, b, a) refl

-- the section, one entry more
flat_append : (a b : List ℕ) → section_bytes (a ++ b) ≡ section_bytes a ++ section_bytes b
unfolding section_bytes
flat_append [] b = refl
flat_append (e ∷ a) b = rw (flat_append a b) refl

flat-one : (e : ℕ) → section_bytes (e ∷ []) ≡ entry_bytes e
unfolding section_bytes
flat-one e = refl

pub entries_none : (from : ℕ) (t b : List ℕ) → WroteAt from (section_bytes (take 0 t)) b b from
unfolding section_bytes
entries_none from t b = none-at from b

pub entries-more : (t b b1 e : List ℕ) (from i at n x : ℕ) → from ≤ length b → i < length t → x ≡ get_or t i 0 → WroteAt from (section_bytes (take i t)) b b1 at
    → WroteAt at (entry_bytes x) b1 e n → WroteAt from (section_bytes (take (i + 1) t)) b e n
entries-more t b b1 e from i at n x l h q w v =
    rw (add-one i, take-suc t i 0 h, ← q, flat_append, flat-one) (then_at _ _ _ _ _ _ _ _ l w v)

pub section-is : (t b b1 e : List ℕ) (n at k : ℕ) → n ≤ length t → Wrote (pair n) b b1 at → WroteAt at (section_bytes (take n t)) b1 e k → Wrote (section_of (take n t)) b e k
unfolding section_of
section-is t b b1 e n at k h w v = rw (length-take-le n t h) (then _ _ _ _ _ _ _ w v)

pub section-few : (n : ℕ) (t : List ℕ) → length (section_of (take n t)) ≤ 2 + 4 * n
unfolding section_of
section-few n t =
    let h : length (take n t) ≤ n = simp length-take (omega arith) in
    let k = flat-length (take n t) in
    omega arith

-- the code of a line's words
module _ (t t1 t2 t3 : List ℕ) (n m k r h e1 e2 e3 p2 p4 : ℕ) (o : Op) where
  pub enters-1 : Inserts t t1 n e1 m → e1 ≡ section_entry h o.a → 1 ≤ o.count → o.count < 2 → Enters t t1 n o h m
  enters-1 i a b c = record {
    entries = i.entries ∙ rw a (entered-1 o h (take n t) b c);
    count = omega (arith, i.count);
    size = i.size;
  }

  pub enters-2 : Inserts t t1 n e1 m → e1 ≡ section_entry h o.a → Inserts t1 t2 m e2 k → e2 ≡ section_entry p2 o.b → p2 ≡ plus h 2
      → 2 ≤ o.count → o.count < 3 → Enters t t2 n o h k
  enters-2 i a j d p b c = record {
    entries = j.entries ∙ rw (i.entries, d, p, a) (entered-2 o h (take n t) b c);
    count = omega (arith, i.count, j.count);
    size = j.size;
  }

  pub enters-3 : Inserts t t1 n e1 m → e1 ≡ section_entry h o.a → Inserts t1 t2 m e2 k → e2 ≡ section_entry p2 o.b → p2 ≡ plus h 2
      → Inserts t2 t3 k e3 r → e3 ≡ section_entry p4 o.c → p4 ≡ plus h 4 → 3 ≤ o.count → Enters t t3 n o h r
  enters-3 i a j d p l f q b = record {
    entries = l.entries ∙ rw (j.entries, i.entries, f, q, d, p, a) (entered-3 o h (take n t) b);
    count = omega (arith, i.count, j.count, l.count);
    size = l.size;
  }
