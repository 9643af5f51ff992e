-- The program's table is the plate, and so are the rows by halves: one test each over all 256 high bytes. The high bytes of format 5.
use Prim.Native.Nat.{ℕ, zero, suc, ◌+◌, ◌-◌, ◌/◌, ◌%◌, ◌<◌, ◌≤◌}
use native.Mathlib.Omega.{arith}
use native.Mathlib.Nat.{add-zero, zero-add, add-suc, suc-add, le_of_suc-le-suc, not-suc-le-zero}
use mathlib.Core.Bool.{Bool, true, false, ◌&&◌, cond}
use mathlib.Core.List.{List, [], ◌∷◌}
use mathlib.Core.Path.{◌≡◌, refl, sym, ap, ◌∙◌}
use lib.Dec.{eqb, leb}
use lib.ListN.{get_or}
use borrow.Author.Tests.{leb-true}
use Rattle.plate.specs.Plate.{format_of}
use Rattle.plate.specs.Inner.{row0, row8}

-- a rule's n entries, from the high byte h on
unfoldable pub plate_entries : (ℕ → ℕ) → ℕ → ℕ → List ℕ
plate_entries f zero h = []
plate_entries f (suc n) h = f h ∷ plate_entries f n (suc h)

entries_at : (f : ℕ → ℕ) (n h k : ℕ) → k < n → get_or (plate_entries f n h) k 0 ≡ f (h + k)
unfolding plate_entries
entries_at f zero h k l = absurd (not-suc-le-zero l)
entries_at f (suc n) h zero l = ap f (sym (add-zero h))
entries_at f (suc n) h (suc k) l = entries_at f n (suc h) k (le_of_suc-le-suc l) ∙ ap f (suc-add h k ∙ sym (add-suc h k))

-- the sheet's plate: the rule at every one of the 256 entries, to which the program's table is held by computation
unfoldable pub plate : List ℕ
plate = plate_entries format_of 256 0

pub plate-right : (h : ℕ) → h < 256 → get_or plate h 0 ≡ format_of h
unfolding plate
plate-right h l = entries_at format_of 256 0 h l ∙ ap format_of (zero-add h)

abbrev pub by_halves : ℕ → ℕ
by_halves h =
    cond (eqb (h / 16) 0) (row0 (h % 16))
    (cond (eqb (h / 16) 7) 9
    (cond (eqb (h / 16) 8) (row8 (h % 16))
    (cond (eqb (h / 16) 15) 11
    10)))

alike : plate_entries (λ h. by_halves h) 256 0 ≡ plate_entries format_of 256 0
unfolding format_of plate_entries
alike = refl

pub halves-right : (h : ℕ) → h < 256 → by_halves h ≡ format_of h
halves-right h l =
    sym (entries_at (λ h. by_halves h) 256 0 h l ∙ ap (λ h. by_halves h) (zero-add h)) ∙ ap (λ t. get_or t h 0) alike ∙ entries_at format_of 256 0 h l ∙ ap format_of (zero-add h)

-- ---- the high bytes of format 5

-- by the plate's rule, case by case
walk : (a b c d e f g h i j k l : Bool)
    → ◌≡◌ {A = ℕ} (cond a 1 (cond b 5 (cond c 5 (cond d 6 (cond e 6 (cond f 6 (cond g 7 (cond h 7 (cond i 8 (cond j 9 (cond k 10 (cond l 10 11)))))))))))) 5
    → cond b true c ≡ true
walk true b c d e f g h i j k l q = absurd (omega arith)
walk false true c d e f g h i j k l q = refl
walk false false true d e f g h i j k l q = refl
walk false false false true e f g h i j k l q = absurd (omega arith)
walk false false false false true f g h i j k l q = absurd (omega arith)
walk false false false false false true g h i j k l q = absurd (omega arith)
walk false false false false false false true h i j k l q = absurd (omega arith)
walk false false false false false false false true i j k l q = absurd (omega arith)
walk false false false false false false false false true j k l q = absurd (omega arith)
walk false false false false false false false false false true k l q = absurd (omega arith)
walk false false false false false false false false false false true l q = absurd (omega arith)
walk false false false false false false false false false false false true q = absurd (omega arith)
walk false false false false false false false false false false false false q = absurd (omega arith)

-- 01 to 07, or 80 to 87
pub data Five (h : ℕ) : Type 0 where
  from-01 : 1 ≤ h → h < 8 → Five h
  from-80 : (j : ℕ) → h ≡ 0x80 + j → j < 8 → Five h

bounds : (x y z w : Bool) (h : ℕ) → leb 1 h ≡ x → leb h 7 ≡ y → leb 0x80 h ≡ z → leb h 0x87 ≡ w → cond (x && y) true (z && w) ≡ true → Five h
bounds true true z w h a b c d e = let k = leb-true 1 h a in let l = leb-true h 7 b in from-01 (omega arith) (omega arith)
bounds true false true true h a b c d e = let k = leb-true 0x80 h c in let l = leb-true h 0x87 d in from-80 (h - 0x80) (omega arith) (omega arith)
bounds false y true true h a b c d e = let k = leb-true 0x80 h c in let l = leb-true h 0x87 d in from-80 (h - 0x80) (omega arith) (omega arith)
bounds true false true false h a b c d e = let z : ◌≡◌ {A = ℕ} 0 1 = cc in absurd (omega arith)
bounds true false false w h a b c d e = let z : ◌≡◌ {A = ℕ} 0 1 = cc in absurd (omega arith)
bounds false y true false h a b c d e = let z : ◌≡◌ {A = ℕ} 0 1 = cc in absurd (omega arith)
bounds false y false w h a b c d e = let z : ◌≡◌ {A = ℕ} 0 1 = cc in absurd (omega arith)

abbrev within : ℕ → ℕ → ℕ → Bool
within from to h = leb from h && leb h to

plate-five : (h : ℕ) → format_of h ≡ 5 → cond (within 0x01 0x07 h) true (within 0x80 0x87 h) ≡ true
unfolding format_of
plate-five h e =
    walk (eqb h 0) (within 0x01 0x07 h) (within 0x80 0x87 h) (within 0x08 0x09 h) (within 0x88 0x89 h) (within 0x8e 0x8f h) (within 0x0a 0x0d h) (within 0x8a 0x8d h) (within 0x0e 0x0f h) (within 0x70 0x7f h) (within 0x10 0x6f h) (within 0x90 0xef h) e

pub five : (h : ℕ) → format_of h ≡ 5 → Five h
five h e = bounds (leb 1 h) (leb h 7) (leb 0x80 h) (leb h 0x87) h refl refl refl refl (plate-five h e)
