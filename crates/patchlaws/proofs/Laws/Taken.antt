-- The theorems that specs/Taken.antt states.
use mathlib.Core.Path.{◌≡◌, refl, ap, sym, ◌∙◌}
use mathlib.Core.Bool.{Bool, true, false, cond}
use mathlib.Core.Logic.{inl, inr, ⊎_elim}
use mathlib.Core.List.{List, [], ◌∷◌, ◌++◌}
use Prim.Native.Nat.{ℕ, zero, suc, ◌+◌, ◌-◌, ◌*◌, ◌/◌, ◌%◌, ◌≤◌, ◌<◌}
use native.Mathlib.Omega.{arith}
use lib.Dec.{ltb, eqb}
use borrow.Author.Tests.{le-leb, eq-eqb}
use lib.ListN.{length, drop, get_or, length-drop}
use lib.Seq.{drop-drop, get_or-drop}
use Rattle.wordmath.specs.Address.{plus}
use Rattle.wordbytes.specs.Words.{byte_at, word_at}
use Rattle.refusal.specs.Numbers.{address_unfitted}
use Rattle.refusal.specs.Page.{first}
use Rattle.refusal.proofs.Laws.Page.{first_some}
use Rattle.job.specs.declared.Section.TheVariants as section
use Rattle.job.specs.Job.{why_address, why_entry, why_entries, why_count, after_section}
use Rattle.optext.specs.declared.Op.{Op}
use Rattle.assembler.specs.Source.{line_count, text_at, here_of, line_op}
use Rattle.assembler.specs.Section.{higher_of, inserted, section_entry, entered, words_placed, entry_bytes, section_bytes, section_of}
use Rattle.assembler.proofs.Laws.Section.{flat-length}
use Rattle.assembler.specs.Answer.{assembled}
use Rattle.assembler.proofs.Laws.Good.{good}
use Rattle.patchlaws.specs.Rising.{address_in, Rises}
use Rattle.patchlaws.proofs.Laws.Rising.{placed-rises}
use Rattle.patchlaws.specs.Taken.{AtMostUnfitted, SectionTaken}

-- ---- bytes that stand from a place on

module _ (input : List ℕ) (at : ℕ) where
  pub byte-is : (l : List ℕ) → drop at input ≡ l → (k : ℕ) → byte_at input (at + k) ≡ get_or l k 0
  byte-is l e k = sym (get_or-drop at input k 0) ∙ ap (λ (z : List ℕ). get_or z k 0) e

  byte-at : (l : List ℕ) → drop at input ≡ l → byte_at input at ≡ get_or l 0 0
  byte-at l e =
      let z : at + 0 ≡ at = omega arith in
      ap (λ (k : ℕ). get_or input k 0) (sym z) ∙ byte-is l e 0

  long : (l : List ℕ) (n : ℕ) → drop at input ≡ l → 0 < n → n ≤ length l → at + n ≤ length input
  long l n e h k =
      let z : length input - at ≡ length l = sym (length-drop at input) ∙ ap length e in
      omega arith

  -- the word at a place, from its two bytes
  pub word-is : (a b : ℕ) (l : List ℕ) → drop at input ≡ a ∷ b ∷ l → word_at input at ≡ a + b * 256
  word-is a b l e = rw (byte-at (a ∷ b ∷ l) e, byte-is (a ∷ b ∷ l) e 1) refl

-- ---- the entries of a section

first-unfitted : (why later : ℕ) → AtMostUnfitted why → AtMostUnfitted later → AtMostUnfitted (first why later)
first-unfitted why later u v =
    ⊎_elim (λ e. rw e v) (λ e. inr (sym (first_some why later (λ z. omega (arith, e, z))) ∙ e)) u

address-taken : (map : List ℕ) (low a : ℕ) → a % 2 ≡ 0 → low ≤ a → AtMostUnfitted (why_address map low a)
unfolding why_address
address-taken map low a h k = rw (eq-eqb (a % 2) 0 h, le-leb low a k) (go (eqb (get_or map (a / 256) 0) 1))
  where
    go : (b : Bool) → AtMostUnfitted (cond b 0 address_unfitted)
    go true = inl refl
    go false = inr refl

entry-taken : (input map l : List ℕ) (at low e : ℕ) → drop at input ≡ entry_bytes e ++ l → low ≤ address_in e → address_in e % 2 ≡ 0 → address_in e < 65536
    → AtMostUnfitted (why_entry section.Words input at low map)
unfolding why_entry
entry-taken input map l at low e q a b c =
    let z : at + 4 ≤ length input = long input at (entry_bytes e ++ l) 4 q (omega arith) (omega arith) in
    let k : word_at input at ≡ address_in e = word-is input at _ _ _ q ∙ omega arith in
    rw (le-leb (at + 4) (length input) z, k) (address-taken map low (address_in e) b a)

entries-taken : (input map rest l : List ℕ) (at low : ℕ) → drop at input ≡ section_bytes l ++ rest → Rises low l
    → AtMostUnfitted (why_entries section.Words input (length l) at low map)
unfolding why_entries section_bytes
entries-taken input map rest [] at low q r = inl refl
entries-taken input map rest (e ∷ l) at low q r =
    let k : word_at input at ≡ address_in e = word-is input at _ _ _ q ∙ (let b = r.2 in omega arith) in
    let d : drop (at + 4) input ≡ section_bytes l ++ rest = sym (drop-drop 4 at input) ∙ ap (λ (z : List ℕ). drop 4 z) q in
    first-unfitted _ _ (entry-taken input map (section_bytes l ++ rest) at low e q r.0 r.1 r.2)
    (rw k (entries-taken input map rest l (at + 4) (address_in e + 1) d r.3))

-- ---- its count

inserted-length : (x : ℕ) (l : List ℕ) → length (inserted x l) ≡ suc (length l)
unfolding inserted
inserted-length x [] = refl
inserted-length x (y ∷ ys) = ap suc (inserted-length (higher_of x y) ys)

entered-few : (o : Op) (h : ℕ) (l : List ℕ) → length (entered o h l) ≤ length l + 3
unfolding entered
entered-few o h l =
    pick (ltb 2 o.count) _ _ (three (section_entry h o.a) (section_entry (plus h 2) o.b) (section_entry (plus h 4) o.c))
    (pick (ltb 1 o.count) _ _ (two (section_entry h o.a) (section_entry (plus h 2) o.b))
    (pick (ltb 0 o.count) _ _ (one (section_entry h o.a)) (omega arith)))
  where
    pick : (b : Bool) (u v : List ℕ) → length u ≤ length l + 3 → length v ≤ length l + 3 → length (cond b u v) ≤ length l + 3
    pick true u v p q = p
    pick false u v p q = q

    one : (x : ℕ) → length (inserted x l) ≤ length l + 3
    one x = rw (inserted-length x l) (omega arith)

    two : (x y : ℕ) → length (inserted y (inserted x l)) ≤ length l + 3
    two x y = rw (inserted-length y (inserted x l), inserted-length x l) (omega arith)

    three : (x y z : ℕ) → length (inserted z (inserted y (inserted x l))) ≤ length l + 3
    three x y z = rw (inserted-length z (inserted y (inserted x l)), inserted-length y (inserted x l), inserted-length x l) (omega arith)

pub placed-few : (s : List ℕ) (i : ℕ) → length (words_placed s i) ≤ 3 * i
unfolding words_placed
placed-few s zero = omega arith
placed-few s (suc i) =
    let h = placed-few s i in
    let k = entered-few (line_op s (here_of s i) (text_at s i)) (here_of s i) (words_placed s i) in
    omega arith

module _ (input rest l : List ℕ) (at : ℕ) (few : length l ≤ 4096) (q : drop at input ≡ section_of l ++ rest) where
  bytes : drop at input ≡ length l % 256 ∷ length l / 256 % 256 ∷ (section_bytes l ++ rest)
  unfolding section_of
  bytes = q

  pub count-is : word_at input at ≡ length l
  count-is = word-is input at _ _ _ bytes ∙ omega arith

  pub behind : drop (at + 2) input ≡ section_bytes l ++ rest
  behind = sym (drop-drop 2 at input) ∙ ap (λ (z : List ℕ). drop 2 z) bytes

  count-taken : why_count section.Words input at ≡ 0
  unfolding why_count
  count-taken =
      let z : at + 2 ≤ length input = long input at _ 2 bytes (omega arith) (omega arith) in
      rw (le-leb (at + 2) (length input) z, count-is, le-leb (length l) 4096 few) refl

  goes_on : after_section section.Words input at ≡ at + length (section_of l)
  unfolding section_of
  goes_on = rw (count-is, flat-length l) (omega arith)

  words-taken : (map : List ℕ) → Rises 0 l → AtMostUnfitted (why_entries section.Words input (word_at input at) (at + 2) 0 map)
  words-taken map r = rw count-is (entries-taken input map rest l (at + 2) 0 behind r)

pub section-taken : SectionTaken
unfolding assembled
section-taken s out n e input map rest at q =
    let g = good s out n e in
    let l : List ℕ = words_placed s (line_count s) in
    let few : length l ≤ 4096 = let h = placed-few s (line_count s) in let k = g.few in omega arith in
    (count-taken input rest l at few q, words-taken input rest l at few q map (placed-rises s g.in_place), goes_on input rest l at few q ∙ ap (λ (k : ℕ). at + k) (sym g.size))
