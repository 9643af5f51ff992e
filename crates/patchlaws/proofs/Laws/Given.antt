-- The theorems that specs/Given.antt states.
use mathlib.Core.Path.{◌≡◌, refl, ap, sym, ◌∙◌, subst}
use mathlib.Core.Bool.{Bool, true, false, cond}
use mathlib.Core.Logic.{⊎_elim}
use mathlib.Core.List.{List, [], ◌∷◌, ◌++◌}
use Prim.Native.Nat.{ℕ, zero, suc, ◌+◌, ◌*◌, ◌/◌, ◌%◌, ◌≤◌, ◌<◌}
use native.Mathlib.Omega.{arith}
use native.Mathlib.Decide.{ℕ_discrete}
use Rattle.optext.proofs.Laws.Choose.{lt-cases}
use lib.Dec.{ltb}
use lib.ListN.{length, drop, get_or}
use lib.Seq.{drop-drop}
use Rattle.hexdigits.specs.Over.{in_front_of}
use Rattle.wordmath.specs.Address.{plus}
use Rattle.wordbytes.specs.Words.{word_at}
use Rattle.optext.specs.declared.Op.{Op}
use Rattle.optext.specs.Line.{text_of}
use Rattle.optext.specs.Column.{Whole}
use Rattle.optext.specs.Read.{words_of_text, op_of}
use Rattle.optext.proofs.Laws.Meets.{taken-le}
use Rattle.optext.proofs.Laws.Reader.{read-of-text, read-refuses}
use Rattle.patchline.specs.declared.oneline.How.TheVariants.{Plain}
use Rattle.patchline.specs.Line.{op_in, says, said_of}
use Rattle.assembler.specs.Source.{line_count, text_at, said_at, is_origin, origin_at, end_at, here_of, misplaced, line_op}
use Rattle.assembler.specs.Section.{inserted, section_entry, entered, words_placed, entry_bytes, section_bytes, section_of}
use Rattle.refusal.specs.Page.{Page, refused, refused_at, answered, Left, left, Told, told, call}
use Rattle.answer.specs.Answer.{answer_why, answering}
use Rattle.assembler.specs.Answer.{assembled, asm_of}
use Rattle.assembler.proofs.Laws.Good.{good}
use Rattle.assembler.proofs.Laws.Leaves.{refusal, unlike, leaves}
use Rattle.assembler.specs.Ends.{assemble_why}
use Rattle.assembler.proofs.Laws.Ends.{AssemblyEnds, done, alone, at_line, assemble-ends, line-told}
use Rattle.assembler_c.specs.Call.{size_words, assemble_call}
use Rattle.patchlaws.specs.Rising.{address_in, Rises}
use Rattle.patchlaws.specs.Given.{Has, Gives, OneWordAt, ReaderGives, Wd16ReaderGives, OpIsText}
use Rattle.patchlaws.proofs.Laws.Again.{plain-words, text-said}
use Rattle.patchlaws.specs.Labels.{LabelGives, LabelsGive, Wd16LabelsGive}
use Rattle.patchlaws.proofs.Laws.Labels.{branch_read, sob-read}
use Rattle.patchlaws.proofs.Laws.Offsets.{first_read, second-read, both_read}
use Rattle.patchlaws.proofs.Laws.Last.{only-read, last-read}
use Rattle.patchlaws.proofs.Laws.Rising.{ends-below, words_count, placed-rises}
use Rattle.patchlaws.proofs.Laws.Taken.{word-is, count-is, behind, placed-few}

-- ---- an entry among others

record Among (x : ℕ) (l : List ℕ) : Type 0 where
  pub place : ℕ
  pub within : place < length l
  pub there : get_or l place 0 ≡ x

front : (x : ℕ) (l : List ℕ) → Among x (x ∷ l)
front x l = record { place = 0; within = omega arith; there = refl }

further : {x : ℕ} (y : ℕ) {l : List ℕ} → Among x l → Among x (y ∷ l)
further y a = record { place = suc a.place; within = omega (arith, a.within); there = a.there }

inserted_new : (x : ℕ) (l : List ℕ) → Among x (inserted x l)
unfolding inserted
inserted_new x [] = front x []
inserted_new x (y ∷ ys) = by (ltb x y) (inserted_new x ys)
  where
    by : (t : Bool) → Among x (inserted x ys) → Among x (cond t x y ∷ inserted (cond t y x) ys)
    by true a = front x (inserted y ys)
    by false a = further y a

inserted-old : (x z : ℕ) (l : List ℕ) → Among z l → Among z (inserted x l)
unfolding inserted
inserted-old x z [] a = absurd (omega (arith, a.within))
inserted-old x z (y ∷ ys) a = by a.place a.within a.there (ltb x y) (λ v b. inserted-old v z ys b)
  where
    by : (k : ℕ) → k < suc (length ys) → get_or (y ∷ ys) k 0 ≡ z → (t : Bool) → ((v : ℕ) → Among z ys → Among z (inserted v ys)) → Among z (cond t x y ∷ inserted (cond t y x) ys)
    by zero h e true r = further x (subst (λ (u : ℕ). Among u (inserted y ys)) e (inserted_new y ys))
    by zero h e false r = subst (λ (u : ℕ). Among u (y ∷ inserted x ys)) e (front y (inserted x ys))
    by (suc k) h e true r = further x (r y (record { place = k; within = omega (arith, h); there = e }))
    by (suc k) h e false r = further y (r x (record { place = k; within = omega (arith, h); there = e }))

-- ---- the words of a line, among all

entered-old : (o : Op) (h z : ℕ) (l : List ℕ) → Among z l → Among z (entered o h l)
unfolding entered
entered-old o h z l a =
    let one = inserted-old (section_entry h o.a) z l a in
    let two = inserted-old (section_entry (plus h 2) o.b) z _ one in
    let three = inserted-old (section_entry (plus h 4) o.c) z _ two in
    pick (ltb 2 o.count) three (pick (ltb 1 o.count) two (pick (ltb 0 o.count) one a))
  where
    pick : {u v : List ℕ} (t : Bool) → Among z u → Among z v → Among z (cond t u v)
    pick true p q = p
    pick false p q = q

-- the same entry, at an address that does not wrap
moved : (a b w : ℕ) {l : List ℕ} → a ≡ b → Among (section_entry a w) l → Among (section_entry b w) l
moved a b w {l} e m = subst (λ (x : ℕ). Among (section_entry x w) l) e m

entered-new : (ws : List ℕ) (h : ℕ) (l : List ℕ) → length ws ≤ 3 → h + 2 * length ws ≤ 65536 → (j : ℕ) → j < length ws
    → Among (section_entry (h + 2 * j) (get_or ws j 0)) (entered (op_of ws) h l)
unfolding entered
entered-new [] h l few room j k = absurd (omega (arith, k))
entered-new (a ∷ []) h l few room zero k = moved h (h + 2 * 0) a (omega arith) (inserted_new (section_entry h a) l)
entered-new (a ∷ []) h l few room (suc j) k = absurd (omega (arith, k))
entered-new (a ∷ b ∷ []) h l few room zero k =
    moved h (h + 2 * 0) a (omega arith) (inserted-old (section_entry (plus h 2) b) (section_entry h a) (inserted (section_entry h a) l) (inserted_new (section_entry h a) l))
entered-new (a ∷ b ∷ []) h l few room (suc zero) k = moved (plus h 2) (h + 2 * 1) b (omega (arith, room)) (inserted_new (section_entry (plus h 2) b) (inserted (section_entry h a) l))
entered-new (a ∷ b ∷ []) h l few room (suc (suc j)) k = absurd (omega (arith, k))
entered-new (a ∷ b ∷ c ∷ []) h l few room zero k =
    let one = inserted (section_entry h a) l in
    let two = inserted (section_entry (plus h 2) b) one in
    moved h (h + 2 * 0) a (omega arith) (inserted-old (section_entry (plus h 4) c) (section_entry h a) two (inserted-old (section_entry (plus h 2) b) (section_entry h a) one (inserted_new (section_entry h a) l)))
entered-new (a ∷ b ∷ c ∷ []) h l few room (suc zero) k =
    let one = inserted (section_entry h a) l in
    moved (plus h 2) (h + 2 * 1) b (omega (arith, room)) (inserted-old (section_entry (plus h 4) c) (section_entry (plus h 2) b) (inserted (section_entry (plus h 2) b) one) (inserted_new (section_entry (plus h 2) b) one))
entered-new (a ∷ b ∷ c ∷ []) h l few room (suc (suc zero)) k =
    moved (plus h 4) (h + 2 * 2) c (omega (arith, room)) (inserted_new (section_entry (plus h 4) c) (inserted (section_entry (plus h 2) b) (inserted (section_entry h a) l)))
entered-new (a ∷ b ∷ c ∷ []) h l few room (suc (suc (suc j))) k = absurd (omega (arith, k))
entered-new (a ∷ b ∷ c ∷ d ∷ ws) h l few room j k = absurd (omega (arith, few))

-- a line's entries are among those of all lines
placed-among : (s : List ℕ) (i n x : ℕ) → i < n → Among x (entered (line_op s (here_of s i) (text_at s i)) (here_of s i) (words_placed s i)) → Among x (words_placed s n)
unfolding words_placed
placed-among s i zero x h a = absurd (omega (arith, h))
placed-among s i (suc n) x h a =
    elim (ℕ_discrete i n) [
      | yes e ↦ subst (λ (k : ℕ). Among x (entered (line_op s (here_of s k) (text_at s k)) (here_of s k) (words_placed s k))) e a
      | no d ↦ entered-old (line_op s (here_of s n) (text_at s n)) (here_of s n) x (words_placed s n) (placed-among s i n x (omega (arith, h, d)) a)
    ]

-- ---- and in the bytes of the section

flat-from : (l rest : List ℕ) (k : ℕ) → k < length l → drop (k * 4) (section_bytes l ++ rest) ≡ entry_bytes (get_or l k 0) ++ (section_bytes (drop (suc k) l) ++ rest)
unfolding section_bytes
flat-from [] rest k h = absurd (omega (arith, h))
flat-from (e ∷ l) rest zero h = refl
flat-from (e ∷ l) rest (suc k) h =
    let q : suc k * 4 ≡ 4 + k * 4 = omega arith in
    ap (λ (m : ℕ). drop m (entry_bytes e ++ (section_bytes l ++ rest))) q ∙ sym (drop-drop (k * 4) 4 (entry_bytes e ++ (section_bytes l ++ rest))) ∙ flat-from l rest k (omega (arith, h))

module _ (bytes rest l : List ℕ) (few : length l ≤ 4096) (q : bytes ≡ section_of l ++ rest) where
  entry-from : (k : ℕ) → k < length l → drop (2 + k * 4) bytes ≡ entry_bytes (get_or l k 0) ++ (section_bytes (drop (suc k) l) ++ rest)
  entry-from k h = sym (drop-drop (k * 4) 2 bytes) ∙ ap (λ (z : List ℕ). drop (k * 4) z) (behind bytes rest l 0 few q) ∙ flat-from l rest k h

  count_of : word_at bytes 0 ≡ length l
  count_of = count-is bytes rest l 0 few q

  address-of : (k : ℕ) → k < length l → word_at bytes (2 + k * 4) ≡ get_or l k 0 / 65536 % 65536
  address-of k h = word-is bytes (2 + k * 4) _ _ _ (entry-from k h) ∙ omega arith

  word_of : (k : ℕ) → k < length l → word_at bytes (4 + k * 4) ≡ get_or l k 0 % 65536
  word_of k h =
      let d = sym (drop-drop 2 (2 + k * 4) bytes) ∙ ap (λ (z : List ℕ). drop 2 z) (entry-from k h) in
      let at : 4 + k * 4 ≡ 2 + k * 4 + 2 = omega arith in
      ap (λ (m : ℕ). word_at bytes m) at ∙ word-is bytes (2 + k * 4 + 2) _ _ _ d ∙ omega arith

  has_of : (a w : ℕ) → a < 65536 → w < 65536 → Among (section_entry a w) l → Has bytes a w
  has_of a w la lw m =
      let e = m.there in
      record {
        place = m.place;
        within = rw count_of m.within;
        address = address-of m.place m.within ∙ rw e (omega (arith, la, lw));
        word = word_of m.place m.within ∙ rw e (omega (arith, la, lw));
      }

-- ---- what an assembly leaves

-- each line in its place, and the section in front
record Leaves (s bytes : List ℕ) : Type 0 where
  pub few : line_count s ≤ 1024
  pub in_place : (k : ℕ) → k < line_count s → misplaced s k ≡ false
  pub rest : List ℕ
  pub front : bytes ≡ assembled s ++ rest

left-of : (s out : List ℕ) (n : ℕ) (out' : List ℕ) → left (answered n) out' ≡ asm_of s out → Leaves s out'
unfolding in_front_of
left-of s out n out' e =
    let page : (asm_of s out).page ≡ answered n = sym (ap (λ z. z.page) e) in
    let g = good s out n page in
    record { few = g.few; in_place = g.in_place; rest = drop (length (assembled s)) out; front = ap (λ z. z.lent) e ∙ leaves s out n page }

-- A LINE WITH THESE WORDS GIVES THEM
line_gives : (s bytes : List ℕ) → Leaves s bytes → (i : ℕ) (ws : List ℕ) → i < line_count s → length ws ≤ 3 → ((j : ℕ) → get_or ws j 0 < 65536)
    → line_op s (here_of s i) (text_at s i) ≡ op_of ws → is_origin (said_at s i).how ≡ false → Gives s i bytes ws
unfolding assembled origin_at end_at
line_gives s bytes g i ws h few small e plain =
    let n : (said_at s i).op.count ≡ length ws = sym (words_count s i) ∙ ap (λ (o : Op). o.count) e in
    let room : origin_at s i + 2 * length ws ≤ 65536 = omega (arith, n, ends-below s i (g.in_place i h)) in
    let l = words_placed s (line_count s) in
    let lines : length l ≤ 4096 = omega (arith, placed-few s (line_count s), g.few) in
    record {
      words = λ j k.
          let here : here_of s i ≡ origin_at s i = omega (arith, room, k) in
          let new = rw here at (entered-new ws (here_of s i) (words_placed s i) few (omega (arith, room, here)) j k) in
          has_of bytes g.rest l lines g.front (origin_at s i + 2 * j) (get_or ws j 0) (omega (arith, room, k)) (small j) (placed-among s i (line_count s) (section_entry (origin_at s i + 2 * j) (get_or ws j 0)) h (rw (e, here) new));
      next = rw (plain, n) refl;
    }

-- ---- the statements

whole-few : (ws : List ℕ) → Whole ws → length ws ≤ 3
whole-few ws w = omega (arith, w.count, taken-le (get_or ws 0 0))

reader-line : (s bytes : List ℕ) → Leaves s bytes → (i : ℕ) (ws : List ℕ) → i < line_count s → Whole ws → text_of ws ≡ text_at s i → Gives s i bytes ws
unfolding said_at
reader-line s bytes g i ws h w t =
    let said : said_of (text_at s i) ≡ says Plain (op_of ws) = ap said_of (sym t) ∙ text-said ws w in
    line_gives s bytes g i ws h (whole-few ws w) w.words (plain-words s (text_at s i) (here_of s i) (op_of ws) said) (ap (λ z. is_origin z.how) said)

pub reader-gives : ReaderGives
reader-gives s out n out' e i ws h w t = reader-line s out' (left-of s out n out' e) i ws h w t

pub op-is-text : OpIsText
unfolding op_in
op-is-text t = (λ ws w e. ap (λ (u : List ℕ). op_of (words_of_text u)) (sym e) ∙ ap op_of (read-of-text ws w), λ none. ap op_of (read-refuses t none))

-- ---- for C

-- what C is told of an assembly
abbrev told_of : List ℕ → Left ℕ (List ℕ) → Told (List ℕ × List ℕ)
told_of b l = answering size_words b l

abbrev zero_told : List ℕ → List ℕ → Told (List ℕ × List ℕ)
zero_told out' b' = told 0 (out', b')

-- a refusal's number is not 0
numbered : (s out : List ℕ) → refusal (asm_of s out).page ≡ true → (b out' b' : List ℕ) → zero_told out' b' ≡ told_of b (asm_of s out) → ⊥
numbered s out r b out' b' e = by (assemble-ends s out)
  where
    number : Told (List ℕ × List ℕ) → ℕ
    number w = w.number

    by : AssemblyEnds s out (assemble_why s out) (asm_of s out) → ⊥
    by (done z n p) = unlike (asm_of s out).page n r p
    by (alone n t x) = n (sym (ap number (e ∙ ap (told_of b) x)))
    by (at_line line f x) = (line-told f).0 (sym (ap number (e ∙ ap (told_of b) x)))

-- 0 is a section, and its bytes are the function's
c-left : (b out' b' : List ℕ) (p : Page ℕ) (o : List ℕ) → (refusal p ≡ true → ⊥) → zero_told out' b' ≡ told_of b (left p o) → (n : ℕ) × (left (answered n) out' ≡ left p o)
c-left b out' b' (answered n) o r e = (n, ap (λ (w : Told (List ℕ × List ℕ)). left (answered n) w.lent.0) e)
c-left b out' b' (refused why) o r e = absurd (r refl)
c-left b out' b' (refused_at why line) o r e = absurd (r refl)

wd16-left : (s out b out' b' : List ℕ) → zero_told out' b' ≡ assemble_call s out b → Leaves s out'
unfolding assemble_call
wd16-left s out b out' b' e = by (answer_why b) e
  where
    by : (why : ℕ) → zero_told out' b' ≡ told_of b (call why (asm_of s out) out) → Leaves s out'
    by zero q =
        let c = c-left b out' b' (asm_of s out).page (asm_of s out).lent (λ r. numbered s out r b out' b' q) q in
        left-of s out c.0 out' c.1
    by (suc why) q = let z : ◌≡◌ {A = ℕ} 0 (suc why) = ap (λ (w : Told (List ℕ × List ℕ)). w.number) q in absurd (omega (arith, z))

pub wd16-reader-gives : Wd16ReaderGives
wd16-reader-gives s out b out' b' e i ws h w t = reader-line s out' (wd16-left s out b out' b' e) i ws h w t

-- ---- one word at an address

rises-on : (low : ℕ) (l : List ℕ) → Rises low l → (k : ℕ) → k < length l → low ≤ address_in (get_or l k 0)
rises-on low [] r k h = absurd (omega (arith, h))
rises-on low (e ∷ l) r zero h = r.0
rises-on low (e ∷ l) r (suc k) h = omega (arith, r.0, rises-on (address_in e + 1) l r.3 k (omega (arith, h)))

rises-apart : (low : ℕ) (l : List ℕ) → Rises low l → (j k : ℕ) → j < k → k < length l → address_in (get_or l j 0) < address_in (get_or l k 0)
rises-apart low [] r j k d h = absurd (omega (arith, h))
rises-apart low (e ∷ l) r zero zero d h = absurd (omega (arith, d))
rises-apart low (e ∷ l) r zero (suc k) d h = omega (arith, rises-on (address_in e + 1) l r.3 k (omega (arith, h)))
rises-apart low (e ∷ l) r (suc j) zero d h = absurd (omega (arith, d))
rises-apart low (e ∷ l) r (suc j) (suc k) d h = rises-apart (address_in e + 1) l r.3 j k (omega (arith, d)) (omega (arith, h))

rises-small : (low : ℕ) (l : List ℕ) → Rises low l → (k : ℕ) → k < length l → address_in (get_or l k 0) < 65536
rises-small low [] r k h = absurd (omega (arith, h))
rises-small low (e ∷ l) r zero h = r.2
rises-small low (e ∷ l) r (suc k) h = rises-small (address_in e + 1) l r.3 k (omega (arith, h))

pub one_word : OneWordAt
unfolding assembled
one_word s out n out' e a w v x y =
    let g = left-of s out n out' e in
    let l = words_placed s (line_count s) in
    let lines : length l ≤ 4096 = omega (arith, placed-few s (line_count s), g.few) in
    let rises = placed-rises s g.in_place in
    let count = count_of out' g.rest l lines g.front in
    let i = x.place in
    let j = y.place in
    let li : i < length l = omega (arith, x.within, count) in
    let lj : j < length l = omega (arith, y.within, count) in
    let ai = sym (address-of out' g.rest l lines g.front i li) ∙ x.address in
    let aj = sym (address-of out' g.rest l lines g.front j lj) ∙ y.address in
    let si = rises-small 0 l rises i li in
    let sj = rises-small 0 l rises j lj in
    same i j (λ d. omega (arith, rises-apart 0 l rises i j d lj, ai, aj, si, sj)) (λ d. omega (arith, rises-apart 0 l rises j i d li, ai, aj, si, sj)) x.word y.word
  where
    same : (i j : ℕ) → (i < j → ⊥) → (j < i → ⊥) → word_at out' (4 + i * 4) ≡ w → word_at out' (4 + j * 4) ≡ v → w ≡ v
    same i j p q d f =
        elim (ℕ_discrete i j) [
          | yes k ↦ sym d ∙ ap (λ (m : ℕ). word_at out' (4 + m * 4)) k ∙ f
          | no k ↦ absurd (⊎_elim p (λ h. q (omega (arith, h, k))) (lt-cases i j))
        ]

-- ---- a line with a label

label-line : (s bytes : List ℕ) → Leaves s bytes → (i : ℕ) → i < line_count s → LabelGives s i bytes
unfolding said_at
label-line s bytes g i h = record {
  branch = λ how comma label.
      let r = branch_read s (text_at s i) (here_of s i) how comma label in
      (r.0, r.1, given r.0 r.1.whole r.2 (ap is_origin how));
  sob = λ how first label.
      let r = sob-read s (text_at s i) (here_of s i) how first label in
      (r.0, r.1, given r.0 r.1.whole r.2 (ap is_origin how));
  first = λ how ten comma label other.
      let r = first_read s (text_at s i) (here_of s i) how ten comma label other in
      (r.0, r.1, given r.0 r.1.whole r.2 (ap is_origin how));
  second = λ how ten other label.
      let r = second-read s (text_at s i) (here_of s i) how ten other label in
      (r.0, r.1, given r.0 r.1.whole r.2 (ap is_origin how));
  only = λ how one comma label.
      let r = only-read s (text_at s i) (here_of s i) how one comma label in
      (r.0, r.1, given r.0 r.1.whole r.2 (ap is_origin how));
  last = λ how one other label.
      let r = last-read s (text_at s i) (here_of s i) how one other label in
      (r.0, r.1, given r.0 r.1.whole r.2 (ap is_origin how));
  both = λ how ten label label'.
      let r = both_read s (text_at s i) (here_of s i) how ten label label' in
      (r.0, r.1, r.2, given r.0 r.1 r.3 (ap is_origin how));
}
  where
    given : (ws : List ℕ) → Whole ws → line_op s (here_of s i) (text_at s i) ≡ op_of ws → is_origin (said_at s i).how ≡ false → Gives s i bytes ws
    given ws w e o = line_gives s bytes g i ws h (whole-few ws w) w.words e o

pub labels-give : LabelsGive
labels-give s out n out' e i h = label-line s out' (left-of s out n out' e) i h

pub wd16-labels-give : Wd16LabelsGive
wd16-labels-give s out b out' b' e i h = label-line s out' (wd16-left s out b out' b' e) i h
