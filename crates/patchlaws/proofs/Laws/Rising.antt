-- The theorems that specs/Rising.antt states.
use mathlib.Core.Path.{◌≡◌, refl, ap, sym, ◌∙◌, subst}
use mathlib.Core.Bool.{Bool, true, false, cond, ◌&&◌, true≢false}
use mathlib.Core.Logic.{◌⊎◌, inl, inr, ⊎_elim}
use mathlib.Core.List.{List, [], ◌∷◌}
use Prim.Native.Nat.{ℕ, zero, suc, ◌+◌, ◌*◌, ◌%◌, ◌≤◌, ◌<◌}
use native.Mathlib.Omega.{arith}
use lib.Dec.{ltb, eqb}
use borrow.Author.Tests.{ltb-true, ltb-false, lt-ltb, eqb-false}
use lib.ListN.{length}
use Rattle.wordmath.specs.Address.{plus}
use Rattle.optext.specs.declared.Op.{Op}
use Rattle.optext.specs.First.{first_from}
use Rattle.patchline.proofs.Laws.Search.{first-none}
use Rattle.patchline.specs.declared.oneline.How.{How}
use Rattle.patchline.specs.declared.oneline.How.TheVariants.{Unknown, Origin, Plain, Branch, Sob, Relative}
use Rattle.patchline.specs.declared.oneline.Said.{Said}
use Rattle.patchline.specs.Line.{with_label}
use Rattle.assembler.specs.Source.{line_count, text_at, said_at, is_origin, origin_at, end_at, here_of, overlaps, is_odd, misplaced, value_of, with_labels, line_op}
use Rattle.assembler.specs.Section.{inserted, section_entry, entered, words_placed}
use Rattle.patchlaws.specs.Rising.{address_in, Rises, PlacedRises}

-- an address of a word of one of the first i lines
record Lies (s : List ℕ) (i a : ℕ) : Type 0 where
  pub line : ℕ
  pub earlier : line < i
  pub from : origin_at s line ≤ a
  pub below : a < end_at s line

abbrev Each : (ℕ → Type 0) → List ℕ → Type 0
Each P [] = Unit {0}
Each P (e ∷ l) = P (address_in e) × Each P l

-- the first i lines are in their places
abbrev InPlace : List ℕ → ℕ → Type 0
InPlace s i = (k : ℕ) → k < i → misplaced s k ≡ false

-- ---- tests that fail

cond-left : (a b : Bool) → cond a true b ≡ false → (a ≡ false) × (b ≡ false)
cond-left true b e = absurd (true≢false e)
cond-left false b e = (refl, e)

module _ (s : List ℕ) (i : ℕ) (e : misplaced s i ≡ false) where
  parts : (is_odd (said_at s i) ≡ false) × (cond (ltb 65536 (end_at s i)) true (ltb (first_from (overlaps s i) i 0) i) ≡ false)
  unfolding misplaced
  parts = cond-left (is_odd (said_at s i)) _ e

  rest : (ltb 65536 (end_at s i) ≡ false) × (ltb (first_from (overlaps s i) i 0) i ≡ false)
  rest = cond-left (ltb 65536 (end_at s i)) _ parts.1

  pub ends-below : end_at s i ≤ 65536
  ends-below = ltb-false _ _ rest.0

  apart : (k : ℕ) → k < i → overlaps s i k ≡ false
  apart k l = first-none (overlaps s i) i k (ltb-false _ _ rest.1) l

  not-odd : is_odd (said_at s i) ≡ false
  not-odd = parts.0

-- ---- origins are even

origin-even : (said : Said) (o : ℕ) → is_odd said ≡ false → o % 2 ≡ 0 → cond (is_origin said.how) said.op.a (o + 2 * said.op.count) % 2 ≡ 0
origin-even said o e h = go (is_origin said.how) refl e
  where
    go : (b : Bool) → is_origin said.how ≡ b → (b && eqb (said.op.a % 2) 1) ≡ false → cond b said.op.a (o + 2 * said.op.count) % 2 ≡ 0
    go true q f = let z = eqb-false (said.op.a % 2) 1 f in omega arith
    go false q f = omega arith

even : (s : List ℕ) (i : ℕ) → InPlace s i → origin_at s i % 2 ≡ 0
unfolding origin_at
even s zero p = refl
even s (suc i) p =
    origin-even (said_at s i) (origin_at s i) (not-odd s i (p i (omega arith))) (even s i (λ k l. p k (omega arith)))

-- ---- a label changes no number of words

with-count : (how : How) (third : Bool) (v h : ℕ) (o : Op) → (with_label how third v h o).count ≡ o.count
with-count Unknown third v h o = refl
with-count Origin third v h o = refl
with-count Plain third v h o = refl
with-count Branch third v h o = refl
with-count Sob third v h o = refl
with-count Relative true v h o = refl
with-count Relative false v h o = refl

put_count : (s u : List ℕ) (how : How) (third : Bool) (h : ℕ) (o : Op) → (with_labels s how third h u o).count ≡ o.count
unfolding with_labels
put_count s u how third h o = go (eqb (length u) 0)
  where
    go : (b : Bool) → (cond b o (with_label how third (value_of s u) h o)).count ≡ o.count
    go true = refl
    go false = with-count how third (value_of s u) h o

pub words_count : (s : List ℕ) (i : ℕ) → (line_op s (here_of s i) (text_at s i)).count ≡ (said_at s i).op.count
unfolding line_op said_at
words_count s i = put_count s _ _ _ _ _ ∙ put_count s _ _ _ _ _

-- ---- one entry more

each_more : (P : ℕ → Type 0) (x : ℕ) (l : List ℕ) → P (address_in x) → Each P l → Each P (inserted x l)
unfolding inserted
each_more P x [] p q = (p, tt)
each_more P x (y ∷ ys) p q = go (ltb x y) (λ z. each_more P z ys)
  where
    go : (b : Bool) → ((z : ℕ) → P (address_in z) → Each P ys → Each P (inserted z ys)) → Each P (cond b x y ∷ inserted (cond b y x) ys)
    go true r = (p, r y q.0 q.1)
    go false r = (q.0, r x p q.1)

-- its address is not among the others
abbrev Not : ℕ → ℕ → Type 0
Not a b = a ≡ b → ⊥

lower-rises : (low m : ℕ) (l : List ℕ) → m ≤ low → Rises low l → Rises m l
lower-rises low m [] h r = tt
lower-rises low m (y ∷ ys) h r = (omega (arith, h, r.0), r.1, r.2, r.3)

rises-apart : (low m : ℕ) (l : List ℕ) → m < low → Rises low l → Each (Not m) l
rises-apart low m [] h r = tt
rises-apart low m (y ∷ ys) h r = (λ e. omega (arith, e, h, r.0), rises-apart (address_in y + 1) m ys (omega (arith, h, r.0)) r.3)

rises-more : (x low : ℕ) (l : List ℕ) → low ≤ address_in x → address_in x % 2 ≡ 0 → address_in x < 65536 → Each (Not (address_in x)) l → Rises low l → Rises low (inserted x l)
unfolding inserted
rises-more x low [] a b c d r = (a, b, c, tt)
rises-more x low (y ∷ ys) a b c d r = go (ltb x y) refl (λ z m. rises-more z m ys)
  where
    below : x < y → address_in x + 1 ≤ address_in y
    below h =
        let q : address_in x ≡ address_in y → ⊥ = d.0 in
        let p : address_in x ≤ address_in y = omega arith in
        omega (arith, p, q)

    above : y ≤ x → address_in y + 1 ≤ address_in x
    above h =
        let q : address_in x ≡ address_in y → ⊥ = d.0 in
        let p : address_in y ≤ address_in x = omega arith in
        omega (arith, p, q)

    go : (t : Bool) → ltb x y ≡ t
        → ((z m : ℕ) → m ≤ address_in z → address_in z % 2 ≡ 0 → address_in z < 65536 → Each (Not (address_in z)) ys → Rises m ys → Rises m (inserted z ys))
        → Rises low (cond t x y ∷ inserted (cond t y x) ys)
    go true e more =
        let h = below (ltb-true x y e) in
        (a, b, c, more y (address_in x + 1) h r.1 r.2 (rises-apart (address_in y + 1) (address_in y) ys (omega arith) r.3) (lower-rises (address_in y + 1) (address_in x + 1) ys (omega arith) r.3))
    go false e more =
        let h = above (ltb-false x y e) in
        (r.0, r.1, r.2, more x (address_in y + 1) h b c d.1 r.3)

-- ---- the words of a line more

address_is : (a w : ℕ) → address_in (section_entry a w) ≡ a
address_is a w = omega arith

-- what holds of the entries before a line's words and after some of them
record Held (s : List ℕ) (i : ℕ) (l : List ℕ) : Type 0 where
  pub rises : Rises 0 l
  pub lies : Each (Lies s i) l

module _ (s : List ℕ) (i : ℕ) (p : misplaced s i ≡ false) (v : origin_at s i % 2 ≡ 0) where
  -- an address of this line is in none of the lines before
  lies-apart : (a : ℕ) → origin_at s i ≤ a → a < end_at s i → (b : ℕ) → Lies s i b → Not a b
  lies-apart a f t b z e =
      let q = apart s i p z.line z.earlier in
      true≢false (sym (rw (
        lt-ltb (origin_at s i) (end_at s z.line) (omega (arith, f, e, z.below)),
        lt-ltb (origin_at s z.line) (end_at s i) (omega (arith, t, e, z.from)),
        lt-ltb (origin_at s i) (end_at s i) (omega (arith, f, t)),
        lt-ltb (origin_at s z.line) (end_at s z.line) (omega (arith, z.from, z.below)),
      ) refl) ∙ q)

  -- an address of an earlier line, or of this one below m
  abbrev Upto : ℕ → ℕ → Type 0
  Upto m a = Lies s i a ⊎ ((origin_at s i ≤ a) × (a < m))

  record Stage (m : ℕ) (l : List ℕ) : Type 0 where
    pub rises : Rises 0 l
    upto : Each (Upto m) l

  upto-apart : (a : ℕ) (l : List ℕ) → origin_at s i ≤ a → a < end_at s i → Each (Upto a) l → Each (Not a) l
  upto-apart a [] f t u = tt
  upto-apart a (e ∷ l) f t u = (⊎_elim (λ z. lies-apart a f t (address_in e) z) (λ z q. omega (arith, q, z.1)) u.0, upto-apart a l f t u.1)

  upto-more : (m n : ℕ) (l : List ℕ) → m ≤ n → Each (Upto m) l → Each (Upto n) l
  upto-more m n [] h u = tt
  upto-more m n (e ∷ l) h u = (⊎_elim (λ z. inl z) (λ z. inr (z.0, omega (arith, h, z.1))) u.0, upto-more m n l h u.1)

  one_more : (y a w : ℕ) (l : List ℕ) → y ≡ a → origin_at s i ≤ a → a % 2 ≡ 0 → a < end_at s i → a < 65536 → Stage a l → Stage (a + 2) (inserted (section_entry y w) l)
  one_more y a w l q f v t b h =
      let k : address_in (section_entry y w) ≡ a = address_is y w ∙ q in
      let d : Each (Not (address_in (section_entry y w))) l = subst (λ (z : ℕ). Each (Not z) l) (sym k) (upto-apart a l f t h.upto) in
      record {
        rises = rises-more (section_entry y w) 0 l (omega arith) (rw k v) (rw k b) d h.rises;
        upto = each_more (Upto (a + 2)) (section_entry y w) l (subst (λ (z : ℕ). Upto (a + 2) z) (sym k) (inr (f, omega arith))) (upto-more a (a + 2) l (omega arith) h.upto);
      }

  begun : (l : List ℕ) → Held s i l → Stage (origin_at s i) l
  begun l h = record { rises = h.rises; upto = go l h.lies }
    where
      go : (l : List ℕ) → Each (Lies s i) l → Each (Upto (origin_at s i)) l
      go [] u = tt
      go (e ∷ l) u = (inl u.0, go l u.1)

  ended : (m : ℕ) (l : List ℕ) → m ≤ end_at s i → Stage m l → Held s (suc i) l
  ended m l t h = record { rises = h.rises; lies = go l h.upto }
    where
      one : (a : ℕ) → Upto m a → Lies s (suc i) a
      one a u =
          ⊎_elim (λ z. record { line = z.line; earlier = let q = z.earlier in omega arith; from = z.from; below = z.below })
          (λ z. record { line = i; earlier = omega arith; from = z.0; below = omega (arith, t, z.1) }) u

      go : (l : List ℕ) → Each (Upto m) l → Each (Lies s (suc i)) l
      go [] u = tt
      go (e ∷ l) u = (one (address_in e) u.0, go l u.1)

  end_is : end_at s i ≡ origin_at s i + 2 * (said_at s i).op.count
  unfolding end_at
  end_is = refl

  module _ (w : Op) (l : List ℕ) (e : w.count ≡ (said_at s i).op.count) (h : Held s i l) where
    top : end_at s i ≡ origin_at s i + 2 * w.count
    top = end_is ∙ ap (λ (n : ℕ). origin_at s i + 2 * n) (sym e)

    most : origin_at s i + 2 * w.count ≤ 65536
    most = omega (arith, top, ends-below s i p)

    one : 1 ≤ w.count → Stage (origin_at s i + 2) (inserted (section_entry (here_of s i) w.a) l)
    one c =
        let m = most in
        one_more (here_of s i) (origin_at s i) w.a l (omega arith) (omega arith) v (omega (arith, top, c)) (omega arith) (begun l h)

    two : 2 ≤ w.count → Stage (origin_at s i + 2 + 2) (inserted (section_entry (plus (here_of s i) 2) w.b) (inserted (section_entry (here_of s i) w.a) l))
    two c =
        let m = most in
        one_more (plus (here_of s i) 2) (origin_at s i + 2) w.b _ (omega arith) (omega arith) (omega arith) (omega (arith, top, c)) (omega arith) (one (omega arith))

    three : 3 ≤ w.count
        → Stage (origin_at s i + 2 + 2 + 2) (inserted (section_entry (plus (here_of s i) 4) w.c) (inserted (section_entry (plus (here_of s i) 2) w.b) (inserted (section_entry (here_of s i) w.a) l)))
    three c =
        let m = most in
        one_more (plus (here_of s i) 4) (origin_at s i + 2 + 2) w.c _ (omega arith) (omega arith) (omega arith) (omega (arith, top, c)) (omega arith) (two (omega arith))

    line-more : Held s (suc i) (entered w (here_of s i) l)
    unfolding entered
    line-more = third (ltb 2 w.count) refl
      where
        first : (b : Bool) → ltb 0 w.count ≡ b → Held s (suc i) (cond b (inserted (section_entry (here_of s i) w.a) l) l)
        first true q = ended _ _ (let c = ltb-true 0 w.count q in omega (arith, top, c)) (one (ltb-true 0 w.count q))
        first false q = ended _ _ (omega (arith, top)) (begun l h)

        second : (b : Bool) → ltb 1 w.count ≡ b
            → Held s (suc i) (cond b (inserted (section_entry (plus (here_of s i) 2) w.b) (inserted (section_entry (here_of s i) w.a) l)) (cond (ltb 0 w.count) (inserted (section_entry (here_of s i) w.a) l) l))
        second true q = ended _ _ (let c = ltb-true 1 w.count q in omega (arith, top, c)) (two (ltb-true 1 w.count q))
        second false q = first (ltb 0 w.count) refl

        third : (b : Bool) → ltb 2 w.count ≡ b
            → Held s (suc i) (cond b (inserted (section_entry (plus (here_of s i) 4) w.c) (inserted (section_entry (plus (here_of s i) 2) w.b) (inserted (section_entry (here_of s i) w.a) l))) (cond (ltb 1 w.count) (inserted (section_entry (plus (here_of s i) 2) w.b) (inserted (section_entry (here_of s i) w.a) l)) (cond (ltb 0 w.count) (inserted (section_entry (here_of s i) w.a) l) l)))
        third true q = ended _ _ (let c = ltb-true 2 w.count q in omega (arith, top, c)) (three (ltb-true 2 w.count q))
        third false q = second (ltb 1 w.count) refl

-- ---- all lines

held : (s : List ℕ) (i : ℕ) → InPlace s i → Held s i (words_placed s i)
unfolding words_placed
held s zero p = record { rises = tt; lies = tt }
held s (suc i) p =
    let q : InPlace s i = λ k l. p k (omega arith) in
    line-more s i (p i (omega arith)) (even s i q) (line_op s (here_of s i) (text_at s i)) (words_placed s i) (words_count s i) (held s i q)

pub placed-rises : PlacedRises
placed-rises s p = (held s (line_count s) p).rises
