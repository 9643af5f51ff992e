-- Numbers that are joined by |: a test that each of them passes is a test of them all. Four bytes side by side.
use Rattle.std.proofs.Common.{◌≡◌, ℕ, zero, suc, ◌+◌, ◌*◌, ◌/◌, ◌%◌, ◌^◌, ◌<◌, ◌≤◌, Bool, true, false, ◌&&◌, eqb, ltb, List, length, get_or, drop, sym, refl, ap, ◌∙◌, ap₂, arith, ltb-false, ltb-true, le-ltb, lt-ltb}
use lib.Bits.{bit_or, or_add_and, and_le_l, and_le_r, or_shr, or_mod, or_lt}
use lib.Dec.{eqb-suc-zero}
use Rattle.refusal.specs.Refusal.{all_of, plain, flat}
use Rattle.refusal.proofs.Laws.Refusal.{all_more, all-fails, all_end}

-- what is joined is no less than each part, and no more than both
record Joined (o a b : ℕ) : Type 0 where
  first : a ≤ o
  second : b ≤ o
  both : o ≤ a + b

joined : (a b : ℕ) → Joined (bit_or a b) a b
joined a b =
    let e = or_add_and a b in
    let l = and_le_l a b in
    let r = and_le_r a b in
    record { first = omega (arith, e, l, r); second = omega (arith, e, l, r); both = omega (arith, e, l, r) }

-- ---- a test of all, one by one

and-true : (p : Bool) → p && true ≡ p
and-true true = refl
and-true false = refl

and-false : (p : Bool) → p && false ≡ false
and-false true = refl
and-false false = refl

and-and : (p q r : Bool) → (p && q) && r ≡ p && (q && r)
and-and true q r = refl
and-and false q r = refl

-- the element at i, and those from j
one_more : (p : ℕ → Bool) (l : List ℕ) (i j : ℕ) → j ≡ i + 1 → i < length l → all_of p (drop i l) ≡ p (get_or l i 0) && all_of p (drop j l)
one_more p l i j e h = by (p (get_or l i 0)) refl
  where
    by : (q : Bool) → p (get_or l i 0) ≡ q → all_of p (drop i l) ≡ q && all_of p (drop j l)
    by true f = sym (ap (λ (n : ℕ). all_of p (drop n l)) e ∙ all_more p l i 0 h f)
    by false f = all-fails p l i 0 h f

-- ---- line words

-- the bits that are not used, added up
abbrev unused : ℕ → ℕ
unused x = x / 4 % 2 + x / 16 % 8 + x / 4096

field : (a b j k : ℕ) → bit_or a b / 2 ^ j % 2 ^ k ≡ bit_or (a / 2 ^ j % 2 ^ k) (b / 2 ^ j % 2 ^ k)
field a b j k = ap (λ (x : ℕ). x % 2 ^ k) (or_shr a b j) ∙ or_mod (a / 2 ^ j) (b / 2 ^ j) k

unused-joined : (a b : ℕ) → Joined (unused (bit_or a b)) (unused a) (unused b)
unused-joined a b =
    let e₁ : bit_or a b / 4 % 2 ≡ bit_or (a / 4 % 2) (b / 4 % 2) = field a b 2 1 in
    let e₂ : bit_or a b / 16 % 8 ≡ bit_or (a / 16 % 8) (b / 16 % 8) = field a b 4 3 in
    let e₃ : bit_or a b / 4096 ≡ bit_or (a / 4096) (b / 4096) = or_shr a b 12 in
    let j₁ = joined (a / 4 % 2) (b / 4 % 2) in
    let j₂ = joined (a / 16 % 8) (b / 16 % 8) in
    let j₃ = joined (a / 4096) (b / 4096) in
    rw (e₁, e₂, e₃) (record {
      first = omega (arith, j₁.first, j₂.first, j₃.first);
      second = omega (arith, j₁.second, j₂.second, j₃.second);
      both = omega (arith, j₁.both, j₂.both, j₃.both);
    })

none : (o a b : ℕ) → Joined o a b → eqb o 0 ≡ eqb a 0 && eqb b 0
none zero zero zero j = refl
none zero zero (suc b) j = absurd (omega (arith, j.second))
none zero (suc a) b j = absurd (omega (arith, j.first))
none (suc o) zero zero j = absurd (omega (arith, j.both))
none (suc o) zero (suc b) j = eqb-suc-zero o ∙ sym (eqb-suc-zero b)
none (suc o) (suc a) b j = eqb-suc-zero o ∙ sym (ap (λ (x : Bool). x && eqb b 0) (eqb-suc-zero a))

plain-or : (a b : ℕ) → plain (bit_or a b) ≡ plain a && plain b
plain-or a b = none (unused (bit_or a b)) (unused a) (unused b) (unused-joined a b)

-- a line word more, and no more
pub plain_more : (l : List ℕ) (i seen : ℕ) → i < length l → plain (bit_or seen (get_or l i 0)) && all_of plain (drop (i + 1) l) ≡ plain seen && all_of plain (drop i l)
plain_more l i seen h =
    ap (λ (x : Bool). x && all_of plain (drop (i + 1) l)) (plain-or seen (get_or l i 0))
    ∙ and-and (plain seen) (plain (get_or l i 0)) (all_of plain (drop (i + 1) l))
    ∙ ap (λ (x : Bool). plain seen && x) (sym (one_more plain l i (i + 1) refl h))

pub seen_all : (q : Bool) (p : ℕ → Bool) (l : List ℕ) (i : ℕ) → i ≡ length l → q && all_of p (drop i l) ≡ q
seen_all q p l i e = ap (λ (x : Bool). q && x) (all_end p l i e) ∙ and-true q

-- ---- bytes of the map, four side by side

-- what is joined is below 4 where both are
below : (a b : ℕ) → ltb (bit_or a b) 4 ≡ ltb a 4 && ltb b 4
below a b = by (ltb a 4) (ltb b 4) refl refl
  where
    by : (p q : Bool) → ltb a 4 ≡ p → ltb b 4 ≡ q → ltb (bit_or a b) 4 ≡ p && q
    by true true e f = lt-ltb _ _ (or_lt 2 a b (ltb-true a 4 e) (ltb-true b 4 f))
    by true false e f = le-ltb (bit_or a b) 4 (omega (arith, (joined a b).second, ltb-false b 4 f))
    by false q e f = le-ltb (bit_or a b) 4 (omega (arith, (joined a b).first, ltb-false a 4 e))

-- each of the n low bytes is below 4
unfoldable pub lows : ℕ → ℕ → Bool
lows zero x = true
lows (suc n) x = ltb (x % 256) 4 && lows n (x / 256)

swap : (p q r s : Bool) → (p && q) && (r && s) ≡ (p && r) && (q && s)
swap true true r s = refl
swap true false true s = refl
swap true false false s = refl
swap false q r s = refl

lows-or : (n a b : ℕ) → lows n (bit_or a b) ≡ lows n a && lows n b
unfolding lows
lows-or zero a b = refl
lows-or (suc n) a b =
    ap₂ (λ (x y : Bool). x && y) (ap (λ (x : ℕ). ltb x 4) (or_mod a b 8) ∙ below (a % 256) (b % 256)) (ap (λ (x : ℕ). lows n x) (or_shr a b 8) ∙ lows-or n (a / 256) (b / 256))
    ∙ swap (ltb (a % 256) 4) (ltb (b % 256) 4) (lows n (a / 256)) (lows n (b / 256))

lows-join : (n a h : ℕ) → a < 256 → lows (suc n) (a + h * 256) ≡ ltb a 4 && lows n h
unfolding lows
lows-join n a h l =
    let low : (a + h * 256) % 256 ≡ a = omega (arith, l) in
    let high : (a + h * 256) / 256 ≡ h = omega (arith, l) in
    ap₂ (λ (x y : ℕ). ltb x 4 && lows n y) low high

abbrev pub four : ℕ → ℕ → ℕ → ℕ → ℕ
four a b c d = a + (b + (c + d * 256) * 256) * 256

abbrev each : (ℕ → Bool) → ℕ → ℕ → ℕ → ℕ → Bool
each p a b c d = p a && (p b && (p c && p d))

lows-four : (a b c d : ℕ) → a < 256 → b < 256 → c < 256 → d < 256 → lows 4 (four a b c d) ≡ each (λ x. ltb x 4) a b c d
unfolding lows
lows-four a b c d ha hb hc hd =
    let same : d % 256 ≡ d = omega (arith, hd) in
    let last : lows 1 d ≡ ltb d 4 = ap (λ (x : ℕ). ltb x 4 && true) same ∙ and-true (ltb d 4) in
    lows-join 3 a (b + (c + d * 256) * 256) ha
    ∙ ap (λ (x : Bool). ltb a 4 && x) (lows-join 2 b (c + d * 256) hb
    ∙ ap (λ (x : Bool). ltb b 4 && x) (lows-join 1 c d hc ∙ ap (λ (x : Bool). ltb c 4 && x) last))

step : (x : ℕ) → ltb (x + 1) 4 ≡ flat x
step x = by (flat x) refl
  where
    by : (p : Bool) → flat x ≡ p → ltb (x + 1) 4 ≡ p
    by true e = lt-ltb (x + 1) 4 (omega (arith, ltb-true x 3 e))
    by false e = le-ltb (x + 1) 4 (omega (arith, ltb-false x 3 e))

high : (x : ℕ) → ltb x 4 ≡ false → flat x ≡ false
high x e = le-ltb x 3 (omega (arith, ltb-false x 4 e))

-- each is 0, 1 or 2 where each is below 4 and so is the next number
flat-four : (a b c d : ℕ) → a < 256 → b < 256 → c < 256 → d < 256 → lows 4 (four a b c d) && lows 4 ((four a b c d + 16843009) % 2 ^ 32) ≡ each flat a b c d
flat-four a b c d ha hb hc hd = ap (λ (x : Bool). x && lows 4 ((four a b c d + 16843009) % 2 ^ 32)) (lows-four a b c d ha hb hc hd) ∙ by (ltb a 4) (ltb b 4) (ltb c 4) (ltb d 4) refl refl refl refl
  where
    by : (p q r s : Bool) → ltb a 4 ≡ p → ltb b 4 ≡ q → ltb c 4 ≡ r → ltb d 4 ≡ s → (p && (q && (r && s))) && lows 4 ((four a b c d + 16843009) % 2 ^ 32) ≡ each flat a b c d
    by true true true true e f g h =
        let sum : (four a b c d + 16843009) % 2 ^ 32 ≡ four (a + 1) (b + 1) (c + 1) (d + 1) = omega (arith, ltb-true a 4 e, ltb-true b 4 f, ltb-true c 4 g, ltb-true d 4 h) in
        ap (λ (x : ℕ). lows 4 x) sum
        ∙ lows-four (a + 1) (b + 1) (c + 1) (d + 1) (omega (arith, ltb-true a 4 e)) (omega (arith, ltb-true b 4 f)) (omega (arith, ltb-true c 4 g)) (omega (arith, ltb-true d 4 h))
        ∙ rw (step a, step b, step c, step d) refl
    by true true true false e f g h = rw (high d h, and-false (flat c), and-false (flat b), and-false (flat a)) refl
    by true true false s e f g h = rw (high c g, and-false (flat b), and-false (flat a)) refl
    by true false r s e f g h = rw (high b f, and-false (flat a)) refl
    by false q r s e f g h = rw (high a e) refl

all-four : (l : List ℕ) (i : ℕ) → i + 4 ≤ length l → all_of flat (drop i l) ≡ each flat (get_or l i 0) (get_or l (i + 1) 0) (get_or l (i + 2) 0) (get_or l (i + 3) 0) && all_of flat (drop (i + 4) l)
all-four l i h =
    one_more flat l i (i + 1) refl (omega (arith, h))
    ∙ ap (λ (x : Bool). flat (get_or l i 0) && x) (one_more flat l (i + 1) (i + 2) (omega arith) (omega (arith, h))
    ∙ ap (λ (x : Bool). flat (get_or l (i + 1) 0) && x) (one_more flat l (i + 2) (i + 3) (omega arith) (omega (arith, h))
    ∙ ap (λ (x : Bool). flat (get_or l (i + 2) 0) && x) (one_more flat l (i + 3) (i + 4) (omega arith) (omega (arith, h)))))
    ∙ sym (and-and (flat (get_or l i 0)) (flat (get_or l (i + 1) 0) && (flat (get_or l (i + 2) 0) && flat (get_or l (i + 3) 0))) (all_of flat (drop (i + 4) l))
    ∙ ap (λ (x : Bool). flat (get_or l i 0) && x) (and-and (flat (get_or l (i + 1) 0)) (flat (get_or l (i + 2) 0) && flat (get_or l (i + 3) 0)) (all_of flat (drop (i + 4) l))
    ∙ ap (λ (x : Bool). flat (get_or l (i + 1) 0) && x) (and-and (flat (get_or l (i + 2) 0)) (flat (get_or l (i + 3) 0)) (all_of flat (drop (i + 4) l)))))

-- the four bytes at i side by side
pub record Four (l : List ℕ) (i w : ℕ) : Type 0 where
  pub word : w ≡ four (get_or l i 0) (get_or l (i + 1) 0) (get_or l (i + 2) 0) (get_or l (i + 3) 0)
  pub first : get_or l i 0 < 256
  pub second : get_or l (i + 1) 0 < 256
  pub third : get_or l (i + 2) 0 < 256
  pub fourth : get_or l (i + 3) 0 < 256

-- four bytes more: each is 0, 1 or 2 where all numbers that were seen are below 4, and so are the next ones
pub flat-more : (l : List ℕ) (i seen next w v : ℕ) → i + 4 ≤ length l → Four l i w → v ≡ (w + 16843009) % 2 ^ 32
    → (lows 4 (bit_or seen w) && lows 4 (bit_or next v)) && all_of flat (drop (i + 4) l) ≡ (lows 4 seen && lows 4 next) && all_of flat (drop i l)
flat-more l i seen next w v h f e =
    let rest : Bool = all_of flat (drop (i + 4) l) in
    let both : lows 4 w && lows 4 v ≡ each flat (get_or l i 0) (get_or l (i + 1) 0) (get_or l (i + 2) 0) (get_or l (i + 3) 0) =
    ap₂ (λ (x y : ℕ). lows 4 x && lows 4 y) f.word (e ∙ ap (λ (x : ℕ). (x + 16843009) % 2 ^ 32) f.word)
    ∙ flat-four (get_or l i 0) (get_or l (i + 1) 0) (get_or l (i + 2) 0) (get_or l (i + 3) 0) f.first f.second f.third f.fourth in
    ap₂ (λ (x y : Bool). (x && y) && rest) (lows-or 4 seen w) (lows-or 4 next v)
    ∙ ap (λ (x : Bool). x && rest) (swap (lows 4 seen) (lows 4 w) (lows 4 next) (lows 4 v))
    ∙ and-and (lows 4 seen && lows 4 next) (lows 4 w && lows 4 v) rest
    ∙ ap (λ (x : Bool). (lows 4 seen && lows 4 next) && x) (ap (λ (x : Bool). x && rest) both ∙ sym (all-four l i h))

-- the test of a number's four bytes as it is written
pub lows-all : (x : ℕ) → ltb (x % 256) 4 && (ltb (x / 256 % 256) 4 && (ltb (x / 256 / 256 % 256) 4 && ltb (x / 256 / 256 / 256 % 256) 4)) ≡ lows 4 x
unfolding lows
lows-all x = ap (λ (y : Bool). ltb (x % 256) 4 && (ltb (x / 256 % 256) 4 && (ltb (x / 256 / 256 % 256) 4 && y))) (sym (and-true (ltb (x / 256 / 256 / 256 % 256) 4)))
