-- Laws of the bits that operands have in the first word, over their places: one stands low, from bit 0 on, and the other above it.
use Rattle.std.proofs.Common.{◌≡◌, ℕ, ◌+◌, ◌-◌, ◌*◌, ◌/◌, ◌%◌, ◌<◌, ◌≤◌, Bool, true, false, cond, T, eqb, ltb, leb, sym, refl, ap, ◌∙◌, mul-le-mul_right, mod-lt, mul_assoc, mul_comm, lt_of_mul-lt-mul_right, div-add-mod', zero-mul, mul-one, div-one, arith, eqb→eq, ltb→lt, leb→le, eqb-true}
use native.Mathlib.Nat.{zero-div, div-div-eq-div-mul, add-mul-div_right, add-mul-mod_self_right}
use lib.Arith.{digits_div, digits_mod, mod-mul}
use Rattle.optext.specs.Rows.{OperandPlace, place_of, row_count, rows, the_row, base_of, first_of, second_of}
use Rattle.optext.specs.Line.{bits_of}
use Rattle.optext.proofs.Laws.Choose.{at, both, both_left, both_right, either, either-elim}

-- whatever the place, its bits are a quotient's remainder, moved back to where they stood
bits_are : (p : OperandPlace) (w : ℕ) → bits_of p w ≡ w / p.unit % p.size * p.unit
bits_are p w = go (eqb p.size 1) refl (eqb p.unit 1) refl
  where
    none : p.size ≡ 1 → 0 ≡ w / p.unit % p.size * p.unit
    none e =
        let z : w / p.unit % 1 ≡ 0 = omega arith in
        rw (e, z) (sym (zero-mul p.unit))

    low : p.unit ≡ 1 → w % p.size ≡ w / p.unit % p.size * p.unit
    low e = rw (e, div-one w) (sym (mul-one (w % p.size)))

    go : (a : Bool) → eqb p.size 1 ≡ a → (b : Bool) → eqb p.unit 1 ≡ b → cond a 0 (cond b (w % p.size) (w / p.unit % p.size * p.unit)) ≡ w / p.unit % p.size * p.unit
    go true e b f = none (eqb-true p.size 1 e)
    go false e true f = low (eqb-true p.unit 1 f)
    go false e false f = refl

-- the numbers that a place's bits may be
abbrev PartBy : Bool → Bool → ℕ → ℕ → ℕ → Type 0
PartBy true b u n a = a ≡ 0
PartBy false true u n a = a < n
PartBy false false u n a = (a / u * u ≡ a) × (a < n * u)

abbrev pub PartIn : OperandPlace → ℕ → Type 0
PartIn p a = PartBy (eqb p.size 1) (eqb p.unit 1) p.unit p.size a

-- each is a number below the size, moved to where the place stands
part-value : (p : OperandPlace) (a : ℕ) → PartIn p a → (a / p.unit * p.unit ≡ a) × (a / p.unit < p.size)
part-value p a = go (eqb p.size 1) refl (eqb p.unit 1) refl
  where
    go : (b : Bool) → eqb p.size 1 ≡ b → (c : Bool) → eqb p.unit 1 ≡ c → PartBy b c p.unit p.size a → (a / p.unit * p.unit ≡ a) × (a / p.unit < p.size)
    go true e c f h = rw (h, zero-div p.unit, eqb-true p.size 1 e) (zero-mul p.unit, omega arith)
    go false e true f h = rw (eqb-true p.unit 1 f, div-one a) (mul-one a, h)
    go false e false f h = (h.0, lt_of_mul-lt-mul_right p.unit (rw h.0 h.1))

-- the most that a place's bits can be
abbrev pub most : OperandPlace → ℕ
most p = (p.size - 1) * p.unit

value-le : (p : OperandPlace) (v : ℕ) → v < p.size → v * p.unit ≤ most p
value-le p v h = mul-le-mul_right p.unit (omega arith)

pub bits-le : (p : OperandPlace) (w : ℕ) → 0 < p.size → bits_of p w ≤ most p
bits-le p w h = rw (bits_are p w) (value-le p (w / p.unit % p.size) (mod-lt (w / p.unit) h))

pub part-le : (p : OperandPlace) (a : ℕ) → PartIn p a → a ≤ most p
part-le p a h = let v = part-value p a h in rw v.0 at (value-le p (a / p.unit) v.1)

-- a multiple of z and a number below z
under : (m z u : ℕ) → m % z ≡ 0 → u < z → ((m + u) % z ≡ u) × ((m + u) / z ≡ m / z)
under m z u e h =
    let q : m / z * z + 0 ≡ m = rw e at (div-add-mod' m z) in
    let s : m ≡ m / z * z = omega arith in
    (ap (λ (x : ℕ). (x + u) % z) s ∙ digits_mod (m / z) h, ap (λ (x : ℕ). (x + u) / z) s ∙ digits_div (m / z) h)

-- the base op code n leaves room for a low place of the size z and one of the size y from t on
record Room (z t y n : ℕ) : Type 0 where
  low : n % z ≡ 0
  even : t % z ≡ 0
  high : n / t % y ≡ 0
  apart : n % t + z ≤ t

-- ONE LAW OF TWO FIELDS: each is found in the word that both are put into
two_fields : (z t y n u v : ℕ) → Room z t y n → u < z → v < y → ((n + u + v * t) % z ≡ u) × ((n + u + v * t) / t % y ≡ v)
two_fields z t y n u v r lu lv = (
  ap (λ (x : ℕ). (n + u + x) % z) (ap (λ (x : ℕ). v * x) whole ∙ sym (mul_assoc v (t / z) z)) ∙ add-mul-mod_self_right (n + u) (v * (t / z)) z ∙ (under n z u r.low lu).0,
  ap (λ (x : ℕ). x % y) (add-mul-div_right (n + u) v pos ∙ ap (λ (x : ℕ). x + v) above) ∙ (under (n / t) y v r.high lv).0,
)
  where
    whole : t ≡ t / z * z
    whole = let q : t / z * z + 0 ≡ t = rw r.even at (div-add-mod' t z) in omega arith

    pos : 0 < t
    pos = let h = r.apart in omega arith

    above : (n + u) / t ≡ n / t
    above =
        let h = r.apart in
        let q : n / t * t + n % t ≡ n = div-add-mod' n t in
        let s : n + u ≡ n / t * t + (n % t + u) = omega arith in
        ap (λ (x : ℕ). x / t) s ∙ digits_div (n / t) (omega arith)

-- the two places of a row, the low one first
abbrev room : OperandPlace → OperandPlace → ℕ → Bool
room p q n =
    both (eqb p.unit 1) (both (eqb (n % p.size) 0) (both (eqb (q.unit % p.size) 0) (both (eqb (n / q.unit % q.size) 0) (leb (n % q.unit + p.size) q.unit))))

module _ (p q : OperandPlace) (n : ℕ) (t : T (room p q n)) where
  has_room : (p.unit ≡ 1) × Room p.size q.unit q.size n
  has_room =
      let t1 = both_right (eqb p.unit 1) _ t in
      let t2 = both_right (eqb (n % p.size) 0) _ t1 in
      let t3 = both_right (eqb (q.unit % p.size) 0) _ t2 in (
        eqb→eq p.unit 1 (both_left (eqb p.unit 1) _ t),
        record {
          low = eqb→eq (n % p.size) 0 (both_left (eqb (n % p.size) 0) _ t1);
          even = eqb→eq (q.unit % p.size) 0 (both_left (eqb (q.unit % p.size) 0) _ t2);
          high = eqb→eq (n / q.unit % q.size) 0 (both_left (eqb (n / q.unit % q.size) 0) _ t3);
          apart = leb→le (n % q.unit + p.size) q.unit (both_right (eqb (n / q.unit % q.size) 0) _ t3);
        },
      )

  low_bits : (w : ℕ) → bits_of p w ≡ w % p.size
  low_bits w = bits_are p w ∙ rw (has_room.0, div-one w) (mul-one (w % p.size))

  fields_in : (a b : ℕ) → PartIn p a → PartIn q b → (bits_of p (n + a + b) ≡ a) × (bits_of q (n + a + b) ≡ b)
  fields_in a b f g =
      let v = part-value q b g in
      let u : a < p.size = rw (has_room.0, div-one a) at (part-value p a f).1 in
      let h = two_fields p.size q.unit q.size n a (b / q.unit) has_room.1 u v.1 in
      (low_bits (n + a + b) ∙ rw v.0 at h.0, bits_are q (n + a + b) ∙ ap (λ (x : ℕ). x * q.unit) (rw v.0 at h.1) ∙ v.0)

-- the base op code leaves room for both operands, whichever is the low one
abbrev pub fit : OperandPlace → OperandPlace → ℕ → Bool
fit p q n = both (both (ltb 0 p.size) (ltb 0 q.size)) (either (room p q n) (room q p n))

pub fields : (p q : OperandPlace) (n : ℕ) → T (fit p q n) → (a b : ℕ) → PartIn p a → PartIn q b → (bits_of p (n + a + b) ≡ a) × (bits_of q (n + a + b) ≡ b)
fields p q n t a b f g =
    either-elim (room p q n) (room q p n) _ (λ r. fields_in p q n r a b f g)
    (λ r. let h = fields_in q p n r b a g f in let e : n + b + a ≡ n + a + b = omega arith in (rw e at h.1, rw e at h.0))
    (both_right (both (ltb 0 p.size) (ltb 0 q.size)) _ t)

pub sizes : (p q : OperandPlace) (n : ℕ) → T (fit p q n) → (0 < p.size) × (0 < q.size)
sizes p q n t =
    let s = both_left (both (ltb 0 p.size) (ltb 0 q.size)) _ t in
    (ltb→lt 0 p.size (both_left (ltb 0 p.size) _ s), ltb→lt 0 q.size (both_right (ltb 0 p.size) _ s))

-- The words of a row stand in blocks. A block begins at a multiple of its size, and the row that makes its first word makes all of it: the size is the low place's, or both places' where one follows the other.
abbrev grain : OperandPlace → OperandPlace → ℕ
grain p q = cond (eqb q.unit p.size) (q.size * p.size) p.size

abbrev Grows : OperandPlace → OperandPlace → ℕ → ℕ → Type 0
Grows p q n g = (z d : ℕ) → z % g ≡ 0 → d < g → n + bits_of p z + bits_of q z ≡ z → n + bits_of p (z + d) + bits_of q (z + d) ≡ z + d

module _ (p q : OperandPlace) (n : ℕ) (t : T (room p q n)) (s : (0 < p.size) × (0 < q.size)) where
  grows_in : Grows p q n (grain p q)
  grows_in = go (eqb q.unit p.size) refl
    where
      r : Room p.size q.unit q.size n
      r = (has_room p q n t).1

      -- one place follows the other: they are one
      joined : q.unit ≡ p.size → (w : ℕ) → bits_of p w + bits_of q w ≡ w % (q.size * p.size)
      joined e w =
          let m = mod-mul w s.1 s.0 in
          let a = low_bits p q n t w in
          let b : bits_of q w ≡ w / p.size % q.size * p.size = bits_are q w ∙ ap (λ (x : ℕ). w / x % q.size * x) e in
          omega arith

      one : q.unit ≡ p.size → Grows p q n (q.size * p.size)
      one e z d m h i =
          let a = joined e z in
          let b = joined e (z + d) in
          let c = (under z (q.size * p.size) d m h).0 in
          omega arith

      -- the low place alone
      two : Grows p q n p.size
      two z d m h i =
          let l = under z p.size d m h in
          let g = q.unit / p.size in
          let w : q.unit ≡ p.size * g = let k : g * p.size + 0 ≡ q.unit = rw r.even at (div-add-mod' q.unit p.size) in let c = mul_comm p.size g in omega arith in
          let a : (z + d) / q.unit ≡ z / q.unit = ap (λ (x : ℕ). (z + d) / x) w ∙ sym (div-div-eq-div-mul (z + d) p.size g) ∙ ap (λ (x : ℕ). x / g) l.1 ∙ div-div-eq-div-mul z p.size g ∙ ap (λ (x : ℕ). z / x) (sym w) in
          let b : bits_of q (z + d) ≡ bits_of q z = bits_are q (z + d) ∙ ap (λ (x : ℕ). x % q.size * q.unit) a ∙ sym (bits_are q z) in
          let c : bits_of p (z + d) ≡ d = low_bits p q n t (z + d) ∙ l.0 in
          let e : bits_of p z ≡ 0 = low_bits p q n t z ∙ m in
          omega arith

      go : (b : Bool) → eqb q.unit p.size ≡ b → Grows p q n (cond b (q.size * p.size) p.size)
      go true e = one (eqb-true q.unit p.size e)
      go false e = two

abbrev pub block : OperandPlace → OperandPlace → ℕ → ℕ
block p q n = cond (room p q n) (grain p q) (grain q p)

pub grows : (p q : OperandPlace) (n : ℕ) → T (fit p q n) → Grows p q n (block p q n)
grows p q n t = go (room p q n) refl (both_right (both (ltb 0 p.size) (ltb 0 q.size)) _ t)
  where
    turned : (z x y : ℕ) → n + x + y ≡ z → n + y + x ≡ z
    turned z x y e = omega arith

    go : (b : Bool) → room p q n ≡ b → T (either b (room q p n)) → Grows p q n (cond b (grain p q) (grain q p))
    go true e h = grows_in p q n (rw e tt) (sizes p q n t)
    go false e h = λ z d m l i. turned (z + d) (bits_of q (z + d)) (bits_of p (z + d)) (grows_in q p n h (let s = sizes p q n t in (s.1, s.0)) z d m l (turned z (bits_of p z) (bits_of q z) i))

fit_at : ℕ → Bool
fit_at k = fit (place_of (first_of k)) (place_of (second_of k)) (base_of k)

pub row-fit : (k : ℕ) → k < row_count → T (fit (place_of (first_of k)) (place_of (second_of k)) (base_of k))
unfolding fit_at the_row rows
row-fit k h = at fit_at row_count tt k h
