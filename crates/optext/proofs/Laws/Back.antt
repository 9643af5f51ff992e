-- Reading back what was written: each piece of the guess undoes its piece of the line, whatever follows it.
use Rattle.std.proofs.Common.{◌≡◌, ℕ, zero, suc, ◌+◌, ◌*◌, ◌/◌, ◌%◌, ◌<◌, ◌≤◌, Bool, true, false, cond, eqb, ltb, leb, List, ◌∷◌, ◌++◌, length, get_or, drop, sym, refl, ap, ◌∙◌, subst, ⊎_elim, zero-add, add-one, arith, eqb→eq, ltb→lt, leb→le, drop-drop, le-ltb, lt-ltb, eq-eqb, ne_eqb}
use Rattle.optext.specs.declared.rows.OperandKind.{OperandKind}
use Rattle.optext.specs.declared.rows.OperandKind.TheVariants.{None, Mask, Disp, Reg, Arg4, Arg6, Count, High, Mid, Dst, Addr, Src, Word}
use Rattle.hexdigits.specs.Digits.{digits, hex_of, hex4, hex2}
use Rattle.optext.specs.Digits.{un_hex, un_hex4, un_hex2}
use Rattle.optext.specs.Rows.{row_count, row_width, rows, the_row, base_of}
use Rattle.optext.specs.Line.{registers, reg_a, reg_b, reg_text, up_text, literal_text, down_text, offset_text, plain_text, mode_text, mode_takes, is_reserved, operand_text, takes, field_of}
use Rattle.optext.specs.Guess.{un_count, un_reg, not_pc, operand_read, at_bit6, un_plain, un_mode, addressed, un_word, un_op}
use Rattle.optext.proofs.Laws.Choose.{eq-cases, at}
use Rattle.optext.proofs.Laws.Table.{row-count, table_bytes, flat-drop, base-lt}
use Rattle.optext.proofs.Laws.Forms.{plain-elim, mode-plain, mode-at}
use Rattle.optext.proofs.Laws.Reserved.{reserved-elim}
use Rattle.optext.proofs.Laws.Inside.{Allowed}

-- an operand's own word, by the number of words that it takes: x, or 0
unfoldable pub own_of : ℕ → ℕ → ℕ
own_of n x = cond (eqb n 1) x 0

abbrev plain_takes : ℕ → ℕ → ℕ
plain_takes p r = cond (eqb p 3) 1 (cond (eqb p 1) (cond (eqb r 7) 1 0) 0)

abbrev pub word_of : OperandKind → ℕ → ℕ → ℕ
word_of k w x = own_of (takes k w) x

-- digits
pub hex-back : (d : ℕ) → d < 16 → un_hex (hex_of d) ≡ d
unfolding hex_of un_hex digits
hex-back d h = eqb→eq (un_hex (hex_of d)) d (at (λ d. eqb (un_hex (hex_of d)) d) 16 tt d h)

pub digit_low : (d : ℕ) → d < 16 → 48 ≤ hex_of d
unfolding hex_of digits
digit_low d h = leb→le 48 (hex_of d) (at (λ d. leb 48 (hex_of d)) 16 tt d h)

pub digit-high : (d : ℕ) → d < 16 → hex_of d < 71
unfolding hex_of digits
digit-high d h = ltb→lt (hex_of d) 71 (at (λ d. ltb (hex_of d) 71) 16 tt d h)

no_sign : ℕ → Bool
no_sign d = cond (eqb (hex_of d) 64) false true

digit-sign : (d : ℕ) → d < 16 → hex_of d ≡ 64 → ⊥
unfolding no_sign hex_of digits
digit-sign d h e = rw (eq-eqb (hex_of d) 64 e) at (at no_sign 16 tt d h)

pub hex4-back : (x : ℕ) (t : List ℕ) → x < 65536 → un_hex4 (hex4 x ++ t) ≡ x
unfolding un_hex4 hex4
hex4-back x t h =
    rw (hex-back (x / 4096) (omega arith), hex-back (x / 256 % 16) (omega arith), hex-back (x / 16 % 16) (omega arith), hex-back (x % 16) (omega arith))
    (omega arith)

-- the base op code stands after the five places of the mnemonic
pub base-part : (k : ℕ) (t : List ℕ) → k < row_count → t ≡ table_bytes rows → un_hex4 (drop (k * row_width + 5) t) ≡ base_of k
unfolding the_row hex4
base-part k t h e =
    rw (e, ← drop-drop 5 (k * row_width) (table_bytes rows), flat-drop rows k (rw row-count h)) (hex4-back (base_of k) _ (base-lt k h))

pub hex2-back : (x : ℕ) (t : List ℕ) → x < 256 → un_hex2 (hex2 x ++ t) ≡ x
unfolding un_hex2 hex2
hex2-back x t h = rw (hex-back (x / 16) (omega arith), hex-back (x % 16) (omega arith)) (omega arith)

first-15 : eqb (hex_of 15) 55 ≡ false
unfolding hex_of digits
first-15 = refl

first-7 : eqb (hex_of 7) 55 ≡ true
unfolding hex_of digits
first-7 = refl

pub quarter : (n : ℕ) → n % 4 ≡ 0 → n % 16 / 4 * 4 ≡ n % 16
quarter n h = omega arith

digits_sum : (w : ℕ) → w / 4096 * 4096 + w / 256 % 16 * 256 + w / 16 % 16 * 16 + w % 16 ≡ w
digits_sum w = omega arith

-- a word that .WORD may hold
un_word-back : (w : ℕ) (t : List ℕ) → w < 65536 → is_reserved w ≡ true → un_word (hex4 w ++ t) ≡ w
unfolding un_word hex4
un_word-back w t l r = reserved-elim w (un_word (hex4 w ++ t) ≡ w) r high low
  where
    b : un_hex (hex_of (w / 256 % 16)) ≡ w / 256 % 16
    b = hex-back (w / 256 % 16) (omega arith)

    c : un_hex (hex_of (w / 16 % 16)) ≡ w / 16 % 16
    c = hex-back (w / 16 % 16) (omega arith)

    d : un_hex (hex_of (w % 16)) ≡ w % 16
    d = hex-back (w % 16) (omega arith)

    high : 240 ≤ w / 256 → un_word (hex4 w ++ t) ≡ w
    high h = let e : w / 4096 ≡ 15 = omega arith in rw (e, first-15, b, c, d) (omega arith)

    low : w / 1024 ≡ 28 → w / 8 % 8 ≡ 0 → un_word (hex4 w ++ t) ≡ w
    low h m =
        let e : w / 4096 ≡ 7 = omega arith in
        let f : w / 256 % 16 % 4 ≡ w / 256 % 16 = omega arith in
        let g = quarter (w / 16) (omega arith) in
        let k : w % 16 % 8 ≡ w % 16 = omega arith in
        let v = digits_sum w in
        rw (e, first-7, b, c, d, f, k) (omega (arith, e, g, v))

pub count-back : (d : ℕ) (t : List ℕ) → d < 16 → un_count (hex2 (d + 1) ++ t) ≡ d
unfolding un_count hex2 hex_of un_hex digits
count-back d t h = eqb→eq (un_count (hex2 (d + 1))) d (at (λ d. eqb (un_count (hex2 (d + 1))) d) 16 tt d h)

-- registers
pub reg-back : (r : ℕ) → r < 8 → un_reg (reg_a r) (reg_b r) ≡ r
unfolding reg_a reg_b un_reg registers
reg-back r h = eqb→eq (un_reg (reg_a r) (reg_b r)) r (at (λ r. eqb (un_reg (reg_a r) (reg_b r)) r) 8 tt r h)

pub reg-high : (r : ℕ) → r < 8 → 71 ≤ reg_a r
unfolding reg_a registers
reg-high r h = leb→le 71 (reg_a r) (at (λ r. leb 71 (reg_a r)) 8 tt r h)

pc-back : (x : ℕ) (t : List ℕ) → x < 65536 → un_plain (plain_text 1 7 x ++ t) ≡ operand_read 23 (own_of (plain_takes 1 7) x) (length (plain_text 1 7 x))
unfolding plain_text literal_text un_plain own_of hex4
pc-back x t l = ap (λ (y : ℕ). operand_read 23 y 5) (hex4-back x t l)

plain_back : (p r x : ℕ) (t : List ℕ) → p < 4 → r < 8 → x < 65536
    → un_plain (plain_text p r x ++ t) ≡ operand_read (p * 16 + r) (own_of (plain_takes p r) x) (length (plain_text p r x))
unfolding plain_text reg_text up_text literal_text down_text offset_text un_plain own_of hex4 not_pc
plain_back zero r x t h g l =
    let k = reg-high r g in
    rw (ne_eqb (reg_a r) 40 (λ e. omega arith), ne_eqb (reg_a r) 45 (λ e. omega arith), ne_eqb (reg_a r) 35 (λ e. omega arith), le-ltb (reg_a r) 71 k, reg-back r g, zero-add r)
    refl
plain_back (suc zero) r x t h g l =
    ⊎_elim (λ e. subst (λ (r : ℕ). un_plain (plain_text 1 r x ++ t) ≡ operand_read (16 + r) (own_of (plain_takes 1 r) x) (length (plain_text 1 r x))) (sym e) (pc-back x t l)) (λ e. rw (ne_eqb r 7 e, reg-back r g, ne_eqb r 7 e) refl) (eq-cases r 7)
plain_back (suc (suc zero)) r x t h g l = rw (reg-back r g) refl
plain_back (suc (suc (suc zero))) r x t h g l =
    let d = digit_low (x / 4096) (omega arith) in
    let u = digit-high (x / 4096) (omega arith) in
    rw (ne_eqb (hex_of (x / 4096)) 40 (λ e. omega arith), ne_eqb (hex_of (x / 4096)) 45 (λ e. omega arith), ne_eqb (hex_of (x / 4096)) 35 (λ e. omega arith), lt-ltb (hex_of (x / 4096)) 71 u, reg-back r g, hex4-back x (40 ∷ reg_a r ∷ reg_b r ∷ 41 ∷ t) l)
    refl
plain_back (suc (suc (suc (suc p)))) r x t h g l = absurd (omega arith)

-- none begins with @
pub plain-sign : (p r x : ℕ) (t : List ℕ) → r < 8 → x < 65536 → get_or (plain_text p r x ++ t) 0 0 ≡ 64 → ⊥
unfolding reg_text up_text literal_text down_text offset_text hex4
plain-sign p r x t g l =
    plain-elim (λ (s : List ℕ). get_or (s ++ t) 0 0 ≡ 64 → ⊥) p r x (λ e. above (reg_a r) (reg-high r g) e) (other 35 (omega arith)) (other 40 (omega arith)) (other 45 (omega arith)) (digit-sign (x / 4096) (omega arith))
  where
    above : (n : ℕ) → 71 ≤ n → n ≡ 64 → ⊥
    above n h e = omega arith

    other : (n : ℕ) → n < 64 → n ≡ 64 → ⊥
    other n h e = omega arith

mode-back : (f x : ℕ) (t : List ℕ) → f < 64 → x < 65536 → un_mode (mode_text f x ++ t) ≡ operand_read f (own_of (mode_takes f) x) (length (mode_text f x))
unfolding mode_takes un_mode
mode-back f x t h l =
    let p : f / 16 < 4 = omega arith in
    let r : f % 8 < 8 = omega arith in
    ⊎_elim
    (λ q. rw (mode-plain f x q, ne_eqb (get_or (plain_text (f / 16) (f % 8) x ++ t) 0 0) 64 (plain-sign (f / 16) (f % 8) x t r l), plain_back (f / 16) (f % 8) x t p r l)
    (ap (λ (y : ℕ). operand_read y (own_of (plain_takes (f / 16) (f % 8)) x) (length (plain_text (f / 16) (f % 8) x))) (omega arith)))
    (λ q. rw (mode-at f x q, plain_back (f / 16) (f % 8) x t p r l, add-one (length (plain_text (f / 16) (f % 8) x)))
    (ap (λ (y : ℕ). operand_read y (own_of (plain_takes (f / 16) (f % 8)) x) (suc (length (plain_text (f / 16) (f % 8) x)))) (omega arith)))
    (eq-cases (f / 8 % 2) 0)

pub addressed-same : (f : ℕ) → 8 ≤ f → addressed f ≡ f
unfolding addressed
addressed-same f h = rw (le-ltb f 8 h) refl

pub op-back : (k : OperandKind) (w x : ℕ) (t : List ℕ) → w < 65536 → x < 65536 → Allowed k w
    → un_op k (operand_text k w x ++ t) ≡ operand_read (field_of k w) (word_of k w x) (length (operand_text k w x))
unfolding hex4 hex2 reg_text own_of
op-back None w x t g l a = refl
op-back Mask w x t g l a = ap (λ (y : ℕ). operand_read 0 y 4) (hex4-back x t l)
op-back Disp w x t g l a = ap (λ (y : ℕ). operand_read y 0 2) (hex2-back (w % 256) t (omega arith))
op-back Reg w x t g l a = ap (λ (y : ℕ). operand_read y 0 2) (reg-back (w % 8) (omega arith))
op-back Arg4 w x t g l a = ap (λ (y : ℕ). operand_read y 0 1) (hex-back (w % 16) (omega arith))
op-back Arg6 w x t g l a =
    let e = hex2-back (w % 64) t (omega arith) in
    ap (λ (y : ℕ). operand_read y 0 2) (ap (λ (y : ℕ). y % 64) e ∙ omega arith)
op-back Count w x t g l a = ap (λ (y : ℕ). operand_read y 0 2) (count-back (w % 16) t (omega arith))
op-back High w x t g l a = ap (λ (y : ℕ). operand_read (y * 64) 0 2) (reg-back (w / 64 % 8) (omega arith))
op-back Mid w x t g l a = ap (λ (y : ℕ). operand_read (y * 8) 0 2) (reg-back (w / 8 % 8) (omega arith))
op-back Dst w x t g l a = mode-back (w % 64) x t (omega arith) l
op-back Addr w x t g l a = rw (mode-back (w % 64) x t (omega arith) l, addressed-same (w % 64) (a.0 tt)) refl
op-back Src w x t g l a = ap at_bit6 (mode-back (w / 64 % 64) x t (omega arith) l)
op-back Word w x t g l a = ap (λ (y : ℕ). operand_read y 0 4) (un_word-back w t g (a.1 tt) ∙ omega arith)

-- a word that is not taken is not shown
plain-ignores : (p r x y : ℕ) → p < 4 → plain_takes p r ≡ 0 → plain_text p r x ≡ plain_text p r y
unfolding plain_text
plain-ignores zero r x y h e = refl
plain-ignores (suc zero) r x y h e = ⊎_elim (λ q. absurd (taken (rw (eq-eqb r 7 q) at e))) (λ q. rw (ne_eqb r 7 q) refl) (eq-cases r 7)
  where
    taken : ◌≡◌ {A = ℕ} 1 0 → ⊥
    taken e = omega arith
plain-ignores (suc (suc zero)) r x y h e = refl
plain-ignores (suc (suc (suc zero))) r x y h e = absurd (omega arith)
plain-ignores (suc (suc (suc (suc p)))) r x y h e = absurd (omega arith)

mode-ignores : (f x y : ℕ) → f < 64 → mode_takes f ≡ 0 → mode_text f x ≡ mode_text f y
unfolding mode_text mode_takes
mode-ignores f x y h e = rw (plain-ignores (f / 16) (f % 8) x y (omega arith) e) refl

pub op-ignores : (k : OperandKind) (w x y : ℕ) → takes k w ≡ 0 → operand_text k w x ≡ operand_text k w y
op-ignores None w x y e = refl
op-ignores Mask w x y e = absurd (omega arith)
op-ignores Disp w x y e = refl
op-ignores Reg w x y e = refl
op-ignores Arg4 w x y e = refl
op-ignores Arg6 w x y e = refl
op-ignores Count w x y e = refl
op-ignores High w x y e = refl
op-ignores Mid w x y e = refl
op-ignores Dst w x y e = mode-ignores (w % 64) x y (omega arith) e
op-ignores Addr w x y e = mode-ignores (w % 64) x y (omega arith) e
op-ignores Src w x y e = mode-ignores (w / 64 % 64) x y (omega arith) e
op-ignores Word w x y e = refl

pub word-taken : (k : OperandKind) (w x : ℕ) → takes k w ≡ 1 → word_of k w x ≡ x
unfolding own_of
word-taken k w x e = rw e refl
