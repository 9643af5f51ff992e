-- Each operand of the guess is the nearest of its kind to the text it is read from.
use Rattle.std.proofs.Common.{◌≡◌, ℕ, ◌+◌, ◌*◌, ◌/◌, ◌%◌, ◌<◌, ◌≤◌, eqb, ltb, List, [], ◌∷◌, ◌++◌, length, get_or, drop, sym, refl, ap, ◌∙◌, ⊎_elim, append-nil, zero-add, arith, get_or-drop, le-ltb, lt-ltb, eq-eqb, ne_eqb}
use Rattle.hexdigits.specs.Digits.{hex_of, hex4}
use Rattle.optext.specs.declared.rows.OperandKind.{OperandKind}
use Rattle.optext.specs.declared.rows.OperandKind.TheVariants.{None, Mask, Disp, Reg, Arg4, Arg6, Count, High, Mid, Dst, Addr, Src, Word}
use Rattle.optext.specs.declared.reading.Operand.{Operand}
use Rattle.optext.specs.Digits.{un_hex, un_hex2, un_hex4}
use Rattle.optext.specs.Line.{reg_a, reg_b, reg_text, up_text, literal_text, down_text, offset_text, plain_text, mode_text, operand_text}
use Rattle.optext.specs.Guess.{un_reg, not_pc, un_plain, un_mode, un_count, addressed, un_op}
use Rattle.optext.proofs.Laws.Choose.{eq-cases, lt-cases, choose}
use Rattle.optext.proofs.Laws.Near.{Near, near-nil, near_next, near-at, near-seq, near-refl, near-off}
use Rattle.optext.proofs.Laws.Forms.{plain-elim, plain-reg, plain-pc, plain-up, plain_down, plain-offset, mode-plain, mode-at}
use Rattle.optext.proofs.Laws.Back.{reg-high, digit_low, digit-high, plain-sign, addressed-same}
use Rattle.optext.proofs.Laws.Inside.{Allowed, PartOk}
use Rattle.optext.proofs.Laws.Pieces.{un_hex-lt, near-hex1, near-digits, near-count, near-hex4, near_word, word_ok, near-reg, near_up, un_reg-lt}

-- the text of the operand that is read
abbrev pub again : OperandKind → Operand → List ℕ
again k o = operand_text k o.part o.word

not_pc-lt : (r : ℕ) → r < 8 → not_pc r < 7
unfolding not_pc
not_pc-lt r h = ⊎_elim (λ e. rw (eq-eqb r 7 e) (omega arith)) (λ e. rw (ne_eqb r 7 e) (omega arith)) (eq-cases r 7)

-- what stands in front, read as each of the forms and written again
abbrev plain_of : Operand → List ℕ
plain_of o = plain_text (o.part / 16) (o.part % 8) o.word

-- a form p of a register g
of-register : (p g x : ℕ) → g < 8 → plain_text ((p * 16 + g) / 16) ((p * 16 + g) % 8) x ≡ plain_text p g x
of-register p g x h =
    let d : (p * 16 + g) / 16 ≡ p = omega arith in
    let m : (p * 16 + g) % 8 ≡ g = omega arith in
    rw (d, m) refl

module _ (c : ℕ) (u : List ℕ) where
  again-reg : 71 ≤ c → plain_of (un_plain (c ∷ u)) ≡ reg_text (un_reg c (get_or u 0 0))
  unfolding un_plain
  again-reg h =
      let e : plain_text ((0 + un_reg c (get_or u 0 0)) / 16) ((0 + un_reg c (get_or u 0 0)) % 8) 0 ≡ reg_text (un_reg c (get_or u 0 0)) = of-register 0 _ 0 (un_reg-lt c (get_or u 0 0)) ∙ plain-reg 0 _ 0 refl in
      rw (ne_eqb c 40 (λ e. omega arith), ne_eqb c 45 (λ e. omega arith), ne_eqb c 35 (λ e. omega arith), le-ltb c 71 h)
      (rw (zero-add (un_reg c (get_or u 0 0))) at e)

  again-offset : 48 ≤ c → c < 71 → plain_of (un_plain (c ∷ u)) ≡ offset_text (un_reg (get_or u 4 0) (get_or u 5 0)) (un_hex4 (c ∷ u))
  unfolding un_plain
  again-offset h g =
      rw (ne_eqb c 40 (λ e. omega arith), ne_eqb c 45 (λ e. omega arith), ne_eqb c 35 (λ e. omega arith), lt-ltb c 71 g)
      (of-register 3 _ _ (un_reg-lt (get_or u 4 0) (get_or u 5 0)) ∙ plain-offset 3 _ _ (λ e. omega arith) (λ e. omega arith) (λ e. omega arith))

module _ (u : List ℕ) where
  again-up : plain_of (un_plain (40 ∷ u)) ≡ up_text (not_pc (un_reg (get_or u 0 0) (get_or u 1 0)))
  unfolding un_plain
  again-up =
      let h = not_pc-lt (un_reg (get_or u 0 0) (get_or u 1 0)) (un_reg-lt (get_or u 0 0) (get_or u 1 0)) in
      of-register 1 (not_pc (un_reg (get_or u 0 0) (get_or u 1 0))) 0 (omega arith) ∙ plain-up 1 _ 0 refl (λ e. omega arith)

  again-down : plain_of (un_plain (45 ∷ u)) ≡ down_text (un_reg (get_or u 1 0) (get_or u 2 0))
  unfolding un_plain
  again-down = of-register 2 _ 0 (un_reg-lt (get_or u 1 0) (get_or u 2 0)) ∙ plain_down 2 _ 0 refl

  again-literal : plain_of (un_plain (35 ∷ u)) ≡ literal_text (un_hex4 u)
  unfolding un_plain
  again-literal = plain-pc 1 7 (un_hex4 u) refl refl

near-form-reg : (t : List ℕ) (r : ℕ) → r < 8 → Near t (reg_text r) (plain_of (un_plain t))
unfolding reg_text
near-form-reg t r h =
    near-at t (reg_a r) (reg_b r ∷ []) (λ (l : List ℕ). plain_of (un_plain l)) (λ u.
    rw (again-reg (reg_a r) u (reg-high r h)) (near-reg (reg_a r ∷ u) r h))

near-form-literal : (t : List ℕ) (x : ℕ) → x < 65536 → Near t (literal_text x) (plain_of (un_plain t))
unfolding literal_text
near-form-literal t x h =
    near-at t 35 (hex4 x) (λ (l : List ℕ). plain_of (un_plain l)) (λ u.
    rw (again-literal u) (near_next u 35 (hex4 x) (hex4 (un_hex4 u)) (near-hex4 u x h)))

near-form-up : (t : List ℕ) (r : ℕ) → r < 7 → Near t (up_text r) (plain_of (un_plain t))
unfolding up_text reg_text
near-form-up t r h =
    near-at t 40 (reg_text r ++ (41 ∷ 43 ∷ [])) (λ (l : List ℕ). plain_of (un_plain l)) (λ u.
    let g : ℕ = not_pc (un_reg (get_or u 0 0) (get_or u 1 0)) in
    rw (again-up u)
    (near_next u 40 (reg_text r ++ (41 ∷ 43 ∷ [])) (reg_text g ++ (41 ∷ 43 ∷ []))
    (near-seq u (reg_text r) (41 ∷ 43 ∷ []) (reg_text g) (41 ∷ 43 ∷ []) (near_up u r h) (λ e q. near-refl (drop 2 u) (41 ∷ 43 ∷ [])))))

-- (R1)
near-round : (v : List ℕ) (r : ℕ) → r < 8 → Near v (40 ∷ (reg_text r ++ (41 ∷ []))) (40 ∷ (reg_text (un_reg (get_or v 1 0) (get_or v 2 0)) ++ (41 ∷ [])))
near-round v r h =
    near-at v 40 (reg_text r ++ (41 ∷ [])) (λ (l : List ℕ). 40 ∷ (reg_text (un_reg (get_or l 1 0) (get_or l 2 0)) ++ (41 ∷ []))) (λ u.
    near_next u 40 (reg_text r ++ (41 ∷ [])) (reg_text (un_reg (get_or u 0 0) (get_or u 1 0)) ++ (41 ∷ []))
    (near-seq u (reg_text r) (41 ∷ []) (reg_text (un_reg (get_or u 0 0) (get_or u 1 0))) (41 ∷ []) (near-reg u r h) (λ e q. near-refl (drop (length (reg_text r)) u) (41 ∷ []))))

near-form-down : (t : List ℕ) (r : ℕ) → r < 8 → Near t (down_text r) (plain_of (un_plain t))
unfolding down_text reg_text
near-form-down t r h =
    near-at t 45 (40 ∷ (reg_text r ++ (41 ∷ []))) (λ (l : List ℕ). plain_of (un_plain l)) (λ u.
    let g : ℕ = un_reg (get_or u 1 0) (get_or u 2 0) in
    rw (again-down u)
    (near_next u 45 (40 ∷ (reg_text r ++ (41 ∷ []))) (40 ∷ (reg_text g ++ (41 ∷ []))) (near-round u r h)))

near-offset : (t : List ℕ) (r x : ℕ) → r < 8 → x < 65536 → Near t (offset_text r x) (offset_text (un_reg (get_or t 5 0) (get_or t 6 0)) (un_hex4 t))
unfolding offset_text reg_text hex4
near-offset t r x h g =
    near-seq t (hex4 x) (40 ∷ (reg_text r ++ (41 ∷ []))) (hex4 (un_hex4 t)) (40 ∷ (reg_text (un_reg (get_or t 5 0) (get_or t 6 0)) ++ (41 ∷ []))) (near-hex4 t x g)
    (λ e q. rest (near-round (drop 4 t) r h))
  where
    rest : Near (drop 4 t) (40 ∷ (reg_text r ++ (41 ∷ []))) (40 ∷ (reg_text (un_reg (get_or (drop 4 t) 1 0) (get_or (drop 4 t) 2 0)) ++ (41 ∷ [])))
        → Near (drop (length (hex4 x)) t) (40 ∷ (reg_text r ++ (41 ∷ []))) (40 ∷ (reg_text (un_reg (get_or t 5 0) (get_or t 6 0)) ++ (41 ∷ [])))
    rest n = rw (← get_or-drop 4 t 1 0, ← get_or-drop 4 t 2 0) n

near-form-offset : (t : List ℕ) (r x : ℕ) → r < 8 → x < 65536 → Near t (offset_text r x) (plain_of (un_plain t))
unfolding offset_text hex4
near-form-offset t r x h g =
    near-at t (hex_of (x / 4096)) (hex_of (x / 256 % 16) ∷ hex_of (x / 16 % 16) ∷ hex_of (x % 16) ∷ 40 ∷ reg_a r ∷ reg_b r ∷ 41 ∷ []) (λ (l : List ℕ). plain_of (un_plain l)) (λ u.
    let c : ℕ = hex_of (x / 4096) in
    rw (again-offset c u (digit_low (x / 4096) (omega arith)) (digit-high (x / 4096) (omega arith)))
    (near-offset (c ∷ u) r x h g))

below-7 : (r : ℕ) → r < 8 → (r ≡ 7 → ⊥) → r < 7
below-7 r h n = omega arith

-- the forms without @
near-plain : (t : List ℕ) (p r x : ℕ) → p < 4 → r < 8 → x < 65536 → Near t (plain_text p r x) (plain_of (un_plain t))
near-plain t p r x h g l =
    ⊎_elim (λ e. rw (plain-reg p r x e) (near-form-reg t r g)) (λ n0.
    ⊎_elim (λ e. ⊎_elim (λ f. rw (plain-pc p r x e f) (near-form-literal t x l)) (λ f. rw (plain-up p r x e f) (near-form-up t r (below-7 r g f))) (eq-cases r 7)) (λ n1.
    ⊎_elim (λ e. rw (plain_down p r x e) (near-form-down t r g)) (λ n2. rw (plain-offset p r x n0 n1 n2) (near-form-offset t r x g l))
    (eq-cases p 2)) (eq-cases p 1)) (eq-cases p 0)

-- the parts of a form without @: an even mode, below 56
abbrev Even : Operand → Type 0
Even o = (o.part / 8 % 2 ≡ 0) × (o.part < 56)

even : (g : ℕ) → g < 8 → (p : ℕ) → p < 4 → ((p * 16 + g) / 8 % 2 ≡ 0) × (p * 16 + g < 56)
even g h p k = (omega arith, omega arith)

plain-even : (t : List ℕ) → Even (un_plain t)
unfolding un_plain
plain-even t =
    let a = not_pc-lt (un_reg (get_or t 1 0) (get_or t 2 0)) (un_reg-lt (get_or t 1 0) (get_or t 2 0)) in
    choose Even (eqb (get_or t 0 0) 40) _ _ (even (not_pc (un_reg (get_or t 1 0) (get_or t 2 0))) (omega arith) 1 (omega arith))
    (choose Even (eqb (get_or t 0 0) 45) _ _ (even (un_reg (get_or t 2 0) (get_or t 3 0)) (un_reg-lt (get_or t 2 0) (get_or t 3 0)) 2 (omega arith))
    (choose Even (eqb (get_or t 0 0) 35) _ _ (refl, omega arith)
    (choose Even (ltb (get_or t 0 0) 71) _ _ (even (un_reg (get_or t 5 0) (get_or t 6 0)) (un_reg-lt (get_or t 5 0) (get_or t 6 0)) 3 (omega arith))
    (let b = un_reg-lt (get_or t 0 0) (get_or t 1 0) in (omega arith, omega arith)))))

-- a mode
mode-plain-of : (t : List ℕ) → (get_or t 0 0 ≡ 64 → ⊥) → mode_text (un_mode t).part (un_mode t).word ≡ plain_of (un_plain t)
unfolding un_mode
mode-plain-of t n = rw (ne_eqb (get_or t 0 0) 64 n) (mode-plain (un_plain t).part (un_plain t).word (plain-even t).0)

next-mode : (m : ℕ) → m / 8 % 2 ≡ 0 → (((m + 8) / 16 ≡ m / 16) × ((m + 8) / 8 % 2 ≡ 1))
next-mode m h =
    let a : m / 16 ≡ m / 8 / 2 = omega arith in
    let b : (m + 8) / 8 ≡ m / 8 + 1 = omega arith in
    let c : (m + 8) / 16 ≡ (m + 8) / 8 / 2 = omega arith in
    let d : (m / 8 + 1) / 2 ≡ m / 8 / 2 = omega arith in
    (c ∙ ap (λ (n : ℕ). n / 2) b ∙ d ∙ sym a, rw b (omega arith))

mode-at-of : (u : List ℕ) → mode_text (un_mode (64 ∷ u)).part (un_mode (64 ∷ u)).word ≡ 64 ∷ plain_of (un_plain u)
unfolding un_mode
mode-at-of u =
    let e = next-mode (un_plain u).part (plain-even u).0 in
    let q : ((un_plain u).part + 8) % 8 ≡ (un_plain u).part % 8 = omega arith in
    rw (mode-at ((un_plain u).part + 8) (un_plain u).word (odd (((un_plain u).part + 8) / 8 % 2) e.1), e.0, q) refl
  where
    odd : (n : ℕ) → n ≡ 1 → n ≡ 0 → ⊥
    odd n a b = omega arith

plain-some : (p r x : ℕ) → 0 < length (plain_text p r x)
unfolding reg_text literal_text up_text down_text offset_text hex4
plain-some p r x = plain-elim (λ (s : List ℕ). 0 < length s) p r x (omega arith) (omega arith) (omega arith) (omega arith) (omega arith)

plain-first : (p r x : ℕ) → r < 8 → x < 65536 → get_or (plain_text p r x) 0 0 ≡ 64 → ⊥
plain-first p r x g l e = plain-sign p r x [] g l (rw append-nil e)

near-mode : (t : List ℕ) (f x : ℕ) → f < 64 → x < 65536 → Near t (mode_text f x) (mode_text (un_mode t).part (un_mode t).word)
near-mode t f x h l =
    let p : f / 16 < 4 = omega arith in
    let r : f % 8 < 8 = omega arith in
    ⊎_elim
    (λ q. rw (mode-plain f x q)
    (near-off t (plain_text (f / 16) (f % 8) x) (mode_text (un_mode t).part (un_mode t).word) (plain-some (f / 16) (f % 8) x)
    (λ e. rw (mode-plain-of t (λ z. plain-first (f / 16) (f % 8) x r l (sym e ∙ z))) (near-plain t (f / 16) (f % 8) x p r l))))
    (λ q. rw (mode-at f x q)
    (near-at t 64 (plain_text (f / 16) (f % 8) x) (λ (l : List ℕ). mode_text (un_mode l).part (un_mode l).word) (λ u.
    rw (mode-at-of u) (near_next u 64 (plain_text (f / 16) (f % 8) x) (plain_of (un_plain u)) (near-plain u (f / 16) (f % 8) x p r l)))))
    (eq-cases (f / 8 % 2) 0)

-- a mode of JSR or LEA does not begin as a register does, and what does not begin so is read as one of their modes
abbrev Low : List ℕ → Type 0
Low s = get_or s 0 0 < 71

plain-low : (p r x : ℕ) → (p ≡ 0 → ⊥) → x < 65536 → get_or (plain_text p r x) 0 0 < 71
unfolding plain_text literal_text up_text down_text offset_text hex4
plain-low p r x n h =
    rw (ne_eqb p 0 n) (choose Low (eqb p 1) _ _ (choose Low (eqb r 7) _ _ (omega arith) (omega arith)) (choose Low (eqb p 2) _ _ (omega arith) (digit-high (x / 4096) (omega arith))))

mode-low : (f x : ℕ) → 8 ≤ f → x < 65536 → get_or (mode_text f x) 0 0 < 71
mode-low f x h l =
    ⊎_elim (λ q. rw (mode-plain f x q) (plain-low (f / 16) (f % 8) x (λ e. not_first (f / 8) (omega arith) q (omega arith)) l)) (λ q. rw (mode-at f x q) (omega arith)) (eq-cases (f / 8 % 2) 0)
  where
    not_first : (m : ℕ) → 1 ≤ m → m % 2 ≡ 0 → m < 2 → ⊥
    not_first m a b c = omega arith

mode-some : (f x : ℕ) → 0 < length (mode_text f x)
mode-some f x = ⊎_elim (λ q. rw (mode-plain f x q) (plain-some (f / 16) (f % 8) x)) (λ q. rw (mode-at f x q) (omega arith)) (eq-cases (f / 8 % 2) 0)

abbrev From8 : Operand → Type 0
From8 o = 8 ≤ o.part

plain-8 : (t : List ℕ) → get_or t 0 0 < 71 → 8 ≤ (un_plain t).part
unfolding un_plain
plain-8 t h =
    rw (lt-ltb (get_or t 0 0) 71 h)
    (choose From8 (eqb (get_or t 0 0) 40) _ _ (omega arith) (choose From8 (eqb (get_or t 0 0) 45) _ _ (omega arith) (choose From8 (eqb (get_or t 0 0) 35) _ _ (omega arith) (omega arith))))

mode-8 : (t : List ℕ) → get_or t 0 0 < 71 → 8 ≤ (un_mode t).part
unfolding un_mode
mode-8 t h = choose From8 (eqb (get_or t 0 0) 64) _ _ (omega arith) (plain-8 t h)

near-addr : (t : List ℕ) (f x : ℕ) → 8 ≤ f → f < 64 → x < 65536 → Near t (mode_text f x) (mode_text (addressed (un_mode t).part) (un_mode t).word)
near-addr t f x g h l =
    near-off t (mode_text f x) (mode_text (addressed (un_mode t).part) (un_mode t).word) (mode-some f x)
    (λ e. rw (addressed-same (un_mode t).part (mode-8 t (rw e (mode-low f x g l)))) (near-mode t f x h l))

-- the bits that are read for each kind
hex2-lt : (t : List ℕ) → un_hex2 t < 256
unfolding un_hex2
hex2-lt t = let a = un_hex-lt (get_or t 0 0) in let b = un_hex-lt (get_or t 1 0) in omega arith

pub hex4-lt : (t : List ℕ) → un_hex4 t < 65536
unfolding un_hex4
hex4-lt t = let a = un_hex-lt (get_or t 0 0) in let b = un_hex-lt (get_or t 1 0) in let c = un_hex-lt (get_or t 2 0) in let d = un_hex-lt (get_or t 3 0) in omega arith

count-lt : (t : List ℕ) → un_count t < 16
unfolding un_count
count-lt t =
    let b = un_hex-lt (get_or t 1 0) in
    ⊎_elim (λ e. rw (eq-eqb (get_or t 0 0) 49 e) (omega arith)) (λ e. rw (ne_eqb (get_or t 0 0) 49 e) (omega arith)) (eq-cases (get_or t 0 0) 49)

mode-lt : (t : List ℕ) → (un_mode t).part < 64
unfolding un_mode
mode-lt t =
    let a = (plain-even (drop 1 t)).1 in
    let b = (plain-even t).1 in
    ⊎_elim (λ e. rw (eq-eqb (get_or t 0 0) 64 e) (omega arith)) (λ e. rw (ne_eqb (get_or t 0 0) 64 e) (omega arith)) (eq-cases (get_or t 0 0) 64)

addressed-ok : (f : ℕ) → f < 64 → (8 ≤ addressed f) × (addressed f < 64)
unfolding addressed
addressed-ok f h = ⊎_elim (λ l. rw (lt-ltb f 8 l) (omega arith, omega arith)) (λ l. rw (le-ltb f 8 l) (l, h)) (lt-cases f 8)

pub part-ok : (k : OperandKind) (t : List ℕ) → PartOk k (un_op k t).part
part-ok None t = refl
part-ok Mask t = refl
part-ok Disp t = hex2-lt t
part-ok Reg t = un_reg-lt (get_or t 0 0) (get_or t 1 0)
part-ok Arg4 t = un_hex-lt (get_or t 0 0)
part-ok Arg6 t = omega arith
part-ok Count t = count-lt t
part-ok High t = let a = un_reg-lt (get_or t 0 0) (get_or t 1 0) in (omega arith, omega arith)
part-ok Mid t = let a = un_reg-lt (get_or t 0 0) (get_or t 1 0) in (omega arith, omega arith)
part-ok Dst t = mode-lt t
part-ok Addr t = addressed-ok (un_mode t).part (mode-lt t)
part-ok Src t = let a = mode-lt t in (omega arith, omega arith)
part-ok Word t = word_ok t

pub near-operand : (k : OperandKind) (t : List ℕ) (w x : ℕ) → w < 65536 → x < 65536 → Allowed k w → Near t (operand_text k w x) (again k (un_op k t))
near-operand None t w x g l a = near-nil t
near-operand Mask t w x g l a = near-hex4 t x l
near-operand Disp t w x g l a =
    near-digits 256 t (w % 256) (omega arith) refl (omega arith)
near-operand Reg t w x g l a =
    let h = un_reg-lt (get_or t 0 0) (get_or t 1 0) in
    let e : un_reg (get_or t 0 0) (get_or t 1 0) % 8 ≡ un_reg (get_or t 0 0) (get_or t 1 0) = omega arith in
    rw e (near-reg t (w % 8) (omega arith))
near-operand Arg4 t w x g l a =
    let h = un_hex-lt (get_or t 0 0) in
    let e : un_hex (get_or t 0 0) % 16 ≡ un_hex (get_or t 0 0) = omega arith in
    rw e (near-hex1 t (w % 16) (omega arith))
near-operand Arg6 t w x g l a =
    let e : un_hex2 t % 64 % 64 ≡ un_hex2 t % 64 = omega arith in
    rw e (near-digits 64 t (w % 64) (omega arith) refl (omega arith))
near-operand Count t w x g l a =
    let h = count-lt t in
    let e : un_count t % 16 ≡ un_count t = omega arith in
    rw e (near-count t (w % 16) (omega arith))
near-operand High t w x g l a =
    let h = un_reg-lt (get_or t 0 0) (get_or t 1 0) in
    let e : un_reg (get_or t 0 0) (get_or t 1 0) * 64 / 64 % 8 ≡ un_reg (get_or t 0 0) (get_or t 1 0) = omega arith in
    rw e (near-reg t (w / 64 % 8) (omega arith))
near-operand Mid t w x g l a =
    let h = un_reg-lt (get_or t 0 0) (get_or t 1 0) in
    let e : un_reg (get_or t 0 0) (get_or t 1 0) * 8 / 8 % 8 ≡ un_reg (get_or t 0 0) (get_or t 1 0) = omega arith in
    rw e (near-reg t (w / 8 % 8) (omega arith))
near-operand Dst t w x g l a =
    let h = mode-lt t in
    let e : (un_mode t).part % 64 ≡ (un_mode t).part = omega arith in
    rw e (near-mode t (w % 64) x (omega arith) l)
near-operand Addr t w x g l a =
    let h = (addressed-ok (un_mode t).part (mode-lt t)).1 in
    let e : addressed (un_mode t).part % 64 ≡ addressed (un_mode t).part = omega arith in
    rw e (near-addr t (w % 64) x (a.0 tt) (omega arith) l)
near-operand Src t w x g l a =
    let h = mode-lt t in
    let e : (un_mode t).part * 64 / 64 % 64 ≡ (un_mode t).part = omega arith in
    rw e (near-mode t (w / 64 % 64) x (omega arith) l)
near-operand Word t w x g l a = near_word w g (a.1 tt) t
