-- Operands of the text that are an offset from PC: what ends with 0000(PC) is mode 6 or 7 with PC, and another offset stands in its place.
use mathlib.Core.Path.{◌≡◌, refl, ap, sym, ◌∙◌, subst}
use mathlib.Core.Bool.{Bool, true, false, cond, not}
use mathlib.Core.List.{List, [], ◌∷◌, ◌++◌, append_assoc}
use Prim.Native.Nat.{ℕ, ◌+◌, ◌*◌, ◌/◌, ◌%◌, ◌<◌}
use native.Mathlib.Omega.{arith}
use borrow.Author.Tests.{eqb-false}
use lib.Dec.{T, eqb, eqb→eq}
use lib.ListN.{length, drop, get_or, length-append}
use Rattle.hexdigits.specs.Digits.{letters, digits, hex_of, hex4}
use Rattle.optext.specs.Shown.{other, OtherLetter, Without, none, more}
use Rattle.optext.proofs.Laws.Shown.{without-append, without_at, lacks}
use Rattle.optext.proofs.Laws.Choose.{both_left, both_right, at}
use Rattle.optext.specs.Line.{registers, reg_a, reg_b, reg_text, up_text, literal_text, down_text, offset_text, plain_text, mode_text, mode_takes}

-- ---- characters

pub computed : (c : ℕ) (t : List ℕ) → T (lacks c t) → Without c t
computed c [] h = none
computed c (x ∷ t) h = more (record { is = both_left (other c x) (lacks c t) h }) (computed c t (both_right (other c x) (lacks c t) h))

not-it : (c x : ℕ) → OtherLetter c x → x ≡ c → ⊥
not-it c x o e = by (eqb x c) refl o.is
  where
    by : (t : Bool) → eqb x c ≡ t → T (not t) → ⊥
    by true q h = h
    by false q h = eqb-false x c q e

digit-not-41 : (d : ℕ) → OtherLetter 41 (hex_of d)
unfolding hex_of digits
digit-not-41 d = without_at 41 digits d (record { is = tt }) (computed 41 digits tt)

digit-not-44 : (d : ℕ) → OtherLetter 44 (hex_of d)
unfolding hex_of digits
digit-not-44 d = without_at 44 digits d (record { is = tt }) (computed 44 digits tt)

second-not-41 : (r : ℕ) → OtherLetter 41 (reg_b r)
unfolding reg_b registers
second-not-41 r = without_at 41 registers (r * 2 + 1) (record { is = tt }) (computed 41 registers tt)

first-not-44 : (r : ℕ) → OtherLetter 44 (reg_a r)
unfolding reg_a registers
first-not-44 r = without_at 44 registers (r * 2) (record { is = tt }) (computed 44 registers tt)

second-not-44 : (r : ℕ) → OtherLetter 44 (reg_b r)
unfolding reg_b registers
second-not-44 r = without_at 44 registers (r * 2 + 1) (record { is = tt }) (computed 44 registers tt)

-- C is the second letter of PC's name alone
abbrev pc_test : ℕ → Bool
pc_test r = cond (eqb (reg_b r) 67) (eqb r 7) true

pc-alone : (r : ℕ) → r < 8 → reg_b r ≡ 67 → r ≡ 7
unfolding reg_b registers
pc-alone r l e = by (at pc_test 8 tt r l)
  where
    by : T (pc_test r) → r ≡ 7
    by h = eqb→eq r 7 (subst (λ (x : ℕ). T (cond (eqb x 67) (eqb r 7) true)) e h)

-- ---- no operand has a comma

four-commas : (x : ℕ) → Without 44 (hex4 x)
unfolding hex4
four-commas x = more (digit-not-44 _) (more (digit-not-44 _) (more (digit-not-44 _) (more (digit-not-44 _) none)))

either : (P : List ℕ → Type 0) (b : Bool) (s t : List ℕ) → P s → P t → P (cond b s t)
either P true s t p q = p
either P false s t p q = q

plain-commas : (p r x : ℕ) → Without 44 (plain_text p r x)
unfolding plain_text reg_text up_text literal_text down_text offset_text
plain-commas p r x =
    either (Without 44) (eqb p 0) _ _ (more (first-not-44 r) (more (second-not-44 r) none))
    (either (Without 44) (eqb p 1) _ _
    (either (Without 44) (eqb r 7) _ _ (more (record { is = tt }) (four-commas x)) (more (record { is = tt }) (more (first-not-44 r) (more (second-not-44 r) (computed 44 (41 ∷ 43 ∷ []) tt)))))
    (either (Without 44) (eqb p 2) _ _ (more (record { is = tt }) (more (record { is = tt }) (more (first-not-44 r) (more (second-not-44 r) (computed 44 (41 ∷ []) tt)))))
    (without-append (four-commas x) (more (record { is = tt }) (more (first-not-44 r) (more (second-not-44 r) (computed 44 (41 ∷ []) tt)))))))

pub mode-commas : (f x : ℕ) → Without 44 (mode_text f x)
unfolding mode_text
mode-commas f x = either (Without 44) (eqb (f / 8 % 2) 0) _ _ (plain-commas (f / 16) (f % 8) x) (more (record { is = tt }) (plain-commas (f / 16) (f % 8) x))

-- ---- texts apart

-- ends as long as each other
ends_same : (xs ys us vs : List ℕ) → length us ≡ length vs → xs ++ us ≡ ys ++ vs → (xs ≡ ys) × (us ≡ vs)
ends_same [] [] us vs l e = (refl, e)
ends_same [] (y ∷ ys) us vs l e = let n = ap length e in absurd (omega (arith, n, l, length-append ys vs))
ends_same (x ∷ xs) [] us vs l e = let n = ap length e in absurd (omega (arith, n, l, length-append xs us))
ends_same (x ∷ xs) (y ∷ ys) us vs l e =
    let heads : x ≡ y = ap (λ (z : List ℕ). get_or z 0 0) e in
    let s = ends_same xs ys us vs l (ap (λ (z : List ℕ). drop 1 z) e) in
    (rw (heads, s.0) refl, s.1)

no-comma : (xs ys : List ℕ) → Without 44 (xs ++ (44 ∷ ys)) → ⊥
no-comma [] ys (more o p) = not-it 44 44 o refl
no-comma (x ∷ xs) ys (more o p) = no-comma xs ys p

-- the only comma
pub comma-same : (xs ys us vs : List ℕ) → Without 44 us → Without 44 vs → xs ++ (44 ∷ ys) ≡ us ++ (44 ∷ vs) → (xs ≡ us) × (ys ≡ vs)
comma-same [] ys [] vs p q e = (refl, ap (λ (z : List ℕ). drop 1 z) e)
comma-same [] ys (u ∷ us) vs (more o p) q e = absurd (not-it 44 u o (sym (ap (λ (z : List ℕ). get_or z 0 0) e)))
comma-same (x ∷ xs) ys [] vs p q e = absurd (no-comma xs ys (subst (λ (z : List ℕ). Without 44 z) (sym (ap (λ (z : List ℕ). drop 1 z) e)) q))
comma-same (x ∷ xs) ys (u ∷ us) vs (more o p) q e =
    let heads : x ≡ u = ap (λ (z : List ℕ). get_or z 0 0) e in
    let s = comma-same xs ys us vs p q (ap (λ (z : List ℕ). drop 1 z) e) in
    (rw (heads, s.0) refl, s.1)

-- ---- an offset from PC

abbrev pub offset_pc : ℕ → List ℕ
offset_pc o = hex4 o ++ letters "(PC)"

record Offset (pre q : List ℕ) (p r x : ℕ) : Type 0 where
  pub three : (eqb p 0 ≡ false) × (eqb p 1 ≡ false) × (eqb p 2 ≡ false)
  pub pc : r ≡ 7
  pub same : pre ≡ q

abbrev pub zeros : List ℕ
zeros = 48 ∷ 48 ∷ 48 ∷ 48 ∷ 40 ∷ 80 ∷ 67 ∷ 41 ∷ []

pub zeros-are : offset_pc 0 ≡ zeros
unfolding hex4 hex_of digits
zeros-are = refl

plain_end : (pre q : List ℕ) (p r x : ℕ) → r < 8 → pre ++ plain_text p r x ≡ q ++ offset_pc 0 → Offset pre q p r x
unfolding plain_text reg_text up_text literal_text down_text offset_text hex4
plain_end pre q p r x lr e = by (eqb p 0) refl (eqb p 1) refl (eqb r 7) (eqb p 2) refl (e ∙ ap (λ (z : List ℕ). q ++ z) zeros-are)
  where
    by : (a : Bool) → eqb p 0 ≡ a → (b : Bool) → eqb p 1 ≡ b → (c d : Bool) → eqb p 2 ≡ d
        → pre ++ cond a (reg_a r ∷ reg_b r ∷ []) (cond b (cond c (35 ∷ hex_of (x / 4096) ∷ hex_of (x / 256 % 16) ∷ hex_of (x / 16 % 16) ∷ hex_of (x % 16) ∷ []) (40 ∷ reg_a r ∷ reg_b r ∷ 41 ∷ 43 ∷ [])) (cond d (45 ∷ 40 ∷ reg_a r ∷ reg_b r ∷ 41 ∷ []) (hex_of (x / 4096) ∷ hex_of (x / 256 % 16) ∷ hex_of (x / 16 % 16) ∷ hex_of (x % 16) ∷ 40 ∷ reg_a r ∷ reg_b r ∷ 41 ∷ []))) ≡ q ++ zeros
        → Offset pre q p r x
    by true pa b pb c d pd h =
        let s = (ends_same pre (q ++ (48 ∷ 48 ∷ 48 ∷ 48 ∷ 40 ∷ 80 ∷ [])) (reg_a r ∷ reg_b r ∷ []) (67 ∷ 41 ∷ []) refl (h ∙ sym (append_assoc q (48 ∷ 48 ∷ 48 ∷ 48 ∷ 40 ∷ 80 ∷ []) (67 ∷ 41 ∷ [])))).1 in
        absurd (not-it 41 (reg_b r) (second-not-41 r) (ap (λ (z : List ℕ). get_or z 1 0) s))
    by false pa true pb true d pd h =
        let s = (ends_same pre (q ++ (48 ∷ 48 ∷ 48 ∷ [])) (35 ∷ hex_of (x / 4096) ∷ hex_of (x / 256 % 16) ∷ hex_of (x / 16 % 16) ∷ hex_of (x % 16) ∷ []) (48 ∷ 40 ∷ 80 ∷ 67 ∷ 41 ∷ []) refl (h ∙ sym (append_assoc q (48 ∷ 48 ∷ 48 ∷ []) (48 ∷ 40 ∷ 80 ∷ 67 ∷ 41 ∷ [])))).1 in
        absurd (not-it 41 (hex_of (x % 16)) (digit-not-41 (x % 16)) (ap (λ (z : List ℕ). get_or z 4 0) s))
    by false pa true pb false d pd h =
        let s = (ends_same pre (q ++ (48 ∷ 48 ∷ 48 ∷ [])) (40 ∷ reg_a r ∷ reg_b r ∷ 41 ∷ 43 ∷ []) (48 ∷ 40 ∷ 80 ∷ 67 ∷ 41 ∷ []) refl (h ∙ sym (append_assoc q (48 ∷ 48 ∷ 48 ∷ []) (48 ∷ 40 ∷ 80 ∷ 67 ∷ 41 ∷ [])))).1 in
        let z : ◌≡◌ {A = ℕ} 43 41 = ap (λ (z : List ℕ). get_or z 4 0) s in
        absurd (omega (arith, z))
    by false pa false pb c true pd h =
        let s = (ends_same pre (q ++ (48 ∷ 48 ∷ 48 ∷ [])) (45 ∷ 40 ∷ reg_a r ∷ reg_b r ∷ 41 ∷ []) (48 ∷ 40 ∷ 80 ∷ 67 ∷ 41 ∷ []) refl (h ∙ sym (append_assoc q (48 ∷ 48 ∷ 48 ∷ []) (48 ∷ 40 ∷ 80 ∷ 67 ∷ 41 ∷ [])))).1 in
        let z : ◌≡◌ {A = ℕ} 45 48 = ap (λ (z : List ℕ). get_or z 0 0) s in
        absurd (omega (arith, z))
    by false pa false pb c false pd h =
        let s = ends_same pre q (hex_of (x / 4096) ∷ hex_of (x / 256 % 16) ∷ hex_of (x / 16 % 16) ∷ hex_of (x % 16) ∷ 40 ∷ reg_a r ∷ reg_b r ∷ 41 ∷ []) zeros refl h in
        record { three = (pa, pb, pd); pc = pc-alone r lr (ap (λ (z : List ℕ). get_or z 6 0) s.1); same = s.0 }

-- with another offset it is that
plain_other : (pre q : List ℕ) (p r x o : ℕ) → Offset pre q p r x → pre ++ plain_text p r o ≡ q ++ offset_pc o
unfolding plain_text offset_text reg_a reg_b registers
plain_other pre q p r x o h = rw (h.three.0, h.three.1, h.three.2, h.pc, h.same) refl

-- an operand of a mode
pub record Mode (pre q : List ℕ) (f : ℕ) : Type 0 where
  pub other : (o : ℕ) → pre ++ mode_text f o ≡ q ++ offset_pc o
  pub takes : mode_takes f ≡ 1

few : (p : ℕ) → p < 4 → eqb p 0 ≡ false → eqb p 1 ≡ false → eqb p 2 ≡ false → p ≡ 3
few p l a b c = omega (arith, l, eqb-false p 0 a, eqb-false p 1 b, eqb-false p 2 c)

offset-takes : (pre q : List ℕ) (f x : ℕ) → f < 64 → Offset pre q (f / 16) (f % 8) x → mode_takes f ≡ 1
unfolding mode_takes
offset-takes pre q f x l h = rw (few (f / 16) (omega (arith, l)) h.three.0 h.three.1 h.three.2) refl

mode-by : (t : Bool) (pre q : List ℕ) (f x : ℕ) → f < 64 → pre ++ cond t (plain_text (f / 16) (f % 8) x) (64 ∷ plain_text (f / 16) (f % 8) x) ≡ q ++ offset_pc 0
    → ((o : ℕ) → pre ++ cond t (plain_text (f / 16) (f % 8) o) (64 ∷ plain_text (f / 16) (f % 8) o) ≡ q ++ offset_pc o) × (mode_takes f ≡ 1)
mode-by true pre q f x l e =
    let h = plain_end pre q (f / 16) (f % 8) x (omega arith) e in
    (λ o. plain_other pre q (f / 16) (f % 8) x o h, offset-takes pre q f x l h)
mode-by false pre q f x l e =
    let at = pre ++ (64 ∷ []) in
    let h = plain_end at q (f / 16) (f % 8) x (omega arith) (append_assoc pre (64 ∷ []) (plain_text (f / 16) (f % 8) x) ∙ e) in
    (λ o. sym (append_assoc pre (64 ∷ []) (plain_text (f / 16) (f % 8) o)) ∙ plain_other at q (f / 16) (f % 8) x o h, offset-takes at q f x l h)

pub mode-end : (pre q : List ℕ) (f x : ℕ) → f < 64 → pre ++ mode_text f x ≡ q ++ offset_pc 0 → Mode pre q f
unfolding mode_text
mode-end pre q f x l e = let m = mode-by (eqb (f / 8 % 2) 0) pre q f x l e in record { other = m.0; takes = m.1 }
