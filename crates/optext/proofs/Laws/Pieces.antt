-- Each piece of the guess is the nearest of its kind to the text it is read from.
use Rattle.std.proofs.Common.{◌≡◌, ℕ, ◌+◌, ◌-◌, ◌*◌, ◌/◌, ◌%◌, ◌<◌, ◌≤◌, true, cond, eqb, List, [], ◌∷◌, get_or, drop, sym, refl, ap, ◌∙◌, subst, ⊎_elim, mod-eq_of_lt, arith, eqb→eq, get_or-drop, le-ltb, lt-ltb, eq-eqb, ne_eqb}
use Rattle.hexdigits.specs.Digits.{digits, hex_of, hex4, hex2}
use Rattle.optext.specs.Digits.{un_hex, un_hex4, un_hex2}
use Rattle.optext.specs.Line.{registers, reg_a, reg_b, reg_text, is_reserved}
use Rattle.optext.specs.Guess.{un_count, un_reg, not_pc, un_word}
use Rattle.optext.proofs.Laws.Choose.{eq-cases, lt-cases, at}
use Rattle.optext.proofs.Laws.Near.{Near}
use Rattle.optext.proofs.Laws.Near.{near-nil, near_next, near-at}
use Rattle.optext.proofs.Laws.Reserved.{reserved-elim, reserved-high, reserved-mode}
use Rattle.optext.proofs.Laws.Back.{hex-back, quarter, count-back, reg-back}

pub un_hex-lt : (c : ℕ) → un_hex c < 16
unfolding un_hex
un_hex-lt c =
    ⊎_elim (λ h. rw (lt-ltb c 48 h) (omega arith)) (λ h.
    rw (le-ltb c 48 h) (⊎_elim (λ g. rw (lt-ltb c 58 g) (omega arith)) (λ g.
    rw (le-ltb c 58 g) (⊎_elim (λ k. rw (lt-ltb c 65 k) (omega arith)) (λ k.
    rw (le-ltb c 65 k) (⊎_elim (λ l. rw (lt-ltb c 71 l) (omega arith)) (λ l. rw (le-ltb c 71 l) (omega arith)) (lt-cases c 71)))
    (lt-cases c 65))) (lt-cases c 58))) (lt-cases c 48)

-- digits: f is what is made of a digit that is read, and it leaves d as it is
near-digit : (t : List ℕ) (d : ℕ) → d < 16 → (f : ℕ → ℕ) → f d ≡ d → (s : List ℕ) (q : List ℕ → List ℕ) → ((u : List ℕ) → Near u s (q u))
    → Near t (hex_of d ∷ s) (hex_of (f (un_hex (get_or t 0 0))) ∷ q (drop 1 t))
near-digit t d h f e s q n =
    near-at t (hex_of d) s (λ (l : List ℕ). hex_of (f (un_hex (get_or l 0 0))) ∷ q (drop 1 l)) (λ u. rw (hex-back d h, e) (near_next u (hex_of d) s (q u) (n u)))

abbrev same : ℕ → ℕ
same d = d

abbrev one : (ℕ → ℕ) → List ℕ → List ℕ
one f t = hex_of (f (un_hex (get_or t 0 0))) ∷ []

abbrev two : (ℕ → ℕ) → (ℕ → ℕ) → List ℕ → List ℕ
two f g t = hex_of (f (un_hex (get_or t 0 0))) ∷ one g (drop 1 t)

abbrev three : (ℕ → ℕ) → (ℕ → ℕ) → (ℕ → ℕ) → List ℕ → List ℕ
three f g h t = hex_of (f (un_hex (get_or t 0 0))) ∷ two g h (drop 1 t)

pub near-hex1 : (t : List ℕ) (d : ℕ) → d < 16 → Near t (hex_of d ∷ []) (one same t)
near-hex1 t d h = near-digit t d h same refl [] (λ l. []) near-nil

near-three : (f g h : ℕ → ℕ) (b c d : ℕ) → b < 16 → c < 16 → d < 16 → f b ≡ b → g c ≡ c → h d ≡ d → (t : List ℕ) → Near t (hex_of b ∷ hex_of c ∷ hex_of d ∷ []) (three f g h t)
near-three f g h b c d lb lc ld p q r t =
    near-digit t b lb f p _ (two g h) (λ u. near-digit u c lc g q _ (one h) (λ v. near-digit v d ld h r [] (λ l. []) near-nil))

-- the four digits of a word
digits_of : (x : ℕ) → hex4 x ≡ hex_of (x / 4096) ∷ hex_of (x / 256 % 16) ∷ hex_of (x / 16 % 16) ∷ hex_of (x % 16) ∷ []
unfolding hex4
digits_of x = refl

four-by : (a : ℕ) (f g h : ℕ → ℕ) (t : List ℕ) → a < 16 → f (un_hex (get_or t 0 0)) < 16 → g (un_hex (get_or t 1 0)) < 16 → h (un_hex (get_or t 2 0)) < 16
    → hex4 (a * 4096 + f (un_hex (get_or t 0 0)) * 256 + g (un_hex (get_or t 1 0)) * 16 + h (un_hex (get_or t 2 0))) ≡ hex_of a ∷ three f g h t
unfolding hex4
four-by a f g h t la lf lg lh =
    let x : ℕ = a * 4096 + f (un_hex (get_or t 0 0)) * 256 + g (un_hex (get_or t 1 0)) * 16 + h (un_hex (get_or t 2 0)) in
    let p : x / 4096 ≡ a = omega arith in
    let q : x / 256 % 16 ≡ f (un_hex (get_or t 0 0)) = omega arith in
    let r : x / 16 % 16 ≡ g (un_hex (get_or t 1 0)) = omega arith in
    let s : x % 16 ≡ h (un_hex (get_or t 2 0)) = omega arith in
    rw (p, q, r, s, get_or-drop 1 (drop 1 t) 0 0, get_or-drop 1 t 1 0, get_or-drop 1 t 0 0) refl

pub near-hex4 : (t : List ℕ) (x : ℕ) → x < 65536 → Near t (hex4 x) (hex4 (un_hex4 t))
unfolding un_hex4
near-hex4 t x l =
    rw (digits_of x)
    (near-at t (hex_of (x / 4096)) _ (λ (l : List ℕ). hex4 (un_hex4 l)) (λ u.
    rw (hex-back (x / 4096) (omega arith), four-by (x / 4096) same same same u (omega arith) (un_hex-lt (get_or u 0 0)) (un_hex-lt (get_or u 1 0)) (un_hex-lt (get_or u 2 0)))
    (near_next u (hex_of (x / 4096)) _ _ (near-three same same same (x / 256 % 16) (x / 16 % 16) (x % 16) (omega arith) (omega arith) (omega arith) refl refl refl u))))

-- .WORD's words
word-15 : (u : List ℕ) → hex4 (un_word (hex_of 15 ∷ u)) ≡ hex_of 15 ∷ three same same same u
unfolding un_word hex_of digits
word-15 u = four-by 15 same same same u (omega arith) (un_hex-lt (get_or u 0 0)) (un_hex-lt (get_or u 1 0)) (un_hex-lt (get_or u 2 0))

word-7 : (u : List ℕ) → hex4 (un_word (hex_of 7 ∷ u)) ≡ hex_of 7 ∷ three (λ d. d % 4) (λ d. d / 4 * 4) (λ d. d % 8) u
unfolding un_word hex_of digits
word-7 u =
    let b = un_hex-lt (get_or u 1 0) in
    let e : 0x7000 + un_hex (get_or u 0 0) % 4 * 256 + un_hex (get_or u 1 0) / 4 * 64 + un_hex (get_or u 2 0) % 8 ≡ 7 * 4096 + un_hex (get_or u 0 0) % 4 * 256 + un_hex (get_or u 1 0) / 4 * 4 * 16 + un_hex (get_or u 2 0) % 8 = omega arith in
    ap hex4 e ∙ four-by 7 (λ d. d % 4) (λ d. d / 4 * 4) (λ d. d % 8) u (omega arith) (omega arith) (omega arith) (omega arith)

pub near_word : (w : ℕ) → w < 65536 → is_reserved w ≡ true → (t : List ℕ) → Near t (hex4 w) (hex4 (un_word t))
near_word w l r t = rw (digits_of w) (reserved-elim w (Near t (hex_of (w / 4096) ∷ hex_of (w / 256 % 16) ∷ hex_of (w / 16 % 16) ∷ hex_of (w % 16) ∷ []) (hex4 (un_word t))) r high low)
  where
    high : 240 ≤ w / 256 → Near t (hex_of (w / 4096) ∷ hex_of (w / 256 % 16) ∷ hex_of (w / 16 % 16) ∷ hex_of (w % 16) ∷ []) (hex4 (un_word t))
    high h =
        let e : w / 4096 ≡ 15 = omega arith in
        rw e (near-at t (hex_of 15) _ (λ (l : List ℕ). hex4 (un_word l)) (λ u.
        rw (word-15 u) (near_next u (hex_of 15) _ _ (near-three same same same (w / 256 % 16) (w / 16 % 16) (w % 16) (omega arith) (omega arith) (omega arith) refl refl refl u))))

    low : w / 1024 ≡ 28 → w / 8 % 8 ≡ 0 → Near t (hex_of (w / 4096) ∷ hex_of (w / 256 % 16) ∷ hex_of (w / 16 % 16) ∷ hex_of (w % 16) ∷ []) (hex4 (un_word t))
    low h m =
        let e : w / 4096 ≡ 7 = omega arith in
        let b : w / 256 % 16 % 4 ≡ w / 256 % 16 = omega arith in
        let c : w / 16 % 4 ≡ 0 = omega arith in
        let d : w % 16 % 8 ≡ w % 16 = omega arith in
        rw e (near-at t (hex_of 7) _ (λ (l : List ℕ). hex4 (un_word l)) (λ u.
        rw (word-7 u) (near_next u (hex_of 7) _ _ (near-three (λ d. d % 4) (λ d. d / 4 * 4) (λ d. d % 8) (w / 256 % 16) (w / 16 % 16) (w % 16) (omega arith) (omega arith) (omega arith) b (quarter (w / 16) c) d u))))

low_word : (x y z : ℕ) → x < 4 → y < 4 → z < 8 → (is_reserved (0x7000 + x * 256 + y * 64 + z) ≡ true) × (0x7000 + x * 256 + y * 64 + z < 65536)
low_word x y z h k l =
    let q : (0x7000 + x * 256 + y * 64 + z) / 8 ≡ 3584 + x * 32 + y * 8 = omega arith in
    (reserved-mode (0x7000 + x * 256 + y * 64 + z) (omega arith) (rw q (omega arith)), omega arith)

-- it is one that .WORD may hold
pub word_ok : (t : List ℕ) → (is_reserved (un_word t) ≡ true) × (un_word t < 65536)
unfolding un_word
word_ok t =
    let a = un_hex-lt (get_or t 1 0) in
    let b = un_hex-lt (get_or t 2 0) in
    let c = un_hex-lt (get_or t 3 0) in
    ⊎_elim (λ e. rw (eq-eqb (get_or t 0 0) 55 e) (low_word (un_hex (get_or t 1 0) % 4) (un_hex (get_or t 2 0) / 4) (un_hex (get_or t 3 0) % 8) (omega arith) (omega arith) (omega arith)))
    (λ e. rw (ne_eqb (get_or t 0 0) 55 e) (reserved-high (0xF000 + un_hex (get_or t 1 0) * 256 + un_hex (get_or t 2 0) * 16 + un_hex (get_or t 3 0)) (omega arith), omega arith)) (eq-cases (get_or t 0 0) 55)

-- two characters A and B of a number, which un reads: whatever stands second, the first is kept
near-pair : (A B : ℕ → ℕ) (un : ℕ → ℕ → ℕ) (t : List ℕ) (v : ℕ) → ((b : ℕ) → A (un (A v) b) ≡ A v) → un (A v) (B v) ≡ v
    → Near t (A v ∷ B v ∷ []) (A (un (get_or t 0 0) (get_or t 1 0)) ∷ B (un (get_or t 0 0) (get_or t 1 0)) ∷ [])
near-pair A B un t v f g =
    near-at t (A v) (B v ∷ []) (λ (l : List ℕ). A (un (get_or l 0 0) (get_or l 1 0)) ∷ B (un (get_or l 0 0) (get_or l 1 0)) ∷ []) (λ u.
    rw (f (get_or u 0 0)) (near_next u (A v) (B v ∷ []) (B (un (A v) (get_or u 0 0)) ∷ [])
    (near-at u (B v) [] (λ (l : List ℕ). B (un (A v) (get_or l 0 0)) ∷ []) (λ r. rw g (near_next r (B v) [] [] (near-nil r))))))

-- two digits of a number below n, a multiple of 16
pub near-digits : (n : ℕ) (t : List ℕ) (x : ℕ) → x < n → n % 16 ≡ 0 → n ≤ 256 → Near t (hex2 x) (hex2 (un_hex2 t % n))
unfolding hex2 un_hex2
near-digits n t x h e l =
    near-pair (λ d. hex_of (d / 16)) (λ d. hex_of (d % 16)) (λ a b. (un_hex a * 16 + un_hex b) % n) t x
    (λ b. let c = un_hex-lt b in
    let m : (x / 16 * 16 + un_hex b) % n ≡ x / 16 * 16 + un_hex b = mod-eq_of_lt (omega arith) in
    rw (hex-back (x / 16) (omega arith), m) (ap hex_of (omega arith)))
    (rw (hex-back (x / 16) (omega arith), hex-back (x % 16) (omega arith)) (let m : x / 16 * 16 + x % 16 ≡ x = omega arith in rw m (mod-eq_of_lt h)))

-- 01 to 10
pub near-count : (t : List ℕ) (d : ℕ) → d < 16 → Near t (hex2 (d + 1)) (hex2 (un_count t + 1))
unfolding hex2 un_count hex_of digits
near-count t d h =
    near-pair (λ d. hex_of ((d + 1) / 16)) (λ d. hex_of ((d + 1) % 16)) (λ a b. cond (eqb a 49) 15 (un_hex b - 1)) t d (λ b. kept b) (count-back d [] h)
  where
    kept : (b : ℕ) → hex_of ((cond (eqb (hex_of ((d + 1) / 16)) 49) 15 (un_hex b - 1) + 1) / 16) ≡ hex_of ((d + 1) / 16)
    kept b =
        let c = un_hex-lt b in
        ⊎_elim (λ l. let e : (d + 1) / 16 ≡ 0 = omega arith in let f : (un_hex b - 1 + 1) / 16 ≡ 0 = omega arith in rw (e, f) refl)
        (λ l. let e : (d + 1) / 16 ≡ 1 = omega arith in rw e refl) (lt-cases d 15)

-- registers: whatever stands second, the first letter is kept
reg-R : (r : ℕ) → r < 6 → reg_a r ≡ 82
unfolding reg_a registers
reg-R r h = eqb→eq (reg_a r) 82 (at (λ r. eqb (reg_a r) 82) 6 tt r h)

un_reg-R : (b : ℕ) → un_reg 82 b < 6
unfolding un_reg
un_reg-R b =
    ⊎_elim (λ h. rw (lt-ltb b 48 h) (omega arith)) (λ h. rw (le-ltb b 48 h) (
    ⊎_elim (λ g. rw (lt-ltb b 54 g) (omega arith)) (λ g. rw (le-ltb b 54 g) (omega arith)) (lt-cases b 54))) (lt-cases b 48)

pub un_reg-lt : (a b : ℕ) → un_reg a b < 8
unfolding un_reg
un_reg-lt a b =
    ⊎_elim (λ e. rw (eq-eqb a 83 e) (omega arith)) (λ e. rw (ne_eqb a 83 e) (
    ⊎_elim (λ f. rw (eq-eqb a 80 f) (omega arith)) (λ f. rw (ne_eqb a 80 f) (
    ⊎_elim (λ h. rw (lt-ltb b 48 h) (omega arith)) (λ h. rw (le-ltb b 48 h) (
    ⊎_elim (λ g. rw (lt-ltb b 54 g) (omega arith)) (λ g. rw (le-ltb b 54 g) (omega arith)) (lt-cases b 54))) (lt-cases b 48))) (eq-cases a 80))) (eq-cases a 83)

low_first : (r b : ℕ) → r < 6 → (reg_a (un_reg (reg_a r) b) ≡ reg_a r) × (not_pc (un_reg (reg_a r) b) ≡ un_reg (reg_a r) b)
unfolding not_pc
low_first r b h =
    let l = un_reg-R b in
    rw (reg-R r h) (reg-R (un_reg 82 b) l, rw (ne_eqb (un_reg 82 b) 7 (λ e. omega arith)) refl)

reg-first : (r b : ℕ) → r < 8 → reg_a (un_reg (reg_a r) b) ≡ reg_a r
unfolding un_reg reg_a registers
reg-first r b h =
    ⊎_elim (λ l. (low_first r b l).0) (λ l.
    ⊎_elim (λ e. subst (λ (r : ℕ). reg_a (un_reg (reg_a r) b) ≡ reg_a r) (sym e) refl) (λ e.
    let f : r ≡ 7 = omega arith in subst (λ (r : ℕ). reg_a (un_reg (reg_a r) b) ≡ reg_a r) (sym f) refl) (eq-cases r 6)) (lt-cases r 6)

up_first : (r b : ℕ) → r < 7 → reg_a (not_pc (un_reg (reg_a r) b)) ≡ reg_a r
unfolding un_reg reg_a registers not_pc
up_first r b h =
    ⊎_elim (λ l. let z = low_first r b l in rw z.1 z.0) (λ l.
    let f : r ≡ 6 = omega arith in subst (λ (r : ℕ). reg_a (not_pc (un_reg (reg_a r) b)) ≡ reg_a r) (sym f) refl) (lt-cases r 6)

up-back : (r : ℕ) → r < 7 → not_pc (un_reg (reg_a r) (reg_b r)) ≡ r
unfolding not_pc
up-back r h = rw (reg-back r (omega arith), ne_eqb r 7 (λ e. omega arith)) refl

pub near-reg : (t : List ℕ) (r : ℕ) → r < 8 → Near t (reg_text r) (reg_text (un_reg (get_or t 0 0) (get_or t 1 0)))
unfolding reg_text
near-reg t r h = near-pair reg_a reg_b un_reg t r (λ b. reg-first r b h) (reg-back r h)

pub near_up : (t : List ℕ) (r : ℕ) → r < 7 → Near t (reg_text r) (reg_text (not_pc (un_reg (get_or t 0 0) (get_or t 1 0))))
unfolding reg_text
near_up t r h = near-pair reg_a reg_b (λ a b. not_pc (un_reg a b)) t r (λ b. up_first r b h) (up-back r h)
