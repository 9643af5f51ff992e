-- The round trip over two calls: what a call of the writer left, given to a call of the reader, and the other way round.
use Rattle.std.proofs.Common.{◌≡◌, ℕ, zero, suc, ◌+◌, ◌<◌, ◌≤◌, Bool, true, false, cond, ltb, List, Result, Ok, length, get_or, take, drop, sym, refl, ap, ◌∙◌, subst, arith, length-take, length-take-le, get_or-take, ltb-false, le-ltb}
use native.Mathlib.Decide.{dec_lt}
use lib.ListN.{get_or-eq_default}
use lib.Seq.{take-append_seam}
use Rattle.hexdigits.specs.Over.{in_front_of}
use Rattle.optext.specs.declared.rows.OperandKind.{OperandKind}
use Rattle.optext.specs.declared.Written.{Written}
use Rattle.optext.specs.declared.WriteRefusal.{WriteRefusal}
use Rattle.optext.specs.declared.ReadRefusal.{ReadRefusal}
use Rattle.optext.specs.Rows.{first_of, second_of}
use Rattle.optext.specs.Line.{row_of, takes, operand_text, sep_text, op_text, taken, text_of}
use Rattle.refusal.specs.Numbers.{text_short}
use Rattle.refusal.specs.Page.{Page, answered, left}
use Rattle.refusal.proofs.Laws.Page.{answered-one, first-both, call-right, one-call}
use Rattle.optext.specs.Answer.{line, line_page, written_page, room_why, write_why, in_front, write_of, Writes, read_page}
use Rattle.optext.specs.Column.{Whole}
use Rattle.optext.specs.Words.{Reads}
use Rattle.optext.proofs.Laws.Once.{reads-one}
use Rattle.optext.proofs.Laws.Forms.{takes-le}
use Rattle.optext.proofs.Laws.Back.{op-ignores}
use Rattle.optext.proofs.Laws.Theorems.{reads-text, written_one, read_one}

-- ---- words lent past those taken

same_op : (k : OperandKind) (w x y : ℕ) → (takes k w ≡ 1 → x ≡ y) → operand_text k w x ≡ operand_text k w y
same_op k w x y f = go (takes k w) refl
  where
    go : (n : ℕ) → takes k w ≡ n → operand_text k w x ≡ operand_text k w y
    go zero e = op-ignores k w x y e
    go (suc zero) e = ap (λ (z : ℕ). operand_text k w z) (f e)
    go (suc (suc n)) e = let h = takes-le k w in absurd (omega arith)

line_same : (w x y x' y' : ℕ) → (takes (first_of (row_of w)) w ≡ 1 → x ≡ x') → (takes (second_of (row_of w)) w ≡ 1 → y ≡ y') → op_text w x y ≡ op_text w x' y'
unfolding op_text sep_text
line_same w x y x' y' f g = rw (same_op (first_of (row_of w)) w x x' f, same_op (second_of (row_of w)) w y y' g) refl

-- the text is that of the words taken
text-taken : (ws : List ℕ) → text_of (take (taken (get_or ws 0 0)) ws) ≡ text_of ws
unfolding text_of taken
text-taken ws =
    let w = get_or ws 0 0 in
    let a = takes (first_of (row_of w)) w in
    let b = takes (second_of (row_of w)) w in
    let h : get_or (take (1 + a + b) ws) 0 0 ≡ w = get_or-take (1 + a + b) ws 0 0 (omega arith) in
    rw h
    (line_same w _ _ _ _
    (λ e. get_or-take (1 + a + b) ws 1 0 (omega (arith, e)))
    (λ e. get_or-take (1 + a + b) ws (1 + a) 0 (omega (arith, e))))

pub some-taken : (w : ℕ) → 0 < taken w
unfolding taken
some-taken w = omega arith

-- what a writer that answers a line answered and left
pub record Lined (ws b : List ℕ) (n m : ℕ) (e : List ℕ) : Type 0 where
  pub long : n ≡ length (text_of ws)
  pub many : m ≡ taken (get_or ws 0 0)
  pub room : m ≤ length ws
  pub wide : 32 ≤ length b
  pub left : e ≡ in_front_of (text_of ws) b

pub none_told : (a b n : ℕ) (x : Bool) → ltb a b ≡ x → 0 < n → cond x n 0 ≡ 0 → b ≤ a
none_told a b n true e l h = absurd (omega arith)
none_told a b n false e l h = ltb-false a b e

write-sound : (ws : List ℕ) (size : ℕ) → write_why ws size ≡ 0 → (32 ≤ size) × (taken (get_or ws 0 0) ≤ length ws)
unfolding write_why
write-sound ws size e =
    let a = first-both (room_why size) _ e in
    let b = first-both (cond (ltb (length ws) 1) 6 0) _ a.1 in
    (none_told size 32 text_short (ltb size 32) refl (omega arith) a.0, none_told (length ws) (taken (get_or ws 0 0)) 7 (ltb (length ws) (taken (get_or ws 0 0))) refl (omega arith) b.1)

pub lined : (ws b : List ℕ) (n m : ℕ) (e : List ℕ) → left (answered (line_page n m)) e ≡ write_of ws b → Lined ws b n m e
unfolding write_of
lined ws b n m e p =
    let h = call-right (write_why ws (length b)) (in_front (text_of ws) (taken (get_or ws 0 0)) b) b p in
    let page : line_page n m ≡ line_page (length (text_of ws)) (taken (get_or ws 0 0)) = answered-one (ap (λ z. z.page) h.1) in
    let known = write-sound ws (length b) h.0 in
    let many : m ≡ taken (get_or ws 0 0) = ap (λ z. z.words) page in
    record { long = ap (λ z. z.count) page; many = many; room = omega (arith, many, known.1); wide = known.0; left = ap (λ z. z.lent) h.1 }

-- a writer with room, and every word that the op code takes, answers a line
pub line-written : (ws b : List ℕ) → 32 ≤ length b → taken (get_or ws 0 0) ≤ length ws → write_of ws b ≡ in_front (text_of ws) (taken (get_or ws 0 0)) b
unfolding write_of write_why
line-written ws b h k =
    let some = some-taken (get_or ws 0 0) in
    let x : ltb (length b) 32 ≡ false = le-ltb (length b) 32 h in
    let y : ltb (length ws) 1 ≡ false = le-ltb (length ws) 1 (omega (arith, some, k)) in
    let z : ltb (length ws) (taken (get_or ws 0 0)) ≡ false = le-ltb (length ws) (taken (get_or ws 0 0)) k in
    rw (x, y, z) refl

writes_line : (ws b e : List ℕ) (r : Result Written WriteRefusal) → 32 ≤ length b → taken (get_or ws 0 0) ≤ length ws → Writes ws b r e
    → (r ≡ line (length (text_of ws)) (taken (get_or ws 0 0))) × (e ≡ in_front_of (text_of ws) b)
writes_line ws b e r h k p = one-call written_page written_one r (line (length (text_of ws)) (taken (get_or ws 0 0))) e (in_front_of (text_of ws) b) (p.met ∙ line-written ws b h k)

-- other words with the same ones in front
pub same-front : (ws vs : List ℕ) (m : ℕ) → m ≡ taken (get_or ws 0 0) → m ≤ length ws → take m vs ≡ take m ws
    → (taken (get_or vs 0 0) ≡ m) × (text_of vs ≡ text_of ws) × (m ≤ length vs)
same-front ws vs m many room e =
    let some = some-taken (get_or ws 0 0) in
    let first : get_or vs 0 0 ≡ get_or ws 0 0 = sym (get_or-take m vs 0 0 (omega (arith, many, some))) ∙ ap (λ (x : List ℕ). get_or x 0 0) e ∙ get_or-take m ws 0 0 (omega (arith, many, some)) in
    let count : taken (get_or vs 0 0) ≡ m = ap taken first ∙ sym many in (
      count,
      sym (text-taken vs) ∙ ap (λ (k : ℕ). text_of (take k vs)) count ∙ ap text_of e ∙ ap (λ (k : ℕ). text_of (take k ws)) many ∙ text-taken ws,
      long vs m (ap length e ∙ length-take-le m ws room),
    )
  where
    long : (xs : List ℕ) (k : ℕ) → length (take k xs) ≡ k → k ≤ length xs
    long xs k h = omega (arith, h, length-take k xs)

-- ---- the two calls

pub whole_take : (ws : List ℕ) (m : ℕ) → ((i : ℕ) → get_or ws i 0 < 65536) → m ≡ taken (get_or ws 0 0) → m ≤ length ws → Whole (take m ws)
whole_take ws m u e l =
    let k = some-taken (get_or ws 0 0) in
    let z : get_or (take m ws) 0 0 ≡ get_or ws 0 0 = get_or-take m ws 0 0 (omega (arith, e, k)) in
    record { count = length-take-le m ws l ∙ e ∙ ap taken (sym z); words = word }
  where
    word : (i : ℕ) → get_or (take m ws) i 0 < 65536
    word i = elim (dec_lt i m) [
      | yes p ↦ subst (λ (x : ℕ). x < 65536) (sym (get_or-take m ws i 0 p)) (u i)
      | no p ↦ subst (λ (x : ℕ). x < 65536) (sym (get_or-eq_default (take m ws) 0 {n = i} (rw (length-take-le m ws l) (omega arith)))) (omega arith)
    ]

-- the line that the writer left is the text of the words taken
line-left : (ws b : List ℕ) (n m : ℕ) (b' : List ℕ) → Lined ws b n m b' → take n b' ≡ text_of (take m ws)
unfolding in_front_of
line-left ws b n m b' l =
    ap (λ (k : ℕ). take k b') l.long
    ∙ ap (λ (x : List ℕ). take (length (text_of ws)) x) l.left
    ∙ take-append_seam (text_of ws) (drop (length (text_of ws)) b)
    ∙ sym (text-taken ws)
    ∙ ap (λ (k : ℕ). text_of (take k ws)) (sym l.many)

-- WHAT THE WRITER LEFT, THE READER GIVES BACK as the words that were taken
pub again : (ws b : List ℕ) (n m : ℕ) (b' vs vs' : List ℕ) (a : Page ℕ) → ((i : ℕ) → get_or ws i 0 < 65536)
    → left (answered (line_page n m)) b' ≡ write_of ws b → 3 ≤ length vs → Reads a (take n b') vs vs'
    → (a ≡ answered m) × (vs' ≡ in_front_of (take m ws) vs)
again ws b n m b' vs vs' a u p h q =
    let l = lined ws b n m b' p in
    let w = whole_take ws m u l.many l.room in
    let z = reads-one (text_of (take m ws)) vs vs' (in_front_of (take m ws) vs) a (answered (length (take m ws))) (subst (λ (t : List ℕ). Reads a t vs vs') (line-left ws b n m b' l) q) (reads-text (take m ws) vs w h) in
    (z.0 ∙ ap answered (length-take-le m ws l.room), z.1)

pub text-again : (ws b : List ℕ) (n m : ℕ) (b' vs vs' : List ℕ) (r : Result ℕ ReadRefusal) → ((i : ℕ) → get_or ws i 0 < 65536)
    → Writes ws b (line n m) b' → 3 ≤ length vs → Reads (read_page r) (take n b') vs vs'
    → (r ≡ Ok m) × (vs' ≡ in_front_of (take m ws) vs)
text-again ws b n m b' vs vs' r u p h q =
    let z = again ws b n m b' vs vs' (read_page r) u p.met h q in
    (read_one r (Ok m) z.0, z.1)

-- WHAT THE READER GAVE, THE WRITER MAKES THE TEXT OF that was read
pub text-made : (t vs vs' : List ℕ) (n : ℕ) (b b' : List ℕ) (r : Result Written WriteRefusal)
    → Reads (read_page (Ok n)) t vs vs' → 32 ≤ length b → Writes (take n vs') b r b' → (r ≡ line (length t) n) × (b' ≡ in_front_of t b)
text-made t vs vs' n b b' r q h p =
    let m = q.count ∙ q.whole.count in
    let l = writes_line (take n vs') b b' r h (omega (arith, q.whole.count)) p in
    let line : line (length (text_of (take n vs'))) (taken (get_or (take n vs') 0 0)) ≡ line (length t) n = rw (q.text, ← m) refl in
    (l.0 ∙ line, l.1 ∙ ap (λ (x : List ℕ). in_front_of x b) q.text)

-- WORDS LENT PAST THOSE TAKEN ARE IGNORED
pub text-ignores : (ws vs b : List ℕ) (n m : ℕ) (b' b'' : List ℕ) (r : Result Written WriteRefusal)
    → Writes ws b (line n m) b' → take m vs ≡ take m ws → Writes vs b r b'' → (r ≡ line n m) × (b'' ≡ b')
text-ignores ws vs b n m b' b'' r p e q =
    let l = lined ws b n m b' p.met in
    let f = same-front ws vs m l.many l.room e in
    let d = writes_line vs b b'' r l.wide (rw f.0 f.2) q in
    (d.0 ∙ ap (λ (x : ℕ). line x (taken (get_or vs 0 0))) (ap length f.1 ∙ sym l.long) ∙ ap (λ (x : ℕ). line n x) f.0, d.1 ∙ ap (λ (x : List ℕ). in_front_of x b) f.1 ∙ sym l.left)
