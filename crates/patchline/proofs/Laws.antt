-- Laws of one line: parts of a text, labels, aliases, texts with digits for their labels, and what a line says.
pub mod Joined
pub mod Search
use mathlib.Core.Path.{◌≡◌, refl, ap, sym, ◌∙◌}
use mathlib.Core.Bool.{Bool, true, false, cond, not, ◌&&◌, true≢false, and-false}
use mathlib.Core.List.{List, [], ◌∷◌, ◌++◌}
use mathlib.Core.Logic.{◌⊎◌, ⊎_elim}
use Prim.Native.Nat.{ℕ, zero, suc, ◌+◌, ◌-◌, ◌≤◌, ◌<◌}
use native.Mathlib.Omega.{arith}
use borrow.Author.Tests.{eq-eqb, ne_eqb, lt-ltb, le-ltb}
use lib.Dec.{eqb, leb}
use lib.ListN.{length, take, drop, get_or, length-append, length-take, length-drop, get_or-eq_default, get_or-append}
use lib.Seq.{take_all, get_or-append_seam, take-append-le}
use native.Mathlib.Numerals.{add-one}
use Rattle.hexdigits.specs.Digits.{letters, hex4}
use Rattle.hexdigits.specs.Over.{in_front_of, TextLeft, text_left, written}
use Rattle.optext.specs.declared.Op.{Op}
use Rattle.optext.specs.Digits.{un_hex4}
use Rattle.std.proofs.Common.{Option, Some, None, subst}
use Rattle.std.specs.Prelude.{IfSome}
use Rattle.optext.specs.Read.{same_text, op_of, op_or_none}
use Rattle.std.specs.List.{prefix_len}
use Rattle.std.specs.Cmp.Lexicographic.{pointwise}
use Rattle.optext.specs.First.{first_from}
use Rattle.optext.proofs.Laws.Read.{same-pointwise}
use Rattle.optext.proofs.Laws.Choose.{lt-cases, bool_cases, first-le}
use Rattle.plate.specs.Plate.{format_of}
use Rattle.patchline.specs.Text.{slice, padding_from, without_padding, is_past, gives, is_name, past_of, find_from, is_at, name_in, label_of}
use Rattle.patchline.specs.Line.{operands_at, comma_at, first_in, second_in, bare_operand, at_of, label_in, filled_in, alias_of, tail_of, filled, is_directive, op_in, says, op, said_of, said_with, op_or, is_branch, is_sob}
use Rattle.patchline.specs.declared.oneline.How.TheVariants.{Unknown, Origin, Plain, Relative}
use Rattle.patchline.specs.declared.oneline.Said.{Said}

-- parts of a text
pub part_none : (a e : ℕ) (t : List ℕ) → e ≤ a → [] ≡ slice a e t
part_none a e t h =
    let z : e - a ≡ 0 = omega arith in
    rw z refl

pub part-all : (a e : ℕ) (t u : List ℕ) → u ≡ drop a t → length u ≤ e - a → u ≡ slice a e t
part-all a e t u q h = q ∙ sym (take_all (e - a) (drop a t) (rw q at h))

-- where the padding begins
padding-le : (n : ℕ) (t : List ℕ) → padding_from n t ≤ n
unfolding padding_from
padding-le zero t = omega arith
padding-le (suc n) t = go (eqb (get_or t n 0) 32) (padding-le n t)
  where
    go : (b : Bool) → padding_from n t ≤ n → cond b (padding_from n t) (suc n) ≤ suc n
    go true h = omega arith
    go false h = omega arith

padding-front : (n : ℕ) (b s : List ℕ) → n ≤ length b → padding_from n (b ++ s) ≡ padding_from n b
unfolding padding_from
padding-front zero b s h = refl
padding-front (suc n) b s h = rw (get_or-append b s 0 n (omega arith), padding-front n b s (omega arith)) refl

longer : (b : List ℕ) (x : ℕ) → length (b ++ (x ∷ [])) ≡ suc (length b)
longer b x = length-append b (x ∷ []) ∙ add-one (length b)

-- a text that ends with no space has no padding
pub pad-kept : (b : List ℕ) (x : ℕ) → (x ≡ 32 → ⊥) → without_padding (b ++ (x ∷ [])) ≡ b ++ (x ∷ [])
unfolding without_padding padding_from
pad-kept b x n = rw (longer b x, get_or-append_seam b x [] 0, ne_eqb x 32 n) (take_all (suc (length b)) (b ++ (x ∷ [])) (omega (arith, longer b x)))

-- a space at the end is padding
pub pad_more : (b : List ℕ) (x : ℕ) → x ≡ 32 → without_padding (b ++ (x ∷ [])) ≡ without_padding b
unfolding without_padding padding_from
pad_more b x e =
    rw (longer b x, get_or-append_seam b x [] 0, eq-eqb x 32 e, padding-front (length b) b (x ∷ []) (omega arith))
    (take-append-le (padding_from (length b) b) b (x ∷ []) (padding-le (length b) b))

pub pad_none : (t : List ℕ) → length t ≡ 0 → t ≡ without_padding t
unfolding without_padding padding_from
pad_none [] h = refl
pad_none (x ∷ t) h = absurd (omega arith)

-- how far a text has letters alone
past-from : (f : ℕ → Bool) (t : List ℕ) (n : ℕ) → n ≡ length t → first_from (λ (k : ℕ). not (f (get_or t k 0))) n 0 ≡ prefix_len f t
past-from f [] n e = rw e refl
past-from f (x ∷ t) n e = rw e (go (f x) (shifted (length t) 0 ∙ ap suc (past-from f t (length t) refl)))
  where
    shifted : (m i : ℕ) → first_from (λ (k : ℕ). not (f (get_or (x ∷ t) k 0))) m (suc i) ≡ suc (first_from (λ (k : ℕ). not (f (get_or t k 0))) m i)
    shifted zero i = refl
    shifted (suc m) i = at_i (f (get_or t i 0)) (shifted m (suc i))
      where
        at_i : (b : Bool) → first_from (λ (k : ℕ). not (f (get_or (x ∷ t) k 0))) m (suc (suc i)) ≡ suc (first_from (λ (k : ℕ). not (f (get_or t k 0))) m (suc i))
            → cond (not b) (suc i) (first_from (λ (k : ℕ). not (f (get_or (x ∷ t) k 0))) m (suc (suc i))) ≡ suc (cond (not b) i (first_from (λ (k : ℕ). not (f (get_or t k 0))) m (suc i)))
        at_i true h = h
        at_i false h = refl

    go : (b : Bool) → first_from (λ (k : ℕ). not (f (get_or (x ∷ t) k 0))) (length t) 1 ≡ suc (prefix_len f t)
        → cond (not b) 0 (first_from (λ (k : ℕ). not (f (get_or (x ∷ t) k 0))) (length t) 1) ≡ cond b (1 + prefix_len f t) 0
    go true h = omega (arith, h)
    go false h = refl

pub letters-past : (top : ℕ) (t : List ℕ) → prefix_len (λ (x : ℕ). leb 65 x && leb x top) t ≡ past_of top t
unfolding past_of is_past
letters-past top t = sym (past-from (λ (x : ℕ). leb 65 x && leb x top) t (length t) refl)

pub letters-le : (top : ℕ) (t : List ℕ) → past_of top t ≤ length t
unfolding past_of
letters-le top t = omega (arith, first-le (is_past top t) (length t) 0)

-- tests joined
pub gives-short : (u l : List ℕ) → length l ≤ length u → false ≡ gives u l
unfolding gives
gives-short u l h = rw (get_or-eq_default l 0 h) (sym (and-false (same_text (take (length u) l) u)))

-- a line's label
module _ (l : List ℕ) (n : ℕ) (e : n ≡ past_of 90 l) where
  pub label-taken : is_name (take n l) ≡ true → gives (take n l) l ≡ true → take n l ≡ label_of l
  unfolding label_of name_in
  label-taken p q = rw (← e, p, q) refl

  pub label-other : is_name (take n l) ≡ true → gives (take n l) l ≡ false → [] ≡ label_of l
  unfolding label_of name_in
  label-other p q = rw (← e, p, q) refl

  pub label-none : is_name (take n l) ≡ false → [] ≡ label_of l
  unfolding label_of name_in
  label-none p = rw (← e, p) refl

-- a name has six letters at most, and so has a label
pub name-six : (u : List ℕ) → is_name u ≡ true → length u ≤ 6
unfolding is_name
name-six u e = ⊎_elim (λ h. absurd (true≢false (sym (rw (lt-ltb 6 (length u) h) at e)))) (λ h. h) (lt-cases 6 (length u))

pub label-six : (l : List ℕ) → length (label_of l) ≤ 6
unfolding label_of
label-six l = ⊎_elim (λ p. rw p (omega arith)) (λ p. rw p (go (gives (name_in l) l) (name-six (name_in l) p))) (bool_cases (is_name (name_in l)))
  where
    go : (b : Bool) → length (name_in l) ≤ 6 → length (cond b (name_in l) []) ≤ 6
    go true h = h
    go false h = omega arith

-- where operands begin
pub place-le : (c : ℕ) (t : List ℕ) (i r : ℕ) → r ≡ find_from c t i → r ≤ i + (length t - i)
unfolding find_from
place-le c t i r e = rw e (first-le (is_at c t) (length t - i) i)

pub part-le : (a e : ℕ) (t : List ℕ) → length (slice a e t) ≤ length t
part-le a e t = simp (length-take, length-drop) (omega arith)

pub part-few : (e : ℕ) (t : List ℕ) → length (slice 0 e t) ≤ e
part-few e t = simp (length-take, length-drop) (omega arith)

-- an operand
pub label-in-yes : (o u : List ℕ) → u ≡ bare_operand o → is_name u ≡ true → u ≡ label_in o
unfolding label_in
label-in-yes o u e p = rw (← e, p) refl

pub label-in-no : (o u : List ℕ) → u ≡ bare_operand o → is_name u ≡ false → [] ≡ label_in o
unfolding label_in
label-in-no o u e p = rw (← e, p) refl

pub filled-label : (d o : List ℕ) → is_name (bare_operand o) ≡ true → filled_in d o ≡ slice 0 (at_of o) o ++ d
unfolding filled_in
filled-label d o p = rw p refl

pub filled-plain : (d o : List ℕ) → is_name (bare_operand o) ≡ false → filled_in d o ≡ o
unfolding filled_in
filled-plain d o p = rw p refl

pub filled-in-le : (d o : List ℕ) → length (filled_in d o) ≤ length o + length d
filled-in-le d o =
    ⊎_elim (λ p. rw (filled-plain d o p) (omega arith)) (λ p. rw (filled-label d o p, length-append) (yes (part-le 0 (at_of o) o))) (bool_cases (is_name (bare_operand o)))
  where
    yes : length (slice 0 (at_of o) o) ≤ length o → length (slice 0 (at_of o) o) + length d ≤ length o + length d
    yes h = omega arith

-- aliases
pub tells-same : {r b : Bool} {a t : List ℕ} (h : List ℕ) → r ≡ pointwise eqb h a → a ≡ t → r ≡ b → same_text h t ≡ b
tells-same h e q k = ap (λ (l : List ℕ). same_text h l) (sym q) ∙ sym (same-pointwise h _) ∙ sym e ∙ k

module _ (h : List ℕ) where
  pub alias-1 : same_text h (letters "BHIS ") ≡ true → alias_of h ≡ letters "BCC "
  unfolding alias_of
  alias-1 a = rw a refl

  pub alias-2 : same_text h (letters "BHIS ") ≡ false → same_text h (letters "BLO ") ≡ true → alias_of h ≡ letters "BCS "
  unfolding alias_of
  alias-2 a b = rw (a, b) refl

  pub alias-3 : same_text h (letters "BHIS ") ≡ false → same_text h (letters "BLO ") ≡ false → same_text h (letters "CALL ") ≡ true → alias_of h ≡ letters "JSR PC,"
  unfolding alias_of
  alias-3 a b c = rw (a, b, c) refl

  pub alias-4 : same_text h (letters "BHIS ") ≡ false → same_text h (letters "BLO ") ≡ false → same_text h (letters "CALL ") ≡ false → same_text h (letters "JMP ") ≡ true
      → alias_of h ≡ letters "LEA PC,"
  unfolding alias_of
  alias-4 a b c d = rw (a, b, c, d) refl

  pub alias-5 : same_text h (letters "BHIS ") ≡ false → same_text h (letters "BLO ") ≡ false → same_text h (letters "CALL ") ≡ false → same_text h (letters "JMP ") ≡ false
      → alias_of h ≡ h
  unfolding alias_of
  alias-5 a b c d = rw (a, b, c, d) refl

  pub alias-le : length (alias_of h) ≤ length h + 7
  unfolding alias_of
  alias-le =
      pick (same_text h (letters "BHIS ")) (letters "BCC ") _ (omega arith)
      (pick (same_text h (letters "BLO ")) (letters "BCS ") _ (omega arith)
      (pick (same_text h (letters "CALL ")) (letters "JSR PC,") _ (omega arith)
      (pick (same_text h (letters "JMP ")) (letters "LEA PC,") h (omega arith) (omega arith))))
    where
      pick : (b : Bool) (u v : List ℕ) → length u ≤ length h + 7 → length v ≤ length h + 7 → length (cond b u v) ≤ length h + 7
      pick true u v p q = p
      pick false u v p q = q

-- the second operand
pub tail-some : (d t : List ℕ) → comma_at t < length t → tail_of d t ≡ (44 ∷ []) ++ filled_in d (second_in t)
unfolding tail_of
tail-some d t h = rw (lt-ltb _ _ h) refl

pub tail_none : (d t : List ℕ) → length t ≤ comma_at t → tail_of d t ≡ []
unfolding tail_of
tail_none d t h = rw (le-ltb _ _ h) refl

pub second-le : (t : List ℕ) → length (second_in t) ≤ length t
unfolding second_in
second-le t = simp length-drop (omega arith)

tail-le : (d t : List ℕ) → length (tail_of d t) ≤ 1 + (length t + length d)
tail-le d t = ⊎_elim (λ h. rw (tail-some d t h) (some (filled-in-le d (second_in t)) (second-le t))) (λ h. rw (tail_none d t h) (omega arith)) (lt-cases (comma_at t) (length t))
  where
    some : length (filled_in d (second_in t)) ≤ length (second_in t) + length d → length (second_in t) ≤ length t
        → suc (length (filled_in d (second_in t))) ≤ 1 + (length t + length d)
    some p q = omega arith

-- an op code that there is has a word
pub op_or-is : (ws : List ℕ) → op_or (op_or_none ws) ≡ op_of ws
op_or-is [] = refl
op_or-is (w ∷ ws) = refl

pub op-some : (r : Option Op) (ws : List ℕ) → r ≡ op_or_none ws → IfSome r (λ o. o.count ≤ 3) → IfSome r (λ o. (0 < o.count) × (o.count ≤ 3))
op-some r [] e h = subst (λ (z : Option Op). IfSome z (λ o. (0 < o.count) × (o.count ≤ 3))) (sym e) tt
op-some r (w ∷ ws) e h = subst (λ (z : Option Op). IfSome z (λ o. o.count ≤ 3) → IfSome z (λ o. (0 < o.count) × (o.count ≤ 3))) (sym e) (λ k. (omega arith, k)) h

pub given_op : (r : Option Op) (ws : List ℕ) (o : Op) → r ≡ op_or_none ws → r ≡ Some o → op_of ws ≡ o
given_op r ws o e q = sym (op_or-is ws) ∙ ap op_or (sym e ∙ q)

pub given-some : (r : Option Op) (ws : List ℕ) (o : Op) → r ≡ op_or_none ws → IfSome r (λ o. o.count ≤ 3) → r ≡ Some o → (0 < o.count) × (o.count ≤ 3)
given-some r ws o e h q = subst (λ (z : Option Op). IfSome z (λ o. (0 < o.count) × (o.count ≤ 3))) q (op-some r ws e h)

pub given-none : (r : Option Op) (ws : List ℕ) → r ≡ op_or_none ws → r ≡ None → (op_of ws).count ≤ 0
given-none r ws e q = let z : op_of ws ≡ op 0 0 = sym (op_or-is ws) ∙ ap op_or (sym e ∙ q) in omega (arith, ap (λ (o : Op). o.count) z)

pub op_or-le : (r : Option Op) → IfSome r (λ o. (0 < o.count) × (o.count ≤ 3)) → (op_or r).count ≤ 3
op_or-le (Some o) h = h.1
op_or-le None h = omega arith

pub some-first : (r : Option Op) → IfSome r (λ o. (0 < o.count) × (o.count ≤ 3)) → IfSome r (λ o. 0 < o.count)
some-first (Some o) h = h.0
some-first None h = tt

-- a field or an offset that is an op code's, or none
pub other-none : (is_branch (op 0 0).a ≡ false) × (is_sob (op 0 0).a ≡ false)
unfolding format_of
other-none = (refl, refl)

module _ (f : Option Op) (p : is_branch (op_or f).a ≡ false) (q : is_sob (op_or f).a ≡ false) where
  pub with-relative : (o : Op) → 0 < o.count → says Relative o ≡ said_with (op_or f) o
  unfolding said_with
  with-relative o h = rw (p, q, ne_eqb o.count 0 (λ e. omega arith)) refl

  pub with-unknown : says Unknown (op 0 0) ≡ said_with (op_or f) (op 0 0)
  unfolding said_with
  with-unknown = rw (p, q) refl

-- what a line says
module _ (t : List ℕ) where
  pub said-empty : length t ≡ 0 → said_of t ≡ says Plain (op 0 0)
  unfolding said_of
  said-empty h = rw (eq-eqb _ 0 h) refl

  pub said_plain : (length t ≡ 0 → ⊥) → 0 < (op_in t).count → said_of t ≡ says Plain (op_in t)
  unfolding said_of
  said_plain h p = rw (ne_eqb _ 0 h, lt-ltb 0 _ p) refl

  pub said-org : (length t ≡ 0 → ⊥) → (op_in t).count ≤ 0 → is_directive (letters ".ORG ") t ≡ true → said_of t ≡ says Origin (op 0 (un_hex4 (drop 5 t)))
  unfolding said_of
  said-org h p q = rw (ne_eqb _ 0 h, le-ltb 0 _ p, q) refl

  pub said-word : (length t ≡ 0 → ⊥) → (op_in t).count ≤ 0 → is_directive (letters ".ORG ") t ≡ false → is_directive (letters ".WORD ") t ≡ true
      → said_of t ≡ says Plain (op 1 (un_hex4 (drop 6 t)))
  unfolding said_of
  said-word h p q r = rw (ne_eqb _ 0 h, le-ltb 0 _ p, q, r) refl

  pub said-labels : (length t ≡ 0 → ⊥) → (op_in t).count ≤ 0 → is_directive (letters ".ORG ") t ≡ false → is_directive (letters ".WORD ") t ≡ false
      → said_of t ≡ said_with (op_in (filled (letters "00") t)) (op_in (filled (letters "0000(PC)") t))
  unfolding said_of
  said-labels h p q r = rw (ne_eqb _ 0 h, le-ltb 0 _ p, q, r) refl

pub first-in-le : (t : List ℕ) → length (first_in t) ≤ length t
unfolding first_in
first-in-le t = part-le (operands_at t) (comma_at t) t

pub filled-le : (d t : List ℕ) → length t ≤ 33 → length d ≤ 8 → length (filled d t) ≤ 123
unfolding filled
filled-le d t h k =
    let a = alias-le (slice 0 (operands_at t) t) in
    let b = part-le 0 (operands_at t) t in
    let c = filled-in-le d (first_in t) in
    let e = first-in-le t in
    let f = tail-le d t in
    simp length-append (omega arith)

pub said-with-le : (f o : Op) → f.count ≤ 3 → o.count ≤ 3 → (said_with f o).op.count ≤ 3
unfolding said_with
said-with-le f o p q = pick (is_branch f.a) _ _ p (pick (is_sob f.a) _ _ p (pick (eqb o.count 0) _ _ (omega arith) q))
  where
    pick : (b : Bool) (x y : Said) → x.op.count ≤ 3 → y.op.count ≤ 3 → (cond b x y).op.count ≤ 3
    pick true x y p q = p
    pick false x y p q = q

-- four digits where four zeros stood
pub four-digits : (x n : ℕ) (e : List ℕ) → text_left n e ≡ written (hex4 x) (0 ∷ 0 ∷ 0 ∷ 0 ∷ []) → e ≡ hex4 x
unfolding written in_front_of hex4
four-digits x n e q = ap (λ (z : TextLeft). z.bytes) q
