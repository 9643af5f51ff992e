-- TEXTS AS THE LINES OF A SOURCE, each padded with spaces: the assembler finds every text again, and no label before it.
use mathlib.Core.Path.{◌≡◌, refl, ap, ◌∙◌}
use mathlib.Core.Bool.{Bool, true, false, cond, not, ◌&&◌}
use mathlib.Core.List.{List, [], ◌∷◌, ◌++◌}
use Prim.Native.Nat.{ℕ, zero, suc, ◌+◌, ◌-◌, ◌*◌, ◌≤◌, ◌<◌}
use native.Mathlib.Omega.{arith}
use lib.Dec.{T, eqb}
use lib.ListN.{length, take, drop, get_or, replicate, length-append, length-replicate, get_or-replicate, get_or-append}
use lib.Seq.{take-append_seam, drop-append-add, take_at, get_or-append-add}
use Rattle.optext.specs.Read.{same_text}
use Rattle.patchline.specs.Text.{is_name, gives, name_in, label_of, padding_from, without_padding, rest_of}
use Rattle.assembler.specs.Source.{line_count, line_at, text_at}
use Rattle.optext.specs.Shown.{OtherLetter, Without, none, more, last_letter, Stands}
use Rattle.optext.proofs.Laws.Shown.{without-append, without_at}
use Rattle.patchlaws.specs.Padded.{padded, source_of}

-- ---- the lines of a source

unfoldable pub AllStand : List (List ℕ) → Type 0
AllStand [] = Unit {0}
AllStand (t ∷ ts) = Stands t × AllStand ts

not_at : (c x : ℕ) → OtherLetter c x → eqb x c ≡ false
not_at c x h = go (eqb x c) h.is
  where
    go : (b : Bool) → T (not b) → b ≡ false
    go true p = absurd p
    go false p = refl

no-colons : (n : ℕ) → Without 58 (replicate n 32)
no-colons zero = none
no-colons (suc n) = more (record { is = tt }) (no-colons n)

last-at : (x : ℕ) (t : List ℕ) → get_or (x ∷ t) (length t) 0 ≡ last_letter x t
last-at x [] = refl
last-at x (y ∷ t) = last-at y t

module _ (t : List ℕ) (s : Stands t) where
  -- no label: there is no colon
  no_label : label_of (padded t) ≡ []
  unfolding label_of gives padded
  no_label =
      let u : List ℕ = name_in (t ++ replicate (32 - length t) 32) in
      let c : eqb (get_or (t ++ replicate (32 - length t) 32) (length u) 0) 58 ≡ false =
      not_at 58 _ (without_at 58 (t ++ replicate (32 - length t) 32) (length u) (record { is = tt }) (without-append s.colon (no-colons (32 - length t))))
      in
      rw c (go (is_name u) (same_text (take (length u) (t ++ replicate (32 - length t) 32)) u) u)
    where
      go : (b c : Bool) (u : List ℕ) → cond b (cond (c && false) u []) [] ≡ []
      go true true u = refl
      go true false u = refl
      go false c u = refl

-- the padding goes
spaces-end : (t : List ℕ) (n m : ℕ) → m ≤ n → padding_from (length t + m) (t ++ replicate n 32) ≡ padding_from (length t) (t ++ replicate n 32)
unfolding padding_from
spaces-end t n zero h = let z : length t + 0 ≡ length t = omega arith in rw z refl
spaces-end t n (suc m) h =
    let z : length t + suc m ≡ suc (length t + m) = omega arith in
    let q : get_or (t ++ replicate n 32) (length t + m) 0 ≡ 32 = get_or-append-add t (replicate n 32) m 0 ∙ get_or-replicate n m 32 0 (omega arith) in
    rw (z, q) (spaces-end t n m (omega arith))

text-end : (t p : List ℕ) → OtherLetter 32 (last_letter 0 t) → padding_from (length t) (t ++ p) ≡ length t
unfolding padding_from
text-end [] p h = refl
text-end (x ∷ t) p h =
    let q : get_or ((x ∷ t) ++ p) (length t) 0 ≡ last_letter x t = get_or-append (x ∷ t) p 0 (length t) (omega arith) ∙ last-at x t in
    rw (q, not_at 32 (last_letter x t) h) refl

-- THE TEXT IS THE REST OF ITS LINE
rest-is : (t : List ℕ) → Stands t → rest_of (padded t) ≡ t
unfolding rest_of without_padding padded
rest-is t s = rw (no_label t s) found
  where
    n : ℕ
    n = 32 - length t

    size : length (t ++ replicate n 32) ≡ length t + n
    size = simp length-append (ap (λ (k : ℕ). length t + k) (length-replicate n 32))

    end : padding_from (length (t ++ replicate n 32)) (t ++ replicate n 32) ≡ length t
    end = ap (λ (k : ℕ). padding_from k (t ++ replicate n 32)) size ∙ spaces-end t n n (omega arith) ∙ text-end t (replicate n 32) s.ending

    found : take (padding_from (length (t ++ replicate n 32)) (t ++ replicate n 32)) (t ++ replicate n 32) ≡ t
    found = ap (λ (k : ℕ). take k (t ++ replicate n 32)) end ∙ take-append_seam t (replicate n 32)

-- ---- the lines of a source

padded-size : (t : List ℕ) → length t ≤ 32 → length (padded t) ≡ 32
unfolding padded
padded-size t h =
    let e : length (replicate {A = ℕ} (32 - length t) 32) ≡ 32 - length t = length-replicate (32 - length t) 32 in
    simp length-append (omega arith)

pub source_lines : (ts : List (List ℕ)) → AllStand ts → length (source_of ts) ≡ 32 * length ts
unfolding source_of AllStand
source_lines [] s = refl
source_lines (t ∷ ts) s =
    let h = padded-size t s.0.size in
    let k = source_lines ts s.1 in
    simp length-append (omega arith)

line-is : (ts : List (List ℕ)) (i : ℕ) → AllStand ts → i < length ts → take 32 (drop (32 * i) (source_of ts)) ≡ padded (get_or ts i [])
unfolding source_of AllStand
line-is [] i s h = absurd (omega arith)
line-is (t ∷ ts) zero s h = take_at (padded t) (source_of ts) 32 (padded-size t s.0.size)
line-is (t ∷ ts) (suc i) s h =
    let z : 32 * suc i ≡ length (padded t) + 32 * i = let k = padded-size t s.0.size in omega arith in
    ap (λ (k : ℕ). take 32 (drop k (padded t ++ source_of ts))) z
    ∙ ap (λ (l : List ℕ). take 32 l) (drop-append-add (padded t) (source_of ts) (32 * i))
    ∙ line-is ts i s.1 (omega arith)

stands_at : (ts : List (List ℕ)) (i : ℕ) → AllStand ts → i < length ts → Stands (get_or ts i [])
unfolding AllStand
stands_at [] i s h = absurd (omega arith)
stands_at (t ∷ ts) zero s h = s.0
stands_at (t ∷ ts) (suc i) s h = stands_at ts i s.1 (omega arith)

module _ (ts : List (List ℕ)) (a : AllStand ts) where
  pub count-is : line_count (source_of ts) ≡ length ts
  count-is = let h = source_lines ts a in omega arith

  module _ (i : ℕ) (h : i < length ts) where
    -- EACH LINE HAS NO LABEL, AND ITS TEXT IS THE TEXT
    pub label-none : label_of (line_at (source_of ts) i) ≡ []
    unfolding line_at
    label-none = ap label_of (line-is ts i a h) ∙ no_label (get_or ts i []) (stands_at ts i a h)

    pub text-is : text_at (source_of ts) i ≡ get_or ts i []
    unfolding text_at line_at
    text-is = ap rest_of (line-is ts i a h) ∙ rest-is (get_or ts i []) (stands_at ts i a h)
