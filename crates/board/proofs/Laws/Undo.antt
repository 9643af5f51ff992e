-- Taking the log back gives the memory as it was.
use Prim.Native.Nat.{ℕ, zero, suc, ◌+◌, ◌-◌, ◌*◌, ◌/◌, ◌%◌, ◌<◌, ◌≤◌}
use native.Mathlib.Omega.{arith}
use native.Mathlib.Numerals.{add-one}
use native.Mathlib.Decide.{ℕ_discrete}
use mathlib.Core.Bool.{Bool, true, false}
use mathlib.Core.List.{List}
use mathlib.Core.Logic.{◌≢◌}
use mathlib.Core.Path.{◌≡◌, refl, sym, ap, ◌∙◌}
use lib.ListN.{get_or, set, length, length-set}
use lib.Seq.{get_or-set_same, get_or-set_other, set-get_or, set-set, set_comm}
use Rattle.wordbytes.proofs.Laws.{low_of}
use Rattle.board.specs.Work.{Work, give, read_at, write_at, Size, word, byte, fitted, writable, even, image_word, with_word, with_byte, get, put}
use Rattle.board.specs.Exec.{Store, beside, Now, log_count, log_room, note, with_note, allowed, exec, Lent, Board, back, undone}
use Rattle.board.proofs.Laws.Exec.{store_of}
use Rattle.board.proofs.Laws.{board-noted, count-note, room-few, size-put, bytes-put}

-- ---- one word put back

high-of : (x y : ℕ) → x < 256 → y < 256 → (x + y * 256) / 256 % 256 ≡ y
high-of x y h k = omega arith

apart : (n : ℕ) → n ≢ n + 1
apart n e = omega arith

odd : (a : ℕ) → a ≢ even a → a ≡ even a + 1
unfolding even
odd a d = omega arith

-- the old word is put back over what was written
put_back : (z : Size) (m : List ℕ) (a v : ℕ) → ((i : ℕ) → get_or m i 0 < 256) → with_word (put z m a v) a (image_word m a) ≡ m
unfolding with_word with_byte image_word
put_back word m a v h =
    rw (low_of (get_or m (even a) 0) (get_or m (even a + 1) 0) (h (even a)), high-of (get_or m (even a) 0) (get_or m (even a + 1) 0) (h (even a)) (h (even a + 1)))
    (rw (
      set_comm (set m (even a) (v % 256)) (even a + 1) (even a) (v / 256 % 256) (get_or m (even a) 0) (λ e. apart (even a) (sym e)),
      set-set m (even a) (v % 256) (get_or m (even a) 0),
      set-get_or m (even a) 0,
      set-set m (even a + 1) (v / 256 % 256) (get_or m (even a + 1) 0),
      set-get_or m (even a + 1) 0,
    ))
put_back byte m a v h =
    rw (low_of (get_or m (even a) 0) (get_or m (even a + 1) 0) (h (even a)), high-of (get_or m (even a) 0) (get_or m (even a + 1) 0) (h (even a)) (h (even a + 1)))
    (elim (ℕ_discrete a (even a)) [ yes e ↦ low e | no d ↦ high (odd a d) ])
  where
    low : a ≡ even a → set (set (set m a (v % 256)) (even a) (get_or m (even a) 0)) (even a + 1) (get_or m (even a + 1) 0) ≡ m
    low e = rw (← e, set-set m a (v % 256) (get_or m a 0), set-get_or m a 0, set-get_or m (a + 1) 0)

    high : a ≡ even a + 1 → set (set (set m a (v % 256)) (even a) (get_or m (even a) 0)) (even a + 1) (get_or m (even a + 1) 0) ≡ m
    high e =
        rw (← e, set_comm m a (even a) (v % 256) (get_or m (even a) 0) (λ f. apart (even a) (sym (sym e ∙ f))), set-get_or m (even a) 0, set-set m a (v % 256) (get_or m a 0), set-get_or m a 0)

-- ---- the log

back-same : (n : ℕ) (l k m : List ℕ) → ((i : ℕ) → 0 < i → i ≤ n * 2 → get_or l i 0 ≡ get_or k i 0) → back n l m ≡ back n k m
unfolding back
back-same zero l k m h = refl
back-same (suc n) l k m h =
    rw (h (n * 2 + 1) (omega arith) (omega arith), h (n * 2 + 2) (omega arith) (omega arith))
    (back-same n l k _ (λ i p q. h i p (omega arith)))

module _ (l : List ℕ) (a v : ℕ) (whole : length l ≡ 32) (few : log_count l < 15) where
  pub note-address : get_or (note l a v) (log_count l * 2 + 1) 0 ≡ a
  unfolding note
  note-address =
      get_or-set_other (set (set l (log_count l * 2 + 1) a) (log_count l * 2 + 2) v) 0 (log_count l * 2 + 1) (log_count l + 1) 0 (λ e. omega arith)
      ∙ get_or-set_other (set l (log_count l * 2 + 1) a) (log_count l * 2 + 2) (log_count l * 2 + 1) v 0 (λ e. omega arith)
      ∙ get_or-set_same l (log_count l * 2 + 1) a 0 (omega arith)

  note-old : get_or (note l a v) (log_count l * 2 + 2) 0 ≡ v
  unfolding note
  note-old =
      get_or-set_other (set (set l (log_count l * 2 + 1) a) (log_count l * 2 + 2) v) 0 (log_count l * 2 + 2) (log_count l + 1) 0 (λ e. omega arith)
      ∙ get_or-set_same (set l (log_count l * 2 + 1) a) (log_count l * 2 + 2) v 0 (rw (length-set l (log_count l * 2 + 1) a) (omega arith))

  pub note-below : (i : ℕ) → 0 < i → i ≤ log_count l * 2 → get_or (note l a v) i 0 ≡ get_or l i 0
  unfolding note
  note-below i p q =
      get_or-set_other (set (set l (log_count l * 2 + 1) a) (log_count l * 2 + 2) v) 0 i (log_count l + 1) 0 (λ e. omega arith)
      ∙ get_or-set_other (set l (log_count l * 2 + 1) a) (log_count l * 2 + 2) i v 0 (λ e. omega arith)
      ∙ get_or-set_other l (log_count l * 2 + 1) i a 0 (λ e. omega arith)

back_one : (n : ℕ) (l m k : List ℕ) → with_word m (get_or l (n * 2 + 1) 0) (get_or l (n * 2 + 2) 0) ≡ k → back (suc n) l m ≡ back n l k
unfolding back
back_one n l m k e = ap (λ z. back n l z) e

noted_back : {map : List ℕ} (z : Size) (a v : ℕ) (st : Store) → log_count st.log < 15 → Board map st
    → with_word (put z st.image a v) (get_or (note st.log a (image_word st.image a)) (log_count st.log * 2 + 1) 0) (get_or (note st.log a (image_word st.image a)) (log_count st.log * 2 + 2) 0) ≡ st.image
noted_back z a v st f b =
    rw (note-address st.log a (image_word st.image a) b.whole f, note-old st.log a (image_word st.image a) b.whole f)
    (put_back z st.image a v b.lent.bytes)

noted-undone : {map : List ℕ} (z : Size) (a v : ℕ) (st : Store) → log_room st.log ≡ true → Board map st → undone (with_note z a v st) ≡ undone st
unfolding undone
noted-undone z a v st e b =
    let l = st.log in
    let k = note l a (image_word st.image a) in
    let f = room-few l e in
    ap (λ n. back n k (put z st.image a v)) (count-note l a (image_word st.image a) b.whole ∙ add-one (log_count l))
    ∙ back_one (log_count l) k (put z st.image a v) st.image (noted_back z a v st f b)
    ∙ back-same (log_count l) k l st.image (note-below l a (image_word st.image a) b.whole f)

allowed-undone : {A : Type 0} (b : Bool) (a : ℕ) (st : Store) (x : Now A) → (b ≡ true → undone (store_of x) ≡ undone st) → undone (store_of (allowed b a st x)) ≡ undone st
allowed-undone true a st x g = g refl
allowed-undone false a st x g = refl

-- THE UNDO: whatever work was done, taking the log back gives what it gave before
pub undo : {A : Type 0} (map : List ℕ) (w : Work A) (st : Store) → Board map st → undone (store_of (exec map w st)) ≡ undone st
unfolding exec
undo map (give x) st b = refl
undo map (read_at z a k) st b = allowed-undone (fitted map a) a st _ (λ _. undo map (k (get z st.image a)) st b)
undo map (write_at z a v w) st b =
    allowed-undone (writable map a) a st _ (λ _. allowed-undone (log_room st.log) a st _ (λ e.
    undo map w (with_note z a v st) (board-noted z a v st e b) ∙ noted-undone z a v st e b))

-- with an empty log there is nothing to take back
pub undone-none : (st : Store) → log_count st.log ≡ 0 → undone st ≡ st.image
unfolding undone back
undone-none st e = rw e

-- one entry of several is put back
pub back_more : (n : ℕ) (l m : List ℕ) → 0 < n → back (n - 1) l (with_word m (get_or l ((n - 1) * 2 + 1) 0) (get_or l ((n - 1) * 2 + 2) 0)) ≡ back n l m
unfolding back
back_more zero l m h = absurd (omega arith)
back_more (suc n) l m h = rw (less n)
  where
    less : (n : ℕ) → suc n - 1 ≡ n
    less n = omega arith

pub back_none : (n : ℕ) (l m : List ℕ) → n ≤ 0 → back n l m ≡ m
unfolding back
back_none zero l m h = refl
back_none (suc n) l m h = absurd (omega arith)

-- what is taken back is a board again, with an empty log
lent-word : {map : List ℕ} (m : List ℕ) (a v : ℕ) → Lent map m → Lent map (with_word m a v)
lent-word m a v b = record { pages = b.pages; size = size-put word m a v ∙ b.size; bytes = bytes-put word m a v b.bytes }

lent_back : {map : List ℕ} (n : ℕ) (l m : List ℕ) → Lent map m → Lent map (back n l m)
unfolding back
lent_back zero l m b = b
lent_back (suc n) l m b = lent_back n l _ (lent-word m _ _ b)

pub none_left : (l : List ℕ) → length l ≡ 32 → log_count (set l 0 0) ≡ 0
none_left l e = get_or-set_same l 0 0 0 (omega arith)

pub board-fresh : {map m l : List ℕ} → Board map (beside m l) → Board map (beside m (set l 0 0))
board-fresh {m = m} {l = l} b = record { lent = b.lent; whole = length-set l 0 0 ∙ b.whole; few = rw (none_left l b.whole) (omega arith) }

pub board-back : {map m l : List ℕ} → Board map (beside m l) → Board map (beside (undone (beside m l)) (set l 0 0))
unfolding undone
board-back {m = m} {l = l} b = board-fresh {l = l} (record { lent = lent_back (log_count l) l m b.lent; whole = b.whole; few = b.few })
