-- After a step its log's entries tell the addresses that it wrote, in order.
use Prim.Native.Nat.{ℕ, zero, suc, ◌+◌, ◌*◌, ◌<◌, ◌≤◌}
use native.Mathlib.Omega.{arith}
use native.Mathlib.Numerals.{add-one}
use mathlib.Core.Bool.{Bool, true, false, cond}
use mathlib.Core.List.{List, [], ◌∷◌, ◌++◌, append_assoc, append-nil}
use mathlib.Core.Path.{◌≡◌, refl, sym, ap, ◌∙◌}
use lib.ListN.{get_or, set, length}
use Rattle.board.specs.Work.{Work, give, read_at, write_at, fitted, writable, get, put, image_word, run, value, blank}
use Rattle.std.specs.Prelude.{Result, Ok}
use Rattle.board.specs.Exec.{Store, beside, Now, good, log_count, log_room, note, with_note, allowed, exec, Board, Did, answer_as}
use Rattle.board.specs.declared.Blank.{Blank}
use Rattle.board.proofs.Laws.{board-noted, count-note, room-few}
use Rattle.board.proofs.Laws.Exec.{store_of}
use Rattle.board.proofs.Laws.Ended.{Fresh}
use Rattle.board.proofs.Laws.Undo.{note-address, note-below, none_left}
use Rattle.state.specs.declared.State.{State}
use Rattle.state.specs.declared.Outside.{Outside}
use Rattle.step.specs.declared.Kind.{Kind}
use Rattle.step.specs.Step.{kind_of, work_of, bus_error}
use Rattle.step.specs.Told.{Access, reads, writes, accesses}
use Rattle.step.specs.Written.{writes_of, written_by, error_writes, step_writes, entries, addresses}

-- ---- one entry more

entries-same : (n : ℕ) (l k : List ℕ) → ((i : ℕ) → 0 < i → i ≤ n * 2 → get_or k i 0 ≡ get_or l i 0) → entries n k ≡ entries n l
unfolding entries
entries-same zero l k h = refl
entries-same (suc n) l k h = rw (h (n * 2 + 1) (omega arith) (omega arith), entries-same n l k (λ i p q. h i p (omega arith))) refl

module _ (l : List ℕ) (a v : ℕ) (whole : length l ≡ 32) (few : log_count l < 15) where
  entry_more : entries (suc (log_count l)) (note l a v) ≡ entries (log_count l) l ++ (a ∷ [])
  unfolding entries
  entry_more = rw (note-address l a v whole few, entries-same (log_count l) l (note l a v) (note-below l a v whole few)) refl

  noted_more : addresses (note l a v) ≡ addresses l ++ (a ∷ [])
  noted_more = ap (λ n. entries n (note l a v)) (count-note l a v whole ∙ add-one (log_count l)) ∙ entry_more

-- ---- by induction over work

read_more : {A : Type 0} (f : Bool) (a : ℕ) (st : Store) (y : Now A) (xs : List Access) {x : A} {st₁ : Store} → allowed f a st y ≡ good x st₁
    → (y ≡ good x st₁ → addresses st₁.log ≡ addresses st.log ++ writes_of xs)
    → addresses st₁.log ≡ addresses st.log ++ writes_of (reads a ∷ cond f xs [])
unfolding writes_of
read_more true a st y xs h g = g h
read_more false a st y xs h g = let z : ◌≡◌ {A = ℕ} 0 1 = cc in absurd (omega arith)

write-more : {A : Type 0} (f r : Bool) (a : ℕ) (st : Store) (y : Now A) (xs : List Access) {x : A} {st₁ : Store} → allowed f a st (allowed r a st y) ≡ good x st₁
    → (r ≡ true → y ≡ good x st₁ → addresses st₁.log ≡ (addresses st.log ++ (a ∷ [])) ++ writes_of xs)
    → addresses st₁.log ≡ addresses st.log ++ writes_of (writes a ∷ cond f xs [])
unfolding writes_of
write-more true true a st y xs h g = g refl h ∙ append_assoc (addresses st.log) (a ∷ []) (writes_of xs)
write-more true false a st y xs h g = let z : ◌≡◌ {A = ℕ} 0 1 = cc in absurd (omega arith)
write-more false r a st y xs h g = let z : ◌≡◌ {A = ℕ} 0 1 = cc in absurd (omega arith)

wrote : {A : Type 0} (map : List ℕ) (w : Work A) (st : Store) → Board map st → {x : A} {st₁ : Store} → exec map w st ≡ good x st₁
    → addresses st₁.log ≡ addresses st.log ++ written_by map w st.image
unfolding exec accesses writes_of
wrote map (give x) st b h = ap (λ z. addresses (store_of z).log) (sym h) ∙ sym (append-nil (addresses st.log))
wrote map (read_at z a k) st b h =
    read_more (fitted map a) a st _ (accesses map (k (get z st.image a)) st.image) h (λ e. wrote map (k (get z st.image a)) st b e)
wrote map (write_at z a v w) st b h =
    write-more (writable map a) (log_room st.log) a st _ (accesses map w (put z st.image a v)) h (λ r e.
    wrote map w (with_note z a v st) (board-noted z a v st r b) e
    ∙ ap (λ ws. ws ++ writes_of (accesses map w (put z st.image a v))) (noted_more st.log a (image_word st.image a) b.whole (room-few st.log r)))

-- ---- from an empty log

none_told : (l : List ℕ) → log_count l ≡ 0 → addresses l ≡ []
unfolding entries
none_told l e = rw e refl

pub wrote-fresh : {A : Type 0} {map : List ℕ} {w : Work A} {st st₁ : Store} {r : Result A Blank} {x : A} → Fresh map st → Did map w st r st₁ → r ≡ Ok x
    → addresses st₁.log ≡ written_by map w st.image
wrote-fresh {map = map} {w = w} {st = st} {st₁ = st₁} f d e =
    wrote map w st f.board (sym d.got.came ∙ ap (λ z. answer_as z st₁) e) ∙ ap (λ ws. ws ++ written_by map w st.image) (none_told st.log f.empty)

pub emptied : {map m l l' : List ℕ} → Board map (beside m l) → l' ≡ set l 0 0 → addresses l' ≡ []
emptied {l = l} {l' = l'} b e = none_told l' (ap log_count e ∙ none_left l b.whole)

-- ---- a step's ends

module _ (map : List ℕ) (k : Kind) (out : Outside) (s : State) (m ws : List ℕ) where
  pub writes-well : {t : State} {n : List ℕ} → k ≡ kind_of s out → run map (work_of k out s) m ≡ value t n → ws ≡ written_by map (work_of k out s) m → ws ≡ step_writes map out s m
  unfolding step_writes
  writes-well e h d = rw (← e, h) d

  pub writes-ill : (u : List ℕ) {a : ℕ} → k ≡ kind_of s out → run map (work_of k out s) m ≡ blank a → u ≡ m → ws ≡ error_writes map k out s u → ws ≡ step_writes map out s m
  unfolding step_writes
  writes-ill u e h f d = rw (← e, h, ← f) d

  pub error-writes-well : (u : List ℕ) {t : State} {n : List ℕ} → m ≡ u → run map (bus_error k out s) m ≡ value t n → ws ≡ written_by map (bus_error k out s) m → ws ≡ error_writes map k out s u
  unfolding error_writes
  error-writes-well u e h d = rw (← e, h) d

  pub error-writes-ill : (u : List ℕ) {a : ℕ} → m ≡ u → run map (bus_error k out s) m ≡ blank a → ws ≡ [] → ws ≡ error_writes map k out s u
  unfolding error_writes
  error-writes-ill u e h d = rw (← e, h) d
