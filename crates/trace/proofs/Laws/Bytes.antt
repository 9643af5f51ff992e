-- A trace's bytes and its entries: each gives the other back.
use Prim.Native.Nat.{ℕ, zero, suc, ◌+◌, ◌*◌, ◌<◌, ◌≤◌}
use mathlib.Core.Bool.{Bool, true, false, cond}
use mathlib.Core.List.{List, [], ◌∷◌, ◌++◌, append_assoc, append-nil}
use mathlib.Core.Path.{◌≡◌, refl, ap, ◌∙◌}
use native.Mathlib.Omega.{arith}
use lib.ListN.{length, drop, length-append}
use lib.Dec.{leb, eqb}
use lib.Seq.{drop-cons, drop-length, get_or-append-add}
use borrow.Author.Tests.{le-leb, eq-eqb, eqb-true}
use Rattle.wordbytes.specs.Words.{byte_at, word_at, low, high, bytes_in}
use Rattle.wordbytes.proofs.Laws.{word-again, low_of, high-of, bytes-length}
use Rattle.state.specs.declared.State.{State}
use Rattle.step.specs.Step.{After}
use Rattle.refusal.specs.Numbers.{trace_cut}
use Rattle.refusal.proofs.Laws.Page.{first-both}
use Rattle.trace.specs.Trace.{entry_of, entries_of, joined, trace_bytes, fields_from, entries_from, told_in, why_trace}

-- ---- words and their bytes

pub bytes-append : (xs ys : List ℕ) → bytes_in (xs ++ ys) ≡ bytes_in xs ++ bytes_in ys
bytes-append [] ys = refl
bytes-append (x ∷ xs) ys = ap (λ z. low x ∷ high x ∷ z) (bytes-append xs ys)

-- what stands behind p stands there from its length on
words-after : (p t : List ℕ) (at n : ℕ) → fields_from (p ++ t) (length p + at) n ≡ fields_from t at n
unfolding fields_from
words-after p t at zero = refl
words-after p t at (suc n) =
    let second : length p + at + 1 ≡ length p + (at + 1) = omega arith in
    let next : length p + at + 2 ≡ length p + (at + 2) = omega arith in
    rw (second, next, get_or-append-add p t at 0, get_or-append-add p t (at + 1) 0, words-after p t (at + 2) n)

entries-after : (p t : List ℕ) (at n : ℕ) → entries_from (p ++ t) (length p + at) n ≡ entries_from t at n
unfolding entries_from
entries-after p t at zero = refl
entries-after p t at (suc n) =
    let next : length p + at + 20 ≡ length p + (at + 20) = omega arith in
    rw (next, words-after p t at 10, entries-after p t (at + 20) n)

words-again : (ws rest : List ℕ) → fields_from (bytes_in ws ++ rest) 0 (length ws) ≡ ws
unfolding fields_from
words-again [] rest = refl
words-again (w ∷ ws) rest = rw (word-again w, words-after (low w ∷ high w ∷ []) (bytes_in ws ++ rest) 0 (length ws), words-again ws rest)

-- ---- from the right entries to bytes and back

pub right-ten : (s : State) → length (entry_of s) ≡ 10
unfolding entry_of
right-ten s = refl

pub words-length : (t : List ℕ) (at n : ℕ) → length (fields_from t at n) ≡ n
unfolding fields_from
words-length t at zero = refl
words-length t at (suc n) = ap suc (words-length t (at + 2) n)

joined_length : (rs : List After) → length (joined (entries_of rs)) ≡ length (entries_of rs) * 10
unfolding joined entries_of
joined_length [] = omega arith
joined_length (a ∷ rs) = length-append (entry_of a.state) (joined (entries_of rs)) ∙ omega (arith, right-ten a.state, joined_length rs)

entries-again : (rs : List After) (rest : List ℕ) → entries_from (bytes_in (joined (entries_of rs)) ++ rest) 0 (length (entries_of rs)) ≡ entries_of rs
unfolding entries_from entries_of joined
entries-again [] rest = refl
entries-again (a ∷ rs) rest =
    let e = entry_of a.state in
    let behind = bytes_in (joined (entries_of rs)) ++ rest in
    let here : fields_from (bytes_in e ++ behind) 0 10 ≡ e = rw (right-ten a.state) at (words-again e behind) in
    let size : length (bytes_in e) + 0 ≡ 20 = omega (arith, bytes-length e, right-ten a.state) in
    let later : entries_from (bytes_in e ++ behind) 20 (length (entries_of rs)) ≡ entries_from behind 0 (length (entries_of rs)) = rw size at (entries-after (bytes_in e) behind 0 (length (entries_of rs))) in
    let whole : bytes_in (e ++ joined (entries_of rs)) ++ rest ≡ bytes_in e ++ behind = ap (λ z. z ++ rest) (bytes-append e (joined (entries_of rs))) ∙ append_assoc (bytes_in e) (bytes_in (joined (entries_of rs))) rest in
    ap (λ z. entries_from z 0 (suc (length (entries_of rs)))) whole
    ∙ ap (λ z. z ∷ entries_from (bytes_in e ++ behind) 20 (length (entries_of rs))) here
    ∙ ap (λ z. e ∷ z) (later ∙ entries-again rs rest)

-- THE ENTRIES COME BACK
pub told-again : (rs : List After) → told_in (trace_bytes (entries_of rs)) ≡ entries_of rs
unfolding told_in trace_bytes
told-again rs =
    let c = length (entries_of rs) in
    rw (word-again c, entries-after (low c ∷ high c ∷ []) (bytes_in (joined (entries_of rs))) 0 c, ← append-nil (bytes_in (joined (entries_of rs))), entries-again rs [])

-- AND THE BYTES ARE NOT REFUSED
pub trace-length : (rs : List After) → length (trace_bytes (entries_of rs)) ≡ 2 + length (entries_of rs) * 20
unfolding trace_bytes
trace-length rs = omega (arith, bytes-length (length (entries_of rs) ∷ joined (entries_of rs)), joined_length rs)

trace-count : (rs : List After) → word_at (trace_bytes (entries_of rs)) 0 ≡ length (entries_of rs)
unfolding trace_bytes
trace-count rs = word-again (length (entries_of rs))

pub taken-again : (rs : List After) → why_trace (trace_bytes (entries_of rs)) ≡ 0
unfolding why_trace
taken-again rs =
    let size = trace-length rs in
    rw (trace-count rs, le-leb 2 (length (trace_bytes (entries_of rs))) (omega arith), eq-eqb (length (trace_bytes (entries_of rs))) (2 + length (entries_of rs) * 20) size)

-- ---- from a lent trace to its entries and back

module _ (t : List ℕ) (bytes : (i : ℕ) → byte_at t i < 256) where
  words_back : (n at : ℕ) → at + n * 2 ≤ length t → drop at t ≡ bytes_in (fields_from t at n) ++ drop (at + n * 2) t
  unfolding fields_from
  words_back zero at h = let e : at + 0 * 2 ≡ at = omega arith in rw e
  words_back (suc n) at h =
      let one : suc at ≡ at + 1 = omega arith in
      let two : suc (at + 1) ≡ at + 2 = omega arith in
      let far : at + 2 + n * 2 ≡ at + suc n * 2 = omega arith in
      drop-cons t at 0 (omega arith)
      ∙ ap (λ z. byte_at t at ∷ drop z t) one
      ∙ ap (λ z. byte_at t at ∷ z) (drop-cons t (at + 1) 0 (omega arith))
      ∙ rw (low_of (byte_at t at) (byte_at t (at + 1)) (bytes at), high-of (byte_at t at) (byte_at t (at + 1)) (bytes at), two, words_back n (at + 2) (omega arith), far)

  entries-back : (n at : ℕ) → at + n * 20 ≤ length t → drop at t ≡ bytes_in (joined (entries_from t at n)) ++ drop (at + n * 20) t
  unfolding entries_from joined
  entries-back zero at h = let e : at + 0 * 20 ≡ at = omega arith in rw e
  entries-back (suc n) at h =
      let far : at + 20 + n * 20 ≡ at + suc n * 20 = omega arith in
      words_back 10 at (omega arith)
      ∙ rw (entries-back n (at + 20) (omega arith), bytes-append (fields_from t at 10) (joined (entries_from t (at + 20) n)), ← append_assoc (bytes_in (fields_from t at 10)) (bytes_in (joined (entries_from t (at + 20) n))) (drop (at + 20 + n * 20) t), far)

  entries-length : (n at : ℕ) → length (entries_from t at n) ≡ n
  unfolding entries_from
  entries-length zero at = refl
  entries-length (suc n) at = ap suc (entries-length n (at + 20))

  -- what is not refused has its length
  size-taken : why_trace t ≡ 0 → length t ≡ 2 + word_at t 0 * 20
  unfolding why_trace
  size-taken e = size (eqb (length t) (2 + word_at t 0 * 20)) refl (first-both (cond (leb 2 (length t)) 0 trace_cut) _ e).1
    where
      size : (b : Bool) → eqb (length t) (2 + word_at t 0 * 20) ≡ b → cond b 0 trace_cut ≡ 0 → length t ≡ 2 + word_at t 0 * 20
      size true h e = eqb-true _ _ h
      size false h e = absurd (omega (arith, e))

  -- THE BYTES COME BACK
  pub bytes_back : why_trace t ≡ 0 → t ≡ trace_bytes (told_in t)
  unfolding told_in trace_bytes fields_from
  bytes_back e =
      let size = size-taken e in
      let c = word_at t 0 in
      let last : drop (2 + c * 20) t ≡ [] = rw (← size) (drop-length t) in
      words_back 1 0 (omega arith)
      ∙ rw (entries-length c 2, entries-back c 2 (omega arith), last, append-nil (bytes_in (joined (entries_from t 2 c))))
