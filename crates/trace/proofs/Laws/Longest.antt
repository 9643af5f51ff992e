-- A trace has at most 1,310,702 bytes. One that is longer is refused, and so are its first 1,310,703 bytes.
use Prim.Native.Nat.{ℕ, ◌+◌, ◌*◌, ◌<◌, ◌≤◌}
use native.Mathlib.Omega.{arith}
use native.Mathlib.Decide.{dec_le, dec_lt}
use mathlib.Core.Bool.{cond}
use mathlib.Core.List.{List}
use mathlib.Core.Path.{◌≡◌, refl, sym, ap, ◌∙◌}
use lib.Dec.{leb, eqb}
use lib.ListN.{length, take, get_or, get_or-eq_default}
use lib.Seq.{take_all, length-take-le, get_or-take}
use borrow.Author.Tests.{le-leb, eqb-true, ne_eqb}
use Rattle.wordbytes.specs.Words.{word_at}
use Rattle.refusal.specs.Numbers.{trace_cut}
use Rattle.refusal.proofs.Laws.Page.{first-both}
use Rattle.refusal.proofs.Laws.Refusal.{cond-none}
use Rattle.trace.specs.Trace.{why_trace}

-- more bytes than any count tells
long-refused : (t : List ℕ) → ((i : ℕ) → get_or t i 0 < 256) → 1310702 < length t → why_trace t ≡ trace_cut
unfolding why_trace
long-refused t bytes h = rw (le-leb 2 (length t) (omega arith), ne_eqb (length t) (2 + word_at t 0 * 20) (λ e. omega (arith, e, bytes 0, bytes 1))) refl

-- A TRACE'S REFUSAL DOESN'T DEPEND ON BYTES PAST THE FIRST 1,310,703
pub trace-front : (t : List ℕ) (n : ℕ) → ((i : ℕ) → get_or t i 0 < 256) → 1310702 < n → why_trace (take n t) ≡ why_trace t
trace-front t n bytes h = elim (dec_le n (length t)) [
  | yes l ↦ long-refused (take n t) (front l) (rw (length-take-le n t l) h) ∙ sym (long-refused t bytes (omega arith))
  | no m ↦ ap why_trace (take_all n t (omega arith))
]
  where
    front : n ≤ length t → (i : ℕ) → get_or (take n t) i 0 < 256
    front l i = elim (dec_lt i n) [
      | yes p ↦ rw (get_or-take n t i 0 p) (bytes i)
      | no p ↦ rw (get_or-eq_default (take n t) 0 {n = i} (rw (length-take-le n t l) (omega arith))) (omega arith)
    ]

-- one that is not refused is no longer
pub trace-long : (t : List ℕ) → ((i : ℕ) → get_or t i 0 < 256) → why_trace t ≡ 0 → length t ≤ 1310702
unfolding why_trace
trace-long t bytes e =
    let both = first-both (cond (leb 2 (length t)) 0 trace_cut) (cond (eqb (length t) (2 + word_at t 0 * 20)) 0 trace_cut) e in
    let h = eqb-true (length t) (2 + word_at t 0 * 20) (cond-none (eqb (length t) (2 + word_at t 0 * 20)) trace_cut (λ z. omega (arith, z)) both.1) in
    omega (arith, h, bytes 0, bytes 1)
