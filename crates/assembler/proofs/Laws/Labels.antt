-- Laws of specs/Labels.antt.
use mathlib.Core.Path.{◌≡◌, refl}
use mathlib.Core.List.{List, ◌++◌}
use Prim.Native.Nat.{ℕ, zero, suc, ◌+◌, ◌*◌}
use native.Mathlib.Omega.{arith}
use native.Mathlib.Numerals.{add-one}
use lib.ListN.{length, length-append}
use Rattle.hexdigits.specs.Over.{Wrote, WroteAt}
use Rattle.patchline.specs.Text.{label_of}
use Rattle.patchline.proofs.Laws.Joined.{then_at, none-at}
use Rattle.refusal.specs.Page.{refused, Left, left}
use Rattle.refusal.proofs.Laws.Page.{call-refused, call-answered}
use Rattle.assembler.specs.Source.{line_count, line_at, here_of}
use Rattle.assembler.specs.Section.{pair}
use Rattle.assembler.specs.Answer.{source_why, section_written, checked}
use Rattle.assembler.specs.Labels.{label_at, labels_to, labels_of, label_faults, most_labels, labels_page}

-- ---- the lines one after another

pub labels_length : (s : List ℕ) (i : ℕ) → length (labels_to s i) ≡ 4 * i
unfolding labels_to
labels_length s zero = refl
labels_length s (suc i) = let h = labels_length s i in simp length-append (omega arith)

pub labels-none : (s b : List ℕ) → WroteAt 0 (labels_to s 0) b b 0
unfolding labels_to
labels-none s b = none-at 0 b

labels_next : (s : List ℕ) (i : ℕ) → labels_to s (i + 1) ≡ labels_to s i ++ label_at s i
unfolding labels_to
labels_next s i = rw (add-one i)

-- one line more
pub labels-more : (s u b b1 e : List ℕ) (i at n h : ℕ) → u ≡ label_of (line_at s i) → h ≡ here_of s i → WroteAt 0 (labels_to s i) b b1 at
    → WroteAt at (pair (length u) ++ pair h) b1 e n → WroteAt 0 (labels_to s (i + 1)) b e n
labels-more s u b b1 e i at n h p q w v = rw (labels_next s i) (then_at _ _ _ _ _ _ _ _ (omega arith) w (rw (p, q) at v))

pub labels-all : (s b e : List ℕ) (i n : ℕ) → i ≡ line_count s → WroteAt 0 (labels_to s i) b e n → Wrote (labels_of s) b e n
labels-all s b e i n q w = rw (← q) (record { bytes = w.bytes; count = omega (arith, w.count) })

-- ---- refused or not

module _ (s out : List ℕ) where
  pub labels-refused : (why : ℕ) → why ≡ source_why most_labels s (length out) → (why ≡ 0 → ⊥) → left (refused why) out ≡ labels_page s out
  unfolding labels_page
  labels-refused why e n = call-refused (source_why most_labels s (length out)) (checked label_faults s (section_written (labels_of s) out) out) out why e n

  pub labels-answered : (x : Left ℕ (List ℕ)) → source_why most_labels s (length out) ≡ 0 → x ≡ checked label_faults s (section_written (labels_of s) out) out → x ≡ labels_page s out
  unfolding labels_page
  labels-answered x e h = call-answered (source_why most_labels s (length out)) (checked label_faults s (section_written (labels_of s) out) out) out x e h
