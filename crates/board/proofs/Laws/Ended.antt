-- Work from an empty log: what it came to on the image alone, and what taking it back gives.
use Prim.Native.Nat.{ℕ}
use native.Mathlib.Omega.{arith}
use mathlib.Core.List.{List}
use mathlib.Core.Path.{◌≡◌, sym, ap, ◌∙◌}
use Rattle.board.specs.Work.{Work, value, blank, run}
use Rattle.std.specs.Prelude.{Result, Ok, Err}
use Rattle.board.specs.Exec.{Store, log_count, exec, Board, Did, answer_as, undone}
use Rattle.board.specs.declared.Blank.{Blank}
use Rattle.board.proofs.Laws.Exec.{store_of}
use Rattle.board.proofs.Laws.Undo.{undo, undone-none}
use Rattle.board.proofs.Laws.Bounded.{Bounded, shown_of}
use Rattle.board.proofs.Laws.Bounded.{exec-is-run}

pub record Fresh (map : List ℕ) (st : Store) : Type 0 where
  pub board : Board map st
  pub empty : log_count st.log ≡ 0

module _ {A : Type 0} {map : List ℕ} {w : Work A} {st : Store} (f : Fresh map st) where
  came-to : Bounded 15 w → shown_of (exec map w st) ≡ run map w st.image
  came-to h = exec-is-run map h st f.board (rw f.empty (omega arith))

  pub ended-well : {x : A} {r : Result A Blank} {st₁ : Store} → Bounded 15 w → Did map w st r st₁ → r ≡ Ok x → run map w st.image ≡ value x st₁.image
  ended-well {st₁ = st₁} h d e = sym (came-to h) ∙ ap shown_of (sym d.got.came ∙ ap (λ z. answer_as z st₁) e)

  pub ended-blank : {r : Result A Blank} {b : Blank} {st₁ : Store} → Bounded 15 w → Did map w st r st₁ → r ≡ Err b → run map w st.image ≡ blank b.at
  ended-blank {st₁ = st₁} h d e = sym (came-to h) ∙ ap shown_of (sym d.got.came ∙ ap (λ z. answer_as z st₁) e)

  pub taken_back : {r : Result A Blank} {b : Blank} {st₁ : Store} → Did map w st r st₁ → r ≡ Err b → undone st₁ ≡ st.image
  taken_back {st₁ = st₁} d e = ap (λ z. undone (store_of z)) (sym (ap (λ z. answer_as z st₁) e) ∙ d.got.came) ∙ undo map w st f.board ∙ undone-none st f.empty
