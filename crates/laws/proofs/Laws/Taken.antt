-- What a run doesn't refuse, and that an answer which meets its contract is then the definition's.
use Rattle.std.proofs.Common.{Ok, Err}
use Prim.Native.Nat.{ℕ, ◌≤◌}
use native.Mathlib.Omega.{arith}
use mathlib.Core.Bool.{Bool, true, false, cond}
use mathlib.Core.List.{List, [], ◌∷◌, ◌++◌}
use mathlib.Core.Path.{◌≡◌, refl, sym, ap, ◌∙◌}
use lib.ListN.{length}
use lib.Dec.{leb}
use borrow.Author.Tests.{le-leb}
use Rattle.state.specs.declared.State.{State}
use Rattle.state.specs.declared.Settings.{Settings}
use Rattle.state.specs.State.{heard}
use Rattle.step.specs.declared.Cause.TheVariants as Cause
use Rattle.step.specs.Step.{step_of}
use Rattle.refusal.specs.Numbers.{lines_length, line_bit}
use Rattle.refusal.specs.Answer.{number}
use Rattle.refusal.specs.Page.{refused, left}
use Rattle.refusal.proofs.Laws.Page.{first-both, apart}
use Rattle.refusal.specs.Refusal.{all_of, plain, lines_refusal, run_refusal, step_refusal}
use Rattle.refusal.proofs.Laws.Refusal.{short, cond-none}
use Rattle.machine.specs.declared.Ran.{Ran}
use Rattle.machine.specs.declared.Tally.{Tally}
use Rattle.machine.specs.Entry.{Finished, power_why, run_why, finished_page, run_end, run_page, step_why, turned, step_page}
use Rattle.machine.specs.Run.{End, end, run_of, ran_of}
use Rattle.machine.proofs.Laws.Counted.{run-trail}
use Rattle.machine.proofs.Laws.Answered.{run-done}
use Rattle.laws.proofs.Laws.Sizes.{trail-size}
use Rattle.machine.proofs.Laws.Alike.{image_at_end}

-- ---- what isn't refused: the settings, the map and the image; a list of at most 4,096 words, none with an unused bit

pub record RunTaken (settings : Settings) (m map lines : List ℕ) : Type 0 where
  pub board : power_why settings m map ≡ 0
  pub few : length lines ≤ 4096
  pub unused : all_of plain lines ≡ true

pub taken-run : (settings : Settings) (m map lines : List ℕ) → RunTaken settings m map lines → run_why settings m map lines ≡ 0
unfolding run_refusal lines_refusal
taken-run settings m map lines t = rw (t.board, le-leb (length lines) 4096 t.few, t.unused)

pub run-taken : (settings : Settings) (m map lines : List ℕ) → run_why settings m map lines ≡ 0 → RunTaken settings m map lines
unfolding run_refusal lines_refusal
run-taken settings m map lines e =
    let both = first-both (power_why settings m map) (lines_refusal lines) e in
    let unused = first-both (cond (leb (length lines) 4096) 0 lines_length) _ both.1 in
    record { board = both.0; few = short lines both.1; unused = cond-none (all_of plain lines) line_bit (λ z. omega arith) unused.1 }

pub all_append : (p : ℕ → Bool) (xs ys : List ℕ) → all_of p xs ≡ true → all_of p (xs ++ ys) ≡ all_of p ys
unfolding all_of
all_append p [] ys e = refl
all_append p (x ∷ xs) ys e = split (p x) (all_append p xs ys) e
  where
    split : (b : Bool) → (all_of p xs ≡ true → all_of p (xs ++ ys) ≡ all_of p ys) → cond b (all_of p xs) false ≡ true → cond b (all_of p (xs ++ ys)) false ≡ all_of p ys
    split true h e = h e
    split false h e = let z : ◌≡◌ {A = ℕ} 0 1 = cc in absurd (omega arith)

-- ---- an answer that isn't refused is the definition's

module _ (settings : Settings) (m map lines : List ℕ) (s : State) where
  refused-not : (why : ℕ) (n : List ℕ) (x : End) → left (refused why) n ≡ run_end x → ⊥
  refused-not why n (end t k y) e = apart (sym (ap (λ z. z.page) e))

  pub run-answer-of : (r : Finished) (n : List ℕ) → run_why settings m map lines ≡ 0 → left (finished_page r) n ≡ run_page settings m map lines s → (a : Ran) × (r ≡ Ok a) × (ran_of a n ≡ run_of settings map lines s m)
  unfolding run_page
  run-answer-of (Ok a) n h e = (a, refl, (run-done settings m map lines s a n e).1)
  run-answer-of (Err why) n h e = absurd (refused-not (number why) n (run_of settings map lines s m) (rw h at e))

  -- and leaves an image of the same length
  pub run-size : (a : Ran) (n : List ℕ) → ran_of a n ≡ run_of settings map lines s m → length n ≡ length m
  run-size a n e = ap size_of (e ∙ run-trail settings map lines s m Cause.Nothing) ∙ trail-size settings map lines s m Cause.Nothing
    where
      size_of : End → ℕ
      size_of (end t k y) = length k

pub ran-is : {a : Ran} {n k : List ℕ} {t : State} {y : Tally} → ran_of a n ≡ end t k y → (a ≡ record { state = t; tally = y }) × (n ≡ k)
ran-is e = (ap ran_in e, ap image_at_end e)
  where
    ran_in : End → Ran
    ran_in (end t k y) = record { state = t; tally = y }

-- ---- a step

pub step-page-is : (settings : Settings) (m map : List ℕ) (line : ℕ) (s : State) → step_why settings m map line ≡ 0 → step_page settings m map line s ≡ turned (step_of map (heard settings line) s m)
unfolding step_page
step-page-is settings m map line s e = rw e

-- a line word that isn't refused on one board isn't on another
pub step-taken : (settings : Settings) (m map big : List ℕ) (line : ℕ) → power_why settings m big ≡ 0 → step_why settings m map line ≡ 0 → step_why settings m big line ≡ 0
unfolding step_refusal
step-taken settings m map big line h e = rw h (first-both (power_why settings m map) (cond (plain line) 0 line_bit) e).1
