-- The end of a whole block move is that of the manual's page: the steps, one after the other.
use Prim.Native.Nat.{ℕ, ◌/◌, ◌<◌}
use native.Mathlib.Omega.{arith}
use mathlib.Core.Bool.{true, false}
use mathlib.Core.List.{List, [], ◌∷◌}
use mathlib.Core.Path.{◌≡◌, refl, sym, ap, subst, ◌∙◌}
use lib.ListN.{length}
use Rattle.state.specs.declared.State.{State}
use Rattle.state.specs.declared.Settings.{Settings}
use Rattle.state.specs.State.{heard, reg, with_mark}
use Rattle.format8.specs.Format8.{move_row}
use Rattle.opcodes.specs.Fields.{block_source, block_destination}
use Rattle.format8.specs.Page.{Plain, element_count, state_moved}
use Rattle.step.specs.declared.Cause.{Cause}
use Rattle.step.specs.Step.{After, after, hears, step_of}
use Rattle.step.specs.Block.{Ready}
use Rattle.step.proofs.Laws.Block.{after_one, element_in, ElementsLeft, all_left, unheard-marked, ready_marked, step-once, step-last, ready_on, left-on, image-on, state-on, unmarked-on, hearing-on, image-last}
use Rattle.machine.specs.Trail.{trail_of, blanks_in, first_blank_in}
use Rattle.machine.specs.Block.{AllUnheard, none, also, elements_of, block_move, TrailEndsAt}

-- a step with cause 0, and what follows it
step-ends : (settings : Settings) (map : List ℕ) (line : ℕ) (lines : List ℕ) (s : State) (m : List ℕ) (c : Cause) {u : State} {n : List ℕ} {e : After}
    → step_of map (heard settings line) s m ≡ after u n Cause.OpCode → TrailEndsAt (after u n Cause.OpCode) (trail_of settings map lines u n) e
    → TrailEndsAt (after s m c) (trail_of settings map (line ∷ lines) s m) e
unfolding trail_of blanks_in first_blank_in
step-ends settings map line lines s m c h k =
    rw h
    (record {
      last = k.last;
      tally = rw (ap (λ t. t.blanks) k.tally, ap (λ t. t.first) k.tally) refl;
    })

-- the mark is no part of the count
count-marked : (s : State) → reg (with_mark s false) 0 ≡ reg s 0
unfolding with_mark reg
count-marked s = refl

module _ (settings : Settings) (fit : settings.blocks ≡ true) (map : List ℕ) (op : ℕ) (eight : op / 512 ≡ 7) (p : Plain (block_source op) (block_destination op)) where
  -- from any state, marked or not: the first element clears the mark
  elements : (lines : List ℕ) (s : State) (m : List ℕ) (c : Cause)
      → ElementsLeft (length lines) (with_mark s false) → Ready map op (length lines) (with_mark s false) m → AllUnheard settings (hears (with_mark s false)) lines
      → TrailEndsAt (after s m c) (trail_of settings map lines s m) (elements_of op (length lines) (with_mark s false) m)
  unfolding trail_of blanks_in first_blank_in
  elements [] s m c l a none = absurd (omega (arith, l.some))
  elements (line ∷ []) s m c l a (also q none) =
      let u = with_mark s false in
      step-ends settings map line [] s m c (step-last p eight (heard settings line) fit s (unheard-marked s (heard settings line) q) l a)
      (record { last = ap (λ x. after (state_moved (move_row op) (block_source op) (block_destination op) 1 u) x Cause.OpCode) (sym (image-last op p u m)); tally = refl })
  elements (line ∷ two ∷ lines) s m c l a (also q qs) =
      let u = with_mark s false in
      step-ends settings map line (two ∷ lines) s m c (step-once p eight (heard settings line) fit s (unheard-marked s (heard settings line) q) l a)
      (rw (← state-on op p u (length lines), ← image-on op p u (length lines) m)
      (onward (after_one op u) (unmarked-on op p s) (elements (two ∷ lines) (after_one op u) (element_in op u m) Cause.OpCode)
      (left-on op p u (length lines) l) (ready_on p a) (rw (hearing-on op p u) qs)))
    where
      -- an unmarked state goes on as it is
      onward : (v : State) → with_mark v false ≡ v → {n : ℕ} {rest : List ℕ} {b : After} {rs : List After} {x : List ℕ}
          → (ElementsLeft n (with_mark v false) → Ready map op n (with_mark v false) x → AllUnheard settings (hears (with_mark v false)) rest → TrailEndsAt b rs (elements_of op n (with_mark v false) x))
          → ElementsLeft n v → Ready map op n v x → AllUnheard settings (hears v) rest → TrailEndsAt b rs (elements_of op n v x)
      onward v e {n} {rest} {b} {rs} {x} f = subst (λ w. ElementsLeft n w → Ready map op n w x → AllUnheard settings (hears w) rest → TrailEndsAt b rs (elements_of op n w x)) e f

  -- a line word for each element, in which nothing is heard; an IEN's mark ends with the first
  pub block-move : (lines : List ℕ) (s : State) (m : List ℕ) (c : Cause)
      → reg s 0 < 65536 → Ready map op (element_count (reg s 0)) s m → length lines ≡ element_count (reg s 0) → AllUnheard settings (hears (with_mark s false)) lines
      → TrailEndsAt (after s m c) (trail_of settings map lines s m) (block_move op (with_mark s false) m)
  block-move lines s m c w a e q =
      let f : length lines ≡ element_count (reg (with_mark s false) 0) = e ∙ ap element_count (sym (count-marked s)) in
      rw (← f) (elements lines s m c (rw (← f) at (all_left (with_mark s false) (rw (count-marked s) w))) (rw (← e) at (ready_marked a)) q)
