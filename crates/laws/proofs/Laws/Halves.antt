-- The theorems that specs/Halves.antt states.
use Rattle.std.proofs.Common.{Ok}
use Prim.Native.Nat.{ℕ, ◌+◌, ◌≤◌}
use native.Mathlib.Omega.{arith}
use mathlib.Core.Bool.{true, false}
use mathlib.Core.List.{List, [], ◌++◌}
use mathlib.Core.Path.{◌≡◌, refl, sym, ap, ◌∙◌}
use lib.ListN.{length, length-append}
use Rattle.state.specs.declared.State.{State}
use Rattle.state.specs.declared.Settings.{Settings}
use Rattle.refusal.specs.Refusal.{all_of, plain, power_refusal}
use Rattle.wordbytes.specs.Words.{word_at}
use Rattle.machine.specs.declared.Ran.{Ran}
use Rattle.machine.specs.Entry.{Finished, power_why, finished_page, run_page}
use Rattle.machine.specs.Numbers.{state_page, nowhere, first_page}
use Rattle.machine.specs.Run.{rest_of_run, ran_of, run_of}
use Rattle.machine.specs.Counted.{tally_joined}
use Rattle.machine.proofs.Laws.Counted.{joined-left, joined-right}
use Rattle.machine.proofs.Laws.Back.{one-run}
use Rattle.refusal.specs.Page.{left}
use Rattle.machine.proofs.Laws.Answered.{run-done}
use Rattle.machine_c.specs.Layout.{state_bytes, place_number, place_told, state_from, settings_from, refused_state, refused_step}
use Rattle.machine_c.proofs.Laws.Again.{state-again, state-taken}
use Rattle.laws.proofs.Laws.Taken.{taken-run, all_append, run-answer-of, run-size, ran-is}
use Rattle.laws.proofs.Laws.Append.{followed, joined-ends}
use Rattle.laws.specs.One.{as_run}
use Rattle.laws.proofs.Laws.One.{step-as-run, calls-one}
use Rattle.laws.specs.Halves.{first_place, first_told, Halves, state_left, still, RunJoined, RunNone, NoneBefore, NoneAfter, RunOne, Wd16RunJoined, Wd16RunOne}
use Rattle.laws.proofs.Laws.Calls.{bytes_for, Within, call-answered, settings-taken, step-taken, buffers-taken, blanks-word, place-word, told-word, place_after, told-after, run-low}

pub halves_of : (n : ℕ) (a b c : Ran) → c ≡ followed n a b → Halves n a b c
unfolding tally_joined
halves_of n a b c e = record { state = ap (λ z. z.state) e; blanks = ap (λ z. z.tally.blanks) e; first_blank = ap (λ z. z.tally.first) e }

module _ (settings : Settings) (map xs ys : List ℕ) (s : State) (m : List ℕ)
    (board : power_why settings m map ≡ 0) (few : length xs + length ys ≤ 4096) (unused : all_of plain xs ≡ true) (unused_too : all_of plain ys ≡ true) where
  pub run-joined : RunJoined settings map xs ys s m board few unused unused_too
  run-joined r q p m₁ m₂ m₃ e f g =
      let one = run-answer-of settings m map xs s r m₁ (taken-run settings m map xs (record { board = board; few = omega arith; unused = unused })) e in
      let a = one.0 in
      let size : length m₁ ≡ length m = run-size settings m map xs s a m₁ one.2 in
      let next : left (finished_page q) m₂ ≡ run_page settings m₁ map ys a.state = f ∙ ap (λ z. run_page settings m₁ map ys (state_left z s)) one.1 in
      let next-board : power_why settings m₁ map ≡ 0 = ap (λ z. power_refusal z map settings.powerup settings.halt settings.register) size ∙ board in
      let two = run-answer-of settings m₁ map ys a.state q m₂ (taken-run settings m₁ map ys (record { board = next-board; few = omega arith; unused = unused_too })) next in
      let three = run-answer-of settings m map (xs ++ ys) s p m₃ (taken-run settings m map (xs ++ ys) (record { board = board; few = omega (arith, length-append xs ys); unused = all_append plain xs ys unused ∙ unused_too })) g in
      let same = joined-ends settings map xs ys s m m₁ m₂ m₃ a two.0 three.0 one.2 two.2 three.2 in
      record {
        first = a;
        second = two.0;
        whole = three.0;
        first_done = one.1;
        second_done = two.1;
        whole_done = three.1;
        halves = halves_of (length xs) a two.0 three.0 same.0;
        image = same.1;
      }

-- ---- AN EMPTY LIST IS NEUTRAL: the run over it stays where it is, without a blank; so before another or after it, it adds nothing

pub run_none : RunNone
unfolding all_of rest_of_run
run_none settings map s m n r h e =
    let one = run-answer-of settings m map [] s r n (taken-run settings m map [] (record { board = h; few = omega arith; unused = refl })) e in
    let same = ran-is one.2 in
    (one.1 ∙ ap Ok same.0, same.1)

pub none_before : NoneBefore
none_before s a = halves_of 0 (still s) a a (ap (λ z. record { state = a.state; tally = z }) (sym (joined-left a.tally)))

pub none_after : NoneAfter
none_after n a = halves_of n a (still a.state) a (ap (λ z. record { state = a.state; tally = z }) (sym (joined-right n a.tally)))

-- ---- A RUN OF ONE LINE WORD IS A STEP: the same refusal, or the same state and image, with the step's cause tallied at place 0

pub run-one : RunOne
run-one settings map line s m m₁ m₂ r q e f = one-run r (as_run q) m₁ m₂ (e ∙ sym (step-as-run settings m map line s q m₂ f))

-- ---- THE SAME FOR C, on the bytes that the calls leave: the second call is lent the state and the image that the first left, the
-- third those that the first was lent. w are the settings' bytes

-- the tallies' words, from what the runs counted
module _ (n : ℕ) (a b c : Ran) (h : Halves n a b c) (low : Within a.tally.first) (low_too : Within b.tally.first) {t₁ t₂ t₃ : List ℕ}
    (e : t₁ ≡ bytes_for a) (f : t₂ ≡ bytes_for b) (g : t₃ ≡ bytes_for c) where
  pub blanks-add : word_at t₃ 0 ≡ word_at t₁ 0 + word_at t₂ 0
  blanks-add = rw (e, f, g, blanks-word a.tally.blanks (first_page a.tally.first), blanks-word b.tally.blanks (first_page b.tally.first), blanks-word c.tally.blanks (first_page c.tally.first)) h.blanks

  pub place_is : word_at t₃ 2 ≡ first_place n (word_at t₁ 2) (word_at t₂ 2)
  place_is =
      rw (e, f, g, place-word a.tally.blanks (first_page a.tally.first), place-word b.tally.blanks (first_page b.tally.first), place-word c.tally.blanks (first_page c.tally.first))
      (ap (λ z. place_number (first_page z)) h.first_blank ∙ place_after n a.tally.first b.tally.first low low_too)

  pub told_is : word_at t₃ 4 ≡ first_told (word_at t₁ 2) (word_at t₁ 4) (word_at t₂ 4)
  told_is =
      rw (e, f, g, place-word a.tally.blanks (first_page a.tally.first), told-word a.tally.blanks (first_page a.tally.first), told-word b.tally.blanks (first_page b.tally.first), told-word c.tally.blanks (first_page c.tally.first))
      (ap (λ z. place_told (first_page z)) h.first_blank ∙ told-after n a.tally.first b.tally.first low)

module _ (map w xs ys b t t' t'' m : List ℕ) (good : refused_step b w ≡ false) (tally : length t ≡ 6) (tally' : length t' ≡ 6) (tally'' : length t'' ≡ 6)
    (board : power_why (settings_from w) m map ≡ 0) (few : length xs + length ys ≤ 4096) (unused : all_of plain xs ≡ true) (unused_too : all_of plain ys ≡ true) where
  pub wd16-run-joined : Wd16RunJoined map w xs ys b t t' t'' m good tally tally' tally'' board few unused unused_too
  wd16-run-joined k₁ k₂ k₃ b₁ t₁ m₁ b₂ t₂ m₂ b₃ t₃ m₃ e f g =
      let settings = settings_from w in
      let s = state_from b in
      let right = settings-taken b w good in
      let one = call-answered b t m map w xs k₁ b₁ t₁ m₁ (buffers-taken b t w (step-taken b w good) right tally) (taken-run settings m map xs (record { board = board; few = omega arith; unused = unused })) e in
      let a = one.1.ran in
      let first : ran_of a m₁ ≡ run_of settings map xs s m = (run-done settings m map xs s a m₁ one.1.page).1 in
      let size : length m₁ ≡ length m = run-size settings m map xs s a m₁ first in
      let good₁ : refused_state b₁ ≡ false = ap refused_state one.1.state ∙ state-taken a.state 0 nowhere (omega arith) in
      let next : power_why settings m₁ map ≡ 0 = ap (λ z. power_refusal z map settings.powerup settings.halt settings.register) size ∙ board in
      let two = call-answered b₁ t' m₁ map w ys k₂ b₂ t₂ m₂ (buffers-taken b₁ t' w good₁ right tally') (taken-run settings m₁ map ys (record { board = next; few = omega arith; unused = unused_too })) f in
      let c = two.1.ran in
      let from : state_from b₁ ≡ a.state = ap state_from one.1.state ∙ state-again a.state 0 nowhere in
      let second : ran_of c m₂ ≡ run_of settings map ys a.state m₁ = (run-done settings m₁ map ys a.state c m₂ (two.1.page ∙ ap (run_page settings m₁ map ys) from)).1 in
      let three = call-answered b t'' m map w (xs ++ ys) k₃ b₃ t₃ m₃ (buffers-taken b t'' w (step-taken b w good) right tally'') (taken-run settings m map (xs ++ ys) (record { board = board; few = omega (arith, length-append xs ys); unused = all_append plain xs ys unused ∙ unused_too })) g in
      let d = three.1.ran in
      let whole : ran_of d m₃ ≡ run_of settings map (xs ++ ys) s m = (run-done settings m map (xs ++ ys) s d m₃ three.1.page).1 in
      let same = joined-ends settings map xs ys s m m₁ m₂ m₃ a c d first second whole in
      let h = halves_of (length xs) a c d same.0 in
      let low = run-low settings map xs s m a m₁ first (omega arith) in
      let low_too = run-low settings map ys a.state m₁ c m₂ second (omega arith) in
      record {
        numbers = (one.0, two.0, three.0);
        state = three.1.state ∙ ap (λ z. state_bytes (state_page z) 0 nowhere) h.state ∙ sym two.1.state;
        image = same.1;
        blanks = blanks-add (length xs) a c d h low low_too one.1.tally two.1.tally three.1.tally;
        place = place_is (length xs) a c d h low low_too one.1.tally two.1.tally three.1.tally;
        told = told_is (length xs) a c d h low low_too one.1.tally two.1.tally three.1.tally;
      }

pub wd16-run-one : Wd16RunOne
wd16-run-one b t m map w line k j b₁ t₁ m₁ b₂ m₂ l e f = calls-one b t m map w line k j b₁ t₁ m₁ b₂ m₂ l e f
