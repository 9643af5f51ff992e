-- The theorems that specs/Boards.antt states.
use Rattle.std.proofs.Common.{Ok, Err}
use Prim.Native.Nat.{ℕ, zero, suc, ◌+◌, ◌<◌, ◌≤◌}
use native.Mathlib.Omega.{arith}
use mathlib.Core.Bool.{Bool, true, false, not, ◌||◌, cond}
use mathlib.Core.List.{List, [], ◌∷◌, ◌++◌}
use mathlib.Core.Path.{◌≡◌, refl, sym, ap, ◌∙◌, subst}
use lib.Dec.{eqb, ltb}
use lib.ListN.{length, take, get_or, replicate, length-replicate, length-take}
use Rattle.state.specs.declared.State.{State}
use Rattle.state.specs.declared.Settings.{Settings}
use Rattle.state.specs.State.{heard}
use Rattle.step.specs.declared.Cause.{Cause}
use Rattle.step.specs.declared.Cause.TheVariants as Cause
use Rattle.step.specs.Step.{After, after, step_of, cause_number, cause_address}
use Rattle.refusal.specs.Numbers.{line_bit, no_state}
use Rattle.refusal.specs.Page.{Page, refused, answered, Left, left, call, told, reading}
use Rattle.refusal.specs.Refusal.{all_of, plain, power_refusal, step_refusal}
use Rattle.refusal.proofs.Laws.Page.{first-both, apart, answered-one}
use Rattle.refusal.proofs.Laws.Refusal.{neither, cond-none, all_take}
use Rattle.machine.specs.declared.Ran.{Ran}
use Rattle.machine.specs.Entry.{Finished, power_why, step_why, run_why, finished_page, run_end, run_page}
use Rattle.machine.specs.Until.{Stopped, ends, steps_to, StopPage, stop_page, stopped_page, stopped, until_of, run_until_page}
use Rattle.machine.specs.declared.Until.{Until}
use Rattle.machine.specs.Numbers.{state_page, nowhere, told_of, FirstPage, RanPage, ran_page, turn_page, first_page}
use Rattle.machine.specs.Run.{End, end, run_of, ran_of, last_cause}
use Rattle.machine.specs.Trail.{trail_of}
use Rattle.machine.specs.Same.{same_of, run_same_page}
use Rattle.machine.proofs.Laws.Back.{ran-one}
use Rattle.wordbytes.specs.Words.{word_at}
use Rattle.wordbytes.proofs.Laws.{word-again}
use Rattle.machine.specs.declared.Stop.{Stop}
use Rattle.machine_c.specs.Layout.{state_bytes, tally_bytes, state_from, settings_from, refused_state, refused_step, refused_run}
use Rattle.machine_c.specs.Calls.{run_laid, run_call}
use Rattle.machine_c.specs.Runs.{until_from, stop_bytes, refused_until, stop_in, run_same_call, run_until_call}
use Rattle.machine_c.proofs.Laws.Again.{state-again, state-taken}
use Rattle.demands.proofs.Laws.Demand1.{wd16-run-until-answers}
use Rattle.laws.specs.One.{uncaused}
use Rattle.laws.proofs.Laws.One.{uncaused-bytes}
use Rattle.laws.proofs.Laws.Calls.{bytes_for, call-answered, settings-taken, step-taken, buffers-taken, run-low, told_none}
use Rattle.laws.specs.Halves.{state_left, Joined}
use Rattle.laws.specs.Boards.{SameRun, SameJoined, ends_after, Early, RunEarly, Wd16SameRun, Wd16SameJoined, Wd16RunEarly}
use Rattle.laws.proofs.Laws.Taken.{taken-run, run-taken, run-size}
use Rattle.laws.proofs.Laws.Append.{joined-ends}
use Rattle.laws.proofs.Laws.Halves.{halves_of, blanks-add, place_is, told_is}

-- ---- over one line word

plain-all : (x n : ℕ) → plain x ≡ true → all_of plain (replicate n x) ≡ true
unfolding all_of
plain-all x zero h = refl
plain-all x (suc n) h = rw h (plain-all x n h)

board-of : (settings : Settings) (m map : List ℕ) (line : ℕ) → step_why settings m map line ≡ 0 → (power_why settings m map ≡ 0) × (plain line ≡ true)
unfolding step_refusal
board-of settings m map line e =
    let both = first-both (power_why settings m map) (cond (plain line) 0 line_bit) e in
    (both.0, cond-none (plain line) line_bit (λ z. omega arith) both.1)

pub same-run : SameRun
unfolding run_same_page run_page
same-run settings map line n s m h l =
    let k = board-of settings m map line h in
    let few : length (replicate n line) ≤ 4096 = omega (arith, length-replicate n line) in
    rw (h, taken-run settings m map (replicate n line) (record { board = k.0; few = few; unused = plain-all line n k.1 }))

-- an answer that isn't refused is the definition's
same-answer-of : (settings : Settings) (m map : List ℕ) (line n : ℕ) (s : State) (r : Finished) (m' : List ℕ) → step_why settings m map line ≡ 0
    → left (finished_page r) m' ≡ run_same_page settings m map line n s → (a : Ran) × (r ≡ Ok a) × (ran_of a m' ≡ run_of settings map (replicate n line) s m)
unfolding run_same_page
same-answer-of settings m map line n s r m' h e = of r (run_of settings map (replicate n line) s m) (rw h at e)
  where
    of : (r : Finished) (x : End) → left (finished_page r) m' ≡ run_end x → (a : Ran) × (r ≡ Ok a) × (ran_of a m' ≡ x)
    of (Ok a) (end t k y) e =
        let same : a ≡ record { state = t; tally = y } = ran-one a (record { state = t; tally = y }) (answered-one (ap (λ z. z.page) e)) in
        let image : m' ≡ k = ap (λ z. z.lent) e in
        (a, refl, rw (same, image))
    of (Err why) (end t k y) e = absurd (apart (sym (ap (λ z. z.page) e)))

replicate-append : (n k j x : ℕ) → j ≡ n + k → replicate j x ≡ replicate n x ++ replicate k x
replicate-append zero k j x e = let z : j ≡ k = omega arith in rw z
replicate-append (suc n) k zero x e = absurd (omega arith)
replicate-append (suc n) k (suc j) x e = ap (λ z. x ∷ z) (replicate-append n k j x (omega arith))

pub same-joined : SameJoined
same-joined settings map line n k s m h r q p m₁ m₂ m₃ e f g =
    let one = same-answer-of settings m map line n s r m₁ h e in
    let a = one.0 in
    let size : length m₁ ≡ length m = run-size settings m map (replicate n line) s a m₁ one.2 in
    let next : left (finished_page q) m₂ ≡ run_same_page settings m₁ map line k a.state = f ∙ ap (λ z. run_same_page settings m₁ map line k (state_left z s)) one.1 in
    let next-board : step_why settings m₁ map line ≡ 0 = ap (λ z. step_refusal z map settings.powerup settings.halt settings.register line) size ∙ h in
    let two = same-answer-of settings m₁ map line k a.state q m₂ next-board next in
    let three = same-answer-of settings m map line (n + k) s p m₃ h g in
    let all = three.2 ∙ ap (λ z. run_of settings map z s m) (replicate-append n k (n + k) line refl) in
    let same = joined-ends settings map (replicate n line) (replicate k line) s m m₁ m₂ m₃ a two.0 three.0 one.2 two.2 all in
    record {
      first = a;
      second = two.0;
      whole = three.0;
      first_done = one.1;
      second_done = two.1;
      whole_done = three.1;
      halves = halves_of n a two.0 three.0 (rw (length-replicate n line) at same.0);
      image = same.1;
    }

-- ---- until something happens

module _ (settings : Settings) (map : List ℕ) (u : Until) where
  within_by : (e : Bool) (n k : ℕ) → n ≤ k → cond e 1 (1 + n) ≤ suc k
  within_by true n k h = omega arith
  within_by false n k h = omega arith

  steps-within : (lines : List ℕ) (s : State) (m : List ℕ) → steps_to settings map u lines s m ≤ length lines
  unfolding steps_to
  steps-within [] s m = omega arith
  steps-within (x ∷ xs) s m =
      let a = step_of map (heard settings x) s m in
      within_by (ends_after u a) (steps_to settings map u xs a.state a.image) (length xs) (steps-within xs a.state a.image)

  some-by : (e : Bool) (n : ℕ) → 1 ≤ cond e 1 (1 + n)
  some-by true n = omega arith
  some-by false n = omega arith

  steps-some : (lines : List ℕ) (s : State) (m : List ℕ) → 0 < length lines → 1 ≤ steps_to settings map u lines s m
  unfolding steps_to
  steps-some [] s m h = absurd (omega arith)
  steps-some (x ∷ xs) s m h =
      let a = step_of map (heard settings x) s m in
      some-by (ends_after u a) (steps_to settings map u xs a.state a.image)

  quiet_by : (a d : After) (rs : List After) (n k : ℕ) (e : Bool) → ends_after u a ≡ e → ((j : ℕ) → j + 1 < n → ends_after u (get_or rs j d) ≡ false)
      → k + 1 < cond e 1 (1 + n) → ends_after u (get_or (a ∷ rs) k d) ≡ false
  quiet_by a d rs n k true q later h = absurd (omega arith)
  quiet_by a d rs n zero false q later h = q
  quiet_by a d rs n (suc j) false q later h = later j (omega arith)

  steps-quiet : (lines : List ℕ) (s : State) (m : List ℕ) (d : After) (k : ℕ) → k + 1 < steps_to settings map u lines s m → ends_after u (get_or (trail_of settings map lines s m) k d) ≡ false
  unfolding steps_to trail_of
  steps-quiet [] s m d k h = absurd (omega arith)
  steps-quiet (x ∷ xs) s m d k h =
      let a = step_of map (heard settings x) s m in
      quiet_by a d (trail_of settings map xs a.state a.image) (steps_to settings map u xs a.state a.image) k (ends_after u a) refl (steps-quiet xs a.state a.image d) h

  last-by : (a d : After) (rs : List After) (n l k : ℕ) (e : Bool) → ends_after u a ≡ e → (0 < l → 1 ≤ n) → ((j : ℕ) → j + 1 ≡ n → n < l → ends_after u (get_or rs j d) ≡ true)
      → k + 1 ≡ cond e 1 (1 + n) → cond e 1 (1 + n) < suc l → ends_after u (get_or (a ∷ rs) k d) ≡ true
  last-by a d rs n l zero true q one later h g = q
  last-by a d rs n l (suc j) true q one later h g = absurd (omega arith)
  last-by a d rs n l zero false q one later h g = absurd (omega (arith, one (omega arith)))
  last-by a d rs n l (suc j) false q one later h g = later j (omega arith) (omega arith)

  steps-last : (lines : List ℕ) (s : State) (m : List ℕ) (d : After) (k : ℕ) → k + 1 ≡ steps_to settings map u lines s m → steps_to settings map u lines s m < length lines
      → ends_after u (get_or (trail_of settings map lines s m) k d) ≡ true
  unfolding steps_to trail_of
  steps-last [] s m d k h g = absurd (omega arith)
  steps-last (x ∷ xs) s m d k h g =
      let a = step_of map (heard settings x) s m in
      last-by a d (trail_of settings map xs a.state a.image) (steps_to settings map u xs a.state a.image) (length xs) k (ends_after u a) refl (steps-some xs a.state a.image) (steps-last xs a.state a.image d) h g

-- the first line words of a list that isn't refused
take_short : (n : ℕ) (xs : List ℕ) → length (take n xs) ≤ length xs
take_short n xs = simp length-take (omega arith)

take-taken : (settings : Settings) (m map lines : List ℕ) (n : ℕ) → run_why settings m map lines ≡ 0 → run_why settings m map (take n lines) ≡ 0
take-taken settings m map lines n h =
    let t = run-taken settings m map lines h in
    taken-run settings m map (take n lines) (record { board = t.board; few = omega (arith, t.few, take_short n lines); unused = all_take plain n lines t.unused })

-- a run's page of what a run that may end early tells
abbrev ran_in : StopPage → RanPage
ran_in p = record { state = p.turn.state; blanks = p.blanks; first = p.first }

told-run : (p : StopPage) (m₁ : List ℕ) (x : End) (c : Cause) (n : ℕ) → left (answered p) m₁ ≡ stopped x c n → (p.steps ≡ n) × (p.turn.cause ≡ cause_number c) × (run_end x ≡ left (answered (ran_in p)) m₁)
told-run p m₁ (end t k y) c n e =
    let q : p ≡ stop_page (record { turn = record { state = t; cause = c }; tally = y; steps = n }) = answered-one (ap (λ z. z.page) e) in
    let i : m₁ ≡ k = ap (λ z. z.lent) e in
    (ap (λ z. z.steps) q, ap (λ z. z.turn.cause) q, rw (q, i))

page-of : (r : Stopped) (m₁ : List ℕ) (x : End) (c : Cause) (n : ℕ) → left (stopped_page r) m₁ ≡ stopped x c n → (p : StopPage) × (stopped_page r ≡ answered p) × (left (answered p) m₁ ≡ stopped x c n)
page-of (Ok a) m₁ x c n e = (stop_page a, refl, e)
page-of (Err why) m₁ (end t k y) c n e = absurd (apart (sym (ap (λ z. z.page) e)))

module _ (settings : Settings) (map lines : List ℕ) (u : Until) (s : State) (m : List ℕ) (p : StopPage) (m₁ : List ℕ) where
  early-of : p.steps ≡ steps_to settings map u lines s m
      → ((q : Finished) (m₂ : List ℕ) → left (finished_page q) m₂ ≡ run_page settings m map (take (steps_to settings map u lines s m) lines) s → (finished_page q ≡ answered (ran_in p)) × (m₂ ≡ m₁))
      → p.turn.cause ≡ cause_number (last_cause settings map (take (steps_to settings map u lines s m) lines) s m Cause.Nothing)
      → Early settings map lines u s m p m₁
  early-of k run cause = record {
    within = rw k (steps-within settings map u lines s m);
    some = λ l. rw k (steps-some settings map u lines s m l);
    run = λ q m₂ f. run q m₂ (rw k at f);
    cause = rw k cause;
    before = λ j l. steps-quiet settings map u lines s m (after s m Cause.Nothing) j (rw k at l);
    last = λ j q l. steps-last settings map u lines s m (after s m Cause.Nothing) j (q ∙ k) (rw k at l);
  }

pub run-early : RunEarly
unfolding run_until_page run_page
run-early settings map lines u s m r m₁ h e =
    let n = steps_to settings map u lines s m in
    let free : run_why settings m map (take n lines) ≡ 0 = take-taken settings m map lines n h in
    let g = page-of r m₁ (run_of settings map (take n lines) s m) (last_cause settings map (take n lines) s m Cause.Nothing) n (rw h at e) in
    let p = g.0 in
    let told = told-run p m₁ (run_of settings map (take n lines) s m) (last_cause settings map (take n lines) s m Cause.Nothing) n g.2 in
    (p, g.1, early-of settings map lines u s m p m₁ told.0 (λ q m₂ f. let same : left (finished_page q) m₂ ≡ left (answered (ran_in p)) m₁ = (rw free at f) ∙ told.2 in (ap (λ z. z.page) same, ap (λ z. z.lent) same)) told.1)

-- ---- for C

pub wd16-same-run : Wd16SameRun
unfolding run_same_call run_call
wd16-same-run b t m map w line n h l = rw (same-run (settings_from w) map line n (state_from b) m h l) refl

-- what a call over one line word leaves that isn't refused
record SameDone (b m map w : List ℕ) (line n : ℕ) (b' t' m' : List ℕ) : Type 0 where
  ran : Ran
  same : ran_of ran m' ≡ run_of (settings_from w) map (replicate n line) (state_from b) m
  state : b' ≡ state_bytes (state_page ran.state) 0 nowhere
  tally : t' ≡ bytes_for ran

same-answered : (b t m map w : List ℕ) (line n k : ℕ) (b' t' m' : List ℕ) → refused_run b t w ≡ false → step_why (settings_from w) m map line ≡ 0
    → told k (b', t', m') ≡ run_same_call b t m map w line n → (k ≡ 0) × SameDone b m map w line n b' t' m'
unfolding run_same_call run_same_page
same-answered b t m map w line n k b' t' m' h why e = at (run_of (settings_from w) map (replicate n line) (state_from b) m) refl (rw (h, why) at e)
  where
    at : (x : End) → run_of (settings_from w) map (replicate n line) (state_from b) m ≡ x → told k (b', t', m') ≡ reading run_laid (λ z. (b, t, z)) (run_end x) → (k ≡ 0) × SameDone b m map w line n b' t' m'
    at (end s i y) d e =
        let image : m' ≡ i = ap (λ z. z.lent.2) e in
        (ap (λ z. z.number) e, record { ran = record { state = s; tally = y }; same = ap (λ z. end s z y) image ∙ sym d; state = ap (λ z. z.lent.0) e; tally = ap (λ z. z.lent.1) e })

pub wd16-same-joined : Wd16SameJoined
wd16-same-joined map w b t t' t'' m line n k good tally tally' tally'' h few k₁ k₂ k₃ b₁ t₁ m₁ b₂ t₂ m₂ b₃ t₃ m₃ e f g =
    let settings = settings_from w in
    let s = state_from b in
    let right = settings-taken b w good in
    let one = same-answered b t m map w line n k₁ b₁ t₁ m₁ (buffers-taken b t w (step-taken b w good) right tally) h e in
    let a = one.1.ran in
    let size : length m₁ ≡ length m = run-size settings m map (replicate n line) s a m₁ one.1.same in
    let good₁ : refused_state b₁ ≡ false = ap refused_state one.1.state ∙ state-taken a.state 0 nowhere (omega arith) in
    let next : step_why settings m₁ map line ≡ 0 = ap (λ z. step_refusal z map settings.powerup settings.halt settings.register line) size ∙ h in
    let two = same-answered b₁ t' m₁ map w line k k₂ b₂ t₂ m₂ (buffers-taken b₁ t' w good₁ right tally') next f in
    let c = two.1.ran in
    let from : state_from b₁ ≡ a.state = ap state_from one.1.state ∙ state-again a.state 0 nowhere in
    let second : ran_of c m₂ ≡ run_of settings map (replicate k line) a.state m₁ = two.1.same ∙ ap (λ (z : State). run_of settings map (replicate k line) z m₁) from in
    let three = same-answered b t'' m map w line (n + k) k₃ b₃ t₃ m₃ (buffers-taken b t'' w (step-taken b w good) right tally'') h g in
    let d = three.1.ran in
    let whole : ran_of d m₃ ≡ run_of settings map (replicate n line ++ replicate k line) s m = three.1.same ∙ ap (λ (z : List ℕ). run_of settings map z s m) (replicate-append n k (n + k) line refl) in
    let same = joined-ends settings map (replicate n line) (replicate k line) s m m₁ m₂ m₃ a c d one.1.same second whole in
    let halves = halves_of n a c d (rw (length-replicate n line) at same.0) in
    let low = run-low settings map (replicate n line) s m a m₁ one.1.same (omega (arith, length-replicate n line, few)) in
    let low_too = run-low settings map (replicate k line) a.state m₁ c m₂ second (omega (arith, length-replicate k line, few)) in
    record {
      numbers = (one.0, two.0, three.0);
      state = three.1.state ∙ ap (λ z. state_bytes (state_page z) 0 nowhere) halves.state ∙ sym two.1.state;
      image = same.1;
      blanks = blanks-add n a c d halves low low_too one.1.tally two.1.tally three.1.tally;
      place = place_is n a c d halves low low_too one.1.tally two.1.tally three.1.tally;
      told = told_is n a c d halves low low_too one.1.tally two.1.tally three.1.tally;
    }

-- until something happens: a call that answers 0 wasn't refused
until-not-refused : (b t m map w lines : List ℕ) (asked : ℕ) (b' t' m' : List ℕ) → told 0 (b', t', m') ≡ run_until_call b t m map w lines asked
    → (refused_until b t w asked ≡ false) × (run_why (settings_from w) m map lines ≡ 0)
until-not-refused b t m map w lines asked b' t' m' e =
    let both = first-both (cond (refused_until b t w asked) no_state 0) (run_why (settings_from w) m map lines) (sym (wd16-run-until-answers b t m map w lines asked (told 0 (b', t', m')) e).number_is) in
    (told_none (refused_until b t w asked) both.0, both.1)

-- its bytes
record UntilDone (b m map w lines : List ℕ) (asked : ℕ) (b' t' m' : List ℕ) : Type 0 where
  stop : Stop
  answer : left (stopped_page (Ok stop)) m' ≡ run_until_page (settings_from w) m map lines (until_from asked) (state_from b)
  state : b' ≡ state_bytes (state_page stop.turn.state) (cause_number stop.turn.cause) (told_of (cause_address stop.turn.cause))
  tally : t' ≡ stop_bytes stop.tally.blanks (first_page stop.tally.first) stop.steps

until-answered : (b t m map w lines : List ℕ) (asked : ℕ) (b' t' m' : List ℕ) → refused_until b t w asked ≡ false → run_why (settings_from w) m map lines ≡ 0
    → told 0 (b', t', m') ≡ run_until_call b t m map w lines asked → UntilDone b m map w lines asked b' t' m'
unfolding run_until_call run_until_page
until-answered b t m map w lines asked b' t' m' free why e =
    let n = steps_to (settings_from w) map (until_from asked) lines (state_from b) m in
    at (run_of (settings_from w) map (take n lines) (state_from b) m) (last_cause (settings_from w) map (take n lines) (state_from b) m Cause.Nothing) n
    (ap (λ (z : ℕ). call z (until_of (settings_from w) map lines (until_from asked) (state_from b) m) m) why) (rw (free, why) at e)
  where
    at : (x : End) (c : Cause) (n : ℕ) → run_until_page (settings_from w) m map lines (until_from asked) (state_from b) ≡ stopped x c n → told 0 (b', t', m') ≡ reading stop_in (λ z. (b, t, z)) (stopped x c n) → UntilDone b m map w lines asked b' t' m'
    at (end s i y) c n q e =
        let image : m' ≡ i = ap (λ z. z.lent.2) e in
        let stop : Stop = record { turn = record { state = s; cause = c }; tally = y; steps = n } in
        record {
          stop = stop;
          answer = ap (λ z. left (stopped_page (Ok stop)) z) image ∙ sym q;
          state = ap (λ z. z.lent.0) e;
          tally = ap (λ z. z.lent.1) e;
        }

-- with a tally's buffer the run isn't refused either
until-run : (b t t' w : List ℕ) (asked : ℕ) → refused_until b t w asked ≡ false → length t' ≡ 6 → refused_run b t' w ≡ false
unfolding refused_until
until-run b t t' w asked e l =
    let step = (neither (refused_step b w) (not (eqb (length t) 8)) (neither (refused_step b w || not (eqb (length t) 8)) (ltb 15 asked) e).0).0 in
    buffers-taken b t' w (step-taken b w step) (settings-taken b w step) l

-- the first six bytes are a tally's, the last word the steps
stop-tally : (blanks steps : ℕ) (p : FirstPage) → (take 6 (stop_bytes blanks p steps) ≡ tally_bytes blanks p) × (word_at (stop_bytes blanks p steps) 6 ≡ steps)
unfolding stop_bytes tally_bytes
stop-tally blanks steps p = (refl, word-again steps)

pub wd16-run-early : Wd16RunEarly
wd16-run-early b t m map w lines asked b' t' m' e =
    let settings = settings_from w in
    let s = state_from b in
    let free = until-not-refused b t m map w lines asked b' t' m' e in
    let d = until-answered b t m map w lines asked b' t' m' free.0 free.1 e in
    let stop = d.stop in
    let is = run-early settings map lines (until_from asked) s m (Ok stop) m' free.1 d.answer in
    let early : Early settings map lines (until_from asked) s m (stop_page stop) m' = subst (λ (p : StopPage). Early settings map lines (until_from asked) s m p m') (sym (answered-one is.1)) is.2 in
    let tally = stop-tally stop.tally.blanks stop.steps (first_page stop.tally.first) in
    let steps : word_at t' 6 ≡ stop.steps = ap (λ (z : List ℕ). word_at z 6) d.tally ∙ tally.1 in
    let six : take 6 t' ≡ tally_bytes stop.tally.blanks (first_page stop.tally.first) = ap (λ (z : List ℕ). take 6 z) d.tally ∙ tally.0 in
    let plain_state : uncaused b' ≡ state_bytes (state_page stop.turn.state) 0 nowhere = ap uncaused d.state ∙ sym (uncaused-bytes stop.turn.state stop.turn.cause) in
    record {
      page = stop_page stop;
      state = d.state;
      tally = d.tally;
      early = early;
      run = λ t₀ number b₁ t₁ m₁ l f.
          let g = f ∙ ap (λ (k : ℕ). run_call b t₀ m map w (take k lines)) steps in
          let one = call-answered b t₀ m map w (take stop.steps lines) number b₁ t₁ m₁ (until-run b t t₀ w asked free.0 l) (take-taken settings m map lines stop.steps free.1) g in
          let ran = one.1.ran in
          let same = early.run (Ok ran) m₁ one.1.page in
          let page : ran_page ran ≡ ran_in (stop_page stop) = answered-one same.0 in (
            one.0,
            one.1.state ∙ ap (λ (z : RanPage). state_bytes z.state 0 nowhere) page ∙ sym plain_state,
            one.1.tally ∙ ap (λ (z : RanPage). tally_bytes z.blanks z.first) page ∙ sym six,
            same.1,
          );
    }
