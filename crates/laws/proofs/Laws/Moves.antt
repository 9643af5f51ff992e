-- The theorems that specs/Moves.antt states.
use Prim.Native.Nat.{ℕ, ◌+◌, ◌/◌, ◌<◌}
use native.Mathlib.Omega.{arith}
use native.Mathlib.Decide.{ℕ_discrete}
use mathlib.Core.Bool.{Bool, true, false, ◌||◌, cond}
use mathlib.Core.List.{List, [], ◌∷◌}
use mathlib.Core.Path.{◌≡◌, refl, sym, ap, ◌∙◌, subst}
use lib.Dec.{eqb}
use lib.ListN.{length}
use borrow.Author.Tests.{not-true, eq-eqb, ne_eqb}
use Rattle.wordmath.specs.Number.{bit}
use Rattle.wordmath.specs.Address.{plus, minus}
use Rattle.wordmath.specs.Status.{flags_of}
use Rattle.board.specs.Work.{Came, value, blank, fitted, image_word, with_word, run, ◌>>=◌}
use Rattle.board.proofs.Laws.Alike.{found-value}
use Rattle.state.specs.declared.State.{State}
use Rattle.state.specs.declared.Outside.{Outside}
use Rattle.state.specs.declared.Settings.{Settings}
use Rattle.state.specs.declared.Mode.TheVariants.{Locked}
use Rattle.state.specs.Registers.{reg_of, set_reg}
use Rattle.state.specs.State.{reg, heard, ps_of, with_reg, with_sp, with_pc, with_flags, with_i2, with_mode, with_mark}
use Rattle.state.specs.Stack.{push, pop, pop_reg, fetch, from_loc, push_both, trap}
use Rattle.plate.specs.Plate.{format_of}
use Rattle.opcodes.specs.Fields.{high_byte}
use Rattle.format8.specs.Format8.{format8}
use Rattle.step.specs.declared.Kind.{Kind}
use Rattle.step.specs.declared.Kind.TheVariants.{OpCode, HaltEnd, Boots, Saves, LocksUp, Restarts, Restores, NonVectored, Vectored, Waits, Stuck}
use Rattle.step.specs.declared.Cause.{Cause}
use Rattle.step.specs.declared.Cause.TheVariants as Cause
use Rattle.step.specs.Execute.{execute, by_format}
use Rattle.step.specs.Xct.{traps_alone, chosen, begin_xct, begun, trace, traced, carry, op_work}
use Rattle.step.specs.declared.Begun.TheVariants.{Code}
use Rattle.step.specs.Step.{kind_in, after, or_at, cause_number, is_blank, kind_of, work_of, past, bus_error, error_cause_of, error_of, step_of}
use Rattle.step.specs.Block.{Unheard}
use Rattle.step.proofs.Laws.Causes.{value-no-blank, blank-error, blank-counted, blank-image}
use Rattle.refusal.specs.Refusal.{all_of}
use Rattle.refusal.proofs.Laws.Refusal.{neither}
use Rattle.machine.specs.declared.Tally.{Tally}
use Rattle.machine.specs.Run.{End, end, rest_of_run, run_of, ran_of, no_blanks}
use Rattle.machine.specs.Trail.{trail_of, tally_in}
use Rattle.machine.specs.Counted.{tally_joined}
use Rattle.machine.specs.Block.{AllUnheard, none, also, block_move}
use Rattle.machine.proofs.Laws.Counted.{run-trail}
use Rattle.machine.proofs.Laws.Block.{block-move}
use Rattle.machine.proofs.Laws.Answered.{run-done}
use Rattle.machine_c.specs.Layout.{state_from, settings_from}
use Rattle.machine_c.proofs.Laws.Again.{state-again}
use Rattle.machine.specs.Numbers.{nowhere}
use Rattle.laws.proofs.Laws.Append.{go_on, run-append}
use Rattle.laws.proofs.Laws.Taken.{ran-is}
use Rattle.wordbytes.specs.Words as Words
use Rattle.laws.proofs.Laws.Calls.{blanks-word, call-answered, run-not-refused, step-done, cause-0, cause-5}
use Rattle.laws.proofs.Laws.Always.{Always, always-value, run-split}
use Rattle.opcodes.proofs.Laws.Past.{Below, below}
use Rattle.laws.proofs.Laws.Marked.{code-work}
use Rattle.laws.proofs.Laws.Mark.{turn_is}
use Rattle.laws.specs.Moves.{RunsOn, LentRuns, quiet, Moves, RunMoves, RunsMove, Wd16RunsMove, ElementDropped, opened, OneElement, XctElement, Wd16ElementDropped, Wd16XctElement, blanks_told, Wd16MovesCounted}
use Rattle.laws.specs.Moves as Spec
use Rattle.step.proofs.Laws.Block.{executes}
use Rattle.machine.proofs.Laws.Alike.{image_at_end}
use Rattle.machine.proofs.Laws.Same.{behind_steps}

-- ---- quiet lines

unheard-quiet : (hearing : Bool) (out : Outside) → out.i3 ≡ false → out.i1 ≡ false → out.i0 ≡ false → Unheard hearing out
unfolding kind_in
unheard-quiet true out e f g = rw (e, f, g)
unheard-quiet false out e f g = rw e

quiet-heard : (settings : Settings) (hearing : Bool) (lines : List ℕ) → all_of quiet lines ≡ true → AllUnheard settings hearing lines
unfolding all_of
quiet-heard settings hearing [] e = none
quiet-heard settings hearing (line ∷ lines) e = by (quiet line) refl (quiet-heard settings hearing lines) e
  where
    by : (b : Bool) → quiet line ≡ b → (all_of quiet lines ≡ true → AllUnheard settings hearing lines) → cond b (all_of quiet lines) false ≡ true → AllUnheard settings hearing (line ∷ lines)
    by true q more e =
        let all = neither (bit 0 line || bit 1 line) (bit 3 line) (not-true _ q) in
        let two = neither (bit 0 line) (bit 1 line) all.0 in
        also (unheard-quiet hearing (heard settings line) all.1 two.1 two.0) (more e)
    by false q more e = let z : ◌≡◌ {A = ℕ} 0 1 = cc in absurd (omega arith)

-- ---- the end

move-end : (settings : Settings) (map : List ℕ) (op : ℕ) (lines : List ℕ) (s : State) (m : List ℕ) → Moves settings map op lines s m
    → (let b = block_move op (with_mark s false) m in run_of settings map lines s m ≡ end b.state b.image no_blanks)
move-end settings map op lines s m a =
    let b = block_move op (with_mark s false) m in
    let rs = trail_of settings map lines s m in
    let x = block-move settings a.microm map op a.eight a.plain lines s m Cause.Nothing a.word a.ready a.count (quiet-heard settings _ lines a.unasked) in
    run-trail settings map lines s m Cause.Nothing
    ∙ ap (λ z. end z.state z.image (tally_in rs)) x.last
    ∙ ap (λ z. end b.state b.image z) x.tally

pub run-moves : RunMoves
run-moves settings map op lines s m a m' w e =
    let is = ran-is ((run-done settings m map lines s a m' e).1 ∙ move-end settings map op lines s m w) in
    (ap (λ z. z.state) is.0, is.1, ap (λ z. z.tally) is.0)

-- ---- runs one after another are one

record Ends (settings : Settings) (map lines : List ℕ) (s : State) (m : List ℕ) (k : ℕ) (s' : State) (m' : List ℕ) : Type 0 where
  tally : Tally
  is : run_of settings map lines s m ≡ end s' m' tally
  blanks : tally.blanks ≡ k

runs-end : (settings : Settings) (map : List ℕ) (s : State) (m lines : List ℕ) (k : ℕ) (s' : State) (m' : List ℕ) → RunsOn settings map s m lines k s' m' → Ends settings map lines s m k s' m'
unfolding rest_of_run tally_joined
runs-end settings map s m lines k s' m' Spec.RunsOn.none = record { tally = no_blanks; is = refl; blanks = refl }
runs-end settings map s m lines k s' m' (Spec.RunsOn.runs xs ys {blanks = j} a m₁ e r) =
    let one : ran_of a m₁ ≡ run_of settings map xs s m = (run-done settings m map xs s a m₁ e).1 in
    let more = runs-end settings map a.state m₁ ys j s' m' r in
    record {
      tally = tally_joined (length xs) a.tally more.tally;
      is = run-append settings map xs ys s m ∙ ap (go_on settings map (length xs) ys) (sym one) ∙ ap (behind_steps (length xs) a.tally) more.is;
      blanks = ap (λ n. a.tally.blanks + n) more.blanks;
    }

abbrev state_in : End → State
state_in (end s m t) = s

abbrev blanks_of : End → ℕ
blanks_of (end s m t) = t.blanks

pub runs-move : RunsMove
runs-move settings map op lines s m k s' m' w r =
    let x = runs-end settings map s m lines k s' m' r in
    let same = sym x.is ∙ move-end settings map op lines s m w in
    (ap state_in same, ap image_at_end same, sym x.blanks ∙ ap blanks_of same)

-- ---- for C

record Lent (w map b m lines b' m' : List ℕ) : Type 0 where
  blanks : ℕ
  runs : RunsOn (settings_from w) map (state_from b) m lines blanks (state_from b') m'

lent_runs : (w map b m lines b' m' : List ℕ) → LentRuns w map b m lines b' m' → Lent w map b m lines b' m'
lent_runs w map b m lines b' m' Spec.LentRuns.none = record { blanks = 0; runs = Spec.RunsOn.none }
lent_runs w map b m lines b' m' (Spec.LentRuns.runs xs ys t b₁ t₁ m₁ e r) =
    let free = run-not-refused b t m map w xs b₁ t₁ m₁ e in
    let call = (call-answered b t m map w xs 0 b₁ t₁ m₁ free.0 free.1 e).1 in
    let on : state_from b₁ ≡ call.ran.state = ap state_from call.state ∙ state-again call.ran.state 0 nowhere in
    let more = lent_runs w map b₁ m₁ ys b' m' r in
    record {
      blanks = call.ran.tally.blanks + more.blanks;
      runs = Spec.RunsOn.runs xs ys call.ran m₁ call.page (subst (λ (s : State). RunsOn (settings_from w) map s m₁ ys more.blanks (state_from b') m') on more.runs);
    }

pub wd16-runs-move : Wd16RunsMove
wd16-runs-move w map op lines b m b' m' a r =
    let x = lent_runs w map b m lines b' m' r in
    let is = runs-move (settings_from w) map op lines (state_from b) m x.blanks (state_from b') m' a x.runs in
    (is.0, is.1)

-- ---- a blank

same-registers : (s t : State) → t.regs.r0 ≡ s.regs.r0 → t.regs.r1 ≡ s.regs.r1 → t.regs.r2 ≡ s.regs.r2 → t.regs.r3 ≡ s.regs.r3 → t.regs.r4 ≡ s.regs.r4 → t.regs.r5 ≡ s.regs.r5
    → (k : ℕ) → k < 6 → reg t k ≡ reg s k
unfolding Below reg reg_of
same-registers s t a b c d e f = below (λ k. reg t k ≡ reg s k) 6 ((((((tt, a), b), c), d), e), f)

trap-keeps : (s : State) (ps at : ℕ) → Always (λ t. (k : ℕ) → k < 6 → reg t k ≡ reg s k) (trap s ps at)
unfolding Always trap push_both push from_loc ◌>>=◌ with_reg set_reg with_i2 with_mode with_mark
trap-keeps s ps at = λ v. same-registers s _ refl refl refl refl refl refl

numbers_apart : (c : Cause) (a : ℕ) → c ≡ Cause.OpCodeBlank a → (cause_number c ≡ 5 → ⊥) → ⊥
numbers_apart c a e h = h (ap cause_number e)

blank-kind : (k : Kind) (a b : ℕ) → error_cause_of k b ≡ Cause.OpCodeBlank a → k ≡ OpCode
blank-kind OpCode a b e = refl
blank-kind HaltEnd a b e = absurd (numbers_apart _ a e (λ z. omega arith))
blank-kind Boots a b e = absurd (numbers_apart _ a e (λ z. omega arith))
blank-kind Saves a b e = absurd (numbers_apart _ a e (λ z. omega arith))
blank-kind LocksUp a b e = absurd (numbers_apart _ a e (λ z. omega arith))
blank-kind Restarts a b e = absurd (numbers_apart _ a e (λ z. omega arith))
blank-kind Restores a b e = absurd (numbers_apart _ a e (λ z. omega arith))
blank-kind NonVectored a b e = absurd (numbers_apart _ a e (λ z. omega arith))
blank-kind Vectored a b e = absurd (numbers_apart _ a e (λ z. omega arith))
blank-kind Waits a b e = absurd (numbers_apart _ a e (λ z. omega arith))
blank-kind Stuck a b e = absurd (numbers_apart _ a e (λ z. omega arith))

record Dropped (map : List ℕ) (out : Outside) (s : State) (m : List ℕ) : Type 0 where
  registers : (k : ℕ) → k < 6 → reg (step_of map out s m).state k ≡ reg s k
  image : (let sp = minus s.regs.sp 2 in (step_of map out s m).image ≡ with_word (with_word m sp (ps_of out true s)) (minus sp 2) (plus s.regs.pc 2))

past-keeps : (s : State) (out : Outside) → (let u = with_pc s (plus s.regs.pc 2) in (ps_of out true u ≡ ps_of out true s) × ((k : ℕ) → k < 6 → reg u k ≡ reg s k))
unfolding ps_of with_reg set_reg
past-keeps s out = (refl, same-registers s _ refl refl refl refl refl refl)

dropped : (map : List ℕ) (out : Outside) (s : State) (m : List ℕ) (a : ℕ) → (step_of map out s m).cause ≡ Cause.OpCodeBlank a → Dropped map out s m
unfolding error_of bus_error with_reg set_reg
dropped map out s m a c = came (run map (work_of (kind_of s out) out s) m) refl
  where
    trapped : (b : ℕ) → run map (work_of (kind_of s out) out s) m ≡ blank b → (x : Came State) → run map (bus_error (kind_of s out) out s) m ≡ x → Dropped map out s m
    trapped b r (value t n) g =
        let k = kind_of s out in
        let e : step_of map out s m ≡ after t n (error_cause_of k b) = blank-error map out s m r ∙ ap (λ c. or_at c (error_cause_of k b) (λ _. after (with_mode s Locked) m (Cause.LockedAt b))) g in
        let code : k ≡ OpCode = blank-kind k a b (sym (ap (λ z. z.cause) e) ∙ c) in
        let u = with_pc s (plus s.regs.pc 2) in
        let here : past k s ≡ u = ap (λ z. past z s) code in
        let kept = always-value (λ t. (i : ℕ) → i < 6 → reg t i ≡ reg (past k s) i) map (bus_error k out s) m (trap-keeps (past k s) (ps_of out true (past k s)) 0x12) g in
        let pushed = blank-image map out s m t n r g in
        record {
          registers = λ i l. ap (λ z. reg z.state i) e ∙ kept i l ∙ ap (λ z. reg z i) here ∙ (past-keeps s out).1 i l;
          image = pushed ∙ ap (λ z. with_word (with_word m (minus z.regs.sp 2) (ps_of out true z)) (minus (minus z.regs.sp 2) 2) z.regs.pc) here
              ∙ ap (λ z. with_word (with_word m (minus s.regs.sp 2) z) (minus (minus s.regs.sp 2) 2) (plus s.regs.pc 2)) (past-keeps s out).0;
        }
    trapped b r (blank d) g = absurd (numbers_apart _ a (sym (ap (λ z. z.cause) ((blank-counted map out s m r).1 g)) ∙ c) (λ z. omega arith))

    came : (x : Came State) → run map (work_of (kind_of s out) out s) m ≡ x → Dropped map out s m
    came (value t n) r = let z : true ≡ false = sym (ap is_blank c) ∙ value-no-blank map out s m r in let w : ◌≡◌ {A = ℕ} 0 1 = cc in absurd (omega arith)
    came (blank b) r = trapped b r (run map (bus_error (kind_of s out) out s) m) refl

pub element-dropped : ElementDropped
element-dropped settings m map line s t n a e c =
    let is = turn_is settings m map line s t n e in
    let d = dropped map (heard settings line) s m a (sym is.1 ∙ c) in
    (λ k l. ap (λ z. reg z k) is.0 ∙ d.registers k l, is.2 ∙ d.image)

-- ---- under XCT

-- 0E00 to 0FFF is format 8
eight_is : (op : ℕ) → op / 512 ≡ 7 → format_of (high_byte op) ≡ 8
unfolding format_of
eight_is op h = elim (ℕ_discrete (op / 256) 14) [ yes e ↦ at (op / 256) 14 e refl | no d ↦ at (op / 256) 15 (omega arith) refl ]
  where
    at : (a b : ℕ) → a ≡ b → format_of b ≡ 8 → format_of a ≡ 8
    at a b e q = rw e q

chosen-eight : (out : Outside) (s : State) (op : ℕ) → out.settings.blocks ≡ true → op / 512 ≡ 7 → chosen out s op ≡ Code s op true
unfolding traps_alone
chosen-eight out s op e h = rw (ne_eqb (op / 4) 1 (λ z. omega arith), eight_is op h, e)

-- the state in which the op code is executed, but for the mark
abbrev fetched : State → List ℕ → State
fetched s m =
    let sp = s.regs.sp in
    let pc = image_word m sp in
    with_pc (with_flags (with_sp (with_pc s pc) (plus (plus sp 2) 2)) (flags_of (image_word m (plus sp 2)))) (plus pc 2)

xct-run : (map : List ℕ) (out : Outside) (s : State) (m : List ℕ) (t : State) (n : List ℕ) → eqb (image_word m s.regs.pc) 5 ≡ true → run map (op_work out s) m ≡ value t n
    → run map (carry out (chosen out (fetched s m) (image_word m (image_word m s.regs.sp)))) m ≡ value t n
unfolding run op_work fetch begun begin_xct pop_reg pop ◌>>=◌ with_reg set_reg with_flags
xct-run map out s m t n five h =
    let sp = s.regs.sp in
    let pc = image_word m sp in
    let zero = found-value (fitted map s.regs.pc) s.regs.pc _ t n h in
    let one = found-value (fitted map sp) sp _ t n (rw five at zero.1) in
    let two = found-value (fitted map (plus sp 2)) (plus sp 2) _ t n one.1 in
    (found-value (fitted map pc) pc _ t n two.1).1

one-element : (settings : Settings) (map : List ℕ) (line op : ℕ) (s : State) (m : List ℕ) (t : State) (n : List ℕ) → settings.blocks ≡ true → op / 512 ≡ 7
    → run map (carry (heard settings line) (Code (fetched s m) op true)) m ≡ value t n → OneElement settings map line op s m t n
unfolding carry traced
one-element settings map line op s m t n fit eight h =
    let out = heard settings line in
    let x = run-split map (execute out (opened s m) op) (λ u. trace out u) m h in
    record { moved = x.came; image = x.image; once = sym (ap (λ w. run map w m) (executes out (opened s m) op fit eight)) ∙ x.first; traced = x.second }

pub xct-element : XctElement
xct-element settings m map line s t n e fit runs c five eight =
    let is = turn_is settings m map line s t n e in
    let out = heard settings line in
    let op = image_word m (image_word m s.regs.sp) in
    let a = step_of map out s m in
    let work = xct-run map out s m a.state a.image (eq-eqb (image_word m s.regs.pc) 5 five) (code-work map out s m runs (sym is.1 ∙ c)) in
    let one = one-element settings map line op s m a.state a.image fit eight (rw (chosen-eight out (fetched s m) op fit eight) at work) in
    subst (λ (x : State). OneElement settings map line op s m x n) (sym is.0) (subst (λ (x : List ℕ). OneElement settings map line op s m a.state x) (sym is.2) one)

-- ---- for C

pub wd16-element-dropped : Wd16ElementDropped
wd16-element-dropped w b m map line b' m' e five =
    let d = step-done w b m map line b' m' e in
    let c = cause-5 d.turn.cause (sym d.cause ∙ five) in
    let x = element-dropped (settings_from w) m map line (state_from b) d.turn m' c.0 d.page c.1 in
    (λ k h. ap (λ (s : State). reg s k) d.state ∙ x.0 k h, x.1)

pub wd16-xct-element : Wd16XctElement
wd16-xct-element w b m map line b' m' e fit runs zero five eight =
    let d = step-done w b m map line b' m' e in
    let x = xct-element (settings_from w) m map line (state_from b) d.turn m' d.page fit runs (cause-0 d.turn.cause (sym d.cause ∙ zero)) five eight in
    subst (λ (s : State). OneElement (settings_from w) map line (image_word m (image_word m (state_from b).regs.sp)) (state_from b) m s m') (sym d.state) x

-- the tallies' blanks are the runs'
told-lent : (w map b m lines b' m' : List ℕ) (r : LentRuns w map b m lines b' m') → blanks_told r ≡ (lent_runs w map b m lines b' m' r).blanks
unfolding blanks_told lent_runs
told-lent w map b m lines b' m' Spec.LentRuns.none = refl
told-lent w map b m lines b' m' (Spec.LentRuns.runs xs ys t b₁ t₁ m₁ e r) =
    let free = run-not-refused b t m map w xs b₁ t₁ m₁ e in
    let call = (call-answered b t m map w xs 0 b₁ t₁ m₁ free.0 free.1 e).1 in
    let here : Words.word_at t₁ 0 ≡ call.ran.tally.blanks = ap (λ (z : List ℕ). Words.word_at z 0) call.tally ∙ blanks-word call.ran.tally.blanks _ in
    rw (here, told-lent w map b₁ m₁ ys b' m' r) refl

pub wd16-moves-counted : Wd16MovesCounted
wd16-moves-counted w map op lines b m b' m' a r =
    let x = lent_runs w map b m lines b' m' r in
    told-lent w map b m lines b' m' r ∙ (runs-move (settings_from w) map op lines (state_from b) m x.blanks (state_from b') m' a x.runs).2
