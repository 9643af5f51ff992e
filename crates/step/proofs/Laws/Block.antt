-- A block move's steps, where its microm is fitted, nothing is heard, no element meets a blank, nothing is written over the op code, and
-- neither register is R0 or PC.
use Prim.Native.Nat.{ℕ, suc, ◌/◌, ◌%◌, ◌<◌, ◌≤◌}
use native.Mathlib.Omega.{arith}
use native.Mathlib.Decide.{ℕ_discrete}
use mathlib.Core.Bool.{Bool, true, false, cond, not, ◌&&◌}
use mathlib.Core.List.{List}
use mathlib.Core.Path.{◌≡◌, refl, sym, ap, ◌∙◌}
use lib.Dec.{eqb}
use borrow.Author.Tests.{ne_eqb, eqb-true, eqb-false}
use Rattle.plate.specs.Plate.{format_of}
use Rattle.wordmath.specs.Address.{plus, minus}
use Rattle.board.specs.Work.{Size, value, run, fitted, writable, image_word, get, put, ◌>>=◌, size_of}
use Rattle.board.proofs.Laws.Follows.{run-then, put-apart}
use Rattle.state.specs.declared.State.{State}
use Rattle.state.specs.declared.Outside.{Outside}
use Rattle.state.specs.State.{reg, with_reg, with_mark, with_pc}
use Rattle.state.specs.Registers.{reg_of, set_reg}
use Rattle.state.specs.Stack.{taken_word}
use Rattle.state.specs.Stack.{fetch}
use Rattle.format8.specs.declared.BlockMove.{BlockMove}
use Rattle.format8.specs.Format8.{move_row, transfer, onward, registers_moved, again, element, format8}
use Rattle.opcodes.specs.Fields.{block_source, block_destination}
use Rattle.format8.specs.Page.{Plain, element_count, along, block_moved, image_moved, state_moved}
use Rattle.format8.proofs.Laws.Moved.{once_more, once_after, once-pc, once-count, once-source, once-destination, last-after, counted-count, past-source, past-destination}
use Rattle.step.specs.declared.Kind.TheVariants.{OpCode}
use Rattle.step.specs.Execute.{by_format, execute, reserved}
use Rattle.step.specs.Xct.{begun, traced, carry, op_work}
use Rattle.step.specs.declared.Begun.TheVariants.{Code}
use Rattle.step.specs.declared.Cause.TheVariants as Cause
use Rattle.step.specs.Step.{after, hears, kind_in, kind_of, work_of, step_of}
use Rattle.step.proofs.Laws.Ends.{step-well}
use Rattle.step.specs.Block.{Ready, Unheard}

-- ---- one element

transfer-well : (map : List ℕ) (z : Size) (a b : ℕ) (m : List ℕ) → fitted map a ≡ true → writable map b ≡ true → run map (transfer z a b) m ≡ value tt (put z m b (get z m a))
unfolding run transfer ◌>>=◌
transfer-well map z a b m e h = rw (e, h)

element-well : (map : List ℕ) (r : BlockMove) (s : State) (i j : ℕ) (m : List ℕ) → fitted map (reg s i) ≡ true → writable map (reg s j) ≡ true
    → run map (element r s i j) m ≡ value (again s (registers_moved r s i j)) (put (size_of r.bytes) m (reg s j) (get (size_of r.bytes) m (reg s i)))
unfolding run element
element-well map r s i j m e h = run-then map (transfer (size_of r.bytes) (reg s i) (reg s j)) _ m (transfer-well map (size_of r.bytes) (reg s i) (reg s j) m e h)

-- 0E00 to 0FFF is format 8
format-eight : (op : ℕ) → op / 512 ≡ 7 → format_of (op / 256) ≡ 8
unfolding format_of
format-eight op h = elim (ℕ_discrete (op / 256) 14) [ yes e ↦ eight (op / 256) 14 e refl | no d ↦ eight (op / 256) 15 (omega arith) refl ]
  where
    eight : (a b : ℕ) → a ≡ b → format_of b ≡ 8 → format_of a ≡ 8
    eight a b e q = rw e q

pub executes : (out : Outside) (s : State) (op : ℕ) → out.settings.blocks ≡ true → op / 512 ≡ 7 → execute out s op ≡ format8 s op
unfolding by_format
executes out s op e h = rw (format-eight op h, e)

-- without the microm 01's step stands: the trap through 1A
pub unfitted : (out : Outside) (s : State) (op : ℕ) → out.settings.blocks ≡ false → op / 512 ≡ 7 → execute out s op ≡ reserved out s
unfolding by_format
unfitted out s op e h = rw (format-eight op h, e)

fetched : (map : List ℕ) (s : State) (m : List ℕ) (op : ℕ) → fitted map s.regs.pc ≡ true → image_word m s.regs.pc ≡ op → run map (fetch s) m ≡ value (taken_word (with_pc s (plus s.regs.pc 2)) op) m
unfolding run fetch ◌>>=◌
fetched map s m op e h = rw (e, h)

begun-well : (map : List ℕ) (out : Outside) (s : State) (op : ℕ) (m : List ℕ) → op / 512 ≡ 7 → run map (begun out s op) m ≡ value (Code s op false) m
unfolding run begun
begun-well map out s op m h = rw (ne_eqb op 5 (λ e. omega arith))

-- ---- the addresses of the elements

-- the image with an element moved
abbrev pub element_in : ℕ → State → List ℕ → List ℕ
element_in op s m = put (size_of (move_row op).bytes) m (reg s (block_destination op)) (get (size_of (move_row op).bytes) m (reg s (block_source op)))

-- R0 means that n elements are left
pub record ElementsLeft (n : ℕ) (s : State) : Type 0 where
  pub togo : reg s 0 ≡ n % 65536
  pub some : 1 ≤ n
  pub most : n ≤ 65536

pub all_left : (s : State) → reg s 0 < 65536 → ElementsLeft (element_count (reg s 0)) s
all_left s h = counting (reg s 0) (eqb (reg s 0) 0) refl h refl
  where
    counting : (c : ℕ) (b : Bool) → eqb c 0 ≡ b → c < 65536 → reg s 0 ≡ c → ElementsLeft (cond b 65536 c) s
    counting c true e h i = let z = eqb-true c 0 e in record { togo = omega arith; some = omega arith; most = omega arith }
    counting c false e h i = let z = eqb-false c 0 e in record { togo = omega arith; some = omega (arith, z); most = omega arith }

unheard-disabled : (out : Outside) → out.i3 ≡ false → Unheard false out
unfolding kind_in
unheard-disabled out e = rw e

-- what an unmarked state doesn't hear, a marked one doesn't
unheard-false : (hearing : Bool) (out : Outside) → Unheard hearing out → Unheard false out
unfolding kind_in
unheard-false false out q = q
unheard-false true out q = no-i3 out.i3 refl
  where
    no-i3 : (b : Bool) → out.i3 ≡ b → Unheard false out
    no-i3 false e = unheard-disabled out e
    no-i3 true e = rw e (rw e at q)

pub unheard-marked : (s : State) (out : Outside) → Unheard (hears (with_mark s false)) out → Unheard (hears s) out
unfolding with_mark
unheard-marked s out q = by-mark s.mark s.i2 q
  where
    by-mark : (mark i2 : Bool) → Unheard (i2 && not false) out → Unheard (i2 && not mark) out
    by-mark false i2 q = q
    by-mark true true q = unheard-false true out q
    by-mark true false q = q

-- the mark is cleared where the op code begins, so readiness doesn't look at it
pub ready_marked : {map : List ℕ} {op n : ℕ} {s : State} {m : List ℕ} → Ready map op n s m → Ready map op n (with_mark s false) m
unfolding with_mark reg
ready_marked a = record {
  running = a.running;
  address = a.address;
  here = a.here;
  code = a.code;
  reads = a.reads;
  writes = a.writes;
  apart = a.apart;
}

cleared-twice : (s : State) (v : ℕ) → with_mark (with_pc s v) false ≡ with_pc (with_mark s false) v
unfolding with_mark with_reg
cleared-twice s v = refl

module _ {map : List ℕ} {op : ℕ} (p : Plain (block_source op) (block_destination op)) (eight : op / 512 ≡ 7) (out : Outside) (fit : out.settings.blocks ≡ true) (s : State) {m : List ℕ} where
  work-well : {n : ℕ} → 1 ≤ n → Ready map op n (with_mark s false) m
      → (let u = with_mark s false in let t = with_pc u (plus u.regs.pc 2) in
      run map (op_work out s) m ≡ value (again t (registers_moved (move_row op) t (block_source op) (block_destination op))) (element_in op u m))
  unfolding op_work carry traced run along with_mark
  work-well some a =
      let u = with_mark s false in
      let t = with_pc u (plus u.regs.pc 2) in
      let from : reg t (block_source op) ≡ reg u (block_source op) = past-source (move_row op) p u in
      let to : reg t (block_destination op) ≡ reg u (block_destination op) = past-destination (move_row op) p u in
      let moved : run map (execute out t op) m ≡ value (again t (registers_moved (move_row op) t (block_source op) (block_destination op))) (element_in op t m) =
      rw (executes out t op fit eight)
      (element-well map (move_row op) t (block_source op) (block_destination op) m (rw from (a.reads 0 (omega arith))) (rw to (a.writes 0 (omega arith)))) in
      let past = with_pc s (plus s.regs.pc 2) in
      let off : with_mark past false ≡ t = cleared-twice s (plus s.regs.pc 2) in
      run-then map (fetch s) _ m (fetched map s m op a.here a.code)
      ∙ run-then map (begun out past op) _ m (begun-well map out past op m eight)
      ∙ run-then map (execute out (with_mark past false) op) _ m (ap (λ v. run map (execute out v op) m) off ∙ moved)
      ∙ rw (from, to)

-- PC less 2, past the op code
back : (x : ℕ) → x < 65536 → minus (plus x 2) 2 ≡ x
back x h = omega arith

-- R0 is 0 after the last element alone
zero_left : (c n : ℕ) → c ≡ n % 65536 → n ≡ 1 → plus c 65535 ≡ 0
zero_left c n e h = omega arith

some_left : (c n : ℕ) → c ≡ n % 65536 → 2 ≤ n → n ≤ 65536 → plus c 65535 ≡ 0 → ⊥
some_left c n e h l z = omega arith

one_less : (c k : ℕ) → c ≡ suc (suc k) % 65536 → plus c 65535 ≡ suc k % 65536
one_less c k e = omega arith

again-last : (s t : State) → reg t 0 ≡ 0 → again s t ≡ t
unfolding again reg reg_of
again-last s t e = rw e

again-more : (s t : State) → (reg t 0 ≡ 0 → ⊥) → again s t ≡ with_pc t (minus s.regs.pc 2)
unfolding again reg reg_of
again-more s t d = rw (ne_eqb t.regs.r0 0 d)

pc-past : (s : State) → (with_pc s (plus s.regs.pc 2)).regs.pc ≡ plus s.regs.pc 2
unfolding with_reg set_reg
pc-past s = refl

once-kept : (r : BlockMove) (i j : ℕ) (s : State) (pc v : ℕ)
    → ((with_pc (registers_moved r (with_pc s v) i j) pc).mode ≡ s.mode) × (with_mark (with_pc (registers_moved r (with_pc s v) i j) pc) false ≡ with_pc (registers_moved r (with_pc (with_mark s false) v) i j) pc) × (hears (with_pc (registers_moved r (with_pc s v) i j) pc) ≡ hears s)
unfolding registers_moved onward with_reg with_mark reg
once-kept r i j s pc v = (refl, refl, refl)

-- the state after an element that is not the last
abbrev pub after_one : ℕ → State → State
after_one op s = once_more (move_row op) (block_source op) (block_destination op) s

-- the first step of any state, marked or not: its element is the unmarked one's
module _ {map : List ℕ} {op : ℕ} (p : Plain (block_source op) (block_destination op)) (eight : op / 512 ≡ 7) (out : Outside) (fit : out.settings.blocks ≡ true)
    (s : State) {m : List ℕ} (quiet : Unheard (hears s) out) where
  kind-is : {n : ℕ} → Ready map op n (with_mark s false) m → OpCode ≡ kind_of s out
  unfolding with_mark
  kind-is a = sym (rw a.running quiet)

  -- an element that is not the last
  pub step-once : {k : ℕ} → ElementsLeft (suc (suc k)) (with_mark s false) → Ready map op (suc (suc k)) (with_mark s false) m
      → step_of map out s m ≡ after (after_one op (with_mark s false)) (element_in op (with_mark s false) m) Cause.OpCode
  unfolding work_of
  step-once {k} l a =
      let u = with_mark s false in
      let t = with_pc u (plus u.regs.pc 2) in
      let c = registers_moved (move_row op) t (block_source op) (block_destination op) in
      let more : reg c 0 ≡ 0 → ⊥ = λ z. some_left (reg u 0) (suc (suc k)) l.togo (omega arith) l.most
      (sym (counted-count (move_row op) p u) ∙ z) in
      let there : again t c ≡ after_one op u = again-more t c more ∙ ap (λ x. with_pc c x) (ap (λ x. minus x 2) (pc-past u) ∙ back u.regs.pc a.address) in
      sym (step-well map out s m {k = OpCode} (kind-is a) (rw there at (work-well p eight out fit s (omega arith) a)) refl)

  -- the last
  pub step-last : ElementsLeft 1 (with_mark s false) → Ready map op 1 (with_mark s false) m
      → step_of map out s m ≡ after (state_moved (move_row op) (block_source op) (block_destination op) 1 (with_mark s false)) (element_in op (with_mark s false) m) Cause.OpCode
  unfolding work_of
  step-last l a =
      let u = with_mark s false in
      let t = with_pc u (plus u.regs.pc 2) in
      let c = registers_moved (move_row op) t (block_source op) (block_destination op) in
      let none : plus (reg u 0) 65535 ≡ 0 = zero_left (reg u 0) 1 l.togo refl in
      let there : again t c ≡ state_moved (move_row op) (block_source op) (block_destination op) 1 u =
      again-last t c (counted-count (move_row op) p u ∙ none)
      ∙ last-after (move_row op) p u none in
      sym (step-well map out s m {k = OpCode} (kind-is a) (rw there at (work-well p eight out fit s (omega arith) a)) refl)

-- ---- what is left after an element comes to what the whole comes to

module _ {map : List ℕ} {op : ℕ} (p : Plain (block_source op) (block_destination op)) {s : State} {m : List ℕ} where
  pub ready_on : {k : ℕ} → Ready map op (suc (suc k)) s m → Ready map op (suc k) (after_one op s) (element_in op s m)
  unfolding along
  ready_on a =
      let pc : (after_one op s).regs.pc ≡ s.regs.pc = once-pc (move_row op) p s in
      record {
        running = (once-kept (move_row op) (block_source op) (block_destination op) s s.regs.pc (plus s.regs.pc 2)).0 ∙ a.running;
        address = rw pc a.address;
        here = rw pc a.here;
        code = rw pc (put-apart (size_of (move_row op).bytes) m (reg s (block_destination op)) _ s.regs.pc (a.apart 0 (omega arith)) ∙ a.code);
        reads = λ i l. rw (once-source (move_row op) p s) (a.reads (suc i) (omega arith));
        writes = λ i l. rw (once-destination (move_row op) p s) (a.writes (suc i) (omega arith));
        apart = λ i l. rw (once-destination (move_row op) p s, pc) (a.apart (suc i) (omega arith));
      }

module _ (op : ℕ) (p : Plain (block_source op) (block_destination op)) (s : State) where
  pub left-on : (k : ℕ) → ElementsLeft (suc (suc k)) s → ElementsLeft (suc k) (after_one op s)
  left-on k l = record { togo = once-count (move_row op) p s ∙ one_less (reg s 0) k l.togo; some = omega arith; most = omega (arith, l.most) }

  pub image-on : (k : ℕ) (m : List ℕ) → image_moved (move_row op) (block_source op) (block_destination op) (suc k) (after_one op s) (element_in op s m) ≡ image_moved (move_row op) (block_source op) (block_destination op) (suc (suc k)) s m
  unfolding block_moved
  image-on k m = rw (once-source (move_row op) p s, once-destination (move_row op) p s)

  pub state-on : (k : ℕ) → state_moved (move_row op) (block_source op) (block_destination op) (suc k) (after_one op s) ≡ state_moved (move_row op) (block_source op) (block_destination op) (suc (suc k)) s
  state-on k = once_after (move_row op) p s k

  -- an element leaves no mark
  pub unmarked-on : with_mark (after_one op (with_mark s false)) false ≡ after_one op (with_mark s false)
  unfolding with_mark
  unmarked-on = (once-kept (move_row op) (block_source op) (block_destination op) (with_mark s false) s.regs.pc (plus s.regs.pc 2)).1

  pub hearing-on : hears (after_one op s) ≡ hears s
  hearing-on = (once-kept (move_row op) (block_source op) (block_destination op) s s.regs.pc (plus s.regs.pc 2)).2

  pub image-last : (m : List ℕ) → image_moved (move_row op) (block_source op) (block_destination op) 1 s m ≡ element_in op s m
  unfolding block_moved
  image-last m = refl
