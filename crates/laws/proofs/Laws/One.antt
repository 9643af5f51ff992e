-- A run of one line word and a step: from the definitions to the pages, and from the pages to the bytes for C.
use Rattle.std.proofs.Common.{Ok, Err}
use Prim.Native.Nat.{ℕ, zero, suc}
use native.Mathlib.Omega.{arith}
use mathlib.Core.Bool.{Bool, true, false, ◌||◌, cond}
use mathlib.Core.List.{List, [], ◌∷◌}
use mathlib.Core.Path.{◌≡◌, refl, sym, ap, ◌∙◌}
use lib.ListN.{length}
use borrow.Author.Tests.{eq-eqb}
use Rattle.state.specs.declared.State.{State}
use Rattle.state.specs.declared.Settings.{Settings}
use Rattle.state.specs.State.{heard}
use Rattle.step.specs.declared.Cause.{Cause}
use Rattle.step.specs.declared.Cause.TheVariants as Cause
use Rattle.step.specs.Step.{After, step_of, cause_number, blank_at, cause_address}
use Rattle.refusal.specs.Numbers.{line_bit, no_state}
use Rattle.refusal.specs.Page.{first, left, call, told, reading}
use Rattle.refusal.specs.Answer.{number}
use Rattle.refusal.proofs.Laws.Page.{apart, answered-one, refused-one}
use Rattle.refusal.specs.Refusal.{all_of, plain, lines_refusal, step_refusal, run_refusal}
use Rattle.machine.specs.Entry.{Stepped, step_why, power_why, run_why, turned, stepped_page, finished_page, step_page, run_page}
use Rattle.wordbytes.specs.Words.{word_at}
use Rattle.wordbytes.proofs.Laws.{word-again}
use Rattle.machine.specs.Numbers.{state_page, nowhere, told_of, first_page}
use Rattle.machine.specs.Run.{end, rest_of_run, blank_noted, no_blanks}
use Rattle.machine.proofs.Laws.Back.{turn_one}
use Rattle.machine.specs.Entry as Entry
use Rattle.machine_c.specs.Layout.{word_told, state_bytes, tally_bytes, state_from, settings_from, refused_step, refused_run}
use Rattle.machine_c.specs.Calls.{step_in, step_call, run_laid, run_call}
use Rattle.laws.proofs.Laws.Calls.{cause-byte}
use Rattle.laws.specs.One.{as_run, uncaused, one_tally, OneCall}

-- 4 can't apply to one line word, and 5 is asked of it alone
one-refusal : (settings : Settings) (m map : List ℕ) (line : ℕ) → run_why settings m map (line ∷ []) ≡ step_why settings m map line
unfolding run_refusal lines_refusal step_refusal all_of
one-refusal settings m map line = ap (first (power_why settings m map)) (split (plain line))
  where
    split : (b : Bool) → ◌≡◌ {A = ℕ} (cond (cond b true false) 0 line_bit) (cond b 0 line_bit)
    split true = refl
    split false = refl

-- a is the step, why its refusal
page-one : (why : ℕ) (a : After) (m n : List ℕ) (q : Stepped) → left (stepped_page q) n ≡ call why (turned a) m
    → left (finished_page (as_run q)) n ≡ call why (Entry.run_end (end a.state a.image (blank_noted no_blanks 0 (blank_at a.cause)))) m
page-one zero a m n (Ok t) e =
    let same : t ≡ record { state = a.state; cause = a.cause } = turn_one t (record { state = a.state; cause = a.cause }) (answered-one (ap (λ z. z.page) e)) in
    let image : n ≡ a.image = ap (λ z. z.lent) e in
    rw (same, image)
page-one zero a m n (Err why) e = absurd (apart (sym (ap (λ z. z.page) e)))
page-one (suc why) a m n (Ok t) e = absurd (apart (ap (λ z. z.page) e))
page-one (suc why) a m n (Err k) e =
    let same : number k ≡ suc why = refused-one (ap (λ z. z.page) e) in
    let image : n ≡ m = ap (λ z. z.lent) e in
    rw (same, image)

-- what a step answers and leaves is what the run over its line word must
pub step-as-run : (settings : Settings) (m map : List ℕ) (line : ℕ) (s : State) (q : Stepped) (n : List ℕ)
    → left (stepped_page q) n ≡ step_page settings m map line s → left (finished_page (as_run q)) n ≡ run_page settings m map (line ∷ []) s
unfolding step_page run_page rest_of_run
step-as-run settings m map line s q n e = rw (one-refusal settings m map line) (page-one (step_why settings m map line) (step_of map (heard settings line) s m) m n q e)

-- ---- for C

told-bytes : (s : State) (c : Cause) → word_at (state_bytes (state_page s) (cause_number c) (told_of (cause_address c))) 22 ≡ word_told (told_of (cause_address c))
unfolding state_bytes state_page
told-bytes s c = word-again (word_told (told_of (cause_address c)))

pub uncaused-bytes : (s : State) (c : Cause) → state_bytes (state_page s) 0 nowhere ≡ uncaused (state_bytes (state_page s) (cause_number c) (told_of (cause_address c)))
unfolding state_bytes state_page
uncaused-bytes s c = refl

cause-tallied : (c : Cause) → (let t = blank_noted no_blanks 0 (blank_at c) in tally_bytes t.blanks (first_page t.first)) ≡ one_tally (cause_number c) (word_told (told_of (cause_address c)))
unfolding blank_noted
cause-tallied Cause.OpCode = refl
cause-tallied Cause.Switch = refl
cause-tallied Cause.NonVectored = refl
cause-tallied Cause.Vectored = refl
cause-tallied Cause.Nothing = refl
cause-tallied (Cause.OpCodeBlank a) = refl
cause-tallied (Cause.InterruptBlank a) = refl
cause-tallied (Cause.SaveBlank a) = refl
cause-tallied (Cause.LockedAt a) = refl
cause-tallied Cause.Locked = refl

-- two refusals
refused-one-call : (b t m : List ℕ) (why k j : ℕ) (b₁ t₁ m₁ b₂ m₂ : List ℕ) → (why ≡ 0 → ⊥) → told {B = List ℕ × List ℕ × List ℕ} k (b₁, t₁, m₁) ≡ told why (b, t, m) → told {B = List ℕ × List ℕ} j (b₂, m₂) ≡ told why (b, m) → OneCall k j b₁ t₁ m₁ b₂ m₂
refused-one-call b t m why k j b₁ t₁ m₁ b₂ m₂ n e f =
    let number : j ≡ why = ap (λ z. z.number) f in
    record {
      number = ap (λ z. z.number) e ∙ sym number;
      image = ap (λ z. z.lent.2) e ∙ sym (ap (λ z. z.lent.1) f);
      state = λ z. absurd (n (sym number ∙ z));
      tally = λ z. absurd (n (sym number ∙ z));
    }

-- a is the step, why its refusal, bad that of the lent bytes
call-one : (b t m : List ℕ) (bad why : ℕ) (a : After) (k j : ℕ) (b₁ t₁ m₁ b₂ m₂ : List ℕ)
    → told k (b₁, t₁, m₁) ≡ reading run_laid (λ z. (b, t, z)) (call bad (call why (Entry.run_end (end a.state a.image (blank_noted no_blanks 0 (blank_at a.cause)))) m) m)
    → told j (b₂, m₂) ≡ reading step_in (λ z. (b, z)) (call bad (call why (turned a) m) m)
    → OneCall k j b₁ t₁ m₁ b₂ m₂
call-one b t m zero zero a k j b₁ t₁ m₁ b₂ m₂ e f =
    let after : b₂ ≡ state_bytes (state_page a.state) (cause_number a.cause) (told_of (cause_address a.cause)) = ap (λ z. z.lent.0) f in
    record {
      number = ap (λ z. z.number) e ∙ sym (ap (λ z. z.number) f);
      image = ap (λ z. z.lent.2) e ∙ sym (ap (λ z. z.lent.1) f);
      state = λ z. ap (λ z. z.lent.0) e ∙ uncaused-bytes a.state a.cause ∙ ap uncaused (sym after);
      tally = λ z. rw (after, cause-byte a.state (cause_number a.cause) (told_of (cause_address a.cause)), told-bytes a.state a.cause) (ap (λ z. z.lent.1) e ∙ cause-tallied a.cause);
    }
call-one b t m zero (suc why) a k j b₁ t₁ m₁ b₂ m₂ e f = refused-one-call b t m (suc why) k j b₁ t₁ m₁ b₂ m₂ (λ z. omega (arith, z)) e f
call-one b t m (suc bad) why a k j b₁ t₁ m₁ b₂ m₂ e f = refused-one-call b t m (suc bad) k j b₁ t₁ m₁ b₂ m₂ (λ z. omega (arith, z)) e f

or-none : (b : Bool) → b || false ≡ b
or-none true = refl
or-none false = refl

run-refused : (b t w : List ℕ) → length t ≡ 6 → refused_run b t w ≡ refused_step b w
unfolding refused_run
run-refused b t w l = rw (eq-eqb (length t) 6 l) (or-none (refused_step b w))

pub calls-one : (b t m map w : List ℕ) (line k j : ℕ) (b₁ t₁ m₁ b₂ m₂ : List ℕ) → length t ≡ 6
    → told k (b₁, t₁, m₁) ≡ run_call b t m map w (line ∷ []) → told j (b₂, m₂) ≡ step_call b m map w line → OneCall k j b₁ t₁ m₁ b₂ m₂
unfolding run_call step_call run_page step_page rest_of_run
calls-one b t m map w line k j b₁ t₁ m₁ b₂ m₂ l e f =
    call-one b t m (cond (refused_step b w) no_state 0) (step_why (settings_from w) m map line) (step_of map (heard (settings_from w) line) (state_from b) m) k j b₁ t₁ m₁ b₂ m₂
    (rw (run-refused b t w l, one-refusal (settings_from w) m map line) at e) f
