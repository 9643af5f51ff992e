-- The theorems that specs/Cards.antt states.
use Rattle.std.proofs.Common.{Ok, Err}
use Prim.Native.Nat.{ℕ}
use native.Mathlib.Omega.{arith}
use mathlib.Core.Bool.{true, false}
use mathlib.Core.List.{List, [], ◌∷◌}
use mathlib.Core.Path.{◌≡◌, refl, sym, ap, ◌∙◌}
use lib.ListN.{length, get_or, length-set, length-replicate}
use Rattle.board.specs.Work.{run, fitted, writable, even, image_word, with_word, ◌>>=◌}
use Rattle.state.specs.declared.State.{State}
use Rattle.state.specs.declared.Mode.TheVariants.{Locked}
use Rattle.state.specs.Registers.{reg_of, set_reg}
use Rattle.state.specs.State.{heard, mode_number, reg, with_reg, with_i2, with_mode, with_mark, cleared, ps_of}
use Rattle.state.specs.Stack.{push, from_loc, push_both, trap, tabled}
use Rattle.step.specs.declared.Turn.{Turn}
use Rattle.step.specs.declared.Cause.TheVariants as Cause
use Rattle.step.specs.Step.{After, after, step_of, error_of, kind_in, halt_option, work_of, vectored, bus_error, cause_number, cause_address, is_blank}
use Rattle.refusal.proofs.Laws.Page.{answered-one}
use Rattle.refusal.specs.Refusal.{all_of, plain, board_refusal, power_refusal}
use Rattle.wordbytes.specs.Words.{byte_at}
use Rattle.wordbytes.specs.Words as Words
use Rattle.machine.specs.declared.Ran.{Ran}
use Rattle.machine.specs.Entry.{Stepped, Finished, power_why, turned, finished_page, run_page}
use Rattle.machine.specs.Numbers.{state_page, nowhere, told_of, first_page}
use Rattle.machine.specs.Run.{End, end, rest_of_run, blank_noted, run_of, ran_of}
use Rattle.machine.specs.Trail.{trail_of, last_after, blanks_in, tally_in}
use Rattle.machine.proofs.Laws.Counted.{run-trail}
use Rattle.machine.proofs.Laws.Back.{turn_one, one-step}
use Rattle.refusal.specs.Page.{left, told}
use Rattle.machine.proofs.Laws.Entry.{run-answered}
use Rattle.machine.proofs.Laws.Answered.{step-answer, run-done}
use Rattle.machine_c.specs.Layout.{state_bytes, state_from, settings_from}
use Rattle.laws.proofs.Laws.Taken.{taken-run, run-taken, run-answer-of, step-page-is, step-taken, ran-is}
use Rattle.laws.proofs.Laws.Calls.{bytes_for, call-answered, run-not-refused, step-not-refused, tally-taken, stepped_in, step-call-is, blanks-word, mode-byte, cause-byte, number-no-blank}
use Rattle.laws.proofs.Laws.More.{SoundStep}
use Rattle.laws.proofs.Laws.More.{plugged-one, plugged-more, step-more, trail_more, run_more, none_first}
use Rattle.endline.specs.Report.{bench_board}
use Rattle.laws.specs.Cards.{Plugged, Sound, bare_rack, card, image, before, ran_in, end_seen, heals, spares, RunPlugged, StepPlugged, Wd16StepPlugged, Wd16RunPlugged, BothSuffice, BlankNeeded, LockNeeded}
use Rattle.machine.proofs.Laws.Alike.{image_at_end}

-- ---- A RUN

pub run-plugged : RunPlugged
run-plugged settings map big lines s m m₁ m₂ a q p h sound f g =
    let one = run-done settings m map lines s a m₁ f in
    let t = run-taken settings m map lines one.0 in
    let two = run-answer-of settings m big lines s q m₂ (taken-run settings m big lines (record { board = h; few = t.few; unused = t.unused })) g in
    let rs = trail_of settings map lines s m in
    let last : a ≡ record { state = (last_after (after s m Cause.Nothing) rs).state; tally = tally_in rs } = (ran-is (one.1 ∙ run-trail settings map lines s m Cause.Nothing)).0 in
    let blanks : blanks_in rs ≡ 0 = sym (ap (λ z. z.tally.blanks) last) ∙ sound.no_blank in
    let unlocked : (last_after (after s m Cause.Nothing) rs).state.mode ≡ Locked → ⊥ = λ l. sound.unlocked (ap (λ z. z.state.mode) last ∙ l) in
    let more = plugged-more map big p in
    let same = ran-is (two.2 ∙ run_more settings map big more lines s m Cause.Nothing blanks unlocked ∙ sym one.1) in
    record {
      answer = two.1 ∙ ap Ok same.0;
      no_place = ap (λ z. z.tally.first) last ∙ none_first rs blanks;
      image = same.1;
      steps = trail_more settings map big more lines s m Cause.Nothing blanks unlocked;
    }

-- ---- A STEP: with no blank, and not locked after it

sound-turn : (t : Turn) (a : After) → t ≡ record { state = a.state; cause = a.cause } → is_blank t.cause ≡ false → (t.state.mode ≡ Locked → ⊥) → SoundStep a
sound-turn t a same e u = record { no_blank = sym (ap (λ z. is_blank z.cause) same) ∙ e; unlocked = λ l. u (ap (λ z. z.state.mode) same ∙ l) }

pub step-plugged : StepPlugged
step-plugged settings map big line s m m₁ m₂ t q p h e u f g =
    let one = step-answer settings m map line s f in
    let a = step_of map (heard settings line) s m in
    let same : t ≡ record { state = a.state; cause = a.cause } = turn_one t (record { state = a.state; cause = a.cause }) (answered-one (ap (λ z. z.page) one.1)) in
    let sound : SoundStep a = sound-turn t a same e u in
    one-step q (Ok t) m₂ m₁
    (g ∙ step-page-is settings m big line s (step-taken settings m map big line h one.0) ∙ ap turned (step-more map (heard settings line) s m big (plugged-more map big p) sound) ∙ sym one.1)

-- ---- THE SAME FOR C, on the bytes that the calls leave: w are the settings' bytes

pub wd16-step-plugged : Wd16StepPlugged
wd16-step-plugged b m map big w line k b₁ m₁ b₂ m₂ p h e five six nine four f =
    let settings = settings_from w in
    let free = step-not-refused b m map w line b₁ m₁ e in
    let a = step_of map (heard settings line) (state_from b) m in
    let left₁ : told 0 (b₁, m₁) ≡ stepped_in a = e ∙ step-call-is b m map w line free.0 free.1 in
    let bytes : b₁ ≡ state_bytes (state_page a.state) (cause_number a.cause) (told_of (cause_address a.cause)) = ap (λ z. z.lent.0) left₁ in
    let mode : byte_at b₁ 18 ≡ mode_number a.state.mode = ap (λ z. byte_at z 18) bytes ∙ mode-byte a.state (cause_number a.cause) (told_of (cause_address a.cause)) in
    let cause : byte_at b₁ 19 ≡ cause_number a.cause = ap (λ z. byte_at z 19) bytes ∙ cause-byte a.state (cause_number a.cause) (told_of (cause_address a.cause)) in
    let sound : SoundStep a = record {
      no_blank = number-no-blank a.cause (λ z. five (cause ∙ z)) (λ z. six (cause ∙ z)) (λ z. nine (cause ∙ z));
      unlocked = λ l. four (mode ∙ ap mode_number l);
    } in
    let left₂ : told {B = List ℕ × List ℕ} k (b₂, m₂) ≡ told 0 (b₁, m₁) =
    f ∙ step-call-is b m big w line free.0 (step-taken settings m map big line h free.1) ∙ ap stepped_in (step-more map (heard settings line) (state_from b) m big (plugged-more map big p) sound) ∙ sym left₁ in
    (ap (λ z. z.number) left₂, ap (λ z. z.lent.0) left₂, ap (λ z. z.lent.1) left₂)

pub done-one : {a b : Ran} → ◌≡◌ {A = Finished} (Ok a) (Ok b) → a ≡ b
done-one {a} {b} e = cc

same_bytes : (a c : Ran) {b₁ b₂ t₁ t₂ : List ℕ} → c ≡ a → b₁ ≡ state_bytes (state_page a.state) 0 nowhere → b₂ ≡ state_bytes (state_page c.state) 0 nowhere → t₁ ≡ bytes_for a → t₂ ≡ bytes_for c → (b₂ ≡ b₁) × (t₂ ≡ t₁)
same_bytes a c e f g h i = (g ∙ ap (λ z. state_bytes (state_page z.state) 0 nowhere) e ∙ sym f, i ∙ ap bytes_for e ∙ sym h)

pub wd16-run-plugged : Wd16RunPlugged
wd16-run-plugged b t t' m map big w lines k b₁ t₁ m₁ b₂ t₂ m₂ p h l e none four f =
    let settings = settings_from w in
    let free = run-not-refused b t m map w lines b₁ t₁ m₁ e in
    let lines-taken = run-taken settings m map lines free.1 in
    let one = (call-answered b t m map w lines 0 b₁ t₁ m₁ free.0 free.1 e).1 in
    let a = one.ran in
    let two = call-answered b t' m big w lines k b₂ t₂ m₂ (tally-taken b t t' w free.0 l) (taken-run settings m big lines (record { board = h; few = lines-taken.few; unused = lines-taken.unused })) f in
    let mode : byte_at b₁ 18 ≡ mode_number a.state.mode = ap (λ z. byte_at z 18) one.state ∙ mode-byte a.state 0 nowhere in
    let blanks : Words.word_at t₁ 0 ≡ a.tally.blanks = ap (λ z. Words.word_at z 0) one.tally ∙ blanks-word a.tally.blanks (first_page a.tally.first) in
    let sound : Sound a = record { no_blank = sym blanks ∙ none; unlocked = λ l. four (mode ∙ ap mode_number l) } in
    let same = run-plugged settings map big lines (state_from b) m m₁ m₂ a (Ok two.1.ran) p h sound one.page two.1.page in
    let bytes = same_bytes a two.1.ran (done-one same.answer) one.state two.1.state one.tally two.1.tally in
    (two.0, bytes.0, bytes.1, same.image)

-- ---- WHY BOTH CONDITIONS ARE NEEDED

blank-row : end_seen (ran_in (heals bare_rack)) ≡ 0x200 ∷ 0x1fc ∷ 0 ∷ 1 ∷ []
unfolding rest_of_run blank_noted step_of error_of kind_in halt_option work_of vectored bus_error run fitted writable even image_word with_word ◌>>=◌ reg_of set_reg reg with_reg with_i2 with_mode with_mark cleared ps_of push from_loc push_both trap tabled
blank-row = refl

healed-row : end_seen (ran_in (heals card)) ≡ 0x400 ∷ 0x1fc ∷ 0 ∷ 0 ∷ []
unfolding rest_of_run blank_noted step_of error_of kind_in halt_option work_of vectored bus_error run fitted writable even image_word with_word ◌>>=◌ reg_of set_reg reg with_reg with_i2 with_mode with_mark cleared ps_of push from_loc push_both trap tabled
healed-row = refl

locked-row : end_seen (ran_in (spares bare_rack)) ≡ 0x100 ∷ 0x500 ∷ 4 ∷ 0 ∷ []
unfolding rest_of_run blank_noted step_of error_of kind_in halt_option work_of vectored bus_error run fitted writable even image_word with_word ◌>>=◌ reg_of set_reg reg with_reg with_i2 with_mode with_mark cleared ps_of push from_loc push_both trap tabled
locked-row = refl

spared-row : end_seen (ran_in (spares card)) ≡ 0x300 ∷ 0x4fc ∷ 0 ∷ 0 ∷ []
unfolding rest_of_run blank_noted step_of error_of kind_in halt_option work_of vectored bus_error run fitted writable even image_word with_word ◌>>=◌ reg_of set_reg reg with_reg with_i2 with_mode with_mark cleared ps_of push from_loc push_both trap tabled
spared-row = refl

pub both-suffice : BothSuffice
both-suffice settings map big lines s m m₁ m₂ a q p h sound f g = (run-plugged settings map big lines s m m₁ m₂ a q p h sound f g).answer

plugged : Plugged bare_rack card
plugged = plugged-one bare_rack 4 1 refl

image-size : length image ≡ 65536
unfolding with_word
image-size = simp (length-set, length-replicate)

bare-taken : (m : List ℕ) → length m ≡ 65536 → power_why bench_board m bare_rack ≡ 0
unfolding power_refusal board_refusal all_of
bare-taken m l = rw l

card-taken : (m : List ℕ) → length m ≡ 65536 → power_why bench_board m card ≡ 0
unfolding power_refusal board_refusal all_of
card-taken m l = rw l

-- what a run over one line word that isn't refused answers and leaves
met : (map : List ℕ) (line : ℕ) (s : State) (m : List ℕ) → power_why bench_board m map ≡ 0 → plain line ≡ true
    → (let x = run_of bench_board map (line ∷ []) s m in left (finished_page (Ok (ran_in x))) (image_at_end x) ≡ run_page bench_board m map (line ∷ []) s)
unfolding all_of
met map line s m e h =
    let x = run_of bench_board map (line ∷ []) s m in
    run-answered bench_board m map (line ∷ []) s (ran_in x) (image_at_end x) (taken-run bench_board m map (line ∷ []) (record { board = e; few = omega arith; unused = rw h })) (whole x)
  where
    whole : (x : End) → ran_of (ran_in x) (image_at_end x) ≡ x
    whole (end t n y) = refl

-- by the rows
not-locked : (ran_in (heals bare_rack)).state.mode ≡ Locked → ⊥
not-locked l =
    let z : ◌≡◌ {A = ℕ} 4 0 = sym (ap mode_number l) ∙ ap (λ z. get_or z 2 9) blank-row in
    omega arith

no-blanks : (ran_in (spares bare_rack)).tally.blanks ≡ 0
no-blanks = ap (λ z. get_or z 3 9) locked-row

abbrev seen_in : Finished → List ℕ
seen_in (Ok a) = end_seen a
seen_in (Err why) = []

apart : (a b c d e f g h : ℕ) (x y : List ℕ) → x ≡ a ∷ b ∷ c ∷ d ∷ [] → y ≡ e ∷ f ∷ g ∷ h ∷ [] → y ≡ x → a ≡ e
apart a b c d e f g h x y p q r = cc

pub blank-needed : BlankNeeded
blank-needed law =
    let same : Ok (ran_in (heals card)) ≡ Ok (ran_in (heals bare_rack)) =
    law bench_board bare_rack card (1 ∷ []) (before 0x200) image (image_at_end (heals bare_rack)) (image_at_end (heals card)) (ran_in (heals bare_rack)) (Ok (ran_in (heals card)))
    plugged (card-taken image image-size) not-locked
    (met bare_rack 1 (before 0x200) image (bare-taken image image-size) refl) (met card 1 (before 0x200) image (card-taken image image-size) refl) in
    let pc : ◌≡◌ {A = ℕ} 0x200 0x400 = apart _ _ _ _ _ _ _ _ _ _ blank-row healed-row (ap seen_in same) in
    omega arith

pub lock-needed : LockNeeded
lock-needed law =
    let same : Ok (ran_in (spares card)) ≡ Ok (ran_in (spares bare_rack)) =
    law bench_board bare_rack card (2 ∷ []) (before 0x500) image (image_at_end (spares bare_rack)) (image_at_end (spares card)) (ran_in (spares bare_rack)) (Ok (ran_in (spares card)))
    plugged (card-taken image image-size) no-blanks
    (met bare_rack 2 (before 0x500) image (bare-taken image image-size) refl) (met card 2 (before 0x500) image (card-taken image image-size) refl) in
    let pc : ◌≡◌ {A = ℕ} 0x100 0x300 = apart _ _ _ _ _ _ _ _ _ _ locked-row spared-row (ap seen_in same) in
    omega arith
