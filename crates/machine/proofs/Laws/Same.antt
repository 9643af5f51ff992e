-- Laws of specs/Same.antt.
use Rattle.std.specs.Prelude.{Option, Some, None}
use Prim.Native.Nat.{ℕ, zero, suc, ◌+◌, ◌≤◌}
use native.Mathlib.Omega.{arith}
use mathlib.Core.Bool.{Bool, true, false, cond}
use mathlib.Core.List.{List, [], ◌∷◌}
use mathlib.Core.Path.{◌≡◌, refl, sym, ap, ◌∙◌}
use lib.ListN.{length, take, replicate, length-replicate}
use Rattle.state.specs.declared.State.{State}
use Rattle.state.specs.declared.Settings.{Settings}
use Rattle.state.specs.State.{heard}
use Rattle.step.specs.declared.Cause.TheVariants as Cause
use Rattle.step.specs.Step.{After, step_of, blank_at, is_blank}
use Rattle.machine.specs.declared.Ran.{Ran}
use Rattle.machine.specs.declared.Tally.{Tally}
use Rattle.machine.specs.declared.FirstBlank.{FirstBlank}
use Rattle.refusal.specs.Page.{refused, answered, left}
use Rattle.refusal.proofs.Laws.Page.{call-refused, call-answered}
use Rattle.machine.specs.Numbers.{first_page, ran_page}
use Rattle.machine.specs.Run.{End, end, rest_of_run, run_of, ran_of, blank_noted}
use Rattle.machine.specs.Trail.{trail_of, blanks_in, first_blank_in, place_moved, Least, least}
use Rattle.machine.specs.Counted.{or_first, tally_joined}
use Rattle.machine.specs.Entry.{run_end, step_why}
use Rattle.board.specs.Exec.{Lent}
use Rattle.machine.specs.Same.{BlankAmong, Tallied, Parted, same_of, run_same_page}
use Rattle.machine.proofs.Laws.Counted.{rest-trail, run-trail, first-least, trail-length}

-- ---- the tally of a run

blanks-few : (rs : List After) → blanks_in rs ≤ length rs
unfolding blanks_in
blanks-few [] = omega arith
blanks-few (a ∷ rs) = one (is_blank a.cause) (blanks-few rs)
  where
    one : {n k : ℕ} (b : Bool) → n ≤ k → cond b 1 0 + n ≤ suc k
    one true h = omega arith
    one false h = omega arith

first-among : (rs : List After) → BlankAmong (length rs) (first_blank_in rs)
first-among rs = from (first_blank_in rs) (first-least rs)
  where
    from : (f : Option FirstBlank) → Least rs (first_page f) → BlankAmong (length rs) f
    from (Some b) (least l h g) = l
    from None h = tt

abbrev tally_of : End → Tally
tally_of (end s m t) = t

pub run-tallied : (settings : Settings) (map lines : List ℕ) (s : State) (m n : List ℕ) (r : Ran) → ran_of r n ≡ run_of settings map lines s m → Tallied (length lines) r.tally
run-tallied settings map lines s m n r e =
    let rs = trail_of settings map lines s m in
    rw (ap tally_of (e ∙ run-trail settings map lines s m Cause.Nothing), ← trail-length settings map lines s m) (record { few = blanks-few rs; among = first-among rs })

pub among_below : (n k : ℕ) (f : Option FirstBlank) → n ≤ k → BlankAmong n f → BlankAmong k f
among_below n k (Some b) l h = omega arith
among_below n k None l h = tt

joined-tallied : {n k : ℕ} {t u : Tally} → Tallied n t → Tallied k u → Tallied (n + k) (tally_joined n t u)
unfolding tally_joined
joined-tallied {n = n} {k = k} {t = t} {u = u} h g = record { few = omega (arith, h.few, g.few); among = first t.first u.first h.among g.among }
  where
    first : (f g : Option FirstBlank) → BlankAmong n f → BlankAmong k g → BlankAmong (n + k) (or_first f (place_moved n g))
    first (Some b) g h i = omega arith
    first None (Some b) h i = omega arith
    first None None h i = tt

-- ---- a part, behind n steps

abbrev pub behind_steps : ℕ → Tally → End → End
behind_steps n t (end s m u) = end s m (tally_joined n t u)

part-is : (settings : Settings) (map lines : List ℕ) (n : ℕ) (b r : Ran) (m m' : List ℕ) (t : Tally) → ran_of r m' ≡ run_of settings map lines b.state m → t ≡ tally_joined n b.tally r.tally
    → ran_of (record { state = r.state; tally = t }) m' ≡ rest_of_run settings map n lines b.state m b.tally
part-is settings map lines n b r m m' t e d =
    rw d (ap (behind_steps n b.tally) (e ∙ run-trail settings map lines b.state m Cause.Nothing) ∙ sym (rest-trail settings map n lines b.state m b.tally Cause.Nothing))

pub parted : (settings : Settings) (map lines : List ℕ) (n : ℕ) (b r : Ran) (m m' : List ℕ) (t : Tally) → Tallied n b.tally → Lent map m'
    → ran_of r m' ≡ run_of settings map lines b.state m → t ≡ tally_joined n b.tally r.tally → Parted settings map lines n b m (record { state = r.state; tally = t }) m'
parted settings map lines n b r m m' t h l e d = record {
  same = part-is settings map lines n b r m m' t e d;
  tallied = rw d (joined-tallied h (run-tallied settings map lines b.state m m' r e));
  lent = l;
}

-- ---- the parts of a run over one line word

abbrev pub rest_on : Settings → List ℕ → ℕ → List ℕ → End → End
rest_on settings map n lines (end s m t) = rest_of_run settings map n lines s m t

rest-same : (settings : Settings) (map : List ℕ) (place k n j x : ℕ) (s : State) (m : List ℕ) (t : Tally) → j ≡ k + n
    → rest_on settings map (place + k) (replicate n x) (rest_of_run settings map place (replicate k x) s m t) ≡ rest_of_run settings map place (replicate j x) s m t
unfolding rest_of_run
rest-same settings map place zero n j x s m t e =
    let here : place + 0 ≡ place = omega arith in
    let all : j ≡ n = omega arith in
    rw (all, here)
rest-same settings map place (suc k) n zero x s m t e = absurd (omega arith)
rest-same settings map place (suc k) n (suc j) x s m t e =
    let a = step_of map (heard settings x) s m in
    ap (λ z. rest_on settings map z (replicate n x) (rest_of_run settings map (place + 1) (replicate k x) a.state a.image (blank_noted t place (blank_at a.cause)))) (next place k)
    ∙ rest-same settings map (place + 1) k n j x a.state a.image (blank_noted t place (blank_at a.cause)) (omega arith)
  where
    next : (place k : ℕ) → place + suc k ≡ place + 1 + k
    next place k = omega arith

take_same : (k n x : ℕ) → k ≤ n → take k (replicate n x) ≡ replicate k x
take_same zero n x h = refl
take_same (suc k) zero x h = absurd (omega arith)
take_same (suc k) (suc n) x h = ap (λ z. x ∷ z) (take_same k n x (omega arith))

-- the first k of line words that are all the same
pub part-take : (lines : List ℕ) (line k : ℕ) → lines ≡ replicate 128 line → k ≤ 128 → take k lines ≡ replicate k line
part-take lines line k e h = ap (take k) e ∙ take_same k 128 line h

pub part_length : (lines : List ℕ) (line k : ℕ) → lines ≡ replicate 128 line → k ≤ 128 → length (take k lines) ≡ k
part_length lines line k e h = ap length (part-take lines line k e h) ∙ length-replicate k line

-- k of the n steps that are left, and then j
pub same_more : (settings : Settings) (map : List ℕ) (line place k j n : ℕ) (b r : Ran) (m m' : List ℕ) → n ≡ k + j
    → ran_of r m' ≡ rest_of_run settings map place (replicate k line) b.state m b.tally
    → rest_of_run settings map (place + k) (replicate j line) r.state m' r.tally ≡ rest_of_run settings map place (replicate n line) b.state m b.tally
same_more settings map line place k j n b r m m' l e =
    ap (rest_on settings map (place + k) (replicate j line)) e ∙ rest-same settings map place k j n line b.state m b.tally l

-- no step is left
pub same_none : (settings : Settings) (map : List ℕ) (line place n : ℕ) (r : Ran) (m : List ℕ) → n ≡ 0 → rest_of_run settings map place (replicate n line) r.state m r.tally ≡ ran_of r m
unfolding rest_of_run
same_none settings map line place n r m e = rw e

module _ (settings : Settings) (image map : List ℕ) (line n : ℕ) (s : State) where
  pub same-refused : (why : ℕ) → why ≡ step_why settings image map line → (why ≡ 0 → ⊥) → left (refused why) image ≡ run_same_page settings image map line n s
  unfolding run_same_page
  same-refused why e d = call-refused (step_why settings image map line) (same_of settings map line n s image) image why e d

  pub same-answered : (r : Ran) (m : List ℕ) → step_why settings image map line ≡ 0 → ran_of r m ≡ run_of settings map (replicate n line) s image → left (answered (ran_page r)) m ≡ run_same_page settings image map line n s
  unfolding run_same_page
  same-answered r m e h = call-answered (step_why settings image map line) (same_of settings map line n s image) image (run_end (ran_of r m)) e (ap run_end h)
