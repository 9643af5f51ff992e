-- The theorems that specs/Programs.antt states.
use Prim.Native.Nat.{ℕ, zero, suc}
use native.Mathlib.Omega.{arith}
use mathlib.Core.List.{List, [], ◌∷◌}
use mathlib.Core.Path.{◌≡◌, refl, sym, ap, ◌∙◌}
use borrow.Author.Tests.{le-ltb}
use lib.Dec.{ltb}
use lib.ListN.{length, take, drop, length-drop}
use lib.Seq.{take_all, get_or-take}
use Rattle.refusal.specs.Page.{answered, Left, left, call, first}
use Rattle.refusal.proofs.Laws.Page.{first-both}
use Rattle.benchline.specs.Line.{print_why}
use Rattle.job.specs.Job.{why_read}
use Rattle.job.proofs.Laws.Longest.{job-front, read-front, read-long}
use Rattle.runjob.specs.Bench.{end_line, run_in, bench_why, bench_of}
use Rattle.listjob.specs.Stretch.{list_why, listed_in, list_of}
use Rattle.listjob.proofs.Laws.{taken-all}
use Rattle.trace.specs.Trace.{verdict_of, verdict_page, buffers_after, why_trace, why_check, check_of, why_make, made_of, make_of}
use Rattle.trace.proofs.Laws.Longest.{trace-front, trace-long}
use Rattle.demands.specs.Programs.{JobReads, BenchReads, ListReads, MakeReads, CheckReads}

-- two calls that are refused alike, and whose answers are the same where they are not
same-calls : {A B : Type 0} (why other : ℕ) (right more : Left A B) (lent : B) → other ≡ why → (why ≡ 0 → more ≡ right) → call other more lent ≡ call why right lent
same-calls zero other right more lent e h = rw e (h refl)
same-calls (suc why) other right more lent e h = rw e refl

-- a job that is not refused is all there
whole : (image map lines : ℕ) (input : List ℕ) → why_read image map lines input ≡ 0 → take 25097 input ≡ input
whole image map lines input e = take_all 25097 input (omega (arith, read-long image map lines input e))

pub job-reads : JobReads
job-reads input = job-front input 25097 (omega arith)

pub bench-reads : BenchReads
unfolding bench_of
bench-reads input text image map lines =
    same-calls (bench_why input text image map lines) (bench_why (take 25097 input) text image map lines)
    (end_line input text (run_in input)) (end_line (take 25097 input) text (run_in (take 25097 input))) (text, image, map, lines)
    (ap (first (print_why 61 (length text))) (read-front (length image) (length map) (length lines) input 25097 (omega arith)))
    (λ e. ap (λ (z : List ℕ). end_line z text (run_in z)) (whole (length image) (length map) (length lines) input (first-both (print_why 61 (length text)) _ e).1))

-- the two addresses and the job after them
front : (l : List ℕ) → drop 4 (take 25101 l) ≡ take 25097 (drop 4 l)
front [] = refl
front (a ∷ []) = refl
front (a ∷ b ∷ []) = refl
front (a ∷ b ∷ c ∷ []) = refl
front (a ∷ b ∷ c ∷ d ∷ l) = refl

-- the addresses are cut in both or in neither
cut : (l : List ℕ) → ltb (length (take 25101 l)) 4 ≡ ltb (length l) 4
cut [] = refl
cut (a ∷ []) = refl
cut (a ∷ b ∷ []) = refl
cut (a ∷ b ∷ c ∷ []) = refl
cut (a ∷ b ∷ c ∷ d ∷ l) = le-ltb (length (take 25101 (a ∷ b ∷ c ∷ d ∷ l))) 4 (omega arith) ∙ sym (le-ltb (length (a ∷ b ∷ c ∷ d ∷ l)) 4 (omega arith))

list-front : (input : List ℕ) (text image map lines : ℕ) → list_why (take 25101 input) text image map lines ≡ list_why input text image map lines
unfolding list_why
list-front input text image map lines =
    rw (cut input, front input, read-front image map lines (drop 4 input) 25097 (omega arith), get_or-take 25101 input 0 0 (omega arith), get_or-take 25101 input 1 0 (omega arith), get_or-take 25101 input 2 0 (omega arith), get_or-take 25101 input 3 0 (omega arith)) refl

pub list-reads : ListReads
unfolding list_of
list-reads input text image map lines =
    same-calls (list_why input (length text) (length image) (length map) (length lines)) (list_why (take 25101 input) (length text) (length image) (length map) (length lines))
    (listed_in input text) (listed_in (take 25101 input) text) (text, image, map, lines)
    (list-front input (length text) (length image) (length map) (length lines))
    (λ e.
    let read = (taken-all input (length text) (length image) (length map) (length lines) e).read in
    let few = read-long (length image) (length map) (length lines) (drop 4 input) read in
    ap (λ (z : List ℕ). listed_in z text) (take_all 25101 input (omega (arith, few, length-drop 4 input))))

pub make-reads : MakeReads
unfolding make_of
make-reads input out image map lines =
    same-calls (why_make input (length out) (length image) (length map) (length lines)) (why_make (take 25097 input) (length out) (length image) (length map) (length lines))
    (made_of input out) (made_of (take 25097 input) out) (out, image, map, lines)
    (rw (read-front (length image) (length map) (length lines) input 25097 (omega arith)) refl)
    (λ e. ap (λ (z : List ℕ). made_of z out) (whole (length image) (length map) (length lines) input (first-both (why_read (length image) (length map) (length lines) input) _ e).0))

pub check-reads : CheckReads
unfolding check_of
check-reads input t image map lines bytes =
    same-calls (why_check input t (length image) (length map) (length lines)) (why_check (take 25097 input) (take 1310703 t) (length image) (length map) (length lines))
    (left (answered (verdict_page (verdict_of input t))) (buffers_after input)) (left (answered (verdict_page (verdict_of (take 25097 input) (take 1310703 t)))) (buffers_after (take 25097 input))) (image, map, lines)
    (rw (read-front (length image) (length map) (length lines) input 25097 (omega arith), trace-front t 1310703 bytes (omega arith)) refl)
    (λ e.
    let both = first-both (why_read (length image) (length map) (length lines) input) (why_trace t) e in
    rw (whole (length image) (length map) (length lines) input both.0, take_all 1310703 t (omega (arith, trace-long t bytes both.1))) refl)
