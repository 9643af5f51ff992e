-- WHAT THE PROGRAMS READ SUFFICES. `bench`, `list`, `make_trace` and `check_trace` read one byte more than the longest job has, 25,096, or the longest trace,
-- 1,310,702. Here: what they print for so many bytes is what they would print for all of their input.
use Rattle.std.specs.Prelude.{ℕ, List, ◌≡◌, take}
use Rattle.job.specs.Job.{why_job}
use Rattle.runjob.specs.Bench.{bench_of}
use Rattle.listjob.specs.Stretch.{list_of}
use Rattle.trace.specs.Trace.{check_of, make_of}
use Rattle.demands.specs.Terms.{AllBytes}

-- what is read of a job; of a listing's input, whose two addresses stand before the job; and of a trace
abbrev read_of_job : ℕ
read_of_job = 25097

abbrev read_of_listing : ℕ
read_of_listing = 25101

abbrev read_of_trace : ℕ
read_of_trace = 1310703

-- a job's refusal
abbrev pub JobReads : Type 0
JobReads = (input : List ℕ) → why_job (take read_of_job input) ≡ why_job input

-- bench: the line, and what is left in its buffers
abbrev pub BenchReads : Type 0
BenchReads = (input text image map lines : List ℕ) → bench_of (take read_of_job input) text image map lines ≡ bench_of input text image map lines

-- list
abbrev pub ListReads : Type 0
ListReads = (input text image map lines : List ℕ) → list_of (take read_of_listing input) text image map lines ≡ list_of input text image map lines

-- make_trace
abbrev pub MakeReads : Type 0
MakeReads = (input out image map lines : List ℕ) → make_of (take read_of_job input) out image map lines ≡ make_of input out image map lines

-- check_trace
abbrev pub CheckReads : Type 0
CheckReads = (input t image map lines : List ℕ) → AllBytes t → check_of (take read_of_job input) (take read_of_trace t) image map lines ≡ check_of input t image map lines
