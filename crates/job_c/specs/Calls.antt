-- What the exported call leaves: the number that it answers, and the buffers that it was lent to write. 0 is no refusal; an answer's
-- buffer that is not 6 bytes is refused before all else; then the call is job's.
use Rattle.std.specs.Prelude.{ℕ, List}
use Rattle.refusal.specs.Page.{call, Told, reading}
use Rattle.answer.specs.Answer.{three_words, answer_why}
use Rattle.job.specs.Job.{job_of}

-- the image, the map, the line words and the answer
abbrev pub JobBuffers : Type 0
JobBuffers = List ℕ × List ℕ × List ℕ × List ℕ

-- the answer's words: the number of line words, 0, 0
abbrev pub job_laid : ℕ → List ℕ × List ℕ × List ℕ → JobBuffers
job_laid n l = (l.0, l.1, l.2, three_words n 0 0)

unfoldable pub read_call : List ℕ → List ℕ → List ℕ → List ℕ → List ℕ → Told JobBuffers
read_call input image map lines b = reading job_laid (λ l. (l.0, l.1, l.2, b)) (call (answer_why b) (job_of input image map lines) (image, map, lines))
