-- A refusal and its number; what a check answers, and what a call answers, in numbers.
use Rattle.std.specs.Prelude.{ℕ, Ok, Err, Result}
use Rattle.refusal.specs.declared.Refusal.{Refusal}
use Rattle.refusal.specs.Numbers as Numbers
use Rattle.refusal.specs.Page.{Page, refused, answered}

abbrev pub number : Refusal → ℕ
number Refusal.ImageLength = Numbers.image_length
number Refusal.MapLength = Numbers.map_length
number Refusal.MapByte = Numbers.map_byte
number Refusal.Setup = Numbers.setup
number Refusal.LinesLength = Numbers.lines_length
number Refusal.LineBit = Numbers.line_bit
number Refusal.TextShort = Numbers.text_short
number Refusal.OutputShort = Numbers.output_short
number Refusal.JobEnds = Numbers.job_ends
number Refusal.ManyPages = Numbers.many_pages
number Refusal.PageNotRising = Numbers.page_not_rising
number Refusal.ManyWords = Numbers.many_words
number Refusal.AddressOdd = Numbers.address_odd
number Refusal.AddressNotRising = Numbers.address_not_rising
number Refusal.AddressUnfitted = Numbers.address_unfitted
number Refusal.ManyLines = Numbers.many_lines
number Refusal.JobLineBit = Numbers.job_line_bit
number Refusal.BytesLeft = Numbers.bytes_left
number Refusal.ReadOnlyPage = Numbers.read_only_page
number Refusal.NoState = Numbers.no_state
number Refusal.NoStretch = Numbers.no_stretch
number Refusal.WordsOdd = Numbers.words_odd
number Refusal.SourceLines = Numbers.source_lines
number Refusal.UnknownText = Numbers.unknown_text
number Refusal.LabelAgain = Numbers.label_again
number Refusal.LabelMissing = Numbers.label_missing
number Refusal.OutOfReach = Numbers.out_of_reach
number Refusal.OutOfPlace = Numbers.out_of_place
number Refusal.TraceCut = Numbers.trace_cut
number Refusal.ReadingOutOfRange = Numbers.reading_out_of_range
number Refusal.ScansFull = Numbers.scans_full
number Refusal.NoChannel = Numbers.no_channel

-- the number that a check's answer tells, 0 for none
abbrev pub why_of : {A : Type 0} → Result A Refusal → ℕ
why_of (Ok a) = 0
why_of (Err why) = number why

-- the page of an answer: what is told of what was asked for, or the refusal's number alone
abbrev pub page_of : {A B : Type 0} → (A → B) → Result A Refusal → Page B
page_of told (Ok a) = answered (told a)
page_of told (Err why) = refused (number why)
