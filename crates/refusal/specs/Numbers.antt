-- The refusal numbers of documents 01 and 02, by what they refuse. 6, 7, 9 and 30 to 32 are the text's alone: optext Answer has them, beside 8 and 10.
use Rattle.std.specs.Prelude.{ℕ}

-- ---- what the processor is lent

-- the image is not 65,536 bytes; the map is not 256 bytes; a map byte is over 2
abbrev pub image_length : ℕ
image_length = 1

abbrev pub map_length : ℕ
map_length = 2

abbrev pub map_byte : ℕ
map_byte = 3

-- a jumper number is over 3, or the address register over 63
abbrev pub setup : ℕ
setup = 35

-- over 4,096 line words (the job reader: the line buffer is not 4,096); an unused bit of a line word is set
abbrev pub lines_length : ℕ
lines_length = 4

abbrev pub line_bit : ℕ
line_bit = 5

-- ---- what is lent to be written is too short

-- a text; an output, or the words of a text that is read
abbrev pub text_short : ℕ
text_short = 8

abbrev pub output_short : ℕ
output_short = 10

-- ---- a job

-- it ends inside a count or an entry
abbrev pub job_ends : ℕ
job_ends = 11

-- pages: over 256; not rising
abbrev pub many_pages : ℕ
many_pages = 12

abbrev pub page_not_rising : ℕ
page_not_rising = 13

-- words: over 4,096; an address that is odd, not rising, in an unfitted page
abbrev pub many_words : ℕ
many_words = 14

abbrev pub address_odd : ℕ
address_odd = 15

abbrev pub address_not_rising : ℕ
address_not_rising = 16

abbrev pub address_unfitted : ℕ
address_unfitted = 17

-- line words: over 4,096; an unused bit is set
abbrev pub many_lines : ℕ
many_lines = 18

abbrev pub job_line_bit : ℕ
job_line_bit = 19

-- bytes are left over
abbrev pub bytes_left : ℕ
bytes_left = 20

-- read-only pages: not rising, or not fitted
abbrev pub read_only_page : ℕ
read_only_page = 22

-- ---- the functions for C: a buffer has a wrong length, or a byte over its range
abbrev pub no_state : ℕ
no_state = 21

-- ---- a listing: an address is odd, or the last is below the first
abbrev pub no_stretch : ℕ
no_stretch = 23

-- ---- the text for C: an odd number of bytes is lent for words
abbrev pub words_odd : ℕ
words_odd = 38

-- ---- the assembler

-- not whole lines, or over 1,024 of them
abbrev pub source_lines : ℕ
source_lines = 36

-- a line's text is unknown; its label was given already; a label that it names is given nowhere
abbrev pub unknown_text : ℕ
unknown_text = 24

abbrev pub label_again : ℕ
label_again = 25

abbrev pub label_missing : ℕ
label_missing = 26

-- a branch or SOB doesn't reach its label
abbrev pub out_of_reach : ℕ
out_of_reach = 27

-- an odd origin; words that overlap an earlier line's, or run past FFFF
abbrev pub out_of_place : ℕ
out_of_place = 28

-- ---- a trace: it ends inside its count or a state, or bytes are left over
abbrev pub trace_cut : ℕ
trace_cut = 29

-- ---- the recorder: a reading is out of range; there were 4,096 scans already; a channel is over 15
abbrev pub reading_out_of_range : ℕ
reading_out_of_range = 33

abbrev pub scans_full : ℕ
scans_full = 37

abbrev pub no_channel : ℕ
no_channel = 34
