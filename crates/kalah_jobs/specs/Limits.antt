-- How much is read.
use Rattle.std.specs.Prelude.{ℕ}
use Rattle.kalah_jobs.specs.declared.limits.TheConstants.{MOST_FILES, MOST_FILE_BYTES, MOST_LINES, MOST_LINE_BYTES}

-- bytes of a line, after its CR is dropped
abbrev pub most_line_bytes : ℕ
most_line_bytes = MOST_LINE_BYTES

-- bytes of a file that is read whole
abbrev pub most_file_bytes : ℕ
most_file_bytes = MOST_FILE_BYTES

-- files of a batch
abbrev pub most_files : ℕ
most_files = MOST_FILES

-- lines of a batch, over all files
abbrev pub most_lines : ℕ
most_lines = MOST_LINES
