-- What the arguments of a command line ask the program to do.
use Rattle.std.specs.{Prelude.{IfSome, ℕ, Bool, false, List, [], Option, None, Some, codes, ◌<◌, ◌≤◌, ◌≡◌, ◌≢◌, length, map, option_map, string_bytes, option_and_then, if◌then◌else◌, true, unwrap_or, ⊤, String, bytes_eq}, Option.{option_map_or}, Str.Parse.{digits_value, without_leading_plus}}
use Rattle.clap.specs.{Words.{IsAmong, IsUnsignedIn, Row, Text, all_of, fault_of, first_of, found_of, one_of, rows_of, subcommand_of}, declared.{parser.matches.ArgMatches.{ArgMatches}, error.kind.ErrorKind.{ErrorKind}}}
pub use Rattle.kalah_jobs.specs.declared.files.question.Question.{Question}
pub use Rattle.kalah_jobs.specs.declared.files.question.Question.TheVariants.{BestMove, Values, Steps}
use Rattle.kalah_rules.specs.Limits.{most_depth}
use Rattle.kalah_solve.specs.Table.Entries.{IsTableSize}
use Rattle.kalah_run.specs.Limits.{IsWorkerCount}
use Rattle.kalah_cli.specs.{Arguments.Command.{kalah_app}, declared.arguments.request.{Request.{Request, TheVariants.{Line, Files, Ask, Conflict}}, FilesRequest.{FilesRequest}}}
pub use Rattle.kalah_cli.specs.declared.arguments.request.LineCommand.{LineCommand}
pub use Rattle.kalah_cli.specs.declared.arguments.request.LineCommand.TheVariants.{Moves, Play, Show, Count}

-- the text of each argument
abbrev pub texts_of : {A : Type 0} → List (String A) → List Text
texts_of arguments = map string_bytes arguments

-- What the arguments can ask for, where a table has the given size:
-- - what a command prints of the position that a line writes
-- - answers about the positions in files, by a number of workers with tables, with progress shown or not
-- - answers about the lines of the standard input, with a table
-- - nothing, by options that exclude each other
pub data Task : Type 0 where
  about_line : LineCommand → Text → Task
  about_files : Question → ℕ → ℕ → Bool → List Text → Task
  about_input : Question → ℕ → Task
  conflict : Task

-- the subcommand that asks this of files
abbrev pub name_of_question : Question → Text
name_of_question BestMove = codes "solve"
name_of_question Values = codes "values"
name_of_question Steps = codes "steps"

-- how many workers there are, and how many entries a table has, if no argument says so
abbrev pub default_workers : ℕ
default_workers = 4

abbrev pub default_entries : ℕ
default_entries = 65536

-- ---- what arguments ask for: their matches are rows of values, each under the name of an argument

-- the rows of matches
abbrev pub rows_in : ArgMatches → List Row
rows_in matches = rows_of (found_of matches)

-- the number that a text of digits writes
abbrev pub number_written : Text → ℕ
number_written text = digits_value 10 (without_leading_plus text)

-- the number that the matches have under the name, if there is one
abbrev pub number_given : Text → List Row → Option ℕ
number_given id rows = option_map number_written (one_of id rows)

-- the numbers of workers and of entries, from the matches or by default
abbrev pub worker_count : List Row → ℕ
worker_count rows = unwrap_or (number_given (codes "workers") rows) default_workers

abbrev pub table_entries : List Row → ℕ
table_entries rows = unwrap_or (number_given (codes "table") rows) default_entries

-- whether the matches have the flag
abbrev pub is_set : Text → List Row → Bool
is_set id rows = option_map_or (λ t. bytes_eq t (codes "true")) (one_of id rows) false

-- what the matches of a subcommand with a LINE ask for of the line
abbrev pub command_asked : Text → List Row → Option LineCommand
command_asked name rows =
    if bytes_eq name (codes "moves") then Some (Moves (is_set (codes "boards") rows))
    else if bytes_eq name (codes "play") then Some (Play (record {
      table_entries = table_entries rows;
      boards = is_set (codes "boards") rows;
      values = is_set (codes "values") rows;
      first = number_given (codes "first") rows;
    }))
    else if bytes_eq name (codes "show") then Some (Show (record {
      table_entries = table_entries rows;
      plain = is_set (codes "plain") rows;
      lines = is_set (codes "lines") rows;
    }))
    else if bytes_eq name (codes "count") then option_map Count (number_given (codes "depth") rows) else None

-- the entries of the tables that the matches of a subcommand with files ask for: steps need none, and the least is one
abbrev pub table_entries_asked : Question → List Row → ℕ
table_entries_asked Steps rows = 1
table_entries_asked question rows = table_entries rows

-- the task of these matches
abbrev pub task_of_files : Question → List Row → Option Task
task_of_files question rows = option_map
    (about_files question (worker_count rows) (table_entries_asked question rows) (is_set (codes "progress") rows))
    (all_of (codes "file") rows)

-- the task of `ask` with `--values` and `--steps` set or not, and with this number of entries, if one is given: steps exclude the others
abbrev pub task_of_flags : Bool → Bool → Option ℕ → Task
task_of_flags false false given = about_input BestMove (unwrap_or given default_entries)
task_of_flags true false given = about_input Values (unwrap_or given default_entries)
task_of_flags false true None = about_input Steps 1
task_of_flags false true (Some given) = conflict
task_of_flags true true given = conflict

-- the task of the matches of `ask`
abbrev pub task_of_ask : List Row → Task
task_of_ask rows = task_of_flags (is_set (codes "values") rows) (is_set (codes "steps") rows) (number_given (codes "table") rows)

-- the task of the matches of the subcommand of this name
abbrev pub task_of_matches : Text × List Row → Option Task
task_of_matches (name, rows) =
    if bytes_eq name (codes "solve") then task_of_files BestMove rows
    else if bytes_eq name (codes "values") then task_of_files Values rows
    else if bytes_eq name (codes "steps") then task_of_files Steps rows
    else if bytes_eq name (codes "ask") then Some (task_of_ask rows)
    else option_and_then (λ command. option_map (about_line command) (first_of (codes "line") rows)) (command_asked name rows)

-- the command line accepts the arguments, without a fault, and it finds the subcommand and the matches of this task
abbrev pub IsAcceptedAs : List Text → Task → Type 0
IsAcceptedAs arguments task =
    (fault_of kalah_app arguments ≡ []) × (option_and_then task_of_matches (subcommand_of kalah_app arguments) ≡ Some task)

-- the command line refuses the arguments
abbrev pub MakesNoRequest : List Text → Type 0
MakesNoRequest arguments = fault_of kalah_app arguments ≢ []

-- the arguments don't ask for this: help, or the version
abbrev pub DoesNotAskFor : List Text → ErrorKind → Type 0
DoesNotAskFor arguments kind = IsAmong kind (fault_of kalah_app arguments) → ⊥

-- the task of a request: it is parsed from arguments that ask for the same
abbrev pub task_of : Request → Task
task_of (Line line command) = about_line command line.now
task_of (Files r) = about_files r.question r.workers r.table_entries r.progress (map (λ f. f.now) r.names.items)
task_of (Ask r) = about_input r.question r.table_entries
task_of Conflict = conflict

-- ---- what is in its range

-- workers and table are in their ranges, and there is a file
abbrev pub AreFilesInRange : FilesRequest → Type 0
AreFilesInRange r = IsWorkerCount r.workers × IsTableSize r.table_entries × (0 < length r.names.items)

-- numbers are in their ranges
abbrev pub IsCommandInRange : LineCommand → Type 0
IsCommandInRange (Moves boards) = ⊤
IsCommandInRange (Play command) = IsTableSize command.table_entries
IsCommandInRange (Show command) = IsTableSize command.table_entries
IsCommandInRange (Count depth) = depth ≤ most_depth

abbrev pub IsInRange : Request → Type 0
IsInRange (Line line command) = IsCommandInRange command
IsInRange (Files r) = AreFilesInRange r
IsInRange (Ask r) = IsTableSize r.table_entries
IsInRange Conflict = ⊤

-- ---- the matches of arguments that the command line accepts

-- the matches of the subcommand of the name, for some arguments without a fault
abbrev pub AreMatches : Text → List Row → Type 0
AreMatches name rows =
    (arguments : List Text) × (fault_of kalah_app arguments ≡ []) × (subcommand_of kalah_app arguments ≡ Some (name, rows))

-- what the matches have under the name, if anything, is a number from `least` to `most`
abbrev pub MayHaveNumber : Text → ℕ → ℕ → List Row → Type 0
MayHaveNumber id least most rows = IfSome (one_of id rows) (IsUnsignedIn least most)
