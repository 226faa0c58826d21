-- The command line of the program, as data that a parse reads.
use Rattle.std.specs.Prelude.{◌≡◌, ℕ, false, true, List, [], ◌∷◌, Some, codes, fold}
use Rattle.clap.specs.{Words.{App, Rule, Text, new_app, new_rule, rule_of, with_rule, with_subcommand}, Simple.{on_top}, declared.builder.{action.ArgAction.TheVariants.{Append, Set, SetTrue}, arg.Arg.{Arg}, value_parser.ValueParser.TheVariants.{Unsigned}}}
use Rattle.kalah_cli.specs.declared.arguments.subcommands.{Argument.{Argument}, ArgumentKind.{ArgumentKind, TheVariants.{Flag, NumberOption, PositionalNumber, PositionalText}}, Subcommand.{Subcommand}}
use Rattle.kalah_rules.specs.Limits.{most_depth, most_houses}
use Rattle.kalah_solve.specs.Table.Entries.{most_entries}
use Rattle.kalah_run.specs.Limits.{most_workers}

-- the argument is read by this rule, and no subcommand inherits it
abbrev pub IsReadBy : Rule → Arg → Type 0
IsReadBy rule arg = (rule_of arg ≡ rule) × (arg.global ≡ false)

-- an argument with one value
abbrev pub value_rule : Text → Rule
value_rule name = record (new_rule name) { value_names = 1 }

-- `--NAME`, a flag
abbrev pub flag_rule : Text → Rule
flag_rule name = record (new_rule name) { long = Some name; action = Some SetTrue }

-- `--NAME N`: a number from 1 to the most, or nothing
abbrev pub number_rule : Text → ℕ → Rule
number_rule name most = record (value_rule name) { parser = Some (Unsigned 1 most); long = Some name }

-- a value that is required
abbrev pub required_rule : Text → Rule
required_rule name = record (value_rule name) { required = true }

-- `--workers N`: 1 to the most workers
abbrev pub workers_rule : Rule
workers_rule = number_rule (codes "workers") most_workers

-- `--table N`: 1 to the most entries
abbrev pub table_rule : Rule
table_rule = number_rule (codes "table") most_entries

-- FILE..: at least one
abbrev pub file_rule : Rule
file_rule = record (required_rule (codes "file")) { action = Some Append }

-- LINE
abbrev pub line_rule : Rule
line_rule = record (required_rule (codes "line")) { action = Some Set }

-- DEPTH: a number up to the most
abbrev pub depth_rule : Rule
depth_rule = record (required_rule (codes "depth")) { parser = Some (Unsigned 0 most_depth) }

-- `[--workers N] [--table N] [--progress] FILE..`
abbrev pub batch_rules : List Rule
batch_rules = workers_rule ∷ table_rule ∷ flag_rule (codes "progress") ∷ file_rule ∷ []

-- a subcommand with these arguments, in order
abbrev pub app_with : Text → List Rule → App
app_with name rules = fold with_rule (new_app name) rules

-- the program with no subcommand yet
abbrev pub program_app : App
program_app = on_top (λ s. record s { has_version = true; subcommand_required = true; disable_help_subcommand = true })
    (new_app (codes "kalah"))

-- the program, which is always given one of its subcommands
abbrev pub kalah_app : App
kalah_app = fold (λ app sub. with_subcommand app sub.top) program_app (app_with (codes "solve") batch_rules
    ∷ app_with (codes "values") batch_rules
    ∷ app_with (codes "show") (flag_rule (codes "plain") ∷ flag_rule (codes "lines") ∷ table_rule ∷ line_rule ∷ [])
    ∷ app_with (codes "play") (table_rule ∷ flag_rule (codes "boards") ∷ flag_rule (codes "values")
    ∷ number_rule (codes "first") most_houses ∷ line_rule ∷ [])
    ∷ app_with (codes "moves") (flag_rule (codes "boards") ∷ line_rule ∷ [])
    ∷ app_with (codes "ask") (flag_rule (codes "values") ∷ flag_rule (codes "steps") ∷ table_rule ∷ [])
    ∷ app_with (codes "steps") (workers_rule ∷ flag_rule (codes "progress") ∷ file_rule ∷ [])
    ∷ app_with (codes "count") (depth_rule ∷ line_rule ∷ [])
    ∷ [])

-- ---- what the table of subcommands says

-- the rule by which an argument of this name and kind is read
abbrev pub kind_rule : Text → ArgumentKind → Rule
kind_rule name Flag = flag_rule name
kind_rule name (NumberOption value_name most long_help) = number_rule name most
kind_rule name (PositionalNumber value_name most) = record (required_rule name) { parser = Some (Unsigned 0 most) }
kind_rule name (PositionalText value_name action) = record (required_rule name) { action = Some action }

-- the rule of an argument
abbrev pub argument_rule : Argument → Rule
argument_rule a = kind_rule a.name.now a.kind

-- a subcommand with one argument more, and with all its arguments, in order
abbrev pub with_argument : App → Argument → App
with_argument app a = with_rule app (argument_rule a)

abbrev pub subcommand_app : Subcommand → App
subcommand_app s = fold with_argument (new_app s.name.now) s.arguments.now

-- the program with one subcommand more
abbrev pub with_listed : App → Subcommand → App
with_listed app s = with_subcommand app (subcommand_app s).top
