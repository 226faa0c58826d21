-- The command line, made of its table.
use Rattle.std.proofs.{Common.{◌≡◌, ℕ, ◌+◌, ◌<◌, ◌∙◌, List, [], ◌∷◌, true, ap, get_or, length, refl, sym, take, fold}, lemmas.List.Sums.{fold_more}}
use Rattle.clap.specs.{Words.{AddsArg, AddsSubcommand, App, app_of, new_app, with_rule, with_subcommand}, declared.builder.{arg.Arg.{Arg}, command.Command.{Command}}}
use Rattle.clap.proofs.SimpleLemmas.{plain_fields}
use Rattle.kalah_cli.specs.{IsReadBy, argument_rule, subcommand_app, with_argument, with_listed, declared.arguments.subcommands.{Argument.{Argument}, Subcommand.{Subcommand}}}

pub argument_added : (start : App) (arguments : List Argument) {i : ℕ} (argument : Argument) {arg : Arg} {old new : Command}
    → i < length arguments → IsReadBy (argument_rule (get_or arguments i argument)) arg
    → app_of old ≡ fold with_argument start (take i arguments) → AddsArg old arg new
    → app_of new ≡ fold with_argument start (take (i + 1) arguments)
argument_added start arguments {i} argument {old = old} within read so_far adds =
    adds.shape read.1 ∙ ap (with_rule (app_of old)) read.0
    ∙ ap (λ app. with_argument app (get_or arguments i argument)) so_far
    ∙ sym (fold_more with_argument start arguments i argument within)

-- a command stays plain with more arguments, as none is global
stays_plain : (app : App) (arguments : List Argument) → app.top.is_plain ≡ true → (fold with_argument app arguments).top.is_plain ≡ true
stays_plain app [] plain = plain
stays_plain app (a ∷ rest) plain = stays_plain (with_argument app a) rest plain

pub subcommand_added : (start : App) (subs : List Subcommand) {i : ℕ} (s : Subcommand) {made old new : Command} → i < length subs
    → app_of made ≡ subcommand_app (get_or subs i s) → app_of old ≡ fold with_listed start (take i subs) → AddsSubcommand old made new
    → app_of new ≡ fold with_listed start (take (i + 1) subs)
subcommand_added start subs {i} s {made} within made_is so_far adds =
    let sub = get_or subs i s in
    let plain = ap (λ a. a.top.is_plain) made_is ∙ stays_plain (new_app sub.name.now) sub.arguments.now refl in
    adds.shape (plain_fields made plain).globals
    ∙ (λ j. with_subcommand (so_far j) (made_is j).top)
    ∙ sym (fold_more with_listed start subs i s within)
