use Rattle.std.proofs.Common.{◌∙◌, ap, codes, sym, option_map}
use Rattle.clap.{specs.Words.{found_of}, proofs.{CallerLemmas.{some_of_text}, WalkLemmas.{first_value-rows}}}
use Rattle.kalah_cli.proofs.arguments.request.line_given.Goals as goal

pub unwrap-requires : goal.unwrap-requires
unwrap-requires c =
    some_of_text _ c.get_str.result _ (c.get_str.ensures ∙ first_value-rows (found_of c.args.matches.now) (codes "line")) c.requires

pub returns : goal.returns
returns c =
    sym (first_value-rows (found_of c.args.matches.now) (codes "line")) ∙ sym c.get_str.ensures
    ∙ ap (option_map (λ s. s.now)) c.unwrap.ensures
