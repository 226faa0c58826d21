use Rattle.kalah_cli.proofs.GameLemmas.{variations_end_with_their_value}
use Rattle.kalah_cli.proofs.commands.laws.variations_end_with_their_value.Goals as goal

pub returns : goal.returns
returns c = variations_end_with_their_value
