use Rattle.xh_command_line.proofs.Commands.{has_parsed}
use Rattle.xh_command_line.proofs.options.parse.Goals as goal

pub returns : goal.returns
returns c = has_parsed _ _ _ _ c.in_ok-command.ensures c.try_get_matches_from.ensures.matches c.try_get_matches_from.ensures.kinds
