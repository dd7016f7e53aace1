use Rattle.std.proofs.Common.{rules, ◌≡◌, ◌∙◌, sym}
use Rattle.clap.specs.Words.{found_of}
use Rattle.xh_command_line.proofs.Numbers.{a_number, no_number, no_text}
use Rattle.xh_command_line.proofs.options.number.Goals as goal

pub returns-in_err-text : goal.returns-in_err-text
returns-in_err-text g c = no_text g.T.FromStr.from_str_gives g.T.Integer.text (found_of c.args.matches.now) c.args.name.now c.get_str.result c.from_residual.result
    c.get_str.ensures c.in_err-text.was c.from_residual.ensures

pub returns-in_err-number : goal.returns-in_err-number
returns-in_err-number g c = no_number g.T.FromStr.from_str_gives g.T.Integer.text (found_of c.args.matches.now) c.args.name.now c.get_str.result
    c.from_residual-in_err-number.result c.get_str.ensures c.in_ok-text.text c.parse.result c.in_ok-text.was c.parse.ensures.value
    (sym c.ok.ensures.value ∙ c.in_err-number.was) c.from_residual-in_err-number.ensures

pub returns : goal.returns
returns g c = a_number g.T.FromStr.from_str_gives g.T.Integer.text (found_of c.args.matches.now) c.args.name.now c.get_str.result c.then_some.result
    c.get_str.ensures c.in_ok-text.text c.parse.result c.in_ok-number.number c.in_ok-text.was c.parse.ensures.value
    (sym c.ok.ensures.value ∙ c.in_ok-number.was) c.eq-is_written_so.result (search rules) (search rules) c.then_some.ensures
