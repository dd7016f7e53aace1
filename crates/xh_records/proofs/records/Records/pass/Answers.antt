use Rattle.xh_records.proofs.records.Records.pass.Goals as goal

pub returns : goal.returns
returns g c = record { passed = (c.requires.held.0, c.requires.held.1, c.give.ensures.given c.requires.held.0 c.requires.held.1); len = c.give.ensures.len }
