use Rattle.xh_records.proofs.Cuts.{joins_both}
use Rattle.xh_records.proofs.token.join.Goals as goal

pub join_seat-requires : goal.join_seat-requires
join_seat-requires g c =
    let p = c.requires.place in
    (c.requires.own.0, c.requires.own.1, c.requires.empty, c.requires.own.2, joins_both g.B.Fits.is_fit c.args.board.now.key _ _ p.0 _ _ p.1)
