use Rattle.xh_records.proofs.Common.{◌≡◌, ap, ◌∙◌, [], ◌∷◌, ◌++◌, PLACES, place_of, front_in}
use Rattle.xh_records.proofs.Keeps.{compares}
use Rattle.xh_records.proofs.token.compare_note.Given.{Over}
use Rattle.xh_records.proofs.token.compare_note.Goals.{After-join}
use Rattle.xh_records.proofs.token.compare_note.Goals as goal

-- the token's front, and that of the note
two : (g : Over) (c : After-join g) → c.join.new.token.me.0.fronts ≡ (place_of c.requires.process.0, front_in c.args.token.now.me.0) ∷ (PLACES, front_in c.requires.note.0) ∷ []
two g c = ap (λ m. m.0.fronts) c.join.ensures.token.2 ∙ (λ i. c.requires.process.1.1 i ++ (c.requires.note.1 i).0.fronts)

pub load-requires : goal.load-requires
load-requires g c =
    let own = c.requires.own in
    (c.join.ensures.token.0 ∙ own.0, own.2, compares g.B.Fits.is_fit c.args.board.now.key _ _ _ _ _ _ own.3 (two g (goal.at.load-requires g c).After-join))
