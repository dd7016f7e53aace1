use Rattle.xh_runner.proofs.Common.{ArePlayed, List, ap, arith, get_or, length, map, remove, subst, sym, ◌<◌, ◌∙◌, ◌∷◌, ◌≡◌, []}
use Rattle.xh_runner.specs.Plays.{PlayAll}
use Rattle.xh_runner.proofs.run.run_on.Goals as goal

first_of : {X : Type 0} (xs rest : List X) (x : X) → 0 < length xs → x ≡ get_or xs 0 x → rest ≡ remove xs 0 → x ∷ rest ≡ xs
first_of [] rest x some first all = absurd (omega (arith, some))
first_of (y ∷ xs) rest x some first all = ap (λ z. z ∷ rest) first ∙ ap (λ l. y ∷ l) all

pub returns-clause-played : goal.returns-clause-played
returns-clause-played g c =
    let state = g.M.Machine.state in
    let did = g.M.Machine.did in
    let s = c.args.script.now in
    let answers = c.in_ok-machines.answers.items in
    let olds = first_of _ _ _ (omega (arith, c.args.machines.ok, c.requires)) c.remove.ensures.value c.remove.ensures.items in
    let first = state c.remove.result in
    let rest = map state c.remove.new.self.items in
    let last = state c.play_all-played.new.head.machine in
    let news = map state c.in_ok-machines.machines.items in
    let played = subst (λ ls. PlayAll did s.contracts.items ls answers first rest last news) c.as_slice-lines.ensures.value
    (subst (λ cs. PlayAll did cs c.as_slice-lines.result.now answers first rest last news) c.deref.ensures.value c.in_ok-machines.ensures.played) in
    subst (λ ms. ArePlayed did s.contracts.items s.lines.items answers (map state ms) (map state c.insert.new.self.items)) olds
    (subst (λ ms. ArePlayed did s.contracts.items s.lines.items answers (first ∷ rest) (map state ms)) (sym c.in_ok-insert.ensures.items) played)
