use Rattle.xh_place.proofs.Common.{rules, ◌≡◌, ◌/◌, ap, ◌∙◌, Some, slice_get, OnErr, LotOf, put, value_at, put_same, IsLotOf, with_lots, Body, on_err_weaker}
use Rattle.xh_place.proofs.opening.halve.Goals as goal

pub with_two-requires-clause-held : goal.with_two-requires-clause-held
with_two-requires-clause-held g c =
    let l = c.requires.held.0 in let m = c.requires.held.1 in let h = c.requires.held.2 in
    let vault : slice_get (g.V.Vaults.names c.args.desk.now.vaults) (c.args.pair.0 / 256) ≡ Some l.id = ap (λ z. slice_get z (c.args.pair.0 / 256)) c.requires.at.1 ∙ h.first.2.1 in
    let held : (x y : LotOf Body) × (value_at c.args.pair.0 c.args.seat.now.lots ≡ Some x) × (value_at c.args.pair.1 c.args.seat.now.lots ≡ Some y)
    × IsLotOf c.args.seat.now.shape c.args.pair.0 x × IsLotOf c.args.seat.now.shape c.args.pair.1 y × (slice_get (g.V.Vaults.names c.args.desk.now.vaults) (c.args.pair.0 / 256) ≡ Some x.id)
    × (y.id ≡ x.id) × (x.len ≡ 0) × (y.len ≡ 0) = (l, m, h.first.0, h.second.0, h.first.2, h.second.2, vault, h.near, h.empty.0, h.empty.1) in
    search rules

pub returns-clause-refused : goal.returns-clause-refused
returns-clause-refused g c =
    let l = c.requires.held.0 in let m = c.requires.held.1 in let h = c.requires.held.2 in let lots = c.args.seat.now.lots in
    let undone : OnErr c.with_two.result ((x y : LotOf Body) → value_at c.args.pair.0 lots ≡ Some x → value_at c.args.pair.1 lots ≡ Some y
    → (c.with_two.new.seat ≡ with_lots c.args.seat.now (put c.args.pair.1 y (put c.args.pair.0 x lots)))
    × (g.V.Vaults.tallies c.with_two.new.f.0.now ≡ g.V.Vaults.tallies c.args.desk.now.vaults)
    × (c.with_two.new.f.2.now ≡ c.args.first.now) × (c.with_two.new.f.3.now ≡ c.args.second.now)) = search rules in
    on_err_weaker c.with_two.result (λ f. let e = f l m h.first.0 h.second.0 in
    let first : c.with_two.new.f.2.now ≡ c.args.first.now = e.2 in let second : c.with_two.new.f.3.now ≡ c.args.second.now = e.3 in (
      e.0 ∙ ap (with_lots c.args.seat.now) (ap (put c.args.pair.1 m) (put_same c.args.pair.0 l lots h.first.0) ∙ put_same c.args.pair.1 m lots h.second.0),
      e.1,
      search rules,
      search rules,
    )) undone
