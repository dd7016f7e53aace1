use Rattle.xh_place.proofs.Common.{arith, ℕ, ◌≡◌, ◌/◌, ◌<◌, [], ◌∷◌, ◌++◌, ap, ◌∙◌, refl, sym, subst, suc, drop, get_or, length, put, value_at, front_at, put_at, IsSeen, accepted_on, becomes_same}
use Rattle.xh_place.proofs.Common.{becomes_twice}
use Rattle.xh_place.proofs.Common.{Among, Becomes, among_get, lot_at, content_of, direction_toward, ends_as, item_of, items_of, keys, less, own_becomes, seen_wide, shown, starts_same, vacated}
use Rattle.xh_place.proofs.Common.{without, Distinct}
use Rattle.xh_place.proofs.Swept.{gone_first, gone_left, swept_one}
use Rattle.xh_place.proofs.place.Place.reclaim.Goals as goal

pub drain_end-requires-clause-held : goal.drain_end-requires-clause-held
drain_end-requires-clause-held g c =
    let old = c.args.self.now in let inside : c.args.from < length c.blocks-2.result.now = subst (λ rs. c.args.from < length rs) (sym c.blocks-2.ensures.list) c.requires.some in
    let r : ℕ = get_or c.blocks-2.result.now c.args.from 0 in
    lot_at r old.seat.lots (c.blocks-2.ensures.blocks.lists.held r (subst (λ rs. Among rs r) c.blocks-2.ensures.list (among_get c.args.from c.blocks-2.result.now 0 inside)))

pub give_up-requires-clause-listed : goal.give_up-requires-clause-listed
give_up-requires-clause-listed g c =
    let t = c.drain_end.ensures.cleared in let old = c.args.self.now in let r : ℕ = get_or c.blocks-2.result.now c.args.from 0 in
    (t.1, ap (λ p. value_at r p.seat.lots) t.3.0.1.0 ∙ front_at r t.1 (put r t.1 old.seat.lots) t.2 (put_at r t.1 t.0 old.seat.lots t.3.0.0))

pub returns-clause-back : goal.returns-clause-back
returns-clause-back g c =
    let t = c.drain_end.ensures.cleared in let old = c.args.self.now in let r : ℕ = get_or c.blocks-2.result.now c.args.from 0 in
    let at = ap (λ p. value_at r p.seat.lots) t.3.0.1.0 ∙ front_at r t.1 (put r t.1 old.seat.lots) t.2 (put_at r t.1 t.0 old.seat.lots t.3.0.0) in
    let b = c.give_up.ensures.block t.1 at in let some = b.0.full.0 in
    (c.give_up.ensures.back.1, (r / 256 ∷ [], (c.give_up.new.desk.vaults, c.give_up.ensures.asked, refl), omega (arith, b.1, some)))

pub returns-clause-swept : goal.returns-clause-swept
returns-clause-swept g c =
    let old = c.args.self.now in let mid = c.drain_end.new.self in let new = c.give_up.new.self in let r : ℕ = get_or c.blocks-2.result.now c.args.from 0 in let t = c.drain_end.ensures.cleared in
    let l = t.0 in let m = t.1 in let came = t.2 in let clear = t.3 in let moved = clear.0.1 in let gone = c.give_up.ensures.list in let p : ℕ = old.seat.process in
    let d = direction_toward (content_of l.body) in let are = c.blocks-2.ensures.blocks in
    let at = ap (λ q. value_at r q.seat.lots) moved.0 ∙ front_at r m (put r m old.seat.lots) came (put_at r m l old.seat.lots clear.0.0) in
    let whose = ap (λ q. q.seat.process) moved.0 in
    let then = subst (λ n. Becomes (without r mid.seat.lots) (less r mid.list) (vacated n r) mid new) whose gone in
    let after = (becomes_same _ _ _ mid new gone).3 in
    let ends = ends_as (IsSeen old.seat mid.seat) (IsSeen old.seat new.seat) (seen_wide old.seat mid.seat old.seat new.seat refl refl (starts_same refl) after) (content_of l.body) (items_of came)
    clear.2 in
    let once = subst Distinct (ap (λ q. q.list) moved.0) c.give_up.ensures.once in
    let inside : c.args.from < length old.list = c.requires.some in
    let here : get_or old.list c.args.from 0 ≡ r = ap (λ rs. get_or rs c.args.from 0) (sym c.blocks-2.ensures.list) in
    let left = ap (λ q. shown q.seat.lots q.list) gone.0 ∙ ap (λ q. shown (without r q.seat.lots) (less r q.list)) moved.0
    ∙ gone_left old.seat.lots came old.list r c.args.from l m are.lists once inside here clear.0.0 in (
      accepted_on p d (items_of came) ++ vacated p r,
      swept_one (IsSeen old.seat new.seat) p c.args.from r c.give_up.result (item_of l) (shown old.seat.lots (drop (suc c.args.from) old.list)) (items_of came) (shown old.seat.lots old.list)
          (shown new.seat.lots new.list)
          (gone_first old.seat.lots came old.list r c.args.from l m are.lists once inside here clear.0.0) ends ((c.give_up.ensures.block m at).1 ∙ clear.1) left,
      own_becomes _ _ _ old new (becomes_twice (accepted_on p d (items_of came)) (vacated p r) _ _ _ _ old mid new moved then),
    )
