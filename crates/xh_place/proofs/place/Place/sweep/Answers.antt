use Rattle.xh_place.proofs.Common.{◌≡◌, arith, ℕ, ◌+◌, ◌<◌, ◌≤◌, ◌++◌, [], length, refl, sym, ap, ◌∙◌, subst, IsSwept, IsSeen, shown, becomes_twice, did_starts, seen_wide, shown_long, stays_itself}
use Rattle.xh_place.proofs.Common.{Becomes, same_again, starts_same, still_at, swept_as}
use Rattle.std.proofs.lemmas.Grind.{common_steps}
use Rattle.xh_place.proofs.Swept.{back_more, started, still, swept_full, swept_more, swept_none, swept_so}
use Rattle.xh_place.specs.Vaults.{BringsBack}
use Rattle.xh_place.proofs.place.Place.sweep.Goals as goal

pub loop-used-init : goal.loop-used-init
loop-used-init g c =
    let old = c.args.self.now in (
      omega arith,
      omega arith,
      ([], swept_none (IsSeen old.seat old.seat) old.seat.process c.args.from (shown old.seat.lots old.list), stays_itself old),
      (λ h. refl),
      (refl, refl, refl),
      still g.V.Vaults.changes g.V.Vaults.tallies c.args.desk.now.vaults c.args.desk.now.vaults refl,
    )

pub reclaim-requires-clause-at : goal.reclaim-requires-clause-at
reclaim-requires-clause-at g c = let i = c.loop-used.invariant in let own = i.2.2.0 in
    still_at g.V.Vaults.names g.V.Vaults.extent c.args.desk.now c.loop-used.desk c.loop-used.desk c.args.self.now.seat c.loop-used.self.seat i.4
    (ap (λ p. p.seat.table) own) (ap (λ p. p.seat.shape) own) c.requires.at

pub loop-used-preserved : goal.loop-used-preserved
loop-used-preserved g c =
    let i = c.loop-used.invariant in let old = c.args.self.now in let mid = c.loop-used.self in let new = c.reclaim.new.self in let used : ℕ = c.loop-used.used in let from : ℕ = c.args.from in
    let bytes : ℕ = c.from-bytes.result in let t = i.2 in let s = c.reclaim.ensures.swept in let p : ℕ = old.seat.process in
    let some : from < length mid.list = omega arith in
    let inside : from < length old.list = started from old.list mid.list some i.3 in
    let whose : mid.seat.process ≡ p = ap (λ q. q.seat.process) t.2.0 in
    let before = did_starts p t.0 old.seat.front mid.seat.front t.2.1 in let after = did_starts mid.seat.process s.0 mid.seat.front new.seat.front s.2.1 in
    let one = swept_as (IsSeen old.seat mid.seat) (IsSeen old.seat new.seat) (seen_wide old.seat mid.seat old.seat new.seat refl refl (starts_same refl) after)
    p from used (shown old.seat.lots old.list) (shown mid.seat.lots mid.list) c.loop-used.bytes t.0 t.1 in
    let two = swept_as (IsSeen mid.seat new.seat) (IsSeen old.seat new.seat) (seen_wide mid.seat new.seat old.seat new.seat (ap (λ q. q.seat.shape) t.2.0) whose before (starts_same refl))
    p from 1 (shown mid.seat.lots mid.list) (shown new.seat.lots new.list) bytes s.0
    (subst (λ (z : ℕ × ℕ). IsSwept (IsSeen mid.seat new.seat) z.0 from 1 (shown mid.seat.lots mid.list) (shown new.seat.lots new.list) z.1 s.0) (λ j. (whose j, sym c.from-bytes.ensures j)) s.1) in
    let by : IsSwept (IsSeen old.seat new.seat) p from (used + 1) (shown old.seat.lots old.list) (shown new.seat.lots new.list) (c.loop-used.bytes + bytes) (t.0 ++ s.0) =
    swept_more (IsSeen old.seat new.seat) p from used 1 c.loop-used.bytes bytes (shown old.seat.lots old.list) (shown mid.seat.lots mid.list) (shown new.seat.lots new.list) t.0 s.0
    (omega (arith, inside, shown_long old.seat.lots old.list)) one (omega (arith, some, shown_long mid.seat.lots mid.list)) two in (
      omega arith,
      omega (arith, i.1),
      (t.0 ++ s.0, by, becomes_twice t.0 s.0 mid.seat.lots new.seat.lots mid.list new.list old mid new t.2 s.2),
      (λ h. absurd (omega (arith, inside, h))),
      same_again g.V.Vaults.names g.V.Vaults.extent c.args.desk.now c.loop-used.desk c.reclaim.new.desk i.4 c.reclaim.ensures.same,
      back_more g.V.Vaults.changes g.V.Vaults.tallies c.loop-used.bytes bytes c.args.desk.now.vaults c.loop-used.desk.vaults c.reclaim.new.desk.vaults i.5
          (subst (λ n. BringsBack g.V.Vaults.changes g.V.Vaults.tallies n c.loop-used.desk.vaults c.reclaim.new.desk.vaults) (sym c.from-bytes.ensures) c.reclaim.ensures.back),
    )

pub returns-clause-swept : goal.returns-clause-swept
returns-clause-swept g c =
    let t = c.loop-used.invariant.2 in let old = c.args.self.now in let new = c.loop-used.self in let used : ℕ = c.loop-used.used in
    let most : used ≤ c.args.budget = c.loop-used.invariant.0 in
    let full : c.args.from < length new.list → used ≡ c.args.budget = grind (arith, common_steps) in
    let is = swept_full (IsSeen old.seat new.seat) old.seat.process c.args.from used c.args.budget (shown old.seat.lots old.list) (shown new.seat.lots new.list) c.loop-used.bytes t.0 most
    (λ h. full (subst (λ n. c.args.from < n) (shown_long new.seat.lots new.list) h)) t.1 in
    (t.0, is, t.2, swept_so (IsSeen old.seat new.seat) old.seat.process c.args.from c.args.budget c.loop-used.bytes t.0 (shown old.seat.lots old.list) (shown new.seat.lots new.list) is)
