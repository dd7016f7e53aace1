use Rattle.xh_place.proofs.Common.{take_more, map-append, arith, ◌≡◌, ℕ, ◌<◌, List, [], ◌∷◌, ◌++◌, length, map, get_or, sym, ap, ap₂, ◌∙◌, subst, refl, AreGot, record_got, IsSeen, items_of}
use Rattle.xh_place.proofs.Common.{Body, Got, Item, LotOf, all_got_as, becomes_same, gains_none, gains_twice, got_both, is_over, seen_wide, starts_same, stays_itself, item_of}
use Rattle.xh_place.proofs.place.Place.take_all.Goals as goal

pub loop-k-init : goal.loop-k-init
loop-k-init c = let old = c.args.self.now in (
  (
    [],
    gains_none c.args.direction old old (stays_itself old),
    subst (λ l. AreGot (IsSeen old.seat old.seat) c.args.direction [] l) (sym c.requires.empty) refl,
    omega (arith, ap length c.requires.empty),
  ),
  ap (map record_got) c.requires.empty,
)

pub take_one-requires-clause-own : goal.take_one-requires-clause-own
take_one-requires-clause-own c =
    let t = c.loop-k.invariant.0.1.0 in ((ap (λ p. p.seat.table) t ∙ c.requires.own.0.0, ap (λ p. p.seat.shape) t ∙ c.requires.own.0.1), c.requires.own.1)

pub take_one-requires-clause-alive : goal.take_one-requires-clause-alive
take_one-requires-clause-alive c = λ e. c.requires.alive (sym (ap (λ p. is_over p.state) c.loop-k.invariant.0.1.0) ∙ e)

pub loop-k-preserved : goal.loop-k-preserved
loop-k-preserved c =
    let t = c.loop-k.invariant.0 in let o = c.take_one.ensures.got in let d : ℕ = c.args.direction in
    let old = c.args.self.now in let mid = c.loop-k.self in let new = c.take_one.new.self in
    let given = c.args.message.now.blocks.items in let k : ℕ = c.loop-k.k in
    let inside : k < length given = omega (arith, c.loop-k-test.true) in
    let named : record_got c.take_one.result ≡ get_or given k 0 = c.take_one.ensures.record ∙ ap (λ l. get_or l k 0) c.deref.ensures.0 in
    let before = becomes_same _ _ _ old mid t.1 in let after = becomes_same _ _ _ mid new o.1 in
    let had = all_got_as (IsSeen old.seat mid.seat) (IsSeen old.seat new.seat) (seen_wide old.seat mid.seat old.seat new.seat refl refl (starts_same refl) after.3) d (items_of t.0)
    c.loop-k.got.items t.2 in
    let one = all_got_as (IsSeen mid.seat new.seat) (IsSeen old.seat new.seat) (seen_wide mid.seat new.seat old.seat new.seat before.1 before.2 before.3 (starts_same refl)) d
    (items_of o.0) (c.take_one.result ∷ []) o.2 in (
      (
        t.0 ++ o.0,
        gains_twice d t.0 o.0 old mid new t.1 o.1,
        subst (λ (z : List (ℕ × Item) × List Got). AreGot (IsSeen old.seat new.seat) d z.0 z.1)
            (λ i. (sym (map-append (λ (x : ℕ × LotOf Body). (x.0, item_of x.1)) t.0 o.0) i, sym c.push.ensures.items i))
            (got_both (IsSeen old.seat new.seat) d (items_of t.0) (items_of o.0) c.loop-k.got.items (c.take_one.result ∷ []) had one),
        omega (arith, c.push.ensures.len, t.3),
      ),
      ap (map record_got) c.push.ensures.items ∙ map-append record_got c.loop-k.got.items (c.take_one.result ∷ [])
          ∙ ap₂ (λ (xs ys : List ℕ). xs ++ ys) c.loop-k.invariant.1 (ap (λ n. n ∷ []) named) ∙ sym (take_more given k 0 inside),
    )
