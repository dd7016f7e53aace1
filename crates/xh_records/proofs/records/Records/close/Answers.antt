use Rattle.xh_records.proofs.Common.{arith, nat_tests, rules, ◌≡◌, ℕ, ◌*◌, ◌<◌, length, sym, ap, ◌∙◌, subst, Some, slice_get, vec_len, slots_items, slots_len, slots_counts, Held, Ends}
use Rattle.xh_records.proofs.Elements.{elem_slice}
use Rattle.xh_records.proofs.Ended.{some_lot, ends}
use Rattle.xh_records.proofs.records.Records.close.Given.{Over}
use Rattle.xh_records.proofs.records.Records.close.Goals.{After-close_with}
use Rattle.xh_records.proofs.records.Records.close.Goals as goal

pub join_all-token-requires-clause-own : goal.join_all-token-requires-clause-own
join_all-token-requires-clause-own g c = λ k x at. (c.requires.own k x (elem_slice c.args.seats.items k x at)).0 ∙ sym (ap (λ r. r.table) c.self.view_is)

-- the sizes of what is taken apart
module _ (g : Over) (c : After-close_with g) where
  count : slots_len c.close_with.result.slots ≡ length (slots_items c.close_with.result.slots)
  count = (slots_counts c.close_with.result.slots).0

  long : length c.join_all-token.new.held.items ≡ length (slots_items c.close_with.result.slots)
  long = grind (arith, nat_tests, count)

  shape_is : c.self.inside.table.shared.key ≡ c.args.self.shape
  shape_is = ap (λ r. r.shape) c.self.view_is

  own : (j : ℕ) (x : Held g.row.B.Denot) → slice_get c.args.seats.items j ≡ Some x → x.shape ≡ c.self.inside.table.shared.key
  own j x at = (c.requires.own j x at).1 ∙ sym shape_is

  all : length c.args.seats.items ≡ c.self.inside.table.shared.key.places
  all = let size : vec_len c.args.seats ≡ length c.args.seats.items = search rules in sym size ∙ c.requires.all ∙ ap (λ z. z.places) (sym shape_is)

  sized : length (slots_items c.close_with.result.slots) ≡ length c.self.inside.table.shared.key.names * c.self.inside.table.shared.key.records
  sized = let a : slots_len c.close_with.result.slots ≡ c.self.inside.table.shared.table_id.slots = search rules in sym count ∙ a ∙ c.self.invariant.slots

pub unload-requires-clause-some_lot : goal.unload-requires-clause-some_lot
unload-requires-clause-some_lot g c =
    let s = (goal.at.unload-requires-clause-some_lot g c).After-close_with in
    λ k h. some_lot g.B.Fits.is_fit c.self.inside.table.shared.key c.join_all-token.result.id c.join_all-token.result.me.0 (slots_items c.close_with.result.words)
    (slots_items c.close_with.result.slots) c.args.seats.items c.join_all-token.new.held.items
    c.close_with.ensures.values.2 c.join_all-token.ensures.gathered (long g s) c.self.invariant.small (own g s) (all g s) (sized g s) k (subst (λ n. k < n) (count g s) h)

pub returns : goal.returns
returns g c =
    let s = (goal.at.returns g c).After-close_with in let key = c.self.inside.table.shared.key in
    let done = ends g.B.Fits.is_fit key c.join_all-token.result.id c.join_all-token.result.me.0 (slots_items c.close_with.result.words)
    (slots_items c.close_with.result.slots) c.args.seats.items c.join_all-token.new.held.items
    c.close_with.ensures.values.2 c.join_all-token.ensures.gathered (long g s) c.self.invariant.small (own g s) (all g s) (sized g s) c.unload.result.1.items
    (c.unload.ensures.long ∙ count g s) c.unload.ensures.lots in
    subst (λ z. Ends g.B.Fits.is_fit z c.args.seats.items c.unload.result.0.items c.unload.result.1.items) (shape_is g s)
    (subst (λ w. Ends g.B.Fits.is_fit key c.args.seats.items w c.unload.result.1.items) (sym c.unload.ensures.words) done)
