use Rattle.std.proofs.Common.{Err, List, Ok, [], ap, arith, length, length-append, refl, sym, ◌++◌, ◌<◌, ◌≡◌, ◌∙◌, ◌∷◌}
use Rattle.xh_heap.specs.declared.by_bytes.Came.TheVariants as came
use Rattle.xh_heap.specs.declared.values.Item.{Item}
use Rattle.xh_heap.specs.declared.values.Item.TheVariants as item
use Rattle.xh_heap.proofs.by_bytes.unpack.Goals as goal

-- the last of fewer than two is the only one
only : (xs ys : List Item) (i : Item) → length xs < 2 → xs ≡ ys ++ i ∷ [] → xs ≡ i ∷ []
only xs [] i few is = is
only xs (y ∷ ys) i few is = let len = ap length is in absurd (grind (arith, length-append))

pub returns-in-Ok : goal.returns-in-Ok
returns-in-Ok g c =
    let one = only c.args.message.items.items _ _ (omega (arith, c.in-Block.len_below, ap length c.as_slice.ensures.value)) c.in-Some-Block.ensures.items in
    rw (one, c.in-Some-Block.field-0-is) (Ok c.in-Ok.bytes, refl, c.in-Ok.ensures.call)

pub returns-in-Err : goal.returns-in-Err
returns-in-Err g c =
    let one = only c.args.message.items.items _ _ (omega (arith, c.in-Block.len_below, ap length c.as_slice.ensures.value)) c.in-Some-Block.ensures.items in
    let back = ap item.Block c.in-Err.ensures.returned ∙ sym c.in-Some-Block.field-0-is in
    let same = c.push.ensures.items ∙ (ap (λ i. c.pop.new.self.items ++ i ∷ []) back ∙ sym c.in-Some-Block.ensures.items) in
    rw (one, c.in-Some-Block.field-0-is) (Err c.in-Err.returned.why, ap (λ xs. came.Message (record c.args.message { items = record { items = xs } })) same, c.in-Err.ensures.call)
