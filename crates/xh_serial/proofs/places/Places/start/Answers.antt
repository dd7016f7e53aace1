use Rattle.xh_serial.proofs.Common.{Place, Some, ap, is_ready, no_place, position, position-Some, refl, slice_index_or, slice_set, serial_started, sym, ◌*◌, ◌+◌, ◌∙◌, ◌≡◌}
use Rattle.xh_serial.proofs.Machines.{read_at}
use Rattle.xh_serial.proofs.places.Places.start.Goals.{After-index_mut}
use Rattle.xh_serial.proofs.places.Places.start.Goals as goal

found : (c : After-index_mut) → position is_ready c.self.inside.places.items ≡ Some c.in-Some.at
found c = ap (position is_ready) (sym c.as_slice.ensures.value) ∙ (sym c.first_ready.ensures ∙ c.in-Some.is)

place_is : (c : After-index_mut) → c.index_mut.result.now ≡ slice_index_or c.self.inside.places.items c.in-Some.at no_place
place_is c = read_at c.self.inside.places.items c.in-Some.at c.in-Some.at _ no_place (position-Some is_ready _ _ no_place (found c)).0 refl c.index_mut.ensures.value

pub start-generation-requires : goal.start-generation-requires
start-generation-requires c =
    let d = (goal.at.start-generation-requires c).After-index_mut in
    ap is_ready (place_is d) ∙ (position-Some is_ready _ _ no_place (found d)).1

pub returns : goal.returns
returns c =
    let d = (goal.at.returns c).After-index_mut in
    let place : c.start-generation.new.place ≡ serial_started (slice_index_or c.self.inside.places.items c.in-Some.at no_place) = c.start-generation.ensures.place ∙ ap serial_started (place_is d) in
    let number : c.number.result ≡ c.in-Some.at + 32 * c.start-generation.new.place.generation = c.number.ensures ∙ ap (λ k. c.in-Some.at + 32 * k) c.start-generation.ensures.generation in
    rw (← c.self.view_is, found d) (sym (λ i. (Some ((number ∙ ap (λ (x : Place). c.in-Some.at + 32 * x.generation) place) i), slice_set c.self.inside.places.items c.in-Some.at (place i))))
