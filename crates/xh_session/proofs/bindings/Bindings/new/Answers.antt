use Rattle.std.specs.List.{each_same}
use Rattle.xh_session.specs.Bindings.{no_bindings}
use Rattle.xh_session.proofs.bindings.Bindings.new.Goals as goal

pub returns : goal.returns
unfolding no_bindings
returns c =
    let rows = c.in_ok-vec.ensures.items_if_clones_equal (λ y h. each_same _ y h.whole) in
    λ i. record { processes = c.new.ensures i; blocks = record { first = 0; rows = rows i } }
