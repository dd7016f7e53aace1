use Rattle.std.specs.Array.{FillsFrom}
use Rattle.std.proofs.Common.{append_assoc}
use Rattle.std.proofs.lemmas.Grind.{common_steps}
use Rattle.xh_calls.specs.Vaults.{IsSeenOf}
use Rattle.xh_history.specs.Histories.{no_table}
use Rattle.xh_kernel.proofs.Common.{AccountOf, Entry, FrontOf, HasSeen, LookOf, VaultOf, [], ap, append-nil, arith, at, refl, rules, subst, sym, there, ℕ, ◌∙◌, ◌∷◌}
use Rattle.xh_kernel.specs.Accounts.{look_of}
use Rattle.xh_kernel.specs.Looks.{TellsPlace}
use Rattle.xh_kernel.proofs.kernel.Kernel.overview.Goals as goal

pub line-requires-clause-there : goal.line-requires-clause-there
line-requires-clause-there g c = (_, there g.N.Names.parts.records.shape.names c.loop-arena.arena no_table (search rules))

pub loop-arena-preserved : goal.loop-arena-preserved
loop-arena-preserved g c =
    let was = c.loop-arena.invariant in (
      λ rest end h. rw (c.push.ensures.items, append_assoc) (was.0 (_ ∷ rest) end (_, c.line.ensures, h)),
      search rules,
      subst (λ (f : FrontOf VaultOf). IsSeenOf g.N.Names.parts f) (sym c.line.ensures.2.1.seen) was.2,
    )

pub loop-place-preserved : goal.loop-place-preserved
loop-place-preserved g c =
    let was = c.loop-place.invariant in let saw = c.look_by.ensures in
    let own = subst (λ (n : ℕ). HasSeen n (at c.loop-place.front.fronts c.loop-place.place) (at c.look_by.new.front.fronts c.loop-place.place))
    was.2 saw.own in
    let table = g.N.Names.parts.histories in let front = c.look_by.new.front in
    let to : LookOf Entry = record { table = table; fronts = front.fronts; looks = front.looks } in (
      λ rest end h. rw (c.push-in-loop-place.ensures.items, append_assoc) (was.0 (_ ∷ rest) end
          (to, ((saw.seen.0, λ i. record { table = table; fronts = saw.seen.1 i; looks = (saw.same i).looks }, first_of (search rules, grind (arith, common_steps))), own), h)),
      search rules,
      ap (λ (f : FrontOf Entry). f.number) saw.same ∙ was.2,
      ap (λ (f : FrontOf Entry). f.table) saw.same ∙ was.3,
    )

pub returns : goal.returns
returns g c =
    let view = c.account.view_is in let front = c.loop-place.front in let seen = c.loop-arena.seen in let parts = g.N.Names.parts in
    let to : LookOf Entry = record { table = parts.histories; fronts = front.fronts; looks = front.looks } in
    record {
      every = search rules;
      arenas = rw (sym view) (rw append-nil at (c.loop-arena.invariant.0 [] seen refl));
      places = subst (λ (z : ℕ × LookOf Entry). FillsFrom (TellsPlace z.0) z.1 0 c.loop-place.places.items to)
          (λ i. ((c.account.invariant.2 ∙ ap (λ (a : AccountOf). a.number) view) i, look_of parts (view i))) (rw append-nil at (c.loop-place.invariant.0 [] to refl));
      rest = ap (λ (a : AccountOf). record a { fronts = front.fronts; looks = front.looks; vaults = seen }) view;
    }
