use Rattle.std.proofs.Common.{◌≡◌, ◌++◌, ◌∙◌, ◌∷◌, All, List, [], ap, append_assoc, arith, map, subst, sym}
use Rattle.std.proofs.lemmas.List.Elements.{All-push}
use Rattle.xh_calls.specs.declared.call.Entry.{Entry}
use Rattle.xh_history.specs.Histories.{LookOf}
use Rattle.xh_runner.proofs.worker.leave_all.Goals as goal

-- one more item was made, of the first of the rest
left_more : {X Y : Type 0} (f : X → Y) (ys more : List Y) (x : X) (rest later : List X) (all : List Y) → more ≡ ys ++ f x ∷ [] → rest ≡ x ∷ later → ys ++ map f rest ≡ all
    → more ++ map f later ≡ all
left_more f ys more x rest later all e r h =
    ap (λ l. l ++ map f later) e ∙ append_assoc ys (f x ∷ []) (map f later) ∙ ap (λ l. ys ++ map f l) (sym r) ∙ h

pub loop-worker-preserved : goal.loop-worker-preserved
loop-worker-preserved g c =
    let past = c.loop-worker.invariant in
    let own : All (λ (x : LookOf Entry). x.table ≡ g.N.Names.parts.histories) _ = All-push
    (λ (x : LookOf Entry). x.table ≡ g.N.Names.parts.histories) c.loop-worker.looks.items _ past.own c.in-Some.worker.own in record {
      accounts_are = left_more (λ w. w.account) _ _ c.in-Some.worker _ _ _ c.push_reserved.ensures.items c.in-Some.ensures.steps.0 past.accounts_are;
      looks_are = left_more (λ w. w.look) _ _ c.in-Some.worker _ _ _ c.push_reserved-in-loop-worker.ensures.items c.in-Some.ensures.steps.0 past.looks_are;
      own = subst (All (λ (x : LookOf Entry). x.table ≡ g.N.Names.parts.histories)) (sym c.push_reserved-in-loop-worker.ensures.items) own;
      accounts_room = omega (arith, c.push_reserved.ensures.capacity, past.accounts_room);
      looks_room = omega (arith, c.push_reserved-in-loop-worker.ensures.capacity, past.looks_room);
      accounts_count = omega (arith, c.push_reserved.ensures.len, c.in-Some.ensures.steps.1, past.accounts_count);
      looks_count = omega (arith, c.push_reserved-in-loop-worker.ensures.len, c.in-Some.ensures.steps.1, past.looks_count);
    }

pub returns-clause-count : goal.returns-clause-count
returns-clause-count g c = (omega (arith, c.in-None.ensures.steps.0, c.loop-worker.invariant.accounts_count), omega (arith, c.in-None.ensures.steps.0, c.loop-worker.invariant.looks_count))
