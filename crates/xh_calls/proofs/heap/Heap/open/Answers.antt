use Rattle.xh_calls.proofs.Common.{Err, FindsFull, Stays, [], ap, rules, stays_itself, sym, ◌∙◌, ◌∷◌, ◌≡◌}
use Rattle.xh_calls.proofs.Asking.{lacks, none_had, passes}
use Rattle.xh_calls.proofs.Moved.{entered}
use Rattle.xh_calls.proofs.Started.{unclaimed}
use Rattle.xh_calls.proofs.heap.Heap.open.Goals as goal

pub returns-in_err-test_open-clause-opened : goal.returns-in_err-test_open-clause-opened
returns-in_err-test_open-clause-opened g c =
    let place = c.args.place.now in record {
      opened = search rules;
      blocks = search rules;
      refused = unclaimed c.from_residual.result 2 c.args.arena place;
      why = rw c.in_err-test_open.ensures.tested (search rules, stays_itself place);
    }

pub returns-in_err-low-clause-opened : goal.returns-in_err-low-clause-opened
returns-in_err-low-clause-opened g c =
    let place = c.args.place.now in let e = c.in_err-low.field-0.0 in let is : c.from_residual-in_err-low.result ≡ Err e = search rules in record {
      opened = search rules;
      blocks = search rules;
      refused = unclaimed c.from_residual-in_err-low.result 2 c.args.arena place;
      why = rw (c.in_ok-test_open.ensures.tested.0, is) (none_had g.N.Names.parts _ _ c.args.arena e c.in_err-low.ensures.err (stays_itself place));
    }

pub returns-in-Ok-clause-opened : goal.returns-in-Ok-clause-opened
returns-in-Ok-clause-opened g c =
    let end = c.in_ok-low in let ok = end.ensures.ok in let did = c.in-Ok.ensures.opened in record {
      opened = (end.low, end.high, ok.0, ok.1, ok.2, did.0);
      blocks = (did.1, did.2);
      refused = tt;
      why = rw c.in_ok-test_open.ensures.tested.0 tt;
    }

pub returns-in-Ok-clause-asked : goal.returns-in-Ok-clause-asked
returns-in-Ok-clause-asked g c =
    entered g.N.Names.parts c.lend-desk.result.vaults c.open-answer.new.desk.vaults (λ l. l.till) c.lend-desk.ensures.1 c.end.ensures.0 (c.args.arena ∷ c.args.arena ∷ []) c.in-Ok.ensures.asked

pub returns-in-Ok-clause-ends : goal.returns-in-Ok-clause-ends
returns-in-Ok-clause-ends g c = let end = c.in_ok-low in (end.low, end.high, end.ensures.ok.0, c.in-Ok.ensures.opened.4)

pub returns-in-Ok-clause-running : goal.returns-in-Ok-clause-running
returns-in-Ok-clause-running g c = ap (λ p. p.state) c.in-Ok.ensures.opened.0.4.0 ∙ c.in_ok-test_open.ensures.running

pub returns-in-Err-clause-opened : goal.returns-in-Err-clause-opened
returns-in-Err-clause-opened g c =
    let place = c.args.place.now in let to = c.open-answer.new in let full = FindsFull 1 place.seat to.self.seat c.args.arena in let test = c.in_ok-test_open.ensures in
    let passed = passes place.state c.args.arena place.seat.shape test.running c.requires.0.1 test.there in record {
      opened = tt;
      blocks = tt;
      refused = c.in-Err.ensures.opened.2;
      why = rw test.tested.0
          (lacks c.lend-desk.result.vaults to.desk.vaults (λ l. l.till.seen) g.N.Names.parts c.args.arena (Stays place to.self) full _ (rw passed at c.in-Err.ensures.why)).0;
    }

pub returns-in-Err-clause-refused : goal.returns-in-Err-clause-refused
returns-in-Err-clause-refused g c =
    let place = c.args.place.now in let to = c.open-answer.new in let full = FindsFull 1 place.seat to.self.seat c.args.arena in let test = c.in_ok-test_open.ensures in
    let passed = passes place.state c.args.arena place.seat.shape test.running c.requires.0.1 test.there in
    rw (ap (λ t. t.seen) c.end.ensures.0) (rw (sym (ap (λ t. t.seen) c.lend-desk.ensures.1))
    (lacks c.lend-desk.result.vaults to.desk.vaults (λ l. l.till.seen) g.N.Names.parts c.args.arena (Stays place to.self) full _ (rw passed at c.in-Err.ensures.why)).1)
