use Rattle.std.proofs.Common.{◌≡◌, All, arith, subst}
use Rattle.std.proofs.lemmas.List.Elements.{All-head, All-rest}
use Rattle.xh_calls.specs.declared.call.Entry.{Entry}
use Rattle.xh_history.specs.Histories.{LookOf}
use Rattle.xh_runner.proofs.Workers.{hired_more, none_left}
use Rattle.xh_runner.proofs.worker.hire.Goals as goal

pub invariant_of-push_reserved : goal.invariant_of-push_reserved
invariant_of-push_reserved g c = record {
  own = All-head (λ (x : LookOf Entry). x.table ≡ g.N.Names.parts.histories) c.in-Some-next.look _
      (subst (All (λ (x : LookOf Entry). x.table ≡ g.N.Names.parts.histories)) c.in-Some-next.ensures.items c.loop-account.invariant.own);
}

pub loop-account-preserved : goal.loop-account-preserved
loop-account-preserved g c = let past = c.loop-account.invariant in record {
  accounts = hired_more (λ w. w.account) _ _ _ _ _ _ c.push_reserved.ensures.items c.in-Some.ensures.steps.0 past.accounts;
  looks_are = hired_more (λ w. w.look) _ _ _ _ _ _ c.push_reserved.ensures.items c.in-Some-next.ensures.items past.looks_are;
  count = omega (arith, c.in-Some.ensures.steps.1, c.in-Some-next.ensures.cases.1, past.count);
  own = All-rest (λ (x : LookOf Entry). x.table ≡ g.N.Names.parts.histories) c.in-Some-next.look _ _ c.in-Some-next.ensures.items past.own;
  hired = omega (arith, c.push_reserved.ensures.len, c.in-Some.ensures.steps.1, past.hired);
  room = omega (arith, c.push_reserved.ensures.capacity, past.room);
}

pub returns-clause-count : goal.returns-clause-count
returns-clause-count g c = omega (arith, c.in-None.ensures.steps.0, c.loop-account.invariant.hired)

pub returns-clause-accounts : goal.returns-clause-accounts
returns-clause-accounts g c = none_left _ _ _ (omega (arith, c.loop-account.account-iterator.rest.ok, c.in-None.ensures.steps.0)) c.loop-account.invariant.accounts

pub returns-clause-looks : goal.returns-clause-looks
returns-clause-looks g c = none_left _ _ _ (omega (arith, c.loop-account.looks.rest.ok, c.loop-account.invariant.count, c.in-None.ensures.steps.0)) c.loop-account.invariant.looks_are
