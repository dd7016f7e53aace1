use Rattle.std.proofs.Common.{◌≡◌, ◌≤◌, ◌+◌, ◌++◌, All, map, vec_len}
use Rattle.std.specs.Vec.{vec_capacity}
use Rattle.std.specs.Vec.Iter.{into_iter_items, into_iter_len}
use Rattle.xh_calls.specs.declared.call.Entry.{Entry}
use Rattle.xh_history.specs.Histories.{LookOf}
use Rattle.xh_runner.proofs.worker.hire.Given as goal

abbrev pub invariant-loop-account : goal.invariant-loop-account
invariant-loop-account g l = record {
  accounts : map (λ w. w.account) l.workers.items ++ into_iter_items l.account-iterator ≡ l.fn.accounts.items;
  looks_are : map (λ w. w.look) l.workers.items ++ into_iter_items l.looks ≡ l.fn.looks.items;
  count : into_iter_len l.looks ≡ into_iter_len l.account-iterator;
  own : All (λ (x : LookOf Entry). x.table ≡ g.N.Names.parts.histories) (into_iter_items l.looks);
  hired : vec_len l.workers + into_iter_len l.account-iterator ≡ vec_len l.fn.accounts;
  room : vec_len l.fn.accounts ≤ vec_capacity l.workers;
}
