use Rattle.std.proofs.Common.{◌≡◌, ◌≤◌, ◌+◌, ◌++◌, All, map, vec_len}
use Rattle.std.specs.Vec.{vec_capacity}
use Rattle.std.specs.Vec.Iter.{into_iter_items, into_iter_len}
use Rattle.xh_calls.specs.declared.call.Entry.{Entry}
use Rattle.xh_history.specs.Histories.{LookOf}
use Rattle.xh_runner.proofs.worker.leave_all.Given as goal

abbrev pub invariant-loop-worker : goal.invariant-loop-worker
invariant-loop-worker g l = record {
  accounts_are : l.accounts.items ++ map (λ w. w.account) (into_iter_items l.worker-iterator) ≡ map (λ w. w.account) l.fn.workers.items;
  looks_are : l.looks.items ++ map (λ w. w.look) (into_iter_items l.worker-iterator) ≡ map (λ w. w.look) l.fn.workers.items;
  own : All (λ (x : LookOf Entry). x.table ≡ g.N.Names.parts.histories) l.looks.items;
  accounts_room : vec_len l.fn.workers ≤ vec_capacity l.accounts;
  looks_room : vec_len l.fn.workers ≤ vec_capacity l.looks;
  accounts_count : vec_len l.accounts + into_iter_len l.worker-iterator ≡ vec_len l.fn.workers;
  looks_count : vec_len l.looks + into_iter_len l.worker-iterator ≡ vec_len l.fn.workers;
}
