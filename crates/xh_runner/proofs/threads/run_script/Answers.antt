use Rattle.std.proofs.Common.{◌≡◌, ◌∙◌, All, arith, map, subst, sym}
use Rattle.std.proofs.lemmas.List.{length-map}
use Rattle.xh_history.specs.Histories.{fresh_look}
use Rattle.xh_kernel.specs.Accounts.{AreFresh}
use Rattle.xh_runner.proofs.Wholes.{played_count}
use Rattle.xh_runner.proofs.Workers.{map_twice}
use Rattle.xh_runner.specs.Workers.{WorkerState, did}
use Rattle.xh_runner.proofs.threads.run_script.Goals as goal

pub returns-clause-played : goal.returns-clause-played
returns-clause-played g c =
    let parts = g.N.Names.parts in
    let machines = c.in_ok-machines.machines.items in
    let workers = c.in_ok-workers.workers.items in
    let accounts = map_twice (λ w. w.account) (λ w. record { account = w.account; look = w.look }) workers ∙ c.in_ok-workers.ensures.accounts in
    let looks = map_twice (λ w. w.look) (λ w. record { account = w.account; look = w.look }) workers ∙ c.in_ok-workers.ensures.looks in record {
      workers = map (λ w. record { account = w.account; look = w.look }) workers;
      left = map (λ w. record { account = w.account; look = w.look }) machines;
      are_new = record {
        accounts = subst (AreFresh parts) (sym accounts) c.requires.accounts.1;
        looks = subst (All (λ l. l ≡ fresh_look parts.histories)) (sym looks) c.requires.looks.1;
        count = length-map {B = WorkerState} workers (λ w. record { account = w.account; look = w.look })
            ∙ omega (arith, c.in_ok-workers.workers.ok, c.in_ok-workers.ensures.count, c.requires.accounts.0);
      };
      played = c.in_ok-machines.ensures.played;
      accounts_are = rw c.in_ok-accounts.ensures.accounts (map_twice _ _ machines);
      looks_are = rw c.in_ok-accounts.ensures.looks (map_twice _ _ machines);
    }

pub returns-clause-answers : goal.returns-clause-answers
returns-clause-answers g c = record {
  lines = c.in_ok-machines.ensures.answers;
  named = c.in_ok-machines.ensures.names.0;
  count = c.in_ok-machines.ensures.names.1;
}

pub returns-clause-count : goal.returns-clause-count
returns-clause-count g c =
    let count = played_count (did g.N.Names.parts g.N.Names.leads) c.args.script.now.contracts.items c.args.script.now.lines.items
    c.in_ok-machines.played.0.items _ _ c.in_ok-machines.ensures.played in
    let olds = length-map {B = WorkerState} c.in_ok-workers.workers.items (λ w. record { account = w.account; look = w.look }) in
    let news = length-map {B = WorkerState} c.in_ok-machines.machines.items (λ w. record { account = w.account; look = w.look }) in
    omega (
      arith,
      count,
      olds,
      news,
      c.in_ok-workers.workers.ok,
      c.in_ok-machines.machines.ok,
      c.in_ok-workers.ensures.count,
      c.in_ok-accounts.ensures.count.0,
      c.requires.accounts.0,
    )
