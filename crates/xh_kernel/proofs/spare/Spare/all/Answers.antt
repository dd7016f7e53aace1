use Rattle.std.proofs.Common.{rules, sym, ℕ, ◌≡◌}
use Rattle.std.proofs.lemmas.List.Elements.{All-head, All-nil, All-push, All-rest, All-same}
use Rattle.std.specs.Slice.Iter.{iter_mut_rest}
use Rattle.xh_kernel.specs.Accounts.{AccountOf, fresh}
use Rattle.xh_kernel.specs.declared.spare.Spare.{Spare}
use Rattle.xh_kernel.proofs.spare.Spare.all.Goals as goal

pub loop-account-init : goal.loop-account-init
loop-account-init g c =
    let same : iter_mut_rest c.into_iter-account-iterator.result ≡ c.args.accounts.now = cc in
    let New = λ (a : AccountOf). (k : ℕ) × (a ≡ fresh g.N.Names.parts k) in let Fresh = λ (s : Spare g.row.N.Denot). New s.account.now in
    (search (rules, same), All-same New _ _ same (λ k d l. (k, c.requires k d l)), All-same Fresh _ _ c.in_ok-spares.ensures.items (All-nil Fresh))

pub loop-account-preserved : goal.loop-account-preserved
loop-account-preserved g c =
    let was = c.loop-account.invariant in let step = c.in-Some.ensures.steps in
    let New = λ (a : AccountOf). (k : ℕ) × (a ≡ fresh g.N.Names.parts k) in let Fresh = λ (s : Spare g.row.N.Denot). New s.account.now in
    let first = All-head New _ _ (All-same New _ _ (sym step) was.1) in
    (search rules, All-rest New _ _ _ step was.1, All-same Fresh _ _ c.in_ok-push.ensures.items (All-push Fresh _ _ was.2 first))
