use Rattle.std.proofs.Common.{inl, inr, refl, subst}
use Rattle.xheap.specs.Status.{RanBy}
use Rattle.xheap.proofs.run.run_main.Goals as goal

pub returns-in-Ok : goal.returns-in-Ok
returns-in-Ok g c =
    let options = c.in-Ok.options in
    let told = c.in-Ok.ensures.asked in
    inl (options, told.0, subst (λ out. RanBy g.R.Read.remaining g.W.Write.contents options.serial options.flight options.config c.args.reader.now c.run.new.reader out c.run.new.out c.run.result) told.1 c.run.ensures)

pub returns-in-Err : goal.returns-in-Err
returns-in-Err g c = inr (refl, c.in-Err.ensures.unasked)
