use Rattle.std.proofs.Common.{rules, ◌≡◌, List, arith, inl, inr, map, refl, string_bytes, subst}
use Rattle.clap.specs.Words.{Row, found_of}
use Rattle.xh_command_line.specs.Asked.{HasLimits, rows_found}
use Rattle.xh_command_line.proofs.Numbers.{InRange, in_range, same_limits}
use Rattle.xh_command_line.proofs.Ways.{asked, told}
use Rattle.xh_command_line.proofs.options.read_options.Goals as goal

pub returns-in-Err-clause-unasked : goal.returns-in-Err-clause-unasked
returns-in-Err-clause-unasked g c = told _ _ c.in-Err.error _ _ _ c.in-Err.ensures c.explain.ensures

pub returns-then-not-is_in_script_limits-clause-unasked : goal.returns-then-not-is_in_script_limits-clause-unasked
returns-then-not-is_in_script_limits-clause-unasked g c =
    let range : InRange c.in-Some.config = search (rules, arith) in
    let has = subst (λ (rows : List Row). HasLimits rows c.in-Some.config) c.in-Ok.ensures.1 c.in-Some.ensures in
    inr (
      refl,
      inl (
        c.told.ensures,
        inr (
          c.in-Ok.ensures.0,
          λ config is limits.
              let bad = same_limits (rows_found c.args.program.name.now (map string_bytes c.args.words.now)) c.in-Some.config config range (in_range config is) has limits is in
              search rules,
        ),
      ),
    )

pub returns-clause-asked : goal.returns-clause-asked
returns-clause-asked g c = (
  asked _ _ (found_of c.in-Ok.matches) _ _ _ c.in-Ok.ensures.0 c.in-Ok.ensures.1 (c.get_flag.ensures.value, c.get_flag.ensures.other)
      (c.get_flag-2.ensures.value, c.get_flag-2.ensures.other) c.in-Some.ensures (search rules),
  refl,
)
