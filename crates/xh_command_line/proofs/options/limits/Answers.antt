use Rattle.std.proofs.Common.{◌≡◌, arith}
use Rattle.std.specs.Str.Parse.{ExplainsUnsignedError}
use Rattle.clap.specs.Words.{found_of, rows_of}
use Rattle.xh_command_line.proofs.Numbers.{has_read, in_range, no_limits}
use Rattle.xh_command_line.proofs.options.limits.Goals as goal

pub returns-in_err-number : goal.returns-in_err-number
returns-in_err-number c = no_limits (rows_of (found_of c.args.matches.now)) c.from_residual.result c.from_residual.ensures (λ config is has.
    has_read (ExplainsUnsignedError 10) 8 config.arenas _ c.in_err-number.ensures (in_range config is).0 (omega (arith, (in_range config is).0)) has.0)

pub returns-in_err-number-2 : goal.returns-in_err-number-2
returns-in_err-number-2 c = no_limits (rows_of (found_of c.args.matches.now)) c.from_residual-in_err-number-2.result c.from_residual-in_err-number-2.ensures (λ config is has.
    has_read (ExplainsUnsignedError 10) 32 config.bytes _ c.in_err-number-2.ensures (in_range config is).1 (omega (arith, (in_range config is).1)) has.1)

pub returns-in_err-number-3 : goal.returns-in_err-number-3
returns-in_err-number-3 c = no_limits (rows_of (found_of c.args.matches.now)) c.from_residual-in_err-number-3.result c.from_residual-in_err-number-3.ensures (λ config is has.
    has_read (ExplainsUnsignedError 10) 16 config.records _ c.in_err-number-3.ensures (in_range config is).2 (omega (arith, (in_range config is).2)) has.2)

pub returns-in_err-number-4 : goal.returns-in_err-number-4
returns-in_err-number-4 c = no_limits (rows_of (found_of c.args.matches.now)) c.from_residual-in_err-number-4.result c.from_residual-in_err-number-4.ensures (λ config is has.
    has_read (ExplainsUnsignedError 10) 8 config.depth _ c.in_err-number-4.ensures (in_range config is).3 (omega (arith, (in_range config is).3)) has.3)

pub returns-in_err-number-5 : goal.returns-in_err-number-5
returns-in_err-number-5 c = no_limits (rows_of (found_of c.args.matches.now)) c.from_residual-in_err-number-5.result c.from_residual-in_err-number-5.ensures (λ config is has.
    has_read (ExplainsUnsignedError 10) 64 config.wear _ c.in_err-number-5.ensures (in_range config is).4 (omega (arith, (in_range config is).4)) has.4)
