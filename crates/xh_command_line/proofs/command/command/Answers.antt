use Rattle.std.proofs.Common.{◌≡◌, ◌∙◌, true, ap}
use Rattle.std.proofs.lemmas.Result.{IfOk-weaker}
use Rattle.clap.specs.Simple.{App, app_of, app_of_fields, new_app, on_top}
use Rattle.xh_command_line.specs.Asked.{app}
use Rattle.xh_command_line.proofs.Commands.{added}
use Rattle.xh_command_line.proofs.command.command.Goals as goal

pub returns : goal.returns
unfolding app
returns c =
    let bare : app_of c.in_ok-bin_name.field-0 ≡ new_app c.args.program.name.now = ap app_of_fields c.in_ok-bin_name.ensures.0 ∙ c.new.ensures.app in
    let versioned : app_of c.version.result ≡ on_top (λ s. record s { has_version = true }) (new_app c.args.program.name.now) =
    ap app_of_fields c.version.ensures ∙ ap (on_top (λ s. record s { has_version = true })) bare in
    let head = ap app_of_fields c.after_help.ensures ∙ (ap app_of_fields c.long_about.ensures ∙ (ap app_of_fields c.about.ensures ∙ versioned)) in
    let serial = added _ _ _ _ _ c.in_ok-arg.ensures head c.flag.ensures in
    let flight = added _ _ _ _ _ c.in_ok-arg-2.ensures serial c.flag-2.ensures in
    let arenas = added _ _ _ _ _ c.in_ok-arg-3.ensures flight c.arenas.ensures in
    let bytes = added _ _ _ _ _ c.in_ok-arg-4.ensures arenas c.bytes.ensures in
    let records = added _ _ _ _ _ c.in_ok-arg-5.ensures bytes c.records.ensures in
    let depth = added _ _ _ _ _ c.in_ok-arg-6.ensures records c.depth.ensures in
    IfOk-weaker c.arg-7.result _ _ (λ r adds. added _ _ r _ _ adds depth c.wear.ensures) c.arg-7.ensures
