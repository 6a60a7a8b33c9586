use Rattle.std.proofs.Common.{◌≡◌, ◌∙◌, ap, ap₂}
use Rattle.clap.specs.Simple.{app_of_fields}
use Rattle.clap.specs.Words.{App, app_of, with_subcommand}
use Rattle.command_line.specs.CommandLine.{requiring, versioned}
use Rattle.command_line.proofs.command.command.Goals as goal

pub returns : goal.returns
returns c =
    let run = ap (λ (a : App). a.top) c.in_ok-run.ensures.app in
    let check = ap (λ (a : App). a.top) c.in_ok-check.ensures.app in
    let about : app_of c.about.result ≡ app_of c.new.result = ap app_of_fields c.about.ensures in
    let named : app_of c.after_help-named.result ≡ app_of c.version.result = ap app_of_fields c.after_help-named.ensures in
    let version : app_of c.version.result ≡ versioned (app_of c.about.result) = ap app_of_fields c.version.ensures in
    let start : app_of c.subcommand_required-top.result ≡ requiring (app_of c.after_help-named.result) = ap app_of_fields c.subcommand_required-top.ensures in
    let running = c.in_ok-running.ensures.shape c.in_ok-run.ensures.local ∙ ap₂ with_subcommand (start ∙ ap requiring (named ∙ version ∙ ap versioned (about ∙ c.new.ensures.app))) run in
    c.in_ok-whole.ensures.shape c.in_ok-check.ensures.local ∙ ap₂ with_subcommand running check
