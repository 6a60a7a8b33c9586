use Rattle.std.proofs.Common.{◌≡◌, ◌∙◌, ap, ap₂, rules}
use Rattle.clap.specs.Simple.{app_of_fields}
use Rattle.clap.specs.Words.{app_of, with_rule}
use Rattle.command_line.proofs.command.script_subcommand.Goals as goal

pub returns-clause-app : goal.returns-clause-app
returns-clause-app c =
    let about : app_of c.about.result ≡ app_of c.new.result = ap app_of_fields c.about.ensures in
    let named : app_of c.after_help-named.result ≡ app_of c.about.result = ap app_of_fields c.after_help-named.ensures in
    c.in_ok-whole.ensures.shape (search rules) ∙ ap₂ with_rule (named ∙ about ∙ c.new.ensures.app) c.file_argument-file.ensures.rule

pub returns-clause-local : goal.returns-clause-local
returns-clause-local c =
    let about = ap (λ f. f.has_globals) c.about.ensures in
    let named = ap (λ f. f.has_globals) c.after_help-named.ensures in
    search (named ∙ about ∙ c.new.ensures.local, c.file_argument-file.ensures.local, rules)
