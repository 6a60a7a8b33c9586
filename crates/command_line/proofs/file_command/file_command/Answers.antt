use Rattle.std.proofs.Common.{◌≡◌, ◌∙◌, ap, ap₂}
use Rattle.clap.specs.Simple.{app_of_fields}
use Rattle.clap.specs.Words.{app_of, with_rule}
use Rattle.command_line.specs.CommandLine.{versioned}
use Rattle.command_line.proofs.file_command.file_command.Goals as goal

pub returns : goal.returns
returns c =
    let about : app_of c.about.result ≡ app_of c.new.result = ap app_of_fields c.about.ensures in
    let version : app_of c.version.result ≡ versioned (app_of c.about.result) = ap app_of_fields c.version.ensures in
    let named : app_of c.after_help-named.result ≡ app_of c.version.result = ap app_of_fields c.after_help-named.ensures in
    let start = named ∙ version ∙ ap versioned (about ∙ c.new.ensures.app) in
    let placed = c.in_ok-placed.ensures.shape c.store_argument.ensures.local ∙ ap₂ with_rule start c.store_argument.ensures.rule in
    let filed = c.in_ok-filed.ensures.shape c.file_arguments.ensures.local ∙ ap₂ with_rule placed c.file_arguments.ensures.rule in
    let audited = c.in_ok-audited.ensures.shape c.flag.ensures.local ∙ ap₂ with_rule filed c.flag.ensures.rule in
    let stopping = c.in_ok-stopping.ensures.shape c.flag-2.ensures.local ∙ ap₂ with_rule audited c.flag-2.ensures.rule in
    let timed = c.in_ok-timed.ensures.shape c.flag-3.ensures.local ∙ ap₂ with_rule stopping c.flag-3.ensures.rule in
    let ahead = c.in_ok-ahead.ensures.shape c.flag-4.ensures.local ∙ ap₂ with_rule timed c.flag-4.ensures.rule in
    let listing = c.in_ok-listing.ensures.shape c.flag-5.ensures.local ∙ ap₂ with_rule ahead c.flag-5.ensures.rule in
    let verifying = c.in_ok-verifying.ensures.shape c.flag-6.ensures.local ∙ ap₂ with_rule listing c.flag-6.ensures.rule in
    let reading = c.in_ok-reading.ensures.shape c.flag-7.ensures.local ∙ ap₂ with_rule verifying c.flag-7.ensures.rule in
    c.in_ok-whole.ensures.shape c.wait_argument.ensures.local ∙ ap₂ with_rule reading c.wait_argument.ensures.rule
