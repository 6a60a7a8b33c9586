use Rattle.std.proofs.Common.{◌≡◌, ◌++◌, ◌∙◌, string_bytes}
use Rattle.std.specs.Prelude.{codes, decimal}
use Rattle.std.proofs.lemmas.Result.{IfOk-weaker}
use Rattle.bitemporal_file.specs.Notes.{line_of}
use Rattle.bitemporal_file.specs.declared.notes.Note.TheVariants.{First}
use Rattle.bitemporal_file.proofs.NoteFacts.{first_joined}
use Rattle.bitemporal_file.proofs.notes.first_line.Goals as goal

pub returns : goal.returns
returns c =
    let statement = decimal c.args.first.statement in
    let versions = decimal c.args.first.versions in
    let what = codes "versions of this very moment, replaced or deleted and not kept" in
    IfOk-weaker c.format.result (λ s. string_bytes s ≡ codes "bitemporal_file: statement " ++ (statement ++ (codes ": " ++ (what ++ (codes ": " ++ (versions ++ codes "\n")))))) (λ s. string_bytes s ≡ line_of (First c.args.first)) (λ s wrote. wrote ∙ first_joined statement versions) c.format.ensures.ok
