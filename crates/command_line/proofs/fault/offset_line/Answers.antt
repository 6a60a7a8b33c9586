use Rattle.std.proofs.Common.{◌≡◌, ◌++◌, ◌∙◌, Some, string_bytes}
use Rattle.std.specs.Prelude.{codes, decimal}
use Rattle.std.proofs.lemmas.Result.{IfOk-weaker}
use Rattle.command_line.specs.Lines.{detail_of, line_of}
use Rattle.command_line.proofs.LineFacts.{joined}
use Rattle.command_line.proofs.fault.offset_line.Goals as goal

pub returns : goal.returns
returns c =
    let program = c.args.program.now in
    let code = decimal c.args.code in
    let name = c.args.name.now in
    let offset = decimal c.args.offset in
    let text : program ++ (codes ": " ++ (code ++ (codes " " ++ (name ++ (codes " " ++ (offset ++ codes "\n")))))) ≡ line_of program c.args.code name (detail_of (Some c.args.offset)) = joined program (codes ": ") code (codes " ") name (codes " ") offset (codes "\n") in
    IfOk-weaker c.format.result (λ s. string_bytes s ≡ program ++ (codes ": " ++ (code ++ (codes " " ++ (name ++ (codes " " ++ (offset ++ codes "\n"))))))) (λ s. string_bytes s ≡ line_of program c.args.code name (detail_of (Some c.args.offset))) (λ s wrote. wrote ∙ text) c.format.ensures.ok
