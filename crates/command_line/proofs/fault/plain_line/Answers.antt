use Rattle.std.proofs.Common.{◌≡◌, ◌++◌, ◌∙◌, [], string_bytes, append_assoc}
use Rattle.std.specs.Prelude.{codes, decimal}
use Rattle.std.proofs.lemmas.Result.{IfOk-weaker}
use Rattle.command_line.specs.Lines.{line_of}
use Rattle.command_line.proofs.fault.plain_line.Goals as goal

pub returns : goal.returns
returns c =
    let program = c.args.program.now in
    let code = decimal c.args.code in
    let name = c.args.name.now in
    let text : program ++ (codes ": " ++ (code ++ (codes " " ++ (name ++ codes "\n")))) ≡ line_of program c.args.code name [] = simp append_assoc in
    IfOk-weaker c.format.result (λ s. string_bytes s ≡ program ++ (codes ": " ++ (code ++ (codes " " ++ (name ++ codes "\n"))))) (λ s. string_bytes s ≡ line_of program c.args.code name []) (λ s wrote. wrote ∙ text) c.format.ensures.ok
