use Rattle.std.proofs.Common.{◌≤◌, ◌-◌, ◌∙◌, arith, drop, length, length-drop, take_all}
use Rattle.bitemporal_file.proofs.CalledFacts.{component-from}
use Rattle.bitemporal_file.proofs.program.component_of.Goals as goal

pub returns : goal.returns
returns c =
    let path = c.args.path.now in
    let start = c.loop-i.start in
    let all : length (drop start path) ≤ length path - start = omega (arith, length-drop start path) in
    take_all (length path - start) (drop start path) all
    ∙ component-from path start (omega arith) (λ k from below. c.loop-i.invariant.behind k from (omega arith)) c.loop-i.invariant.slash
