use Rattle.std.proofs.Common.{◌∙◌, Option, ap}
use Rattle.catalog_core.specs.table.Kinds.{differ}
use Rattle.statement_resolution.proofs.lemmas.judged.FaultSums.{either_assoc}
use Rattle.statement_resolution.specs.Faults.{either}
use Rattle.statement_resolution.specs.query.Faults.{compare_faults, kind_faults, matches_among, side_faults, side_kind}
use Rattle.statement_resolution.specs.declared.faults.Faults.{Faults}
use Rattle.catalog_core.specs.declared.table.ValueKind.{ValueKind}
use Rattle.statement_resolution.proofs.comparison.ScopeResolverCompare.resolve_test.Goals as goal

pub returns-clause-judged : goal.returns-clause-judged
unfolding compare_faults
returns-clause-judged c =
    let matches = matches_among c.args.self.now.seen.now in
    let t = c.args.test.now in
    let old = c.args.found.now in
    let left : Faults = side_faults matches t.left in
    let right : Faults = side_faults matches t.right in
    let kinds : Faults = kind_faults (differ (side_kind matches t.left) (side_kind matches t.right)) in
    c.or.ensures
    ∙ ap (λ (f : Faults). either c.resolve_side-2.new.found (record f { kinds = c.differ.result })) c.none.ensures
    ∙ ap (λ b. either c.resolve_side-2.new.found (kind_faults b))
    (c.differ.ensures ∙ ap (λ (k : Option ValueKind). differ k c.in_ok-right.right.kind) c.in_ok-left.ensures.kind ∙ ap (differ (side_kind matches t.left)) c.in_ok-right.ensures.kind)
    ∙ ap (λ (f : Faults). either f kinds) (c.in_ok-right.ensures.judged ∙ ap (λ (f : Faults). either f right) c.in_ok-left.ensures.judged ∙ either_assoc old left right)
    ∙ either_assoc old (either left right) kinds
