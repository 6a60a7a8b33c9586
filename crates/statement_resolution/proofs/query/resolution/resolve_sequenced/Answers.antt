use Rattle.std.proofs.Common.{◌≡◌, ◌∙◌, ap, inl, sym}
use Rattle.sql_statements.specs.Plain.{plain_query}
use Rattle.statement_resolution.proofs.lemmas.judged.Refused.{clear_by, least_limit, none_above, refused_above, refused_by}
use Rattle.statement_resolution.proofs.lemmas.query.Accepted.{few_references}
use Rattle.statement_resolution.specs.Faults.{either}
use Rattle.statement_resolution.specs.query.Faults.{query_faults}
use Rattle.statement_resolution.specs.query.Refusals.{is_above_limit}
use Rattle.statement_resolution.specs.declared.faults.Faults.{Faults}
use Rattle.statement_resolution.proofs.query.resolution.resolve_sequenced.Goals as goal

pub returns-then-is_above_limit-clause-refused : goal.returns-then-is_above_limit-clause-refused
returns-then-is_above_limit-clause-refused c =
    let query = plain_query c.args.query.now in
    inl (least_limit (is_above_limit query) (query_faults c.args.catalog.now.tables query) (sym c.is_above_limit.ensures ∙ c.if-is_above_limit.true))

pub convert_query-requires : goal.convert_query-requires
convert_query-requires c = few_references (plain_query c.args.query.now) (sym c.is_above_limit.ensures ∙ c.if-is_above_limit.false)

pub returns-in-Some-clause-refused : goal.returns-in-Some-clause-refused
returns-in-Some-clause-refused c =
    let query = plain_query c.args.query.now in
    let all = query_faults c.args.catalog.now.tables query in
    let whole : c.convert_query.new.faults ≡ all = c.in_ok-side.ensures.faults ∙ ap (λ (f : Faults). either f all) c.none-faults.ensures in
    inl (refused_above (is_above_limit query) all c.in-Some.fault (sym c.is_above_limit.ensures ∙ c.if-is_above_limit.false)
    (refused_by c.convert_query.new.faults all whole c.in-Some.fault (sym c.first.ensures ∙ c.in-Some.is)))

pub returns-in-None : goal.returns-in-None
returns-in-None c =
    let query = plain_query c.args.query.now in
    let all = query_faults c.args.catalog.now.tables query in
    let whole : c.convert_query.new.faults ≡ all = c.in_ok-side.ensures.faults ∙ ap (λ (f : Faults). either f all) c.none-faults.ensures in
    let clean = clear_by c.convert_query.new.faults all whole (sym c.first.ensures ∙ c.in-None.is) in
    record {
      sound = none_above (is_above_limit query) all (sym c.is_above_limit.ensures ∙ c.if-is_above_limit.false) clean;
      resolved = record { same = c.in_ok-side.ensures.same clean; placed = c.in_ok-side.ensures.placed };
      refused = tt;
    }
