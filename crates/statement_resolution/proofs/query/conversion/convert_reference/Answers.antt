use Rattle.std.proofs.Common.{◌∙◌, None, Some, refl, sym}
use Rattle.catalog_core.proofs.lemmas.table.Named.{table_named}
use Rattle.statement_resolution.proofs.lemmas.judged.FaultSums.{either_none}
use Rattle.statement_resolution.proofs.lemmas.query.ColumnLists.{not_there}
use Rattle.statement_resolution.proofs.lemmas.query.ReferenceParts.{missing_one, missing_parts, same_parts}
use Rattle.statement_resolution.specs.Faults.{no_faults}
use Rattle.statement_resolution.proofs.query.conversion.convert_reference.Goals as goal

pub returns-in_default : goal.returns-in_default
returns-in_default c =
    let tables = c.args.catalog.now.tables in
    let r = c.args.reference.now in
    record {
      parts = missing_parts tables r c.window_of-window.result c.empty.result c.in_default.ensures c.window_of-window.ensures c.empty.ensures;
      placed = refl;
      faults = c.or.ensures ∙ missing_one tables r c.args.faults.now c.none.result None c.none.ensures (not_there tables r.table c.in_default.ensures);
    }

pub returns : goal.returns
returns c =
    let tables = c.args.catalog.now.tables in
    let r = c.args.reference.now in
    let t = c.in-Some.table.now in
    let there = table_named tables r.table c.in-Some.number t c.in-Some.ensures.0 c.in-Some.ensures.1 in
    record {
      parts = same_parts tables r c.in-Some.number t c.window_of-window.result c.from_vec.result c.in-Some.ensures.0 there c.window_of-window.ensures (c.from_vec.ensures ∙ c.in_ok-kinds.ensures);
      placed = refl;
      faults = sym (either_none c.args.faults.now) ∙ missing_one tables r c.args.faults.now no_faults (Some t) refl there;
    }
