-- For private functions: what a name matches, found in one pass over the columns.
use Rattle.std.specs.Prelude.{◌||◌, not, List, Some, is_some, length, nat_lt}
use Rattle.std.specs.Prelude.{is_none}
use Rattle.std.specs.Option.{option_or}
use Rattle.statement_resolution.specs.Faults.{no_faults}
use Rattle.statement_resolution.specs.query.Faults.{match_kind}
use Rattle.statement_resolution.specs.query.Faults.{are_of_period}
use Rattle.statement_resolution.specs.query.Scopes.{SeenColumn, has_value}
use Rattle.catalog_core.specs.table.Kinds.{kind_of_column}
use Rattle.statement_resolution.specs.declared.faults.Faults.{Faults}
use Rattle.statement_resolution.specs.declared.query.seen_column.Matched.{Matched}

-- the columns that a name matches, counted
abbrev pub matched : List SeenColumn → Matched
matched matches = record {
  kind = match_kind matches;
  several = nat_lt 1 (length matches);
  period = are_of_period matches;
}

-- the count with one more column
abbrev pub matched_more : Matched → SeenColumn → Matched
matched_more found seen = record {
  kind = option_or found.kind (Some (kind_of_column seen.column.kind));
  several = is_some found.kind;
  period = found.period || not (has_value seen);
}

-- the faults of the name
abbrev pub found_faults : Matched → Faults
found_faults found = record no_faults {
  unknown = is_none found.kind;
  ambiguous = found.several;
  period = found.period;
}
