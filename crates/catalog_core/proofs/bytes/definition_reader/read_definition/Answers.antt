use Rattle.std.proofs.Common.{◌≡◌, ◌∙◌, [], length, sym, arith}
use Rattle.std.proofs.lemmas.Result.{err_from_is_err_and}
use Rattle.catalog_core.proofs.lemmas.bytes.DefinitionFronts.{ReadColumns, all_values, definition_from_read, empty_by, no_columns, no_key, no_period, no_references, some_left, some_not_empty, writable_from_read}
use Rattle.catalog_core.proofs.bytes.definition_reader.read_definition.Goals as goal

pub returns-in_err-columns-clause-malformed : goal.returns-in_err-columns-clause-malformed
returns-in_err-columns-clause-malformed c =
    let p = err_from_is_err_and c.from_residual-in_err-columns.result c.from_residual-in_err-columns.ensures.1 in
    rw (p.1, p.2) (λ bad d writable same. no_columns d c.in_ok-name.name c.args.values.now c.in_ok-name.after_name.now writable same c.in_ok-name.ensures.found.1 (c.in_err-columns.ensures.malformed bad))

pub returns-in_err-period-clause-malformed : goal.returns-in_err-period-clause-malformed
returns-in_err-period-clause-malformed c =
    let read : ReadColumns c.args.values.now c.in_ok-columns.columns.items c.in_ok-columns.after_columns.now =
    record { name = c.in_ok-name.name; v1 = c.in_ok-name.after_name.now; first = c.in_ok-name.ensures.found.1; fits = c.in_ok-columns.ensures.found.0; second = c.in_ok-columns.ensures.found.1 } in
    let count : c.len-count.result ≡ length c.in_ok-columns.columns.items = omega (arith, c.len-count.ensures, c.in_ok-columns.columns.ok.0) in
    let p = err_from_is_err_and c.from_residual-in_err-period.result c.from_residual-in_err-period.ensures.1 in
    rw (p.1, p.2) (λ bad d writable same. no_period d c.args.values.now c.in_ok-columns.columns.items c.in_ok-columns.after_columns.now writable same read ((rw count at c.in_err-period.ensures.malformed) bad))

pub returns-in_err-key-clause-malformed : goal.returns-in_err-key-clause-malformed
returns-in_err-key-clause-malformed c =
    let read : ReadColumns c.args.values.now c.in_ok-columns.columns.items c.in_ok-columns.after_columns.now =
    record { name = c.in_ok-name.name; v1 = c.in_ok-name.after_name.now; first = c.in_ok-name.ensures.found.1; fits = c.in_ok-columns.ensures.found.0; second = c.in_ok-columns.ensures.found.1 } in
    let count : c.len-count.result ≡ length c.in_ok-columns.columns.items = omega (arith, c.len-count.ensures, c.in_ok-columns.columns.ok.0) in
    let p = err_from_is_err_and c.from_residual-in_err-key.result c.from_residual-in_err-key.ensures.1 in
    rw (p.1, p.2) (λ bad d writable same. no_key d c.args.values.now c.in_ok-columns.columns.items c.in_ok-columns.after_columns.now c.in_ok-period.period c.in_ok-period.after_period.now writable same read c.in_ok-period.ensures.found.1 ((rw count at c.in_err-key.ensures.malformed) bad))

pub returns-in_err-references-clause-malformed : goal.returns-in_err-references-clause-malformed
returns-in_err-references-clause-malformed c =
    let read : ReadColumns c.args.values.now c.in_ok-columns.columns.items c.in_ok-columns.after_columns.now =
    record { name = c.in_ok-name.name; v1 = c.in_ok-name.after_name.now; first = c.in_ok-name.ensures.found.1; fits = c.in_ok-columns.ensures.found.0; second = c.in_ok-columns.ensures.found.1 } in
    let count : c.len-count.result ≡ length c.in_ok-columns.columns.items = omega (arith, c.len-count.ensures, c.in_ok-columns.columns.ok.0) in
    let p = err_from_is_err_and c.from_residual-in_err-references.result c.from_residual-in_err-references.ensures.1 in
    rw (p.1, p.2) (λ bad d writable same. no_references d c.args.values.now c.in_ok-columns.columns.items c.in_ok-columns.after_columns.now c.in_ok-period.period c.in_ok-period.after_period.now c.in_ok-key.key.items c.in_ok-key.after_key.now writable same read c.in_ok-period.ensures.found.1 c.in_ok-key.ensures.found.1 ((rw count at c.in_err-references.ensures.malformed) bad))

pub returns-then-not-is_empty-clause-malformed : goal.returns-then-not-is_empty-clause-malformed
returns-then-not-is_empty-clause-malformed c =
    let read : ReadColumns c.args.values.now c.in_ok-columns.columns.items c.in_ok-columns.after_columns.now =
    record { name = c.in_ok-name.name; v1 = c.in_ok-name.after_name.now; first = c.in_ok-name.ensures.found.1; fits = c.in_ok-columns.ensures.found.0; second = c.in_ok-columns.ensures.found.1 } in
    let count : c.len-count.result ≡ length c.in_ok-columns.columns.items = omega (arith, c.len-count.ensures, c.in_ok-columns.columns.ok.0) in
    (λ bad d writable same.
    let none : c.in_ok-references.rest.now ≡ [] =
    some_left d c.args.values.now c.in_ok-columns.columns.items c.in_ok-columns.after_columns.now c.in_ok-period.period c.in_ok-period.after_period.now c.in_ok-key.key.items c.in_ok-key.after_key.now
    c.in_ok-references.references.items c.in_ok-references.rest.now writable same read c.in_ok-period.ensures.found.1 c.in_ok-key.ensures.found.1 (rw count at c.in_ok-references.ensures.found.0) c.in_ok-references.ensures.found.1 in
    some_not_empty c.in_ok-references.rest.now (sym c.is_empty.ensures ∙ c.if-not-is_empty.true) none)

pub invariant_of-result : goal.invariant_of-result
invariant_of-result c =
    let count : c.len-count.result ≡ length c.in_ok-columns.columns.items = omega (arith, c.len-count.ensures, c.in_ok-columns.columns.ok.0) in
    record {
      sound =
          rw (c.from_vec.ensures, c.from_vec-2.ensures, c.from_vec-3.ensures)
          (definition_from_read c.len-count.result c.in_ok-columns.columns.items c.in_ok-period.period c.in_ok-key.key.items c.in_ok-references.references.items count
          c.in_ok-columns.ensures.found.0 c.in_ok-period.ensures.found.0 c.in_ok-key.ensures.found.0 c.in_ok-references.ensures.found.0);
    }

pub returns-clause-found : goal.returns-clause-found
returns-clause-found c = (
  rw (c.from_vec.ensures, c.from_vec-3.ensures)
      (writable_from_read c.len-count.result c.in_ok-name.name c.in_ok-columns.columns.items c.in_ok-period.period c.in_ok-references.references.items
      c.in_ok-name.ensures.found.0 c.in_ok-columns.ensures.found.0 c.in_ok-period.ensures.found.0 c.in_ok-references.ensures.found.0),
  rw (c.from_vec.ensures, c.from_vec-2.ensures, c.from_vec-3.ensures)
      (all_values c.in_ok-name.name c.in_ok-columns.columns.items c.in_ok-period.period c.in_ok-key.key.items c.in_ok-references.references.items
      c.args.values.now c.in_ok-name.after_name.now c.in_ok-columns.after_columns.now c.in_ok-period.after_period.now c.in_ok-key.after_key.now c.in_ok-references.rest.now
      c.in_ok-name.ensures.found.1 c.in_ok-columns.ensures.found.1 c.in_ok-period.ensures.found.1 c.in_ok-key.ensures.found.1 c.in_ok-references.ensures.found.1
      (empty_by c.in_ok-references.rest.now (sym c.is_empty.ensures ∙ c.if-not-is_empty.false))),
)
