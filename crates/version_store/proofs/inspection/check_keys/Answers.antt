use Rattle.std.proofs.Common.{subst, sym}
use Rattle.std.proofs.lemmas.Result.{err_from_is_err_and}
use Rattle.sqlite.proofs.Callers.{unchanged_then}
use Rattle.sqlite.specs.Effect.{Database}
use Rattle.sqlite.specs.Held.{state}
use Rattle.version_tables.proofs.There.{store_has_key}
use Rattle.version_tables.specs.Tables.{HasStoreTables}
use Rattle.version_store.proofs.inspection.check_keys.Goals as goal

pub returns-clause-own : goal.returns-clause-own
returns-clause-own g c clean has = c.in_ok-check_numbers.ensures.own (c.repeats_key.ensures.clean clean) has

pub returns-clause-unchanged : goal.returns-clause-unchanged
returns-clause-unchanged g c clean =
    let before = c.in_ok-check_numbers.ensures.unchanged (c.repeats_key.ensures.clean clean) in
    unchanged_then (state g.S.Store c.args.connection.now) (state g.S.Store c.check_numbers.new.connection) (state g.S.Store c.repeats_key.new.connection) before (c.in_ok-repeated.ensures.unchanged before.0.is_open clean)

-- ---- a refusal of the numbers

pub returns-in_err-check_numbers-clause-why : goal.returns-in_err-check_numbers-clause-why
returns-in_err-check_numbers-clause-why g c clean has on own =
    let p = err_from_is_err_and c.from_residual.result c.from_residual.ensures.1 in
    rw (p.1, p.2) (c.in_err-check_numbers.ensures.why clean has on own)

pub returns-in_err-check_numbers-clause-other : goal.returns-in_err-check_numbers-clause-other
returns-in_err-check_numbers-clause-other g c clean has =
    let p = err_from_is_err_and c.from_residual.result c.from_residual.ensures.1 in
    rw (p.1, p.2) c.in_err-check_numbers.ensures.other

-- ---- the three tables of a store have the key, so nothing is searched

pub returns-in_err-repeated-clause-why : goal.returns-in_err-repeated-clause-why
returns-in_err-repeated-clause-why g c clean has on own =
    let before = c.in_ok-check_numbers.ensures.unchanged (c.repeats_key.ensures.clean clean) in
    let none = c.in_err-repeated.ensures.keyed (store_has_key _ (subst (λ (d : Database). HasStoreTables d.schema) (sym before.0.now_is) has)) in
    absurd cc

pub returns-in_err-repeated-clause-other : goal.returns-in_err-repeated-clause-other
returns-in_err-repeated-clause-other g c clean has =
    let before = c.in_ok-check_numbers.ensures.unchanged (c.repeats_key.ensures.clean clean) in
    let none = c.in_err-repeated.ensures.keyed (store_has_key _ (subst (λ (d : Database). HasStoreTables d.schema) (sym before.0.now_is) has)) in
    absurd cc

pub returns-then-repeated-clause-why : goal.returns-then-repeated-clause-why
returns-then-repeated-clause-why g c clean has on own =
    let before = c.in_ok-check_numbers.ensures.unchanged (c.repeats_key.ensures.clean clean) in
    let none = c.in_ok-repeated.ensures.keyed (store_has_key _ (subst (λ (d : Database). HasStoreTables d.schema) (sym before.0.now_is) has)) in
    let found = c.if-repeated.true in
    absurd cc

pub returns-then-repeated-clause-other : goal.returns-then-repeated-clause-other
returns-then-repeated-clause-other g c clean has =
    let before = c.in_ok-check_numbers.ensures.unchanged (c.repeats_key.ensures.clean clean) in
    let none = c.in_ok-repeated.ensures.keyed (store_has_key _ (subst (λ (d : Database). HasStoreTables d.schema) (sym before.0.now_is) has)) in
    let found = c.if-repeated.true in
    absurd cc
