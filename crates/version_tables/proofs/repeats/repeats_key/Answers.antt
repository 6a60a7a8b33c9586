use Rattle.std.proofs.Common.{◌↔◌, IsTrue, [], arith, refl, rules, subst}
use Rattle.std.proofs.lemmas.Result.{err_from_is_err_and}
use Rattle.sqlite.specs.Held.{state}
use Rattle.sqlite.proofs.StateLemmas.{unchanged}
use Rattle.version_tables.specs.Rows.{RepeatKey}
use Rattle.version_tables.specs.Texts.{keys_text}
use Rattle.version_tables.proofs.Reasons.{keeps_faults}
use Rattle.version_tables.proofs.Selects.{keys_read, query_keeps, unchanged_by}
use Rattle.version_tables.proofs.repeats.repeats_key.Goals as goal

-- ---- a table with its key is not read

pub returns-then-key_there-clause-unchanged : goal.returns-then-key_there-clause-unchanged
returns-then-key_there-clause-unchanged g c on clean = unchanged (state g.S.Store c.args.connection.now) on

pub returns-then-key_there-clause-same : goal.returns-then-key_there-clause-same
returns-then-key_there-clause-same g c clean = record { was_open = λ on. on; now = λ on. refl; committed = λ on. refl }

pub returns-then-key_there-clause-faults : goal.returns-then-key_there-clause-faults
returns-then-key_there-clause-faults g c = record { faults = omega arith; limit = refl }

-- ---- the keys of another table, in a query that fails

pub returns-in_err-keys-clause-unchanged : goal.returns-in_err-keys-clause-unchanged
returns-in_err-keys-clause-unchanged g c on clean =
    let p = err_from_is_err_and c.from_residual.result c.from_residual.ensures.1 in
    rw p.1 tt

pub returns-in_err-keys-clause-same : goal.returns-in_err-keys-clause-same
returns-in_err-keys-clause-same g c clean =
    query_keeps keys_text keys_read [] (state g.S.Store c.args.connection.now) (state g.S.Store c.query_all.new.self) (search rules) c.query_all.result (c.query_all.ensures.ok clean) (c.query_all.ensures.err clean)

pub returns-in_err-keys-clause-faults : goal.returns-in_err-keys-clause-faults
returns-in_err-keys-clause-faults g c = keeps_faults (state g.S.Store c.args.connection.now) (state g.S.Store c.query_all.new.self) c.query_all.ensures.survives

-- ---- the keys of another table are read

pub returns-clause-searched : goal.returns-clause-searched
returns-clause-searched g c clean none = (
  c.in_ok-keys.keys.items,
  c.in_ok-keys.ensures.ok clean,
  subst (λ rows. IsTrue c.repeat_key.result ↔ RepeatKey rows) c.deref.ensures.value c.repeat_key.ensures,
)

pub returns-clause-unchanged : goal.returns-clause-unchanged
returns-clause-unchanged g c on clean =
    unchanged_by keys_text keys_read [] (state g.S.Store c.args.connection.now) (state g.S.Store c.query_all.new.self) c.in_ok-keys.keys.items (c.in_ok-keys.ensures.ok clean)

pub returns-clause-same : goal.returns-clause-same
returns-clause-same g c clean =
    query_keeps keys_text keys_read [] (state g.S.Store c.args.connection.now) (state g.S.Store c.query_all.new.self) (search rules) c.query_all.result (c.query_all.ensures.ok clean) (c.query_all.ensures.err clean)

pub returns-clause-faults : goal.returns-clause-faults
returns-clause-faults g c = keeps_faults (state g.S.Store c.args.connection.now) (state g.S.Store c.query_all.new.self) c.query_all.ensures.survives
