use Rattle.std.proofs.Common.{false, ◌∙◌}
use Rattle.sql_statements.specs.Lexemes.{lexemes}
use Rattle.sql_front.specs.LiteralTests.{is_bad_date, is_bad_moment, number_above, somewhere}
use Rattle.sql_front.proofs.DepthFacts.{deep_if}
use Rattle.sql_front.proofs.DepthFacts.{none_left as nothing_left}
use Rattle.sql_front.proofs.LiteralFaultFacts.{all_seen, bad_date_somewhere, bad_moment_somewhere, none_above, none_left, number_somewhere}
use Rattle.sql_front.proofs.piece_faults.faults_of.Goals as goal

pub returns-clause-dates : goal.returns-clause-dates
returns-clause-dates c =
    let ls = lexemes c.args.tokens.now in
    all_seen (somewhere is_bad_date ls) c.tokens.faults.bad_date _ (bad_date_somewhere ls) c.tokens.invariant.dates (none_left is_bad_date c.tokens.rest.now c.in_default.len_below)

pub returns-clause-moments : goal.returns-clause-moments
returns-clause-moments c =
    let ls = lexemes c.args.tokens.now in
    all_seen (somewhere is_bad_moment ls) c.tokens.faults.bad_moment _ (bad_moment_somewhere ls) c.tokens.invariant.moments (none_left is_bad_moment c.tokens.rest.now c.in_default.len_below)

pub returns-clause-numbers : goal.returns-clause-numbers
returns-clause-numbers c =
    let ls = lexemes c.args.tokens.now in
    all_seen (number_above false ls) c.tokens.faults.number_outside _ (number_somewhere ls) c.tokens.invariant.numbers (none_above c.tokens.minus c.tokens.rest.now c.in_default.len_below)

pub returns-clause-depth : goal.returns-clause-depth
returns-clause-depth c =
    let ls = lexemes c.args.tokens.now in
    deep_if ls c.is_exceeded.result (c.is_exceeded.ensures ∙ nothing_left c.tokens.room c.tokens.rest.now c.in_default.len_below ∙ c.tokens.invariant.depth)
