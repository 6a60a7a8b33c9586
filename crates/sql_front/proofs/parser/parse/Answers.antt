use Rattle.std.proofs.Common.{ap, inl, Err}
use Rattle.sql_statements.specs.Lexemes.{lexemes}
use Rattle.sql_statements.specs.Plain.{plain}
use Rattle.sql_front.proofs.Parsing.{no_statement, not_found, spelled_some}
use Rattle.sql_front.proofs.PieceFaults.{piece_least, piece_none}
use Rattle.sql_front.proofs.GrammarReadings.{spelled_exactly}
use Rattle.sql_front.proofs.Spelling.{no_fault}
use Rattle.sql_front.proofs.parser.parse.Goals as goal

pub returns-in-None-clause-found : goal.returns-in-None-clause-found
returns-in-None-clause-found c =
    let ls = lexemes c.args.tokens.now in
    spelled_exactly ls (plain c.in-Ok.statement) (no_fault ls (rw c.in-None.is at c.piece_faults-faults.ensures.none)) c.in-Ok.ensures.found

pub returns-in-None-clause-sound : goal.returns-in-None-clause-sound
returns-in-None-clause-sound c =
    piece_none (lexemes c.args.tokens.now)
    (not_found c.piece_faults-faults.result.too_deep c.if-faults.false c.piece_faults-faults.ensures.depth.1)
    (spelled_some (lexemes c.args.tokens.now) (plain c.in-Ok.statement) c.in-Ok.ensures.found)
    (rw c.in-None.is at c.piece_faults-faults.ensures.none)

pub returns-in-Some-clause-refused : goal.returns-in-Some-clause-refused
returns-in-Some-clause-refused c =
    inl (piece_least (lexemes c.args.tokens.now) c.in-Some.refusal
    (not_found c.piece_faults-faults.result.too_deep c.if-faults.false c.piece_faults-faults.ensures.depth.1)
    (spelled_some (lexemes c.args.tokens.now) (plain c.in-Ok.statement) c.in-Ok.ensures.found)
    (rw c.in-Some.is at c.piece_faults-faults.ensures.least))

pub returns-in-Err-Syntax-clause-refused : goal.returns-in-Err-Syntax-clause-refused
returns-in-Err-Syntax-clause-refused c =
    let shallow = not_found c.piece_faults-faults.result.too_deep c.if-faults.false c.piece_faults-faults.ensures.depth.1 in
    no_statement (lexemes c.args.tokens.now) shallow (c.in-Err-Syntax.ensures.none (ap (λ x. Err x) c.in-Err-Syntax.field-0-is) shallow)
