use Rattle.std.proofs.Common.{◌≡◌, ◌<◌, length, get_or, ◌++◌, ◌∷◌, [], ◌+◌, List, take, sym, ◌∙◌, ap, subst, arith, append_assoc}
use Rattle.std.proofs.lemmas.List.{take_more, get_or_default}
use Rattle.std.proofs.lemmas.List.Sorted.{IsPermutation-append_comm}
use Rattle.period_core.specs.declared.row.PeriodRow.{PeriodRow}
use Rattle.period_keys.specs.Index.{IsIndexOf}
use Rattle.period_keys.proofs.Indexes.{index_more, index_moved, index_same, key_at}
use Rattle.period_keys.proofs.changes.add_rows.Goals as goal

pub loop-i-preserved : goal.loop-i-preserved
loop-i-preserved c = λ positions before made was.
    let rows : List PeriodRow = c.args.rows.now in
    let i = c.loop-i.i in
    let read : PeriodRow = c.index-rows-i.result in
    let row : PeriodRow = get_or rows i read in
    let below : i < length rows = omega arith in
    let is : row ≡ get_or rows i row = get_or_default rows i read row below in
    let more : before ++ take (i + 1) rows ≡ (before ++ take i rows) ++ row ∷ [] =
    ap (λ list. before ++ list) (take_more rows i row (omega arith) ∙ ap (λ x. take i rows ++ x ∷ []) (sym is)) ∙ sym (append_assoc before (take i rows) (row ∷ [])) in
    subst (λ (list : List PeriodRow). IsIndexOf positions list c.add.new.self) (sym more)
    (index_more positions (before ++ take i rows) row c.loop-i.index c.add.new.self c.index-keys-i.result
    (key_at positions c.args.keys.now rows i c.index-keys-i.result row made (omega arith) c.index-keys-i.is is)
    c.in_default.ensures.ok (c.loop-i.invariant positions before made was))

pub returns-in-Err-clause-err : goal.returns-in-Err-clause-err
returns-in-Err-clause-err c = λ positions before made was.
    let rows : List PeriodRow = c.args.rows.now in
    let i = c.loop-i.i in
    c.take_first.ensures positions before made
    (index_moved positions (before ++ take i rows) (take i rows ++ before) c.add.new.self (IsPermutation-append_comm before (take i rows))
    (index_same positions (before ++ take i rows) c.loop-i.index c.add.new.self c.in-Err.ensures.err (c.loop-i.invariant positions before made was)))
