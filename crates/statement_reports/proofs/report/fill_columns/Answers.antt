use Rattle.std.proofs.Common.{◌≡◌, ◌∷◌, ◌++◌, ℕ, List, [], codes, append_assoc}
use Rattle.std.specs.Fmt.{decimal}
use Rattle.statement_reports.specs.Report.{columns_record}
use Rattle.statement_reports.proofs.report.fill_columns.Goals as goal

fields : (n : ℕ) (names start numbered named a b c : List (List ℕ)) → start ≡ codes "columns" ∷ [] → numbered ≡ start ++ decimal n ∷ [] → named ≡ numbered ++ names → a ≡ named ++ codes "valid_from" ∷ [] → b ≡ a ++ codes "valid_to" ∷ [] → c ≡ b ++ codes "held" ∷ [] → c ++ codes "absent" ∷ [] ≡ columns_record n names
fields n names start numbered named a b c e1 e2 e3 e4 e5 e6 = rw (e6, e5, e4, e3, e2, e1) (simp append_assoc)

pub returns-clause-ok : goal.returns-clause-ok
returns-clause-ok c =
    let is = fields c.args.number c.args.columns.now c.start.new.self c.push_number.new.self c.push_texts.new.self c.push.new.self c.push-2.new.self c.push-3.new.self c.in_ok-start.ensures.ok c.in_ok-push_number.ensures.ok c.in_ok-push_texts.ensures.ok c.in_ok-push.ensures.ok c.in_ok-push-2.ensures.ok c.in_ok-push-3.ensures.ok in
    rw is at c.push-4.ensures.ok
