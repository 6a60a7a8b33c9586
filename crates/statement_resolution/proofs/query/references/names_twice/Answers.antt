use Rattle.std.proofs.Common.{◌≡◌, ◌∙◌, ap, sym, take_all}
use Rattle.std.specs.List.{list_any}
use Rattle.std.proofs.lemmas.List.Folds.{list_any_at}
use Rattle.statement_resolution.proofs.lemmas.query.ReferenceLists.{Borrowed, any_next, known_to, twice_by}
use Rattle.catalog_core.specs.table.Naming.{known_name}
use Rattle.catalog_core.specs.table.Matches.{is_matching}
use Rattle.catalog_core.specs.table.Naming.{Name, matches_among}
use Rattle.catalog_core.specs.declared.table.match_counts.MatchCount.TheVariants.{Many}
use Rattle.statement_resolution.proofs.query.references.names_twice.Goals as goal

pub returns-then-is : goal.returns-then-is
returns-then-is c =
    let rs = c.args.references.now in
    let r = c.reference-item.result in
    let known = λ (x : Borrowed). known_name x.now in
    let test : known_to rs r ≡ c.is.result =
    ap (λ (name : Name). is_matching Many (matches_among known rs name)) (sym c.known_name.ensures) ∙ ap (is_matching Many) (sym c.matches_among.ensures) ∙ sym c.is.ensures in
    sym (twice_by rs ∙ list_any_at (known_to rs) rs c.loop-reference.reference-index r c.loop-reference-test.true (ap (known_to rs) (sym c.reference-item.is) ∙ test ∙ c.if-is.true))

pub loop-reference-preserved : goal.loop-reference-preserved
loop-reference-preserved c =
    let rs = c.args.references.now in
    let r = c.reference-item.result in
    let known = λ (x : Borrowed). known_name x.now in
    let test : known_to rs r ≡ c.is.result =
    ap (λ (name : Name). is_matching Many (matches_among known rs name)) (sym c.known_name.ensures) ∙ ap (is_matching Many) (sym c.matches_among.ensures) ∙ sym c.is.ensures in
    any_next (known_to rs) rs c.loop-reference.reference-index r c.loop-reference-test.true c.reference-item.is c.loop-reference.invariant (test ∙ c.if-is.false)

pub returns : goal.returns
returns c =
    let rs = c.args.references.now in
    sym (twice_by rs ∙ ap (list_any (known_to rs)) (sym (take_all c.loop-reference.reference-index rs c.loop-reference-test.false)) ∙ c.loop-reference.invariant)
