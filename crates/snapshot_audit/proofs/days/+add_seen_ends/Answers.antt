use Rattle.std.proofs.Common.{◌≡◌, ◌+◌, ◌++◌, ◌∷◌, [], ◌∙◌, ap, List, ℤ, map, take, sym, subst, arith}
use Rattle.std.proofs.lemmas.List.{map_more, map-append, take_all}
use Rattle.std.proofs.lemmas.Result.{on_ok_weaker}
use Rattle.period_core.specs.declared.row.PeriodRow.{PeriodRow}
use Rattle.catalog_core.specs.declared.query.resolved.Query as code
use Rattle.catalog_core.specs.declared.query.resolved.QueryReference.{QueryReference}
use Rattle.catalog_core.specs.query.Queries.{Query, both, plain_query, references_of, rows_for}
use Rattle.snapshot_audit.specs.ChangeDays.{seen_lists}
use Rattle.snapshot_audit.proofs.Changes.{HasEnds, HasEndsAmong, HasEndsAmong-more, HasEndsAmong-both}
use Rattle.snapshot_audit.proofs.days.+add_seen_ends.Goals as goal

pub loop-reference-preserved : goal.loop-reference-preserved
loop-reference-preserved t c =
    let old : List ℤ = c.args.days.now.items in
    let seen : QueryReference → List PeriodRow = rows_for c.args.tables.now in
    let references : List QueryReference = c.as_slice-reference-items.result.now in
    let k = c.loop-reference.reference-index in
    let more : map seen (take (k + 1) references) ≡ map seen (take k references) ++ seen c.reference-item.result ∷ [] =
    map_more seen references k c.reference-item.result c.loop-reference-test.true ∙ ap (λ r. map seen (take k references) ++ seen r ∷ []) (sym c.reference-item.is) in
    let ends : HasEnds c.loop-reference.days.items (seen c.reference-item.result) c.add_ends.new.days.items =
    subst (λ rows. HasEnds c.loop-reference.days.items rows c.add_ends.new.days.items) c.rows_for.ensures c.in_ok-add_ends-in-Select.ensures in
    subst (λ lists. HasEndsAmong old lists c.add_ends.new.days.items) (sym more)
    (HasEndsAmong-more old (map seen (take k references)) (seen c.reference-item.result) c.loop-reference.days.items c.add_ends.new.days.items c.loop-reference.invariant ends)

pub returns-after-loop-reference : goal.returns-after-loop-reference
returns-after-loop-reference t c =
    let old : List ℤ = c.args.days.now.items in
    let tables : List (List PeriodRow) = c.args.tables.now in
    let references : List QueryReference = c.as_slice-reference-items.result.now in
    let all : take c.loop-reference.reference-index references ≡ references = take_all c.loop-reference.reference-index references (omega arith) in
    let lists : map (rows_for tables) (take c.loop-reference.reference-index references) ≡ seen_lists (plain_query c.args.query.now) tables =
    ap (map (rows_for tables)) (all ∙ c.as_slice-reference-items.ensures.value) ∙ ap (λ (q : code.Query). seen_lists (plain_query q) tables) (sym c.in-Select.is) in
    subst (λ ls. HasEndsAmong old ls c.loop-reference.days.items) lists c.loop-reference.invariant

pub returns-in_ok-add_seen_ends-in-Combined : goal.returns-in_ok-add_seen_ends-in-Combined
returns-in_ok-add_seen_ends-in-Combined t c =
    let old : List ℤ = c.args.days.now.items in
    let tables : List (List PeriodRow) = c.args.tables.now in
    let left : Query = plain_query c.in-Combined.left.value in
    let right : Query = plain_query c.in-Combined.right.value in
    let days : List ℤ = c.add_seen_ends.new.days.items in
    let more : List ℤ = c.add_seen_ends-in-Combined.new.days.items in
    let is : plain_query c.args.query.now ≡ both c.in-Combined.field-0 left right = ap plain_query c.in-Combined.is in
    let lists : seen_lists left tables ++ seen_lists right tables ≡ seen_lists (plain_query c.args.query.now) tables =
    sym (map-append (rows_for tables) (references_of left) (references_of right)) ∙ ap (λ (q : Query). seen_lists q tables) (sym is) in
    let first : HasEndsAmong old (seen_lists left tables) days =
    subst (λ (q : code.Query). HasEndsAmong old (seen_lists (plain_query q) tables) days) c.deref.ensures c.in_ok-add_seen_ends-in-Combined.ensures in
    on_ok_weaker c.add_seen_ends-in-Combined.result (λ then.
    let second : HasEndsAmong days (seen_lists right tables) more =
    subst (λ (q : code.Query). HasEndsAmong days (seen_lists (plain_query q) tables) more) c.deref-in-Combined.ensures then in
    subst (λ ls. HasEndsAmong old ls more) lists (HasEndsAmong-both old (seen_lists left tables) (seen_lists right tables) days more first second))
    c.add_seen_ends-in-Combined.ensures
