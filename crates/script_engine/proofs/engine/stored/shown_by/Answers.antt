use Rattle.std.proofs.Common.{◌≡◌, ◌++◌, ◌∙◌, List, ap, map, refl, rules, subst, sym}
use Rattle.std.proofs.lemmas.List.{map-id}
use Rattle.std.specs.List.Sorted.{IsPermutation}
use Rattle.catalog_core.specs.stored.StoredAnswers.{shown_versions}
use Rattle.period_core.specs.declared.version.VersionRow.{VersionRow}
use Rattle.period_keys.specs.Current.{rows_by_key}
use Rattle.script_engine.specs.declared.engine.reading.Access.{Access}
use Rattle.script_engine.specs.engine.Ended.{HasEnded, ended_in}
use Rattle.script_engine.specs.engine.InMemory.{HaveCurrentRows}
use Rattle.script_engine.specs.engine.Reading.{versions_in}
use Rattle.script_engine.specs.engine.TablesState.{TablesState}
use Rattle.script_engine.proofs.Seen.{all_in_memory}
use Rattle.script_engine.proofs.StoredShown.{read_shown, shown_of_memory}
use Rattle.script_engine.proofs.engine.stored.shown_by.Goals as goal

pub returns-clause-right : goal.returns-clause-right
returns-clause-right c = λ d current closed.
    let query = c.args.query.now in
    let number = query.table in
    let state = c.rows_of.new.tables in
    let tables = map rows_by_key state.current in
    let its : HaveCurrentRows d tables = subst (λ (t : TablesState). HaveCurrentRows d (map rows_by_key t.current)) (sym c.rows_of.ensures.same) current in
    let ended : HasEnded d number (ended_in state.ended number) = subst (λ (t : TablesState). HasEnded d number (ended_in t.ended number)) (sym c.rows_of.ensures.same) (closed number) in
    let all : List VersionRow = versions_in tables number ended.versions in
    let (some, read, made) = c.in_ok-read_chained.ensures.read ended.versions ended.held in
    let shown : List VersionRow = c.read_chained.new.rows.items in
    let access : Access = record { window = query.window; table = number; rows = c.in_ok-rows_of.field-0 } in
    let same : shown ≡ shown_versions query all =
    made ∙ ap (λ (l : List VersionRow). l ++ map (λ (v : VersionRow). v) some) c.new-shown.ensures.items ∙ map-id some ∙ read_shown query access refl c.in_ok-rows_of.ensures.left all some read in
    shown_of_memory d query all c.sort.new.self.items (all_in_memory d tables number (ended_in state.ended number) its ended)
    (subst (λ (l : List VersionRow). IsPermutation l c.sort.new.self.items) same (search rules)) (search rules)
