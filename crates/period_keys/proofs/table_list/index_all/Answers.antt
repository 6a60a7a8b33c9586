use Rattle.std.proofs.Common.{◌≡◌, ◌<◌, ◌+◌, ◌∙◌, ℕ, List, ap, arith, inl, inr, length, refl, subst, sym}
use Rattle.std.specs.Prelude.{Contains}
use Rattle.std.specs.List.{slice_get}
use Rattle.std.proofs.lemmas.Bool.{cases_lt}
use Rattle.std.proofs.lemmas.Option.{slice_get_read}
use Rattle.catalog_core.specs.declared.table.TableDef.{TableDef}
use Rattle.period_keys.specs.Current.{IsIndexed}
use Rattle.period_keys.specs.TableRows.{TableRows}
use Rattle.period_keys.proofs.LawfulFacts.{definition_is}
use Rattle.period_keys.proofs.TableLists.{all_indexed, have_more_refl, have_more_trans, indexed_still}
use Rattle.period_keys.proofs.table_list.index_all.Goals as goal

pub loop-place-init : goal.loop-place-init
loop-place-init c = record { kept = have_more_refl c.args.tables.now; done = λ k child below is. absurd (omega (arith, below)) }

pub index_table-requires : goal.index_table-requires
index_table-requires c =
    let size : length c.loop-place.tables ≡ length c.args.definitions.now = c.loop-place.auto.tables ∙ c.requires in
    record { count = size; place = subst (λ n. c.loop-place.place < n) (sym size) c.loop-place-test.true }

pub loop-place-preserved : goal.loop-place-preserved
loop-place-preserved c =
    let definitions : List TableDef = c.args.definitions.now in
    let place : ℕ = c.loop-place.place in
    let here : TableDef = c.index-definitions-place.result in
    let new : List TableRows = c.index_table.new.tables in
    record {
      kept = have_more_trans c.args.tables.now c.loop-place.tables new c.loop-place.invariant.kept c.index_table.ensures.kept;
      done = λ k child below is reference parent there parent_is. elim (cases_lt k place) [
        | inl before ↦ indexed_still c.loop-place.tables new (k + 1) child reference parent c.index_table.ensures.kept (c.loop-place.invariant.done k child before is reference parent there parent_is)
        | inr ge ↦
            let same : place ≡ k = omega (arith, below, ge) in
            let here_is : here ≡ child = definition_is here child (sym (slice_get_read definitions (length definitions) place here refl c.loop-place-test.true c.index-definitions-place.is) ∙ ap (slice_get definitions) same ∙ is) in
            subst (λ (n : ℕ). IsIndexed new (n + 1) child reference parent) same
            (subst (λ (d : TableDef). IsIndexed new (place + 1) d reference parent) here_is
            (c.in_ok-index_table.ensures.ok reference parent (subst (λ (d : TableDef). Contains d.references reference) (sym here_is) there) parent_is))
      ];
    }

pub returns-clause-ok : goal.returns-clause-ok
returns-clause-ok c = all_indexed c.args.definitions.now c.loop-place.tables c.loop-place.place (omega (arith, c.loop-place-test.false)) c.loop-place.invariant.done

pub returns-clause-kept : goal.returns-clause-kept
returns-clause-kept c = c.loop-place.invariant.kept

pub returns-in_err-index_table-clause-kept : goal.returns-in_err-index_table-clause-kept
returns-in_err-index_table-clause-kept c = have_more_trans c.args.tables.now c.loop-place.tables c.index_table.new.tables c.loop-place.invariant.kept c.index_table.ensures.kept
