use Rattle.std.proofs.Common.{◌≡◌, ◌<ℤ◌, ◌≤ℤ◌, ◌∙◌, ℤ, [], IfSome, List, None, Option, Some, ap, arith, inl, inr, refl, subst, sym}
use Rattle.std.specs.Prelude.{MatchOption}
use Rattle.std.proofs.lemmas.Int.{ints}
use Rattle.period_core.specs.Moments.{first_moment}
use Rattle.sqlite.specs.Effect.{Database}
use Rattle.sqlite.specs.Held.{Held, state}
use Rattle.sqlite.specs.Schema.{Schema}
use Rattle.sqlite.specs.Store.{Ghosts}
use Rattle.history_model.specs.Histories.{History, clock_of}
use Rattle.period_core.specs.declared.version.VersionRow.{VersionRow}
use Rattle.catalog_core.specs.declared.table.catalog.Catalog.{Catalog}
use Rattle.version_tables.proofs.ColumnFacts.{never}
use Rattle.version_tables.proofs.There.{not_both_ways, store_is_whole}
use Rattle.version_tables.specs.Steps.{IsAsBefore}
use Rattle.version_tables.specs.Healthy.{IsHealthy}
use Rattle.version_tables.specs.Presence.{HasNoStoreTable}
use Rattle.version_tables.specs.Tables.{no_schema}
use Rattle.version_tables.specs.declared.form.Form.{Form}
use Rattle.version_tables.specs.declared.form.Form.TheVariants.{Microseconds, Seconds}
use Rattle.version_store.specs.Contents.{AreVersionsOf, Contents, empty_contents}
use Rattle.version_store.specs.GoodStore.{HaveTables, IsGoodStore}
use Rattle.version_store.specs.StoreState.{IsCreatedAfter, IsUsable, OpenedRepresents, OpenedState, StoreState}
use Rattle.version_store.specs.Units.{in_microseconds}
use Rattle.version_store.specs.Written.{HasIn}
use Rattle.version_store.proofs.Beside.{spares_then}
use Rattle.version_store.proofs.Opens.{has_contents, same_contents}
use Rattle.version_store.proofs.ReadRows.{none_of_nothing}
use Rattle.version_store.proofs.AfterCalls.{fault_since}
use Rattle.version_store.proofs.Units.{short_in}
use Rattle.script_engine.specs.engine.EngineState.{EngineState, engine_with}
use Rattle.script_engine.specs.engine.Ended.{AllEndedBy}
use Rattle.script_engine.specs.engine.Faults.{AreConstrained}
use Rattle.script_engine.specs.engine.InMemory.{AreReadOf, FollowCatalog}
use Rattle.script_engine.specs.engine.Opens.{IsAheadOf}
use Rattle.script_engine.specs.engine.Stored.{DatabaseRepresents, EngineRepresents}
use Rattle.script_engine.proofs.NewStore.{new_store}
use Rattle.script_engine.proofs.Openings.{all_points, good_and_lawful, good_history, good_tables, its_contents, other_points}
use Rattle.script_engine.proofs.engine.Engine.open_by.Goals as goal

-- the catalog and the lists read of an opened store are those of the contents that it represents
read_of : {S : Type 0} (g : Ghosts S) (opened : OpenedState S) (catalog : Catalog) (lists : List (List VersionRow)) (d : Contents) → catalog ≡ opened.store.catalog → OpenedRepresents g opened d → AreVersionsOf d lists → HaveTables d → AreReadOf d catalog.tables lists
read_of g opened catalog lists d is stored versions tabled = record { same = ap (λ (k : Catalog). k.tables) is ∙ stored.catalog; versions = versions; tabled = tabled }

-- there are two forms
seconds_else : (form : Form) → (form ≡ Microseconds → ⊥) → form ≡ Seconds
seconds_else Seconds none = refl
seconds_else Microseconds none = absurd (none refl)

pub returns-in-Ok-accept-clause-opened : goal.returns-in-Ok-accept-clause-opened
returns-in-Ok-accept-clause-opened g c =
    let new : EngineState g.row.S.Denot = engine_with c.in-Ok-accept.store c.in-Ok-load_lawful.loaded in
    let opened = c.in-Ok.found.0 in
    let accepted = c.in-Ok-accept.ensures in
    let read = read_of g.S.Store opened c.catalog.result.now c.in-Ok.found.1.items in
    let same : opened.form ≡ Microseconds → opened.store ≡ c.in-Ok-accept.store = λ form. sym (accepted.unwritten form).1 in
    record {
      represents = λ usable history stands.
          let before = accepted.usable usable in
          elim stands [
            | inl fresh ↦
                (let stored = c.in-Ok.ensures.fresh before fresh.0 in
                let its = read empty_contents c.catalog.ensures stored.0 (none_of_nothing c.in-Ok.found.1.items stored.1) tt in
                subst (λ (h : History). EngineRepresents g.S.Store h new) (sym fresh.1)
                (new_store g.S.Store new (record {
                  stored = accepted.accepted usable empty_contents stored.0;
                  current = c.in-Ok-load_lawful.ensures.loaded empty_contents its;
                  ended = c.in-Ok-load_lawful.ensures.ended empty_contents its;
                })))
            | inr it ↦
                (let d = in_microseconds it.0 it.1 in
                let stored = c.in-Ok.ensures.same before it.0 it.1 it.2 in
                let its = read d c.catalog.ensures stored (c.in-Ok.ensures.versions before it.0 it.1 it.2) (c.in-Ok.ensures.tabled before it.0 it.1 it.2) in
                record {
                  contents = d;
                  stored = accepted.accepted usable d stored;
                  said = it.3;
                  current = c.in-Ok-load_lawful.ensures.loaded d its;
                  ended = c.in-Ok-load_lawful.ensures.ended d its;
                })
          ];
      good = λ usable ours.
          let before = accepted.usable usable in
          elim (c.in-Ok.ensures.good before ours) [
            | inl none ↦ inl none
            | inr it ↦
                let d = its_contents it.0 in
                let its = read d c.catalog.ensures it.2 it.3 (good_tables it.0) in
                let lawful = c.in-Ok-load_lawful.ensures.lawful d its in
                inr (
                  all_points it.0 lawful,
                  good_history g.S.Store new _ it.0 lawful (record {
                    stored = accepted.accepted usable d it.2;
                    current = c.in-Ok-load_lawful.ensures.loaded d its;
                    ended = c.in-Ok-load_lawful.ensures.ended d its;
                  }),
                )
          ];
      beside = λ usable none counted.
          subst (λ (store : StoreState g.row.S.Denot). IsCreatedAfter (state g.S.Store c.args.connection) (state g.S.Store store.connection)) (same (c.in-Ok.ensures.empty none).2)
          (c.in-Ok.ensures.beside (accepted.usable usable) none counted);
      empty = λ none.
          let made = c.in-Ok.ensures.empty none in
          (ap (λ (k : Catalog). k.tables) accepted.kept.0 ∙ made.0, accepted.kept.1 ∙ made.1);
      unwritten = λ usable d has.
          let old : Database = (state g.S.Store c.args.connection).now in
          let before = accepted.usable usable in
          elim (c.in-Ok.ensures.unchanged before) [
            | inl none ↦ absurd (not_both_ways old.schema none (store_is_whole old.schema has.rows.schema))
            | inr as_before ↦
                let stored = c.in-Ok.ensures.same before Microseconds d has in
                let forms = same_contents old opened.form Microseconds stored.counted d (subst (λ (e : Database). HasIn opened.form e stored.counted) as_before.0 stored.now) has in
                subst (λ (store : StoreState g.row.S.Denot). IsAsBefore (state g.S.Store c.args.connection) (state g.S.Store store.connection)) (same forms.1) as_before
          ];
      healthy_new = λ usable empty count few.
          let before = accepted.usable usable in
          accepted.healthy usable empty_contents (c.in-Ok.ensures.fresh before empty).0 count (c.in-Ok.ensures.healthy before empty count few);
      healthy = λ usable history stands some left sound.
          let before = accepted.usable usable in
          let stored : (d : Contents) × OpenedRepresents g.S.Store opened d = elim stands [
            | inl fresh ↦ (empty_contents, (c.in-Ok.ensures.fresh before fresh.0).0)
            | inr it ↦ (in_microseconds it.0 it.1, c.in-Ok.ensures.same before it.0 it.1 it.2)
          ] in
          let kept : IsHealthy left (state g.S.Store opened.store.connection).now = elim (c.in-Ok.ensures.unchanged before) [
            | inl none ↦ absurd (some (ap (λ (k : Catalog). k.tables) accepted.kept.0 ∙ (c.in-Ok.ensures.empty none).0))
            | inr as_before ↦ subst (IsHealthy left) (sym as_before.0) sound
          ] in
          accepted.healthy usable stored.0 stored.1 left kept;
      others = spares_then g.S.Store c.args.connection opened.store.connection c.in-Ok-accept.store.connection c.in-Ok.ensures.others accepted.usable accepted.others;
      usable = λ usable. c.in-Ok.ensures.usable (accepted.usable usable);
    }

missing_in : (schema : Schema) → schema ≡ no_schema → HasNoStoreTable schema
missing_in schema empty = subst HasNoStoreTable (sym empty) (record { meta = refl; table = refl; version = refl })

-- a store that is not good for its first five points is not good, and a good one is read
pub returns-in-Err-clause-refused : goal.returns-in-Err-clause-refused
returns-in-Err-clause-refused g c = record {
  named = c.in-Err.ensures.named;
  bad = λ usable bad. let was = c.in-Err.ensures.bad usable bad in (was.0, λ good. was.1 (other_points good));
  why = record { why = λ usable good movable rowids. c.in-Err.ensures.why usable (other_points good) rowids; why_new = c.in-Err.ensures.why_new };
  none = c.in-Err.ensures.none;
}

-- a store that is refused has tables, so it was not made anew, and it was read alone
pub returns-in-Err-load_lawful-clause-refused : goal.returns-in-Err-load_lawful-clause-refused
returns-in-Err-load_lawful-clause-refused g c = record {
  named = c.in-Err-load_lawful.ensures.named;
  -- a store of which point 6 does not hold is no good one
  bad = λ handed bad.
      let before = subst (IsUsable g.S.Store) c.refuse.ensures.same handed in
      let old : Database = (state g.S.Store c.args.connection).now in (
        λ none. some (c.in-Ok.ensures.empty none).0,
        λ good.
            let five = other_points good in
            let has : HasIn five.form old five.contents =
            elim (c.in-Ok.ensures.good before (λ all. five.tables_there)) [
              | inl none ↦ absurd (some (c.in-Ok.ensures.empty none).0)
              | inr it ↦ elim (c.in-Ok.ensures.unchanged before) [
                | inl none ↦ absurd (some (c.in-Ok.ensures.empty none).0)
                | inr same ↦ let its = subst (λ (d : Database). HasIn c.in-Ok.found.0.form d it.2.counted) same.0 it.2.now in has_contents old five its.rows.untied its.rows.keyed
              ]
            ] in
            c.in-Err-load_lawful.ensures.bad (its_contents five) (its before good has) bad good.constrained,
      );
  why = record {
    -- the contents that are read of the store are good, and lawful
    why = λ handed good movable rowids.
        let before = subst (IsUsable g.S.Store) c.refuse.ensures.same handed in
        let five = other_points good in
        let has = has_contents (state g.S.Store c.args.connection).now five rowids.0 rowids.1 in
        inl (c.in-Err-load_lawful.ensures.why (its_contents five) (its before good has) (good_and_lawful good) (sym (c.clock-clock.ensures ∙ (c.in-Ok.ensures.same before five.form five.contents has).clock)));
    why_new = λ handed empty. absurd (some (c.in-Ok.ensures.empty (missing_in _ empty)).0);
  };
  none = λ handed.
      let usable = subst (IsUsable g.S.Store) c.refuse.ensures.same handed in
      elim (c.in-Ok.ensures.unchanged usable) [
        | inl none ↦ absurd (some (c.in-Ok.ensures.empty none).0)
        | inr same ↦ subst (λ (k : Held g.row.S.Denot). IsAsBefore (state g.S.Store c.args.connection) (state g.S.Store k)) (sym c.refuse.ensures.same) same
      ];
}
  where
    some : c.in-Ok.found.0.store.catalog.tables ≡ [] → ⊥
    some none = c.in-Err-load_lawful.ensures.some (ap (λ (k : Catalog). k.tables) c.catalog.ensures ∙ none)

    its : IsUsable g.S.Store c.in-Ok.found.0.store.connection → (good : IsGoodStore AreConstrained (state g.S.Store c.args.connection).now) → HasIn good.form (state g.S.Store c.args.connection).now good.contents → AreReadOf (its_contents (other_points good)) c.catalog.result.now.tables c.in-Ok.found.1.items
    its before good has =
        let five = other_points good in
        read_of g.S.Store c.in-Ok.found.0 c.catalog.result.now c.in-Ok.found.1.items (its_contents five) c.catalog.ensures (c.in-Ok.ensures.same before five.form five.contents has) (c.in-Ok.ensures.versions before five.form five.contents has) (good_tables five)

-- a store that cannot be moved is as it was opened: one of form 2 is accepted, and one of form 1 is moved
pub returns-in-Err-accept-clause-refused : goal.returns-in-Err-accept-clause-refused
returns-in-Err-accept-clause-refused g c = record {
  named = inr c.in-Err-accept.ensures.named;
  bad = λ usable bad. absurd (elim c.in-Err-accept.ensures.named [ inl memory ↦ cc | inr failed ↦ cc ]);
  why = record {
    why = λ usable good movable rowids.
        let before = c.in-Err-accept.ensures.was_usable usable in
        let old : Database = (state g.S.Store c.args.connection).now in
        let now : Database = (state g.S.Store c.in-Ok.found.0.store.connection).now in
        let five = other_points good in
        let has : HasIn five.form old five.contents = has_contents old five rowids.0 rowids.1 in
        let stored = c.in-Ok.ensures.same before five.form five.contents has in
        let written : c.in-Ok.found.0.form ≡ Microseconds → ⊥ = λ two. never (c.in-Err-accept.ensures.unwritten two).0 in
        let same : now ≡ old = elim (c.in-Ok.ensures.unchanged before) [ inl none ↦ absurd (written (c.in-Ok.ensures.empty none).2) | inr kept ↦ kept.0 ] in
        let forms = same_contents old c.in-Ok.found.0.form five.form stored.counted five.contents (subst (λ (e : Database). HasIn c.in-Ok.found.0.form e stored.counted) same stored.now) has in
        let seconds : five.form ≡ Seconds = seconds_else five.form (λ two. written (forms.1 ∙ two)) in
        let can = movable seconds in
        let failed = c.in-Err-accept.ensures.why usable _ stored (record { healthy = subst (IsHealthy 0) (sym same) can.healthy; short = short_in five.form five.contents.versions can.short }) in
        elim failed [
          | inl memory ↦ inl memory
          | inr fault ↦ inr (fault_since (state g.S.Store c.args.connection) (state g.S.Store c.in-Ok.found.0.store.connection) (state g.S.Store c.in-Err-accept.connection) c.in-Ok.ensures.faults fault)
        ];
    why_new = λ usable empty. absurd (never (c.in-Err-accept.ensures.unwritten (c.in-Ok.ensures.empty (missing_in _ empty)).2).0);
  };
  none = λ usable.
      let before = c.in-Err-accept.ensures.was_usable usable in
      let moved = c.in-Err-accept.ensures.none usable in
      elim (c.in-Ok.ensures.unchanged before) [
        | inl new ↦ absurd (never (c.in-Err-accept.ensures.unwritten (c.in-Ok.ensures.empty new).2).0)
        | inr same ↦ (moved.0 ∙ same.0, moved.1 ∙ same.1)
      ];
}

-- ---- a store whose clock is later than the latest moment

pub returns-in-Ok-accept-clause-by : goal.returns-in-Ok-accept-clause-by
returns-in-Ok-accept-clause-by g c =
    subst (λ (clock : ℤ). IfSome c.args.latest (λ moment. clock ≤ℤ moment)) (c.clock-clock.ensures ∙ sym c.in-Ok-accept.ensures.kept.1)
    (c.is_after.ensures.up_to c.if-is_after.false)

pub returns-then-is_after-clause-refused : goal.returns-then-is_after-clause-refused
returns-then-is_after-clause-refused g c = ahead c.args.latest (c.is_after.ensures.later c.if-is_after.true)
  where
    -- whatever history the database stands for, the store has its clock
    clock_is : IsUsable g.S.Store c.refuse-then-is_after.result → (history : History) → DatabaseRepresents history (state g.S.Store c.args.connection).now → c.clock-clock.result ≡ clock_of history
    clock_is handed history stands =
        let usable = subst (IsUsable g.S.Store) c.refuse-then-is_after.ensures.same handed in
        c.clock-clock.ensures ∙ elim stands [
          | inl (empty, is) ↦ (c.in-Ok.ensures.empty (missing_in _ empty)).1 ∙ ap clock_of (sym is)
          | inr (form, d, has, said) ↦ (c.in-Ok.ensures.same usable form d has).clock ∙ said.clock
        ]

    -- the store was not made anew, since the clock is not the first moment, and it was read alone
    as_before : IsUsable g.S.Store c.refuse-then-is_after.result → IsAsBefore (state g.S.Store c.args.connection) (state g.S.Store c.refuse-then-is_after.result)
    as_before handed = elim (c.in-Ok.ensures.unchanged (subst (IsUsable g.S.Store) c.refuse-then-is_after.ensures.same handed)) [
      | inl none ↦
          let first = c.clock-clock.ensures ∙ (c.in-Ok.ensures.empty none).1 in
          let wrong : first_moment <ℤ first_moment = subst (λ (clock : ℤ). first_moment <ℤ clock) first (c.is_after.ensures.moved c.if-is_after.true) in
          absurd (omega (arith, ints, wrong))
      | inr same ↦ subst (λ (k : Held g.row.S.Denot). IsAsBefore (state g.S.Store c.args.connection) (state g.S.Store k)) (sym c.refuse-then-is_after.ensures.same) same
    ]

    ahead : (latest : Option ℤ) → MatchOption latest ⊥ (λ moment. moment <ℤ c.clock-clock.result) → MatchOption latest ⊥ (IsAheadOf g.S.Store c.args.connection c.refuse-then-is_after.result)
    ahead (Some moment) late = record { later = λ usable history stands. subst (λ (clock : ℤ). moment <ℤ clock) (clock_is usable history stands) late; none = as_before }
    ahead None late = late

-- ---- the engine that is made of an opened store

pub invariant_of-result : goal.invariant_of-result
invariant_of-result g c = (
  subst (λ (k : Catalog). FollowCatalog k.tables c.in-Ok-load_lawful.loaded.current) (c.catalog.ensures ∙ sym c.in-Ok-accept.ensures.kept.0) c.in-Ok-load_lawful.ensures.follow,
  subst (λ (clock : ℤ). AllEndedBy clock c.in-Ok-load_lawful.loaded.ended) (c.clock-clock.ensures ∙ sym c.in-Ok-accept.ensures.kept.1) c.in-Ok-load_lawful.ensures.before,
)
