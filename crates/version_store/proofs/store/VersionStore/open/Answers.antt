use Rattle.std.proofs.Common.{◌≡◌, ◌∙◌, ℤ, [], IsTrue, ap, ap₂, arith, inl, inr, refl, rules, subst, subst₂, sym, w64, to_z, of_z}
use Rattle.std.proofs.lemmas.Int.{ints}
use Rattle.sqlite.specs.Effect.{Database}
use Rattle.sqlite.specs.Held.{state}
use Rattle.sqlite.specs.Schema.{Schema}
use Rattle.version_tables.proofs.There.{not_both_ways, store_is_whole}
use Rattle.version_tables.specs.Forms.{IsNumberIn, moment_in}
use Rattle.version_tables.specs.Good.{IsClock}
use Rattle.version_tables.specs.Presence.{HasNoStoreTable}
use Rattle.version_tables.specs.Tables.{no_schema}
use Rattle.version_tables.specs.declared.form.Form.{Form}
use Rattle.version_tables.specs.declared.presence.Presence.TheVariants.{Missing, Partial, Whole}
use Rattle.version_store.proofs.Opens.{are_dated, good_dated, have_tables, same_contents}
use Rattle.version_store.proofs.Beside.{spares_same}
use Rattle.version_store.proofs.Opened.{opened_new}
use Rattle.version_store.proofs.Units.{tables_in}
use Rattle.version_store.specs.Contents.{AreVersionsOf, empty_contents}
use Rattle.version_store.specs.GoodStore.{AreLawful}
use Rattle.version_store.specs.Units.{in_microseconds}
use Rattle.version_store.specs.Written.{HasIn}
use Rattle.version_store.proofs.store.VersionStore.open.Goals as goal

partial_missing : Partial ≡ Missing → ⊥
partial_missing e = absurd cc

partial_whole : Partial ≡ Whole → ⊥
partial_whole e = absurd cc

-- a database without tables has none of the three
missing_in : (schema : Schema) → schema ≡ no_schema → HasNoStoreTable schema
missing_in schema empty = subst HasNoStoreTable (sym empty) (record { meta = refl; table = refl; version = refl })

pub returns-in-Ok-clause-good : goal.returns-in-Ok-clause-good
returns-in-Ok-clause-good g c = λ usable ours. inl (c.in-Missing.ensures.missing.0 refl)

pub returns-in-Ok-clause-fresh : goal.returns-in-Ok-clause-fresh
returns-in-Ok-clause-fresh g c = λ usable none. (opened_new g.S.Store c.in-Ok.store empty_contents (c.in-Ok.ensures.fresh usable none), c.new.ensures.items)

pub returns-in-Ok-clause-versions : goal.returns-in-Ok-clause-versions
returns-in-Ok-clause-versions g c = λ usable form d has. absurd (not_both_ways c.args.connection.schema (c.in-Missing.ensures.missing.0 refl) (store_is_whole c.args.connection.schema has.rows.schema))

pub returns-in-Ok-clause-same : goal.returns-in-Ok-clause-same
returns-in-Ok-clause-same g c = λ usable form d has. absurd (not_both_ways c.args.connection.schema (c.in-Missing.ensures.missing.0 refl) (store_is_whole c.args.connection.schema has.rows.schema))

pub returns-in-Ok-clause-tabled : goal.returns-in-Ok-clause-tabled
returns-in-Ok-clause-tabled g c = λ usable form d has. absurd (not_both_ways c.args.connection.schema (c.in-Missing.ensures.missing.0 refl) (store_is_whole c.args.connection.schema has.rows.schema))

pub returns-in-Ok-clause-unchanged : goal.returns-in-Ok-clause-unchanged
returns-in-Ok-clause-unchanged g c = λ usable. inl (c.in-Missing.ensures.missing.0 refl)

pub returns-in-Ok-clause-lawful : goal.returns-in-Ok-clause-lawful
returns-in-Ok-clause-lawful g c = subst (AreLawful []) (sym c.in-Ok.ensures.empty.0) tt

pub returns-in-Ok-clause-empty : goal.returns-in-Ok-clause-empty
returns-in-Ok-clause-empty g c = λ none. (c.in-Ok.ensures.empty.0, c.in-Ok.ensures.empty.1, refl)

pub returns-in-Partial-clause-bad : goal.returns-in-Partial-clause-bad
returns-in-Partial-clause-bad g c = λ usable _. (
  λ none. partial_missing (c.in-Partial.ensures.missing.1 none),
  λ good. partial_whole (c.in-Partial.ensures.whole.1 (store_is_whole c.args.connection.schema good.tables_there)),
)

pub returns-in-Err-inspect-clause-bad : goal.returns-in-Err-inspect-clause-bad
returns-in-Err-inspect-clause-bad g c = λ usable bad. (
  λ none. not_both_ways c.args.connection.schema none (c.in-Whole.ensures.whole.0 refl),
  λ good. c.in-Err-inspect.ensures.bad usable.0 usable.1 good.tables_there (c.from.ensures.1 bad) good,
)

-- the number of a clock that was found is in the form's unit
no_clock : {P : Type 0} (form : Form) (n : ℤ) → IsClock form n → ¬ IsNumberIn form n → P
no_clock form n is none = absurd (none (is.0, let below = is.1 in omega (arith, ints, below)))

pub returns-in-None-clause-bad : goal.returns-in-None-clause-bad
returns-in-None-clause-bad g c =
    let n : to_z w64 (of_z w64 c.in-Ok-inspect.number) ≡ c.in-Ok-inspect.number = search rules in
    no_clock c.in-Ok-inspect.form c.in-Ok-inspect.number c.in-Ok-inspect.ensures.clock (rw n at c.in-None.ensures)

pub returns-in-Some-clause-good : goal.returns-in-Some-clause-good
returns-in-Some-clause-good g c = λ usable ours.
    let has = ours (c.in-Whole.ensures.whole.0 refl) in
    let settled : IsTrue (state g.S.Store c.args.connection).is_open → (state g.S.Store c.args.connection).now ≡ (state g.S.Store c.args.connection).committed = search rules in
    let found = c.in-Ok-inspect.ensures.good usable.0 usable.1 has in
    let same = c.in-Ok-inspect.ensures.same usable.0 in
    let n : to_z w64 (of_z w64 c.in-Ok-inspect.number) ≡ c.in-Ok-inspect.number = search rules in
    let clock = rw n at c.in-Some.ensures.1 in
    inr (
      found.0,
      found.3,
      record {
        counted = found.0.contents;
        same = ap (λ (f : Form). in_microseconds f found.0.contents) (sym found.3);
        now = subst₂ (λ (f : Form) (d : Database). HasIn f d found.0.contents) found.3 (sym (same.now usable.1)) found.1;
        committed = same.committed usable.1 ∙ sym (settled (same.was_open usable.1)) ∙ sym (same.now usable.1);
        catalog = sym found.2;
        clock = clock ∙ ap₂ moment_in (sym found.3) (sym found.4);
        dated = good_dated found.0;
      },
      subst (λ (f : Form). AreVersionsOf (in_microseconds f found.0.contents) c.in-Ok-inspect.versions.items) (sym found.3)
          (c.in-Ok-inspect.ensures.versions usable.0 usable.1 found.0.contents (subst (λ (f : Form). HasIn f (state g.S.Store c.args.connection).now found.0.contents) found.3 found.1)),
    )

pub returns-in-Some-clause-versions : goal.returns-in-Some-clause-versions
returns-in-Some-clause-versions g c = λ usable form d is.
    let old = (state g.S.Store c.args.connection).now in
    let found = c.in-Ok-inspect.ensures.good usable.0 usable.1 is.rows.schema in
    let forms : form ≡ c.in-Ok-inspect.form = sym (same_contents old found.0.form form found.0.contents d found.1 is).1 ∙ found.3 in
    subst (λ (f : Form). AreVersionsOf (in_microseconds f d) c.in-Ok-inspect.versions.items) (sym forms)
    (c.in-Ok-inspect.ensures.versions usable.0 usable.1 d (subst (λ (f : Form). HasIn f old d) forms is))

pub returns-in-Some-clause-same : goal.returns-in-Some-clause-same
returns-in-Some-clause-same g c = λ usable form d is.
    let old = (state g.S.Store c.args.connection).now in
    let settled : IsTrue (state g.S.Store c.args.connection).is_open → (state g.S.Store c.args.connection).now ≡ (state g.S.Store c.args.connection).committed = search rules in
    let found = c.in-Ok-inspect.ensures.good usable.0 usable.1 is.rows.schema in
    let same = c.in-Ok-inspect.ensures.same usable.0 in
    let one = same_contents old found.0.form form found.0.contents d found.1 is in
    let n : to_z w64 (of_z w64 c.in-Ok-inspect.number) ≡ c.in-Ok-inspect.number = search rules in
    let clock = rw n at c.in-Some.ensures.1 in
    let forms : form ≡ c.in-Ok-inspect.form = sym one.1 ∙ found.3 in
    record {
      counted = d;
      same = ap (λ (f : Form). in_microseconds f d) (sym forms);
      now = subst₂ (λ (f : Form) (e : Database). HasIn f e d) forms (sym (same.now usable.1)) is;
      committed = same.committed usable.1 ∙ sym (settled (same.was_open usable.1)) ∙ sym (same.now usable.1);
      catalog = sym found.2 ∙ one.0;
      clock = clock ∙ ap₂ moment_in (sym forms) (sym found.4 ∙ one.2);
      dated = are_dated old form d found.0 one.1 is;
    }

pub returns-in-Some-clause-tabled : goal.returns-in-Some-clause-tabled
returns-in-Some-clause-tabled g c = λ usable form d is.
    let found = c.in-Ok-inspect.ensures.good usable.0 usable.1 is.rows.schema in
    tables_in form d (have_tables (state g.S.Store c.args.connection).now form d found.0 found.1 is)

pub returns-in-Some-clause-unchanged : goal.returns-in-Some-clause-unchanged
returns-in-Some-clause-unchanged g c = λ usable. let same = c.in-Ok-inspect.ensures.same usable.0 in inr (same.now usable.1, same.committed usable.1)

pub returns-in-Some-clause-empty : goal.returns-in-Some-clause-empty
returns-in-Some-clause-empty g c = λ none. absurd (not_both_ways c.args.connection.schema none (c.in-Whole.ensures.whole.0 refl))

pub returns-in-Some-clause-beside : goal.returns-in-Some-clause-beside
returns-in-Some-clause-beside g c = λ usable none. absurd (not_both_ways c.args.connection.schema none (c.in-Whole.ensures.whole.0 refl))

pub returns-in-Ok-clause-others : goal.returns-in-Ok-clause-others
returns-in-Ok-clause-others g c = λ usable clean has. absurd (not_both_ways c.args.connection.schema (c.in-Missing.ensures.missing.0 refl) (store_is_whole c.args.connection.schema has))

pub returns-in-Some-clause-others : goal.returns-in-Some-clause-others
returns-in-Some-clause-others g c = spares_same g.S.Store c.args.connection c.inspect.new.connection (λ usable. (c.in-Ok-inspect.ensures.same usable.0).now usable.1)

-- ---- why a good store is refused

pub returns-in-Err-clause-why : goal.returns-in-Err-clause-why
returns-in-Err-clause-why g c = λ usable good own. absurd (not_both_ways c.args.connection.schema (c.in-Missing.ensures.missing.0 refl) (store_is_whole c.args.connection.schema good.tables_there))

pub returns-in-Partial-clause-why : goal.returns-in-Partial-clause-why
returns-in-Partial-clause-why g c = λ usable good own. absurd (partial_whole (c.in-Partial.ensures.whole.1 (store_is_whole c.args.connection.schema good.tables_there)))

pub returns-in-Err-inspect-clause-why : goal.returns-in-Err-inspect-clause-why
returns-in-Err-inspect-clause-why g c = λ usable good own. elim (c.in-Err-inspect.ensures.why usable.0 usable.1 good own) [ inl memory ↦ inl (c.from.ensures.2 memory) | inr fault ↦ inr fault ]

pub returns-in-None-clause-why : goal.returns-in-None-clause-why
returns-in-None-clause-why g c = λ usable good own.
    let n : to_z w64 (of_z w64 c.in-Ok-inspect.number) ≡ c.in-Ok-inspect.number = search rules in
    no_clock c.in-Ok-inspect.form c.in-Ok-inspect.number c.in-Ok-inspect.ensures.clock (rw n at c.in-None.ensures)

-- a new store is healthy

pub returns-in-Some-clause-healthy : goal.returns-in-Some-clause-healthy
returns-in-Some-clause-healthy g c = λ usable empty. absurd (not_both_ways c.args.connection.schema (missing_in _ empty) (c.in-Whole.ensures.whole.0 refl))

-- ---- why a new store is refused

pub returns-in-Partial-clause-why_new : goal.returns-in-Partial-clause-why_new
returns-in-Partial-clause-why_new g c = λ usable empty. absurd (partial_missing (c.in-Partial.ensures.missing.1 (missing_in _ empty)))

pub returns-in-Err-inspect-clause-why_new : goal.returns-in-Err-inspect-clause-why_new
returns-in-Err-inspect-clause-why_new g c = λ usable empty. absurd (not_both_ways c.args.connection.schema (missing_in _ empty) (c.in-Whole.ensures.whole.0 refl))

pub returns-in-None-clause-why_new : goal.returns-in-None-clause-why_new
returns-in-None-clause-why_new g c = λ usable empty. absurd (not_both_ways c.args.connection.schema (missing_in _ empty) (c.in-Whole.ensures.whole.0 refl))
