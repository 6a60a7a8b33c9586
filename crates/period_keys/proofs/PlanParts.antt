-- Plans over lists one after another, and of a change that touches rows of one key alone.
use Rattle.std.proofs.Common.{◌≡◌, ◌++◌, ◌∷◌, [], ◌∙◌, Bool, true, false, cond, List, map, not, refl, sym, ap, append-nil}
use Rattle.std.specs.Prelude.{IfOk, Result, Ok, Err}
use Rattle.std.specs.List.{filter, flat_map}
use Rattle.std.proofs.lemmas.List.{map-append}
use Rattle.std.proofs.lemmas.List.Concat.{flat_map-append}
use Rattle.std.proofs.lemmas.List.Elements.{filter-append}
use Rattle.std.proofs.lemmas.List.Sorted.{IsPermutation-filter_both}
use Rattle.period_core.specs.declared.version.VersionRow.{VersionRow}
use Rattle.catalog_core.specs.declared.change.Action.{Action}
use Rattle.catalog_core.specs.declared.change.Plan.{Plan}
use Rattle.catalog_core.specs.declared.change.InsertedRow.{InsertedRow}
use Rattle.history_model.specs.Effects.{inserted_by}
use Rattle.history_model.specs.Portions.{PlainRow, added, plain_given, plain_row, replacements, touches}
use Rattle.portion_dml.specs.Plans.{Plans, version_row}
use Rattle.period_keys.specs.Planned.{IsPlanOf}

abbrev pub touched : Action → VersionRow → Bool
touched action v = touches action (version_row v)

abbrev pub joined : Plan → Plan → Plan
joined p q = record { ended = p.ended ++ q.ended; added = p.added ++ q.added }

-- the rows that an action adds that gives none
added_by : (action : Action) (rows : List PlainRow) → inserted_by action ≡ [] → added action rows ≡ flat_map (replacements action) rows
added_by action rows none = ap (λ (given : List InsertedRow). map plain_given given ++ flat_map (replacements action) rows) none

-- the plans of two lists, joined, are the plan of both together
pub plans_joined : (action : Action) (xs ys : List VersionRow) (p q : Plan) → inserted_by action ≡ [] → Plans action xs p → Plans action ys q → Plans action (xs ++ ys) (joined p q)
plans_joined action xs ys p q none first second = record {
  ended = ap (λ (l : List VersionRow). l ++ q.ended) first.ended ∙ ap (λ (l : List VersionRow). filter (touched action) xs ++ l) second.ended ∙ sym (filter-append (touched action) xs ys);
  added =
      let f : List PlainRow → List PlainRow = flat_map (replacements action) in
      map-append plain_row p.added q.added
      ∙ ap (λ (l : List PlainRow). l ++ map plain_row q.added) (first.added ∙ added_by action (map version_row p.ended) none)
      ∙ ap (λ (l : List PlainRow). f (map version_row p.ended) ++ l) (second.added ∙ added_by action (map version_row q.ended) none)
      ∙ sym (flat_map-append (replacements action) (map version_row p.ended) (map version_row q.ended))
      ∙ ap f (sym (map-append version_row p.ended q.ended))
      ∙ sym (added_by action (map version_row (p.ended ++ q.ended)) none);
}

pub plans_nothing : (action : Action) → inserted_by action ≡ [] → Plans action [] (record { ended = []; added = [] })
plans_nothing action none = record { ended = refl; added = sym (added_by action [] none) }

-- rows that the action does not touch make no difference
pub plans_beside : (action : Action) (xs others : List VersionRow) (p : Plan) → filter (touched action) others ≡ [] → Plans action xs p → Plans action (xs ++ others) p
plans_beside action xs others p none plans = record {
  ended = plans.ended ∙ sym (filter-append (touched action) xs others ∙ ap (λ (l : List VersionRow). filter (touched action) xs ++ l) none ∙ append-nil (filter (touched action) xs));
  added = plans.added;
}

-- no row that a test keeps is touched
none_kept : (action : Action) (test : VersionRow → Bool) (rows : List VersionRow) → ((v : VersionRow) → touched action v ≡ true → test v ≡ false) → filter (touched action) (filter test rows) ≡ []
none_kept action test [] h = refl
none_kept action test (v ∷ rows) h = by_test (none_kept action test rows h) (test v) (touched action v) refl refl
  where
    by_test : filter (touched action) (filter test rows) ≡ [] → (b t : Bool) → test v ≡ b → touched action v ≡ t → filter (touched action) (cond b (v ∷ filter test rows) (filter test rows)) ≡ []
    by_test rest false t e f = rest
    by_test rest true true e f = absurd (let off : test v ≡ false = h v f in cc)
    by_test rest true false e f = ap (λ u. cond u (v ∷ filter (touched action) (filter test rows)) (filter (touched action) (filter test rows))) f ∙ rest

-- if each touched row passes a test, the plan over those that pass it is a plan over all
pub plan_of_passing : (action : Action) (test : VersionRow → Bool) (rows : List VersionRow) (p : Plan) → ((v : VersionRow) → touched action v ≡ true → test v ≡ true)
    → Plans action (filter test rows) p → IsPlanOf action rows p
plan_of_passing action test rows p passes plans = record {
  listed = filter test rows ++ filter (λ (v : VersionRow). not (test v)) rows;
  are_rows = IsPermutation-filter_both test (λ (v : VersionRow). not (test v)) (λ v. refl) rows;
  plans = plans_beside action (filter test rows) (filter (λ (v : VersionRow). not (test v)) rows) p
      (none_kept action (λ (v : VersionRow). not (test v)) rows (λ v t. ap not (passes v t))) plans;
}

-- a weaker fact holds of an Ok too
pub if_ok : {X E : Type 0} (r : Result X E) (P Q : X → Type 0) → ((x : X) → P x → Q x) → IfOk r P → IfOk r Q
if_ok (Ok x) P Q f h = f x h
if_ok (Err e) P Q f h = h
