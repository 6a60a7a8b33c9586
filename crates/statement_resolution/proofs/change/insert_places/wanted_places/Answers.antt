use Rattle.std.proofs.Common.{◌≡◌, ◌<◌, ◌++◌, ◌∷◌, ◌∙◌, ℕ, Bool, true, false, not, List, [], Option, Some, ap, filter, get_or, length, map, subst, sym, take, take_all}
use Rattle.std.proofs.lemmas.List.{map-append}
use Rattle.catalog_core.proofs.lemmas.table.Distinct.{its_place}
use Rattle.catalog_core.proofs.lemmas.lists.Kept.{named_with, named_without}
use Rattle.statement_resolution.specs.change.Insertion.{wanted_names}
use Rattle.catalog_core.specs.table.Naming.{Name}
use Rattle.catalog_core.specs.table.TableWords.{def_place, is_system}
use Rattle.catalog_core.specs.declared.table.Column.{Column}
use Rattle.statement_resolution.proofs.change.insert_places.wanted_places.Goals as goal
use Rattle.statement_resolution.proofs.change.insert_places.wanted_places.Goals.{then-not-is_system+in_ok-push, else-not-is_system}

pub loop-i-preserved : goal.loop-i-preserved
loop-i-preserved c =
    let t = c.args.table.now in
    let xs = c.as_slice-columns.result.now in
    let x = c.index-columns-i.result in
    let i = c.loop-i.i in
    let p : Column → Bool = λ y. not (is_system y.kind) in
    let name : Column → Name = λ y. y.name in
    let some : ℕ → Option ℕ = λ k. Some k in
    let named : List Name = map name (filter p (take i xs)) in
    let here : i < length t.columns = subst (λ (ys : List Column). i < length ys) c.as_slice-columns.ensures c.loop-i-test.true in
    let item : x ≡ get_or t.columns i x = subst (λ (ys : List Column). x ≡ get_or ys i x) c.as_slice-columns.ensures c.index-columns-i.is in
    elim c.if-not-is_system.branch [
      | then-not-is_system+in_ok-push w ↦
          (let wanted : p x ≡ true = ap p c.index-columns-i.is ∙ ap not (sym c.is_system.ensures ∙ w.if-not-is_system.true) in
          ap (map (def_place t)) (named_with p name xs i x c.loop-i-test.true c.index-columns-i.is wanted)
          ∙ map-append (def_place t) named (x.name ∷ [])
          ∙ ap (λ (o : Option ℕ). map (def_place t) named ++ o ∷ []) (its_place t i x c.requires here item)
          ∙ ap (λ (os : List (Option ℕ)). os ++ Some i ∷ []) c.loop-i.invariant
          ∙ sym (map-append some c.loop-i.places.items (i ∷ []))
          ∙ sym (ap (map some) w.in_ok-push.ensures.items)
          ∙ sym (ap (map some) (ap (λ v. v.items) w.places-is)))
      | else-not-is_system w ↦
          (let other : p x ≡ false = ap p c.index-columns-i.is ∙ ap not (sym c.is_system.ensures ∙ w.if-not-is_system.false) in
          ap (map (def_place t)) (named_without p name xs i x c.loop-i-test.true c.index-columns-i.is other)
          ∙ c.loop-i.invariant ∙ ap (map some) (sym (ap (λ v. v.items) w.places-is)))
    ]

pub returns : goal.returns
unfolding wanted_names
returns c =
    let names : List Column → List Name = λ ys. map (λ (y : Column). y.name) (filter (λ (y : Column). not (is_system y.kind)) ys) in
    ap (λ (ys : List Column). map (def_place c.args.table.now) (names ys)) (sym c.as_slice-columns.ensures ∙ sym (take_all c.loop-i.i c.as_slice-columns.result.now c.loop-i-test.false))
    ∙ c.loop-i.invariant
