-- The declared columns of a table that is seen, in a loop by place.
use Rattle.std.proofs.Common.{◌≡◌, ◌<◌, ◌≤◌, ◌+◌, ◌++◌, ◌∷◌, ◌∙◌, ℕ, List, [], Some, None, append_assoc, get_or, take, length, map, sym, ap}
use Rattle.std.specs.List.{enumerate_from}
use Rattle.std.proofs.lemmas.List.{append-nil, map_push, take_more}
use Rattle.catalog_core.proofs.lemmas.table.Numbered.{numbered_all, numbered_at, numbered_within}
use Rattle.statement_resolution.specs.query.Scopes.{SeenColumn, declared_columns}
use Rattle.std.specs.Option.{option_and_then}
use Rattle.catalog_core.specs.table.Naming.{Name}
use Rattle.catalog_core.specs.table.TableWords.{number_of, table_of, table_of_name}
use Rattle.catalog_core.specs.declared.table.Column.{Column}
use Rattle.catalog_core.specs.declared.table.TableDef.{TableDef}

-- a declared column as it is seen
abbrev pub seen_as : Name → TableDef → ℕ × Column → SeenColumn
seen_as known t c = record { known_as = known; table = t; place = c.0; column = c.1 }

-- the columns that are seen among the first ones of a table
abbrev pub seen_front : Name → TableDef → List Column → ℕ → List SeenColumn
seen_front known t xs i = map (seen_as known t) (take i (enumerate_from 0 xs))

pub front_more : (known : Name) (t : TableDef) (xs : List Column) (i : ℕ) (x : Column) (old before after : List SeenColumn)
    → i < length xs → x ≡ get_or xs i x → before ≡ old ++ seen_front known t xs i → after ≡ before ++ seen_as known t (i, x) ∷ []
    → after ≡ old ++ seen_front known t xs (i + 1)
front_more known t xs i x old before after here item same next =
    let f : ℕ × Column → SeenColumn = seen_as known t in
    let longer : seen_front known t xs (i + 1) ≡ seen_front known t xs i ++ f (i, x) ∷ [] =
    ap (map f) (take_more (enumerate_from 0 xs) i (i, x) (numbered_within xs i here))
    ∙ map_push f (take i (enumerate_from 0 xs)) (get_or (enumerate_from 0 xs) i (i, x))
    ∙ ap (λ (c : ℕ × Column). seen_front known t xs i ++ f c ∷ []) (numbered_at xs i x here item) in
    next ∙ ap (λ (cs : List SeenColumn). cs ++ f (i, x) ∷ []) same
    ∙ append_assoc old (seen_front known t xs i) (f (i, x) ∷ [])
    ∙ ap (λ (cs : List SeenColumn). old ++ cs) (sym longer)

pub front_end : (known : Name) (t : TableDef) (xs : List Column) (i : ℕ) (old now : List SeenColumn)
    → length xs ≤ i → xs ≡ t.columns → now ≡ old ++ seen_front known t xs i → now ≡ old ++ declared_columns known (Some t)
front_end known t xs i old now done same before =
    before
    ∙ ap (λ (cs : List (ℕ × Column)). old ++ map (seen_as known t) cs) (numbered_all xs i done)
    ∙ ap (λ (ys : List Column). old ++ map (seen_as known t) (enumerate_from 0 ys)) same

pub front_none : (known : Name) (old : List SeenColumn) → old ≡ old ++ declared_columns known None
front_none known old = sym (append-nil old)

pub not_there : (catalog : List TableDef) (name : Name) → number_of catalog name ≡ None → table_of_name catalog name ≡ None
unfolding table_of_name
not_there catalog name none = ap (option_and_then (table_of catalog)) none
