-- Version rows as the query shows them: in the order of their values, each read back as itself.
use Rattle.std.proofs.Common.{◌≡◌, ◌+◌, List, [], ◌∷◌, map, filter, get_or, Bool, true, false, cond, refl, sym, ap, subst₂, ◌∙◌, arith}
use Rattle.std.specs.Prelude.{IsSorted}
use Rattle.std.specs.List.{All, AllByRecursion}
use Rattle.std.specs.Ordering.{int_cmp, is_lt, ordering_then}
use Rattle.std.proofs.Math.ListN.{get_or-map}
use Rattle.std.proofs.lemmas.List.{length-map}
use Rattle.sqlite_trees.proofs.ListLemmas.{all-get_or}
use Rattle.period_core.specs.Encoding.{IsColumnValue, encoded}
use Rattle.period_core.proofs.EncodingOrder.{keeps_order, reads_back}
use Rattle.period_core.specs.declared.version.VersionRow.{VersionRow}
use Rattle.version_tables.specs.Forms.{end_in, moment_in}
use Rattle.version_tables.specs.Represents.{shown}
use Rattle.version_tables.specs.Represents as raw
use Rattle.version_store.specs.Contents.{HaveColumnValues, TableVersion, version_cmp, version_in}
use Rattle.version_tables.specs.declared.form.Form.{Form}
use Rattle.version_store.specs.Units.{version_of}
use Rattle.version_store.specs.Written.{written_version}

-- all that a filter keeps passes its test
pub passes : {A : Type 0} (p : A → Bool) (xs : List A) → AllByRecursion (λ x. p x ≡ true) (filter p xs)
passes p [] = tt
passes p (x ∷ xs) = go (p x) refl (passes p xs)
  where
    go : (b : Bool) → p x ≡ b → AllByRecursion (λ x. p x ≡ true) (filter p xs) → AllByRecursion (λ x. p x ≡ true) (cond b (x ∷ filter p xs) (filter p xs))
    go true e more = (e, more)
    go false e more = more

-- a row shows one version of a table
pub same_row : (form : Form) (v w : TableVersion) (read : VersionRow) → All IsColumnValue v.values → All IsColumnValue read.values → shown (written_version v) ≡ shown (written_version w) → version_in w.table read ≡ version_of form w
    → version_in v.table read ≡ version_of form v
same_row form v w read hv hr e is =
    let bytes : encoded w.values ≡ encoded v.values = cc in
    let values : read.values ≡ v.values = reads_back read.values v.values hr hv (ap (λ (t : TableVersion). encoded t.values) is ∙ bytes) in
    let s : w.start ≡ v.start = cc in
    let d : w.end ≡ v.end = cc in
    let f : w.from ≡ v.from = cc in
    let z : w.to ≡ v.to = cc in
    let start : read.period.start ≡ v.start = ap (λ (t : TableVersion). t.start) is ∙ s in
    let end : read.period.end ≡ v.end = ap (λ (t : TableVersion). t.end) is ∙ d in
    let from : read.from ≡ moment_in form v.from = ap (λ (t : TableVersion). t.from) is ∙ ap (moment_in form) f in
    let to : read.to ≡ end_in form v.to = ap (λ (t : TableVersion). t.to) is ∙ ap (end_in form) z in
    rw (values, start, end, from, to) refl

cmp_same : (a b : TableVersion) → All IsColumnValue a.values → All IsColumnValue b.values → raw.version_cmp (written_version a) (written_version b) ≡ version_cmp a b
cmp_same a b ha hb = ap (λ o. ordering_then o (ordering_then (int_cmp a.start b.start) (int_cmp a.from b.from))) (keeps_order a.values b.values ha hb)

pub sorted_values : (xs : List TableVersion) → HaveColumnValues xs → IsSorted raw.version_cmp (map written_version xs) → IsSorted version_cmp xs
sorted_values xs held h k e low high =
    let long = length-map xs written_version in
    let first = all-get_or (λ (v : TableVersion). All IsColumnValue v.values) xs k e held (omega arith) in
    let second = all-get_or (λ (v : TableVersion). All IsColumnValue v.values) xs (k + 1) e held high in
    let top = get_or-map written_version xs (k + 1) e in
    let below = get_or-map written_version xs k e in
    let ordered : is_lt (raw.version_cmp (get_or (map written_version xs) (k + 1) (written_version e)) (get_or (map written_version xs) k (written_version e))) ≡ false = h k (written_version e) low (omega arith) in
    sym (ap is_lt (cmp_same (get_or xs (k + 1) e) (get_or xs k e) second first)) ∙ subst₂ (λ a b. is_lt (raw.version_cmp a b) ≡ false) top below ordered
