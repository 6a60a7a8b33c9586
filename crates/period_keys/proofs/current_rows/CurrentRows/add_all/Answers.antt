use Rattle.std.proofs.Common.{◌≡◌, ◌<◌, ◌++◌, ◌∷◌, [], ◌+◌, ◌∙◌, ℕ, List, length, take, get_or, map, sym, ap, subst, arith}
use Rattle.std.specs.Prelude.{IsPermutation}
use Rattle.std.proofs.lemmas.List.{map-append, take_more}
use Rattle.std.proofs.lemmas.List.Sorted.{IsPermutation-append_comm, IsPermutation-append_left, IsPermutation-cons, IsPermutation-trans}
use Rattle.period_core.specs.declared.row.PeriodRow.{PeriodRow}
use Rattle.period_core.specs.declared.version.VersionRow.{VersionRow}
use Rattle.period_keys.specs.Versions.{begun}
use Rattle.period_keys.proofs.current_rows.CurrentRows.add_all.Goals as goal

-- one more row of a list that is added
one_more : (f : PeriodRow → VersionRow) (rows : List PeriodRow) (i : ℕ) (row : PeriodRow) (old now new : List VersionRow) → i < length rows → row ≡ get_or rows i row
    → IsPermutation now (map f (take i rows) ++ old) → IsPermutation new (f row ∷ now) → IsPermutation new (map f (take (i + 1) rows) ++ old)
one_more f rows i row old now new below is so_far added =
    let done : List VersionRow = map f (take i rows) in
    let more : map f (take (i + 1) rows) ≡ done ++ f row ∷ [] = ap (map f) (take_more rows i row below ∙ ap (λ x. take i rows ++ x ∷ []) (sym is)) ∙ map-append f (take i rows) (row ∷ []) in
    subst (λ (xs : List VersionRow). IsPermutation new (xs ++ old)) (sym more)
    (IsPermutation-trans new (f row ∷ now) ((done ++ f row ∷ []) ++ old) added
    (IsPermutation-trans (f row ∷ now) (f row ∷ (done ++ old)) ((done ++ f row ∷ []) ++ old) (IsPermutation-cons (f row) now (done ++ old) so_far)
    (IsPermutation-append_left old (f row ∷ done) (done ++ f row ∷ []) (IsPermutation-append_comm (f row ∷ []) done))))

pub loop-i-preserved : goal.loop-i-preserved
loop-i-preserved c = record {
  same = c.in_default.ensures.ok.positions ∙ c.loop-i.invariant.same;
  more = one_more (begun c.args.moment) c.args.rows.now c.loop-i.i c.index-rows-i.result c.args.self.now.rows c.loop-i.self.rows c.add_begun.new.self.rows (omega arith) c.index-rows-i.is c.loop-i.invariant.more c.in_default.ensures.ok.rows;
}
