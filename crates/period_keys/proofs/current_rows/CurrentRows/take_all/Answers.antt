use Rattle.std.proofs.Common.{◌≡◌, ◌<◌, ◌++◌, [], ◌+◌, ◌∙◌, ℕ, List, length, drop, sym, ap, subst, arith}
use Rattle.std.specs.Prelude.{IsPermutation}
use Rattle.period_core.specs.declared.version.VersionRow.{VersionRow}
use Rattle.period_keys.specs.Versions.{version_key}
use Rattle.period_keys.proofs.Loops.{next_left, none_left, worked_at}
use Rattle.period_keys.proofs.current_rows.CurrentRows.take_all.Goals as goal

pub loop-i-preserved : goal.loop-i-preserved
loop-i-preserved c =
    let rows : List VersionRow = c.args.rows.now in
    let i : ℕ = c.loop-i.i in
    let row : VersionRow = c.index-rows-i.result in
    let below : i < length rows = c.loop-i-test.true in
    let own : c.index-keys-i.result ≡ version_key c.args.self.now.positions row =
    worked_at (version_key c.args.self.now.positions) c.args.keys.now rows i c.index-keys-i.result row c.requires below c.index-keys-i.is c.index-rows-i.is in
    let now_own : c.index-keys-i.result ≡ version_key c.loop-i.self.positions row = own ∙ ap (λ (ps : List ℕ). version_key ps row) (sym c.loop-i.invariant.same) in
    record {
      same = c.remove_version.ensures.same ∙ c.loop-i.invariant.same;
      left = λ rest moved.
          c.remove_version.ensures.rows (drop (i + 1) rows ++ rest) now_own
          (subst (λ (xs : List VersionRow). IsPermutation c.loop-i.self.rows (xs ++ rest)) (next_left rows i row below c.index-rows-i.is) (c.loop-i.invariant.left rest moved));
    }

pub returns-clause-rows : goal.returns-clause-rows
returns-clause-rows c = λ rest moved.
    let rows : List VersionRow = c.args.rows.now in
    let none : drop c.loop-i.i rows ≡ [] = none_left rows c.loop-i.i (omega arith) in
    subst (λ (xs : List VersionRow). IsPermutation c.loop-i.self.rows (xs ++ rest)) none (c.loop-i.invariant.left rest moved)
