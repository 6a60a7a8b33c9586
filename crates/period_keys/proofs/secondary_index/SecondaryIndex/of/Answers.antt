use Rattle.std.proofs.Common.{◌≡◌, ◌++◌, ◌∙◌, ℕ, List, append_assoc, append-nil, ap, subst, sym}
use Rattle.std.specs.List.{Contains}
use Rattle.period_core.specs.declared.version.VersionRow.{VersionRow}
use Rattle.period_keys.specs.Rows.{rows_of_lists}
use Rattle.period_keys.proofs.EntryKeys.{seen_both}
use Rattle.period_keys.proofs.secondary_index.SecondaryIndex.of.Goals as goal

pub loop-group-preserved : goal.loop-group-preserved
loop-group-preserved c =
    let inv = c.loop-group.invariant in
    let rows : List VersionRow = c.in-Some.group.now.rows.items in
    let left : rows_of_lists c.loop-group.group-iterator ≡ rows ++ rows_of_lists c.next.new.self = ap rows_of_lists c.in-Some.ensures.steps in
    record {
      positions = c.add_each.ensures.more.positions ∙ inv.positions;
      joined = c.add_each.ensures.more.entry_positions ∙ inv.joined;
      done = inv.done ++ rows;
      split = inv.split ∙ ap (λ (xs : List VersionRow). inv.done ++ xs) left ∙ sym (append_assoc inv.done rows (rows_of_lists c.next.new.self));
      seen = seen_both c.loop-group.index c.add_each.new.self inv.done c.as_slice.result.now rows c.add_each.ensures.more c.as_slice.ensures inv.seen c.in_ok-add_each.ensures.added;
    }

pub returns-clause-entries : goal.returns-clause-entries
returns-clause-entries c =
    let inv = c.loop-group.invariant in
    let all : c.args.current.now.rows ≡ inv.done = inv.split ∙ ap (λ (xs : List VersionRow). inv.done ++ xs) (ap rows_of_lists c.in-None.ensures.steps.0) ∙ append-nil inv.done in
    record {
      positions = inv.joined ∙ ap (λ (ps : List ℕ). ps ++ c.args.current.now.positions) (sym inv.positions);
      entries = λ v there. inv.seen v (subst (λ (vs : List VersionRow). Contains vs v) all there);
    }
