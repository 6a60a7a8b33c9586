use Rattle.std.proofs.Common.{ℕ, List, map, subst, sym}
use Rattle.std.specs.Prelude.{Contains}
use Rattle.std.proofs.lemmas.List.Elements.{All-push, Contains-push}
use Rattle.period_core.specs.declared.version.VersionRow.{VersionRow}
use Rattle.period_keys.specs.declared.secondary_index.SecondaryIndex.{SecondaryIndex}
use Rattle.period_keys.specs.Secondary.{HasEntries, HaveEntries}
use Rattle.period_keys.proofs.Members.{in_map}
use Rattle.period_keys.proofs.secondary_index.add_index.Goals as goal

abbrev positions_of : SecondaryIndex → List ℕ
positions_of index = index.positions

pub returns-clause-there : goal.returns-clause-there
returns-clause-there c =
    let index : SecondaryIndex = c.in_ok-of.field-0 in
    subst (Contains (map positions_of c.push.new.self.items)) c.in_ok-of.ensures.positions (in_map positions_of c.push.new.self.items index (subst (λ (indexes : List SecondaryIndex). Contains indexes index) (sym c.in_ok-push.ensures.items) (Contains-push c.args.indexes.now.items index)))

pub returns-clause-kept : goal.returns-clause-kept
returns-clause-kept c = λ have.
    let key : List ℕ = c.args.current.now.positions in
    let rows : List VersionRow = c.args.current.now.rows in
    subst (HaveEntries key rows) (sym c.in_ok-push.ensures.items) (All-push (HasEntries key rows) c.args.indexes.now.items c.in_ok-of.field-0 have c.in_ok-of.ensures.entries)
