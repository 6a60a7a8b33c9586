use Rattle.std.proofs.Common.{◌≡◌, ◌-◌, ℕ, suc, List, Some, arith, length, refl, set, subst}
use Rattle.std.specs.Prelude.{OnOk}
use Rattle.std.specs.List.{slice_get}
use Rattle.std.proofs.lemmas.Option.{slice_get_read}
use Rattle.std.proofs.lemmas.Result.{on_ok_weaker}
use Rattle.period_core.specs.declared.version.VersionRow.{VersionRow}
use Rattle.version_store.specs.Contents.{HasMore}
use Rattle.version_store.proofs.ReadRows.{has_more}
use Rattle.version_store.proofs.row_checks.push_row.Goals as goal

pub returns : goal.returns
returns c =
    let ls : List (List VersionRow) = c.args.lists.now.items in
    let place : ℕ = c.from.result - 1 in
    let old : List VersionRow = c.in-Some.list.now in
    let new : List VersionRow = c.push.new.self in
    let item = c.in-Some.ensures.item in
    let there : slice_get ls place ≡ Some old = slice_get_read ls (length ls) place old refl item.3.0 item.1 in
    let is = c.from.ensures in
    let number : suc place ≡ c.args.number = omega (arith, is, c.requires.0) in
    subst (λ (n : ℕ). OnOk c.push.result (HasMore n c.args.row ls (set ls place new))) number
    (on_ok_weaker c.push.result (λ made. has_more ls place old new c.args.row there made) c.push.ensures.ok)
