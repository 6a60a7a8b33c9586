use Rattle.std.proofs.Common.{◌≡◌, ◌∙◌, SFits, ap, of_z, rules, subst, to_z, to_z-of_z, w32, w64}
use Rattle.md5.specs.Md5.{Holds}
use Rattle.period_core.specs.Encoding.{encoded}
use Rattle.history_sums.proofs.SumFacts.{version-joined}
use Rattle.history_sums.proofs.pieces.add_version.Goals as goal

pub returns : goal.returns
returns c bytes held =
    let all = c.add_number-4.ensures _ (c.add_number-3.ensures _ (c.add_number-2.ensures _ (c.add_number.ensures _ (c.add_counted.ensures bytes held)))) in
    let whole = subst (Holds c.add_number-4.new.sum) (version-joined bytes _ _ _ _ _) all in
    let values : c.as_slice-2.result.now ≡ encoded c.args.version.now.values = c.as_slice-2.ensures.value ∙ c.in_ok-values.ensures.bytes ∙ ap encoded c.as_slice.ensures in
    let first : SFits w64 c.from.result = search rules in
    let first_day : SFits w32 c.number.result = search rules in
    let last : SFits w64 c.from-2.result = search rules in
    let last_day : SFits w32 c.number-2.result = search rules in
    let start : to_z w64 (of_z w64 c.from.result) ≡ c.args.version.now.period.start = to_z-of_z first ∙ c.from.ensures ∙ to_z-of_z first_day ∙ c.number.ensures.value in
    let end : to_z w64 (of_z w64 c.from-2.result) ≡ c.args.version.now.period.end = to_z-of_z last ∙ c.from-2.ensures ∙ to_z-of_z last_day ∙ c.number-2.ensures.value in
    let begun : SFits w64 c.number-3.result = search rules in
    let ended : SFits w64 c.number-4.result = search rules in
    let from : to_z w64 (of_z w64 c.number-3.result) ≡ c.args.version.now.from = to_z-of_z begun ∙ c.number-3.ensures.value in
    let to : to_z w64 (of_z w64 c.number-4.result) ≡ c.args.version.now.to = to_z-of_z ended ∙ c.number-4.ensures.value in
    rw (values, start, end, from, to) at whole
