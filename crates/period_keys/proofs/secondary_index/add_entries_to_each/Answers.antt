use Rattle.std.proofs.Common.{◌≡◌, ◌<◌, ◌∙◌, ℕ, List, arith, get_or, length, set}
use Rattle.std.proofs.lemmas.List.{length-set}
use Rattle.period_keys.specs.declared.secondary_index.SecondaryIndex.{SecondaryIndex}
use Rattle.period_keys.proofs.EntryKeys.{added_more, begun_added, more_kept, more_set}
use Rattle.period_keys.proofs.secondary_index.add_entries_to_each.Goals as goal

pub returns-in_err-add_each-clause-kept : goal.returns-in_err-add_each-clause-kept
returns-in_err-add_each-clause-kept c = λ key before have.
    let old : List SecondaryIndex = c.args.indexes.now in
    let now : List SecondaryIndex = c.loop-i.indexes in
    let i : ℕ = c.loop-i.i in
    let w : SecondaryIndex = c.add_each.new.self in
    let inv = c.loop-i.invariant in
    let inside : i < length now = omega arith in
    more_kept key before old (set now i w) (length-set now i w ∙ inv.size) (more_set old now i c.index-indexes-i.result w inv.size inside c.add_each.ensures.more inv.more) have

pub loop-i-preserved : goal.loop-i-preserved
loop-i-preserved c =
    let old : List SecondaryIndex = c.args.indexes.now in
    let now : List SecondaryIndex = c.loop-i.indexes in
    let i : ℕ = c.loop-i.i in
    let w : SecondaryIndex = c.add_each.new.self in
    let inv = c.loop-i.invariant in
    let inside : i < length now = omega arith in
    record {
      size = length-set now i w ∙ inv.size;
      more = more_set old now i c.index-indexes-i.result w inv.size inside c.add_each.ensures.more inv.more;
      added = added_more c.args.rows.now old now i c.index-indexes-i.result w inv.size inside inv.more c.in_ok-add_each.ensures.added inv.added;
    }

pub returns-clause-kept : goal.returns-clause-kept
returns-clause-kept c = λ key before have. more_kept key before c.args.indexes.now c.loop-i.indexes c.loop-i.invariant.size c.loop-i.invariant.more have

pub returns-clause-ok : goal.returns-clause-ok
returns-clause-ok c = λ key before moment have k d below.
    let old : List SecondaryIndex = c.args.indexes.now in
    let inv = c.loop-i.invariant in
    let size : length c.loop-i.indexes ≡ length old = inv.size in
    let inside : k < length old = omega (arith, size, below) in
    let first : k < c.loop-i.i = omega (arith, size, below) in
    begun_added key c.args.rows.now before moment (get_or old k d) (get_or c.loop-i.indexes k d) (inv.more k d inside) (have k d inside) (inv.added k d first)
