use Rattle.std.proofs.Common.{◌≡◌, ◌≢◌, ◌<◌, ◌++◌, ◌∷◌, [], ◌∙◌, ℕ, List, ap, arith, get_or, get_or-set_other, length, map, sym, take}
use Rattle.std.proofs.lemmas.List.{map_push, take_all, take_more, take_more_set}
use Rattle.ended_versions.specs.Found.{first_chained}
use Rattle.ended_versions.specs.declared.chained_values.ChainedValues.{ChainedValues}
use Rattle.ended_versions.proofs.list.truncate_each.Goals as goal

pub loop-chained-preserved : goal.loop-chained-preserved
loop-chained-preserved c =
    let first : ChainedValues → ChainedValues = first_chained c.args.count in
    let cs : List ChainedValues = c.loop-chained.chained in
    let old : List ChainedValues = c.args.chained.now in
    let i : ℕ = c.loop-chained.chained-index in
    let below : i < length cs = omega arith in
    let inside : i < length old = omega arith in
    let item : ChainedValues = c.chained-item.result in
    let its : item ≡ get_or old i item = c.chained-item.is ∙ c.loop-chained.invariant.rest i item (omega arith) in
    record {
      done =
          take_more_set cs i c.truncate.new.self below
          ∙ (ap (λ (l : List ChainedValues). l ++ c.truncate.new.self ∷ []) c.loop-chained.invariant.done
          ∙ (ap (λ (one : ChainedValues). map first (take i old) ++ one ∷ []) (c.truncate.ensures ∙ ap first (sym c.chained-item.is ∙ its))
          ∙ (sym (map_push first (take i old) (get_or old i item)) ∙ ap (map first) (sym (take_more old i item inside)))));
      rest = λ k d from. let other : k ≢ i = omega arith in get_or-set_other cs i k c.truncate.new.self d other ∙ c.loop-chained.invariant.rest k d (omega arith);
    }

pub returns : goal.returns
returns c =
    let cs : List ChainedValues = c.loop-chained.chained in
    let old : List ChainedValues = c.args.chained.now in
    sym (take_all c.loop-chained.chained-index cs (omega arith))
    ∙ (c.loop-chained.invariant.done ∙ ap (map (first_chained c.args.count)) (take_all c.loop-chained.chained-index old (omega arith)))
