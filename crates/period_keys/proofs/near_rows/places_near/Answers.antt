use Rattle.std.proofs.Common.{◌≡◌, ◌+◌, take, sym, subst, inl, inr, arith}
use Rattle.std.specs.List.{Any, Contains}
use Rattle.std.proofs.lemmas.List.{take_all}
use Rattle.std.proofs.lemmas.List.Sorted.{Contains-permutation}
use Rattle.period_keys.specs.declared.block.Block.{Block}
use Rattle.period_keys.proofs.Blocks.{taken}
use Rattle.period_keys.proofs.Members.{Any-nil, member_of, some_member}
use Rattle.period_keys.proofs.near_rows.places_near.Goals as goal

pub loop-block-init : goal.loop-block-init
loop-block-init c = λ item there near. absurd (Any-nil (λ (block : Block). Contains block.items.items item) there)

pub loop-block-preserved : goal.loop-block-preserved
loop-block-preserved c = λ item there near.
    let P : Block → Type 0 = λ block. Contains block.items.items item in
    let (block, in_taken, has) = member_of P (take (c.loop-block.block-index + 1) c.args.blocks.now) there in
    elim (taken c.args.blocks.now c.loop-block.block-index c.block-item.result block (omega arith) c.block-item.is in_taken) [
      | inl before ↦ c.in_ok-push_places.ensures.kept item.place (c.loop-block.invariant item (some_member P (take c.loop-block.block-index c.args.blocks.now) block before has) near)
      | inr is ↦ c.in_ok-push_places.ensures.all item (subst P (sym is) has) near
    ]

pub returns-clause-all : goal.returns-clause-all
returns-clause-all c = λ item there near.
    let all : take c.loop-block.block-index c.args.blocks.now ≡ c.args.blocks.now = take_all _ _ (omega arith) in
    Contains-permutation c.loop-block.places.items c.sort.new.self.items item.place c.sort.ensures.permutation
    (c.loop-block.invariant item (subst (Any (λ (block : Block). Contains block.items.items item)) (sym all) there) near)
