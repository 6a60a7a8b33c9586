use Rattle.std.proofs.Common.{◌≡◌, ◌+◌, ◌++◌, ◌∷◌, ◌∙◌, [], ℕ, List, ap, append-nil, append_assoc, arith, drop, length, sym}
use Rattle.std.proofs.lemmas.List.{drop_all, drop_more}
use Rattle.catalog_core.specs.declared.query.resolved.QueryReference.{QueryReference}
use Rattle.script_engine.specs.engine.Needed.{starts_from}
use Rattle.script_engine.proofs.engine.read_lists.starts_of.Goals as goal

pub loop-reference-init : goal.loop-reference-init
loop-reference-init c = record {
  starts = ap (λ (l : List ℕ). l ++ starts_from 0 c.args.references.now) c.new-starts.ensures.items;
}

pub loop-reference-preserved : goal.loop-reference-preserved
loop-reference-preserved c =
    let references : List QueryReference = c.args.references.now in
    let place = c.loop-reference.reference-index in
    let reference : QueryReference = c.reference-item.result in
    let start = c.loop-reference.start in
    let old : List ℕ = c.loop-reference.starts.items in
    let more : List QueryReference = drop (place + 1) references in
    let next_is : start + length reference.kinds ≡ c.in-Some.next = (let is = c.in-Some.ensures in let long = c.len.ensures in omega (arith, is, long)) in
    record {
      starts = ap (λ (l : List ℕ). l ++ starts_from c.in-Some.next more) c.in_ok-push.ensures.items ∙ append_assoc old (start ∷ []) (starts_from c.in-Some.next more)
          ∙ ap (λ (next : ℕ). old ++ start ∷ starts_from next more) (sym next_is)
          ∙ ap (λ (rest : List QueryReference). old ++ starts_from start rest) (sym (drop_more references place reference c.loop-reference-test.true ∙ ap (λ (r : QueryReference). r ∷ more) (sym c.reference-item.is)))
          ∙ c.loop-reference.invariant.starts;
    }

pub returns : goal.returns
returns c =
    let references : List QueryReference = c.args.references.now in
    let starts : List ℕ = c.loop-reference.starts.items in
    sym (append-nil starts)
    ∙ ap (λ (rest : List QueryReference). starts ++ starts_from c.loop-reference.start rest) (sym (drop_all c.loop-reference.reference-index references c.loop-reference-test.false))
    ∙ c.loop-reference.invariant.starts
