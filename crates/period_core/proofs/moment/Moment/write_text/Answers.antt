use Rattle.std.proofs.Common.{◌≡◌, ◌∙◌, sym, ap, subst, length, take, ℕ, ◌%◌, List}
use Rattle.std.proofs.lemmas.List.{drop_at, take_at}
use Rattle.period_core.specs.Moments.{IsMomentText, moment_text}
use Rattle.period_core.proofs.MomentFacts.{Cut, cut-other, cut-zero, written-is-text}
use Rattle.period_core.proofs.moment.Moment.write_text.Goals as goal
use Rattle.period_core.proofs.moment.Moment.write_text.Goals.{then-count_before-eq0, else-count_before-eq0}

-- the text is cut where its length says
cut : (c : goal.After-copy_from_slice) → Cut c.args.self c.if-count_before-eq0.length
cut c =
    let k = c.count_before.result in
    let is = ap (λ (n : ℕ). n % 1000000) c.count_before.ensures.value in
    elim c.if-count_before-eq0.branch [
      | then-count_before-eq0 w ↦ cut-zero c.args.self _ (k % 1000000) is w.if-count_before-eq0.true w.length-is
      | else-count_before-eq0 w ↦ cut-other c.args.self _ (k % 1000000) is w.if-count_before-eq0.false w.length-is
    ]

-- the copied bytes are the text that is written
copied : (c : goal.After-copy_from_slice) → c.copy_from_slice.new.self ≡ moment_text c.args.self
copied c =
    let len = c.if-count_before-eq0.length in
    c.copy_from_slice.ensures.after ∙ ap (λ (full : List ℕ). take len full) c.full_text-full.ensures.text ∙ (cut c).text

pub returns : goal.returns
returns c =
    let n = c.args.self in
    let text = copied c in
    let long = (cut c).long in
    let count = ap length text ∙ sym long in
    let shown = take_at c.copy_from_slice.new.self _ _ count ∙ text in
    record {
      length = long;
      text = shown;
      rest = drop_at c.copy_from_slice.new.self _ _ count;
      moment = subst (IsMomentText n) (sym shown) (written-is-text n c.count_before.ensures.in_range c.full_text-full.ensures.day);
    }
