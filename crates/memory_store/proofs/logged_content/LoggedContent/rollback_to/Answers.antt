use Rattle.std.proofs.Common.{◌+◌, ◌-◌, ◌∙◌, ap, get_or, length, sym}
use Rattle.memory_store.specs.Content.{snapshot}
use Rattle.memory_store.specs.ContentStates.{before_all, marked, state_snapshot, state_of}
use Rattle.memory_store.proofs.Logs.{back_to, is_marked, undone_base, undone_marks, unmarked}
use Rattle.memory_store.proofs.logged_content.LoggedContent.rollback_to.Goals as goal

pub returns-clause-back : goal.returns-clause-back
returns-clause-back c =
    let s = c.args.self.now in
    ap state_snapshot c.undo_to.ensures.state ∙ sym (back_to s.log.items c.in-Some.at c.in-Some.ensures (state_of s.content) (snapshot s.content))

pub returns-clause-kept : goal.returns-clause-kept
returns-clause-kept c =
    let s = c.args.self.now in
    let to = c.undo_to.ensures in
    record {
      base = (λ i. before_all (to.log i) (to.state i)) ∙ undone_base s.log.items (c.in-Some.at + 1) (state_of s.content);
      marks = (λ i. marked (to.log i) (to.state i)) ∙ undone_marks s.log.items (c.in-Some.at + 1) (state_of s.content) c.in-Some.ensures.newest;
    }

pub returns-in_default-clause-back : goal.returns-in_default-clause-back
returns-in_default-clause-back c =
    let s = c.args.self.now in
    let none = unmarked s.log.items (state_of s.content) c.in_default.ensures in
    sym (ap (λ ms. get_or ms (length ms - 1) (snapshot s.content)) none)

pub returns-clause-none : goal.returns-clause-none
returns-clause-none c = λ none.
    let s = c.args.self.now in
    absurd (is_marked s.log.items c.in-Some.at c.in-Some.ensures (state_of s.content) none)
